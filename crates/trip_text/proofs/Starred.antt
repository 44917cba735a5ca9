-- A text and the same text with a star for each atom: both are read alike, but for the atoms' kinds and for places, unless something
-- is missing in the first or a branch is too many. Assumes nothing.
use Prim.Native.Nat.{ℕ, zero, suc, ◌+◌, ◌-◌, ◌≤◌, ◌<◌}
use mathlib.Core.Path.{◌≡◌, refl, ◌∙◌, ap}
use mathlib.Core.List.{List, [], ◌∷◌, ◌++◌, map}
use mathlib.Core.Bool.{Bool, true, false}
use native.Mathlib.Omega.{arith}
use lib.ListN.{length}
use lib.Dec.{eqb}
use Rattle.feature.specs.Pick.{pick}
use Rattle.feature.specs.Text.{byte, bytes}
use Rattle.feature.specs.Kinds.{in_range}
use Rattle.feature.specs.declared.atom_kind.AtomKind.{AtomKind}
use Rattle.feature.specs.declared.atom_kind.AtomKind.TheVariants.{Star, Aliphatic, Aromatic, Bracket}
use Rattle.feature.specs.declared.bond_kind.BondKind.{BondKind}
use Rattle.spell.specs.Spell.{bracket_text, kind_text, atom_text, bond_text, rnum_text}
use Rattle.survive.specs.Survive.{survives, can_follow}
use Rattle.survive.proofs.ReadBack.{text_of}
use Rattle.survive.proofs.Shift.{front}
use Rattle.survive.proofs.Somehow.{Somehow, atom, lacks, atom_somehow}
use Rattle.read_token.specs.declared.scanner.Missing.{Missing}
use Rattle.std.specs.Prelude.{Err, None, Ok, Some}
use Rattle.read_token.specs.Scan.{Found}
use Rattle.read_token.specs.Scan.{peek_at, atom_at, sign_kind, mark_width}
use Rattle.read_line.specs.declared.lead.Lead.{Lead}
use Rattle.read_line.specs.declared.lead.Lead.TheVariants.{Dot, Bond}
use Rattle.read_line.specs.Events.{ReadEvent, Enter, Join, Pop, Miss, Nest}
use Rattle.read_line.specs.Parse.{Rest, body_of, body_at, led_at, miss_p, found_p, atom_p, union_by, union_p, unit_by, unit_p, line_p, close_p, bodies}
use Rattle.trip_text.proofs.Stands.{Stands, after, next, apart, first}
use Rattle.trip_text.proofs.Heads.{Plain, plain, plain_long, atom_plain, rnum_plain, bond_follows}
use Rattle.trip_text.proofs.Marks.{leads}
use Rattle.trip_text.proofs.Bodies.{extend_read, join_read, split_read, branch_read, opened_read}
use Rattle.trip_text.proofs.Sense.{Fuelled}

-- ---- events
-- without kinds and places
unfoldable pub bare_event : ReadEvent → ReadEvent
bare_event (Enter l k p) = Enter l Star 0
bare_event (Join b n p) = Join b n 0
bare_event (Pop n) = Pop n
bare_event (Miss m) = Miss m
bare_event (Nest p) = Nest 0

-- such as end with something missing or a branch too many
pub data Lost : List ReadEvent → Type 0 where
  miss : (m : Missing) → Lost (Miss m ∷ [])
  nest : (p : ℕ) → Lost (Nest p ∷ [])
  more : (e : ReadEvent) {x : List ReadEvent} → Lost x → Lost (e ∷ x)

-- x, of the starred text, and y
pub data Alike (x y : List ReadEvent) : Type 0 where
  alike : map bare_event x ≡ map bare_event y → Alike x y
  lost : Lost y → Alike x y

alike_cons : (d e : ReadEvent) {x y : List ReadEvent} → bare_event d ≡ bare_event e → Alike x y → Alike (d ∷ x) (e ∷ y)
alike_cons d e {x} {y} q (alike p) =
    alike (ap (λ (z : ReadEvent). z ∷ map bare_event x) q ∙ ap (λ (l : List ReadEvent). bare_event e ∷ l) p)
alike_cons d e q (lost l) = lost (more e l)

-- ---- texts
-- the first is the second with a star for each atom
pub data Sub : List ℕ → List ℕ → Type 0 where
  none : Sub [] []
  single : (b : BondKind) (k : AtomKind) {t u : List ℕ} → in_range k ≡ true → Sub t u → Sub ((bond_text b ++ atom_text Star) ++ t) ((bond_text b ++ atom_text k) ++ u)
  dot : (k : AtomKind) {t u : List ℕ} → in_range k ≡ true → Sub t u → Sub ((bytes "." ++ atom_text Star) ++ t) ((bytes "." ++ atom_text k) ++ u)
  ring : (b : BondKind) (r : ℕ) {t u : List ℕ} → r ≤ 99 → Sub t u → Sub ((bond_text b ++ rnum_text r) ++ t) ((bond_text b ++ rnum_text r) ++ u)
  branch : (b : BondKind) (k : AtomKind) {t u : List ℕ} → in_range k ≡ true → Sub t u
      → Sub (byte "(" ∷ ((bond_text b ++ atom_text Star) ++ t)) (byte "(" ∷ ((bond_text b ++ atom_text k) ++ u))
  close : {t u : List ℕ} → Sub t u → Sub (byte ")" ∷ t) (byte ")" ∷ u)

pub ranged_plain : (k : AtomKind) → in_range k ≡ true → Plain (atom_text k)
unfolding in_range survives kind_text bracket_text plain body_of sign_kind mark_width
ranged_plain Star ok = atom_plain Star refl
ranged_plain (Aliphatic n) ok = atom_plain (Aliphatic n) ok
ranged_plain (Aromatic n) ok = atom_plain (Aromatic n) ok
ranged_plain (Bracket b) ok = rw (text_of (Bracket b) ok) (record { head = byte "["; tail = _; is = refl; ok = refl })

pub star_survives : survives Star ≡ true
unfolding survives
star_survives = refl

pub star_plain : Plain (atom_text Star)
star_plain = atom_plain Star star_survives

pub left_follows : {t u : List ℕ} → Sub t u → can_follow t ≡ true
unfolding can_follow
left_follows none = refl
left_follows (single b k {t} ok x) = bond_follows b (atom_text Star) t star_plain
left_follows (dot k ok x) = refl
left_follows (ring b r {t} s x) = bond_follows b (rnum_text r) t (rnum_plain r s)
left_follows (branch b k ok x) = refl
left_follows (close x) = refl

pub right_follows : {t u : List ℕ} → Sub t u → can_follow u ≡ true
unfolding can_follow
right_follows none = refl
right_follows (single b k {t} {u} ok x) = bond_follows b (atom_text k) u (ranged_plain k ok)
right_follows (dot k ok x) = refl
right_follows (ring b r {t} {u} s x) = bond_follows b (rnum_text r) u (rnum_plain r s)
right_follows (branch b k ok x) = refl
right_follows (close x) = refl

-- ---- one step of the reader over an atom of any kind
pub data Steps (x : List ReadEvent) (l : Lead) (y : List ReadEvent) : Type 0 where
  entered : (k : AtomKind) (p : ℕ) → x ≡ Enter l k p ∷ y → Steps x l y
  missed : (m : Missing) → x ≡ Miss m ∷ [] → Steps x l y

found_steps : (s : List ℕ) (at : ℕ) (l : Lead) (n : ℕ) (K : Rest) (f : Found) (to : ℕ) → Somehow f to → Steps (found_p s at l n K f) l (K to (n + 1))
unfolding found_p
found_steps s at l n K (Ok (Some (k, m))) to (atom j i) = entered k at refl
found_steps s at l n K (Err m) to (lacks j i) = missed m refl
found_steps s at l n K (Ok None) to x = elim x [ ]

union_steps : (s : List ℕ) (at : ℕ) (b : BondKind) (n : ℕ) (K : Rest) (f : Found) (to : ℕ) → Somehow f to → Steps (union_by s at b n K f) (Bond b) (K to (n + 1))
unfolding union_by
union_steps s at b n K (Ok (Some (k, m))) to (atom j i) = entered k at refl
union_steps s at b n K (Err m) to (lacks j i) = missed m refl
union_steps s at b n K (Ok None) to x = elim x [ ]

module _ (f : ℕ) (s : List ℕ) (room at n : ℕ) (K : Rest) (q : List ℕ) (k : AtomKind) (ok : in_range k ≡ true) (c : can_follow q ≡ true) where
  extend_steps : (b : BondKind) → Stands s at ((bond_text b ++ atom_text k) ++ q)
      → Steps (bodies (suc f) s room at n K) (Bond b) (bodies f s room (at + length (bond_text b) + length (atom_text k)) (n + 1) K)
  unfolding bodies unit_p unit_by union_p
  extend_steps b h =
      let l = leads b (atom_text k) q (ranged_plain k ok) h in
      let a = atom_somehow s (at + length (bond_text b)) q k ok c (after (bond_text b) (atom_text k ++ q) (apart (bond_text b) (atom_text k) q h)).is in
      simp (l.body, l.lead, l.next) (union_steps s (at + length (bond_text b)) b n (λ at' n'. bodies f s room at' n' K) (atom_at s (at + length (bond_text b))) _ a)

  split_steps : Stands s at ((bytes "." ++ atom_text k) ++ q) → Steps (bodies (suc f) s room at n K) Dot (bodies f s room (at + 1 + length (atom_text k)) (n + 1) K)
  unfolding bodies unit_p unit_by atom_p body_at body_of led_at
  split_steps h =
      let a = atom_somehow s (at + 1) q k ok c (next h).is in
      simp (first h) (found_steps s (at + 1) Dot n (λ at' n'. bodies f s room at' n' K) (atom_at s (at + 1)) _ a)

  pub start_steps : Stands s at (atom_text k ++ q) → Steps (line_p (bodies f s room) s at Dot K) Dot (bodies f s room (at + length (atom_text k)) (0 + 1) K)
  unfolding line_p atom_p
  start_steps h = found_steps s at Dot 0 (λ at' n'. bodies f s room at' n' K) (atom_at s at) _ (atom_somehow s at q k ok c h.is)

  opened_steps : (b : BondKind) → Stands s at ((bond_text b ++ atom_text k) ++ q)
      → Steps (line_p (bodies f s room) s (led_at s at).next (led_at s at).value K) (Bond b) (bodies f s room (at + length (bond_text b) + length (atom_text k)) (0 + 1) K)
  unfolding line_p atom_p
  opened_steps b h =
      let l = leads b (atom_text k) q (ranged_plain k ok) h in
      let a = atom_somehow s (at + length (bond_text b)) q k ok c (after (bond_text b) (atom_text k ++ q) (apart (bond_text b) (atom_text k) q h)).is in
      simp (l.lead, l.next) (found_steps s (at + length (bond_text b)) (Bond b) 0 (λ at' n'. bodies f s room at' n' K) (atom_at s (at + length (bond_text b))) _ a)

-- an atom in both
pub atoms_alike : (l : Lead) (p : ℕ) {x x' y y' : List ReadEvent} → x ≡ Enter l Star p ∷ x' → Steps y l y' → Alike x' y' → Alike x y
unfolding bare_event
atoms_alike l p e (entered k i q) a = rw (e, q) (alike_cons (Enter l Star p) (Enter l k i) refl a)
atoms_alike l p e (missed m q) a = rw q (lost (miss m))

-- ---- where a line or a branch ends
ends_body : (f : ℕ) (s : List ℕ) (room at n : ℕ) (K : Rest) → Stands s at [] → bodies (suc f) s room at n K ≡ K at n
unfolding bodies body_at peek_at
ends_body f s room at n K h = let z : peek_at s at ≡ 256 = front s at h.is in simp z

close_body : (f : ℕ) (s : List ℕ) (room at n : ℕ) (K : Rest) (q : List ℕ) → Stands s at (byte ")" ∷ q) → bodies (suc f) s room at n K ≡ K at n
unfolding bodies body_at body_of
close_body f s room at n K q h = simp (first h)

-- what follows in the starred text a from i on and in the text b from j on
pub record Follows (a b : List ℕ) (i j : ℕ) (K L : Rest) : Type 0 where
  pub ended : (at to n : ℕ) → i ≤ at → j ≤ to → Stands a at [] → Stands b to [] → Alike (K at n) (L to n)
  pub closed : (at to n : ℕ) (t u : List ℕ) → i ≤ at → j ≤ to → Sub t u → Stands a at (byte ")" ∷ t) → Stands b to (byte ")" ∷ u) → Alike (K at n) (L to n)

later : {a b : List ℕ} {i j i' j' : ℕ} {K L : Rest} → i ≤ i' → j ≤ j' → Follows a b i j K L → Follows a b i' j' K L
later p q F =
    record {
      ended = λ at to n h k. F.ended at to n (omega arith) (omega arith);
      closed = λ at to n t u h k. F.closed at to n t u (omega arith) (omega arith);
    }

-- a branch, and what comes after its ")"
close_at : (s : List ℕ) (k : ℕ → List ReadEvent) (at n : ℕ) (q : List ℕ) → Stands s at (byte ")" ∷ q) → close_p s k at n ≡ Pop n ∷ k (at + 1)
unfolding close_p
close_at s k at n q h = simp (first h)

close_lost : (s : List ℕ) (k : ℕ → List ReadEvent) (at n : ℕ) → Stands s at [] → Lost (close_p s k at n)
unfolding close_p miss_p peek_at
close_lost s k at n h = let z : peek_at s at ≡ 256 = front s at h.is in simp z (miss _)

branch_follows : (a b : List ℕ) (i j : ℕ) (k l : ℕ → List ReadEvent)
    → ((at to : ℕ) (t u : List ℕ) → i < at → j < to → Sub t u → Stands a at t → Stands b to u → Alike (k at) (l to)) → Follows a b i j (close_p a k) (close_p b l)
unfolding bare_event
branch_follows a b i j k l f =
    record {
      ended = λ at to n p q h g. lost (close_lost b l to n g);
      closed = λ at to n t u p q x h g.
          rw (close_at a k at n t h, close_at b l to n u g) (alike_cons (Pop n) (Pop n) refl (f (at + 1) (to + 1) t u (omega arith) (omega arith) x (next h) (next g)));
    }

module _ (a b : List ℕ) where
  pub bodies_alike : (f g room at to n : ℕ) (K L : Rest) (t u : List ℕ) → Sub t u → Stands a at t → Stands b to u → Fuelled a at f → Fuelled b to g → Follows a b at to K L
      → Alike (bodies f a room at n K) (bodies g b room to n L)
  unfolding bare_event
  bodies_alike zero g room at to n K L t u x h k p q F = absurd (omega (arith, h.ends))
  bodies_alike (suc f) zero room at to n K L t u x h k p q F = absurd (omega (arith, k.ends))
  bodies_alike (suc f) (suc g) room at to n K L t u none h k p q F =
      rw (ends_body f a room at n K h, ends_body g b room to n L k) (F.ended at to n (omega arith) (omega arith) h k)
  bodies_alike (suc f) (suc g) room at to n K L v w (close {t} {u} x) h k p q F =
      rw (close_body f a room at n K t h, close_body g b room to n L u k) (F.closed at to n t u (omega arith) (omega arith) x h k)
  bodies_alike (suc f) (suc g) room at to n K L v w (single c j {t} {u} ok x) h k p q F =
      let h1 = after (atom_text Star) t (after (bond_text c) (atom_text Star ++ t) (apart (bond_text c) (atom_text Star) t h)) in
      let k1 = after (atom_text j) u (after (bond_text c) (atom_text j ++ u) (apart (bond_text c) (atom_text j) u k)) in
      let s1 = plain_long star_plain in
      let s2 = plain_long (ranged_plain j ok) in
      atoms_alike (Bond c) _ (extend_read f a room at n K t c Star star_survives (left_follows x) h) (extend_steps g b room to n L u j ok (right_follows x) c k)
      (bodies_alike f g room _ _ (n + 1) K L t u x h1 k1 (omega arith) (omega arith) (later (omega arith) (omega arith) F))
  bodies_alike (suc f) (suc g) room at to n K L v w (dot j {t} {u} ok x) h k p q F =
      let h1 = after (atom_text Star) t (next h) in
      let k1 = after (atom_text j) u (next k) in
      atoms_alike Dot _ (split_read f a room at n K t Star star_survives (left_follows x) h) (split_steps g b room to n L u j ok (right_follows x) k)
      (bodies_alike f g room _ _ (n + 1) K L t u x h1 k1 (omega arith) (omega arith) (later (omega arith) (omega arith) F))
  bodies_alike (suc f) (suc g) room at to n K L v w (ring c r {t} {u} small x) h k p q F =
      let h1 = after (rnum_text r) t (after (bond_text c) (rnum_text r ++ t) (apart (bond_text c) (rnum_text r) t h)) in
      let k1 = after (rnum_text r) u (after (bond_text c) (rnum_text r ++ u) (apart (bond_text c) (rnum_text r) u k)) in
      let s1 = plain_long (rnum_plain r small) in
      rw (join_read f a room at n K t c r small h, join_read g b room to n L u c r small k)
      (alike_cons (Join c r _) (Join c r _) refl (bodies_alike f g room _ _ n K L t u x h1 k1 (omega arith) (omega arith) (later (omega arith) (omega arith) F)))
  bodies_alike (suc f) (suc g) room at to n K L v w (branch c j {t} {u} ok x) h k p q F =
      rw (branch_read f a room at n K _ h, branch_read g b room to n L _ k) (by_room (eqb room 0) (inner (bodies_alike f g)))
    where
      inner : ((room at to n : ℕ) (K L : Rest) (t u : List ℕ) → Sub t u → Stands a at t → Stands b to u → Fuelled a at f → Fuelled b to g → Follows a b at to K L → Alike (bodies f a room at n K) (bodies g b room to n L))
          → Alike (line_p (bodies f a (room - 1)) a (led_at a (at + 1)).next (led_at a (at + 1)).value (close_p a (λ at'. bodies f a room at' n K)))
          (line_p (bodies g b (room - 1)) b (led_at b (to + 1)).next (led_at b (to + 1)).value (close_p b (λ at'. bodies g b room at' n L)))
      inner rec =
          let h1 = after (atom_text Star) t (after (bond_text c) (atom_text Star ++ t) (apart (bond_text c) (atom_text Star) t (next h))) in
          let k1 = after (atom_text j) u (after (bond_text c) (atom_text j ++ u) (apart (bond_text c) (atom_text j) u (next k))) in
          let s1 = plain_long star_plain in
          let s2 = plain_long (ranged_plain j ok) in
          atoms_alike (Bond c) _ (opened_read f a (room - 1) (at + 1) _ t c Star star_survives (left_follows x) (next h)) (opened_steps g b (room - 1) (to + 1) 0 _ u j ok (right_follows x) c (next k))
          (rec (room - 1) _ _ (0 + 1) _ _ t u x h1 k1 (omega arith) (omega arith)
          (branch_follows a b _ _ (λ at'. bodies f a room at' n K) (λ at'. bodies g b room at' n L)
          (λ at' to' t' u' p' q' x' h' k'. rec room at' to' n K L t' u' x' h' k' (omega arith) (omega arith) (later (omega arith) (omega arith) F))))

      by_room : (q : Bool) {x y : List ReadEvent} → Alike x y → Alike (pick q (Nest at ∷ []) x) (pick q (Nest to ∷ []) y)
      by_room true r = alike refl
      by_room false r = r
