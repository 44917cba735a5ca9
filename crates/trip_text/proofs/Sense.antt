-- The sense of a piece of text: which events it is read as, wherever it is and whatever may follow it. Assumes nothing.
use Prim.Native.Nat.{ℕ, zero, suc, ◌+◌, ◌-◌, ◌≤◌, ◌<◌, max}
use mathlib.Core.Path.{◌≡◌, refl, ◌∙◌, ap, sym, subst}
use mathlib.Core.List.{List, [], ◌∷◌, ◌++◌, append_assoc}
use mathlib.Core.Bool.{Bool, true, false}
use native.Mathlib.Omega.{arith}
use native.Mathlib.Nat.{add-zero, zero-add, pos_of_ne-zero}
use lib.ListN.{length, length-append}
use lib.Dec.{eqb}
use borrow.Author.Tests.{eqb-true, eqb-false}
use Rattle.feature.specs.Text.{byte, bytes}
use Rattle.feature.specs.declared.atom_kind.AtomKind.{AtomKind}
use Rattle.feature.specs.declared.bond_kind.BondKind.{BondKind}
use Rattle.spell.specs.Spell.{atom_text, bond_text, rnum_text}
use Rattle.survive.specs.Survive.{survives, can_follow}
use Rattle.read_line.specs.declared.lead.Lead.TheVariants.{Dot, Bond}
use Rattle.read_line.specs.Events.{ReadEvent, Enter, Join, Pop, Nest}
use Rattle.read_line.specs.Parse.{Rest, led_at, line_p, close_p, bodies}
use Rattle.writer.specs.Line.{wrapped}
use Rattle.trip_text.proofs.Stands.{Stands, after, next, apart}
use Rattle.trip_text.proofs.Heads.{plain_long, atom_plain, rnum_plain, plain_follows, bond_follows}
use Rattle.trip_text.proofs.Bodies.{extend_read, join_read, split_read, branch_read, close_read, start_read, opened_read}
use Rattle.read_line.specs.Steps.{unplaced, placeless}

-- ---- what is said first and what is said then
-- x says E, places aside, and then what y says, if there is room for the w branches that are open at once; and else as much of
-- E as comes before a branch too many, and then that branch
pub data Then : ℕ → ℕ → List ReadEvent → List ReadEvent → List ReadEvent → Type 0 where
  goes : {w room : ℕ} {E x y : List ReadEvent} → w ≤ room → unplaced x ≡ E ++ unplaced y → Then w room E x y
  stops : {w room : ℕ} {E x y : List ReadEvent} (A B : List ReadEvent) → room < w → E ≡ A ++ B → unplaced x ≡ A ++ (Nest 0 ∷ []) → Then w room E x y

pub then_same : {room : ℕ} (x y : List ReadEvent) → x ≡ y → Then 0 room [] x y
then_same {room} x y e = let k : 0 ≤ room = omega arith in goes k (ap unplaced e)

pub then_app : {w v room : ℕ} {E F x y z : List ReadEvent} → Then w room E x y → Then v room F y z → Then (max w v) room (E ++ F) x z
then_app {w} {v} {room} {E} {F} {z = z} (goes g s) (goes h t) =
    let k : max w v ≤ room = omega arith in
    goes k (s ∙ ap (λ (l : List ReadEvent). E ++ l) t ∙ sym (append_assoc E F (unplaced z)))
then_app {w} {v} {room} {E} {F} (goes g s) (stops A B h e t) =
    let k : room < max w v = omega arith in
    stops (E ++ A) B k
    (ap (λ (l : List ReadEvent). E ++ l) e ∙ sym (append_assoc E A B))
    (s ∙ ap (λ (l : List ReadEvent). E ++ l) t ∙ sym (append_assoc E A (Nest 0 ∷ [])))
then_app {w} {v} {room} {F = F} (stops A B g e s) t =
    let k : room < max w v = omega arith in
    stops A (B ++ F) k (ap (λ (l : List ReadEvent). l ++ F) e ∙ append_assoc A B F) s

-- one event
then_one : {room : ℕ} (e : ReadEvent) (x y : List ReadEvent) → x ≡ e ∷ y → Then 0 room (placeless e ∷ []) x y
unfolding unplaced
then_one {room} e x y p = let k : 0 ≤ room = omega arith in goes k (ap unplaced p)

-- in brackets there is one branch more open, and room for one less
then_inner : (w room : ℕ) {E x y : List ReadEvent} → 0 < room → Then (max w 0) (room - 1) E x y → Then (w + 1) room E x y
then_inner w room h (goes g e) = let k : w + 1 ≤ room = omega arith in goes k e
then_inner w room h (stops A B g d e) = let k : room < w + 1 = omega arith in stops A B k d e

-- ---- where a text is met
-- after an atom, a ring number or a branch; after "("; at a line's start
pub data Mode : Type 0 where
  body : Mode
  opened : Mode
  start : Mode

-- what is said there with so much fuel, with so many atoms on this level before
unfoldable pub met : Mode → ℕ → List ℕ → ℕ → ℕ → ℕ → Rest → List ReadEvent
met body f s room at n K = bodies f s room at n K
met opened f s room at n K = line_p (bodies f s room) s (led_at s at).next (led_at s at).value K
met start f s room at n K = line_p (bodies f s room) s at Dot K

-- a line and a branch have no atom before them
unfoldable pub base : Mode → ℕ → ℕ
base body n = n
base opened n = 0
base start n = 0

-- fuel for all bytes that are left, and one more
abbrev pub Fuelled : List ℕ → ℕ → ℕ → Type 0
Fuelled s at f = length s < at + f

-- the text p was read, as the events E, with c atoms and w branches open at once
pub record Done (m : Mode) (c w : ℕ) (p : List ℕ) (E : List ReadEvent) (f : ℕ) (s : List ℕ) (room at n : ℕ) (K : Rest) : Type 0 where
  pub fuel : ℕ
  pub enough : Fuelled s (at + length p) fuel
  pub says : Then w room E (met m f s room at n K) (bodies fuel s room (at + length p) (base m n + c) K)

pub record Sense (m : Mode) (c w : ℕ) (p : List ℕ) (E : List ReadEvent) : Type 0 where
  pub reads : (f : ℕ) (s : List ℕ) (room at n : ℕ) (K : Rest) (q : List ℕ) → Stands s at (p ++ q) → can_follow q ≡ true → Fuelled s at f
      → Done m c w p E f s room at n K
  pub follows : (q : List ℕ) → can_follow q ≡ true → can_follow (p ++ q) ≡ true

-- two texts in a row
pub sense_app : {m : Mode} {c d w v : ℕ} {p q : List ℕ} {E F : List ReadEvent} → Sense m c w p E → Sense body d v q F → Sense m (c + d) (max w v) (p ++ q) (E ++ F)
unfolding met base
sense_app {m} {c} {d} {w} {v} {p} {q} {E} {F} a b =
    record {
      reads = go;
      follows = λ r k. rw append_assoc (a.follows (q ++ r) (b.follows r k));
    }
  where
    go : (f : ℕ) (s : List ℕ) (room at n : ℕ) (K : Rest) (r : List ℕ) → Stands s at ((p ++ q) ++ r) → can_follow r ≡ true → Fuelled s at f
        → Done m (c + d) (max w v) (p ++ q) (E ++ F) f s room at n K
    go f s room at n K r h k g =
        let h1 = apart p q r h in
        let x = a.reads f s room at n K (q ++ r) h1 (b.follows r k) g in
        let y = b.reads x.fuel s room (at + length p) (base m n + c) K r (after p (q ++ r) h1) k x.enough in
        let e : at + length p + length q ≡ at + length (p ++ q) = omega (arith, length-append p q) in
        let e2 : base m n + c + d ≡ base m n + (c + d) = omega arith in
        record {
          fuel = y.fuel;
          enough = omega (arith, y.enough);
          says = then_app x.says (rw (← e, ← e2) y.says);
        }

-- ---- a body, an atom or a branch's first atom that says one event
-- one event was said, and the fuel after it is at hand
one_done : (m : Mode) (c : ℕ) (p : List ℕ) (e : ReadEvent) (f g : ℕ) (s : List ℕ) (room at n : ℕ) (K : Rest) (to k : ℕ)
    → met m f s room at n K ≡ e ∷ bodies g s room to k K
    → to ≡ at + length p → k ≡ base m n + c → Fuelled s to g
    → Done m c 0 p (placeless e ∷ []) f s room at n K
one_done m c p e f g s room at n K to k said h i enough =
    record {
      fuel = g;
      enough = rw (← h) enough;
      says = rw (← h, ← i) (then_one e _ _ said);
    }

-- an atom with its bond
pub sense_extend : (b : BondKind) (k : AtomKind) → survives k ≡ true → Sense body 1 0 (bond_text b ++ atom_text k) (Enter (Bond b) k 0 ∷ [])
unfolding met base placeless
sense_extend b k ok =
    record {
      reads = go;
      follows = λ q c. bond_follows b (atom_text k) q (atom_plain k ok);
    }
  where
    go : (f : ℕ) (s : List ℕ) (room at n : ℕ) (K : Rest) (r : List ℕ) → Stands s at ((bond_text b ++ atom_text k) ++ r) → can_follow r ≡ true → Fuelled s at f
        → Done body 1 0 (bond_text b ++ atom_text k) (Enter (Bond b) k 0 ∷ []) f s room at n K
    go zero s room at n K r h c g = absurd (omega (arith, h.ends))
    go (suc f) s room at n K r h c g =
        one_done body 1 (bond_text b ++ atom_text k) (Enter (Bond b) k (at + length (bond_text b))) (suc f) f s room at n K _ _
        (extend_read f s room at n K r b k ok c h)
        (omega (arith, length-append (bond_text b) (atom_text k))) refl (omega (arith, plain_long (atom_plain k ok)))

-- an atom with its bond, first in a branch
pub sense_opened : (b : BondKind) (k : AtomKind) → survives k ≡ true → Sense opened 1 0 (bond_text b ++ atom_text k) (Enter (Bond b) k 0 ∷ [])
unfolding met base placeless
sense_opened b k ok =
    record {
      reads = λ f s room at n K r h c g.
          one_done opened 1 (bond_text b ++ atom_text k) (Enter (Bond b) k (at + length (bond_text b))) f f s room at n K _ _
          (opened_read f s room at K r b k ok c h)
          (omega (arith, length-append (bond_text b) (atom_text k))) refl (omega arith);
      follows = λ q c. bond_follows b (atom_text k) q (atom_plain k ok);
    }

-- an atom first in a line
pub sense_start : (k : AtomKind) → survives k ≡ true → Sense start 1 0 (atom_text k) (Enter Dot k 0 ∷ [])
unfolding met base placeless
sense_start k ok =
    record {
      reads = λ f s room at n K r h c g.
          one_done start 1 (atom_text k) (Enter Dot k at) f f s room at n K _ _
          (start_read f s room at K r k ok c h) refl refl (omega arith);
      follows = λ q c. plain_follows (atom_text k) q (atom_plain k ok);
    }

-- an atom after "."
pub sense_split : (k : AtomKind) → survives k ≡ true → Sense body 1 0 (bytes "." ++ atom_text k) (Enter Dot k 0 ∷ [])
unfolding met base placeless can_follow
sense_split k ok = record { reads = go; follows = λ q c. refl }
  where
    go : (f : ℕ) (s : List ℕ) (room at n : ℕ) (K : Rest) (r : List ℕ) → Stands s at ((bytes "." ++ atom_text k) ++ r) → can_follow r ≡ true → Fuelled s at f
        → Done body 1 0 (bytes "." ++ atom_text k) (Enter Dot k 0 ∷ []) f s room at n K
    go zero s room at n K r h c g = absurd (omega (arith, h.ends))
    go (suc f) s room at n K r h c g =
        one_done body 1 (bytes "." ++ atom_text k) (Enter Dot k (at + 1)) (suc f) f s room at n K _ _
        (split_read f s room at n K r k ok c h) (omega arith) refl (omega arith)

-- a ring number with its bond
pub sense_join : (b : BondKind) (n : ℕ) → n ≤ 99 → Sense body 0 0 (bond_text b ++ rnum_text n) (Join b n 0 ∷ [])
unfolding met base placeless
sense_join b i small =
    record {
      reads = go;
      follows = λ q c. bond_follows b (rnum_text i) q (rnum_plain i small);
    }
  where
    go : (f : ℕ) (s : List ℕ) (room at n : ℕ) (K : Rest) (r : List ℕ) → Stands s at ((bond_text b ++ rnum_text i) ++ r) → can_follow r ≡ true → Fuelled s at f
        → Done body 0 0 (bond_text b ++ rnum_text i) (Join b i 0 ∷ []) f s room at n K
    go zero s room at n K r h c g = absurd (omega (arith, h.ends))
    go (suc f) s room at n K r h c g =
        one_done body 0 (bond_text b ++ rnum_text i) (Join b i (at + length (bond_text b))) (suc f) f s room at n K _ _
        (join_read f s room at n K r b i small h)
        (omega (arith, length-append (bond_text b) (rnum_text i))) (omega arith) (omega (arith, plain_long (rnum_plain i small)))

-- ---- a branch
-- one too many says so
then_nest : (w at : ℕ) (E x y : List ReadEvent) → x ≡ Nest at ∷ [] → Then (w + 1) 0 E x y
unfolding unplaced placeless
then_nest w at E x y e = let k : 0 < w + 1 = omega arith in stops [] E k refl (ap unplaced e)

pub sense_branch : {c w : ℕ} {p : List ℕ} {E : List ReadEvent} → Sense opened c w p E → Sense body 0 (w + 1) (wrapped p) (E ++ (Pop c ∷ []))
unfolding met base placeless can_follow wrapped
sense_branch {c} {w} {p} {E} a = record { reads = go; follows = λ q k. refl }
  where
    -- the branch's line and its ")"
    inner : (f : ℕ) (s : List ℕ) (room at n : ℕ) (K : Rest) (r : List ℕ) → Stands s (at + 1) (p ++ (byte ")" ∷ r)) → Fuelled s at (suc f)
        → Then (max w 0) (room - 1) (E ++ (Pop c ∷ [])) (met opened f s (room - 1) (at + 1) 0 (close_p s (λ at'. bodies f s room at' n K))) (bodies f s room (at + 1 + length p + 1) n K)
    inner f s room at n K r h g =
        let k : ℕ → List ReadEvent = λ at'. bodies f s room at' n K in
        let x = a.reads f s (room - 1) (at + 1) 0 (close_p s k) (byte ")" ∷ r) h refl (omega arith) in
        let h2 = after p (byte ")" ∷ r) h in
        then_app x.says (closing x.fuel h2 x.enough)
      where
        closing : (g : ℕ) → Stands s (at + 1 + length p) (byte ")" ∷ r) → Fuelled s (at + 1 + length p) g
            → Then 0 (room - 1) (Pop c ∷ []) (bodies g s (room - 1) (at + 1 + length p) (0 + c) (close_p s (λ at'. bodies f s room at' n K))) (bodies f s room (at + 1 + length p + 1) n K)
        closing zero h2 e = absurd (omega (arith, h2.ends))
        closing (suc g) h2 e =
            rw zero-add (then_one (Pop c) _ _ (close_read g s (room - 1) (at + 1 + length p) c K r (λ at'. bodies f s room at' n K) h2))

    by_room : (t : Bool) (f : ℕ) (s : List ℕ) (room at n : ℕ) (K : Rest) (r : List ℕ) → eqb room 0 ≡ t → Stands s at (byte "(" ∷ (p ++ (byte ")" ∷ r))) → Fuelled s at (suc f)
        → Then (w + 1) room (E ++ (Pop c ∷ [])) (bodies (suc f) s room at n K) (bodies f s room (at + 1 + length p + 1) n K)
    by_room true f s room at n K r e h g =
        let z : room ≡ 0 = eqb-true room 0 e in
        subst (λ (y : ℕ). Then (w + 1) y (E ++ (Pop c ∷ [])) (bodies (suc f) s room at n K) (bodies f s room (at + 1 + length p + 1) n K)) (sym z)
        (then_nest w at _ _ _ (branch_read f s room at n K _ h ∙ rw e))
    by_room false f s room at n K r e h g =
        let z : 0 < room = pos_of_ne-zero (eqb-false room 0 e) in
        rw (branch_read f s room at n K _ h, e) (then_inner w room z (inner f s room at n K r (next h) g))

    go : (f : ℕ) (s : List ℕ) (room at n : ℕ) (K : Rest) (r : List ℕ) → Stands s at (wrapped p ++ r) → can_follow r ≡ true → Fuelled s at f
        → Done body 0 (w + 1) (wrapped p) (E ++ (Pop c ∷ [])) f s room at n K
    go zero s room at n K r h k g = absurd (omega (arith, h.ends))
    go (suc f) s room at n K r h k g =
        let h1 : Stands s at (byte "(" ∷ (p ++ (byte ")" ∷ r))) = rw append_assoc at h in
        let e : at + 1 + length p + 1 ≡ at + length (wrapped p) = omega (arith, length-append p (bytes ")")) in
        record {
          fuel = f;
          enough = rw (← e) (omega arith);
          says = rw (← e, add-zero) (by_room (eqb room 0) f s room at n K r refl h1 g);
        }
