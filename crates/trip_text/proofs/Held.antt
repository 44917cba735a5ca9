-- The pieces that a writer holds, with the events that each is read as: kept by every event that the writer takes. Assumes nothing.
use Prim.Native.Nat.{ℕ, zero, suc, ◌+◌, ◌-◌, ◌≤◌, max}
use mathlib.Core.Path.{◌≡◌, refl, ◌∙◌, ap}
use mathlib.Core.List.{List, [], ◌∷◌, ◌++◌, append_assoc, append-nil}
use mathlib.Core.Bool.{true}
use native.Mathlib.Omega.{arith}
use lib.ListN.{length, take, drop}
use borrow.Author.Tests.{ne_eqb, lt-leb}
use Rattle.feature.specs.Text.{bytes}
use Rattle.feature.specs.declared.atom_kind.AtomKind.{AtomKind}
use Rattle.feature.specs.declared.bond_kind.BondKind.{BondKind}
use Rattle.spell.specs.Spell.{atom_text, bond_text, rnum_text}
use Rattle.survive.specs.Survive.{survives}
use Rattle.read_line.specs.declared.lead.Lead.TheVariants.{Dot}
use Rattle.read_line.specs.Events as reader
use Rattle.writer.specs.Line.{Event, Root, Extend, Join, Pop, line_of, dot_text, on_last, wrapped, pop_pieces, write_event, write_events}
use Rattle.writer.proofs.Pieces.{piece_added}
use Rattle.walk_laws.specs.Trek.{AllAccepted}
use Rattle.trip_text.specs.Steps.{retold_one, retold, greatest, deepened, depths_one, depths, Sayable, Spellable}
use Rattle.trip_text.proofs.Passes.{passes}
use Rattle.trip_text.proofs.Sense.{body, opened, start, Sense, sense_app, sense_extend, sense_opened, sense_split, sense_join, sense_branch}

-- pieces, the last first; the events that they are read as; how deep the brackets of each are; how many of them there are
-- since the last root. One that is no root may also come first in a branch
pub data Held : List (List ℕ) → List reader.ReadEvent → List ℕ → ℕ → Type 0 where
  begun : {w : ℕ} {p : List ℕ} {E : List reader.ReadEvent} → Sense start 1 w p E → Held (p ∷ []) E (w ∷ []) 1
  again : {w d : ℕ} {x p : List ℕ} {ps : List (List ℕ)} {D E : List reader.ReadEvent} {ws : List ℕ} → Held (x ∷ ps) D ws d → Sense body 1 w p E
      → Held (p ∷ (x ∷ ps)) (D ++ E) (w ∷ ws) 1
  more : {w d : ℕ} {p : List ℕ} {ps : List (List ℕ)} {D E : List reader.ReadEvent} {ws : List ℕ} → Held ps D ws (suc d) → Sense body 1 w p E → Sense opened 1 w p E
      → Held (p ∷ ps) (D ++ E) (w ∷ ws) (suc (suc d))

-- there are so many
held_long : {ps : List (List ℕ)} {D : List reader.ReadEvent} {ws : List ℕ} {d : ℕ} → Held ps D ws d → d ≤ length ps
held_long (begun a) = omega arith
held_long (again h a) = omega arith
held_long (more h a b) = omega (arith, held_long h)

-- ---- a text laid onto the last piece
held_onto : {ps : List (List ℕ)} {D F : List reader.ReadEvent} {ws : List ℕ} {d v : ℕ} (q : List ℕ) → Held ps D ws d → Sense body 0 v q F
    → Held (on_last q ps) (D ++ F) (deepened v ws) d
unfolding on_last deepened
held_onto q (begun a) t = begun (sense_app a t)
held_onto q (again h a) t = rw append_assoc (again h (sense_app a t))
held_onto q (more h a b) t = rw append_assoc (more h (sense_app a t) (sense_app b t))

-- one that has no brackets changes no depth
deepened_none : (ws : List ℕ) → deepened 0 ws ≡ ws
unfolding deepened
deepened_none [] = refl
deepened_none (w ∷ ws) = ap (λ (n : ℕ). n ∷ ws) (omega arith)

-- ---- the last pieces apart from those before
-- the line of the last e pieces, as it is read first in a branch
record Parted (e : ℕ) (ps : List (List ℕ)) (D : List reader.ReadEvent) (ws : List ℕ) (d : ℕ) : Type 0 where
  below : List reader.ReadEvent
  above : List reader.ReadEvent
  is : D ≡ below ++ above
  rest : Held (drop e ps) below (drop e ws) d
  line : Sense opened e (greatest (take e ws)) (line_of (take e ps)) above

part_one : {w d : ℕ} {p : List ℕ} {ps : List (List ℕ)} {D E : List reader.ReadEvent} {ws : List ℕ} → Held ps D ws (suc d) → Sense opened 1 w p E
    → Parted 1 (p ∷ ps) (D ++ E) (w ∷ ws) (suc d)
unfolding line_of greatest
part_one {w} {D = D} {E = E} h a =
    let g : max w 0 ≡ w = omega arith in
    record { below = D; above = E; is = refl; rest = h; line = rw g a }

part_more : {w e d : ℕ} {p : List ℕ} {ps : List (List ℕ)} {D E : List reader.ReadEvent} {ws : List ℕ} → Parted (suc e) ps D ws d → Sense body 1 w p E
    → Parted (suc (suc e)) (p ∷ ps) (D ++ E) (w ∷ ws) d
unfolding line_of greatest
part_more {w} {e} {D = D} {E = E} {ws = ws} r a =
    let k : suc e + 1 ≡ suc (suc e) = omega arith in
    let g : max (greatest (take (suc e) ws)) w ≡ max w (greatest (take (suc e) ws)) = omega arith in
    record {
      below = r.below;
      above = r.above ++ E;
      is = ap (λ (l : List reader.ReadEvent). l ++ E) r.is ∙ append_assoc r.below r.above E;
      rest = r.rest;
      line = rw (← k, ← g) (sense_app r.line a);
    }

part : (e : ℕ) {ps : List (List ℕ)} {D : List reader.ReadEvent} {ws : List ℕ} {d : ℕ} (c : ℕ) → Held ps D ws c → c ≡ suc e + suc d → Parted (suc e) ps D ws (suc d)
part e c (begun a) g = absurd (omega arith)
part e c (again h a) g = absurd (omega arith)
part zero {d = d} c (more {d = x} h a b) g =
    let k : x ≡ d = omega arith in
    rw (← k) (part_one h b)
part (suc e) {d = d} c (more {d = x} h a b) g = part_more (part e {d = d} (suc x) h (omega arith)) a

-- ---- one event
pub root_dot : (n : ℕ) → dot_text (suc n) ≡ bytes "."
unfolding dot_text
root_dot n = rw (ne_eqb (suc n) 0 (λ e. omega arith))

held_root : (k : AtomKind) → survives k ≡ true → {ps : List (List ℕ)} {D : List reader.ReadEvent} {ws : List ℕ} {d : ℕ} → Held ps D ws d
    → Held ((dot_text (length ps) ++ atom_text k) ∷ ps) (D ++ (reader.Enter Dot k 0 ∷ [])) (0 ∷ ws) 1
held_root k ok (begun a) = rw root_dot (again (begun a) (sense_split k ok))
held_root k ok (again h a) = rw root_dot (again (again h a) (sense_split k ok))
held_root k ok (more h a b) = rw root_dot (again (more h a b) (sense_split k ok))

held_join : (b : BondKind) (n : ℕ) → n ≤ 99 → {ps : List (List ℕ)} {D : List reader.ReadEvent} {ws : List ℕ} {d : ℕ} → Held ps D ws d
    → Held (on_last (bond_text b ++ rnum_text n) ps) (D ++ (reader.Join b n 0 ∷ [])) ws d
held_join b n small {ws = ws} h = rw deepened_none at (held_onto (bond_text b ++ rnum_text n) h (sense_join b n small))

held_pop : (e : ℕ) {ps : List (List ℕ)} {D : List reader.ReadEvent} {ws : List ℕ} {d : ℕ} (c : ℕ) → Held ps D ws c → c ≡ suc e + suc d
    → Held (pop_pieces (suc e) ps) (D ++ (reader.Pop (suc e) ∷ [])) (deepened (greatest (take (suc e) ws) + 1) (drop (suc e) ws)) (suc d)
unfolding pop_pieces
held_pop e {ps} {D} {ws} {d} c h g =
    let r = part e {d = d} c h g in
    rw (lt-leb (length ps) (suc e) (omega (arith, held_long h)), r.is, append_assoc)
    (held_onto (wrapped (line_of (take (suc e) ps))) r.rest (sense_branch r.line))

-- ---- all events
pub record HeldSome (ps : List (List ℕ)) (D : List reader.ReadEvent) (ws : List ℕ) : Type 0 where
  pub since : ℕ
  pub held : Held ps D ws since

pub held_all : (most : ℕ) (es : List Event) {ps : List (List ℕ)} {D : List reader.ReadEvent} {ws : List ℕ} (d : ℕ) → Held ps D ws d
    → Sayable d es → Spellable es → AllAccepted most es ps
    → HeldSome (write_events most es ps) (D ++ retold es) (depths es ws)
unfolding write_events write_event retold retold_one depths depths_one
held_all most [] d h t s a = record { since = d; held = rw append-nil h }
held_all most (Root k ∷ es) {ps} d h t s a =
    let e = piece_added most (dot_text (length ps) ++ atom_text k) ps a.0 in
    rw e (rw append_assoc at (held_all most es 1 (held_root k (passes k s.0) h) t s.1 (rw e at a.1)))
held_all most (Extend b k ∷ es) {ps} zero h t s a = absurd (omega arith)
held_all most (Extend b k ∷ es) {ps} (suc d) h t s a =
    let e = piece_added most (bond_text b ++ atom_text k) ps a.0 in
    let n : suc d + 1 ≡ suc (suc d) = omega arith in
    rw e
    (rw append_assoc at
    (held_all most es (suc (suc d)) (more h (sense_extend b k (passes k s.0)) (sense_opened b k (passes k s.0))) (rw n at t.1) s.1 (rw e at a.1)))
held_all most (Join b n ∷ es) {ps} d h t s a =
    rw append_assoc at (held_all most es d (held_join b n s.0 h) t.1 s.1 a.1)
held_all most (Pop zero ∷ es) {ps} d h t s a = absurd (omega arith)
held_all most (Pop (suc e) ∷ es) {ps} d h t s a =
    let n : d - suc e ≡ suc (d - suc e - 1) = omega arith in
    rw append_assoc at
    (held_all most es (suc (d - suc e - 1)) (held_pop e {d = d - suc e - 1} d h (omega arith)) (rw n at t.2) s a.1)

-- ---- the line
-- the pieces in a row, as they are read from the line's start on
pub record Line (ps : List (List ℕ)) (D : List reader.ReadEvent) (ws : List ℕ) : Type 0 where
  pub atoms : ℕ
  pub sense : Sense start atoms (greatest ws) (line_of ps) D

line_more : {w : ℕ} {p : List ℕ} {ps : List (List ℕ)} {D E : List reader.ReadEvent} {ws : List ℕ} → Line ps D ws → Sense body 1 w p E → Line (p ∷ ps) (D ++ E) (w ∷ ws)
unfolding line_of greatest
line_more {w} {ws = ws} r a =
    let g : max (greatest ws) w ≡ max w (greatest ws) = omega arith in
    record { atoms = r.atoms + 1; sense = rw (← g) (sense_app r.sense a) }

pub held_line : {ps : List (List ℕ)} {D : List reader.ReadEvent} {ws : List ℕ} {d : ℕ} → Held ps D ws d → Line ps D ws
unfolding line_of greatest
held_line (begun {w = w} a) = let g : max w 0 ≡ w = omega arith in record { atoms = 1; sense = rw g a }
held_line (again h a) = line_more (held_line h) a
held_line (more h a b) = line_more (held_line h) a
