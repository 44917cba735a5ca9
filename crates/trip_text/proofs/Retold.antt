-- The line that a writer makes of events is read as these events. Assumes nothing.
use Prim.Native.Nat.{ℕ, zero, suc, ◌+◌, ◌≤◌, ◌<◌, max}
use mathlib.Core.Path.{◌≡◌, refl, ◌∙◌, ap, sym}
use mathlib.Core.List.{List, [], ◌∷◌, ◌++◌, append-nil}
use mathlib.Core.Bool.{true, false}
use native.Mathlib.Omega.{arith}
use lib.ListN.{length}
use lib.Dec.{ltb}
use borrow.Author.Tests.{lt-ltb, le-ltb}
use Rattle.feature.specs.declared.atom_kind.AtomKind.{AtomKind}
use Rattle.feature.proofs.Cases.{impossible}
use Rattle.spell.specs.Spell.{atom_text}
use Rattle.survive.specs.Survive.{can_follow}
use Rattle.table.specs.Limits.{branch_limit}
use Rattle.read_line.specs.Events as reader
use Rattle.read_line.specs.Parse.{bodies, end_p, parse}
use Rattle.writer.specs.Line.{Event, Root, Extend, Join, Pop, line_of, dot_text, add_piece, write_event, write_events}
use Rattle.writer.proofs.Pieces.{piece_added}
use Rattle.walk_laws.specs.Trek.{AllAccepted}
use Rattle.trip_text.specs.Steps.{SaysWithin, all, cut, retold_one, retold, depths_one, depths, depth, Sayable, Spellable}
use Rattle.trip_text.proofs.Passes.{passes}
use Rattle.trip_text.proofs.Stands.{Stands, whole, after}
use Rattle.trip_text.proofs.Bodies.{end_read}
use Rattle.trip_text.proofs.Sense.{Then, goes, stops, then_same, then_app, start, Sense, sense_start, met, base, Fuelled}
use Rattle.trip_text.proofs.Held.{begun, held_all, held_line}
use Rattle.read_line.specs.Steps.{unplaced, placeless}
use Rattle.read_line.specs.Events.{has_nest}

-- a line that is read from its start on as these events says them and nothing more
then_nothing : {w room : ℕ} (D x : List reader.ReadEvent) → Then w room D x [] → SaysWithin w room D x
unfolding unplaced
then_nothing D x (goes g e) = all g (rw append-nil at e)
then_nothing D x (stops A B g d e) = cut A B g d e

said : {c w : ℕ} (s : List ℕ) (D : List reader.ReadEvent) → Sense start c w s D → SaysWithin w branch_limit D (parse s)
unfolding parse met can_follow
said {c} {w} s D a =
    let h : Stands s 0 (s ++ []) = rw append-nil (whole s) in
    let x = a.reads (length s + 1) s branch_limit 0 0 (end_p s) [] h refl (omega arith) in
    let y = closing (base start 0 + c) x.fuel x.enough (after s [] h) in
    let g : max w 0 ≡ w = omega arith in
    then_nothing D (parse s) (rw (g, append-nil) at (then_app x.says (then_same _ [] y)))
  where
    closing : (n f : ℕ) → Fuelled s (0 + length s) f → Stands s (0 + length s) [] → bodies f s branch_limit (0 + length s) n (end_p s) ≡ []
    closing n zero e h = absurd (omega (arith, h.ends))
    closing n (suc f) e h = end_read f s branch_limit (0 + length s) n h

-- Events, at least one, that a line can say in their order, whose atoms survive and whose ring numbers have a text, all taken
-- by a writer that held no piece: their line is read as these events, in this order and with nothing else, places aside; or
-- as those before a branch too many, and then that branch.
pub retold_line : (most : ℕ) (es : List Event) → 0 < length es → Sayable 0 es → Spellable es → AllAccepted most es []
    → SaysWithin (depth es) branch_limit (retold es) (parse (line_of (write_events most es [])))
unfolding write_events write_event retold retold_one dot_text depth depths depths_one
retold_line most [] l t s a = absurd (omega arith)
retold_line most (Root k ∷ es) l t s a =
    let e : add_piece most (atom_text k) [] ≡ atom_text k ∷ [] = piece_added most (atom_text k) [] a.0 in
    let h = held_all most es 1 (begun (sense_start k (passes k s.0))) t s.1 (rw e at a.1) in
    rw e (said _ _ (held_line h.held).sense)
retold_line most (Extend b k ∷ es) l t s a = absurd (omega arith)
retold_line most (Join b n ∷ es) l t s a = absurd (omega arith)
retold_line most (Pop d ∷ es) l t s a = absurd (omega arith)

-- ---- whether there is a branch too many
nests_placeless : (x : List reader.ReadEvent) → has_nest (unplaced x) ≡ has_nest x
unfolding has_nest unplaced placeless
nests_placeless [] = refl
nests_placeless (reader.Enter l k p ∷ x) = nests_placeless x
nests_placeless (reader.Join b n p ∷ x) = nests_placeless x
nests_placeless (reader.Pop n ∷ x) = nests_placeless x
nests_placeless (reader.Miss m ∷ x) = nests_placeless x
nests_placeless (reader.Nest p ∷ x) = refl

-- with one at its end
nests_last : (A : List reader.ReadEvent) → has_nest (A ++ (reader.Nest 0 ∷ [])) ≡ true
unfolding has_nest
nests_last [] = refl
nests_last (reader.Enter l k p ∷ x) = nests_last x
nests_last (reader.Join b n p ∷ x) = nests_last x
nests_last (reader.Pop n ∷ x) = nests_last x
nests_last (reader.Miss m ∷ x) = nests_last x
nests_last (reader.Nest p ∷ x) = refl

-- a writer tells of none
nests_retold : (es : List Event) → has_nest (retold es) ≡ false
unfolding has_nest retold retold_one
nests_retold [] = refl
nests_retold (Root k ∷ es) = nests_retold es
nests_retold (Extend b k ∷ es) = nests_retold es
nests_retold (Join b n ∷ es) = nests_retold es
nests_retold (Pop d ∷ es) = nests_retold es

-- if none is met, all is said
says_flat : {w room : ℕ} (D x : List reader.ReadEvent) → SaysWithin w room D x → has_nest x ≡ false → unplaced x ≡ D
says_flat D x (all g e) h = e
says_flat D x (cut A B g d e) h =
    absurd (let y : has_nest x ≡ true = sym (nests_placeless x) ∙ ap has_nest e ∙ nests_last A in impossible cc)

-- The same in one equation: where no branch too many is met, what is read is what was told.
pub retold_flat : (most : ℕ) (k : AtomKind) (es : List Event) → Sayable 0 (Root k ∷ es) → Spellable (Root k ∷ es) → AllAccepted most (Root k ∷ es) []
    → has_nest (parse (line_of (write_events most (Root k ∷ es) []))) ≡ false
    → unplaced (parse (line_of (write_events most (Root k ∷ es) []))) ≡ retold (Root k ∷ es)
retold_flat most k es t s a h = says_flat _ _ (retold_line most (Root k ∷ es) (omega arith) t s a) h

-- if there is room for them all, all is said, and none is met
says_all : {w room : ℕ} (D x : List reader.ReadEvent) → SaysWithin w room D x → w ≤ room → unplaced x ≡ D
says_all D x (all g e) h = e
says_all D x (cut A B g d e) h = absurd (omega arith)

-- And with no word on what the reader says: where at most 128 branches are open at once, what is read is what was told.
pub retold_shallow : (most : ℕ) (es : List Event) → 0 < length es → Sayable 0 es → Spellable es → AllAccepted most es [] → depth es ≤ branch_limit
    → unplaced (parse (line_of (write_events most es []))) ≡ retold es
retold_shallow most es l t s a h = says_all _ _ (retold_line most es l t s a) h

-- A branch too many is met exactly where more are open at once.
says_nests : {w room : ℕ} (D x : List reader.ReadEvent) → has_nest D ≡ false → SaysWithin w room D x → has_nest x ≡ ltb room w
says_nests {w} {room} D x f (all g e) = sym (nests_placeless x) ∙ ap has_nest e ∙ f ∙ sym (le-ltb room w g)
says_nests {w} {room} D x f (cut A B g d e) = sym (nests_placeless x) ∙ ap has_nest e ∙ nests_last A ∙ sym (lt-ltb room w g)

pub retold_nests : (most : ℕ) (es : List Event) → 0 < length es → Sayable 0 es → Spellable es → AllAccepted most es []
    → has_nest (parse (line_of (write_events most es []))) ≡ ltb branch_limit (depth es)
retold_nests most es l t s a = says_nests (retold es) _ (nests_retold es) (retold_line most es l t s a)
