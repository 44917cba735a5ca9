-- The place of an event in the text matters only to a builder that refuses it.
use mathlib.Core.Path.{◌≡◌, refl, sym, ap, ◌∙◌}
use mathlib.Core.List.{List, [], ◌∷◌}
use mathlib.Core.Option.{Option, none, some}
use mathlib.Core.Bool.{Bool, true, false}
use Prim.Native.Nat.{ℕ, ◌+◌}
use native.Mathlib.Omega.{arith}
use lib.Dec.{leb, ltb, eqb}
use borrow.Author.Tests.{eqb-true}
use Rattle.feature.specs.Pick.{pick}
use Rattle.feature.specs.Kinds.{invert_of}
use Rattle.feature.specs.declared.atom_kind.AtomKind.{AtomKind}
use Rattle.feature.specs.declared.bond_kind.BondKind.{BondKind}
use Rattle.std.specs.Prelude as std
use Rattle.std.specs.Prelude.{Some}
use Rattle.desk_numbers.specs.Numbers.{atom_room, bond_room}
use Rattle.read_line.specs.declared.lead.Lead.{Lead}
use Rattle.read_line.specs.declared.lead.Lead.TheVariants.{Dot, Bond}
use Rattle.read_line.specs.Events.{ReadEvent, Enter, Join, Pop, Miss, Nest}
use Rattle.builder_meaning.specs.Sketch.{Sketch, Held, Failure, None, Failed, refused, next_number, count_of, root_s, extend_s, bonded_s, opened_s, closed_s, ring_s, join_s, enter_s, number_s, step_s, run_s, lookup}
use Rattle.trip_graph.proofs.Lists.{by_bool}
use Rattle.trip_graph.proofs.Follows.{run_refused}
use Rattle.read_line.specs.Steps.{placeless, unplaced}

-- a choice between a refusal and what goes on
pick_same : (q : Bool) (x x' y y' : Sketch) → (x'.refusal ≡ 0 → ⊥) → (y'.refusal ≡ 0 → y ≡ y') → (pick q x' y').refusal ≡ 0 → pick q x y ≡ pick q x' y'
pick_same true x x' y y' h f e = absurd (h e)
pick_same false x x' y y' h f e = f e

root_same : (d : Sketch) (k : AtomKind) (p : ℕ) → (root_s d k 0).refusal ≡ 0 → root_s d k p ≡ root_s d k 0
unfolding root_s
root_same d k p = pick_same (leb d.places (next_number d)) (refused d atom_room p) (refused d atom_room 0) _ _ (λ z. omega arith) (λ z. refl)

extend_same : (d : Sketch) (e : BondKind) (k : AtomKind) (p : ℕ) (path : List ℕ) → (extend_s d e k 0 path).refusal ≡ 0 → extend_s d e k p path ≡ extend_s d e k 0 path
unfolding extend_s
extend_same d e k p [] = λ z. refl
extend_same d e k p (s ∷ rest) =
    pick_same (leb d.places (next_number d)) (refused d atom_room p) (refused d atom_room 0)
    (pick (ltb d.slots (count_of d.nodes + 2)) (refused d bond_room p) (bonded_s d e s (invert_of k)))
    (pick (ltb d.slots (count_of d.nodes + 2)) (refused d bond_room 0) (bonded_s d e s (invert_of k)))
    (λ z. omega arith)
    (pick_same (ltb d.slots (count_of d.nodes + 2)) (refused d bond_room p) (refused d bond_room 0) (bonded_s d e s (invert_of k)) (bonded_s d e s (invert_of k)) (λ z. omega arith) (λ z. refl))

close_same : (d : Sketch) (n p s : ℕ) (h : Held) (r : std.Option (BondKind × BondKind)) → (closed_s d n 0 s h r).refusal ≡ 0 → closed_s d n p s h r ≡ closed_s d n 0 s h r
unfolding closed_s
close_same d n p s h std.None = λ z. refl
close_same d n p s h (Some (l, r)) =
    pick_same (ltb d.slots (count_of d.nodes + 1)) (refused d bond_room p) (refused d bond_room 0) _ _ (λ z. omega arith) (λ z. refl)

ring_same : (d : Sketch) (e : BondKind) (n p s : ℕ) (h : Option Held) → (ring_s d e n 0 s h).refusal ≡ 0 → ring_s d e n p s h ≡ ring_s d e n 0 s h
unfolding ring_s
ring_same d e n p s none =
    pick_same (ltb d.slots (count_of d.nodes + 1)) (refused d bond_room p) (refused d bond_room 0) (opened_s d e n s) (opened_s d e n s) (λ z. omega arith) (λ z. refl)
ring_same d e n p s (some h) = close_same d n p s h _

join_same : (d : Sketch) (e : BondKind) (n p : ℕ) (path : List ℕ) → (join_s d e n 0 path).refusal ≡ 0 → join_s d e n p path ≡ join_s d e n 0 path
unfolding join_s
join_same d e n p [] = λ z. refl
join_same d e n p (s ∷ rest) = ring_same d e n p s (lookup n d.opens)

enter_same : (d : Sketch) (l : Lead) (k : AtomKind) (p : ℕ) (f : Failure) → (enter_s d l k 0 f).refusal ≡ 0 → enter_s d l k p f ≡ enter_s d l k 0 f
unfolding enter_s
enter_same d Dot k p None = root_same d k p
enter_same d (Bond e) k p None = extend_same d e k p d.path
enter_same d Dot k p (Failed x y) = λ z. refl
enter_same d (Bond e) k p (Failed x y) = λ z. refl

number_same : (d : Sketch) (e : BondKind) (n p : ℕ) (f : Failure) → (number_s d e n 0 f).refusal ≡ 0 → number_s d e n p f ≡ number_s d e n 0 f
unfolding number_s
number_same d e n p None = join_same d e n p d.path
number_same d e n p (Failed x y) = λ z. refl

step_same : (d : Sketch) (e : ReadEvent) → (step_s d (placeless e)).refusal ≡ 0 → step_s d e ≡ step_s d (placeless e)
unfolding step_s placeless
step_same d (Enter l k p) = enter_same d l k p d.failure
step_same d (Join e n p) = number_same d e n p d.failure
step_same d (Pop n) = λ z. refl
step_same d (Miss m) = λ z. refl
step_same d (Nest p) = λ z. absurd (omega arith)

-- what is not refused at the end was not refused before
pub fine_before : (d : Sketch) (es : List ReadEvent) → (run_s d es).refusal ≡ 0 → d.refusal ≡ 0
fine_before d es h =
    by_bool (eqb d.refusal 0) (λ q. eqb-true d.refusal 0 q) (λ q. ap (λ (c : Sketch). c.refusal) (sym (run_refused d es q)) ∙ h)

pub places_free : (d : Sketch) (es : List ReadEvent) → (run_s d (unplaced es)).refusal ≡ 0 → run_s d es ≡ run_s d (unplaced es)
unfolding run_s unplaced
places_free d [] = λ h. refl
places_free d (e ∷ es) =
    by_bool (eqb d.refusal 0)
    (λ q. rw q (λ h. let s = step_same d e (fine_before (step_s d (placeless e)) (unplaced es) h) in rw s (places_free (step_s d (placeless e)) es h)))
    (λ q. rw q (λ h. refl))
