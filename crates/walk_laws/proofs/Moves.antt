-- What one turn of a walk can do: nine ways, each with what is known where it is taken. Assumes nothing.
use Prim.Native.Nat.{ℕ, zero, suc, ◌+◌, ◌-◌, ◌≤◌, ◌<◌}
use mathlib.Core.Path.{◌≡◌, refl, ap, ◌∙◌}
use mathlib.Core.Logic.{◌≢◌}
use mathlib.Core.List.{List, [], ◌∷◌}
use mathlib.Core.Bool.{Bool, true, false}
use native.Mathlib.Omega.{arith}
use lib.ListN.{get_or}
use lib.Dec.{leb, eqb}
use borrow.Author.Tests.{eqb-true, eqb-false, leb-true, leb-false}
use Rattle.feature.proofs.Cases.{by_test}
use Rattle.feature.specs.Pick.{both}
use Rattle.feature.specs.Bonds.{same_kind, reverse_of}
use Rattle.feature.specs.declared.atom_kind.AtomKind.{AtomKind}
use Rattle.feature.specs.declared.bond_kind.BondKind.{BondKind}
use Rattle.join_pool.specs.declared.Pool.{Pool}
use Rattle.std.specs.Prelude.{Err, None, Ok, Option, Result, Some, is_some}
use Rattle.walk_entry.specs.declared.WalkError.{WalkError}
use Rattle.writer.specs.Line.{Root, Extend, Join}
use Rattle.walk_entry.specs.declared.entry.Back.{Back}
use Rattle.walk_entry.specs.declared.entry.Back.TheVariants.{Found, Twice, Fixed}
use Rattle.walk_entry.specs.Graph.{BondEntry, Graph, degree_at, bond_in, bond_of}
use Rattle.walk_entry.specs.Ways.{even, scan_in, scan_of, judged_back, way_of}
use Rattle.walk.specs.declared.walker.Walker.{Walker}
use Rattle.walk.specs.Walk.{Walk, Turn, turn, quiet, refuse_turn, root_passed, back_at, at_end, ring_said, with_walker, pooled, met_at, took_at, pops_then, left_in, root_turn, leave_of, numbered_of, ring_turn, tied_of, tie_turn, entered_of, enter_turn, bond_turn, entry_turn, atom_of, turn_of}
use Rattle.walk.proofs.Place.{atom_at, by_place}

-- how many entries of the current atom were taken
abbrev pub taken_of : Walk → ℕ
taken_of w = get_or w.taken (atom_at w) 0

-- that one more was taken
abbrev pub took_one : Walk → Walk
took_one w = took_at w (atom_at w) (taken_of w)

-- the atom that the current one was reached from
abbrev pub parent_of : Graph → List ℕ → ℕ → ℕ
parent_of g back a = (bond_in g.bonds g.first a (get_or back a 0 - 1)).to

-- A turn from w to x. So many atoms are on the way from the current atom up to its root, both counted, and 0 where there
-- is none: d before the turn, and the last number after it. The tables do not hold that number: the turns keep it.
pub data Move (g : Graph) (w : Walk) (d : ℕ) : Turn → ℕ → Type 0 where
  still : is_some w.at.here ≡ false → g.size ≤ w.at.next → Move g w d (quiet w) d
  skip : is_some w.at.here ≡ false → w.at.next < g.size → get_or w.met w.at.next 0 ≢ 0 → Move g w d (quiet (with_walker w (root_passed w.at))) d
  root : is_some w.at.here ≡ false → w.at.next < g.size → get_or w.met w.at.next 0 ≡ 0 → (k : AtomKind)
      → Move g w d (turn (met_at w (root_passed w.at) w.at.next 0) (Root k ∷ [])) 1
  ends : is_some w.at.here ≡ true → get_or w.back (atom_at w) 0 ≡ 0 → Move g w d (quiet (with_walker w (at_end w.at))) 0
  leaves : is_some w.at.here ≡ true → get_or w.back (atom_at w) 0 ≢ 0
      → Move g w d (quiet (with_walker w (back_at w.at (parent_of g w.back (atom_at w))))) (d - 1)
  takes : is_some w.at.here ≡ true → taken_of w < degree_at g (atom_at w) → Move g w d (quiet (took_one w)) d
  refuses : is_some w.at.here ≡ true → taken_of w < degree_at g (atom_at w) → (pairs : List ℕ) (why : WalkError)
      → Move g w d (refuse_turn (pooled (took_one w) pairs) why) d
  joins : is_some w.at.here ≡ true → taken_of w < degree_at g (atom_at w) → (pairs : List ℕ) (p : Pool) (k : BondKind) (n : ℕ)
      → Move g w d (turn (with_walker (pooled (took_one w) pairs) (ring_said w.at p)) (pops_then w.at.pend (Join k n))) d
  enters : is_some w.at.here ≡ true → taken_of w < degree_at g (atom_at w) → (t b : ℕ) → t < g.size → get_or w.met t 0 ≡ 0
      → b ≢ 0 → (bond_of g t (b - 1)).to ≡ atom_at w → (e : BondKind) (k : AtomKind)
      → Move g w d (turn (met_at (took_one w) w.at t b) (pops_then w.at.pend (Extend e k))) (suc d)

-- ---- the entry back of an atom that can be entered leads to the source
BackTo : List ℕ → List ℕ → ℕ → ℕ → Back → Type 0
BackTo bonds first t s (Found b) = b ≢ 0 → (bond_in bonds first t (b - 1)).to ≡ s
BackTo bonds first t s Twice = Unit {0}
BackTo bonds first t s Fixed = Unit {0}

scan_back : (bonds first : List ℕ) (t s : ℕ) (fixed : Bool) (n back : ℕ) → (back ≢ 0 → (bond_in bonds first t (back - 1)).to ≡ s)
    → BackTo bonds first t s (scan_in bonds first t s fixed n back)
unfolding scan_in BackTo
scan_back bonds first t s fixed zero back h = h
scan_back bonds first t s fixed (suc i) back h =
    let e : suc i - 1 ≡ i = omega arith in
    by_test (BackTo bonds first t s) (eqb (bond_in bonds first t i).to s)
    (λ q. by_test (BackTo bonds first t s) (both fixed (even i)) (λ z. tt)
    (λ z. by_test (BackTo bonds first t s) (eqb back 0)
    (λ y. scan_back bonds first t s fixed i (suc i) (λ ne. ap (λ (j : ℕ). (bond_in bonds first t j).to) e ∙ eqb-true _ _ q)) (λ y. tt)))
    (λ q. scan_back bonds first t s fixed i back h)

-- so an atom is entered only by such an entry
unfoldable pub EntersBy : Graph → ℕ → ℕ → Result ℕ WalkError → Type 0
EntersBy g s t (Ok b) = (b ≢ 0) × ((bond_of g t (b - 1)).to ≡ s)
EntersBy g s t (Err why) = Unit {0}

judged_back_lem : (g : Graph) (k : BondKind) (s t : ℕ) (x : Back) → BackTo g.bonds g.first t s x → EntersBy g s t (judged_back g k s t x)
unfolding judged_back BackTo EntersBy
judged_back_lem g k s t Fixed h = tt
judged_back_lem g k s t Twice h = tt
judged_back_lem g k s t (Found b) h =
    by_test (EntersBy g s t) (eqb b 0) (λ q. tt)
    (λ q. by_test (EntersBy g s t) (same_kind (bond_of g t (b - 1)).kind (reverse_of k))
    (λ z. (eqb-false _ _ q, h (eqb-false _ _ q))) (λ z. tt))

pub way_back : (g : Graph) (k : BondKind) (s t : ℕ) → EntersBy g s t (way_of g k s t)
unfolding way_of
way_back g k s t = judged_back_lem g k s t (scan_of g t s) (scan_back g.bonds g.first t s _ (degree_at g t) 0 (λ z. absurd (z refl)))

-- ---- the ways through a turn
module _ (g : Graph) (w : Walk) (d : ℕ) where
  abbrev Moves : Turn → Type 0
  Moves x = (n : ℕ) × Move g w d x n

  root_moves : is_some w.at.here ≡ false → Moves (root_turn g w)
  unfolding root_turn
  root_moves s =
      by_test Moves (leb g.size w.at.next) (λ q. (d, still s (leb-true _ _ q)))
      (λ q. by_test Moves (eqb (get_or w.met w.at.next 0) 0)
      (λ z. (1, root s (leb-false _ _ q) (eqb-true _ _ z) _))
      (λ z. (d, skip s (leb-false _ _ q) (eqb-false _ _ z))))

  left_moves : is_some w.at.here ≡ true → Moves (leave_of g w (atom_at w))
  unfolding left_in
  left_moves s =
      by_test (λ (z : Walker). Moves (quiet (with_walker w z))) (eqb (get_or w.back (atom_at w) 0) 0)
      (λ q. (0, ends s (eqb-true _ _ q))) (λ q. (d - 1, leaves s (eqb-false _ _ q)))

  module _ (s : is_some w.at.here ≡ true) (more : taken_of w < degree_at g (atom_at w)) where
    given_moves : (k : BondKind) (t : ℕ) (x : Option (Pool × ℕ)) (pairs : List ℕ) → Moves (numbered_of (took_one w) k (atom_at w) t x pairs)
    unfolding numbered_of
    given_moves k t None pairs = (d, refuses s more pairs _)
    given_moves k t (Some (p, n)) pairs = (d, joins s more pairs p k n)

    way_moves : (k : BondKind) (t : ℕ) → t < g.size → get_or w.met t 0 ≡ 0 → (x : Result ℕ WalkError) → EntersBy g (atom_at w) t x → Moves (entered_of g (took_one w) k t x)
    unfolding entered_of EntersBy
    way_moves k t h m (Err why) e = (d, refuses s more w.pairs why)
    way_moves k t h m (Ok b) e = (suc d, enters s more t b h m e.0 e.1 k _)

    tied_moves : (k : BondKind) (t : ℕ) (x : Result ℕ WalkError) → Moves (tied_of (took_one w) k (atom_at w) t x)
    unfolding tied_of ring_turn
    tied_moves k t (Err why) = (d, refuses s more w.pairs why)
    tied_moves k t (Ok b) = given_moves k t _ _

    bond_moves : (b : BondEntry) → Moves (bond_turn g (took_one w) (atom_at w) b)
    unfolding bond_turn enter_turn tie_turn
    bond_moves b =
        by_test Moves (leb g.size b.to) (λ q. (d, refuses s more w.pairs _))
        (λ q. by_test Moves (eqb b.to (atom_at w)) (λ z. (d, refuses s more w.pairs _))
        (λ z. by_test Moves (eqb (get_or w.met b.to 0) 0)
        (λ y. way_moves b.kind b.to (leb-false _ _ q) (eqb-true _ _ y) _ (way_back g b.kind (atom_at w) b.to))
        (λ y. tied_moves b.kind b.to _)))

    entry_moves : Moves (entry_turn g w (atom_at w) (taken_of w))
    unfolding entry_turn
    entry_moves =
        by_test Moves (eqb (get_or w.back (atom_at w) 0) (taken_of w + 1)) (λ q. (d, takes s more)) (λ q. bond_moves _)

  atom_moves : is_some w.at.here ≡ true → Moves (atom_of g w (atom_at w))
  unfolding atom_of
  atom_moves s =
      by_test Moves (leb (degree_at g (atom_at w)) (taken_of w)) (λ q. left_moves s) (λ q. entry_moves s (leb-false _ _ q))

  pub turn_moves : (n : ℕ) × Move g w d (turn_of g w) n
  turn_moves = by_place Moves g w atom_moves root_moves
