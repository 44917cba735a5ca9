-- Over a simple graph a walk is refused only where a target is no atom, where a mark would have to be turned and can't be, or where
-- no ring number is left.
use mathlib.Core.Path.{◌≡◌, refl, sym, subst}
use mathlib.Core.Logic.{◌≢◌}
use mathlib.Core.List.{List}
use mathlib.Core.Bool.{true}
use Prim.Native.Nat.{ℕ, ◌≤◌, ◌<◌}
use native.Mathlib.Omega.{arith}
use lib.ListN.{get_or}
use lib.Dec.{leb, eqb}
use borrow.Author.Tests.{eqb-true, leb-true, leb-false}
use Rattle.feature.specs.Pick.{both}
use Rattle.std.specs.Prelude.{None, Option, Result, Some, is_some}
use Rattle.walk_entry.specs.declared.WalkError.{WalkError}
use Rattle.walk_entry.specs.declared.WalkError.TheVariants.{UnknownTarget, RingNumbers, Inversion}
use Rattle.join_pool.specs.declared.Pool.{Pool}
use Rattle.walk_entry.specs.Graph.{BondEntry, Graph, kind_at, degree_at, bond_of}
use Rattle.walk_entry.specs.Ways.{is_fixed, even}
use Rattle.walk.specs.Walk.{Walk, Turn, took_at, numbered_of, ring_turn, tied_of, tie_turn, entered_of, enter_turn, bond_turn, walk_to}
use Rattle.walk_laws.specs.Trek.{Room, fresh}
use Rattle.feature.proofs.Cases.{by_test, both_first, clash}
use Rattle.walk_laws.proofs.Sound.{Sound, sound_start, up_within}
use Rattle.trip_graph.specs.Renumber.{Simple, Known}
use Rattle.trip_graph.specs.Marks.{Tetrahedral}
use Rattle.trip_graph.proofs.Marks.{marks_serve}
use Rattle.trip_graph.proofs.Ways.{way_is, tie_is}
use Rattle.trip_graph.proofs.Refused.{turns_hold}
use Rattle.walk.proofs.Place.{atom_at}

-- none, an entry whose target is no atom, want of a ring number, or a mark that can't be turned
pub data Only (g : Graph) (r : Option WalkError) : Type 0 where
  none : r ≡ None → Only g r
  unknown : (a i : ℕ) → r ≡ Some (UnknownTarget a (bond_of g a i).to) → a < g.size → i < degree_at g a → g.size ≤ (bond_of g a i).to → Only g r
  numbers : (s t : ℕ) → r ≡ Some (RingNumbers s t) → Only g r
  mark : (t : ℕ) → r ≡ Some (Inversion t) → t < g.size → is_fixed (kind_at g t) ≡ true → Only g r

module _ (g : Graph) (W : Simple g) (w : Walk) (dep : ℕ) (snd : Sound g w dep) (fine : w.at.refusal ≡ None) where
  abbrev O : Turn → Type 0
  O x = Only g x.after.at.refusal

  module _ (r : is_some w.at.here ≡ true) (more : get_or w.taken (atom_at w) 0 < degree_at g (atom_at w)) where
    abbrev s0 : ℕ
    s0 = atom_at w

    abbrev i0 : ℕ
    i0 = get_or w.taken s0 0

    abbrev e0 : BondEntry
    e0 = bond_of g s0 i0

    hs : s0 < g.size
    hs = up_within (snd.stands r)

    given_only : (x : Option (Pool × ℕ)) (pairs : List ℕ) → O (numbered_of (took_at w s0 i0) e0.kind s0 e0.to x pairs)
    unfolding numbered_of
    given_only None pairs = numbers s0 e0.to refl
    given_only (Some (p, n)) pairs = none fine

    enter_only : e0.to < g.size → O (enter_turn g (took_at w s0 i0) e0.kind s0 e0.to)
    unfolding enter_turn entered_of
    enter_only ht =
        let k = W.backed s0 i0 hs more in
        subst (λ (y : Result ℕ WalkError). O (entered_of g (took_at w s0 i0) e0.kind e0.to y)) (sym (way_is g W s0 i0 e0.to ht refl k))
        (by_test (λ (y : Result ℕ WalkError). O (entered_of g (took_at w s0 i0) e0.kind e0.to y)) (both (is_fixed (kind_at g e0.to)) (even k.place))
        (λ q. mark e0.to refl ht (both_first _ _ q)) (λ q. none fine))

    tie_only : e0.to < g.size → O (tie_turn g (took_at w s0 i0) e0.kind s0 e0.to)
    unfolding tie_turn tied_of ring_turn
    tie_only ht =
        subst (λ (y : Result ℕ WalkError). O (tied_of (took_at w s0 i0) e0.kind s0 e0.to y)) (sym (tie_is g W s0 i0 e0.to hs more ht refl (W.backed s0 i0 hs more)))
        (given_only _ _)

    bond_only : O (bond_turn g (took_at w s0 i0) s0 e0)
    unfolding bond_turn
    bond_only =
        by_test O (leb g.size e0.to) (λ z. unknown s0 i0 refl hs more (leb-true g.size e0.to z))
        (λ z. by_test O (eqb e0.to s0) (λ y. absurd (W.apart s0 i0 hs more (eqb-true _ _ y)))
        (λ y. by_test O (eqb (get_or w.met e0.to 0) 0) (λ x. enter_only (leb-false _ _ z)) (λ x. tie_only (leb-false _ _ z))))

-- so a walk over a simple graph is never refused with 6 to 9, and with 5 only at a target that is no atom, whatever its turns and
-- its pool's words
pub only_refusals : (g : Graph) → Simple g → (lm lw lb lt : ℕ) (pairs : List ℕ) → Room g lm lb lt → (t : ℕ) → Only g (walk_to g t (fresh lm lw lb lt pairs)).at.refusal
only_refusals g W lm lw lb lt pairs r t =
    turns_hold g (Only g) (bond_only g W) t (fresh lm lw lb lt pairs) 0 (sound_start g lm lw lb lt pairs r) (none refl)

-- and not with 5 where every target is an atom, nor with 10 where no kind has a configuration but TH1 or TH2
pub rings_only : (g : Graph) → Simple g → Known g → ((a : ℕ) → a < g.size → Tetrahedral (kind_at g a)) → (lm lw lb lt : ℕ) (pairs : List ℕ) → Room g lm lb lt → (t : ℕ)
    → (walk_to g t (fresh lm lw lb lt pairs)).at.refusal ≢ None → (s : ℕ) × (u : ℕ) × ((walk_to g t (fresh lm lw lb lt pairs)).at.refusal ≡ Some (RingNumbers s u))
rings_only g W K T lm lw lb lt pairs r t h = go (only_refusals g W lm lw lb lt pairs r t)
  where
    go : Only g (walk_to g t (fresh lm lw lb lt pairs)).at.refusal → (s : ℕ) × (u : ℕ) × ((walk_to g t (fresh lm lw lb lt pairs)).at.refusal ≡ Some (RingNumbers s u))
    go (none e) = absurd (h e)
    go (unknown a i e l q f) = absurd (omega (arith, f, K a i l q))
    go (numbers s u e) = (s, u, e)
    go (mark a e l f) = clash f (marks_serve.free (kind_at g a) (T a l))
