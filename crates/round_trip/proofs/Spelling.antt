-- Every atom that a walk says is of a kind that survives, if those of the graph are; and what is said has a text if its ring
-- numbers have.
use Prim.Native.Nat.{ℕ, zero, suc, ◌+◌, ◌<◌}
use mathlib.Core.Path.{◌≡◌}
use mathlib.Core.List.{List, [], ◌∷◌, ◌++◌, map}
use mathlib.Core.Bool.{Bool, true}
use lib.ListN.{get_or}
use lib.Dec.{leb, eqb}
use borrow.Author.Tests.{leb-false}
use Rattle.feature.specs.Kinds.{in_range}
use Rattle.feature.specs.declared.atom_kind.AtomKind.{AtomKind}
use Rattle.feature.specs.declared.bond_kind.BondKind.{BondKind}
use Rattle.survive.specs.Survive.{survives}
use Rattle.survive.proofs.ReadBack.{alone}
use Rattle.std.specs.Prelude.{Err, None, Ok, Option, Result, Some, is_none}
use Rattle.walk_entry.specs.declared.WalkError.{WalkError}
use Rattle.join_pool.specs.declared.Pool.{Pool}
use Rattle.writer.specs.Line.{Event, Root, Extend, Join, Pop}
use Rattle.walk_entry.specs.Graph.{BondEntry, Graph, kind_at, degree_at, bond_of}
use Rattle.walk_entry.specs.Ways.{said_as, way_of}
use Rattle.walk_entry.specs.Ties.{tie_of}
use Rattle.walk.specs.Walk.{Walk, Turn, took_at, pops_of, pops_then, root_turn, numbered_of, ring_turn, tied_of, tie_turn, entered_of, enter_turn, bond_turn, entry_turn, atom_of, step_of, events_of}
use Rattle.feature.proofs.Cases.{by_test}
use Rattle.trip_text.specs.Steps.{Spellable}
use Rattle.trip_text.proofs.StarredLine.{bare_said, Ranged}
use Rattle.trip_graph.specs.Opened.{RingsHaveText}
use Rattle.walk.proofs.Place.{atom_at, by_place}

-- ---- events
-- each atom's kind passes a test
abbrev pub Kept : (AtomKind → Bool) → List Event → Type 0
Kept f [] = Unit {0}
Kept f (Root k ∷ es) = (f k ≡ true) × Kept f es
Kept f (Extend b k ∷ es) = (f k ≡ true) × Kept f es
Kept f (Join b r ∷ es) = Kept f es
Kept f (Pop d ∷ es) = Kept f es

-- that of those that survive
pub kept_spelled : (es : List Event) → Kept survives es → RingsHaveText es → Spellable es
kept_spelled [] h n = tt
kept_spelled (Root k ∷ es) h n = (alone k h.0, kept_spelled es h.1 n)
kept_spelled (Extend b k ∷ es) h n = (alone k h.0, kept_spelled es h.1 n)
kept_spelled (Join b r ∷ es) h n = (n.0, kept_spelled es h n.1)
kept_spelled (Pop d ∷ es) h n = kept_spelled es h n

-- that of those in range
pub kept_ranged : (es : List Event) → Kept in_range es → RingsHaveText (map bare_said es) → Ranged es
unfolding bare_said
kept_ranged [] h n = tt
kept_ranged (Root k ∷ es) h n = (h.0, kept_ranged es h.1 n)
kept_ranged (Extend b k ∷ es) h n = (h.0, kept_ranged es h.1 n)
kept_ranged (Join b r ∷ es) h n = (n.0, kept_ranged es h n.1)
kept_ranged (Pop d ∷ es) h n = kept_ranged es h n

kept_app : (f : AtomKind → Bool) (xs ys : List Event) → Kept f xs → Kept f ys → Kept f (xs ++ ys)
kept_app f [] ys h k = k
kept_app f (Root a ∷ xs) ys h k = (h.0, kept_app f xs ys h.1 k)
kept_app f (Extend b a ∷ xs) ys h k = (h.0, kept_app f xs ys h.1 k)
kept_app f (Join b n ∷ xs) ys h k = kept_app f xs ys h k
kept_app f (Pop d ∷ xs) ys h k = kept_app f xs ys h k

kept_pops : (f : AtomKind → Bool) (p : ℕ) (e : Event) → Kept f (e ∷ []) → Kept f (pops_then p e)
unfolding pops_of
kept_pops f p e h = by_test (λ (x : List Event). Kept f (x ++ (e ∷ []))) (eqb p 0) (λ q. h) (λ q. h)

-- ---- a turn
-- with a test that what is said of a kind passes where the kind does
module _ (f : AtomKind → Bool) (S : (k : AtomKind) (b : ℕ) → f k ≡ true → f (said_as k b) ≡ true) (g : Graph) (K : (a : ℕ) → a < g.size → f (kind_at g a) ≡ true) (w : Walk) where
  abbrev Fine : Turn → Type 0
  Fine x = Kept f x.said

  fine_root : Fine (root_turn g w)
  unfolding root_turn
  fine_root =
      by_test Fine (leb g.size w.at.next) (λ q. tt)
      (λ q. by_test Fine (eqb (get_or w.met w.at.next 0) 0)
      (λ z. (S _ 0 (K w.at.next (leb-false _ _ q)), tt)) (λ z. tt))

  fine_given : (k : BondKind) (s t : ℕ) (x : Option (Pool × ℕ)) (pairs : List ℕ) → Fine (numbered_of w k s t x pairs)
  unfolding numbered_of
  fine_given k s t None pairs = tt
  fine_given k s t (Some (p, n)) pairs = kept_pops f w.at.pend (Join k n) tt

  fine_way : (k : BondKind) (t : ℕ) → t < g.size → (x : Result ℕ WalkError) → Fine (entered_of g w k t x)
  unfolding entered_of
  fine_way k t l (Err why) = tt
  fine_way k t l (Ok b) = kept_pops f w.at.pend (Extend k (said_as (kind_at g t) b)) (S (kind_at g t) b (K t l), tt)

  fine_tied : (k : BondKind) (s t : ℕ) (x : Result ℕ WalkError) → Fine (tied_of w k s t x)
  unfolding tied_of ring_turn
  fine_tied k s t (Err why) = tt
  fine_tied k s t (Ok b) = fine_given k s t _ _

  fine_bond : (s : ℕ) (b : BondEntry) → Fine (bond_turn g w s b)
  unfolding bond_turn enter_turn tie_turn
  fine_bond s b =
      by_test Fine (leb g.size b.to) (λ q. tt)
      (λ q. by_test Fine (eqb b.to s) (λ z. tt)
      (λ z. by_test Fine (eqb (get_or w.met b.to 0) 0)
      (λ y. fine_way b.kind b.to (leb-false _ _ q) (way_of g b.kind s b.to))
      (λ y. fine_tied b.kind s b.to (tie_of g b.kind s b.to))))

module _ (f : AtomKind → Bool) (S : (k : AtomKind) (b : ℕ) → f k ≡ true → f (said_as k b) ≡ true) (g : Graph) (K : (a : ℕ) → a < g.size → f (kind_at g a) ≡ true) where
  abbrev Said : Turn → Type 0
  Said x = Kept f x.said

  fine_atom : (w : Walk) (a : ℕ) → Said (atom_of g w a)
  unfolding atom_of entry_turn
  fine_atom w a =
      by_test Said (leb (degree_at g a) (get_or w.taken a 0)) (λ q. tt)
      (λ q. by_test Said (eqb (get_or w.back a 0) (get_or w.taken a 0 + 1)) (λ z. tt)
      (λ z. fine_bond f S g K (took_at w a (get_or w.taken a 0)) a (bond_of g a (get_or w.taken a 0))))

  fine_step : (w : Walk) → Said (step_of g w)
  unfolding step_of
  fine_step w =
      by_test Said (is_none w.at.refusal)
      (λ q. by_place Said g w (λ z. fine_atom w (atom_at w)) (λ z. fine_root f S g K w)) (λ q. tt)

  pub kept_turns : (t : ℕ) (w : Walk) → Kept f (events_of g t w)
  unfolding events_of
  kept_turns zero w = tt
  kept_turns (suc t) w = kept_app f (step_of g w).said (events_of g t (step_of g w).after) (fine_step w) (kept_turns t (step_of g w).after)
