-- What the answers to a graph that is to be written or walked say of its bonds.
use Rattle.std.specs.Prelude.{◌≡◌, Bool, true, false, ℕ, ◌≤◌, ◌<◌}
use Rattle.walk_entry.specs.Graph.{Graph, degree_at, bond_of}
use Rattle.std.specs.Prelude.{Err, Ok, Result}
use Rattle.walk_entry.specs.declared.WalkError.TheVariants.{UnknownTarget, Loop, HalfBond, DuplicateBond, IncompatibleBond, Inversion, RingNumbers}
use Rattle.write.specs.declared.answer.WriteError.{WriteError}
use Rattle.write.specs.declared.answer.WriteError.TheVariants.{Stopped, AtomRoom, BondRoom, OutRoom, BadTable}
use Rattle.trip_graph.specs.Renumber.{Backed, Simple, Known}

-- the walk came to its end: the graph is done, or only the output is too short for its line (0, 16)
unfoldable pub is_walked : Result ℕ WriteError → Bool
is_walked (Ok n) = true
is_walked (Err (OutRoom n)) = true
is_walked (Err (Stopped (UnknownTarget a b))) = false
is_walked (Err (Stopped (Loop a))) = false
is_walked (Err (Stopped (HalfBond a b))) = false
is_walked (Err (Stopped (DuplicateBond a b))) = false
is_walked (Err (Stopped (IncompatibleBond a b))) = false
is_walked (Err (Stopped (Inversion a))) = false
is_walked (Err (Stopped (RingNumbers a b))) = false
is_walked (Err (AtomRoom n)) = false
is_walked (Err (BondRoom m)) = false
is_walked (Err (BadTable r)) = false

-- the walk was refused for a bond (5 to 9)
unfoldable pub blames_bond : Result ℕ WriteError → Bool
blames_bond (Err (Stopped (UnknownTarget a b))) = true
blames_bond (Err (Stopped (Loop a))) = true
blames_bond (Err (Stopped (HalfBond a b))) = true
blames_bond (Err (Stopped (DuplicateBond a b))) = true
blames_bond (Err (Stopped (IncompatibleBond a b))) = true
blames_bond (Ok n) = false
blames_bond (Err (OutRoom n)) = false
blames_bond (Err (Stopped (Inversion a))) = false
blames_bond (Err (Stopped (RingNumbers a b))) = false
blames_bond (Err (AtomRoom n)) = false
blames_bond (Err (BondRoom m)) = false
blames_bond (Err (BadTable r)) = false

-- A graph with an atom whose walk comes to its end is simple, each bond held at both ends as the other's reverse, and every target
-- is an atom. A graph that is so is never refused for a bond. So, the tables admitted (13, 14, 17), a walk comes to its end exactly
-- if the graph is so, but for a mark that can't be turned (10) and want of a ring number (11).
pub record SaysBonds (g : Graph) (x : Result ℕ WriteError) : Type 0 where
  pub simple : 1 ≤ g.size → is_walked x ≡ true → Simple g
  pub known : is_walked x ≡ true → Known g
  pub fair : Simple g → Known g → blames_bond x ≡ false

-- ---- graphs that are held at both ends
-- every target is an atom that has an entry back, the reverse; there may be bonds from an atom to itself, and more than one between
-- two atoms
pub record Held (g : Graph) : Type 0 where
  pub known : Known g
  pub backed : (a i : ℕ) → a < g.size → i < degree_at g a → Backed g a (bond_of g a i).to (bond_of g a i)

-- the walk was refused for what no such graph has: a target that is no atom, a bond with one end, two ends that do not match (5, 7, 9)
unfoldable pub blames_end : Result ℕ WriteError → Bool
blames_end (Err (Stopped (UnknownTarget a b))) = true
blames_end (Err (Stopped (HalfBond a b))) = true
blames_end (Err (Stopped (IncompatibleBond a b))) = true
blames_end (Err (Stopped (Loop a))) = false
blames_end (Err (Stopped (DuplicateBond a b))) = false
blames_end (Ok n) = false
blames_end (Err (OutRoom n)) = false
blames_end (Err (Stopped (Inversion a))) = false
blames_end (Err (Stopped (RingNumbers a b))) = false
blames_end (Err (AtomRoom n)) = false
blames_end (Err (BondRoom m)) = false
blames_end (Err (BadTable r)) = false
