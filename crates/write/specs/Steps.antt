-- Steps of the proofs: no public claim rests on these definitions.
-- The rooms of a write: what it may rely on before its work tables are chosen. Their lengths do not matter, as long as they have
-- room for the atoms.
use Rattle.std.specs.Prelude.{ℕ, ◌≤◌, ◌-◌, ◌≡◌, List, [], ◌++◌, length, get_or, take}
use Rattle.table.specs.Limits.{atom_limit, bond_limit}
use Rattle.table.specs.Zeros.{zeros}
use Rattle.write.specs.Write.{pair_words, WriteLeft, line_concluded}
use Rattle.table.specs.Starts.{entry_starts}
use Rattle.writer.specs.Line.{Event, line_of, write_events}
use Rattle.walk_entry.specs.Graph.{Graph, graph}
use Rattle.walk.specs.Walk.{Walk, walk_to, events_of, turns_of}
use Rattle.walk_laws.specs.Trek.{fresh}
use Rattle.std.specs.Prelude.{Err, Ok, Result}
use Rattle.write.specs.declared.answer.WriteError.{WriteError}
use Rattle.write.specs.declared.answer.WriteError.TheVariants.{Stopped, AtomRoom, BondRoom, OutRoom, BadTable}
use Rattle.write.specs.Order.{lowered, Order}

-- counts within the limits, and an output of zeros
pub record Writable (n m : ℕ) (out : List ℕ) : Type 0 where
  pub atoms : n ≤ atom_limit
  pub bonds : m ≤ bond_limit
  pub empty : out ≡ zeros (length out)

-- work tables of zeros, each with room for the atoms, and a pool's
pub record WorkCleared (n : ℕ) (first met walked back taken pairs starts : List ℕ) : Type 0 where
  pub room : n ≤ length first
  pub most : length first ≤ atom_limit
  pub firsts : first ≡ zeros (length first)
  pub marks : met ≡ zeros (length first)
  pub order : walked ≡ zeros (length first)
  pub backs : back ≡ zeros (length first)
  pub takes : taken ≡ zeros (length first)
  pub slots : pairs ≡ zeros pair_words
  pub pieces : starts ≡ zeros (length first)

-- ---- tables of other lengths. The walk order walks on the tables that its caller lent, the write call on the largest: what the
-- one hands out is the other's, cut to the atoms and with zeros after them. And a write on smaller work tables writes the same.

-- ---- what the walk order hands out
-- the first n words of a table in one of l words, zeros after them
abbrev pub cut_to : ℕ → ℕ → List ℕ → List ℕ
cut_to n l words = take n words ++ zeros (l - n)

-- A walk order of n atoms in tables of these lengths is done, and they hold what the walk w left: the atoms in walk order, the
-- number of each, which is one less than its mark, and the places of the entries back.
pub record Handed (n walked-long number-long back_long : ℕ) (w : Walk) (o : Order) : Type 0 where
  pub done : o.answer ≡ Ok n
  pub walked : o.walked ≡ cut_to n walked-long w.walked
  pub number : o.number ≡ cut_to n number-long (lowered w.met)
  pub back : o.back ≡ cut_to n back_long w.back

-- So they look like its tables everywhere, a number one less than the mark.
pub record Looks (w : Walk) (o : Order) : Type 0 where
  pub walked : (v : ℕ) → get_or o.walked v 0 ≡ get_or w.walked v 0
  pub number : (a : ℕ) → get_or o.number a 0 ≡ get_or w.met a 0 - 1
  pub back : (a : ℕ) → get_or o.back a 0 ≡ get_or w.back a 0

-- the walk order's answer by the write call's: it has no output, so no want of room in it, and counts atoms, not bytes
unfoldable pub as_order : ℕ → Result ℕ WriteError → Result ℕ WriteError
as_order n (Ok len) = Ok n
as_order n (Err (OutRoom len)) = Ok n
as_order n (Err (Stopped why)) = Err (Stopped why)
as_order n (Err (AtomRoom k)) = Err (AtomRoom k)
as_order n (Err (BondRoom k)) = Err (BondRoom k)
as_order n (Err (BadTable k)) = Err (BadTable k)

-- ---- a write on work tables of k words each: where entries begin, marks, atoms walked, entries back, entries taken, and where
-- the pieces of the line begin
abbrev pub graph_in : ℕ → ℕ → List ℕ → List ℕ → Graph
graph_in k n atoms bonds = graph n atoms bonds (entry_starts n atoms (zeros k))

unfoldable pub small_walk : ℕ → List ℕ → ℕ → List ℕ → ℕ → Walk
small_walk k atoms n bonds m = walk_to (graph_in k n atoms bonds) (turns_of n m) (fresh k k k k (zeros pair_words))

unfoldable pub small_said : ℕ → List ℕ → ℕ → List ℕ → ℕ → List Event
small_said k atoms n bonds m = events_of (graph_in k n atoms bonds) (turns_of n m) (fresh k k k k (zeros pair_words))

unfoldable pub small_written : ℕ → ℕ → List ℕ → ℕ → List ℕ → ℕ → WriteLeft
small_written k room atoms n bonds m =
    line_concluded room (small_walk k atoms n bonds m).at (line_of (write_events k (small_said k atoms n bonds m) []))
