-- The round trip by the public walk order: the renumbering is read off the tables that the walk order hands out, whatever lengths
-- with room for the atoms were lent for them.
use Rattle.std.specs.Prelude.{ℕ, ◌≤◌, ◌≡◌, List, take}
use Rattle.read.specs.Read.{Said}
use Rattle.read.specs.Line.{read_text}
use Rattle.std.specs.Prelude.{Ok}
use Rattle.write.specs.Write.{graph_of, write_leaves}
use Rattle.write.specs.Order.{Order}
use Rattle.write.specs.Plain.{write_plain, order_plain}
use Rattle.trip_graph.specs.Renumbered.{renumbered}
use Rattle.round_trip.specs.RoundTrip.{Plain, Readable, read_as, by_order}

-- The walk order o is done, and the line is read as the graph renumbered by it, into tables of la and le words.
pub record ReadByOrder (atoms : List ℕ) (n : ℕ) (bonds : List ℕ) (m : ℕ) (o : Order) (la le : ℕ) (x : Said) : Type 0 where
  pub ordered : o.answer ≡ Ok n
  pub read : x ≡ read_as n m la le (renumbered (graph_of n atoms bonds) (by_order o))

-- lengths lent for a walk order that have room for n atoms
pub record Lent (n lw ln lb : ℕ) : Type 0 where
  pub walked : n ≤ lw
  pub number : n ≤ ln
  pub back : n ≤ lb

-- the demand of one job: a write into a lent output of so many bytes, a walk order into lw, ln and lb words, and a reading into la
-- and le words
abbrev pub TripByOrder : ℕ → List ℕ → ℕ → List ℕ → ℕ → ℕ → List ℕ → ℕ → ℕ → ℕ → ℕ → ℕ → Type 0
TripByOrder room atoms n bonds m len out lw ln lb la le =
    Plain (graph_of n atoms bonds) → write_plain room atoms n bonds m ≡ write_leaves (Ok len) out → Lent n lw ln lb → Readable (take len out) n m la le
    → ReadByOrder atoms n bonds m (order_plain lw ln lb atoms n bonds m) la le (read_text (take len out) la le)
