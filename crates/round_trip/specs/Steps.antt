-- Steps of the proofs: no public claim rests on these definitions.
-- The round trip over the walk by turns. `RoundTrip` says the same of what the calls promise.
use Rattle.std.specs.Prelude.{ℕ, ◌≡◌, List, false, take}
use Rattle.read_line.specs.Parse.{parse}
use Rattle.builder_meaning.specs.Sketch.{Node}
use Rattle.read.specs.Line.{read_text}
use Rattle.std.specs.Prelude.{Ok}
use Rattle.write.specs.Write.{graph_of, walk_of, write_leaves, write_of}
use Rattle.trip_graph.specs.Renumbered.{by_walk, renumbered}
use Rattle.round_trip.specs.RoundTrip.{Plain, Readable, read_as}
use Rattle.read_line.specs.Events.{has_nest}

-- the graph of tables handed in for writing, renumbered by the walk of the write call
abbrev pub back_by_turns : List ℕ → ℕ → List ℕ → ℕ → List Node
back_by_turns atoms n bonds m = renumbered (graph_of n atoms bonds) (by_walk (walk_of atoms n bonds m))

-- the demand of one job: a write into a lent output of so many bytes, and a reading into la and lb words
abbrev pub TripByTurns : ℕ → List ℕ → ℕ → List ℕ → ℕ → ℕ → List ℕ → ℕ → ℕ → Type 0
TripByTurns room atoms n bonds m len out la lb =
    Plain (graph_of n atoms bonds) → write_of room atoms n bonds m ≡ write_leaves (Ok len) out → Readable (take len out) n m la lb
    → read_text (take len out) la lb ≡ read_as n m la lb (back_by_turns atoms n bonds m)

-- The corollary on two jobs: two such graphs with the same line have the same renumbering. Of the line it is asked that no branch in
-- it is too many; nothing of its length, and no room is lent.
abbrev pub OneLineByTurns : ℕ → List ℕ → ℕ → List ℕ → ℕ → ℕ → List ℕ → ℕ → List ℕ → ℕ → List ℕ → ℕ → ℕ → List ℕ → Type 0
OneLineByTurns r1 a1 n1 b1 m1 l1 o1 r2 a2 n2 b2 m2 l2 o2 =
    Plain (graph_of n1 a1 b1) → Plain (graph_of n2 a2 b2) → write_of r1 a1 n1 b1 m1 ≡ write_leaves (Ok l1) o1 → write_of r2 a2 n2 b2 m2 ≡ write_leaves (Ok l2) o2
    → take l1 o1 ≡ take l2 o2 → has_nest (parse (take l1 o1)) ≡ false
    → back_by_turns a1 n1 b1 m1 ≡ back_by_turns a2 n2 b2 m2
