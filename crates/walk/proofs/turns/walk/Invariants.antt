-- The invariant: what is left of the walk comes to the whole of it.
use Prim.Native.Nat.{◌-◌}
use Rattle.writer.specs.Lent.{spoken_in, SameLine}
use Rattle.walk_entry.specs.Graph.{seen}
use Rattle.walk.specs.Walk.{turns_of}
use Rattle.walk.specs.Steps.{held_in, SameTables}
use Rattle.walk.proofs.Going.{Going}
use Rattle.walk.proofs.turns.walk.Given as goal

abbrev pub invariant-loop : goal.invariant-loop
invariant-loop l =
    Going (seen l.g) (turns_of l.g.size l.entries) (held_in l.initial.walker l.initial.tables) (spoken_in l.initial.line) (l.end - l.counter) (held_in l.walker l.tables) (spoken_in l.line)
    × SameTables l.initial.tables l.tables
    × SameLine l.initial.line l.line
