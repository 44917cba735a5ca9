-- The output keeps its room.
use mathlib.Core.Path.{◌≡◌}
use Rattle.answer_text.proofs.tables.put_graph.Given as goal

abbrev pub invariant-loop-atom : goal.invariant-loop-atom
invariant-loop-atom l = l.out.room.ghost_name ≡ l.fn.out.room.ghost_name
