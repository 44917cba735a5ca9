-- The output keeps its room.
use mathlib.Core.Path.{◌≡◌}
use Rattle.oracle_form.proofs.text.put.Given as goal

abbrev pub invariant-loop-b : goal.invariant-loop-b
invariant-loop-b l = l.out.room.ghost_name ≡ l.fn.out.room.ghost_name
