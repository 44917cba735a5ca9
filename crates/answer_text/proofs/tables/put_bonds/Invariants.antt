-- The output keeps its room.
use mathlib.Core.Path.{◌≡◌}
use Rattle.answer_text.proofs.tables.put_bonds.Given as goal

abbrev pub invariant-loop-record : goal.invariant-loop-record
invariant-loop-record l = l.out.room.ghost_name ≡ l.fn.out.room.ghost_name
