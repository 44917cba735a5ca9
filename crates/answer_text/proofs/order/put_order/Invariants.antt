-- The output keeps its room.
use mathlib.Core.Path.{◌≡◌}
use Rattle.answer_text.proofs.order.put_order.Given as goal

abbrev pub invariant-loop-i : goal.invariant-loop-i
invariant-loop-i l = l.out.room.ghost_name ≡ l.fn.out.room.ghost_name
