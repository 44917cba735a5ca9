-- The output keeps its room.
use mathlib.Core.Path.{◌≡◌}
use Rattle.answer_text.proofs.words.put_shown.Given as goal

abbrev pub invariant-loop-b : goal.invariant-loop-b
invariant-loop-b l = l.out.room.ghost_name ≡ l.fn.out.room.ghost_name
