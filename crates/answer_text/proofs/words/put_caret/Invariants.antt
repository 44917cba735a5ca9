-- The output keeps its room.
use mathlib.Core.Path.{◌≡◌}
use Rattle.answer_text.proofs.words.put_caret.Given as goal

abbrev pub invariant-loop : goal.invariant-loop
invariant-loop l = l.out.room.ghost_name ≡ l.fn.out.room.ghost_name
