-- The invariant: lowered as far as the loop has come, and what was there from there on.
use mathlib.Core.Path.{◌≡◌}
use mathlib.Core.List.{◌++◌}
use lib.ListN.{take, drop}
use Rattle.write.specs.Order.{lowered}
use Rattle.write.proofs.order.lower.Given as goal

abbrev pub invariant-loop-mark : goal.invariant-loop-mark
invariant-loop-mark l =
    l.number ≡ take l.mark-index (lowered l.initial.number) ++ drop l.mark-index l.initial.number
