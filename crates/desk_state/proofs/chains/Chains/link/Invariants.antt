use Rattle.desk_state.specs.Steps.{Linked}
use Rattle.desk_state.proofs.chains.Chains.link.Given as goal

abbrev pub invariant-loop-i : goal.invariant-loop-i
invariant-loop-i l = Linked l.entries l.column l.i l.head l.next
