use Rattle.std.proofs.Common.{◌≤◌, length}
use Rattle.replay.proofs.list.read_all.Given as goal

abbrev pub invariant-loop : goal.invariant-loop
invariant-loop g l = l.begun.held ≤ length l.block
