use Rattle.std.proofs.Common.{length}
use Rattle.replay.proofs.pairs.answer.Given as goal

abbrev pub decreases-loop-r : goal.decreases-loop-r
decreases-loop-r l = length l.r.rest.now
