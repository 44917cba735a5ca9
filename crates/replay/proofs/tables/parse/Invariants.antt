use Rattle.std.proofs.Common.{length}
use Rattle.replay.proofs.tables.parse.Given as goal

abbrev pub decreases-loop-counts : goal.decreases-loop-counts
decreases-loop-counts l = length l.r.rest.now
