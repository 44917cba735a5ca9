use Rattle.std.proofs.Common.{◌≤◌, length}
use Rattle.replay.proofs.tables.parse_bonds.Given as goal

abbrev pub invariant-loop-held : goal.invariant-loop-held
invariant-loop-held l = (l.held ≤ l.entries) × (length l.r.rest.now ≤ length l.initial.r.rest.now)

abbrev pub decreases-loop-held : goal.decreases-loop-held
decreases-loop-held l = length l.r.rest.now
