-- What the write call leaves, and the report of its answer.
use mathlib.Core.Path.{ap}
use Rattle.write.proofs.One.{same_left}
use Rattle.export.specs.Calls.{written_by, write_x}
use Rattle.export.proofs.mavisdrok_write.Goals as goal

pub returns : goal.returns
unfolding write_x
returns c = simp (c.lay.ensures, c.from.ensures) (ap (written_by c.args.report.now) (same_left _ _ c.write.ensures))
