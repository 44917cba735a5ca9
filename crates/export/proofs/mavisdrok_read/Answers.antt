-- What the read call leaves, and the report of its answer.
use mathlib.Core.Path.{ap}
use Rattle.read.proofs.One.{same_said}
use Rattle.export.specs.Calls.{read_by, read_x}
use Rattle.export.proofs.mavisdrok_read.Goals as goal

pub returns : goal.returns
unfolding read_x
returns c = simp (c.lay.ensures, c.from.ensures) (ap (read_by c.args.report.now) (same_said _ _ c.read.ensures))
