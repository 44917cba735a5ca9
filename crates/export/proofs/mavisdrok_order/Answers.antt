-- What the walk order leaves, and the report of its answer.
use mathlib.Core.Path.{ap}
use Rattle.write.proofs.One.{same_order}
use Rattle.export.specs.Calls.{ordered_by, order_x}
use Rattle.export.proofs.mavisdrok_order.Goals as goal

pub returns : goal.returns
unfolding order_x
returns c = simp (c.lay.ensures, c.from.ensures) (ap (ordered_by c.args.report.now) (same_order _ _ c.order-answer.ensures))
