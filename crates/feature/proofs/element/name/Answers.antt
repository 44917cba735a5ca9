use mathlib.Core.Path.{sym}
use Rattle.feature.proofs.Names.{name_out}
use Rattle.feature.proofs.Table.{beyond}
use Rattle.feature.proofs.element.name.Goals as goal

pub returns-in_default : goal.returns-in_default
returns-in_default c = sym (name_out _ (beyond 127 _ c.in_default.in_default-own.rest))
