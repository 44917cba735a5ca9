-- A bond's text over zeros.
use Rattle.desk_atom.proofs.Zeros.{laid_answered}
use mathlib.Core.Path.{◌∙◌}
use Rattle.desk_atom.proofs.spell_bond.Goals as goal

pub returns : goal.returns
returns c = c.answer_length.ensures ∙ laid_answered _ c.clear_bytes.ensures c.spell_bond-need.ensures
