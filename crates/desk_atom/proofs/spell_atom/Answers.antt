-- An atom's text over zeros.
use mathlib.Core.Path.{◌∙◌}
use Rattle.desk_atom.specs.Texts.{atom_d}
use Rattle.desk_atom.proofs.Zeros.{laid_answered}
use Rattle.desk_atom.proofs.spell_atom.Goals as goal

pub returns : goal.returns
unfolding atom_d
returns c = simp (← c.in_range.ensures, c.if-not-in_range.false) (c.answer_length.ensures ∙ laid_answered _ c.clear_bytes.ensures c.spell_atom-need.ensures)
