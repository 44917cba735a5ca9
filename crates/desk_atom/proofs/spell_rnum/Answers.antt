-- A ring number's text over zeros.
use mathlib.Core.Path.{◌∙◌}
use native.Mathlib.Omega.{arith}
use borrow.Author.Tests.{lt-ltb}
use Rattle.desk_atom.specs.Texts.{rnum_d}
use Rattle.desk_atom.proofs.Zeros.{laid_answered}
use Rattle.desk_atom.proofs.spell_rnum.Goals as goal

pub returns : goal.returns
unfolding rnum_d
returns c = simp (lt-ltb c.args.n 100 (omega arith)) (c.answer_length.ensures ∙ laid_answered _ c.clear_bytes.ensures c.spell_rnum-need.ensures)
