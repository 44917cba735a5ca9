use mathlib.Core.Path.{refl}
use Rattle.spell.proofs.Laws.{laid_then, laid_as}
use Rattle.spell.specs.Spell.{bracket_text}
use Rattle.spell.proofs.put_bracket.Goals as goal

pub returns : goal.returns
unfolding bracket_text
returns c = laid_as (laid_then c.put-a.ensures (laid_then c.put_isotope-i.ensures (laid_then c.put_symbol-y.ensures (laid_then c.put_configuration-c.ensures (laid_then c.put_hydrogens-h.ensures (laid_then c.put_charge-q.ensures (laid_then c.put_map-m.ensures c.put.ensures))))))) tt (refl)
