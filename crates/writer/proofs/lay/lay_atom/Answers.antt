-- An atom's text in the part of the output from a place on, also where the place is past the end.
use Rattle.writer.proofs.Laws.{lay_part}
use Rattle.writer.proofs.lay.lay_atom.Goals as goal

pub returns : goal.returns
returns c = lay_part c.args.out.now _ _ _ _ _ _ c.lesser-free.ensures c.spell_atom.ensures
