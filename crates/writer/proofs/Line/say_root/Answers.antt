-- A root lays its lead and its atom one after the other, and its start is where the line ended.
use Rattle.writer.proofs.Laws.{piece_more}
use Rattle.writer.specs.Tables.{say_t}
use Rattle.spell.proofs.Laws.{laid_then}
use mathlib.Core.Path.{refl}
use Rattle.writer.proofs.Line.say_root.Goals as goal

pub returns-clause-starts_after : goal.returns-clause-starts_after
unfolding say_t
returns-clause-starts_after c = piece_more _ _ _ _ _ _ _ _ _ _ c.piece_room.ensures c.if-piece_room-pieces.false (laid_then c.lay_dot-dotted.ensures c.lay_atom-self.ensures) c.poke.ensures refl
