-- A join lays its bond and its ring number one after the other, and no piece more begins.
use Rattle.writer.proofs.Laws.{join_more}
use Rattle.writer.specs.Tables.{say_t}
use Rattle.spell.proofs.Laws.{laid_then}
use Rattle.writer.proofs.Line.say_join.Goals as goal

pub returns-clause-starts_after : goal.returns-clause-starts_after
unfolding say_t
returns-clause-starts_after c = join_more _ _ _ _ _ _ _ c.if-self-eq0.false (laid_then c.lay_bond-bonded.ensures c.lay_rnum-self.ensures)
