-- No entry left, the entry back, or a bond.
use Rattle.walk_entry.proofs.Told.{entry_told}
use Rattle.walk.proofs.Onto.{atom_left, atom_past, atom_bond}
use Rattle.walk.proofs.turn.take_atom.Goals as goal

pub returns-then-degree_at-i-clause-did : goal.returns-then-degree_at-i-clause-did
returns-then-degree_at-i-clause-did c = atom_left _ _ _ _ _ _ _ _ _ c.taken_of-i.ensures _ _ _ c.degree_at.ensures c.if-degree_at-i.true c.leave.ensures.value

pub returns-then-back_of-i-clause-did : goal.returns-then-back_of-i-clause-did
returns-then-back_of-i-clause-did c = atom_past _ _ _ _ _ _ _ _ _ c.taken_of-i.ensures _ _ _ _ c.degree_at.ensures c.if-degree_at-i.false c.poke.ensures c.back_of.ensures c.if-back_of-i.true

pub returns-clause-did : goal.returns-clause-did
returns-clause-did c = atom_bond _ _ _ _ _ _ _ _ _ c.taken_of-i.ensures _ _ _ _ _ _ _ c.degree_at.ensures c.if-degree_at-i.false c.poke.ensures c.back_of.ensures c.if-back_of-i.false (entry_told _ _ _ _ _ c.entry_at-e.ensures.0 _ _ _ c.look.ensures c.sure_kind-k.ensures c.look-t.ensures) c.take_bond.ensures.did
