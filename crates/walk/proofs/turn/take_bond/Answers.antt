-- The tests of a bond in their order; the rest is entering or a ring number.
use Rattle.walk.proofs.Onto.{bond_unknown, bond_loop, bond_new, bond_met}
use Rattle.walk.proofs.turn.take_bond.Goals as goal

pub returns-then-g-t-clause-did : goal.returns-then-g-t-clause-did
returns-then-g-t-clause-did c = bond_unknown _ _ _ _ _ _ _ _ _ _ _ c.if-g-t.true c.refused.ensures

pub returns-then-t-s-clause-did : goal.returns-then-t-s-clause-did
returns-then-t-s-clause-did c = bond_loop _ _ _ _ _ _ _ _ _ _ _ c.if-g-t.false c.if-t-s.true c.refused-then-t-s.ensures

pub returns-then-mark_of-eq0-clause-did : goal.returns-then-mark_of-eq0-clause-did
returns-then-mark_of-eq0-clause-did c = bond_new _ _ _ _ _ _ _ _ _ _ _ _ _ c.if-g-t.false c.if-t-s.false c.mark_of.ensures c.if-mark_of-eq0.true c.enter.ensures.did

pub returns-clause-did : goal.returns-clause-did
returns-clause-did c = bond_met _ _ _ _ _ _ _ _ _ _ _ _ _ c.if-g-t.false c.if-t-s.false c.mark_of.ensures c.if-mark_of-eq0.false c.tie.ensures.did
