-- No root left, an atom that was met, or a new root.
use Rattle.walk.proofs.Moves.{passed_count}
use Rattle.walk.proofs.Onto.{root_none, root_passed_lem, root_new}
use Rattle.walk.proofs.turn.try_root.Goals as goal

pub returns-then-g-a-clause-did : goal.returns-then-g-a-clause-did
returns-then-g-a-clause-did c = root_none _ _ _ _ _ _ _ _ c.if-g-a.true

pub returns-then-mark_of-ne0-clause-did : goal.returns-then-mark_of-ne0-clause-did
returns-then-mark_of-ne0-clause-did c = root_passed_lem _ _ _ _ _ _ _ _ _ _ c.if-g-a.false c.mark_of.ensures c.if-mark_of-ne0.true c.pass-passed.ensures

pub mark-requires : goal.mark-requires
mark-requires c = passed_count _ _ c.pass-passed.ensures c.requires.count

pub returns-clause-did : goal.returns-clause-did
returns-clause-did c = root_new _ _ _ _ _ _ _ _ _ _ _ _ _ _ c.if-g-a.false c.mark_of.ensures c.if-mark_of-ne0.false c.pass-passed.ensures c.kind_at.ensures c.said_as-kind.ensures c.say_root.ensures.starts_after c.mark.ensures.met
