-- Refused by the way, or popped, said and marked.
use Rattle.walk.proofs.Onto.{enter_refused, enter_new}
use Rattle.walk.proofs.turn.enter.Goals as goal

pub mark-requires : goal.mark-requires
mark-requires c = c.requires.count

pub returns-in-Err-clause-did : goal.returns-in-Err-clause-did
returns-in-Err-clause-did c = enter_refused _ _ _ _ _ _ _ _ _ _ _ _ c.find_way.ensures _ _ c.in-Err.is c.refused.ensures

pub returns-in-Ok-clause-did : goal.returns-in-Ok-clause-did
returns-in-Ok-clause-did c = enter_new _ _ c.args.walker _ _ _ _ _ _ _ _ _ c.find_way.ensures _ _ _ _ _ _ _ c.in-Ok.is c.say_pops.ensures.starts_after c.kind_at.ensures c.said_as-kind.ensures c.say_extend.ensures.starts_after c.mark.ensures.met
