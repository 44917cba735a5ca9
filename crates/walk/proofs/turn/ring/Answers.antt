-- Refused by the pool, or popped and joined.
use Rattle.walk.proofs.Moves.{ring_full, ring_number}
use Rattle.walk.proofs.turn.ring.Goals as goal

pub returns-in-None-clause-did : goal.returns-in-None-clause-did
returns-in-None-clause-did c = ring_full _ _ _ _ _ _ _ _ _ _ _ _ _ c.hit.ensures _ c.in-None.is c.refused.ensures

pub returns-in-Some-clause-did : goal.returns-in-Some-clause-did
returns-in-Some-clause-did c = ring_number _ _ _ _ _ _ _ _ _ _ _ _ _ c.hit.ensures _ _ _ _ c.in-Some.is c.ring.ensures c.say_pops.ensures.starts_after c.say_join.ensures.starts_after
