-- Refused by what the two ends say, or a ring number.
use Rattle.walk.proofs.Onto.{tie_refused, tie_ring}
use Rattle.walk.proofs.turn.tie.Goals as goal

pub returns-in-Err-clause-did : goal.returns-in-Err-clause-did
returns-in-Err-clause-did c = tie_refused _ _ _ _ _ _ _ _ _ _ _ c.find_tie.ensures _ _ _ c.in-Err.is c.refused.ensures

pub returns-in-Ok-clause-did : goal.returns-in-Ok-clause-did
returns-in-Ok-clause-did c = tie_ring _ _ _ _ _ _ _ _ _ _ _ c.find_tie.ensures _ _ _ _ c.in-Ok.is c.ring.ensures.did
