-- By whether there is a current atom.
use Rattle.walk.proofs.Onto.{turn_standing, turn_root}
use Rattle.walk.proofs.turn.turn.Goals as goal

pub returns-in-Some-clause-did : goal.returns-in-Some-clause-did
returns-in-Some-clause-did c = turn_standing _ _ _ _ _ _ c.in-Some.is c.take_atom.ensures.did

pub returns-in-None-clause-did : goal.returns-in-None-clause-did
returns-in-None-clause-did c = turn_root _ _ _ _ _ c.in-None.is c.try_root.ensures.did
