-- nothing.
use Rattle.write.proofs.Ends.{blank_written, few}
use Rattle.write.proofs.write_in.Goals as goal

pub walk-walker-requires : goal.walk-walker-requires
walk-walker-requires c = few _ _ c.requires.0.atoms c.requires.0.bonds

pub returns-clause-written : goal.returns-clause-written
returns-clause-written c = blank_written _ _ _ _ _ _ _ _ _ _ _ _ c.requires.1 c.lay_starts.ensures _ _ _ _ _ _ _ _ _ _ _ _ c.requires.0.empty c.walk-walker.ensures.walked.0 c.walk-walker.ensures.walked.1 c.conclude.ensures.ended
