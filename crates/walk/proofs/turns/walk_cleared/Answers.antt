-- The turns from words that are cleared first.
use Rattle.walk.proofs.turns.walk_cleared.Goals as goal

pub returns-clause-walked : goal.returns-clause-walked
returns-clause-walked c = rw c.clear.ensures at c.walk.ensures.walked
