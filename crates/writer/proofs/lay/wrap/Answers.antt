-- The opening bracket put in and the closing one laid make what is between them wrapped.
use Rattle.writer.proofs.Laws.{wrap_both}
use Rattle.writer.proofs.lay.wrap.Goals as goal

pub returns : goal.returns
returns c = wrap_both _ _ _ _ _ _ _ c.requires.0 c.insert.ensures c.put.ensures
