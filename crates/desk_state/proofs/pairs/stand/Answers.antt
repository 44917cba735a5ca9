use Rattle.std.proofs.Common.{arith}
use Rattle.desk_state.proofs.Ways.{loose_from}
use Rattle.desk_state.proofs.pairs.stand.Goals as goal

pub link-from-requires : goal.link-from-requires
link-from-requires g c = (omega arith, loose_from c.requires.between _ _ c.requires.room.0 c.requires.room.1)
