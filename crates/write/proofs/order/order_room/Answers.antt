-- The least of four.
use Rattle.write.proofs.Judging.{order_room_is}
use Rattle.write.proofs.order.order_room.Goals as goal

pub returns : goal.returns
returns c = order_room_is _ _ _ _ _ _ _ _ c.atom_room.ensures c.lesser-a.ensures c.lesser-b.ensures c.lesser.ensures
