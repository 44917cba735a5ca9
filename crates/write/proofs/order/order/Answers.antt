-- Refused by the tests, or walked.
use Rattle.write.proofs.Unless.{err_is}
use Rattle.write.proofs.Calls.{order_refused_lem, order_all}
use Rattle.write.proofs.One.{order_promised}
use Rattle.write.proofs.order.order.Goals as goal

pub returns-in_err-admit : goal.returns-in_err-admit
returns-in_err-admit c = rw (err_is c.from_residual.result _ c.from_residual.ensures.1) (order_promised _ _ _ _ _ _ _ _ (order_refused_lem _ _ _ _ _ _ _ _ _ _ _ c.order_room-room.ensures.0 c.clear_order.ensures.0 c.clear_order.ensures.1 c.clear_order.ensures.2 _ c.admit.ensures.tests _ c.in_err-admit.was))

pub returns : goal.returns
returns c = order_promised _ _ _ _ _ _ _ _ (order_all _ _ _ _ _ _ _ _ _ _ _ c.order_room-room.ensures.0 c.clear_order.ensures.0 c.clear_order.ensures.1 c.clear_order.ensures.2 _ c.admit.ensures.tests _ _ c.in_ok-admit.was c.order_graph.ensures)
