-- Refused by the tests, or written with little work room or with much.
use Rattle.write.proofs.Unless.{err_is}
use Rattle.write.proofs.Calls.{write_refused, write_all}
use Rattle.write.proofs.One.{promised}
use Rattle.write.proofs.write.Goals as goal

pub returns-in_err-admit : goal.returns-in_err-admit
returns-in_err-admit c = rw (err_is c.from_residual.result _ c.from_residual.ensures.1) (promised _ _ _ _ _ _ (write_refused _ _ _ _ _ _ _ c.atom_room.ensures c.clear_bytes.ensures _ c.admit.ensures.tests _ c.in_err-admit.was))

pub returns-then-n-le-FEW_ATOMS : goal.returns-then-n-le-FEW_ATOMS
returns-then-n-le-FEW_ATOMS c = promised _ _ _ _ _ _ (write_all _ _ _ _ _ _ _ c.atom_room.ensures c.clear_bytes.ensures _ c.admit.ensures.tests _ _ c.in_ok-admit.was c.write_sized.ensures)

pub returns-else-n-le-FEW_ATOMS : goal.returns-else-n-le-FEW_ATOMS
returns-else-n-le-FEW_ATOMS c = promised _ _ _ _ _ _ (write_all _ _ _ _ _ _ _ c.atom_room.ensures c.clear_bytes.ensures _ c.admit.ensures.tests _ _ c.in_ok-admit.was c.write_sized-else-n-le-FEW_ATOMS.ensures)
