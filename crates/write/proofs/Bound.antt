-- The bound of a line, of what the write call promises. Assumes nothing.
use Prim.Native.Nat.{ℕ}
use mathlib.Core.Path.{subst}
use mathlib.Core.List.{List}
use Rattle.write.specs.Bound.{line_bound, Short}
use Rattle.write.specs.Write.{WriteLeft}
use Rattle.write.specs.Plain.{write_plain}
use Rattle.write.proofs.Plain.{write_plain_lem}
use Rattle.write.proofs.Said.{written_short}

-- whatever is handed in
pub line_bounded : (room : ℕ) (atoms : List ℕ) (n : ℕ) (bonds : List ℕ) (m : ℕ) → Short (line_bound n m) (write_plain room atoms n bonds m).answer
line_bounded room atoms n bonds m =
    subst (λ (x : WriteLeft). Short (line_bound n m) x.answer) (write_plain_lem atoms n bonds m room) (written_short room atoms bonds n m)
