-- The bound of a line: it has at most 24 bytes for each atom and 4 for each bond entry. It holds of a line that is written and of
-- one that the output had no room for, so an output of that size is never too short.
use Rattle.std.specs.Prelude.{ℕ, ◌+◌, ◌*◌, ◌≤◌, Result, Ok, Err}
use Rattle.write.specs.declared.answer.WriteError.{WriteError}
use Rattle.write.specs.declared.answer.WriteError.TheVariants.{Stopped, AtomRoom, BondRoom, OutRoom, BadTable}

-- of n atoms and m entries
abbrev pub line_bound : ℕ → ℕ → ℕ
line_bound n m = 24 * n + 4 * m

-- the bytes of the line that an answer tells of
unfoldable pub bytes_of : Result ℕ WriteError → ℕ
bytes_of (Ok k) = k
bytes_of (Err (OutRoom k)) = k
bytes_of (Err (Stopped why)) = 0
bytes_of (Err (AtomRoom k)) = 0
bytes_of (Err (BondRoom k)) = 0
bytes_of (Err (BadTable k)) = 0

pub record Short (most : ℕ) (r : Result ℕ WriteError) : Type 0 where
  pub bytes : bytes_of r ≤ most
