-- What the bench asks, and what the calls' own definitions say to it, with all that they leave in what was lent.
use Rattle.std.specs.Prelude.{ℕ, List, [], ◌∷◌, eqb}
use Prim.Native.String.{String}
use Rattle.feature.specs.Pick.{pick}
use Rattle.feature.specs.Text.{bytes}
use Rattle.read.specs.Read.{Said}
use Rattle.read.specs.Line.{read_text}
use Rattle.table.specs.Zeros.{zeros}
use Rattle.write.specs.Write.{WriteLeft, pair_words}
use Rattle.write.specs.Plain.{write_plain}
use Rattle.join_pool.specs.declared.Pool.{Pool}
use Rattle.std.specs.Prelude.{None, Option, Some}
use Rattle.join_pool.specs.Pairs.{hit_of, empty_of}
use Rattle.desk_report.specs.declared.answer.Report.{Report}
use Rattle.desk_report.specs.Report.{report, of_read, of_written}

-- a line to be read, a line to be read and written, the calls of an empty pool
pub data Asked : Type 0 where
  Reads : String → Asked
  Rewrites : String → Asked
  Calls : List (ℕ × ℕ) → Asked

-- a report, and what is left: the tables of atoms and bonds, and what was written after them; or the numbers handed out
pub record Answered : Type 0 where
  pub told : Report
  pub given : List (List ℕ)

abbrev pub answered_by : Report → List (List ℕ) → Answered
answered_by r l = record { told = r; given = l }

-- the words and bytes that are lent
abbrev pub lent : ℕ
lent = 40

-- a line that was read
unfoldable pub read_answered : Said → Answered
read_answered s = answered_by (of_read s.answer) (s.atoms ∷ s.bonds ∷ [])

-- and is written
unfoldable pub written_as : Said → WriteLeft → Answered
written_as s l = answered_by (of_written l.answer) (s.atoms ∷ s.bonds ∷ l.out ∷ [])

unfoldable pub rewrite_of : Said → Answered
rewrite_of s =
    pick (eqb (of_read s.answer).number 0)
    (written_as s (write_plain lent s.atoms (of_read s.answer).first s.bonds (of_read s.answer).second))
    (read_answered s)

-- the number that a call of a pool is answered, 0 for none, and the pool after it
unfoldable pub number_given : Option (Pool × ℕ) → ℕ
number_given (Some (p, n)) = n
number_given None = 0

unfoldable pub pool_given : Pool → Option (Pool × ℕ) → Pool
pool_given q (Some (p, n)) = p
pool_given q None = q

unfoldable pub calls_from : Pool → List ℕ → List (ℕ × ℕ) → List ℕ
calls_from p pairs [] = []
calls_from p pairs (c ∷ calls) =
    number_given (hit_of p pairs c.0 c.1).answer
    ∷ calls_from (pool_given p (hit_of p pairs c.0 c.1).answer) (hit_of p pairs c.0 c.1).left calls

unfoldable pub answer_of : Asked → Answered
answer_of (Reads s) = read_answered (read_text (bytes s) lent lent)
answer_of (Rewrites s) = rewrite_of (read_text (bytes s) lent lent)
answer_of (Calls cs) = answered_by (report 0 0 0) (calls_from empty_of (zeros pair_words) cs ∷ [])
