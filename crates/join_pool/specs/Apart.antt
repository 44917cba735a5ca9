-- A call of a pool that is changed in place: the pool after it, which stays as it was where no number is left; the number, or that
-- there is none; and the words that it leaves.
use Rattle.std.specs.Prelude.{ℕ, List, Option, Some, None}
use Rattle.join_pool.specs.declared.Pool.{Pool}
use Rattle.join_pool.specs.Pairs.{Hits}

pub record Call : Type 0 where
  pub pool : Pool
  pub number : Option ℕ
  pub left : List ℕ

abbrev pub called : Pool → Option ℕ → List ℕ → Call
called p r pairs = record { pool = p; number = r; left = pairs }

unfoldable pub answer_apart : Pool → Option (Pool × ℕ) → List ℕ → Call
answer_apart p (Some (q, n)) pairs = called q (Some n) pairs
answer_apart p None pairs = called p None pairs

-- the call that answers and leaves this
abbrev pub call_of : Pool → Hits → Call
call_of p h = answer_apart p h.answer h.left
