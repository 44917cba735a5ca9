-- A ring number from the pool as a single call, for any table and any numbers. Where they stand for no pool, the answer is 17
-- and carries 0, and nothing changes; else the pool gives its own answer, a number or 11.
--
-- A table and numbers stand for a pool if the table has a slot for each number to 99, the counter is from 1 to 100 and the
-- spare below it, and each slot is free, with three zeros, or open for a pair whose lower atom comes first. The slots of 0,
-- of the spare and of the numbers from the counter on are free. The search for a pair goes down from the counter, so the slot of
-- 100 is judged too; where the table ends before it, it is free. No pair is open under two numbers: the search for the pair of an
-- open number finds that number.
use Rattle.std.specs.Prelude.{ℕ, ◌+◌, ◌*◌, List, [], ◌∷◌, Bool, false, length, get_or, ltb, leb, eqb, Option, Some, None, unwrap_or, Result, Ok, Err}
use Rattle.feature.specs.Pick.{pick, both, either}
use Rattle.join_pool.specs.declared.Pool.{Pool}
use Rattle.join_pool.specs.Pairs.{slot_words, open_number as numberFor, Hits, hit_of}
use Rattle.desk_pool.specs.declared.Refusal.{Refusal}
use Rattle.desk_pool.specs.declared.Refusal.TheVariants.{RingNumbers, BadTable}
use Rattle.feature.specs.Every.{every}
use Rattle.desk_numbers.specs.Numbers.{Told, told, done, ring_numbers, bad_table}

-- the highest value of the counter
abbrev pub top : ℕ
top = 100

-- ---- a pool's state
unfoldable pub is_free : List ℕ → ℕ → Bool
is_free pairs n =
    both (eqb (get_or pairs (n * slot_words) 0) 0)
    (both (eqb (get_or pairs (n * slot_words + 1) 0) 0)
    (eqb (get_or pairs (n * slot_words + 2) 0) 0))

unfoldable pub is_open : List ℕ → ℕ → Bool
is_open pairs n =
    both (eqb (get_or pairs (n * slot_words) 0) 1)
    (leb (get_or pairs (n * slot_words + 1) 0) (get_or pairs (n * slot_words + 2) 0))

-- the numbers that no pair can have
unfoldable pub kept_free : Pool → ℕ → Bool
kept_free p n = either (eqb n 0) (either (eqb n p.spare) (leb p.counter n))

unfoldable pub is_slot : Pool → List ℕ → ℕ → Bool
is_slot p pairs n = either (is_free pairs n) (pick (kept_free p n) false (is_open pairs n))

-- the search for the pair in the words of n finds n; where it finds none, it counts as 0, which is no pair's
unfoldable pub is_found : Pool → List ℕ → ℕ → Bool
is_found p pairs n =
    either (is_free pairs n)
    (eqb (unwrap_or (numberFor pairs (get_or pairs (n * slot_words + 1) 0) (get_or pairs (n * slot_words + 2) 0) p.counter) 0) n)

-- the counter is above the spare, and so from 1 on
unfoldable pub is_pool : Pool → List ℕ → Bool
is_pool p pairs =
    both (leb (top * slot_words) (length pairs))
    (both (leb p.counter top)
    (both (ltb p.spare p.counter)
    (both (every (is_slot p pairs) (top + 1))
    (every (is_found p pairs) (top + 1)))))

-- ---- the answers
unfoldable pub handed_of : Option (Pool × ℕ) → Result (Pool × ℕ) Refusal
handed_of (Some handed) = Ok handed
handed_of None = Err RingNumbers

-- an answer in the scope's numbers, where the call is for the atoms a and b
unfoldable pub handed_told : ℕ → ℕ → Result (Pool × ℕ) Refusal → Told
handed_told a b (Ok (p, n)) = told done (n ∷ [])
handed_told a b (Err RingNumbers) = told ring_numbers (a ∷ b ∷ [])
handed_told a b (Err BadTable) = told bad_table (0 ∷ [])

-- the numbers of the pool that it hands back; a refusal hands back none
unfoldable pub pool_words : Result (Pool × ℕ) Refusal → List ℕ
pool_words (Ok (p, n)) = p.counter ∷ p.spare ∷ []
pool_words (Err why) = []

-- ---- the call
-- what it answers for the atoms a and b, the pool that it hands back and the words that it leaves
pub record Gives : Type 0 where
  pub told : Told
  pub state : List ℕ
  pub left : List ℕ

abbrev pub gives : ℕ → ℕ → Result (Pool × ℕ) Refusal → List ℕ → Gives
gives a b r pairs = record { told = handed_told a b r; state = pool_words r; left = pairs }

unfoldable pub given_by : ℕ → ℕ → Hits → Gives
given_by a b h = gives a b (handed_of h.answer) h.left

unfoldable pub hit_d : Pool → List ℕ → ℕ → ℕ → Gives
hit_d p pairs a b = pick (is_pool p pairs) (given_by a b (hit_of p pairs a b)) (gives a b (Err BadTable) pairs)
