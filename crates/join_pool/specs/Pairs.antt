-- The pool of ring numbers: an unordered pair of atoms opens a number with its first call and closes it with the next.
--
-- It holds a counter from 1 that stops at 100, and at most one spare. Opening takes the spare, else the counter, which
-- then grows by 1; a number over 99 is refused. Closing r: without a spare the counter grows by 1; any old spare is lost; r
-- becomes the spare.
use Rattle.std.specs.Prelude.{ℕ, zero, suc, ◌+◌, ◌*◌, List, [], ◌∷◌, Bool, get_or, ltb, eqb, Option, Some, None}
use Rattle.std.proofs.lemmas.List.Edits.{sets}
use Rattle.feature.specs.Pick.{pick, both}
use Rattle.join_pool.specs.declared.Pool.{Pool}

-- the highest ring number
abbrev pub highest : ℕ
highest = 99

-- three words a number, from 0 on: 1 where it is open, and the pair's lower and higher atom; zeros where it is free
abbrev pub slot_words : ℕ
slot_words = 3

abbrev pub pool : ℕ → ℕ → Pool
pool c s = record { counter = c; spare = s }

-- nothing handed out
abbrev pub empty_of : Pool
empty_of = pool 1 0

-- whether the number n is open for the pair
unfoldable pub opens : List ℕ → ℕ → ℕ → ℕ → Bool
opens pairs n lo hi =
    both (eqb (get_or pairs (n * slot_words) 0) 1)
    (both (eqb (get_or pairs (n * slot_words + 1) 0) lo) (eqb (get_or pairs (n * slot_words + 2) 0) hi))

-- the number up to n that is open for the pair, if any
unfoldable pub open_number : List ℕ → ℕ → ℕ → ℕ → Option ℕ
open_number pairs lo hi zero = None
open_number pairs lo hi (suc n) = pick (opens pairs (suc n) lo hi) (Some (suc n)) (open_number pairs lo hi n)

-- other words for the number n
unfoldable pub slot : List ℕ → ℕ → ℕ → ℕ → ℕ → List ℕ
slot pairs n x lo hi = sets pairs (n * slot_words) (x ∷ lo ∷ hi ∷ [])

unfoldable pub counter_next : ℕ → ℕ
counter_next c = pick (ltb highest c) c (c + 1)

-- the counter after a call, opening or closing
unfoldable pub counter_of : Pool → ℕ
counter_of p = pick (eqb p.spare 0) (counter_next p.counter) p.counter

-- the number that an opening takes
unfoldable pub next_of : Pool → ℕ
next_of p = pick (eqb p.spare 0) p.counter p.spare

-- what a call answers, the pool after it and the number, or none where the number would exceed the highest; and the words it leaves
pub record Hits : Type 0 where
  pub answer : Option (Pool × ℕ)
  pub left : List ℕ

abbrev pub hits : Option (Pool × ℕ) → List ℕ → Hits
hits r pairs = record { answer = r; left = pairs }

unfoldable pub open_of : Pool → List ℕ → ℕ → ℕ → Hits
open_of p pairs lo hi =
    pick (ltb highest (next_of p)) (hits None pairs)
    (hits (Some (pool (counter_of p) 0, next_of p)) (slot pairs (next_of p) 1 lo hi))

unfoldable pub close_of : Pool → List ℕ → ℕ → Hits
close_of p pairs r = hits (Some (pool (counter_of p) r, r)) (slot pairs r 0 0 0)

-- by the number that is open for the pair
unfoldable pub open_or_close : Pool → List ℕ → ℕ → ℕ → Option ℕ → Hits
open_or_close p pairs lo hi None = open_of p pairs lo hi
open_or_close p pairs lo hi (Some r) = close_of p pairs r

unfoldable pub hit_pair : Pool → List ℕ → ℕ → ℕ → Hits
hit_pair p pairs lo hi = open_or_close p pairs lo hi (open_number pairs lo hi p.counter)

-- a call for the pair of a and b
unfoldable pub hit_of : Pool → List ℕ → ℕ → ℕ → Hits
hit_of p pairs a b = pick (ltb a b) (hit_pair p pairs a b) (hit_pair p pairs b a)
