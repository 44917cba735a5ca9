-- The search for a pair's number, one number at a time. Assumes nothing.
use Prim.Native.Nat.{ℕ, zero, suc, ◌-◌, ◌<◌}
use mathlib.Core.Path.{◌≡◌}
use mathlib.Core.Bool.{true, false}
use mathlib.Core.List.{List}
use native.Mathlib.Omega.{arith}
use Rattle.std.specs.Prelude.{Some, None}
use Rattle.join_pool.specs.Pairs.{opens, open_number}

-- ---- the search, which goes down
pub number_some : (pairs : List ℕ) (lo hi n : ℕ) → 0 < n → opens pairs n lo hi ≡ true → open_number pairs lo hi n ≡ Some n
unfolding open_number
number_some pairs lo hi zero h e = absurd (omega arith)
number_some pairs lo hi (suc n) h e = simp e

pub number_less : (pairs : List ℕ) (lo hi n : ℕ) → 0 < n → opens pairs n lo hi ≡ false
    → open_number pairs lo hi n ≡ open_number pairs lo hi (n - 1)
unfolding open_number
number_less pairs lo hi zero h e = absurd (omega arith)
number_less pairs lo hi (suc n) h e =
    let k : suc n - 1 ≡ n = omega arith in
    simp (e, k)

pub number_none : (pairs : List ℕ) (lo hi n : ℕ) → n ≡ 0 → open_number pairs lo hi n ≡ None
unfolding open_number
number_none pairs lo hi n e = rw e
