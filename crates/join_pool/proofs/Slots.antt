-- A number's three words, the search for a pair over them, and the counter. Assumes nothing.
use Prim.Native.Nat.{ℕ, ◌+◌, ◌*◌, ◌<◌, ◌≤◌, zero, suc}
use mathlib.Core.Path.{◌≡◌, refl, sym, ap, ◌∙◌}
use mathlib.Core.List.{List, [], ◌∷◌}
use mathlib.Core.Bool.{Bool, true, false}
use mathlib.Core.Logic.{◌≢◌, inl, inr}
use native.Mathlib.Omega.{arith}
use lib.ListN.{length, get_or}
use lib.Seq.{sets, length-sets}
use lib.Dec.{ltb, eqb}
use borrow.Author.Tests.{ltb-true, ltb-false, eqb-true}
use Rattle.table.proofs.Stores.{sets_beside, sets_in, sets_first}
use Rattle.std.specs.Prelude.{Some, None}
use Rattle.join_pool.specs.Pairs.{slot_words, slot, highest, opens, open_number, counter_next, counter_of}
use Rattle.feature.proofs.Cases.{by_test, clash, both_first, both_second, impossible}
use Rattle.feature.specs.Pick.{pick}
use Rattle.join_pool.specs.declared.Pool.{Pool}

-- ---- words that were stored, and those beside them
module _ (pairs : List ℕ) (m x lo hi : ℕ) where
  pub slot_length : length (slot pairs m x lo hi) ≡ length pairs
  unfolding slot
  slot_length = length-sets pairs (m * slot_words) (x ∷ lo ∷ hi ∷ [])

  -- the words of another number stay
  pub slot_beside : (n k : ℕ) → n ≢ m → n * slot_words ≤ k → k < n * slot_words + slot_words → get_or (slot pairs m x lo hi) k 0 ≡ get_or pairs k 0
  unfolding slot
  slot_beside n k e h l = go (ltb n m) refl where
    go : (q : Bool) → ltb n m ≡ q → get_or (sets pairs (m * slot_words) (x ∷ lo ∷ hi ∷ [])) k 0 ≡ get_or pairs k 0
    go true q =
        let less = ltb-true n m q in
        sets_beside pairs (x ∷ lo ∷ hi ∷ []) (m * slot_words) k (inl (omega arith))
    go false q =
        let least = ltb-false n m q in
        let more : m < n = omega (arith, e) in
        sets_beside pairs (x ∷ lo ∷ hi ∷ []) (m * slot_words) k (inr (omega arith))

  module _ (room : m * slot_words + slot_words ≤ length pairs) where
    pub slot_open : get_or (slot pairs m x lo hi) (m * slot_words) 0 ≡ x
    unfolding slot
    slot_open = sets_first pairs (x ∷ lo ∷ hi ∷ []) (m * slot_words) room (omega arith)

    pub slot_lower : get_or (slot pairs m x lo hi) (m * slot_words + 1) 0 ≡ lo
    unfolding slot
    slot_lower = sets_in pairs (x ∷ lo ∷ hi ∷ []) (m * slot_words) 1 room (omega arith)

    pub slot_higher : get_or (slot pairs m x lo hi) (m * slot_words + 2) 0 ≡ hi
    unfolding slot
    slot_higher = sets_in pairs (x ∷ lo ∷ hi ∷ []) (m * slot_words) 2 room (omega arith)

-- the words of a number that is open for a pair
pub words_of : (pairs : List ℕ) (n lo hi : ℕ) → opens pairs n lo hi ≡ true → (get_or pairs (n * slot_words) 0 ≡ 1) × (get_or pairs (n * slot_words + 1) 0 ≡ lo) × (get_or pairs (n * slot_words + 2) 0 ≡ hi)
unfolding opens
words_of pairs n lo hi h =
    let rest = both_second (eqb (get_or pairs (n * slot_words) 0) 1) _ h in (
      eqb-true _ _ (both_first (eqb (get_or pairs (n * slot_words) 0) 1) _ h),
      eqb-true _ _ (both_first (eqb (get_or pairs (n * slot_words + 1) 0) lo) _ rest),
      eqb-true _ _ (both_second (eqb (get_or pairs (n * slot_words + 1) 0) lo) _ rest),
    )

-- ---- the search
-- the number that it finds is open for the pair
pub found : (pairs : List ℕ) (lo hi n r : ℕ) → open_number pairs lo hi n ≡ Some r → (0 < r) × (r ≤ n) × (opens pairs r lo hi ≡ true)
unfolding open_number
found pairs lo hi zero r h = absurd (let y : None ≡ Some r = h in impossible cc)
found pairs lo hi (suc n) r h = go (opens pairs (suc n) lo hi) refl h (found pairs lo hi n r) where
  go : (q : Bool) → opens pairs (suc n) lo hi ≡ q → pick q (Some (suc n)) (open_number pairs lo hi n) ≡ Some r → (open_number pairs lo hi n ≡ Some r → (0 < r) × (r ≤ n) × (opens pairs r lo hi ≡ true)) → (0 < r) × (r ≤ suc n) × (opens pairs r lo hi ≡ true)
  go true q k ih =
      let z : suc n ≡ r = cc in
      (omega (arith, z), omega (arith, z), sym (ap (λ (i : ℕ). opens pairs i lo hi) z) ∙ q)
  go false q k ih = let i = ih k in (i.0, omega (arith, i.1), i.2)

-- and it finds one where a number is open for the pair
pub finds : (pairs : List ℕ) (lo hi c n : ℕ) → 0 < n → n ≤ c → opens pairs n lo hi ≡ true → (r : ℕ) × (open_number pairs lo hi c ≡ Some r)
unfolding open_number
finds pairs lo hi zero n z l o = absurd (omega arith)
finds pairs lo hi (suc c) n z l o = go (opens pairs (suc c) lo hi) refl (finds pairs lo hi c n z) where
  go : (q : Bool) → opens pairs (suc c) lo hi ≡ q → (n ≤ c → opens pairs n lo hi ≡ true → (r : ℕ) × (open_number pairs lo hi c ≡ Some r)) → (r : ℕ) × (pick (opens pairs (suc c) lo hi) (Some (suc c)) (open_number pairs lo hi c) ≡ Some r)
  go true q ih = (suc c, ap (λ (b : Bool). pick b (Some (suc c)) (open_number pairs lo hi c)) q)
  go false q ih =
      let other : n ≢ suc c = λ s. clash o (ap (λ (i : ℕ). opens pairs i lo hi) s ∙ q) in
      let i = ih (omega (arith, l, other)) o in
      (i.0, ap (λ (b : Bool). pick b (Some (suc c)) (open_number pairs lo hi c)) q ∙ i.1)

-- ---- the counter
-- the counter does not fall, and goes no further than one past the highest number
pub counter_on : (p : Pool) → p.counter ≤ highest + 1 → (p.counter ≤ counter_of p) × (counter_of p ≤ highest + 1)
unfolding counter_of counter_next
counter_on p h =
    by_test (λ (z : ℕ). (p.counter ≤ z) × (z ≤ highest + 1)) (eqb p.spare 0) {x = pick (ltb highest p.counter) p.counter (p.counter + 1)} {y = p.counter}
    (λ e. by_test (λ (z : ℕ). (p.counter ≤ z) × (z ≤ highest + 1)) (ltb highest p.counter) {x = p.counter} {y = p.counter + 1} (λ f. (omega arith, h)) (λ f. let l = ltb-false highest p.counter f in (omega arith, omega arith)))
    (λ e. (omega arith, h))
