-- A test that every number below n passes: what one turn of a loop says of it. Assumes nothing.
use Prim.Native.Nat.{ℕ, zero, suc, ◌+◌, ◌<◌, ◌≤◌}
use mathlib.Core.Path.{◌≡◌, refl, subst, sym}
use mathlib.Core.Bool.{Bool, true, false}
use native.Mathlib.Omega.{arith}
use native.Mathlib.Numerals.{add-one}
use lib.Dec.{eqb}
use borrow.Author.Tests.{eqb-true, eqb-false}
use Rattle.feature.proofs.Cases.{clash}
use Rattle.feature.specs.Pick.{pick}
use Rattle.feature.specs.Every.{every}

-- one more number passes
pub every_step : (f : ℕ → Bool) (i : ℕ) → every f i ≡ true → f i ≡ true → every f (i + 1) ≡ true
unfolding every
every_step f i all one = rw (add-one, one) all

stops : (q r : Bool) → r ≡ false → pick q r false ≡ false
stops true r h = h
stops false r h = refl

-- a number that does not pass
pub every_fails : (f : ℕ → Bool) (n i : ℕ) → i < n → f i ≡ false → every f n ≡ false
unfolding every
every_fails f zero i h one = absurd (omega arith)
every_fails f (suc n) i h one = split (eqb i n) refl (λ (l : i < n). every_fails f n i l one) where
  split : (q : Bool) → eqb i n ≡ q → (i < n → every f n ≡ false) → pick (f n) (every f n) false ≡ false
  split true e ih = subst (λ (m : ℕ). pick (f m) (every f n) false ≡ false) (eqb-true i n e) (rw one refl)
  split false e ih = stops (f n) (every f n) (ih (omega (arith, eqb-false i n e)))

-- all of them passed
pub every_end : (f : ℕ → Bool) (n i : ℕ) → every f i ≡ true → i ≤ n → n ≤ i → true ≡ every f n
every_end f n i all l h =
    let e : i ≡ n = omega arith in
    sym (subst (λ (k : ℕ). every f k ≡ true) e all)

-- what all pass, each passes, and the other way round
pub every_at : (f : ℕ → Bool) (n i : ℕ) → every f n ≡ true → i < n → f i ≡ true
every_at f n i all h = go (f i) refl where
  go : (q : Bool) → f i ≡ q → f i ≡ true
  go true e = e
  go false e = clash all (every_fails f n i h e)

pub every_all : (f : ℕ → Bool) (n : ℕ) → ((i : ℕ) → i < n → f i ≡ true) → every f n ≡ true
unfolding every
every_all f zero h = refl
every_all f (suc n) h = rw (h n (omega arith)) (every_all f n (λ (i : ℕ) (l : i < n). h i (omega arith)))
