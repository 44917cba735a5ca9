-- Sums over the atoms below a number, and how one changed term changes them. Assumes nothing.
use Prim.Native.Nat.{ℕ, zero, suc, ◌+◌, ◌-◌, ◌≤◌, ◌<◌}
use mathlib.Core.Path.{◌≡◌, refl, sym, ap}
use mathlib.Core.Logic.{◌≢◌}
use mathlib.Core.List.{List}
use native.Mathlib.Omega.{arith}
use lib.ListN.{length, get_or, set, replicate}
use lib.Seq.{get_or-set_same, get_or-set_other}
use lib.Dec.{eqb}
use borrow.Author.Tests.{ne_eqb}
use Rattle.feature.specs.Pick.{pick}
use Rattle.table.proofs.Zeros.{zero_at}
use Rattle.feature.proofs.Cases.{by_eq}
use Rattle.walk_entry.specs.Graph.{Graph, degree_at}
use Rattle.walk_laws.specs.Trek.{degrees}

-- the sum of f over the numbers below n
sum_to : (ℕ → ℕ) → ℕ → ℕ
sum_to f zero = 0
sum_to f (suc n) = sum_to f n + f n

-- sums go by their terms
sum_same : (f h : ℕ → ℕ) (n : ℕ) → ((a : ℕ) → a < n → f a ≡ h a) → sum_to f n ≡ sum_to h n
unfolding sum_to
sum_same f h zero e = refl
sum_same f h (suc n) e = omega (arith, sum_same f h n (λ a l. e a (omega arith)), e n (omega arith))

-- one term less by 1 makes the sum less by 1
sum_less : (f h : ℕ → ℕ) (t n : ℕ) → t < n → ((a : ℕ) → a ≢ t → f a ≡ h a) → f t ≡ suc (h t) → sum_to f n ≡ suc (sum_to h n)
unfolding sum_to
sum_less f h t zero l e c = absurd (omega arith)
sum_less f h t (suc n) l e c =
    by_eq n t
    (λ z. omega (arith, sum_same f h n (λ a k. e a (λ y. omega arith)), rw (← z) at c))
    (λ z. omega (arith, sum_less f h t n (omega arith) e c, e n z))

-- ---- the atoms not met
one_if : ℕ → ℕ
one_if m = pick (eqb m 0) 1 0

-- how many of the first n marks are 0
pub unmet : ℕ → List ℕ → ℕ
unmet n met = sum_to (λ a. one_if (get_or met a 0)) n

pub unmet_set : (n : ℕ) (met : List ℕ) (t v : ℕ) → t < n → n ≤ length met → get_or met t 0 ≡ 0 → v ≢ 0 → unmet n met ≡ suc (unmet n (set met t v))
unfolding unmet one_if
unmet_set n met t v l r z nz =
    sum_less _ _ t n l (λ a ne. ap one_if (sym (get_or-set_other met t a v 0 ne)))
    (rw (z, get_or-set_same met t v 0 (omega arith), ne_eqb v 0 nz) (omega arith))

-- none is left to meet where every mark is set
pub unmet_none : (n : ℕ) (met : List ℕ) → ((a : ℕ) → a < n → get_or met a 0 ≢ 0) → unmet n met ≡ 0
unfolding unmet sum_to one_if
unmet_none zero met h = refl
unmet_none (suc n) met h =
    simp (ne_eqb (get_or met n 0) 0 (h n (omega arith))) (omega (arith, unmet_none n met (λ a l. h a (omega arith))))

pub unmet_all : (n l : ℕ) → unmet n (replicate l 0) ≡ n
unfolding unmet sum_to one_if
unmet_all zero l = refl
unmet_all (suc n) l = simp (zero_at l n) (omega (arith, unmet_all n l))

-- ---- the entries not taken
pub entries_left : Graph → List ℕ → ℕ
entries_left g taken = sum_to (λ a. degree_at g a - get_or taken a 0) g.size

pub left_taken : (g : Graph) (taken : List ℕ) (a : ℕ) → a < g.size → g.size ≤ length taken → get_or taken a 0 < degree_at g a
    → entries_left g taken ≡ suc (entries_left g (set taken a (get_or taken a 0 + 1)))
unfolding entries_left
left_taken g taken a l r h =
    sum_less _ _ a g.size l
    (λ c ne. ap (λ (k : ℕ). degree_at g c - k) (sym (get_or-set_other taken a c _ 0 ne)))
    (let e : get_or (set taken a (get_or taken a 0 + 1)) a 0 ≡ get_or taken a 0 + 1 = get_or-set_same taken a _ 0 (omega arith) in
    rw e (omega arith))

degrees_sum : (g : Graph) (n l : ℕ) → sum_to (λ a. degree_at g a - get_or (replicate l 0) a 0) n ≡ degrees g n
unfolding sum_to degrees
degrees_sum g zero l = refl
degrees_sum g (suc n) l = simp (zero_at l n) (omega (arith, degrees_sum g n l))

pub left_all : (g : Graph) (l : ℕ) → entries_left g (replicate l 0) ≡ degrees g g.size
unfolding entries_left
left_all g l = degrees_sum g g.size l
