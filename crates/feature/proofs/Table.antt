-- A rule of a table, proved at all of its entries by one test that antt computes. Assumes nothing.
use mathlib.Core.Path.{◌≡◌, refl, ◌∙◌, subst, sym}
use mathlib.Core.Bool.{Bool, true, false}
use mathlib.Core.List.{List, [], ◌∷◌}
use Prim.Native.Nat.{ℕ, zero, suc, ◌+◌, ◌<◌, ◌≤◌}
use native.Mathlib.Nat.{add-zero, zero-add, add-suc, suc-add, le_of_suc-le-suc, not-suc-le-zero}
use native.Mathlib.Omega.{arith}
use lib.Dec.{T, eqb, ltb}
use borrow.Author.Tests.{eqb-true, ltb-true, ltb-false}
use lib.ListN.{length, get_or}
use Rattle.feature.specs.Pick.{both, either}

pub both_left : (a b : Bool) → T (both a b) → T a
both_left true b t = tt
both_left false b t = t

pub both_right : (a b : Bool) → T (both a b) → T b
both_right true b t = t
both_right false b t = absurd t

-- the test f passes at each entry of the list and its place, counted from i
abbrev pub every_entry : (ℕ → ℕ → Bool) → ℕ → List ℕ → Bool
every_entry f i [] = true
every_entry f i (x ∷ xs) = both (f i x) (every_entry f (suc i) xs)

from : (f : ℕ → ℕ → Bool) (xs : List ℕ) (i : ℕ) → T (every_entry f i xs) → (k : ℕ) → k < length xs → T (f (i + k) (get_or xs k 0))
from f [] i t k h = absurd (not-suc-le-zero h)
from f (x ∷ xs) i t zero h = subst (λ (m : ℕ). T (f m x)) (sym (add-zero i)) (both_left (f i x) (every_entry f (suc i) xs) t)
from f (x ∷ xs) i t (suc k) h =
    subst (λ (m : ℕ). T (f m (get_or xs k 0))) (suc-add i k ∙ sym (add-suc i k))
    (from f xs (suc i) (both_right (f i x) (every_entry f (suc i) xs) t) k (le_of_suc-le-suc h))

pub at : (f : ℕ → ℕ → Bool) (xs : List ℕ) → T (every_entry f 0 xs) → (k : ℕ) → k < length xs → T (f k (get_or xs k 0))
at f xs t k h = subst (λ (m : ℕ). T (f m (get_or xs k 0))) (zero-add k) (from f xs 0 t k h)

-- each entry is below the next
abbrev pub rising : List ℕ → Bool
rising [] = true
rising (x ∷ []) = true
rising (x ∷ (y ∷ xs)) = both (ltb x y) (rising (y ∷ xs))

-- a number that is none of some, as the last arm of a match over them knows it; the list has them backwards
abbrev pub NoneAmong : List ℕ → ℕ → Type 0
NoneAmong [] x = Unit
NoneAmong (k ∷ ks) x = NoneAmong ks x × (x ≡ k → ⊥)

abbrev pub among : List ℕ → ℕ → Bool
among [] y = false
among (k ∷ ks) y = either (eqb y k) (among ks y)

-- so it is not any number among them
pub apart : (ks : List ℕ) (x y : ℕ) → NoneAmong ks x → T (among ks y) → y ≡ x → ⊥
apart [] x y none t e = absurd t
apart (k ∷ ks) x y none t e = go (eqb y k) refl (apart ks x y none.0) t where
  go : (b : Bool) → eqb y k ≡ b → (T (among ks y) → y ≡ x → ⊥) → T (either b (among ks y)) → ⊥
  go true same later t = none.1 (sym e ∙ eqb-true y k same)
  go false same later t = later t e

-- a number that is none of the first n, as the last arm of a match over them knows it, is past them
abbrev pub NoneOf : ℕ → ℕ → Type 0
NoneOf zero x = Unit
NoneOf (suc n) x = NoneOf n x × (x ≡ n → ⊥)

past : (t : Bool) (n x : ℕ) → ltb n x ≡ t → n ≤ x → (x ≡ n → ⊥) → suc n ≤ x
past true n x e h differs = ltb-true n x e
past false n x e h differs = absurd (differs (omega (arith, ltb-false n x e)))

pub beyond : (n x : ℕ) → NoneOf n x → n ≤ x
beyond zero x none = omega arith
beyond (suc n) x none = past (ltb n x) n x refl (beyond n x none.0) none.1
