-- Laws of lists that several crates cite. Assumes nothing.
use Prim.Native.Nat.{ℕ, zero, suc, ◌+◌, ◌-◌}
use mathlib.Core.Path.{◌≡◌, ◌∙◌, ap, sym, refl}
use mathlib.Core.List.{List, [], ◌∷◌, ◌++◌}
use native.Mathlib.Nat.{add-zero, add-suc, suc-add}
use native.Mathlib.Omega.{arith}
use lib.ListN.{length, set, drop, replicate}
use lib.Seq.{sets}

-- ---- runs of stores
-- the first cell apart
pub sets_nil : (i : ℕ) (vs : List ℕ) → sets [] i vs ≡ []
sets_nil i [] = refl
sets_nil i (v ∷ vs) = sets_nil (suc i) vs

pub sets_cons : (x : ℕ) (l : List ℕ) (i : ℕ) (vs : List ℕ) → sets (x ∷ l) (suc i) vs ≡ x ∷ sets l i vs
sets_cons x l i [] = refl
sets_cons x l i (v ∷ vs) = sets_cons x (set l i v) (suc i) vs

-- in two parts
pub sets_append : (l : List ℕ) (i : ℕ) (xs ys : List ℕ) → sets l i (xs ++ ys) ≡ sets (sets l i xs) (i + length xs) ys
sets_append l i [] ys = ap (λ (n : ℕ). sets l n ys) (sym (add-zero i))
sets_append l i (x ∷ xs) ys =
    sets_append (set l i x) (suc i) xs ys
    ∙ ap (λ (n : ℕ). sets (sets (set l i x) (suc i) xs) n ys) (suc-add i (length xs) ∙ sym (add-suc i (length xs)))

-- ---- what is left of zeros
pub drop_zeros : (n m : ℕ) → drop n (replicate {A = ℕ} m 0) ≡ replicate (m - n) 0
drop_zeros zero m =
    let e : m ≡ m - 0 = omega arith in
    ap (λ (i : ℕ). replicate i 0) e
drop_zeros (suc n) zero =
    let e : 0 ≡ 0 - suc n = omega arith in
    ap (λ (i : ℕ). replicate i 0) e
drop_zeros (suc n) (suc m) =
    let e : m - n ≡ suc m - suc n = omega arith in
    drop_zeros n m ∙ ap (λ (i : ℕ). replicate i 0) e
