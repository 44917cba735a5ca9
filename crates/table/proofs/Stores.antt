-- Runs of stores in a list that may be too short for them: what finds no room is not stored. Assumes nothing.
use Rattle.std.proofs.Common.{◌≡◌, ℕ, zero, suc, ◌+◌, ◌-◌, ◌<◌, ◌≤◌, ◌⊎◌, List, [], ◌∷◌, ◌++◌, length, get_or, take, drop, set, sym, refl, ap, ◌∙◌, inl, inr, le_of_suc-le-suc, not-suc-le-zero, add-zero, arith, length-set, get_or-set_other, get_or-set_same}
use native.Mathlib.Nat.{sub-zero, suc-sub-suc}
use lib.Seq.{sets, take-nil, set_out}
use Rattle.feature.proofs.Lists.{sets_nil, sets_cons}

-- ---- what is there after a run of stores
-- beside it nothing changes
pub sets_beside : (t vs : List ℕ) (i j : ℕ) → (j < i) ⊎ (i + length vs ≤ j) → get_or (sets t i vs) j 0 ≡ get_or t j 0
sets_beside t [] i j h = refl
sets_beside t (v ∷ vs) i j (inl h) =
    sets_beside (set t i v) vs (suc i) j (inl (omega arith)) ∙ get_or-set_other t i j v 0 (λ e. omega arith)
sets_beside t (v ∷ vs) i j (inr h) =
    sets_beside (set t i v) vs (suc i) j (inr (omega arith)) ∙ get_or-set_other t i j v 0 (λ e. omega arith)

-- in it is what was stored
pub sets_in : (t vs : List ℕ) (i j : ℕ) → i + length vs ≤ length t → j < length vs → get_or (sets t i vs) (i + j) 0 ≡ get_or vs j 0
sets_in t [] i j h l = absurd (omega arith)
sets_in t (v ∷ vs) i zero h l =
    ap (λ (n : ℕ). get_or (sets (set t i v) (suc i) vs) n 0) (add-zero i)
    ∙ sets_beside (set t i v) vs (suc i) i (inl (omega arith))
    ∙ get_or-set_same t i v 0 (omega arith)
sets_in t (v ∷ vs) i (suc j) h l =
    ap (λ (n : ℕ). get_or (sets (set t i v) (suc i) vs) n 0) (omega arith)
    ∙ sets_in (set t i v) vs (suc i) j (rw length-set (omega arith)) (omega arith)

-- the same at its first place
pub sets_first : (t vs : List ℕ) (i : ℕ) → i + length vs ≤ length t → 0 < length vs → get_or (sets t i vs) i 0 ≡ get_or vs 0 0
sets_first t vs i h l = ap (λ (n : ℕ). get_or (sets t i vs) n 0) (sym (add-zero i)) ∙ sets_in t vs i 0 h l

-- past the end it changes nothing
pub sets_out : (t vs : List ℕ) (i : ℕ) → length t ≤ i → sets t i vs ≡ t
sets_out t [] i h = refl
sets_out t (v ∷ vs) i h =
    sets_out (set t i v) vs (suc i) (rw length-set (omega arith)) ∙ set_out t i v h

-- ---- only so many values are seen as there is room for
pub sets_take : (l : List ℕ) (i : ℕ) (vs : List ℕ) → sets l i vs ≡ sets l i (take (length l - i) vs)
sets_take [] i vs = sets_nil i vs ∙ sym (sets_nil i (take (0 - i) vs))
sets_take (x ∷ l) zero [] = rw take-nil
sets_take (x ∷ l) zero (v ∷ vs) =
    sets_cons v l 0 vs
    ∙ ap (λ (r : List ℕ). v ∷ r) (rw sub-zero at (sets_take l 0 vs))
    ∙ sym (sets_cons v l 0 (take (length l) vs))
    ∙ ap (λ (n : ℕ). sets (x ∷ l) 0 (take n (v ∷ vs))) (sym (sub-zero (suc (length l))))
sets_take (x ∷ l) (suc i) vs =
    sets_cons x l i vs
    ∙ ap (λ (r : List ℕ). x ∷ r) (sets_take l i vs)
    ∙ sym (sets_cons x l i (take (length l - i) vs))
    ∙ ap (λ (n : ℕ). sets (x ∷ l) (suc i) (take n vs)) (sym (suc-sub-suc (length l) i))

pub sets_same : (l : List ℕ) (i : ℕ) (xs ys : List ℕ) → take (length l - i) xs ≡ take (length l - i) ys → sets l i xs ≡ sets l i ys
sets_same l i xs ys e = sets_take l i xs ∙ ap (λ (z : List ℕ). sets l i z) e ∙ sym (sets_take l i ys)

-- a run laid over a run that is no longer
pub sets_over : (l : List ℕ) (i : ℕ) (xs ys : List ℕ) → length xs ≤ length ys → sets (sets l i xs) i ys ≡ sets l i ys
sets_over [] i xs ys h = ap (λ (z : List ℕ). sets z i ys) (sets_nil i xs)
sets_over (x ∷ l) zero [] ys h = refl
sets_over (x ∷ l) zero (a ∷ xs) [] h = absurd (not-suc-le-zero h)
sets_over (x ∷ l) zero (a ∷ xs) (b ∷ ys) h =
    ap (λ (z : List ℕ). sets z 0 (b ∷ ys)) (sets_cons a l 0 xs)
    ∙ sets_cons b (sets l 0 xs) 0 ys
    ∙ ap (λ (r : List ℕ). b ∷ r) (sets_over l 0 xs ys (le_of_suc-le-suc h))
    ∙ sym (sets_cons b l 0 ys)
sets_over (x ∷ l) (suc i) xs ys h =
    ap (λ (z : List ℕ). sets z (suc i) ys) (sets_cons x l i xs)
    ∙ sets_cons x (sets l i xs) i ys
    ∙ ap (λ (r : List ℕ). x ∷ r) (sets_over l i xs ys h)
    ∙ sym (sets_cons x l i ys)

-- ---- a part that is lent from a place on
pub sets_parts : (i : ℕ) (l vs : List ℕ) → take i l ++ sets (drop i l) 0 vs ≡ sets l i vs
sets_parts zero l vs = refl
sets_parts (suc i) [] vs = sets_nil 0 vs ∙ sym (sets_nil (suc i) vs)
sets_parts (suc i) (x ∷ l) vs = ap (λ (r : List ℕ). x ∷ r) (sets_parts i l vs) ∙ sym (sets_cons x l i vs)
