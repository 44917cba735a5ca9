-- Words laid from the start on, as far as there is room. Assumes nothing.
use Prim.Native.Nat.{ℕ, zero, suc, ◌+◌, ◌≤◌, min}
use mathlib.Core.Path.{◌≡◌, refl, sym, ap, ◌∙◌}
use mathlib.Core.List.{List, [], ◌∷◌, ◌++◌}
use native.Mathlib.Omega.{arith}
use native.Mathlib.Nat.{zero-add}
use lib.ListN.{length, set, take, drop, length-set}
use lib.Seq.{sets, sets-eq, set_out, length-take-le}

-- past the end nothing changes
sets_out : (l w : List ℕ) (i : ℕ) → length l ≤ i → sets l i w ≡ l
sets_out l [] i h = refl
sets_out l (x ∷ w) i h = ap (λ (r : List ℕ). sets r (suc i) w) (set_out l i x h) ∙ sets_out l w (suc i) (omega arith)

-- so what finds no room might as well be left out
sets_taken : (l w : List ℕ) (i n : ℕ) → min (length l) (i + length w) ≤ i + n → sets l i w ≡ sets l i (take n w)
sets_taken l [] i zero h = refl
sets_taken l [] i (suc n) h = refl
sets_taken l (x ∷ w) i zero h = sets_out l (x ∷ w) i (omega arith)
sets_taken l (x ∷ w) i (suc n) h = sets_taken (set l i x) w (suc i) n (omega (arith, length-set l i x))

-- a text of words that fits, and what was there after it
front : (l x : List ℕ) → length x ≤ length l → sets l 0 x ≡ x ++ drop (length x) l
front l x h = sets-eq x l 0 (rw zero-add h) ∙ ap (λ (i : ℕ). x ++ drop i l) (zero-add (length x))

pub laid_words : (l w t : List ℕ) (n : ℕ) → n ≡ min (length l) (length w) → t ≡ take n w → t ++ drop n l ≡ sets l 0 w
laid_words l w t n e f =
    let long : length (take n w) ≡ n = length-take-le n w (omega arith) in
    ap (λ (x : List ℕ). x ++ drop n l) f
    ∙ ap (λ (i : ℕ). take n w ++ drop i l) (sym long)
    ∙ sym (front l (take n w) (omega arith))
    ∙ sym (sets_taken l w 0 n (omega arith))
