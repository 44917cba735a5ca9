-- Tables cleared and lowered word by word. Assumes nothing.
use Prim.Native.Nat.{ℕ, zero, suc, ◌+◌, ◌-◌, ◌≤◌, ◌<◌}
use mathlib.Core.Path.{◌≡◌, refl, ◌∙◌, ap}
use mathlib.Core.List.{List, [], ◌∷◌, ◌++◌}
use native.Mathlib.Omega.{arith}
use lib.ListN.{length, get_or, set, take, drop}
use Rattle.write.specs.Order.{lowered}

lower_set_at : (l : List ℕ) (a : ℕ) → a < length l → set (take a (lowered l) ++ drop a l) a (get_or l a 0 - 1) ≡ take (suc a) (lowered l) ++ drop (suc a) l
unfolding lowered
lower_set_at [] a h = absurd (omega arith)
lower_set_at (x ∷ l) zero h = refl
lower_set_at (x ∷ l) (suc a) h = ap (λ (m : List ℕ). (x - 1) ∷ m) (lower_set_at l a (omega arith))

-- the word at a place lowered, after those before it
pub lower_set : (l : List ℕ) (a : ℕ) → a < length l → set (take a (lowered l) ++ drop a l) a (get_or l a 0 - 1) ≡ take (a + 1) (lowered l) ++ drop (a + 1) l
lower_set l a h = let e : suc a ≡ a + 1 = omega arith in lower_set_at l a h ∙ ap (λ (k : ℕ). take k (lowered l) ++ drop k l) e

-- which is still what it was
pub lower_get : (l : List ℕ) (a : ℕ) → get_or (take a (lowered l) ++ drop a l) a 0 ≡ get_or l a 0
unfolding lowered
lower_get [] zero = refl
lower_get [] (suc a) = refl
lower_get (x ∷ l) zero = refl
lower_get (x ∷ l) (suc a) = lower_get l a

pub length_lowered : (l : List ℕ) → length (lowered l) ≡ length l
unfolding lowered
length_lowered [] = refl
length_lowered (x ∷ l) = ap suc (length_lowered l)

pub lower_end : (l : List ℕ) (a : ℕ) → length l ≤ a → take a (lowered l) ++ drop a l ≡ lowered l
unfolding lowered
lower_end [] zero h = refl
lower_end [] (suc a) h = refl
lower_end (x ∷ l) zero h = absurd (omega arith)
lower_end (x ∷ l) (suc a) h = ap (λ (m : List ℕ). (x - 1) ∷ m) (lower_end l a (omega arith))

pub lower_turn : (l m : List ℕ) (a r : ℕ) → m ≡ take a (lowered l) ++ drop a l → a < length l → r ≡ get_or m a 0 - 1 → set m a r ≡ take (a + 1) (lowered l) ++ drop (a + 1) l
lower_turn l m a r e h f =
    ap (λ (x : List ℕ). set x a r) e
    ∙ ap (λ (x : ℕ). set (take a (lowered l) ++ drop a l) a x) (f ∙ ap (λ (x : List ℕ). get_or x a 0 - 1) e ∙ ap (λ (x : ℕ). x - 1) (lower_get l a))
    ∙ lower_set l a h
