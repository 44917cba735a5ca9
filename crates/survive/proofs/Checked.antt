-- Computed tests over all values of a field and all bytes that may follow its text, whose rest is left open. Assumes
-- nothing.
use Prim.Native.Nat.{ℕ, ◌<◌}
use mathlib.Core.Path.{◌≡◌, refl, sym, subst}
use mathlib.Core.List.{List, [], ◌∷◌}
use mathlib.Core.Bool.{Bool, true, false}
use native.Mathlib.Omega.{arith}
use lib.ListN.{replicate, length-replicate}
use lib.Dec.{T, eqb, eqb→eq}
use Rattle.feature.specs.Pick.{pick, both, neither}
use Rattle.feature.proofs.Table.{at, every_entry, both_left, both_right}
use Rattle.std.specs.Prelude.{Err, Ok}
use Rattle.read_token.specs.Scan.{Step}

-- a byte is one of a list's
abbrev pub mem : List ℕ → ℕ → Bool
mem [] x = false
mem (y ∷ ys) x = pick (eqb x y) true (mem ys x)

-- a test passes at every byte of a list
abbrev pub all : (ℕ → Bool) → List ℕ → Bool
all f [] = true
all f (y ∷ ys) = both (f y) (all f ys)

pub all_mem : (f : ℕ → Bool) (ys : List ℕ) (x : ℕ) → T (all f ys) → T (mem ys x) → T (f x)
all_mem f [] x a m = absurd m
all_mem f (y ∷ ys) x a m = split (eqb x y) refl m (all_mem f ys x (both_right (f y) (all f ys) a)) where
  split : (q : Bool) → eqb x y ≡ q → T (pick q true (mem ys x)) → (T (mem ys x) → T (f x)) → T (f x)
  split true e m ih = subst (λ (z : ℕ). T (f z)) (sym (eqb→eq x y (subst T (sym e) tt))) (both_left (f y) (all f ys) a)
  split false e m ih = ih m

-- a test at each number below n
pub below : (f : ℕ → Bool) (n : ℕ) → T (every_entry (λ k z. f k) 0 (replicate n 0)) → (k : ℕ) → k < n → T (f k)
below f n t k h = at (λ k z. f k) (replicate n 0) t k (omega (arith, length-replicate {A = ℕ} n 0))

-- and at each byte of a list
pub checked : (f : ℕ → ℕ → Bool) (n : ℕ) (ys : List ℕ) → T (every_entry (λ k z. all (f k) ys) 0 (replicate n 0)) → (k x : ℕ) → k < n → T (mem ys x) → T (f k x)
checked f n ys t k x h m = all_mem (f k) ys x (below (λ k. all (f k) ys) n t k h) m

-- what is read is the value and its text's end where the value survives, and another value, or none, where it doesn't
abbrev pub agrees : Bool → Step → ℕ → ℕ → Bool
agrees true (Ok (w, j)) v k = both (eqb w v) (eqb j k)
agrees true (Err j) v k = false
agrees false (Ok (w, j)) v k = neither (eqb w v)
agrees false (Err j) v k = true
