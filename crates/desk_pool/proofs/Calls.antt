-- A call of a pool in place, and what it hands out. Assumes nothing.
use Prim.Native.Nat.{ℕ}
use mathlib.Core.Path.{◌≡◌, ap}
use mathlib.Core.List.{List}
use Rattle.std.specs.Prelude.{Option, Some, None, Result, Ok, Err}
use Rattle.join_pool.specs.declared.Pool.{Pool}
use Rattle.join_pool.specs.Pairs.{Hits}
use Rattle.join_pool.specs.Apart.{Call, called, answer_apart, call_of}
use Rattle.desk_pool.specs.declared.Refusal.TheVariants.{RingNumbers}
use Rattle.desk_pool.specs.Slots.{handed_of, gives, given_by}

module _ (a b : ℕ) (p q : Pool) (l : List ℕ) where
  number_apart : (n : ℕ) (x : Option (Pool × ℕ)) (m : List ℕ) → called q (Some n) l ≡ answer_apart p x m → gives a b (Ok (q, n)) l ≡ gives a b (handed_of x) m
  unfolding answer_apart handed_of
  number_apart n (Some (r, k)) m e =
      let pool : q ≡ r = ap (λ (c : Call). c.pool) e in
      let some : ◌≡◌ {A = Option ℕ} (Some n) (Some k) = ap (λ (c : Call). c.number) e in
      let number : n ≡ k = cc in
      let left : l ≡ m = ap (λ (c : Call). c.left) e in
      rw (pool, number, left)
  number_apart n None m e = let none : ◌≡◌ {A = Option ℕ} (Some n) None = ap (λ (c : Call). c.number) e in absurd (cc)

  none_apart : (x : Option (Pool × ℕ)) (m : List ℕ) → called q None l ≡ answer_apart p x m → gives a b (Err RingNumbers) l ≡ gives a b (handed_of x) m
  unfolding answer_apart handed_of
  none_apart (Some (r, k)) m e = let some : ◌≡◌ {A = Option ℕ} None (Some k) = ap (λ (c : Call). c.number) e in absurd (cc)
  none_apart None m e = let left : l ≡ m = ap (λ (c : Call). c.left) e in rw left

  pub number_handed : (n : ℕ) (h : Hits) → called q (Some n) l ≡ call_of p h → gives a b (Ok (q, n)) l ≡ given_by a b h
  unfolding given_by
  number_handed n h e = number_apart n h.answer h.left e

  pub none_handed : (h : Hits) → called q None l ≡ call_of p h → gives a b (Err RingNumbers) l ≡ given_by a b h
  unfolding given_by
  none_handed h e = none_apart h.answer h.left e
