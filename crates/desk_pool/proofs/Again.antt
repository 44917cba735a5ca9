-- What a call hands out can be handed in again: it is not answered 17. And its number is from 1 to 99. Assumes nothing.
use Prim.Native.Nat.{ℕ, ◌≤◌, ◌<◌}
use mathlib.Core.Path.{◌≡◌, refl, ap}
use mathlib.Core.Bool.{Bool, true, false}
use mathlib.Core.List.{List}
use native.Mathlib.Omega.{arith}
use Rattle.feature.specs.Pick.{pick}
use Rattle.feature.proofs.Cases.{impossible}
use Rattle.join_pool.specs.declared.Pool.{Pool}
use Rattle.join_pool.specs.Pairs.{highest, hit_of}
use Rattle.std.specs.Prelude.{Option, Some, None, Result, Ok, Err}
use Rattle.desk_pool.specs.declared.Refusal.{Refusal}
use Rattle.desk_pool.specs.declared.Refusal.TheVariants.{RingNumbers, BadTable}
use Rattle.desk_pool.specs.Slots.{is_pool, handed_of, Gives, gives, given_by, hit_d}
use Rattle.desk_pool.proofs.PoolKept as pool_kept_lem
use Rattle.desk_pool.proofs.Results.{one_answer}

number_again : (a b : ℕ) (q : Pool) (n : ℕ) (l pairs m : List ℕ) (g : Option (Pool × ℕ)) → pool_kept_lem.KeepsBy pairs m g → gives a b (Ok (q, n)) l ≡ gives a b (handed_of g) m → (is_pool q l ≡ true) × (0 < n) × (n ≤ highest)
unfolding handed_of
number_again a b q n l pairs m (Some (p, k)) h e =
    let answers : ◌≡◌ {A = Result (Pool × ℕ) Refusal} (Ok (q, n)) (Ok (p, k)) = one_answer a b e in
    let words : l ≡ m = ap (λ (x : Gives). x.left) e in
    let handed : ◌≡◌ {A = Pool × ℕ} (q, n) (p, k) = cc in
    let pool : q ≡ p = ap (λ (x : Pool × ℕ). x.0) handed in
    let same : n ≡ k = ap (λ (x : Pool × ℕ). x.1) handed in
    let stands : is_pool q l ≡ true = cc h.0 in
    (stands, omega (arith, same, h.1), omega (arith, same, h.2))
number_again a b q n l pairs m None h e = absurd (let y : ◌≡◌ {A = Result (Pool × ℕ) Refusal} (Ok (q, n)) (Err RingNumbers) = one_answer a b e in impossible cc)

pub handed_again : (p : Pool) (pairs : List ℕ) (a b : ℕ) (q : Pool) (n : ℕ) (l : List ℕ) → gives a b (Ok (q, n)) l ≡ hit_d p pairs a b → (is_pool q l ≡ true) × (0 < n) × (n ≤ highest)
unfolding hit_d given_by
handed_again p pairs a b q n l e = go (is_pool p pairs) refl e where
  go : (t : Bool) → is_pool p pairs ≡ t → gives a b (Ok (q, n)) l ≡ pick t (given_by a b (hit_of p pairs a b)) (gives a b (Err BadTable) pairs) → (is_pool q l ≡ true) × (0 < n) × (n ≤ highest)
  go true t f = number_again a b q n l pairs (hit_of p pairs a b).left (hit_of p pairs a b).answer (pool_kept_lem.hit_kept p pairs a b t) f
  go false t f = absurd (let y : ◌≡◌ {A = Result (Pool × ℕ) Refusal} (Ok (q, n)) (Err BadTable) = one_answer a b f in impossible cc)
