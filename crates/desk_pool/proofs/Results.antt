-- A call's claim settles its result, the answer too, and the answer to numbers that stand for no pool is 17, carries 0 and changes nothing.
-- Assumes nothing.
use Prim.Native.Nat.{ℕ}
use mathlib.Core.Path.{◌≡◌, refl, sym, ap, ◌∙◌}
use mathlib.Core.Bool.{false}
use mathlib.Core.List.{List, [], ◌∷◌}
use lib.ListN.{get_or}
use lib.Dec.{eqb}
use Rattle.feature.specs.Pick.{pick}
use Rattle.desk_numbers.specs.Numbers.{told, done, ring_numbers, bad_table}
use Rattle.desk_numbers.proofs.One.{one_result}
use Rattle.join_pool.specs.declared.Pool.{Pool}
use Rattle.join_pool.specs.Pairs.{pool}
use Rattle.std.specs.Prelude as std
use Rattle.std.specs.Prelude.{Err, Ok}
use Rattle.desk_pool.specs.declared.Refusal.TheVariants.{RingNumbers, BadTable}
use Rattle.desk_pool.specs.declared.Refusal.{Refusal}
use Rattle.desk_pool.specs.Slots as slots

-- the numbers, the values and the state tell the answer
handed_by : slots.Gives → std.Result (Pool × ℕ) Refusal
handed_by g =
    pick (eqb g.told.number done) (Ok (pool (get_or g.state 0 0) (get_or g.state 1 0), get_or g.told.values 0 0))
    (pick (eqb g.told.number ring_numbers) (Err RingNumbers) (Err BadTable))

known : (a b : ℕ) (r : std.Result (Pool × ℕ) Refusal) (l : List ℕ) → handed_by (slots.gives a b r l) ≡ r
unfolding handed_by slots.handed_told slots.pool_words
known a b (Ok (p, n)) l = refl
known a b (Err RingNumbers) l = refl
known a b (Err BadTable) l = refl

pub one_answer : (a b : ℕ) {r q : std.Result (Pool × ℕ) Refusal} {l m : List ℕ} → slots.gives a b r l ≡ slots.gives a b q m → r ≡ q
one_answer a b {r} {q} {l} {m} e = sym (known a b r l) ∙ ap handed_by e ∙ known a b q m

-- what a call hands back: its answer, and the words that are left
pub record Result : Type 0 where
  pub answer : std.Result (Pool × ℕ) Refusal
  pub left : List ℕ

abbrev result : std.Result (Pool × ℕ) Refusal → List ℕ → Result
result r l = record { answer = r; left = l }

-- two results that meet the promise are equal
pub one_hit : (p : Pool) (pairs : List ℕ) (a b : ℕ) (x y : Result) → slots.gives a b x.answer x.left ≡ slots.hit_d p pairs a b
    → slots.gives a b y.answer y.left ≡ slots.hit_d p pairs a b → x ≡ y
one_hit p pairs a b =
    one_result (λ (x : Result). slots.gives a b x.answer x.left) (λ (g : slots.Gives). result (handed_by g) g.left)
    (λ x. ap (λ (r : std.Result (Pool × ℕ) Refusal). result r x.left) (known a b x.answer x.left)) (slots.hit_d p pairs a b)

pub pool_17 : (p : Pool) (pairs : List ℕ) (a b : ℕ) → slots.is_pool p pairs ≡ false → slots.hit_d p pairs a b ≡ slots.gives a b (Err BadTable) pairs
unfolding slots.hit_d
pool_17 p pairs a b h = simp h

pub pool_bad : (a b : ℕ) → slots.handed_told a b (Err BadTable) ≡ told bad_table (0 ∷ [])
unfolding slots.handed_told
pool_bad a b = refl
