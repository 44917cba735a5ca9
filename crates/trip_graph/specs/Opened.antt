-- The pairs of atoms whose ring number is open, and what is asked of a pool: open numbers are distinct, a call for an open pair
-- closes it with the number that opened it, and no number is over 99. Another pool is another proof of `Serves`.
use Rattle.std.specs.Prelude.{ℕ, ◌≤◌, ◌≡◌, ◌≢◌, List, [], ◌∷◌, Bool, false, ◌&&◌, ◌||◌, replicate, eqb}
use Rattle.std.proofs.Math.Option.{Option, none, some}
use Rattle.feature.specs.Pick.{pick}
use Rattle.join_pool.specs.declared.Pool.{Pool}
use Rattle.std.specs.Prelude.{None, Some}
use Rattle.join_pool.specs.Pairs.{highest, hits, hit_of, empty_of}
use Rattle.writer.specs.Line.{Event, Root, Extend, Join, Pop}
use Rattle.write.specs.Write.{pair_words}

-- a pair opened at one atom towards another: its number, and the join that opened it
pub record Pair : Type 0 where
  pub from : ℕ
  pub onto : ℕ
  pub num : ℕ
  pub join : ℕ

abbrev pub ring_pair : ℕ → ℕ → ℕ → ℕ → Pair
ring_pair a b n j = record { from = a; onto = b; num = n; join = j }

unfoldable pub pair_is : ℕ → ℕ → Pair → Bool
pair_is a b x = eqb a x.from && eqb b x.onto

-- the pair opened at a towards b
unfoldable pub look : List Pair → ℕ → ℕ → Option Pair
look [] a b = none
look (x ∷ P) a b = pick (pair_is a b x) (some x) (look P a b)

-- without it
unfoldable pub del : ℕ → ℕ → List Pair → List Pair
del a b [] = []
del a b (x ∷ P) = pick (pair_is a b x) (del a b P) (x ∷ del a b P)

-- whether a number is open, and whether a join waits
unfoldable pub num_in : ℕ → List Pair → Bool
num_in r [] = false
num_in r (x ∷ P) = eqb r x.num || num_in r P

unfoldable pub join_in : ℕ → List Pair → Bool
join_in r [] = false
join_in r (x ∷ P) = eqb r x.join || join_in r P

-- numbers, pairs and joins are distinct
pub data Distinct : List Pair → Type 0 where
  dnil : Distinct []
  dcons : {x : Pair} {P : List Pair} → num_in x.num P ≡ false → look P x.from x.onto ≡ none → join_in x.join P ≡ false → Distinct P → Distinct (x ∷ P)

-- ---- what is asked of a pool, where H says that a pool and its words hold these open pairs
-- a call from s for a pair that was opened at t as x closes it with the number of x
pub record Closes (H : Pool → List ℕ → List Pair → Type 0) (p : Pool) (pairs : List ℕ) (P : List Pair) (s t : ℕ) (x : Pair) : Type 0 where
  pub after : Pool
  pub words : List ℕ
  pub is : hit_of p pairs s t ≡ hits (Some (after, x.num)) words
  pub small : x.num ≤ highest
  pub holds : H after words (del t s P)

-- a call from s for a pair that is not open answers that no number is left, or opens the pair with a number up to 99 that is not open
pub data Opens (H : Pool → List ℕ → List Pair → Type 0) (p : Pool) (pairs : List ℕ) (P : List Pair) (s t : ℕ) : Type 0 where
  full : (words : List ℕ) → hit_of p pairs s t ≡ hits None words → Opens H p pairs P s t
  number : (after : Pool) (words : List ℕ) (n : ℕ) → hit_of p pairs s t ≡ hits (Some (after, n)) words → n ≤ highest → num_in n P ≡ false
      → ((j : ℕ) → H after words (ring_pair s t n j ∷ P)) → Opens H p pairs P s t

pub record Serves (H : Pool → List ℕ → List Pair → Type 0) : Type 0 where
  pub start : H empty_of (replicate pair_words 0) []
  pub closes : (p : Pool) (pairs : List ℕ) (P : List Pair) (s t : ℕ) (x : Pair) → H p pairs P → Distinct P → s ≢ t
      → look P t s ≡ some x → look P s t ≡ none → Closes H p pairs P s t x
  pub opens : (p : Pool) (pairs : List ℕ) (P : List Pair) (s t : ℕ) → H p pairs P → Distinct P → s ≢ t
      → look P t s ≡ none → look P s t ≡ none → Opens H p pairs P s t

-- so every ring number that is said has a text
abbrev pub RingsHaveText : List Event → Type 0
RingsHaveText [] = Unit {0}
RingsHaveText (Root k ∷ es) = RingsHaveText es
RingsHaveText (Extend b k ∷ es) = RingsHaveText es
RingsHaveText (Join b r ∷ es) = (r ≤ highest) × RingsHaveText es
RingsHaveText (Pop d ∷ es) = RingsHaveText es
