-- What stands for a pool still does after a call, so that what was handed out can be handed in again, and the number is from 1
-- to 99. A pool that has handed out nothing is one. In what stands for a pool no pair is open under two numbers. Assumes nothing.
use Prim.{⊥}
use Prim.Native.Nat.{ℕ, ◌+◌, ◌*◌, ◌≤◌, ◌<◌}
use mathlib.Core.Path.{◌≡◌, refl, sym, ap, ◌∙◌}
use mathlib.Core.Bool.{Bool, true, false, false≢true}
use mathlib.Core.List.{List}
use native.Mathlib.Omega.{arith}
use native.Mathlib.Numerals.{lt_of_le_of_ne}
use lib.ListN.{length, get_or, replicate, length-replicate}
use lib.Dec.{ltb, leb, eqb}
use borrow.Author.Tests.{lt-ltb, le-ltb, le-leb, lt-leb, eq-eqb, ne_eqb, ltb-true, ltb-false, leb-true, leb-false, eqb-true, eqb-false}
use Rattle.feature.specs.Pick.{pick, either}
use Rattle.join_pool.specs.declared.Pool.{Pool}
use Rattle.std.specs.Prelude.{None, Option, Some, unwrap_or}
use Rattle.join_pool.specs.Pairs.{highest, slot_words, pool, empty_of, opens, open_number, slot, counter_next, counter_of, next_of, Hits, hits, open_of, close_of, open_or_close, hit_pair, hit_of}
use Rattle.join_pool.proofs.Slots.{slot_length, slot_beside, slot_open, slot_lower, slot_higher, words_of, found, finds, counter_on}
use Rattle.desk_pool.specs.Slots.{top, is_free, is_open, kept_free, is_slot, is_found, is_pool}
use Rattle.feature.specs.Every.{every}
use Rattle.feature.proofs.Every.{every_at, every_all}
use Rattle.feature.proofs.Cases.{by_test, both_first, both_second, both_pass, impossible}
use Rattle.table.proofs.Zeros.{zero_at}

-- no less and not the same
differ : {n m : ℕ} → (n ≡ m → ⊥) → m ≤ n → m < n
differ e h = lt_of_le_of_ne h (λ s. e (sym s))

-- ---- the test of a pool as facts
-- such a number is not free
marked : (pairs : List ℕ) (n lo hi : ℕ) → opens pairs n lo hi ≡ true → is_free pairs n ≡ false
unfolding is_free
marked pairs n lo hi h =
    let one = (words_of pairs n lo hi h).0 in
    rw (ne_eqb (get_or pairs (n * slot_words) 0) 0 (λ z. omega (arith, one, z)))

-- one that is neither free nor kept free is open for its pair
open_pair : (pairs : List ℕ) (n : ℕ) → is_open pairs n ≡ true → opens pairs n (get_or pairs (n * slot_words + 1) 0) (get_or pairs (n * slot_words + 2) 0) ≡ true
unfolding is_open opens
open_pair pairs n h =
    both_pass (both_first (eqb (get_or pairs (n * slot_words) 0) 1) _ h) (both_pass (eq-eqb (get_or pairs (n * slot_words + 1) 0) (get_or pairs (n * slot_words + 1) 0) refl) (eq-eqb (get_or pairs (n * slot_words + 2) 0) (get_or pairs (n * slot_words + 2) 0) refl))

taken : (f k o : Bool) → f ≡ false → either f (pick k false o) ≡ true → (k ≡ false) × (o ≡ true)
taken f true o e h = absurd (false≢true (rw e at h))
taken f false o e h = (refl, rw e at h)

held : (p : Pool) (pairs : List ℕ) (n : ℕ) → is_free pairs n ≡ false → is_slot p pairs n ≡ true → (kept_free p n ≡ false) × (is_open pairs n ≡ true)
unfolding is_slot
held p pairs n f s = taken (is_free pairs n) (kept_free p n) (is_open pairs n) f s

not_kept : (p : Pool) (n : ℕ) → kept_free p n ≡ false → (0 < n) × (n < p.counter)
unfolding kept_free
not_kept p n k = go (eqb n 0) (eqb n p.spare) (leb p.counter n) refl refl k where
  go : (a b c : Bool) → eqb n 0 ≡ a → leb p.counter n ≡ c → either a (either b c) ≡ false → (0 < n) × (n < p.counter)
  go true b c e f k = absurd (false≢true (sym k))
  go false true c e f k = absurd (false≢true (sym k))
  go false false true e f k = absurd (false≢true (sym k))
  go false false false e f k = (differ (eqb-false n 0 e) (omega arith), leb-false p.counter n f)

-- the search for the pair of an open number finds it
sought : (p : Pool) (pairs : List ℕ) (n lo hi : ℕ) → opens pairs n lo hi ≡ true → is_found p pairs n ≡ true → unwrap_or (open_number pairs lo hi p.counter) 0 ≡ n
unfolding is_found
sought p pairs n lo hi o h =
    let w = words_of pairs n lo hi o in
    eqb-true _ _ (rw (marked pairs n lo hi o, w.1, w.2) at h)

pub record Pooled (p : Pool) (pairs : List ℕ) : Type 0 where
  pub room : top * slot_words ≤ length pairs
  pub counter : p.counter ≤ top
  pub spare : p.spare < p.counter
  pub each : (n : ℕ) → n < top + 1 → is_slot p pairs n ≡ true
  pub one : (n m lo hi : ℕ) → n < top + 1 → m < top + 1 → opens pairs n lo hi ≡ true → opens pairs m lo hi ≡ true → n ≡ m

pub facts : (p : Pool) (pairs : List ℕ) → is_pool p pairs ≡ true → Pooled p pairs
unfolding is_pool
facts p pairs h1 =
    let h2 = both_second (leb (top * slot_words) (length pairs)) _ h1 in
    let h3 = both_second (leb p.counter top) _ h2 in
    let h4 = both_second (ltb p.spare p.counter) _ h3 in
    let h5 = both_second (every (is_slot p pairs) (top + 1)) _ h4 in
    record {
      room = leb-true _ _ (both_first (leb (top * slot_words) (length pairs)) _ h1);
      counter = leb-true _ _ (both_first (leb p.counter top) _ h2);
      spare = ltb-true _ _ (both_first (ltb p.spare p.counter) _ h3);
      each = λ (n : ℕ) (l : n < top + 1). every_at (is_slot p pairs) (top + 1) n (both_first (every (is_slot p pairs) (top + 1)) _ h4) l;
      one = λ (n m lo hi : ℕ) (l : n < top + 1) (k : m < top + 1) (o : opens pairs n lo hi ≡ true) (q : opens pairs m lo hi ≡ true). sym (sought p pairs n lo hi o (every_at (is_found p pairs) (top + 1) n h5 l)) ∙ sought p pairs m lo hi q (every_at (is_found p pairs) (top + 1) m h5 k);
    }

found_one : (p : Pool) (pairs : List ℕ) → Pooled p pairs → (n : ℕ) → n < top + 1 → is_found p pairs n ≡ true
unfolding is_found
found_one p pairs h n l = go (is_free pairs n) refl where
  it : is_free pairs n ≡ false → unwrap_or (open_number pairs (get_or pairs (n * slot_words + 1) 0) (get_or pairs (n * slot_words + 2) 0) p.counter) 0 ≡ n
  it f =
      let k = held p pairs n f (h.each n l) in
      let o = open_pair pairs n k.1 in
      let b = not_kept p n k.0 in
      let f = finds pairs (get_or pairs (n * slot_words + 1) 0) (get_or pairs (n * slot_words + 2) 0) p.counter n b.0 (omega (arith, b.1)) o in
      let s = found pairs (get_or pairs (n * slot_words + 1) 0) (get_or pairs (n * slot_words + 2) 0) p.counter f.0 f.1 in
      ap (λ (r : Option ℕ). unwrap_or r 0) f.1
      ∙ h.one f.0 n (get_or pairs (n * slot_words + 1) 0) (get_or pairs (n * slot_words + 2) 0) (omega (arith, s.1, h.counter)) l s.2 o

  go : (q : Bool) → is_free pairs n ≡ q → either (is_free pairs n) (eqb (unwrap_or (open_number pairs (get_or pairs (n * slot_words + 1) 0) (get_or pairs (n * slot_words + 2) 0) p.counter) 0) n) ≡ true
  go true f = rw f
  go false f = rw f (eq-eqb _ _ (it f))

pub stands : (p : Pool) (pairs : List ℕ) → Pooled p pairs → is_pool p pairs ≡ true
unfolding is_pool
stands p pairs h =
    both_pass (le-leb _ _ h.room)
    (both_pass (le-leb _ _ h.counter)
    (both_pass (lt-ltb _ _ h.spare)
    (both_pass (every_all (is_slot p pairs) (top + 1) h.each)
    (every_all (is_found p pairs) (top + 1) (found_one p pairs h)))))

-- in a pool no pair is open under two numbers
pub one_number : (p : Pool) (pairs : List ℕ) → is_pool p pairs ≡ true → (n m lo hi : ℕ) → n ≤ highest → m ≤ highest → opens pairs n lo hi ≡ true → opens pairs m lo hi ≡ true → n ≡ m
one_number p pairs h n m lo hi l k o q = (facts p pairs h).one n m lo hi (omega arith) (omega arith) o q

-- ---- a slot beside the one that changes, and that one
module _ (pairs : List ℕ) (m x lo hi : ℕ) where
  free_beside : (n : ℕ) → (n ≡ m → ⊥) → is_free (slot pairs m x lo hi) n ≡ is_free pairs n
  unfolding is_free
  free_beside n e =
      rw (slot_beside pairs m x lo hi n (n * slot_words) e (omega arith) (omega arith), slot_beside pairs m x lo hi n (n * slot_words + 1) e (omega arith) (omega arith), slot_beside pairs m x lo hi n (n * slot_words + 2) e (omega arith) (omega arith))

  opens_beside : (n : ℕ) → (n ≡ m → ⊥) → (lo' hi' : ℕ) → opens (slot pairs m x lo hi) n lo' hi' ≡ opens pairs n lo' hi'
  unfolding opens
  opens_beside n e lo' hi' =
      rw (slot_beside pairs m x lo hi n (n * slot_words) e (omega arith) (omega arith), slot_beside pairs m x lo hi n (n * slot_words + 1) e (omega arith) (omega arith), slot_beside pairs m x lo hi n (n * slot_words + 2) e (omega arith) (omega arith))

  open_beside : (n : ℕ) → (n ≡ m → ⊥) → is_open (slot pairs m x lo hi) n ≡ is_open pairs n
  unfolding is_open
  open_beside n e =
      rw (slot_beside pairs m x lo hi n (n * slot_words) e (omega arith) (omega arith), slot_beside pairs m x lo hi n (n * slot_words + 1) e (omega arith) (omega arith), slot_beside pairs m x lo hi n (n * slot_words + 2) e (omega arith) (omega arith))

-- a number that was freed is open for no pair
shut : (pairs : List ℕ) (m lo hi : ℕ) → m * slot_words + 3 ≤ length pairs → opens (slot pairs m 0 0 0) m lo hi ≡ true → ⊥
shut pairs m lo hi room o = let w = words_of (slot pairs m 0 0 0) m lo hi o in omega (arith, w.0, slot_open pairs m 0 0 0 room)

-- one that was opened is open for that pair alone
open_for : (pairs : List ℕ) (m lo hi lo' hi' : ℕ) → m * slot_words + 3 ≤ length pairs → opens (slot pairs m 1 lo hi) m lo' hi' ≡ true → (lo' ≡ lo) × (hi' ≡ hi)
open_for pairs m lo hi lo' hi' room o =
    let w = words_of (slot pairs m 1 lo hi) m lo' hi' o in
    (sym w.1 ∙ slot_lower pairs m 1 lo hi room, sym w.2 ∙ slot_higher pairs m 1 lo hi room)

-- ---- what a slot may be
still : (f k k' o : Bool) → (k' ≡ true → k ≡ true) → either f (pick k false o) ≡ true → either f (pick k' false o) ≡ true
still true k k' o h e = refl
still false k true o h e = rw (h refl) at e
still false true false o h e = absurd (false≢true e)
still false false false o h e = e

-- a slot that does not change is still right if no other number has to be free
slot_kept : (p p' : Pool) (pairs : List ℕ) (m x lo hi n : ℕ) → (n ≡ m → ⊥) → (kept_free p' n ≡ true → kept_free p n ≡ true) → is_slot p pairs n ≡ true → is_slot p' (slot pairs m x lo hi) n ≡ true
unfolding is_slot
slot_kept p p' pairs m x lo hi n e k h =
    rw (free_beside pairs m x lo hi n e, open_beside pairs m x lo hi n e) (still (is_free pairs n) (kept_free p n) (kept_free p' n) (is_open pairs n) k h)

-- a slot that was freed
slot_freed : (p : Pool) (pairs : List ℕ) (m : ℕ) → m * slot_words + 3 ≤ length pairs → is_slot p (slot pairs m 0 0 0) m ≡ true
unfolding is_slot is_free
slot_freed p pairs m room = rw (slot_open pairs m 0 0 0 room, slot_lower pairs m 0 0 0 room, slot_higher pairs m 0 0 0 room) refl

opened : (f : Bool) (k o : Bool) → k ≡ false → o ≡ true → either f (pick k false o) ≡ true
opened true k o e h = refl
opened false k o e h = rw e h

-- and one that was opened
slot_opened : (p : Pool) (pairs : List ℕ) (m lo hi : ℕ) → m * slot_words + 3 ≤ length pairs → lo ≤ hi → kept_free p m ≡ false → is_slot p (slot pairs m 1 lo hi) m ≡ true
unfolding is_slot is_open
slot_opened p pairs m lo hi room h k =
    opened (is_free (slot pairs m 1 lo hi) m) (kept_free p m) _ k
    (rw (slot_open pairs m 1 lo hi room, slot_lower pairs m 1 lo hi room, slot_higher pairs m 1 lo hi room) (le-leb lo hi h))

-- ---- the numbers that no pair can have
kept_false : (p : Pool) (n : ℕ) → (n ≡ 0 → ⊥) → (n ≡ p.spare → ⊥) → n < p.counter → kept_free p n ≡ false
unfolding kept_free
kept_false p n e f h = rw (ne_eqb n 0 e, ne_eqb n p.spare f) (lt-leb _ _ h)

data Kept (p : Pool) (n : ℕ) : Type 0 where
  nought : n ≡ 0 → Kept p n
  spared : n ≡ p.spare → Kept p n
  beyond : p.counter ≤ n → Kept p n

kept_why : (p : Pool) (n : ℕ) → kept_free p n ≡ true → Kept p n
unfolding kept_free
kept_why p n h = go (eqb n 0) (eqb n p.spare) refl refl h where
  go : (a b : Bool) → eqb n 0 ≡ a → eqb n p.spare ≡ b → either a (either b (leb p.counter n)) ≡ true → Kept p n
  go true b e f h = nought (eqb-true n 0 e)
  go false true e f h = spared (eqb-true n p.spare f)
  go false false e f h = beyond (leb-true p.counter n h)

kept_true : (p : Pool) (n : ℕ) → Kept p n → kept_free p n ≡ true
unfolding kept_free
kept_true p n (nought e) = rw (eq-eqb n 0 e)
kept_true p n (spared e) = go (eqb n 0) where
  go : (a : Bool) → either a (either (eqb n p.spare) (leb p.counter n)) ≡ true
  go true = refl
  go false = rw (eq-eqb n p.spare e)
kept_true p n (beyond h) = go (eqb n 0) (eqb n p.spare) where
  go : (a b : Bool) → either a (either b (leb p.counter n)) ≡ true
  go true b = refl
  go false true = refl
  go false false = le-leb p.counter n h

-- numbers kept free by another pool with no lower counter and no other spare
fewer : (p : Pool) (c s n : ℕ) → p.counter ≤ c → (n ≡ s → Kept p n) → kept_free (pool c s) n ≡ true → kept_free p n ≡ true
fewer p c s n h k e = go (kept_why (pool c s) n e) where
  go : Kept (pool c s) n → kept_free p n ≡ true
  go (nought z) = kept_true p n (nought z)
  go (spared z) = kept_true p n (k z)
  go (beyond z) = kept_true p n (beyond (omega arith))

-- ---- what a call leaves
abbrev pub KeepsBy : List ℕ → List ℕ → Option (Pool × ℕ) → Type 0
KeepsBy pairs left (Some (p, n)) = (is_pool p left ≡ true) × (0 < n) × (n ≤ highest)
KeepsBy pairs left None = left ≡ pairs

abbrev pub Keeps : List ℕ → Hits → Type 0
Keeps pairs h = KeepsBy pairs h.left h.answer

-- the number that an opening takes was not open, and is below the counter afterwards
next_on : (p : Pool) → p.spare < p.counter → next_of p ≤ highest → (0 < next_of p) × (next_of p < counter_of p)
unfolding next_of counter_of counter_next
next_on p h l = go (eqb p.spare 0) refl l where
  go : (q : Bool) → eqb p.spare 0 ≡ q → pick q p.counter p.spare ≤ highest → (0 < pick (eqb p.spare 0) p.counter p.spare) × (pick (eqb p.spare 0) p.counter p.spare < pick (eqb p.spare 0) (pick (ltb highest p.counter) p.counter (p.counter + 1)) p.counter)
  go true q k = rw (q, le-ltb highest p.counter k) (omega arith, omega arith)
  go false q k = let n = eqb-false p.spare 0 q in rw q (differ n (omega arith), h)

below_counter : (p : Pool) (pairs : List ℕ) (n lo hi : ℕ) → opens pairs n lo hi ≡ true → is_slot p pairs n ≡ true → (0 < n) × (n < p.counter)
below_counter p pairs n lo hi o s = not_kept p n (held p pairs n (marked pairs n lo hi o) s).0

module _ (p : Pool) (pairs : List ℕ) (h : Pooled p pairs) where
  open_kept : (lo hi : ℕ) → lo ≤ hi → open_number pairs lo hi p.counter ≡ None → Keeps pairs (open_of p pairs lo hi)
  unfolding open_of
  open_kept lo hi l unheld =
      by_test (λ (z : Hits). Keeps pairs z) (ltb highest (next_of p)) {x = hits None pairs} {y = hits (Some (pool (counter_of p) 0, next_of p)) (slot pairs (next_of p) 1 lo hi)} (λ e. refl) (λ e. given (ltb-false highest (next_of p) e))
    where
      given : next_of p ≤ highest → (is_pool (pool (counter_of p) 0) (slot pairs (next_of p) 1 lo hi) ≡ true) × (0 < next_of p) × (next_of p ≤ highest)
      given small =
          let on = counter_on p h.counter in
          let next = next_on p h.spare small in (
            stands (pool (counter_of p) 0) (slot pairs (next_of p) 1 lo hi)
                (record {
                  room = rw slot_length h.room;
                  counter = on.1;
                  spare = omega (arith, next.1);
                  each = λ (n : ℕ) (k : n < top + 1). each n k (eqb n (next_of p)) refl on.0 next.0 next.1;
                  one = λ (n m lo' hi' : ℕ) (k : n < top + 1) (k' : m < top + 1) (o : opens (slot pairs (next_of p) 1 lo hi) n lo' hi' ≡ true) (o' : opens (slot pairs (next_of p) 1 lo hi) m lo' hi' ≡ true). one n m lo' hi' k k' o o' (eqb n (next_of p)) (eqb m (next_of p)) refl refl;
                }),
            next.0,
            small,
          )
        where
          room : next_of p * slot_words + 3 ≤ length pairs
          room = omega (arith, h.room)

          -- no number is open for the pair before
          other : (m lo' hi' : ℕ) → m < top + 1 → (m ≡ next_of p → ⊥) → opens (slot pairs (next_of p) 1 lo hi) (next_of p) lo' hi' ≡ true → opens (slot pairs (next_of p) 1 lo hi) m lo' hi' ≡ true → ⊥
          other m lo' hi' k e o o' =
              let w = open_for pairs (next_of p) lo hi lo' hi' room o in
              let old : opens pairs m lo hi ≡ true = rw (opens_beside pairs (next_of p) 1 lo hi m e lo' hi', w.0, w.1) at o' in
              let b = below_counter p pairs m lo hi old (h.each m k) in
              let f = finds pairs lo hi p.counter m b.0 (omega (arith, b.1)) old in
              let y : None ≡ Some f.0 = sym unheld ∙ f.1 in
              impossible cc

          one : (n m lo' hi' : ℕ) → n < top + 1 → m < top + 1 → opens (slot pairs (next_of p) 1 lo hi) n lo' hi' ≡ true → opens (slot pairs (next_of p) 1 lo hi) m lo' hi' ≡ true → (q r : Bool) → eqb n (next_of p) ≡ q → eqb m (next_of p) ≡ r → n ≡ m
          one n m lo' hi' k k' o o' true true q r = eqb-true n (next_of p) q ∙ sym (eqb-true m (next_of p) r)
          one n m lo' hi' k k' o o' true false q r = absurd (other m lo' hi' k' (eqb-false m (next_of p) r) (rw (eqb-true n (next_of p) q) at o) o')
          one n m lo' hi' k k' o o' false true q r = absurd (other n lo' hi' k (eqb-false n (next_of p) q) (rw (eqb-true m (next_of p) r) at o') o)
          one n m lo' hi' k k' o o' false false q r =
              h.one n m lo' hi' k k' (rw (opens_beside pairs (next_of p) 1 lo hi n (eqb-false n (next_of p) q) lo' hi') at o) (rw (opens_beside pairs (next_of p) 1 lo hi m (eqb-false m (next_of p) r) lo' hi') at o')

          each : (n : ℕ) → n < top + 1 → (q : Bool) → eqb n (next_of p) ≡ q → p.counter ≤ counter_of p → 0 < next_of p → next_of p < counter_of p → is_slot (pool (counter_of p) 0) (slot pairs (next_of p) 1 lo hi) n ≡ true
          each n k true q on pos less =
              rw (eqb-true n (next_of p) q)
              (slot_opened (pool (counter_of p) 0) pairs (next_of p) lo hi (omega (arith, h.room)) l
              (kept_false (pool (counter_of p) 0) (next_of p) (λ z. omega arith) (λ z. omega arith) less))
          each n k false q on pos less =
              slot_kept p (pool (counter_of p) 0) pairs (next_of p) 1 lo hi n (eqb-false n (next_of p) q) (fewer p (counter_of p) 0 n on (λ z. nought z)) (h.each n k)

  close_kept : (r lo hi : ℕ) → (r ≡ 0 → ⊥) → r < p.counter → Keeps pairs (close_of p pairs r)
  unfolding close_of
  close_kept r lo hi z l =
      let on = counter_on p h.counter in (
        stands (pool (counter_of p) r) (slot pairs r 0 0 0)
            (record {
              room = rw slot_length h.room;
              counter = on.1;
              spare = omega (arith, on.0);
              each = λ (n : ℕ) (k : n < top + 1). each n k (eqb n r) refl on.0;
              one = λ (n m lo' hi' : ℕ) (k : n < top + 1) (k' : m < top + 1) (o : opens (slot pairs r 0 0 0) n lo' hi' ≡ true) (o' : opens (slot pairs r 0 0 0) m lo' hi' ≡ true). h.one n m lo' hi' k k' (old n lo' hi' o) (old m lo' hi' o');
            }),
        differ z (omega arith),
        omega (arith, h.counter),
      )
    where
      -- what is open was open before
      old : (n lo' hi' : ℕ) → opens (slot pairs r 0 0 0) n lo' hi' ≡ true → opens pairs n lo' hi' ≡ true
      old n lo' hi' o =
          rw (opens_beside pairs r 0 0 0 n (λ e. shut pairs r lo' hi' (omega (arith, h.room, h.counter)) (rw e at o)) lo' hi') at o

      each : (n : ℕ) → n < top + 1 → (q : Bool) → eqb n r ≡ q → p.counter ≤ counter_of p → is_slot (pool (counter_of p) r) (slot pairs r 0 0 0) n ≡ true
      each n k true q on = rw (eqb-true n r q) (slot_freed (pool (counter_of p) r) pairs r (omega (arith, h.room, h.counter)))
      each n k false q on =
          slot_kept p (pool (counter_of p) r) pairs r 0 0 0 n (eqb-false n r q) (fewer p (counter_of p) r n on (λ e. absurd (eqb-false n r q e))) (h.each n k)

pair_kept : (p : Pool) (pairs : List ℕ) (lo hi : ℕ) → Pooled p pairs → lo ≤ hi → Keeps pairs (hit_pair p pairs lo hi)
unfolding hit_pair open_or_close
pair_kept p pairs lo hi h l = go (open_number pairs lo hi p.counter) refl
  where
    go : (o : Option ℕ) → open_number pairs lo hi p.counter ≡ o → Keeps pairs (open_or_close p pairs lo hi o)
    go None e = open_kept p pairs h lo hi l e
    go (Some r) e =
        let f = found pairs lo hi p.counter r e in
        close_kept p pairs h r lo hi (λ z. omega (arith, f.0)) (below_counter p pairs r lo hi f.2 (h.each r (omega (arith, f.1, h.counter)))).1

pub hit_kept : (p : Pool) (pairs : List ℕ) (a b : ℕ) → is_pool p pairs ≡ true → Keeps pairs (hit_of p pairs a b)
unfolding hit_of
hit_kept p pairs a b h =
    by_test (λ (z : Hits). Keeps pairs z) (ltb a b) {x = hit_pair p pairs a b} {y = hit_pair p pairs b a}
    (λ e. let l = ltb-true a b e in pair_kept p pairs a b (facts p pairs h) (omega arith))
    (λ e. pair_kept p pairs b a (facts p pairs h) (ltb-false a b e))

empty_slot : (n i : ℕ) → is_slot empty_of (replicate n 0) i ≡ true
unfolding is_slot is_free
empty_slot n i = rw (zero_at n (i * slot_words), zero_at n (i * slot_words + 1), zero_at n (i * slot_words + 2))

pub empty_stands : (n : ℕ) → top * slot_words ≤ n → is_pool empty_of (replicate n 0) ≡ true
empty_stands n h =
    stands empty_of (replicate n 0)
    (record {
      room = rw (length-replicate {A = ℕ}) h;
      counter = omega arith;
      spare = omega arith;
      each = λ (i : ℕ) (l : i < top + 1). empty_slot n i;
      one = λ (i m lo hi : ℕ) (l : i < top + 1) (k : m < top + 1) (o : opens (replicate n 0) i lo hi ≡ true) (q : opens (replicate n 0) m lo hi ≡ true). absurd (let w = words_of (replicate n 0) i lo hi o in omega (arith, w.0, zero_at n (i * slot_words)));
    })
