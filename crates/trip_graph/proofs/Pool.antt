-- The pool serves: the words of a pool hold the open pairs, open numbers are distinct and at most 99, and a call for an open pair
-- closes it with the number that opened it.
use mathlib.Core.Path.{◌≡◌, refl, sym, ap, ap₂, ◌∙◌, subst}
use mathlib.Core.Logic.{◌≢◌}
use mathlib.Core.List.{List, [], ◌∷◌}
use mathlib.Core.Option.{none, some}
use mathlib.Core.Bool.{true, false}
use Prim.Native.Nat.{ℕ, ◌+◌, ◌*◌, ◌≤◌, ◌<◌}
use native.Mathlib.Omega.{arith}
use lib.ListN.{length, get_or, length-replicate}
use lib.Dec.{ltb, eqb}
use borrow.Author.Tests.{eq-eqb, ne_eqb, lt-ltb, le-ltb, ltb-true, ltb-false, eqb-true}
use Rattle.feature.specs.Pick.{pick}
use Rattle.feature.proofs.Cases.{by_eq, clash, impossible}
use Rattle.table.proofs.Zeros.{zero_at}
use Rattle.join_pool.specs.declared.Pool.{Pool}
use Rattle.std.specs.Prelude.{None, Option, Some}
use Rattle.join_pool.specs.Pairs.{highest, slot_words, pool, opens, open_number, slot, counter_next, counter_of, next_of, hits, open_of, close_of, open_or_close, hit_pair, hit_of}
use Rattle.join_pool.proofs.Slots.{slot_length, slot_beside, slot_open, slot_lower, slot_higher, words_of, found, finds, counter_on}
use Rattle.trip_graph.specs.Opened.{Pair, ring_pair, pair_is, look, del, num_in, Distinct, Opens, full, number, Serves}
use Rattle.trip_graph.proofs.Lists.{by_bool, or_true_left, or_elim}
use Rattle.trip_graph.proofs.View.{some_inj, pair_a, pair_b}
use Rattle.trip_graph.proofs.Opens.{In, in_case, look_in, in_num, num_find, no_member, in_look, in_del, in_kept, num_gone, num_del_true}

-- ---- a pair, its lower atom first
lo_of : ℕ → ℕ → ℕ
lo_of a b = pick (ltb a b) a b

hi_of : ℕ → ℕ → ℕ
hi_of a b = pick (ltb a b) b a

hit_is : (p : Pool) (pairs : List ℕ) (a b : ℕ) → hit_of p pairs a b ≡ hit_pair p pairs (lo_of a b) (hi_of a b)
unfolding hit_of lo_of hi_of
hit_is p pairs a b = by_bool (ltb a b) (λ q. rw q) (λ q. rw q)

-- the other way round it is the same
turned : (a b : ℕ) → a ≢ b → (lo_of a b ≡ lo_of b a) × (hi_of a b ≡ hi_of b a)
unfolding lo_of hi_of
turned a b h =
    by_bool (ltb a b)
    (λ q. let l : a < b = ltb-true a b q in rw (q, le-ltb b a (omega arith)) (refl, refl))
    (λ q. let l : b ≤ a = ltb-false a b q in rw (q, lt-ltb b a (omega arith)) (refl, refl))

-- and two pairs with the same ends are one
one_pair : {X : Type 0} (a b c d : ℕ) → lo_of a b ≡ lo_of c d → hi_of a b ≡ hi_of c d → (a ≡ c → b ≡ d → X) → (a ≡ d → b ≡ c → X) → X
unfolding lo_of hi_of
one_pair a b c d l h f k =
    by_bool (ltb a b)
    (λ q. by_bool (ltb c d) (λ z. f (rw (q, z) at l) (rw (q, z) at h)) (λ z. k (rw (q, z) at l) (rw (q, z) at h)))
    (λ q. by_bool (ltb c d) (λ z. k (rw (q, z) at h) (rw (q, z) at l)) (λ z. f (rw (q, z) at h) (rw (q, z) at l)))

-- ---- what the words hold
record Slot (pairs : List ℕ) (x : Pair) : Type 0 where
  open1 : get_or pairs (x.num * slot_words) 0 ≡ 1
  lower : get_or pairs (x.num * slot_words + 1) 0 ≡ lo_of x.from x.onto
  higher : get_or pairs (x.num * slot_words + 2) 0 ≡ hi_of x.from x.onto

pub record Holds (p : Pool) (pairs : List ℕ) (P : List Pair) : Type 0 where
  room : length pairs ≡ 300
  low : 1 ≤ p.counter
  high : p.counter ≤ 100
  slots : (x : Pair) → In x P → Slot pairs x
  free : (n : ℕ) → num_in n P ≡ false → get_or pairs (n * slot_words) 0 ≡ 0
  below : (n : ℕ) → num_in n P ≡ true → (1 ≤ n) × (n < p.counter)
  spare : p.spare ≢ 0 → (p.spare < p.counter) × (num_in p.spare P ≡ false)

slot_opens : (pairs : List ℕ) (x : Pair) (lo hi : ℕ) → Slot pairs x → lo_of x.from x.onto ≡ lo → hi_of x.from x.onto ≡ hi → opens pairs x.num lo hi ≡ true
unfolding opens
slot_opens pairs x lo hi s l h = rw (eq-eqb _ 1 s.open1, eq-eqb _ lo (s.lower ∙ l), eq-eqb _ hi (s.higher ∙ h))

-- a slot kept
slot_kept : (pairs : List ℕ) (n v lo hi : ℕ) (x : Pair) → x.num ≢ n → Slot pairs x → Slot (slot pairs n v lo hi) x
slot_kept pairs n v lo hi x ne s =
    record {
      open1 = slot_beside pairs n v lo hi x.num (x.num * slot_words) ne (omega arith) (omega arith) ∙ s.open1;
      lower = slot_beside pairs n v lo hi x.num (x.num * slot_words + 1) ne (omega arith) (omega arith) ∙ s.lower;
      higher = slot_beside pairs n v lo hi x.num (x.num * slot_words + 2) ne (omega arith) (omega arith) ∙ s.higher;
    }

-- ---- the search
module _ (pairs : List ℕ) (lo hi : ℕ) where
  search_none : (n : ℕ) → ((m : ℕ) → opens pairs m lo hi ≡ true → ⊥) → open_number pairs lo hi n ≡ None
  search_none n h = go (open_number pairs lo hi n) refl
    where
      go : (o : Option ℕ) → open_number pairs lo hi n ≡ o → open_number pairs lo hi n ≡ None
      go None e = e
      go (Some r) e = absurd (h r (found pairs lo hi n r e).2)

  search_is : (r n : ℕ) → 1 ≤ r → r ≤ n → opens pairs r lo hi ≡ true → ((m : ℕ) → opens pairs m lo hi ≡ true → m ≡ r) → open_number pairs lo hi n ≡ Some r
  search_is r n l h o u = let f = finds pairs lo hi n r l h o in f.1 ∙ ap Some (u f.0 (found pairs lo hi n f.0 f.1).2)

-- ---- the counter
grown : (c : ℕ) → c ≤ highest → c < counter_next c
unfolding counter_next
grown c h = rw (le-ltb highest c h) (omega arith)

module _ (p : Pool) (pairs : List ℕ) (P : List Pair) (H : Holds p pairs P) (g : Distinct P) where
  -- a number that the words show open is that of a member
  record Opened (n lo hi : ℕ) : Type 0 where
    it : Pair
    member : In it P
    is : it.num ≡ n
    lower : lo_of it.from it.onto ≡ lo
    higher : hi_of it.from it.onto ≡ hi

  opened : (n lo hi : ℕ) → opens pairs n lo hi ≡ true → Opened n lo hi
  opened n lo hi h =
      let w = words_of pairs n lo hi h in
      by_bool (num_in n P)
      (λ q. let f = num_find P n q in
      let s = H.slots f.0 f.1 in
      record {
        it = f.0;
        member = f.1;
        is = f.2;
        lower = sym s.lower ∙ ap (λ (m : ℕ). get_or pairs (m * slot_words + 1) 0) f.2 ∙ w.1;
        higher = sym s.higher ∙ ap (λ (m : ℕ). get_or pairs (m * slot_words + 2) 0) f.2 ∙ w.2;
      })
      (λ q. impossible (sym (H.free n q) ∙ w.0))

  next_facts : (next_of p ≤ 99 → next_of p < counter_of p) × (1 ≤ next_of p) × (num_in (next_of p) P ≡ false)
  unfolding next_of counter_of
  next_facts =
      by_eq p.spare 0
      (λ e. rw (eq-eqb p.spare 0 e) (
        grown p.counter,
        H.low,
        by_bool (num_in p.counter P) (λ q. absurd (omega (arith, (H.below p.counter q).1))) (λ q. q),
      ))
      (λ e. rw (ne_eqb p.spare 0 e) (λ z. (H.spare e).0, omega arith, (H.spare e).1))

  module _ (s t : ℕ) (apart : s ≢ t) where
    -- where the pair is open
    module _ (x : Pair) (l : look P t s ≡ some x) (l' : look P s t ≡ none) where
      is_x : (y : Pair) → In y P → lo_of y.from y.onto ≡ lo_of s t → hi_of y.from y.onto ≡ hi_of s t → y ≡ x
      is_x y i a b =
          one_pair y.from y.onto s t a b
          (λ e f. absurd (no_member P s t y l' i (sym e) (sym f)))
          (λ e f. some_inj (sym (in_look P y t s g i (sym e) (sym f)) ∙ l))

      found_x : open_number pairs (lo_of s t) (hi_of s t) p.counter ≡ Some x.num
      found_x =
          let f = look_in P t s x l in
          let b = H.below x.num (in_num x P f.member) in
          let e = turned s t apart in
          let lo : lo_of x.from x.onto ≡ lo_of s t = ap₂ lo_of (sym f.from) (sym f.onto) ∙ sym e.0 in
          let hi : hi_of x.from x.onto ≡ hi_of s t = ap₂ hi_of (sym f.from) (sym f.onto) ∙ sym e.1 in
          search_is pairs (lo_of s t) (hi_of s t) x.num p.counter b.0 (omega arith)
          (slot_opens pairs x (lo_of s t) (hi_of s t) (H.slots x f.member) lo hi)
          (λ m o. let k = opened m (lo_of s t) (hi_of s t) o in sym k.is ∙ ap (λ (y : Pair). y.num) (is_x k.it k.member k.lower k.higher))

      close_is : hit_of p pairs s t ≡ hits (Some (pool (counter_of p) x.num, x.num)) (slot pairs x.num 0 0 0)
      unfolding hit_pair open_or_close close_of
      close_is =
          hit_is p pairs s t ∙ rw found_x

      close_small : x.num ≤ highest
      close_small = omega (arith, (H.below x.num (in_num x P (look_in P t s x l).member)).1, H.high)

      close_holds : Holds (pool (counter_of p) x.num) (slot pairs x.num 0 0 0) (del t s P)
      close_holds =
          let f = look_in P t s x l in
          let b = H.below x.num (in_num x P f.member) in
          let c = counter_on p H.high in
          let gone : num_in x.num (del t s P) ≡ false = num_gone P t s x g l in
          let hc : p.counter ≤ 100 = H.high in
          let hr : length pairs ≡ 300 = H.room in
          record {
            room = slot_length pairs x.num 0 0 0 ∙ H.room;
            low = omega (arith, H.low);
            high = c.1;
            slots = λ y i. slot_kept pairs x.num 0 0 0 y (λ z. clash (in_num y (del t s P) i) (rw z gone)) (H.slots y (in_del P t s y i));
            free = λ n h. by_eq n x.num
                (λ e. rw e (slot_open pairs x.num 0 0 0 (omega arith)))
                (λ e. slot_beside pairs x.num 0 0 0 n (n * slot_words) e (omega arith) (omega arith)
                ∙ H.free n (by_bool (num_in n P)
                (λ q. let k = num_find P n q in
                by_bool (pair_is t s k.0)
                (λ z. absurd (e (sym k.2 ∙ ap (λ (y : Pair). y.num) (some_inj (sym (in_look P k.0 t s g k.1 (pair_a t s k.0 z) (pair_b t s k.0 z)) ∙ l)))))
                (λ z. clash (in_num k.0 (del t s P) (in_kept P t s k.0 k.1 z)) (rw k.2 h)))
                (λ q. q)));
            below = λ n h. let a = H.below n (num_del_true P t s n h) in (a.0, omega arith);
            spare = λ h. (omega arith, gone);
          }

    -- where it is not
    module _ (l : look P t s ≡ none) (l' : look P s t ≡ none) where
      found_none : open_number pairs (lo_of s t) (hi_of s t) p.counter ≡ None
      found_none =
          search_none pairs (lo_of s t) (hi_of s t) p.counter
          (λ m o. let k = opened m (lo_of s t) (hi_of s t) o in
          one_pair k.it.from k.it.onto s t k.lower k.higher
          (λ e f. no_member P s t k.it l' k.member (sym e) (sym f))
          (λ e f. no_member P t s k.it l k.member (sym e) (sym f)))

      open_holds : next_of p ≤ 99 → (j : ℕ) → Holds (pool (counter_of p) 0) (slot pairs (next_of p) 1 (lo_of s t) (hi_of s t)) (ring_pair s t (next_of p) j ∷ P)
      unfolding num_in
      open_holds h j =
          let c = counter_on p H.high in
          let n : ℕ = next_of p in
          let nf = next_facts in
          let hr : length pairs ≡ 300 = H.room in
          let hl : 1 ≤ p.counter = H.low in
          let nc : next_of p < counter_of p = nf.0 h in
          let rm : next_of p * slot_words + slot_words ≤ length pairs = omega arith in
          record {
            room = slot_length pairs n 1 (lo_of s t) (hi_of s t) ∙ H.room;
            low = omega arith;
            high = c.1;
            slots = λ y i. in_case i
                (λ e. subst (λ (z : Pair). Slot (slot pairs n 1 (lo_of s t) (hi_of s t)) z) (sym e) (record {
                  open1 = slot_open pairs n 1 (lo_of s t) (hi_of s t) rm;
                  lower = slot_lower pairs n 1 (lo_of s t) (hi_of s t) rm;
                  higher = slot_higher pairs n 1 (lo_of s t) (hi_of s t) rm;
                }))
                (λ k. slot_kept pairs n 1 (lo_of s t) (hi_of s t) y (λ z. clash (in_num y P k) (rw z nf.2)) (H.slots y k));
            free = λ m k. by_eq m (next_of p)
                (λ e. clash (or_true_left _ (eq-eqb _ _ e)) k)
                (λ e. slot_beside pairs n 1 (lo_of s t) (hi_of s t) m (m * slot_words) e (omega arith) (omega arith)
                ∙ H.free m (rw (ne_eqb m (next_of p) e) at k));
            below = λ m k. or_elim (eqb m (next_of p)) (num_in m P) k
                (λ q. let e : m ≡ next_of p = eqb-true m (next_of p) q in (omega (arith, nf.1), omega arith))
                (λ q. let a = H.below m q in (a.0, omega (arith, c.0)));
            spare = λ z. absurd (z refl);
          }

      open_is : Opens Holds p pairs P s t
      unfolding hit_pair open_or_close open_of
      open_is =
          by_bool (ltb highest (next_of p))
          (λ q. full pairs (hit_is p pairs s t ∙ rw (found_none, q)))
          (λ q. number (pool (counter_of p) 0) (slot pairs (next_of p) 1 (lo_of s t) (hi_of s t)) (next_of p)
          (hit_is p pairs s t ∙ rw (found_none, q)) (ltb-false highest (next_of p) q) next_facts.2 (open_holds (ltb-false highest (next_of p) q)))

pub pool_serves : Serves Holds
unfolding num_in
pool_serves = record {
  start = record {
    room = length-replicate {A = ℕ} 300 0;
    low = omega arith;
    high = omega arith;
    slots = λ x i. clash (in_num x [] i) refl;
    free = λ n h. zero_at 300 (n * slot_words);
    below = λ n h. clash h refl;
    spare = λ h. absurd (h refl);
  };
  closes = λ p pairs P s t x H g a l l'.
      record { after = pool (counter_of p) x.num; words = slot pairs x.num 0 0 0; is = close_is p pairs P H g s t a x l l'; small = close_small p pairs P H g s t a x l l'; holds = close_holds p pairs P H g s t a x l l' };
  opens = λ p pairs P s t H g a l l'. open_is p pairs P H g s t a l l';
}
