-- The table of names is ordered, so a search from the first name of a byte on finds what a look at each would. Assumes nothing.
use Prim.Native.Nat.{ℕ, zero, suc, suc-le-suc, ◌/◌, ◌%◌, ◌<◌, ◌≤◌}
use mathlib.Core.Path.{◌≡◌, refl, ◌∙◌, ap, sym, subst}
use mathlib.Core.Bool.{Bool, true, false}
use mathlib.Core.List.{List, [], ◌∷◌}
use native.Mathlib.Omega.{arith}
use native.Mathlib.Nat.{le_of_suc-le-suc, not-suc-le-zero, zero-lt-suc, le_of_lt}
use lib.ListN.{length, get_or, length-map, get_or-map, get_or-eq_default}
use lib.Dec.{T, ltb, ltb→lt, eqb}
use borrow.Author.Tests.{eq-eqb, ne_eqb, lt-ltb, le-ltb, ltb-true, ltb-false, eqb-true, eqb-false}
use Rattle.std.specs.Prelude.{Some, None}
use Rattle.feature.specs.Pick.{both, either, pick}
use Rattle.feature.specs.Text.{byte, letter_step, no_letter, one_letter, two_letters}
use Rattle.feature.specs.Names.{symbols, names, place_of, symbol_at, begins, named_of}
use Rattle.feature.specs.declared.element.Named.TheVariants.{Two, One, Begins, Nothing}
use Rattle.feature.specs.Steps.{first_bytes, head_of}
use Rattle.feature.proofs.Cases.{by_test, impossible}
use Rattle.feature.proofs.Table.{at, both_left, both_right, rising, every_entry, NoneAmong, among, apart}

pub names_length : length names ≡ symbols
unfolding names
names_length = refl

pub name_out : (y : ℕ) → symbols ≤ y → get_or names y 0 ≡ 0
name_out y h = get_or-eq_default names 0 (omega (arith, names_length))

-- ---- ordered
rising_head : (x : ℕ) (xs : List ℕ) → T (rising (x ∷ xs)) → (j : ℕ) → j < length xs → x < get_or xs j 0
rising_head x [] t j h = absurd (not-suc-le-zero h)
rising_head x (y ∷ xs) t zero h = ltb→lt x y (both_left (ltb x y) (rising (y ∷ xs)) t)
rising_head x (y ∷ xs) t (suc j) h =
    omega (arith, ltb→lt x y (both_left (ltb x y) (rising (y ∷ xs)) t), rising_head y xs (both_right (ltb x y) (rising (y ∷ xs)) t) j (le_of_suc-le-suc h))

rising_tail : (x : ℕ) (xs : List ℕ) → T (rising (x ∷ xs)) → T (rising xs)
rising_tail x [] t = tt
rising_tail x (y ∷ xs) t = both_right (ltb x y) (rising (y ∷ xs)) t

rising_at : (xs : List ℕ) → T (rising xs) → (i j : ℕ) → i < j → j < length xs → get_or xs i 0 < get_or xs j 0
rising_at [] t i j h l = absurd (not-suc-le-zero l)
rising_at (x ∷ xs) t zero zero h l = absurd (not-suc-le-zero h)
rising_at (x ∷ xs) t zero (suc j) h l = rising_head x xs t j (le_of_suc-le-suc l)
rising_at (x ∷ xs) t (suc i) zero h l = absurd (not-suc-le-zero h)
rising_at (x ∷ xs) t (suc i) (suc j) h l =
    rising_at xs (rising_tail x xs t) i j (le_of_suc-le-suc h) (le_of_suc-le-suc l)

-- the table's rule: an earlier name is a smaller one
pub ordered : (i j : ℕ) → i < j → j < symbols → get_or names i 0 < get_or names j 0
unfolding names
ordered i j h l = rising_at names tt i j h l

-- and the name of a single letter comes before all others that begin with it
pub single_leads : (y j : ℕ) → y < symbols → j < symbols → get_or names y 0 ≡ one_letter (get_or names j 0 / letter_step) → y ≤ j
single_leads y j l h e = split (ltb j y) refl where
  split : (b : Bool) → ltb j y ≡ b → y ≤ j
  split true t = absurd (omega (arith, e, ordered j y (ltb-true j y t) l))
  split false t = ltb-false j y t

-- what is at most a place is at most its name
pub ordered_le : (i j : ℕ) → i ≤ j → j < symbols → get_or names i 0 ≤ get_or names j 0
ordered_le i j h l = split (ltb i j) refl where
  split : (b : Bool) → ltb i j ≡ b → get_or names i 0 ≤ get_or names j 0
  split true e = le_of_lt (ordered i j (ltb-true i j e) l)
  split false e =
      let same : i ≡ j = omega (arith, ltb-false i j e) in
      subst (λ (k : ℕ). get_or names i 0 ≤ get_or names k 0) same (omega arith)

-- ---- found by a look at each
place_here : (k : ℕ) (xs : List ℕ) (i : ℕ) → i < length xs → get_or xs i 0 ≡ k → ((j : ℕ) → j < i → get_or xs j 0 ≡ k → ⊥) → place_of k xs ≡ i
unfolding place_of
place_here k [] i l e n = absurd (not-suc-le-zero l)
place_here k (x ∷ xs) zero l e n = simp (eq-eqb x k e)
place_here k (x ∷ xs) (suc i) l e n =
    simp (ne_eqb x k (n zero (zero-lt-suc i)))
    (ap suc (place_here k xs i (le_of_suc-le-suc l) e (λ j h. n (suc j) (suc-le-suc h))))

place_none : (k : ℕ) (xs : List ℕ) → ((j : ℕ) → j < length xs → get_or xs j 0 ≡ k → ⊥) → place_of k xs ≡ length xs
unfolding place_of
place_none k [] n = refl
place_none k (x ∷ xs) n =
    simp (ne_eqb x k (n zero (zero-lt-suc (length xs))))
    (ap suc (place_none k xs (λ j h. n (suc j) (suc-le-suc h))))

-- the number is at its place, and at none before
place_has : (k : ℕ) (xs : List ℕ) → place_of k xs < length xs → get_or xs (place_of k xs) 0 ≡ k
unfolding place_of
place_has k [] h = absurd (not-suc-le-zero h)
place_has k (x ∷ xs) h =
    by_test (λ (p : ℕ). p < suc (length xs) → get_or (x ∷ xs) p 0 ≡ k) (eqb x k)
    (λ e l. eqb-true x k e) (λ e l. place_has k xs (le_of_suc-le-suc l)) h

place_first : (k : ℕ) (xs : List ℕ) (j : ℕ) → j < place_of k xs → get_or xs j 0 ≡ k → ⊥
unfolding place_of
place_first k [] j h = absurd (not-suc-le-zero h)
place_first k (x ∷ xs) zero h =
    by_test (λ (p : ℕ). 0 < p → x ≡ k → ⊥) (eqb x k)
    (λ e l. absurd (not-suc-le-zero l)) (λ e l. eqb-false x k e) h
place_first k (x ∷ xs) (suc j) h =
    by_test (λ (p : ℕ). suc j < p → get_or xs j 0 ≡ k → ⊥) (eqb x k)
    (λ e l. absurd (not-suc-le-zero l)) (λ e l. place_first k xs j (le_of_suc-le-suc l)) h

begins_here : (a : ℕ) (xs : List ℕ) (i : ℕ) → i < length xs → get_or xs i 0 / letter_step ≡ a → begins a xs ≡ true
unfolding begins
begins_here a [] i l e = absurd (not-suc-le-zero l)
begins_here a (x ∷ xs) zero l e = simp (eq-eqb (x / letter_step) a e)
begins_here a (x ∷ xs) (suc i) l e = go (eqb (x / letter_step) a) (begins_here a xs i (le_of_suc-le-suc l) e) where
  go : (b : Bool) {c : Bool} → c ≡ true → either b c ≡ true
  go true h = refl
  go false h = h

begins_none : (a : ℕ) (xs : List ℕ) → ((j : ℕ) → j < length xs → get_or xs j 0 / letter_step ≡ a → ⊥) → begins a xs ≡ false
unfolding begins
begins_none a [] n = refl
begins_none a (x ∷ xs) n =
    simp (ne_eqb (x / letter_step) a (n zero (zero-lt-suc (length xs))))
    (begins_none a xs (λ j h. n (suc j) (suc-le-suc h)))

-- ---- the names of one first byte
first_at : (j : ℕ) → get_or first_bytes j 0 ≡ get_or names j 0 / letter_step
unfolding first_bytes
first_at j = get_or-map (λ (x : ℕ). x / letter_step) names j 0

first_length : length first_bytes ≡ symbols
unfolding first_bytes
first_length = length-map names (λ (x : ℕ). x / letter_step) ∙ names_length

module _ (a : ℕ) where
  head_small : head_of a < symbols
  unfolding head_of
  head_small =
      by_test (λ (p : ℕ). p < symbols) (ltb (place_of a first_bytes) symbols)
      (λ e. ltb-true (place_of a first_bytes) symbols e) (λ e. omega arith)

  head_before : (j : ℕ) → j < head_of a → get_or names j 0 / letter_step ≡ a → ⊥
  unfolding head_of
  head_before j h e =
      by_test (λ (p : ℕ). j < p → ⊥) (ltb (place_of a first_bytes) symbols)
      (λ t l. place_first a first_bytes j l (first_at j ∙ e)) (λ t l. not-suc-le-zero l) h

  -- where some name begins with the byte, the head does
  head_leads : (j : ℕ) → j < symbols → get_or names j 0 / letter_step ≡ a → get_or names (head_of a) 0 / letter_step ≡ a
  unfolding head_of
  head_leads j l e =
      by_test (λ (p : ℕ). get_or names p 0 / letter_step ≡ a) (ltb (place_of a first_bytes) symbols)
      (λ t. sym (first_at (place_of a first_bytes)) ∙ place_has a first_bytes (omega (arith, ltb-true (place_of a first_bytes) symbols t, first_length)))
      (λ t. absurd (place_first a first_bytes j (omega (arith, l, ltb-false (place_of a first_bytes) symbols t)) (first_at j ∙ e)))

  -- the name of the byte alone is the head
  head_single : (y : ℕ) → y < symbols → get_or names y 0 ≡ one_letter a → head_of a ≡ y
  unfolding head_of
  head_single y l e = simp (here, lt-ltb y symbols l) where
    here : place_of a first_bytes ≡ y
    here =
        place_here a first_bytes y (omega (arith, first_length))
        (first_at y ∙ omega (arith, e))
        (λ j h same. omega (arith, h, single_leads y j l (omega arith) (e ∙ ap one_letter (sym same ∙ first_at j))))

  -- a byte that is none of these, where each name begins with one of these
  pub head_nowhere : (ks : List ℕ) → NoneAmong ks a → T (every_entry (λ (k x : ℕ). among ks (x / letter_step)) 0 names) → 0 ≡ head_of a
  unfolding head_of
  head_nowhere ks none test =
      simp (le-ltb (place_of a first_bytes) symbols (omega (arith, place_none a first_bytes no, first_length))) where
        no : (j : ℕ) → j < length first_bytes → get_or first_bytes j 0 ≡ a → ⊥
        no j h e =
            apart ks a (get_or names j 0 / letter_step) none
            (at (λ (k x : ℕ). among ks (x / letter_step)) names test j (omega (arith, first_length, names_length)))
            (sym (first_at j) ∙ e)

-- ---- a search from there on
module _ (key : ℕ) where
  -- no name before the head is the one that is searched for
  pub before_head : (j : ℕ) → j < head_of (key / letter_step) → get_or names j 0 ≡ key → ⊥
  before_head j h e = head_before (key / letter_step) j h (ap (λ (x : ℕ). x / letter_step) e)

  module _ (r : ℕ) (before : (j : ℕ) → j < r → get_or names j 0 ≡ key → ⊥) where
    at_place : r < symbols → get_or names r 0 ≡ key → r ≡ place_of key names
    at_place l e = sym (place_here key names r (omega (arith, names_length)) e before)

    pub found : r < symbols → get_or names r 0 ≡ key → Some r ≡ symbol_at (place_of key names)
    unfolding symbol_at
    found l e = simp (← at_place l e, lt-ltb r symbols l)

    pub missed : r < symbols → key < get_or names r 0 → None ≡ symbol_at (place_of key names)
    unfolding symbol_at
    missed l n = simp (place_none key names no, names_length) where
      no : (j : ℕ) → j < length names → get_or names j 0 ≡ key → ⊥
      no j h e = cases (ltb j r) refl where
        cases : (b : Bool) → ltb j r ≡ b → ⊥
        cases true p = before j (ltb-true j r p) e
        cases false p = omega (arith, n, e, ordered_le r j (ltb-false j r p) (omega (arith, names_length)))

    pub passed : symbols ≤ r → None ≡ symbol_at (place_of key names)
    unfolding symbol_at
    passed l = simp (place_none key names (λ j h. before j (omega (arith, names_length))), names_length)

-- ---- the letters of a name are bytes
letters : ℕ → ℕ → Bool
letters k x = both (ltb (x / letter_step) 128) (ltb (x % letter_step) 128)

letters_at : (y : ℕ) → y < symbols → T (letters y (get_or names y 0))
unfolding names letters
letters_at y h = at letters names tt y (omega (arith, names_length))

pub first_small : (y : ℕ) → y < symbols → get_or names y 0 / letter_step < 128
unfolding letters
first_small y h =
    ltb→lt _ 128 (both_left (ltb (get_or names y 0 / letter_step) 128) (ltb (get_or names y 0 % letter_step) 128) (letters_at y h))

pub second_small : (y : ℕ) → y < symbols → get_or names y 0 % letter_step < 128
unfolding letters
second_small y h =
    ltb→lt _ 128 (both_right (ltb (get_or names y 0 / letter_step) 128) (ltb (get_or names y 0 % letter_step) 128) (letters_at y h))

-- a name has one letter, or two of which the second is "a" or above
lettered : ℕ → ℕ → Bool
lettered k x = either (eqb (x % letter_step) 0) (ltb (byte "a") (x % letter_step))

lettered_at : (y : ℕ) → y < symbols → T (lettered y (get_or names y 0))
unfolding names lettered
lettered_at y h = at lettered names tt y h

pub no_second : (a d : ℕ) → d < byte "a" → None ≡ symbol_at (place_of (two_letters a d) names)
unfolding lettered symbol_at
no_second a d low = simp (place_none (two_letters a d) names no, names_length) where
  no : (j : ℕ) → j < length names → get_or names j 0 ≡ two_letters a d → ⊥
  no j h e = go (eqb (get_or names j 0 % letter_step) 0) refl (lettered_at j (omega (arith, names_length))) where
    go : (q : Bool) → eqb (get_or names j 0 % letter_step) 0 ≡ q → T (either q (ltb (byte "a") (get_or names j 0 % letter_step))) → ⊥
    go true z t = omega (arith, e, eqb-true (get_or names j 0 % letter_step) 0 z)
    go false z t = omega (arith, e, ltb→lt (byte "a") (get_or names j 0 % letter_step) t)

-- so what ends a line is the second letter of none
pub no_end : (a : ℕ) → None ≡ symbol_at (place_of (two_letters a no_letter) names)
unfolding symbol_at
no_end a = simp (place_none (two_letters a no_letter) names no, names_length) where
  no : (j : ℕ) → j < length names → get_or names j 0 ≡ two_letters a no_letter → ⊥
  no j h e = omega (arith, e, second_small j (omega (arith, names_length)))

-- ---- what the names say of two bytes
-- a place at which there is a symbol is that symbol's, and one at which there is none is past the table
symbol_there : (p t : ℕ) → Some t ≡ symbol_at p → (p ≡ t) × (t < symbols)
unfolding symbol_at
symbol_there p t = cases (ltb p symbols) refl where
  cases : (b : Bool) → ltb p symbols ≡ b → Some t ≡ pick b (Some p) None → (p ≡ t) × (t < symbols)
  cases true e h = let same : p ≡ t = cc in (same, omega (arith, same, ltb-true p symbols e))
  cases false e h = impossible cc

past_table : (p : ℕ) → None ≡ symbol_at p → symbols ≤ p
unfolding symbol_at
past_table p = cases (ltb p symbols) refl where
  cases : (b : Bool) → ltb p symbols ≡ b → None ≡ pick b (Some p) None → symbols ≤ p
  cases true e h = impossible cc
  cases false e h = ltb-false p symbols e

pub two_named : (a d t : ℕ) → Some t ≡ symbol_at (place_of (two_letters a d) names) → Two t ≡ named_of a d
unfolding named_of
two_named a d t e =
    let there = symbol_there (place_of (two_letters a d) names) t e in
    simp (there.0, lt-ltb t symbols there.1)

module _ (a head : ℕ) (is : head ≡ head_of a) where
  in_table : head < symbols
  in_table = omega (arith, is, head_small a)

  pub head_byte : get_or names head 0 / letter_step ≡ a → a ≤ 255
  head_byte e = omega (arith, first_small head in_table, e)

  -- a number that no name has
  absent : (k : ℕ) → ((j : ℕ) → j < symbols → get_or names j 0 ≡ k → ⊥) → ltb (place_of k names) symbols ≡ false
  absent k n =
      le-ltb (place_of k names) symbols
      (omega (arith, names_length, place_none k names (λ j l. n j (omega (arith, names_length)))))

  pub nothing_named : (d : ℕ) → d ≤ 256 → (get_or names head 0 / letter_step ≡ a → ⊥) → Nothing ≡ named_of a d
  unfolding named_of
  nothing_named d small n =
      simp (absent (two_letters a d) (no_name (two_letters a d) (omega arith)), absent (one_letter a) (no_name (one_letter a) (omega arith)), begins_none a names (λ j l. none j (omega (arith, names_length)))) where
        none : (j : ℕ) → j < symbols → get_or names j 0 / letter_step ≡ a → ⊥
        none j l e = n (ap (λ (y : ℕ). get_or names y 0 / letter_step) is ∙ head_leads a j l e)

        no_name : (k : ℕ) → k / letter_step ≡ a → (j : ℕ) → j < symbols → get_or names j 0 ≡ k → ⊥
        no_name k first j l e = none j l (ap (λ (x : ℕ). x / letter_step) e ∙ first)

  module _ (d : ℕ) (alone : None ≡ symbol_at (place_of (two_letters a d) names)) where
    two_none : ltb (place_of (two_letters a d) names) symbols ≡ false
    two_none = le-ltb (place_of (two_letters a d) names) symbols (past_table _ alone)

    pub one_named : get_or names head 0 ≡ one_letter a → One head ≡ named_of a d
    unfolding named_of
    one_named e = simp (two_none, ← here, lt-ltb head symbols in_table) where
      here : head ≡ place_of (one_letter a) names
      here =
          at_place (one_letter a) head (λ j l same. omega (arith, same, e, ordered j head l in_table)) in_table e

    pub begins_named : get_or names head 0 / letter_step ≡ a → (get_or names head 0 ≡ one_letter a → ⊥) → Begins ≡ named_of a d
    unfolding named_of
    begins_named e n =
        simp (two_none, absent (one_letter a) none, begins_here a names head (omega (arith, in_table, names_length)) e) where
          none : (j : ℕ) → j < symbols → get_or names j 0 ≡ one_letter a → ⊥
          none j l same = n (ap (λ (y : ℕ). get_or names y 0) (is ∙ head_single a j l same) ∙ same)
