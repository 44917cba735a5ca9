-- A reader reads the same of a line's rest, wherever the rest is: each law says what is read at n + j of a line by what
-- is read at j of the line without its first n bytes. Assumes nothing.
use Prim.Native.Nat.{ℕ, ◌+◌}
use mathlib.Core.Path.{◌≡◌, refl, ◌∙◌, ap, sym}
use mathlib.Core.List.{List, ◌++◌}
use mathlib.Core.Bool.{Bool, true, false}
use native.Mathlib.Nat.{add_assoc, add-zero}
use native.Mathlib.Omega.{arith}
use lib.ListN.{length, drop}
use lib.Seq.{get_or-drop, drop-drop, drop-append_seam}
use lib.Dec.{eqb}
use borrow.Author.Tests.{eq-eqb, ne_eqb, eqb-true, eqb-false}
use Rattle.feature.specs.Pick.{pick}
use Rattle.read_token.specs.declared.scanner.Part.{Part}
use Rattle.std.specs.Prelude.{Err, Ok}
use Rattle.read_token.specs.Scan.{Step}
use Rattle.read_token.specs.Scan.{part, peek_at, digit_at, digit_step, number_at, isotope_at, symbol_at, symbol_of, short_at, late_at, long_at, allene_at, octahedral_at, square_at, trigonal_at, configuration_at, hydrogens_at, fifteen_at, signed_at, charge_at, map_at}

-- a function of what is picked picks among its values
pub through : {A B : Type 0} (f : A → B) (t : Bool) (a b : A) → f (pick t a b) ≡ pick t (f a) (f b)
through f true a b = refl
through f false a b = refl

-- places moved alike are equal as before
eqb_add : (n a b : ℕ) → eqb (n + a) (n + b) ≡ eqb a b
eqb_add n a b = split (eqb a b) refl where
  split : (q : Bool) → eqb a b ≡ q → eqb (n + a) (n + b) ≡ q
  split true e = eq-eqb (n + a) (n + b) (omega (arith, eqb-true a b e))
  split false e = ne_eqb (n + a) (n + b) (λ h. eqb-false a b e (omega arith))

-- ---- what is read, n bytes further on
unfoldable pub shift : ℕ → Part ℕ → Part ℕ
shift n p = part p.value (n + p.next)

shift_part : (n v k : ℕ) → shift n (part v k) ≡ part v (n + k)
unfolding shift
shift_part n v k = refl

shift_value : (n : ℕ) (p : Part ℕ) → (shift n p).value ≡ p.value
unfolding shift
shift_value n p = refl

shift_next : (n : ℕ) (p : Part ℕ) → (shift n p).next ≡ n + p.next
unfolding shift
shift_next n p = refl

unfoldable pub onward : ℕ → Step → Step
onward n (Ok (v, k)) = Ok (v, n + k)
onward n (Err k) = Err (n + k)

pub onward_got : (n v k : ℕ) → onward n (Ok (v, k)) ≡ Ok (v, n + k)
unfolding onward
onward_got n v k = refl

onward_stop : (n k : ℕ) → onward n (Err k) ≡ Err (n + k)
unfolding onward
onward_stop n k = refl

module _ (s : List ℕ) (n : ℕ) where
  pub peek_shift : (j : ℕ) → peek_at s (n + j) ≡ peek_at (drop n s) j
  unfolding peek_at
  peek_shift j = sym (get_or-drop n s j 256)

  digit_shift : (j : ℕ) → digit_at s (n + j) ≡ digit_at (drop n s) j
  unfolding digit_at
  digit_shift j = rw peek_shift

  -- ---- isotope
  step_shift : (p : Part ℕ) → digit_step s (shift n p) ≡ shift n (digit_step (drop n s) p)
  unfolding digit_step
  step_shift p = simp (add_assoc, digit_shift, shift_value, shift_next, through (shift n), shift_part)

  number_shift : (j : ℕ) → number_at s (n + j) ≡ shift n (number_at (drop n s) j)
  unfolding number_at
  number_shift j = simp (← shift_part, step_shift)

  pub isotope_shift : (j : ℕ) → isotope_at s (n + j) ≡ shift n (isotope_at (drop n s) j)
  unfolding isotope_at
  isotope_shift j = simp (number_shift, shift_next, eqb_add, through (shift n), shift_part)

  -- ---- symbol
  pub symbol_shift : (j : ℕ) → symbol_at s (n + j) ≡ onward n (symbol_at (drop n s) j)
  unfolding symbol_at symbol_of
  symbol_shift j = simp (add_assoc, peek_shift, through (onward n), onward_got, onward_stop)

  -- ---- configuration
  late_shift : (j : ℕ) → late_at s (n + j) ≡ n + late_at (drop n s) j
  unfolding late_at
  late_shift j = simp (add_assoc, peek_shift, through (λ (k : ℕ). n + k))

  short_shift : (j base top : ℕ) → short_at s (n + j) base top ≡ onward n (short_at (drop n s) j base top)
  unfolding short_at
  short_shift j base top = simp (add_assoc, digit_shift, through (onward n), onward_got, onward_stop)

  long_shift : (j base top : ℕ) → long_at s (n + j) base top ≡ onward n (long_at (drop n s) j base top)
  unfolding long_at
  long_shift j base top = simp (add_assoc, digit_shift, late_shift, through (onward n), onward_got, onward_stop)

  pub configuration_shift : (j : ℕ) → configuration_at s (n + j) ≡ onward n (configuration_at (drop n s) j)
  unfolding configuration_at allene_at octahedral_at square_at trigonal_at
  configuration_shift j =
      simp (add_assoc, peek_shift, short_shift, long_shift, through (onward n), onward_got, onward_stop)

  -- ---- hydrogens, charge and map
  pub hydrogens_shift : (j : ℕ) → hydrogens_at s (n + j) ≡ shift n (hydrogens_at (drop n s) j)
  unfolding hydrogens_at
  hydrogens_shift j = simp (add_assoc, peek_shift, digit_shift, through (shift n), shift_part)

  fifteen_shift : (j : ℕ) → fifteen_at s (n + j) ≡ shift n (fifteen_at (drop n s) j)
  unfolding fifteen_at
  fifteen_shift j = simp (add_assoc, digit_shift, through (shift n), shift_part)

  signed_shift : (sign j : ℕ) → signed_at s sign (n + j) ≡ shift n (signed_at (drop n s) sign j)
  unfolding signed_at
  signed_shift sign j = simp (add_assoc, peek_shift, fifteen_shift, shift_value, through (shift n), shift_part)

  pub charge_shift : (j : ℕ) → charge_at s (n + j) ≡ shift n (charge_at (drop n s) j)
  unfolding charge_at
  charge_shift j =
      simp (add_assoc, peek_shift, signed_shift, shift_value, shift_next, through (shift n), shift_part)

  pub map_shift : (j : ℕ) → map_at s (n + j) ≡ onward n (map_at (drop n s) j)
  unfolding map_at
  map_shift j =
      simp (add_assoc, peek_shift, number_shift, shift_next, shift_value, eqb_add, through (onward n), onward_got, onward_stop)

-- ---- a line whose rest at n is known
module _ (s : List ℕ) (n : ℕ) where
  -- a byte of it
  pub byte_at : (j : ℕ) {l : List ℕ} → drop n s ≡ l → peek_at s (n + j) ≡ peek_at l j
  byte_at j e = peek_shift s n j ∙ ap (λ (l : List ℕ). peek_at l j) e

  -- the first one
  pub front : {l : List ℕ} → drop n s ≡ l → peek_at s n ≡ peek_at l 0
  front e = ap (λ (m : ℕ). peek_at s m) (sym (add-zero n)) ∙ byte_at 0 e

  -- what follows a text
  pub past : (xs t : List ℕ) → drop n s ≡ xs ++ t → drop (n + length xs) s ≡ t
  past xs t e =
      sym (drop-drop (length xs) n s) ∙ ap (λ (l : List ℕ). drop (length xs) l) e ∙ drop-append_seam xs t
