-- The six fields of a bracket atom. What each reader makes of each text is one computed test over all values and all bytes
-- that may follow. A blank may follow, since a charge of 5 is written with one in front. Assumes nothing.
use Prim.Native.Nat.{ℕ, zero, suc, ◌+◌, ◌<◌}
use mathlib.Core.Path.{◌≡◌, refl, ap, sym, subst}
use mathlib.Core.List.{List, [], ◌∷◌, ◌++◌}
use mathlib.Core.Bool.{Bool, true}
use lib.ListN.{length, drop}
use lib.Dec.{T, eqb, eqb→eq}
use Rattle.feature.specs.Text.{byte, bytes}
use Rattle.feature.specs.Names.{symbols, names, place_of, begins}
use Rattle.feature.specs.Kinds.{configurations}
use Rattle.read_token.specs.declared.scanner.Part.{Part}
use Rattle.read_token.specs.Scan.{peek_at, digit_of, digit_at, digit_step, number_at, isotope_at, slip, symbol_at, symbol_of, short_at, late_at, long_at, allene_at, octahedral_at, square_at, trigonal_at, configuration_at, hydrogens_at, fifteen_at, signed_at, charge_at, map_at}
use Rattle.spell.specs.Spell.{digits, number_text, name_text, symbol_text, template_text, marked_text, configuration_text, hydrogens_text, charge_text, map_text}
use Rattle.survive.specs.Survive.{symbol_survives, configuration_survives, hydrogens_survive, charge_survives}
use Rattle.survive.proofs.Checked.{mem, all_mem, checked, agrees}
use Rattle.survive.proofs.Shift.{shift, onward, isotope_shift, symbol_shift, configuration_shift, hydrogens_shift, charge_shift, map_shift}
use Rattle.survive.proofs.Field.{got, test, Field, joins}

-- isotope and map survive whatever they are
abbrev pub any : ℕ → Bool
any v = true

-- the law of a part's place as the law of a step's
pub lifted : (R : List ℕ → ℕ → Part ℕ) → ((s : List ℕ) (n j : ℕ) → R s (n + j) ≡ shift n (R (drop n s) j)) → (s : List ℕ) (n j : ℕ) → got (R s (n + j)) ≡ onward n (got (R (drop n s) j))
unfolding shift onward
lifted R h s n j = ap got (h s n j)

-- ---- map
abbrev after_map : List ℕ
after_map = bytes "]"

pub map_reads : (v x : ℕ) (t : List ℕ) → v < 1001 → T (mem after_map x) → T (test map_at map_text any t v x)
unfolding map_at number_at digit_step digit_at digit_of peek_at map_text digits
map_reads v x t l m = checked (test map_at map_text any t) 1001 after_map tt v x l m

-- ---- charge
abbrev after_charge : List ℕ
after_charge = bytes ":]"

pub charge_reads : (v x : ℕ) (t : List ℕ) → v < 32 → T (mem after_charge x) → T (test (λ s n. got (charge_at s n)) charge_text charge_survives t v x)
unfolding charge_survives charge_at signed_at fifteen_at digit_at digit_of peek_at charge_text digits
charge_reads v x t l m =
    checked (test (λ s n. got (charge_at s n)) charge_text charge_survives t) 32 after_charge tt v x l m

-- ---- hydrogens
abbrev after_hydrogens : List ℕ
after_hydrogens = bytes "+- :]"

pub hydrogens_reads : (v x : ℕ) (t : List ℕ) → v < 11 → T (mem after_hydrogens x) → T (test (λ s n. got (hydrogens_at s n)) hydrogens_text hydrogens_survive t v x)
unfolding hydrogens_survive hydrogens_at digit_at digit_of peek_at hydrogens_text
hydrogens_reads v x t l m =
    checked (test (λ s n. got (hydrogens_at s n)) hydrogens_text hydrogens_survive t) 11 after_hydrogens tt v x l m

-- ---- configuration
abbrev after_configuration : List ℕ
after_configuration = bytes "H+- :]"

pub configuration_reads : (v x : ℕ) (t : List ℕ) → v < configurations → T (mem after_configuration x) → T (test configuration_at configuration_text configuration_survives t v x)
unfolding configuration_survives configuration_at allene_at octahedral_at square_at trigonal_at short_at long_at late_at digit_at digit_of peek_at configuration_text marked_text template_text digits
configuration_reads v x t l m =
    checked (test configuration_at configuration_text configuration_survives t) configurations after_configuration tt v x l m

-- ---- symbol
abbrev after_symbol : List ℕ
after_symbol = bytes "@H+- :]"

pub symbol_reads : (v x : ℕ) (t : List ℕ) → v < symbols → T (mem after_symbol x) → T (test symbol_at symbol_text symbol_survives t v x)
unfolding symbol_survives symbol_at symbol_of slip place_of begins peek_at symbol_text name_text names
symbol_reads v x t l m = checked (test symbol_at symbol_text symbol_survives t) symbols after_symbol tt v x l m

-- ---- isotope: its digits end at any byte that is none, so the test of one such byte is the test of all
abbrev after_isotope : List ℕ
after_isotope = bytes "*ABCDEFGHIKLMNOPRSTUVWXYZabcnops"

digit_swap : (xs t : List ℕ) (x y j : ℕ) → digit_of x ≡ digit_of y → digit_at (xs ++ (x ∷ t)) j ≡ digit_at (xs ++ (y ∷ t)) j
unfolding digit_at peek_at
digit_swap [] t x y zero e = e
digit_swap [] t x y (suc j) e = refl
digit_swap (z ∷ xs) t x y zero e = refl
digit_swap (z ∷ xs) t x y (suc j) e = digit_swap xs t x y j e

step_swap : (xs t : List ℕ) (x y : ℕ) (p : Part ℕ) → digit_of x ≡ digit_of y → digit_step (xs ++ (x ∷ t)) p ≡ digit_step (xs ++ (y ∷ t)) p
unfolding digit_step
step_swap xs t x y p e = rw (digit_swap xs t x y p.next e)

isotope_swap : (xs t : List ℕ) (x y n : ℕ) → digit_of x ≡ digit_of y → isotope_at (xs ++ (x ∷ t)) n ≡ isotope_at (xs ++ (y ∷ t)) n
unfolding isotope_at number_at
isotope_swap xs t x y n e =
    let h : (p : Part ℕ) → digit_step (xs ++ (x ∷ t)) p ≡ digit_step (xs ++ (y ∷ t)) p = λ p. step_swap xs t x y p e in
    simp h

no_digit : (x : ℕ) → T (mem after_isotope x) → digit_of x ≡ digit_of (byte "*")
unfolding digit_of
no_digit x m = eqb→eq _ _ (all_mem (λ y. eqb (digit_of y) (digit_of (byte "*"))) after_isotope x tt m)

pub isotope_reads : (v x : ℕ) (t : List ℕ) → v < 1001 → T (mem after_isotope x) → T (test (λ s n. got (isotope_at s n)) number_text any t v x)
unfolding isotope_at number_at digit_step digit_at digit_of peek_at number_text digits
isotope_reads v x t l m =
    subst (λ (p : Part ℕ). T (agrees true (got p) v (length (number_text v)))) (sym (isotope_swap (number_text v) t x (byte "*") 0 (no_digit x m)))
    (checked (test (λ s n. got (isotope_at s n)) number_text any t) 1001 (bytes "*") tt v (byte "*") l tt)

-- ---- the fields
abbrev pub isotope : Field
isotope =
    record {
      read = λ s n. got (isotope_at s n);
      text = number_text;
      stays = any;
      limit = 1001;
      after = after_isotope;
      moves = lifted isotope_at isotope_shift;
      reads = isotope_reads;
    }

abbrev pub symbol : Field
symbol =
    record {
      read = symbol_at;
      text = symbol_text;
      stays = symbol_survives;
      limit = symbols;
      after = after_symbol;
      moves = symbol_shift;
      reads = symbol_reads;
    }

abbrev pub configuration : Field
configuration =
    record {
      read = configuration_at;
      text = configuration_text;
      stays = configuration_survives;
      limit = configurations;
      after = after_configuration;
      moves = configuration_shift;
      reads = configuration_reads;
    }

abbrev pub hydrogens : Field
hydrogens =
    record {
      read = λ s n. got (hydrogens_at s n);
      text = hydrogens_text;
      stays = hydrogens_survive;
      limit = 11;
      after = after_hydrogens;
      moves = lifted hydrogens_at hydrogens_shift;
      reads = hydrogens_reads;
    }

abbrev pub charge : Field
charge =
    record {
      read = λ s n. got (charge_at s n);
      text = charge_text;
      stays = charge_survives;
      limit = 32;
      after = after_charge;
      moves = lifted charge_at charge_shift;
      reads = charge_reads;
    }

abbrev pub map : Field
map =
    record {
      read = map_at;
      text = map_text;
      stays = any;
      limit = 1001;
      after = after_map;
      moves = map_shift;
      reads = map_reads;
    }

-- ---- the order in which they come
pub charge_map : T (joins charge map)
unfolding map_text digits
charge_map = tt

pub hydrogens_charge : T (joins hydrogens charge)
unfolding charge_text digits
hydrogens_charge = tt

pub configuration_hydrogens : T (joins configuration hydrogens)
unfolding hydrogens_text
configuration_hydrogens = tt

pub symbol_configuration : T (joins symbol configuration)
unfolding configuration_text marked_text template_text digits
symbol_configuration = tt

pub isotope_symbol : T (joins isotope symbol)
unfolding symbol_text name_text names
isotope_symbol = tt
