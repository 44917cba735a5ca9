-- What a reader leaves behind it: the place after what was read is not before the place where it began, and not past the
-- line's end. Assumes nothing.
use Prim.Native.Nat.{ℕ, suc, ◌+◌, ◌*◌, ◌≤◌, ◌<◌}
use mathlib.Core.Path.{◌≡◌, refl, ap, sym, subst}
use mathlib.Core.Bool.{Bool, true, false}
use mathlib.Core.List.{List, [], ◌∷◌}
use native.Mathlib.Omega.{arith}
use native.Mathlib.Nat.{le_of_suc-le-suc, not-suc-le-zero}
use lib.ListN.{length, get_or}
use lib.Dec.{T, ltb, eqb, ltb→lt}
use borrow.Author.Tests.{ltb-true, ltb-false, eqb-true, eqb-false}
use Rattle.feature.specs.Text.{byte, two_letters, one_letter}
use Rattle.feature.specs.Names.{symbols, names, place_of, begins}
use Rattle.feature.specs.declared.bond_kind.BondKind.{BondKind}
use Rattle.feature.specs.declared.bond_kind.BondKind.TheVariants as kind
use Rattle.feature.specs.Kinds.{aliphatic_count, aromatic_count, no_configuration, al, sp, tb, oh, bracket_of_six}
use Rattle.feature.specs.declared.atom_kind.AtomKind.{AtomKind}
use Rattle.feature.specs.declared.atom_kind.BracketAtom.{BracketAtom}
use Rattle.feature.proofs.Cases.{by_test}
use Rattle.feature.proofs.Names.{names_length, second_small}
use Rattle.read_token.specs.declared.scanner.Part.{Part}
use Rattle.std.specs.Prelude.{Err, None, Ok, Some}
use Rattle.read_token.specs.Scan.{Step}
use Rattle.read_token.specs.Scan.{Ring}
use Rattle.read_token.specs.Scan.{Found}
use Rattle.read_token.specs.Scan.{no_byte, peek_at, digit_of, digit_at, part, digit_step, number_at, isotope_at, hydrogens_at, fifteen_at, signed_at, charge_at, map_at, slip, symbol_of, symbol_at, short_at, long_at, allene_at, octahedral_at, square_at, trigonal_at, configuration_at, close_at, after_map, after_charge, after_hydrogens, after_configuration, configured, after_symbol, after_isotope, inside_at, bracket_at, star_at, optional_at, wanted_at, organic_at, aromatic_of, aliphatic_of, or_else, other_at, atom_at, sign_kind, mark_width, bond_at, percent_at, rnum_at}
use Rattle.read_token.proofs.Laws.{peek_out}

-- ---- bytes and digits
module _ (s : List ℕ) (at : ℕ) where
  -- what is not the end mark is within the line
  pub not_ended : (peek_at s at ≡ no_byte → ⊥) → at < length s
  not_ended n = split (ltb at (length s)) refl where
    split : (b : Bool) → ltb at (length s) ≡ b → at < length s
    split true e = ltb-true at (length s) e
    split false e = absurd (n (sym (peek_out s at (ltb-false at (length s) e))))

  -- a byte is within the line
  pub byte_in : (c : ℕ) → c < 256 → peek_at s at ≡ c → at < length s
  byte_in c h e = not_ended (λ d. omega arith)

  -- a digit is within the line
  pub digit_in : digit_at s at < 10 → at < length s
  unfolding digit_at digit_of
  digit_in h =
      not_ended (λ e. let ten : digit_at s at ≡ 10 = ap digit_of e in omega arith)

  -- a digit is worth at most ten, which is none
  pub digit_most : digit_at s at ≤ 10
  unfolding digit_at digit_of
  digit_most =
      by_test (λ (d : ℕ). d ≤ 10) (ltb (peek_at s at) (byte "0")) (λ e. omega arith)
      (λ e. by_test (λ (d : ℕ). d ≤ 10) (ltb (byte "9") (peek_at s at)) (λ f. omega arith)
      (λ f. omega (arith, ltb-false (byte "9") (peek_at s at) f)))

  -- what the tests for them say
  is_byte : (c : ℕ) → T (ltb c 256) → eqb (peek_at s at) c ≡ true → at < length s
  is_byte c t e = byte_in c (ltb→lt c 256 t) (eqb-true (peek_at s at) c e)

  is_digit : eqb (digit_at s at) 10 ≡ false → digit_at s at < 10
  is_digit e = omega (arith, digit_most, eqb-false (digit_at s at) 10 e)

-- ---- ring number
-- what is known of a ring number that is read from `from` on
RingIn : List ℕ → ℕ → Ring → Type 0
RingIn s from (Ok (Some (r, n))) = (r < 100) × (from < n) × (n ≤ length s)
RingIn s from (Ok None) = Unit {0}
RingIn s from (Err m) = Unit {0}

percent_in : (s : List ℕ) (from at : ℕ) → from ≤ at → RingIn s from (percent_at s at)
unfolding RingIn percent_at
percent_in s from at h =
    by_test (RingIn s from) (eqb (digit_at s at) 10) (λ e. tt)
    (λ e. by_test (RingIn s from) (eqb (digit_at s (at + 1)) 10) (λ f. tt)
    (λ f. let d = is_digit s at e in let g = is_digit s (at + 1) f in omega (arith, digit_in s (at + 1) g)))

rnum_in : (s : List ℕ) (at : ℕ) → RingIn s at (rnum_at s at)
unfolding RingIn rnum_at
rnum_in s at =
    by_test (RingIn s at) (ltb (digit_at s at) 10)
    (λ e. let d = ltb-true (digit_at s at) 10 e in omega (arith, digit_in s at d))
    (λ e. by_test (RingIn s at) (eqb (peek_at s at) (byte "%")) (λ f. percent_in s at (at + 1) (omega arith)) (λ f. tt))

-- a ring number is below a hundred and ends within the line
pub ring_in : (s : List ℕ) (at : ℕ) {r n : ℕ} → rnum_at s at ≡ Ok (Some (r, n)) → (r < 100) × (at < n) × (n ≤ length s)
unfolding RingIn
ring_in s at e = subst (RingIn s at) e (rnum_in s at)

-- ---- bond
-- a mark has at most one byte
mark_most : (k : BondKind) → mark_width k ≤ 1
unfolding mark_width
mark_most kind.Elided = omega arith
mark_most kind.Single = omega arith
mark_most kind.Double = omega arith
mark_most kind.Triple = omega arith
mark_most kind.Quadruple = omega arith
mark_most kind.Aromatic = omega arith
mark_most kind.Up = omega arith
mark_most kind.Down = omega arith

-- the end mark marks no bond
mark_ended : (s : List ℕ) (at : ℕ) → length s ≤ at → mark_width (sign_kind (peek_at s at)) ≡ 0
unfolding sign_kind mark_width
mark_ended s at h = sym (ap (λ (b : ℕ). mark_width (sign_kind b)) (peek_out s at h))

-- a bond ends within the line
pub bond_in_lem : (s : List ℕ) (at : ℕ) → at ≤ length s → (at ≤ (bond_at s at).next) × ((bond_at s at).next ≤ length s)
unfolding bond_at
bond_in_lem s at h = split (ltb at (length s)) refl where
  split : (b : Bool) → ltb at (length s) ≡ b → (at ≤ (bond_at s at).next) × ((bond_at s at).next ≤ length s)
  split true e = omega (arith, ltb-true at (length s) e, mark_most (sign_kind (peek_at s at)))
  split false e = omega (arith, mark_ended s at (ltb-false at (length s) e))

-- ---- an atom's parts: read at a place from `from` on, each ends within the line
PartIn : List ℕ → ℕ → Part ℕ → Type 0
PartIn s from p = (from ≤ p.next) × (p.next ≤ length s)

StepIn : List ℕ → ℕ → Step → Type 0
StepIn s from (Ok (v, n)) = (from ≤ n) × (n ≤ length s)
StepIn s from (Err p) = Unit {0}

FoundIn : List ℕ → ℕ → Found → Type 0
FoundIn s from (Ok (Some (k, n))) = (from < n) × (n ≤ length s)
FoundIn s from (Ok None) = Unit {0}
FoundIn s from (Err m) = Unit {0}

-- a name that has a place is there
place_found : (k : ℕ) (xs : List ℕ) → place_of k xs < length xs → get_or xs (place_of k xs) 0 ≡ k
unfolding place_of
place_found k [] = λ h. absurd (not-suc-le-zero h)
place_found k (x ∷ xs) =
    by_test (λ (p : ℕ). p < length (x ∷ xs) → get_or (x ∷ xs) p 0 ≡ k) (eqb x k) (λ e h. eqb-true x k e)
    (λ e h. place_found k xs (le_of_suc-le-suc h))

-- no name has the end mark for its second letter
second_not_ended : (b d : ℕ) → place_of (two_letters b d) names < symbols → d ≡ no_byte → ⊥
second_not_ended b d h e =
    omega (arith, second_small (place_of (two_letters b d) names) h, place_found (two_letters b d) names (omega (arith, names_length)))

module _ (s : List ℕ) (from : ℕ) where
  more_from : (p : Part ℕ) → PartIn s from p → PartIn s from (digit_step s p)
  unfolding PartIn digit_step
  more_from p h =
      by_test (PartIn s from) (ltb (digit_at s p.next) 10)
      (λ e. omega (arith, digit_in s p.next (ltb-true (digit_at s p.next) 10 e)))
      (λ e. h)

  number_from_lem : (at : ℕ) → from ≤ at → at ≤ length s → PartIn s from (number_at s at)
  unfolding PartIn number_at
  number_from_lem at low high = more_from _ (more_from _ (more_from (part 0 at) (low, high)))

  isotope_from : (at : ℕ) → from ≤ at → at ≤ length s → PartIn s from (isotope_at s at)
  unfolding PartIn isotope_at
  isotope_from at low high =
      by_test (PartIn s from) (eqb (number_at s at).next at) (λ e. (low, high)) (λ e. number_from_lem at low high)

  symbol_from : (at : ℕ) → from ≤ at + 1 → StepIn s from (symbol_at s at)
  unfolding StepIn symbol_at symbol_of
  symbol_from at low =
      let b = peek_at s at in
      let d = peek_at s (at + 1) in
      by_test (StepIn s from) (eqb b no_byte) (λ e. tt)
      (λ e. let one = not_ended s at (eqb-false b no_byte e) in
      by_test (StepIn s from) (ltb (place_of (two_letters b d) names) symbols)
      (λ f. omega (arith, not_ended s (at + 1) (second_not_ended b d (ltb-true (place_of (two_letters b d) names) symbols f))))
      (λ f. by_test (StepIn s from) (ltb (place_of (one_letter (slip b)) names) symbols) (λ g. omega arith)
      (λ g. by_test (StepIn s from) (begins b names) (λ j. tt) (λ j. tt))))

  short_from : (at base top : ℕ) → from ≤ at → top < 10 → StepIn s from (short_at s at base top)
  unfolding StepIn short_at
  short_from at base top low small =
      by_test (StepIn s from) (eqb (digit_at s at) 0) (λ e. tt)
      (λ e. by_test (StepIn s from) (ltb top (digit_at s at)) (λ f. tt)
      (λ f. omega (arith, digit_in s at (omega (arith, ltb-false top (digit_at s at) f)))))

  long_from : (at base top : ℕ) → from ≤ at → StepIn s from (long_at s at base top)
  unfolding StepIn long_at
  long_from at base top low =
      by_test (StepIn s from) (eqb (digit_at s at) 0) (λ e. tt)
      (λ e. by_test (StepIn s from) (eqb (digit_at s at) 10) (λ f. tt)
      (λ f. let one = digit_in s at (is_digit s at f) in
      by_test (StepIn s from) (eqb (digit_at s (at + 1)) 10) (λ g. omega arith)
      (λ g. let two = digit_in s (at + 1) (is_digit s (at + 1) g) in
      by_test (StepIn s from) (ltb top (digit_at s at * 10 + digit_at s (at + 1))) (λ j. omega arith) (λ j. omega arith))))

  configuration_from : (at : ℕ) → from ≤ at → at ≤ length s → StepIn s from (configuration_at s at)
  unfolding StepIn configuration_at allene_at octahedral_at square_at trigonal_at
  configuration_from at low high =
      let c = peek_at s (at + 1) in
      let d = peek_at s (at + 2) in
      by_test (StepIn s from) (eqb (peek_at s at) (byte "@"))
      (λ e. let one = is_byte s at (byte "@") tt e in
      by_test (StepIn s from) (eqb c (byte "@")) (λ f. omega (arith, is_byte s (at + 1) (byte "@") tt f))
      (λ f. by_test (StepIn s from) (eqb c (byte "A"))
      (λ g. by_test (StepIn s from) (eqb d (byte "L")) (λ j. short_from (at + 2 + 1) al 2 (omega arith) (omega arith)) (λ j. tt))
      (λ g. by_test (StepIn s from) (eqb c (byte "O"))
      (λ h. by_test (StepIn s from) (eqb d (byte "H")) (λ j. long_from (at + 2 + 1) oh 30 (omega arith)) (λ j. tt))
      (λ h. by_test (StepIn s from) (eqb c (byte "S"))
      (λ i. by_test (StepIn s from) (eqb d (byte "P")) (λ j. short_from (at + 2 + 1) sp 3 (omega arith) (omega arith)) (λ j. tt))
      (λ i. by_test (StepIn s from) (eqb c (byte "T"))
      (λ k. by_test (StepIn s from) (eqb d (byte "B")) (λ j. long_from (at + 2 + 1) tb 20 (omega arith))
      (λ j. by_test (StepIn s from) (eqb d (byte "H")) (λ l. short_from (at + 2 + 1) no_configuration 2 (omega arith) (omega arith)) (λ l. tt)))
      (λ k. omega arith))))))
      (λ e. (low, high))

  hydrogens_from : (at : ℕ) → from ≤ at → at ≤ length s → PartIn s from (hydrogens_at s at)
  unfolding PartIn hydrogens_at
  hydrogens_from at low high =
      by_test (PartIn s from) (eqb (peek_at s at) (byte "H"))
      (λ e. by_test (PartIn s from) (ltb (digit_at s (at + 1)) 10)
      (λ f. omega (arith, digit_in s (at + 1) (ltb-true (digit_at s (at + 1)) 10 f)))
      (λ f. omega (arith, is_byte s at (byte "H") tt e)))
      (λ e. (low, high))

  fifteen_from : (at : ℕ) → from ≤ at → at ≤ length s → PartIn s from (fifteen_at s at)
  unfolding PartIn fifteen_at
  fifteen_from at low high =
      by_test (PartIn s from) (eqb (digit_at s at) 0) (λ e. (low, high))
      (λ e. by_test (PartIn s from) (eqb (digit_at s at) 10) (λ f. (low, high))
      (λ f. let one = digit_in s at (is_digit s at f) in
      by_test (PartIn s from) (ltb 1 (digit_at s at)) (λ g. omega arith)
      (λ g. by_test (PartIn s from) (eqb (digit_at s (at + 1)) 0) (λ j. omega arith)
      (λ j. by_test (PartIn s from) (ltb 5 (digit_at s (at + 1))) (λ k. omega arith)
      (λ k. omega (arith, digit_in s (at + 1) (omega (arith, ltb-false 5 (digit_at s (at + 1)) k))))))))

  signed_from : (sign at : ℕ) → T (ltb sign 256) → from ≤ at → at ≤ length s → PartIn s from (signed_at s sign at)
  unfolding PartIn signed_at
  signed_from sign at c low high =
      by_test (PartIn s from) (ltb 0 (fifteen_at s at).value) (λ e. fifteen_from at low high)
      (λ e. by_test (PartIn s from) (eqb (peek_at s at) sign)
      (λ f. omega (arith, is_byte s at sign c f))
      (λ f. (low, high)))

  charge_from : (at : ℕ) → from ≤ at → at ≤ length s → PartIn s from (charge_at s at)
  unfolding PartIn charge_at
  charge_from at low high =
      by_test (PartIn s from) (eqb (peek_at s at) (byte "+"))
      (λ e. signed_from (byte "+") (at + 1) tt (omega arith) (omega (arith, is_byte s at (byte "+") tt e)))
      (λ e. by_test (PartIn s from) (eqb (peek_at s at) (byte "-"))
      (λ f. signed_from (byte "-") (at + 1) tt (omega arith) (omega (arith, is_byte s at (byte "-") tt f)))
      (λ f. (low, high)))

  map_from : (at : ℕ) → from ≤ at → at ≤ length s → StepIn s from (map_at s at)
  unfolding StepIn PartIn map_at
  map_from at low high =
      by_test (StepIn s from) (eqb (peek_at s at) (byte ":"))
      (λ e. by_test (StepIn s from) (eqb (number_at s (at + 1)).next (at + 1)) (λ f. tt)
      (λ f. number_from_lem (at + 1) (omega arith) (omega (arith, is_byte s at (byte ":") tt e))))
      (λ e. (low, high))

  -- ---- a bracket atom
  -- what closes a bracket atom comes after all that it holds
  close_from : (b : BracketAtom) (at : ℕ) → from ≤ at → FoundIn s from (close_at s b at)
  unfolding FoundIn close_at
  close_from b at low =
      by_test (FoundIn s from) (eqb (peek_at s at) (byte "]")) (λ e. omega (arith, is_byte s at (byte "]") tt e)) (λ e. tt)

  after_map_lem : (i y c h q : ℕ) (m : Step) → StepIn s from m → FoundIn s from (after_map s i y c h q m)
  unfolding StepIn FoundIn after_map
  after_map_lem i y c h q (Ok (m, n)) k = close_from (bracket_of_six i y c h q m) n k.0
  after_map_lem i y c h q (Err p) k = tt

  after_charge_lem : (i y c h : ℕ) (q : Part ℕ) → PartIn s from q → FoundIn s from (after_charge s i y c h q)
  unfolding PartIn after_charge
  after_charge_lem i y c h q k = after_map_lem i y c h q.value (map_at s q.next) (map_from q.next k.0 k.1)

  after_hydrogens_lem : (i y c : ℕ) (h : Part ℕ) → PartIn s from h → FoundIn s from (after_hydrogens s i y c h)
  unfolding PartIn after_hydrogens
  after_hydrogens_lem i y c h k =
      after_charge_lem i y c h.value (charge_at s h.next) (charge_from h.next k.0 k.1)

  after_configuration_lem : (i y : ℕ) (c : Step) → StepIn s from c → FoundIn s from (configured s i y c)
  unfolding StepIn FoundIn configured after_configuration
  after_configuration_lem i y (Ok (c, n)) k = after_hydrogens_lem i y c (hydrogens_at s n) (hydrogens_from n k.0 k.1)
  after_configuration_lem i y (Err p) k = tt

  after_symbol_lem : (i : ℕ) (y : Step) → StepIn s from y → FoundIn s from (after_symbol s i y)
  unfolding StepIn FoundIn after_symbol
  after_symbol_lem i (Ok (y, n)) k = after_configuration_lem i y (configuration_at s n) (configuration_from n k.0 k.1)
  after_symbol_lem i (Err p) k = tt

  inside_from : (at : ℕ) → from ≤ at → at ≤ length s → FoundIn s from (inside_at s at)
  unfolding PartIn inside_at after_isotope
  inside_from at low high =
      let i = isotope_from at low high in
      after_symbol_lem (isotope_at s at).value (symbol_at s (isotope_at s at).next) (symbol_from (isotope_at s at).next (omega arith))

-- ---- an atom
module _ (s : List ℕ) (at : ℕ) where
  bracket_found : FoundIn s at (bracket_at s at)
  unfolding FoundIn bracket_at
  bracket_found =
      by_test (FoundIn s at) (eqb (peek_at s at) (byte "["))
      (λ e. inside_from s at (at + 1) (omega arith) (omega (arith, is_byte s at (byte "[") tt e)))
      (λ e. tt)

  star_found : FoundIn s at (star_at s at)
  unfolding FoundIn star_at
  star_found =
      by_test (FoundIn s at) (eqb (peek_at s at) (byte "*")) (λ e. omega (arith, is_byte s at (byte "*") tt e)) (λ e. tt)

  optional_found : (x two one : ℕ) → T (ltb x 256) → at < length s → FoundIn s at (optional_at s (at + 1) x two one)
  unfolding FoundIn optional_at
  optional_found x two one c h =
      by_test (FoundIn s at) (eqb (peek_at s (at + 1)) x)
      (λ e. omega (arith, is_byte s (at + 1) x c e))
      (λ e. omega arith)

  wanted_found : (x two : ℕ) → T (ltb x 256) → FoundIn s at (wanted_at s (at + 1) x two)
  unfolding FoundIn wanted_at
  wanted_found x two c =
      by_test (FoundIn s at) (eqb (peek_at s (at + 1)) x)
      (λ e. omega (arith, is_byte s (at + 1) x c e))
      (λ e. tt)

  organic_found : FoundIn s at (organic_at s at)
  unfolding FoundIn organic_at
  organic_found =
      let b = peek_at s at in
      by_test (FoundIn s at) (eqb b no_byte) (λ e. tt)
      (λ e. let one = not_ended s at (eqb-false b no_byte e) in
      by_test (FoundIn s at) (eqb b (byte "C")) (λ f. optional_found (byte "l") 7 1 tt one)
      (λ f. by_test (FoundIn s at) (ltb (aromatic_of b) aromatic_count) (λ g. omega arith)
      (λ g. by_test (FoundIn s at) (ltb (aliphatic_of b) aliphatic_count) (λ h. omega arith)
      (λ h. by_test (FoundIn s at) (eqb b (byte "B")) (λ i. optional_found (byte "r") 8 0 tt one)
      (λ i. by_test (FoundIn s at) (eqb b (byte "A")) (λ j. wanted_found (byte "t") 10 tt)
      (λ j. by_test (FoundIn s at) (eqb b (byte "T")) (λ k. wanted_found (byte "s") 11 tt) (λ k. tt)))))))

  -- one of two that both end within the line
  either_found : (f g : Found) → FoundIn s at f → FoundIn s at g → FoundIn s at (or_else f g)
  unfolding FoundIn or_else
  either_found (Ok (Some (k, n))) g h l = h
  either_found (Ok None) g h l = l
  either_found (Err m) g h l = tt

  -- an atom ends within the line
  pub atom_in : {k : AtomKind} {n : ℕ} → atom_at s at ≡ Ok (Some (k, n)) → (at < n) × (n ≤ length s)
  unfolding FoundIn atom_at other_at
  atom_in e =
      subst (FoundIn s at) e
      (either_found (organic_at s at) (other_at s at) organic_found (either_found (bracket_at s at) (star_at s at) bracket_found star_found))

-- ---- the same of each reader from its own place on
module _ (s : List ℕ) (at : ℕ) where
  -- a symbol takes a byte at least
  pub symbol_in : {v n : ℕ} → symbol_at s at ≡ Ok (v, n) → (at < n) × (n ≤ length s)
  unfolding StepIn
  symbol_in e = subst (StepIn s (suc at)) e (symbol_from s (suc at) at (omega arith))

  module _ (high : at ≤ length s) where
    -- a number ends within the line
    pub number_in : (at ≤ (number_at s at).next) × ((number_at s at).next ≤ length s)
    unfolding PartIn
    number_in = number_from_lem s at at (omega arith) high

    -- an isotope ends within the line
    pub isotope_in : (at ≤ (isotope_at s at).next) × ((isotope_at s at).next ≤ length s)
    unfolding PartIn
    isotope_in = isotope_from s at at (omega arith) high

    -- hydrogens end within the line
    pub hydrogens_in : (at ≤ (hydrogens_at s at).next) × ((hydrogens_at s at).next ≤ length s)
    unfolding PartIn
    hydrogens_in = hydrogens_from s at at (omega arith) high

    -- a charge ends within the line
    pub charge_in : (at ≤ (charge_at s at).next) × ((charge_at s at).next ≤ length s)
    unfolding PartIn
    charge_in = charge_from s at at (omega arith) high

    -- a configuration ends within the line
    pub configuration_in : {v n : ℕ} → configuration_at s at ≡ Ok (v, n) → (at ≤ n) × (n ≤ length s)
    unfolding StepIn
    configuration_in e = subst (StepIn s at) e (configuration_from s at at (omega arith) high)

    -- a map ends within the line
    pub map_in : {v n : ℕ} → map_at s at ≡ Ok (v, n) → (at ≤ n) × (n ≤ length s)
    unfolding StepIn
    map_in e = subst (StepIn s at) e (map_from s at at (omega arith) high)
