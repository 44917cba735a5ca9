-- What the reader finds at an atom is what the machine's atom in the making comes to, state by state. Assumes nothing.
use Prim.Native.Nat.{ℕ, ◌+◌, ◌*◌, ◌<◌, ◌≤◌}
use mathlib.Core.Path.{◌≡◌, refl, sym, ap, ◌∙◌, subst}
use mathlib.Core.List.{List, [], ◌∷◌}
use mathlib.Core.Option.{Option, none, some}
use mathlib.Core.Bool.{Bool, true, false, false≢true}
use native.Mathlib.Omega.{arith}
use native.Mathlib.Nat.{pos_of_ne-zero}
use lib.Dec.{T, eqb, ltb, leb, leb→le}
use borrow.Author.Tests.{eqb-true, eqb-false, eq-eqb, ne_eqb, ltb-false, lt-ltb, le-ltb, leb-true, leb-false, le-leb, lt-leb}
use Rattle.feature.specs.Pick.{pick, both}
use Rattle.feature.specs.Text.{byte}
use Rattle.feature.specs.Kinds.{no_number, th1, th2}
use Rattle.feature.specs.Kinds as kinds
use Rattle.read_token.specs.Scan.{part, peek_at, digit_at, digit_step, number_at, missing_at, symbol_at, symbol_of, short_at, late_at, long_at, allene_at, octahedral_at, square_at, trigonal_at, configuration_at, hydrogens_at, fifteen_at, signed_at, charge_at, map_at, close_at, after_map, after_charge, after_hydrogens, after_configuration, configured, after_symbol}
use Rattle.read_token.specs.Scan as scan
use Rattle.read_token.specs.declared.scanner.Part as scanned
use Rattle.std.specs.Prelude.{Err, Ok, Some}
use Rattle.read_token.specs.Scan.{Step}
use Rattle.read_token.specs.Scan.{Found}
use Rattle.read_token.specs.declared.scanner.Missing.{Missing}
use Rattle.read_token.specs.declared.scanner.Missing.TheVariants.{EndOfLine, Character}
use Rattle.grammar.specs.Names.{has1, has2}
use Rattle.grammar.specs.Grammar.{Digit, d0, d1, d2, d3, d4, d5, d6, d7, d8, d9, value, digit_s, worth, Symbol, short, long, symbol_names, symbol_k, Isotope, isotope_k, Chiral, flat, at, atat, code1, code2, Class, Th, AL, SP, TB, OH, most, valid1, valid2, class1, base, chiral_k, Hcount, bald, H, Hn, hcount_k, Head, head, Sign, plus, minus, sign_s, okay1, okay2, Charge, neutral, sign, twice, num1, num2, signed, charge_k, Map, nomap, m1, m2, m3, map_k, bracket_k, atom_k}
use Rattle.grammar.specs.Grammar as grammar
use Rattle.grammar.proofs.Machine.{test, leads, on, digit_of, sign_of, fam_of, class_of, Part, lead, symbol, chiral1, chiral2, family, class, coded1, coded2, hcount, hcount_n, doubled, charge1, charge2, colon, map1, map2, map3, closed, to_close, to_map, to_charge, to_hcount, to_chiral, to_symbol, part_step, part_end}
use Rattle.grammar.proofs.Machine as machine
use Rattle.grammar.proofs.Sound.{digit_is}
use Rattle.feature.specs.Names.{place_of}
use Rattle.feature.specs.Names as feature
use Rattle.feature.specs.Text.{one_letter, two_letters}
use Rattle.feature.proofs.Cases.{true_of, impossible}
use Rattle.grammar.proofs.Table.{name_undigit, has1_leads, has2_leads, test_not}
use Rattle.grammar.proofs.Symbols.{two_in, one_in, begins_in, no_end}
use Rattle.grammar.proofs.Late.{late_part, late_class}
use Rattle.grammar.proofs.Here.{Here, here_end, here_missing, here_byte, here_character, here_small, here_next, two_up, worth_of, digit_worth}

-- ---- what becomes of an atom in the making
unfoldable pub lacked : Bool → ℕ → List ℕ → Missing
lacked true n [] = EndOfLine
lacked true n (b ∷ bs) = Character (n + 1)
lacked false n bs = Character n

unfoldable pub stopped : Option grammar.Atom → ℕ → Missing → Found
stopped none n m = Err m
stopped (some a) n m = Ok (Some (atom_k a, n))

unfoldable pub part_run : Part → ℕ → List ℕ → Found
part_run q n [] = stopped (part_end q) n EndOfLine
part_run q n (b ∷ bs) = on (part_step q b) (λ r. part_run r (n + 1) bs) (stopped (part_end q) n (lacked (both (late_part q) (ltb b 128)) n bs))

-- after a step, or what is refused there
abbrev pub stepped : Option Part → ℕ → List ℕ → Found
stepped o n bs = on o (λ r. part_run r (n + 1) bs) (Err (Character n))

-- ---- guards on both sides
pub guard2 : {X Y : Type 0} (P : X → Y → Type 0) (a b : ℕ) (x y : X) (u v : Y) → (a ≡ b → P x u) → (eqb a b ≡ false → P y v) → P (pick (eqb a b) x y) (pick (eqb a b) u v)
guard2 P a b x y u v f g = by (eqb a b) refl
  where
    by : (t : Bool) → eqb a b ≡ t → P (pick t x y) (pick t u v)
    by true e = f (eqb-true a b e)
    by false e = g e

-- a test, with its evidence or with its failure
pub either_way : {X : Type 0} (P : X → Type 0) (t : Bool) (f : T t → X) (y : X) → ((q : T t) → P (f q)) → (t ≡ false → P y) → P (test t f y)
either_way P true f y p q = p tt
either_way P false f y p q = q refl

-- ---- digits
module _ {s : List ℕ} {n : ℕ} where
  pub digit_end : Here s n [] → digit_at s n ≡ 10
  unfolding digit_at scan.digit_of
  digit_end h = rw (here_end h)

  pub digit_here : {b : ℕ} {bs : List ℕ} → Here s n (b ∷ bs) → digit_at s n ≡ worth_of (digit_of b)
  unfolding digit_at
  digit_here h = rw (here_byte h) (digit_worth _ (here_small h))

pub value_small : (d : Digit) → value d < 10
unfolding value
value_small d0 = omega arith
value_small d1 = omega arith
value_small d2 = omega arith
value_small d3 = omega arith
value_small d4 = omega arith
value_small d5 = omega arith
value_small d6 = omega arith
value_small d7 = omega arith
value_small d8 = omega arith
value_small d9 = omega arith

-- a step over a digit, and over none
pub over_digit : (s : List ℕ) (v n : ℕ) (d : Digit) → digit_at s n ≡ value d → digit_step s (part v n) ≡ part (v * 10 + value d) (n + 1)
unfolding digit_step
over_digit s v n d e = rw (e, lt-ltb (value d) 10 (value_small d))

pub over_none : (s : List ℕ) (v n : ℕ) → digit_at s n ≡ 10 → digit_step s (part v n) ≡ part v n
unfolding digit_step
over_none s v n e = rw e

pub over_grows : (s : List ℕ) (p : scanned.Part ℕ) → p.next ≤ (digit_step s p).next
unfolding digit_step
over_grows s p = by (ltb (digit_at s p.next) 10)
  where
    by : (t : Bool) → p.next ≤ (pick t (part (p.value * 10 + digit_at s p.next) (p.next + 1)) p).next
    by true = omega arith
    by false = omega arith

-- no part of a bracket but a number goes on with a digit
digit_unclose : (x : Head) (q : Charge) (m : Map) (d : Digit) → to_close x q m (digit_s d) ≡ none
unfolding to_close digit_s
digit_unclose x q m d0 = refl
digit_unclose x q m d1 = refl
digit_unclose x q m d2 = refl
digit_unclose x q m d3 = refl
digit_unclose x q m d4 = refl
digit_unclose x q m d5 = refl
digit_unclose x q m d6 = refl
digit_unclose x q m d7 = refl
digit_unclose x q m d8 = refl
digit_unclose x q m d9 = refl

-- ---- the number of a charge
abbrev okay_v : Digit → ℕ → Bool
okay_v d v = pick (eqb (value d) 1) (pick (leb 1 v) (leb v 5) false) false

never : (t : Bool) → pick t false false ≡ false
never true = refl
never false = refl

okay_none : (d : Digit) → okay_v d 10 ≡ false
okay_none d = never (eqb (value d) 1)

module _ (s : List ℕ) (n : ℕ) where
  fifteen_none : digit_at s n ≡ 10 → fifteen_at s n ≡ part 0 n
  unfolding fifteen_at
  fifteen_none e = rw e

  fifteen_zero : digit_at s n ≡ 0 → fifteen_at s n ≡ part 0 n
  unfolding fifteen_at
  fifteen_zero e = rw e

  one_digit : (v : ℕ) → okay_v d1 v ≡ false → pick (eqb v 0) (part 1 (n + 1)) (pick (ltb 5 v) (part 1 (n + 1)) (part (10 + v) (n + 2))) ≡ part 1 (n + 1)
  unfolding value
  one_digit v h = by (eqb v 0) (ltb 5 v) refl refl
    where
      by : (t u : Bool) → eqb v 0 ≡ t → ltb 5 v ≡ u → pick t (part 1 (n + 1)) (pick u (part 1 (n + 1)) (part (10 + v) (n + 2))) ≡ part 1 (n + 1)
      by true u e f = refl
      by false true e f = refl
      by false false e f =
          let m : leb 1 v ≡ true = le-leb 1 v (pos_of_ne-zero (eqb-false v 0 e)) in
          let l : leb v 5 ≡ true = le-leb v 5 (ltb-false 5 v f) in
          absurd (false≢true (sym h ∙ rw (m, l)))

  fifteen_one : (d : Digit) (v : ℕ) → T (okay1 d) → digit_at s n ≡ value d → digit_at s (n + 1) ≡ v → okay_v d v ≡ false → fifteen_at s n ≡ part (value d) (n + 1)
  unfolding fifteen_at value okay1
  fifteen_one d0 v p e f h = absurd p
  fifteen_one d1 v p e f h = rw (e, f) (one_digit v h)
  fifteen_one d2 v p e f h = rw e
  fifteen_one d3 v p e f h = rw e
  fifteen_one d4 v p e f h = rw e
  fifteen_one d5 v p e f h = rw e
  fifteen_one d6 v p e f h = rw e
  fifteen_one d7 v p e f h = rw e
  fifteen_one d8 v p e f h = rw e
  fifteen_one d9 v p e f h = rw e

  two_digits : (v : ℕ) → T (okay_v d1 v) → pick (eqb v 0) (part 1 (n + 1)) (pick (ltb 5 v) (part 1 (n + 1)) (part (10 + v) (n + 2))) ≡ part (10 + v) (n + 2)
  unfolding value
  two_digits v h = by (leb 1 v) (leb v 5) refl refl h
    where
      by : (t u : Bool) → leb 1 v ≡ t → leb v 5 ≡ u → T (pick t u false) → pick (eqb v 0) (part 1 (n + 1)) (pick (ltb 5 v) (part 1 (n + 1)) (part (10 + v) (n + 2))) ≡ part (10 + v) (n + 2)
      by true true e f g = rw (ne_eqb v 0 (λ z. omega (arith, leb-true 1 v e)), le-ltb 5 v (leb-true v 5 f))
      by true false e f g = absurd g
      by false u e f g = absurd g

  fifteen_two : (d f : Digit) → T (okay2 d f) → digit_at s n ≡ value d → digit_at s (n + 1) ≡ value f → fifteen_at s n ≡ part (10 * value d + value f) (n + 2)
  unfolding fifteen_at okay2
  fifteen_two d0 f p e g = unfold value in absurd p
  fifteen_two d1 f p e g = rw (e, g) (unfold value in two_digits (value f) p)
  fifteen_two d2 f p e g = unfold value in absurd p
  fifteen_two d3 f p e g = unfold value in absurd p
  fifteen_two d4 f p e g = unfold value in absurd p
  fifteen_two d5 f p e g = unfold value in absurd p
  fifteen_two d6 f p e g = unfold value in absurd p
  fifteen_two d7 f p e g = unfold value in absurd p
  fifteen_two d8 f p e g = unfold value in absurd p
  fifteen_two d9 f p e g = unfold value in absurd p

  one_some : (v : ℕ) → ltb 0 (pick (eqb v 0) (part 1 (n + 1)) (pick (ltb 5 v) (part 1 (n + 1)) (part (10 + v) (n + 2)))).value ≡ true
  one_some v = by (eqb v 0) (ltb 5 v)
    where
      by : (t u : Bool) → ltb 0 (pick t (part 1 (n + 1)) (pick u (part 1 (n + 1)) (part (10 + v) (n + 2)))).value ≡ true
      by true u = refl
      by false true = refl
      by false false = lt-ltb 0 (10 + v) (omega arith)

  fifteen_some : (d : Digit) → T (okay1 d) → digit_at s n ≡ value d → ltb 0 (fifteen_at s n).value ≡ true
  unfolding fifteen_at value okay1
  fifteen_some d0 p e = absurd p
  fifteen_some d1 p e = rw e (one_some (digit_at s (n + 1)))
  fifteen_some d2 p e = rw e
  fifteen_some d3 p e = rw e
  fifteen_some d4 p e = rw e
  fifteen_some d5 p e = rw e
  fifteen_some d6 p e = rw e
  fifteen_some d7 p e = rw e
  fifteen_some d8 p e = rw e
  fifteen_some d9 p e = rw e

not_okay : (d : Digit) → okay1 d ≡ false → value d ≡ 0
unfolding okay1
not_okay d e = omega (arith, leb-false 1 (value d) e)

digit_unsign : (d : Digit) (g : Sign) → eqb (digit_s d) (sign_s g) ≡ false
unfolding digit_s sign_s
digit_unsign d0 plus = refl
digit_unsign d1 plus = refl
digit_unsign d2 plus = refl
digit_unsign d3 plus = refl
digit_unsign d4 plus = refl
digit_unsign d5 plus = refl
digit_unsign d6 plus = refl
digit_unsign d7 plus = refl
digit_unsign d8 plus = refl
digit_unsign d9 plus = refl
digit_unsign d0 minus = refl
digit_unsign d1 minus = refl
digit_unsign d2 minus = refl
digit_unsign d3 minus = refl
digit_unsign d4 minus = refl
digit_unsign d5 minus = refl
digit_unsign d6 minus = refl
digit_unsign d7 minus = refl
digit_unsign d8 minus = refl
digit_unsign d9 minus = refl

end_unsign : (g : Sign) → eqb 256 (sign_s g) ≡ false
unfolding sign_s
end_unsign plus = refl
end_unsign minus = refl

-- ---- the end of a bracket
closed_run : (x : Head) (q : Charge) (m : Map) (n : ℕ) (bs : List ℕ) → part_run (closed x q m) n bs ≡ Ok (Some (bracket_k x q m, n))
unfolding part_run stopped part_end part_step atom_k
closed_run x q m n [] = refl
closed_run x q m n (b ∷ bs) = refl

module _ (s : List ℕ) (i : Isotope) (y : Symbol) (c : Chiral) (h : Hcount) where
  abbrev hd : Head
  hd = head i y c h

  abbrev shut : ℕ → ℕ → ℕ → Found
  shut q m n = close_at s (kinds.bracket_of_six (isotope_k i) (symbol_k y) (chiral_k c) (hcount_k h) q m) n

  close_byte : (q : Charge) (m : Map) (n b : ℕ) (bs : List ℕ) → Here s n (b ∷ bs) → shut (charge_k q) (map_k m) n ≡ stepped (to_close hd q m b) n bs
  unfolding close_at to_close bracket_k
  close_byte q m n b bs e =
      rw (here_byte e, here_character e) (guard2 (λ (x : Found) (o : Option Part). x ≡ stepped o n bs) b (byte "]") _ _ _ _ (λ g. sym (closed_run hd q m (n + 1) bs)) (λ g. refl))

  close_nil : (q m n : ℕ) → Here s n [] → shut q m n ≡ Err EndOfLine
  unfolding close_at
  close_nil q m n e = rw (here_end e, here_missing e)

  -- ---- the map
  map3_run : (q : Charge) (a b d : Digit) (n : ℕ) (bs : List ℕ) → Here s n bs → shut (charge_k q) (worth 0 (a ∷ b ∷ d ∷ [])) n ≡ part_run (map3 hd q a b d) n bs
  unfolding part_run part_step part_end stopped late_part lacked map_k
  map3_run q a b d n [] e = close_nil _ _ n e
  map3_run q a b d n (x ∷ bs) e = close_byte q (m3 a b d) n x bs e

  map2_run : (q : Charge) (a b : Digit) (n : ℕ) (bs : List ℕ) → Here s n bs
      → shut (charge_k q) (digit_step s (part (worth 0 (a ∷ b ∷ [])) n)).value (digit_step s (part (worth 0 (a ∷ b ∷ [])) n)).next ≡ part_run (map2 hd q a b) n bs
  unfolding part_run part_step part_end stopped late_part lacked map_k worth worth_of
  map2_run q a b n [] e = rw (over_none s (worth 0 (a ∷ b ∷ [])) n (digit_end e)) (close_nil _ _ n e)
  map2_run q a b n (x ∷ bs) e = by (digit_of x) refl
    where
      by : (o : Option Digit) → digit_of x ≡ o → shut (charge_k q) (digit_step s (part (worth 0 (a ∷ b ∷ [])) n)).value (digit_step s (part (worth 0 (a ∷ b ∷ [])) n)).next
          ≡ stepped (on o (λ d. some (map3 hd q a b d)) (to_close hd q (m2 a b) x)) n bs
      by none g = rw (over_none s (worth 0 (a ∷ b ∷ [])) n (digit_here e ∙ ap worth_of g)) (close_byte q (m2 a b) n x bs e)
      by (some d) g = rw (over_digit s (worth 0 (a ∷ b ∷ [])) n d (digit_here e ∙ ap worth_of g)) (map3_run q a b d (n + 1) bs (here_next e))

  map1_run : (q : Charge) (a : Digit) (n : ℕ) (bs : List ℕ) → Here s n bs
      → shut (charge_k q) (digit_step s (digit_step s (part (worth 0 (a ∷ [])) n))).value (digit_step s (digit_step s (part (worth 0 (a ∷ [])) n))).next ≡ part_run (map1 hd q a) n bs
  unfolding part_run part_step part_end stopped late_part lacked map_k worth worth_of
  map1_run q a n [] e = let g = over_none s (worth 0 (a ∷ [])) n (digit_end e) in rw (g, g) (close_nil _ _ n e)
  map1_run q a n (x ∷ bs) e = by (digit_of x) refl
    where
      by : (o : Option Digit) → digit_of x ≡ o → shut (charge_k q) (digit_step s (digit_step s (part (worth 0 (a ∷ [])) n))).value (digit_step s (digit_step s (part (worth 0 (a ∷ [])) n))).next
          ≡ stepped (on o (λ d. some (map2 hd q a d)) (to_close hd q (m1 a) x)) n bs
      by none g = let f = over_none s (worth 0 (a ∷ [])) n (digit_here e ∙ ap worth_of g) in rw (f, f) (close_byte q (m1 a) n x bs e)
      by (some d) g = rw (over_digit s (worth 0 (a ∷ [])) n d (digit_here e ∙ ap worth_of g)) (map2_run q a d (n + 1) bs (here_next e))

  abbrev mapped : ℕ → Step → Found
  mapped q r = after_map s (isotope_k i) (symbol_k y) (chiral_k c) (hcount_k h) q r

  colon_run : (q : Charge) (n : ℕ) (bs : List ℕ) → Here s n bs
      → mapped (charge_k q) (pick (eqb (number_at s n).next n) (Err n) (Ok ((number_at s n).value, (number_at s n).next))) ≡ part_run (colon hd q) n bs
  unfolding part_run part_step part_end stopped late_part lacked worth worth_of number_at after_map
  colon_run q n [] e = let g = over_none s 0 n (digit_end e) in rw (g, g, g, eq-eqb n n refl, here_missing e)
  colon_run q n (x ∷ bs) e = by (digit_of x) refl
    where
      by : (o : Option Digit) → digit_of x ≡ o → mapped (charge_k q) (pick (eqb (number_at s n).next n) (Err n) (Ok ((number_at s n).value, (number_at s n).next)))
          ≡ stepped (on o (λ d. some (map1 hd q d)) none) n bs
      by none g = let f = over_none s 0 n (digit_here e ∙ ap worth_of g) in rw (f, f, f, eq-eqb n n refl, here_character e)
      by (some d) g =
          let p = digit_step s (part (worth 0 (d ∷ [])) (n + 1)) in
          rw (
            over_digit s 0 n d (digit_here e ∙ ap worth_of g),
            ne_eqb (digit_step s p).next n (λ z. omega (arith, over_grows s (part (worth 0 (d ∷ [])) (n + 1)), over_grows s p)),
          )
          (map1_run q d (n + 1) bs (here_next e))

  map_byte : (q : Charge) (n b : ℕ) (bs : List ℕ) → Here s n (b ∷ bs) → mapped (charge_k q) (map_at s n) ≡ stepped (to_map hd q b) n bs
  unfolding map_at to_map after_map map_k
  map_byte q n b bs e =
      rw (here_byte e) (guard2 (λ (x : Step) (o : Option Part). mapped (charge_k q) x ≡ stepped o n bs) b (byte ":") _ _ _ _ (λ g. colon_run q (n + 1) bs (here_next e)) (λ g. close_byte q nomap n b bs e))

  map_nil : (q n : ℕ) → Here s n [] → mapped q (map_at s n) ≡ Err EndOfLine
  unfolding map_at after_map
  map_nil q n e = rw (here_end e) (close_nil q no_number n e)

  -- ---- the charge
  charge2_run : (g : Sign) (d f : Digit) (p : T (okay2 d f)) (n : ℕ) (bs : List ℕ) → Here s n bs → mapped (charge_k (num2 g d f p)) (map_at s n) ≡ part_run (charge2 hd g d f p) n bs
  unfolding part_run part_step part_end stopped late_part lacked
  charge2_run g d f p n [] e = map_nil _ n e
  charge2_run g d f p n (x ∷ bs) e = map_byte (num2 g d f p) n x bs e

  doubled_run : (g : Sign) (n : ℕ) (bs : List ℕ) → Here s n bs → mapped (charge_k (twice g)) (map_at s n) ≡ part_run (doubled hd g) n bs
  unfolding part_run part_step part_end stopped late_part lacked
  doubled_run g n [] e = map_nil _ n e
  doubled_run g n (x ∷ bs) e = map_byte (twice g) n x bs e

  digit_unmap : (q : Charge) (d : Digit) → to_map hd q (digit_s d) ≡ none
  unfolding to_map digit_s to_close
  digit_unmap q d0 = refl
  digit_unmap q d1 = refl
  digit_unmap q d2 = refl
  digit_unmap q d3 = refl
  digit_unmap q d4 = refl
  digit_unmap q d5 = refl
  digit_unmap q d6 = refl
  digit_unmap q d7 = refl
  digit_unmap q d8 = refl
  digit_unmap q d9 = refl

  -- no map begins with a digit
  map_digit : (q : Charge) (n b : ℕ) (bs : List ℕ) (d : Digit) → Here s n (b ∷ bs) → digit_of b ≡ some d → mapped (charge_k q) (map_at s n) ≡ Err (Character n)
  map_digit q n b bs d e g = map_byte q n b bs e ∙ ap (λ (o : Option Part). stepped o n bs) (ap (λ (x : ℕ). to_map hd q x) (digit_is b d g) ∙ digit_unmap q d)

  abbrev charged : Sign → scanned.Part ℕ → Found
  charged g p = mapped (signed g p.value) (map_at s p.next)

  charge1_run : (g : Sign) (d : Digit) (p : T (okay1 d)) (n : ℕ) (bs : List ℕ) → digit_at s n ≡ value d → Here s (n + 1) bs → charged g (fifteen_at s n) ≡ part_run (charge1 hd g d p) (n + 1) bs
  unfolding part_run part_step part_end stopped late_part lacked charge_k worth_of
  charge1_run g d p n [] w e = rw (fifteen_one s n d 10 p w (digit_end e) (okay_none d)) (map_nil _ (n + 1) e)
  charge1_run g d p n (x ∷ bs) w e = by (digit_of x) refl
    where
      by : (o : Option Digit) → digit_of x ≡ o
          → charged g (fifteen_at s n) ≡ stepped (on o (λ f. test (okay2 d f) (λ q. some (charge2 hd g d f q)) none) (to_map hd (num1 g d p) x)) (n + 1) bs
      by none k = rw (fifteen_one s n d 10 p w (digit_here e ∙ ap worth_of k) (okay_none d)) (map_byte (num1 g d p) (n + 1) x bs e)
      by (some f) k =
          let v : digit_at s (n + 1) ≡ value f = digit_here e ∙ ap worth_of k in
          either_way (λ (o : Option Part). charged g (fifteen_at s n) ≡ stepped o (n + 1) bs) (okay2 d f) _ _
          (λ q. rw (fifteen_two s n d f q w v, two_up n) (charge2_run g d f q (n + 1 + 1) bs (here_next e)))
          (λ z. rw (fifteen_one s n d (value f) p w v (unfold okay2 in z)) (map_digit (num1 g d p) (n + 1) x bs f e k))

  signed_run : (g : Sign) (n : ℕ) (bs : List ℕ) → Here s n bs → charged g (signed_at s (sign_s g) n) ≡ part_run (machine.signed hd g) n bs
  unfolding part_run part_step part_end stopped late_part lacked charge_k worth_of signed_at
  signed_run g n [] e = rw (fifteen_none s n (digit_end e), here_end e, end_unsign g) (map_nil _ n e)
  signed_run g n (x ∷ bs) e = by (digit_of x) refl
    where
      by : (o : Option Digit) → digit_of x ≡ o
          → charged g (signed_at s (sign_s g) n) ≡ stepped (on o (λ d. test (okay1 d) (λ p. some (charge1 hd g d p)) none) (pick (eqb x (sign_s g)) (some (doubled hd g)) (to_map hd (sign g) x))) n bs
      by none k = rw (fifteen_none s n (digit_here e ∙ ap worth_of k), here_byte e)
          (guard2 (λ (p : scanned.Part ℕ) (o : Option Part). charged g p ≡ stepped o n bs) x (sign_s g) _ _ _ _ (λ z. doubled_run g (n + 1) bs (here_next e)) (λ z. map_byte (sign g) n x bs e))
      by (some d) k =
          let v : digit_at s n ≡ value d = digit_here e ∙ ap worth_of k in
          either_way (λ (o : Option Part). charged g (signed_at s (sign_s g) n) ≡ stepped o n bs) (okay1 d) _ _
          (λ p. rw (fifteen_some s n d p v) (charge1_run g d p n bs v (here_next e)))
          (λ z. rw (fifteen_zero s n (v ∙ not_okay d z), here_byte e, ap (λ (y : ℕ). eqb y (sign_s g)) (digit_is x d k) ∙ digit_unsign d g) (map_digit (sign g) n x bs d e k))

  charge_byte : (n b : ℕ) (bs : List ℕ) → Here s n (b ∷ bs)
      → after_charge s (isotope_k i) (symbol_k y) (chiral_k c) (hcount_k h) (charge_at s n) ≡ stepped (to_charge hd b) n bs
  unfolding after_charge charge_at to_charge sign_of
  charge_byte n b bs e =
      let P : scanned.Part ℕ → Option Sign → Type 0 = λ p o. after_charge s (isotope_k i) (symbol_k y) (chiral_k c) (hcount_k h) p ≡ stepped (on o (λ g. some (machine.signed hd g)) (to_map hd neutral b)) n bs in
      rw (here_byte e)
      (guard2 P b (byte "+") _ _ _ _ (λ z. unfold signed sign_s in signed_run plus (n + 1) bs (here_next e))
      (λ z. guard2 P b (byte "-") _ _ _ _ (λ z. unfold signed sign_s in signed_run minus (n + 1) bs (here_next e)) (λ z. unfold charge_k in map_byte neutral n b bs e)))

  charge_nil : (n : ℕ) → Here s n [] → after_charge s (isotope_k i) (symbol_k y) (chiral_k c) (hcount_k h) (charge_at s n) ≡ Err EndOfLine
  unfolding after_charge charge_at
  charge_nil n e = rw (here_end e) (map_nil _ n e)

-- ---- the hydrogens
module _ (s : List ℕ) (i : Isotope) (y : Symbol) (c : Chiral) where
  hcount_n_run : (d : Digit) (n : ℕ) (bs : List ℕ) → Here s n bs → after_charge s (isotope_k i) (symbol_k y) (chiral_k c) (value d) (charge_at s n) ≡ part_run (hcount_n i y c d) n bs
  unfolding part_run part_step part_end stopped late_part lacked hcount_k
  hcount_n_run d n [] e = charge_nil s i y c (Hn d) n e
  hcount_n_run d n (x ∷ bs) e = charge_byte s i y c (Hn d) n x bs e

  abbrev hydrated : scanned.Part ℕ → Found
  hydrated p = after_hydrogens s (isotope_k i) (symbol_k y) (chiral_k c) p

  hcount_run : (n : ℕ) (bs : List ℕ) → Here s n bs → hydrated (pick (ltb (digit_at s n) 10) (part (digit_at s n) (n + 1)) (part 1 n)) ≡ part_run (hcount i y c) n bs
  unfolding part_run part_step part_end stopped late_part lacked worth_of after_hydrogens
  hcount_run n [] e = rw (digit_end e) (unfold hcount_k in charge_nil s i y c H n e)
  hcount_run n (x ∷ bs) e = by (digit_of x) refl
    where
      by : (o : Option Digit) → digit_of x ≡ o
          → hydrated (pick (ltb (digit_at s n) 10) (part (digit_at s n) (n + 1)) (part 1 n)) ≡ stepped (on o (λ d. some (hcount_n i y c d)) (to_charge (head i y c H) x)) n bs
      by none k = rw (digit_here e ∙ ap worth_of k) (unfold hcount_k in charge_byte s i y c H n x bs e)
      by (some d) k = rw (digit_here e ∙ ap worth_of k, lt-ltb (value d) 10 (value_small d)) (hcount_n_run d (n + 1) bs (here_next e))

  hcount_byte : (n b : ℕ) (bs : List ℕ) → Here s n (b ∷ bs) → after_configuration s (isotope_k i) (symbol_k y) (chiral_k c) n ≡ stepped (to_hcount i y c b) n bs
  unfolding after_configuration hydrogens_at to_hcount
  hcount_byte n b bs e =
      rw (here_byte e, two_up n)
      (guard2 (λ (p : scanned.Part ℕ) (o : Option Part). hydrated p ≡ stepped o n bs) b (byte "H") _ _ _ _
      (λ z. hcount_run (n + 1) bs (here_next e)) (λ z. unfold after_hydrogens hcount_k in charge_byte s i y c bald n b bs e))

  hcount_nil : (n : ℕ) → Here s n [] → after_configuration s (isotope_k i) (symbol_k y) (chiral_k c) n ≡ Err EndOfLine
  unfolding after_configuration hydrogens_at after_hydrogens
  hcount_nil n e = rw (here_end e) (unfold hcount_k in charge_nil s i y c bald n e)

  digit_unhydrogen : (d : Digit) → to_hcount i y c (digit_s d) ≡ none
  unfolding to_hcount to_charge sign_of to_map digit_s to_close
  digit_unhydrogen d0 = refl
  digit_unhydrogen d1 = refl
  digit_unhydrogen d2 = refl
  digit_unhydrogen d3 = refl
  digit_unhydrogen d4 = refl
  digit_unhydrogen d5 = refl
  digit_unhydrogen d6 = refl
  digit_unhydrogen d7 = refl
  digit_unhydrogen d8 = refl
  digit_unhydrogen d9 = refl

  hcount_digit : (n b : ℕ) (bs : List ℕ) (d : Digit) → Here s n (b ∷ bs) → digit_of b ≡ some d → after_configuration s (isotope_k i) (symbol_k y) (chiral_k c) n ≡ Err (Character n)
  hcount_digit n b bs d e g = hcount_byte n b bs e ∙ ap (λ (o : Option Part). stepped o n bs) (ap (λ (x : ℕ). to_hcount i y c x) (digit_is b d g) ∙ digit_unhydrogen d)

-- ---- the mark
late_missing_lem : (s : List ℕ) (n b : ℕ) (bs : List ℕ) → Here s n (b ∷ bs) → missing_at s (late_at s n) ≡ lacked (ltb b 128) n bs
unfolding late_at lacked
late_missing_lem s n b bs e = rw (here_byte e) (by (ltb b 128) bs e)
  where
    by : (t : Bool) (bs : List ℕ) → Here s n (b ∷ bs) → missing_at s (pick t (n + 1) n) ≡ lacked t n bs
    by true [] e = here_missing (here_next e)
    by true (x ∷ bs) e = here_character (here_next e)
    by false bs e = here_character e

-- which digits a template takes
valid_yes : (k : Class) (d : Digit) → T (valid1 k d) → (1 ≤ value d) × (value d ≤ most k)
unfolding valid1
valid_yes k d p = by (leb 1 (value d)) (leb (value d) (most k)) refl refl p
  where
    by : (t u : Bool) → leb 1 (value d) ≡ t → leb (value d) (most k) ≡ u → T (pick t u false) → (1 ≤ value d) × (value d ≤ most k)
    by true true e f q = (leb-true 1 (value d) e, leb-true (value d) (most k) f)
    by true false e f q = absurd q
    by false u e f q = absurd q

valid_no : (k : Class) (d : Digit) → valid1 k d ≡ false → 1 ≤ value d → most k < value d
unfolding valid1
valid_no k d e h = leb-false (value d) (most k) (sym (rw (le-leb 1 (value d) h)) ∙ e)

far : (k : Class) (d f : Digit) → T (valid1 k d) → most k < 10 → valid2 k d f ≡ false
unfolding valid2
far k d f p few = let v = valid_yes k d p in rw (le-leb 1 (value d) v.0, lt-leb (10 * value d + value f) (most k) (omega (arith, v.0)))

over_yes : (k : Class) (d f : Digit) → T (valid1 k d) → T (valid2 k d f) → value d * 10 + value f ≤ most k
unfolding valid2
over_yes k d f p q = let v = valid_yes k d p in let e : T (leb (10 * value d + value f) (most k)) = rw (le-leb 1 (value d) v.0) at q in omega (arith, leb→le (10 * value d + value f) (most k) e)

over_no : (k : Class) (d f : Digit) → T (valid1 k d) → valid2 k d f ≡ false → most k < value d * 10 + value f
unfolding valid2
over_no k d f p q = let v = valid_yes k d p in let e : leb (10 * value d + value f) (most k) ≡ false = rw (le-leb 1 (value d) v.0) at q in omega (arith, leb-false (10 * value d + value f) (most k) e)

module _ (s : List ℕ) (i : Isotope) (y : Symbol) where
  abbrev marked : Step → Found
  marked r = configured s (isotope_k i) (symbol_k y) r

  chiral2_run : (n : ℕ) (bs : List ℕ) → Here s n bs → after_configuration s (isotope_k i) (symbol_k y) th2 n ≡ part_run (chiral2 i y) n bs
  unfolding part_run part_step part_end stopped late_part lacked chiral_k
  chiral2_run n [] e = hcount_nil s i y atat n e
  chiral2_run n (x ∷ bs) e = hcount_byte s i y atat n x bs e

  coded2_run : (k : Class) (d f : Digit) (p : T (valid2 k d f)) (n : ℕ) (bs : List ℕ) → Here s n bs
      → after_configuration s (isotope_k i) (symbol_k y) (base k + (value d * 10 + value f)) n ≡ part_run (coded2 i y k d f p) n bs
  unfolding part_run part_step part_end stopped late_part lacked chiral_k
  coded2_run k d f p n [] e = hcount_nil s i y (code2 k d f p) n e
  coded2_run k d f p n (x ∷ bs) e = hcount_byte s i y (code2 k d f p) n x bs e

  -- a template of at most nine: one digit
  coded1_run : (k : Class) (d : Digit) (p : T (valid1 k d)) → most k < 10 → (n : ℕ) (bs : List ℕ) → Here s n bs
      → after_configuration s (isotope_k i) (symbol_k y) (base k + value d) n ≡ part_run (coded1 i y k d p) n bs
  unfolding part_run part_step part_end stopped late_part lacked chiral_k
  coded1_run k d p few n [] e = hcount_nil s i y (code1 k d p) n e
  coded1_run k d p few n (x ∷ bs) e = by (digit_of x) refl
    where
      by : (o : Option Digit) → digit_of x ≡ o
          → after_configuration s (isotope_k i) (symbol_k y) (base k + value d) n ≡ stepped (on o (λ f. test (valid2 k d f) (λ q. some (coded2 i y k d f q)) none) (to_hcount i y (code1 k d p) x)) n bs
      by none z = hcount_byte s i y (code1 k d p) n x bs e
      by (some f) z = either_way (λ (o : Option Part). after_configuration s (isotope_k i) (symbol_k y) (base k + value d) n ≡ stepped o n bs) (valid2 k d f) _ _
          (λ q. absurd (subst T (far k d f p few) q)) (λ q. hcount_digit s i y (code1 k d p) n x bs f e z)

  class_short : (k : Class) → most k < 10 → late_class k ≡ false → (n : ℕ) (bs : List ℕ) → Here s n bs → marked (short_at s n (base k) (most k)) ≡ part_run (class i y k) n bs
  unfolding part_run part_step part_end stopped late_part lacked worth_of short_at configured
  class_short k few timely n [] e = rw (digit_end e, lt-ltb (most k) 10 few, here_missing e)
  class_short k few timely n (x ∷ bs) e = rw timely (by (digit_of x) refl)
    where
      by : (o : Option Digit) → digit_of x ≡ o → marked (short_at s n (base k) (most k)) ≡ stepped (on o (λ d. test (valid1 k d) (λ p. some (coded1 i y k d p)) none) none) n bs
      by none z = rw (digit_here e ∙ ap worth_of z, lt-ltb (most k) 10 few, here_character e)
      by (some d) z =
          let v : digit_at s n ≡ value d = digit_here e ∙ ap worth_of z in
          either_way (λ (o : Option Part). marked (short_at s n (base k) (most k)) ≡ stepped o n bs) (valid1 k d) _ _
          (λ p. let w = valid_yes k d p in rw (v, ne_eqb (value d) 0 (λ q. omega (arith, w.0)), le-ltb (most k) (value d) w.1) (coded1_run k d p few (n + 1) bs (here_next e)))
          (λ p. rw v (none_here (eqb (value d) 0) refl p))
        where
          none_here : (t : Bool) → eqb (value d) 0 ≡ t → valid1 k d ≡ false → marked (pick t (Err n) (pick (ltb (most k) (value d)) (Err n) (Ok (base k + value d, n + 1)))) ≡ Err (Character n)
          none_here true q p = rw (here_character e)
          none_here false q p = rw (lt-ltb (most k) (value d) (valid_no k d p (pos_of_ne-zero (eqb-false (value d) 0 q))), here_character e)

  -- a template of more than nine: one digit or two
  coded1_long : (k : Class) (d : Digit) (p : T (valid1 k d)) (n : ℕ) (bs : List ℕ) → Here s n bs
      → marked (pick (eqb (digit_at s n) 10) (Ok (base k + value d, n)) (pick (ltb (most k) (value d * 10 + digit_at s n)) (Ok (base k + value d, n)) (Ok (base k + (value d * 10 + digit_at s n), n + 1))))
      ≡ part_run (coded1 i y k d p) n bs
  unfolding part_run part_step part_end stopped late_part lacked worth_of configured chiral_k
  coded1_long k d p n [] e = rw (digit_end e) (hcount_nil s i y (code1 k d p) n e)
  coded1_long k d p n (x ∷ bs) e = by (digit_of x) refl
    where
      by : (o : Option Digit) → digit_of x ≡ o
          → marked (pick (eqb (digit_at s n) 10) (Ok (base k + value d, n)) (pick (ltb (most k) (value d * 10 + digit_at s n)) (Ok (base k + value d, n)) (Ok (base k + (value d * 10 + digit_at s n), n + 1))))
          ≡ stepped (on o (λ f. test (valid2 k d f) (λ q. some (coded2 i y k d f q)) none) (to_hcount i y (code1 k d p) x)) n bs
      by none z = rw (digit_here e ∙ ap worth_of z) (hcount_byte s i y (code1 k d p) n x bs e)
      by (some f) z = rw (digit_here e ∙ ap worth_of z, ne_eqb (value f) 10 (λ q. omega (arith, value_small f)))
          (either_way (λ (o : Option Part). marked (pick (ltb (most k) (value d * 10 + value f)) (Ok (base k + value d, n)) (Ok (base k + (value d * 10 + value f), n + 1))) ≡ stepped o n bs) (valid2 k d f) _ _
          (λ q. rw (le-ltb (most k) (value d * 10 + value f) (over_yes k d f p q)) (coded2_run k d f q (n + 1) bs (here_next e)))
          (λ q. rw (lt-ltb (most k) (value d * 10 + value f) (over_no k d f p q)) (hcount_digit s i y (code1 k d p) n x bs f e z)))

  class_long : (k : Class) → 9 ≤ most k → late_class k ≡ true → (n : ℕ) (bs : List ℕ) → Here s n bs → marked (long_at s n (base k) (most k)) ≡ part_run (class i y k) n bs
  unfolding part_run part_step part_end stopped late_part worth_of long_at configured
  class_long k many late n [] e = rw (digit_end e) (unfold late_at in rw (here_end e, here_missing e))
  class_long k many late n (x ∷ bs) e = rw late (by (digit_of x) refl)
    where
      by : (o : Option Digit) → digit_of x ≡ o
          → marked (long_at s n (base k) (most k)) ≡ on (on o (λ d. test (valid1 k d) (λ p. some (coded1 i y k d p)) none) none) (λ r. part_run r (n + 1) bs) (Err (lacked (ltb x 128) n bs))
      by none z = rw (digit_here e ∙ ap worth_of z, late_missing_lem s n x bs e)
      by (some d) z =
          let v : digit_at s n ≡ value d = digit_here e ∙ ap worth_of z in
          either_way (λ (o : Option Part). marked (long_at s n (base k) (most k)) ≡ on o (λ r. part_run r (n + 1) bs) (Err (lacked (ltb x 128) n bs))) (valid1 k d) _ _
          (λ p. let w = valid_yes k d p in rw (v, ne_eqb (value d) 0 (λ q. omega (arith, w.0)), ne_eqb (value d) 10 (λ q. omega (arith, value_small d)), two_up n) (coded1_long k d p (n + 1) bs (here_next e)))
          (λ p. rw v (none_here (eqb (value d) 0) refl p))
        where
          none_here : (t : Bool) → eqb (value d) 0 ≡ t → valid1 k d ≡ false
              → marked (pick t (Err (late_at s n)) (pick (eqb (value d) 10) (Err (late_at s n))
              (pick (eqb (digit_at s (n + 1)) 10) (Ok (base k + value d, n + 1)) (pick (ltb (most k) (value d * 10 + digit_at s (n + 1))) (Ok (base k + value d, n + 1)) (Ok (base k + (value d * 10 + digit_at s (n + 1)), n + 2))))))
              ≡ Err (lacked (ltb x 128) n bs)
          none_here true q p = rw (late_missing_lem s n x bs e)
          none_here false q p = absurd (omega (arith, value_small d, valid_no k d p (pos_of_ne-zero (eqb-false (value d) 0 q))))

  -- the second letter of a template
  trigonal_run : (n : ℕ) (bs : List ℕ) → Here s n bs → marked (trigonal_at s n) ≡ part_run (family i y Th) n bs
  unfolding part_run part_step part_end stopped late_part lacked class_of class1 trigonal_at configured
  trigonal_run n [] e = rw (here_end e, here_missing e)
  trigonal_run n (x ∷ bs) e =
      let P : Step → Option Class → Type 0 = λ r o. marked r ≡ stepped (on o (λ k. some (class i y k)) none) n bs in
      rw (here_byte e)
      (guard2 P x (byte "B") _ _ _ _ (λ z. unfold base most late_class in class_long TB (omega arith) refl (n + 1) bs (here_next e))
      (λ z. guard2 P x (byte "H") _ _ _ _ (λ z. unfold base most late_class in class_short Th (omega arith) refl (n + 1) bs (here_next e)) (λ z. rw (here_character e))))

  allene_run : (n : ℕ) (bs : List ℕ) → Here s n bs → marked (allene_at s n) ≡ part_run (family i y AL) n bs
  unfolding part_run part_step part_end stopped late_part lacked class_of class1 allene_at configured
  allene_run n [] e = rw (here_end e, here_missing e)
  allene_run n (x ∷ bs) e =
      let P : Step → Option Class → Type 0 = λ r o. marked r ≡ stepped (on o (λ k. some (class i y k)) none) n bs in
      rw (here_byte e) (guard2 P x (byte "L") _ _ _ _ (λ z. unfold base most late_class in class_short AL (omega arith) refl (n + 1) bs (here_next e)) (λ z. rw (here_character e)))

  square_run : (n : ℕ) (bs : List ℕ) → Here s n bs → marked (square_at s n) ≡ part_run (family i y SP) n bs
  unfolding part_run part_step part_end stopped late_part lacked class_of class1 square_at configured
  square_run n [] e = rw (here_end e, here_missing e)
  square_run n (x ∷ bs) e =
      let P : Step → Option Class → Type 0 = λ r o. marked r ≡ stepped (on o (λ k. some (class i y k)) none) n bs in
      rw (here_byte e) (guard2 P x (byte "P") _ _ _ _ (λ z. unfold base most late_class in class_short SP (omega arith) refl (n + 1) bs (here_next e)) (λ z. rw (here_character e)))

  octahedral_run : (n : ℕ) (bs : List ℕ) → Here s n bs → marked (octahedral_at s n) ≡ part_run (family i y OH) n bs
  unfolding part_run part_step part_end stopped late_part lacked class_of class1 octahedral_at configured
  octahedral_run n [] e = rw (here_end e, here_missing e)
  octahedral_run n (x ∷ bs) e =
      let P : Step → Option Class → Type 0 = λ r o. marked r ≡ stepped (on o (λ k. some (class i y k)) none) n bs in
      rw (here_byte e) (guard2 P x (byte "H") _ _ _ _ (λ z. unfold base most late_class in class_long OH (omega arith) refl (n + 1) bs (here_next e)) (λ z. rw (here_character e)))

  -- after "@"
  abbrev after_at : ℕ → Step
  after_at n =
      pick (eqb (peek_at s n) (byte "@")) (Ok (th2, n + 1))
      (pick (eqb (peek_at s n) (byte "A")) (allene_at s (n + 1))
      (pick (eqb (peek_at s n) (byte "O")) (octahedral_at s (n + 1))
      (pick (eqb (peek_at s n) (byte "S")) (square_at s (n + 1))
      (pick (eqb (peek_at s n) (byte "T")) (trigonal_at s (n + 1))
      (Ok (th1, n))))))

  chiral1_run : (n : ℕ) (bs : List ℕ) → Here s n bs → marked (after_at n) ≡ part_run (chiral1 i y) n bs
  unfolding part_run part_step part_end stopped late_part lacked configured fam_of chiral_k
  chiral1_run n [] e = rw (here_end e) (hcount_nil s i y at n e)
  chiral1_run n (x ∷ bs) e =
      let P : Step → Option Part → Type 0 = λ r o. marked r ≡ stepped o n bs in
      let Q : Step → Option Class → Type 0 = λ r o. marked r ≡ stepped (on o (λ k. some (family i y k)) (to_hcount i y at x)) n bs in
      rw (here_byte e)
      (guard2 P x (byte "@") _ _ _ _ (λ z. chiral2_run (n + 1) bs (here_next e))
      (λ z. guard2 Q x (byte "A") _ _ _ _ (λ z. allene_run (n + 1) bs (here_next e))
      (λ z. guard2 Q x (byte "O") _ _ _ _ (λ z. octahedral_run (n + 1) bs (here_next e))
      (λ z. guard2 Q x (byte "S") _ _ _ _ (λ z. square_run (n + 1) bs (here_next e))
      (λ z. guard2 Q x (byte "T") _ _ _ _ (λ z. trigonal_run (n + 1) bs (here_next e))
      (λ z. hcount_byte s i y at n x bs e))))))

  chiral_byte : (n b : ℕ) (bs : List ℕ) → Here s n (b ∷ bs) → marked (configuration_at s n) ≡ stepped (to_chiral i y b) n bs
  unfolding configuration_at to_chiral
  chiral_byte n b bs e =
      rw (here_byte e, two_up n)
      (guard2 (λ (r : Step) (o : Option Part). marked r ≡ stepped o n bs) b (byte "@") _ _ _ _
      (λ z. chiral1_run (n + 1) bs (here_next e)) (λ z. unfold configured chiral_k in hcount_byte s i y flat n b bs e))

  chiral_nil : (n : ℕ) → Here s n [] → marked (configuration_at s n) ≡ Err EndOfLine
  unfolding configuration_at configured
  chiral_nil n e = rw (here_end e) (unfold chiral_k in hcount_nil s i y flat n e)

  symbol_run : (n : ℕ) (bs : List ℕ) → Here s n bs → marked (configuration_at s n) ≡ part_run (symbol i y) n bs
  unfolding part_run part_step part_end stopped late_part lacked
  symbol_run n [] e = chiral_nil n e
  symbol_run n (x ∷ bs) e = chiral_byte n x bs e

-- ---- the symbol
peek_small : (s : List ℕ) (n : ℕ) (bs : List ℕ) → Here s n bs → peek_at s n < 511
peek_small s n [] e = rw (here_end e) (omega arith)
peek_small s n (b ∷ bs) e = rw (here_byte e) (omega (arith, here_small e))

untrue : (t u : Bool) → (T t → T u) → u ≡ false → t ≡ false
untrue true true f e = e
untrue true false f e = absurd (f tt)
untrue false u f e = refl

module _ (s : List ℕ) (i : Isotope) where
  abbrev symboled : Step → Found
  symboled r = after_symbol s (isotope_k i) r

  lead_run : (a : ℕ) (p : T (leads a symbol_names)) (n : ℕ) (bs : List ℕ) → a < 256 → Here s (n + 1) bs → symboled (symbol_of a (peek_at s (n + 1)) n) ≡ part_run (lead i a p) (n + 1) bs
  unfolding part_run part_step part_end stopped late_part lacked symbol_of after_symbol
  lead_run a p n [] small e = rw (here_end e, ne_eqb a 256 (λ z. omega arith), two_in a 256 (omega arith), no_end a, one_in a, begins_in a, true_of (leads a symbol_names) p)
      (by (has1 a symbol_names) refl)
    where
      by : (t : Bool) → has1 a symbol_names ≡ t → symboled (pick t (Ok (place_of (one_letter (scan.slip a)) feature.names, n + 1)) (Err (n + 1))) ≡ Err EndOfLine
      by true h = chiral_nil_by (subst T (sym h) tt)
        where
          chiral_nil_by : T (has1 a symbol_names) → configured s (isotope_k i) (place_of (one_letter (scan.slip a)) feature.names) (configuration_at s (n + 1)) ≡ Err EndOfLine
          chiral_nil_by q = unfold scan.slip symbol_k in chiral_nil s i (short a q) (n + 1) e
      by false h = rw (here_missing e)
  lead_run a p n (x ∷ bs) small e =
      rw (here_byte e, ne_eqb a 256 (λ z. omega arith), two_in a x (omega (arith, here_small e)), one_in a, begins_in a, true_of (leads a symbol_names) p)
      (either_way (λ (o : Option Part). symboled (two_way (has2 a x symbol_names)) ≡ stepped o (n + 1) bs) (has2 a x symbol_names) _ _
      (λ q. rw (true_of (has2 a x symbol_names) q, two_up n) (unfold symbol_k in symbol_run s i (long a x q) (n + 1 + 1) bs (here_next e)))
      (λ z. rw z (either_way (λ (o : Option Part). symboled (one_way (has1 a symbol_names)) ≡ stepped o (n + 1) bs) (has1 a symbol_names) _ _
      (λ q. rw (true_of (has1 a symbol_names) q) (unfold scan.slip symbol_k in chiral_byte s i (short a q) (n + 1) x bs e))
      (λ z. rw (z, here_character e)))))
    where
      one_way : Bool → Step
      one_way t = pick t (Ok (place_of (one_letter (scan.slip a)) feature.names, n + 1)) (Err (n + 1))

      two_way : Bool → Step
      two_way t = pick t (Ok (place_of (two_letters a x) feature.names, n + 2)) (one_way (has1 a symbol_names))

  pub symbol_byte : (n b : ℕ) (bs : List ℕ) → Here s n (b ∷ bs) → symboled (symbol_at s n) ≡ stepped (to_symbol i b) n bs
  unfolding symbol_at to_symbol
  symbol_byte n b bs e =
      rw (here_byte e)
      (either_way (λ (o : Option Part). symboled (symbol_of b (peek_at s (n + 1)) n) ≡ stepped o n bs) (leads b symbol_names) _ _
      (λ p. lead_run b p n bs (here_small e) (here_next e))
      (λ z. none_here z bs e))
    where
      none_here : leads b symbol_names ≡ false → (bs : List ℕ) → Here s n (b ∷ bs) → symboled (symbol_of b (peek_at s (n + 1)) n) ≡ Err (Character n)
      none_here z bs e = by (peek_at s (n + 1)) (peek_small s (n + 1) bs (here_next e))
        where
          by : (d : ℕ) → d < 511 → symboled (symbol_of b d n) ≡ Err (Character n)
          by d h = unfold symbol_of after_symbol in
              rw (
                ne_eqb b 256 (λ y. omega (arith, here_small e)),
                two_in b d h,
                untrue (has2 b d symbol_names) (leads b symbol_names) (has2_leads b d symbol_names) z,
                one_in b,
                untrue (has1 b symbol_names) (leads b symbol_names) (has1_leads b symbol_names) z,
                begins_in b,
                z,
                here_character e,
              )

  pub symbol_nil : (n : ℕ) → Here s n [] → symboled (symbol_at s n) ≡ Err EndOfLine
  unfolding symbol_at symbol_of after_symbol
  symbol_nil n e = rw (here_end e, here_missing e)

  pub symbol_digit : (n b : ℕ) (bs : List ℕ) (d : Digit) → Here s n (b ∷ bs) → digit_of b ≡ some d → symboled (symbol_at s n) ≡ Err (Character n)
  unfolding to_symbol
  symbol_digit n b bs d e g = symbol_byte n b bs e ∙ ap (λ (o : Option Part). stepped o n bs) (test_not (leads b symbol_names) _ _ (undigit (leads b symbol_names) refl))
    where
      undigit : (t : Bool) → leads b symbol_names ≡ t → leads b symbol_names ≡ false
      undigit true h = let z : digit_of b ≡ none = name_undigit b (subst T (sym h) tt) in impossible cc
      undigit false h = h
