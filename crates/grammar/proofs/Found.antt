-- What the reader finds at a place, an atom or none, is what the machine comes to from there. Assumes nothing.
use Prim.Native.Nat.{ℕ, ◌+◌}
use mathlib.Core.Path.{◌≡◌, refl, sym, ap, ◌∙◌, subst}
use mathlib.Core.List.{List, [], ◌∷◌}
use mathlib.Core.Option.{Option, none, some}
use mathlib.Core.Bool.{Bool, true, false}
use native.Mathlib.Omega.{arith}
use lib.Dec.{T, eqb}
use borrow.Author.Tests.{eqb-true, eq-eqb, ne_eqb}
use Rattle.feature.specs.Pick.{pick}
use Rattle.feature.specs.Text.{byte}
use Rattle.feature.specs.declared.atom_kind.AtomKind.{AtomKind}
use Rattle.feature.specs.declared.atom_kind.AtomKind.TheVariants.{Star, Aliphatic, Aromatic}
use Rattle.read_token.specs.Scan.{part, peek_at, digit_step, number_at, missing_at, isotope_at, after_isotope, inside_at, bracket_at, organic_at, optional_at, wanted_at, other_at, or_else, atom_at, star_at, aromatic_of, aliphatic_of}
use Rattle.read_token.specs.declared.scanner.Missing.TheVariants.{Character}
use Rattle.std.specs.Prelude.{Err, None, Ok, Some}
use Rattle.read_token.specs.Scan.{Found}
use Rattle.grammar.specs.Names.{has1, has2, place1, place2}
use Rattle.grammar.specs.Grammar.{Digit, worth, Organic, bare1, bare2, organics, aliphatics, aromatics, organic_k, iso0, iso1, iso2, iso3, isotope_k, organic, atom_k}
use Rattle.grammar.proofs.Machine.{leads, on, digit_of, bare, whole, isotope, begins, grow, to_symbol, part_step, part_end}
use Rattle.grammar.proofs.Table.{test_yes, test_not}
use Rattle.grammar.proofs.Late.{late_part}
use Rattle.grammar.proofs.Here.{Here, here_end, here_missing, here_byte, here_character, here_small, here_next, worth_of}
use Rattle.grammar.proofs.Atoms.{lacked, stopped, part_run, stepped, digit_end, digit_here, over_digit, over_none, over_grows, symbol_byte, symbol_nil, symbol_digit}

-- ---- the isotope
module _ (s : List ℕ) where
  iso3_run : (a b c : Digit) (n : ℕ) (bs : List ℕ) → Here s n bs → after_isotope s (part (worth 0 (a ∷ b ∷ c ∷ [])) n) ≡ part_run (isotope (iso3 a b c)) n bs
  unfolding part_run part_step part_end stopped late_part lacked after_isotope isotope_k grow
  iso3_run a b c n [] e = symbol_nil s (iso3 a b c) n e
  iso3_run a b c n (x ∷ bs) e = by (digit_of x) refl
    where
      by : (o : Option Digit) → digit_of x ≡ o → after_isotope s (part (worth 0 (a ∷ b ∷ c ∷ [])) n) ≡ stepped (on o (grow (iso3 a b c)) (to_symbol (iso3 a b c) x)) n bs
      by none g = symbol_byte s (iso3 a b c) n x bs e
      by (some d) g = symbol_digit s (iso3 a b c) n x bs d e g

  iso2_run : (a b : Digit) (n : ℕ) (bs : List ℕ) → Here s n bs → after_isotope s (digit_step s (part (worth 0 (a ∷ b ∷ [])) n)) ≡ part_run (isotope (iso2 a b)) n bs
  unfolding part_run part_step part_end stopped late_part lacked after_isotope isotope_k grow worth worth_of
  iso2_run a b n [] e = rw (over_none s (worth 0 (a ∷ b ∷ [])) n (digit_end e)) (symbol_nil s (iso2 a b) n e)
  iso2_run a b n (x ∷ bs) e = by (digit_of x) refl
    where
      by : (o : Option Digit) → digit_of x ≡ o → after_isotope s (digit_step s (part (worth 0 (a ∷ b ∷ [])) n)) ≡ stepped (on o (grow (iso2 a b)) (to_symbol (iso2 a b) x)) n bs
      by none g = rw (over_none s (worth 0 (a ∷ b ∷ [])) n (digit_here e ∙ ap worth_of g)) (symbol_byte s (iso2 a b) n x bs e)
      by (some d) g = rw (over_digit s (worth 0 (a ∷ b ∷ [])) n d (digit_here e ∙ ap worth_of g)) (iso3_run a b d (n + 1) bs (here_next e))

  iso1_run : (a : Digit) (n : ℕ) (bs : List ℕ) → Here s n bs → after_isotope s (digit_step s (digit_step s (part (worth 0 (a ∷ [])) n))) ≡ part_run (isotope (iso1 a)) n bs
  unfolding part_run part_step part_end stopped late_part lacked after_isotope isotope_k grow worth worth_of
  iso1_run a n [] e = let g = over_none s (worth 0 (a ∷ [])) n (digit_end e) in rw (g, g) (symbol_nil s (iso1 a) n e)
  iso1_run a n (x ∷ bs) e = by (digit_of x) refl
    where
      by : (o : Option Digit) → digit_of x ≡ o → after_isotope s (digit_step s (digit_step s (part (worth 0 (a ∷ [])) n))) ≡ stepped (on o (grow (iso1 a)) (to_symbol (iso1 a) x)) n bs
      by none g = let f = over_none s (worth 0 (a ∷ [])) n (digit_here e ∙ ap worth_of g) in rw (f, f) (symbol_byte s (iso1 a) n x bs e)
      by (some d) g = rw (over_digit s (worth 0 (a ∷ [])) n d (digit_here e ∙ ap worth_of g)) (iso2_run a d (n + 1) bs (here_next e))

  inside_run : (n : ℕ) (bs : List ℕ) → Here s n bs → inside_at s n ≡ part_run (isotope iso0) n bs
  unfolding part_run part_step part_end stopped late_part lacked after_isotope isotope_k grow worth worth_of inside_at isotope_at number_at
  inside_run n [] e = let g = over_none s 0 n (digit_end e) in rw (g, g, g, eq-eqb n n refl) (symbol_nil s iso0 n e)
  inside_run n (x ∷ bs) e = by (digit_of x) refl
    where
      by : (o : Option Digit) → digit_of x ≡ o → inside_at s n ≡ stepped (on o (grow iso0) (to_symbol iso0 x)) n bs
      by none g = let f = over_none s 0 n (digit_here e ∙ ap worth_of g) in rw (f, f, f, eq-eqb n n refl) (symbol_byte s iso0 n x bs e)
      by (some d) g =
          let p = digit_step s (part (worth 0 (d ∷ [])) (n + 1)) in
          rw (
            over_digit s 0 n d (digit_here e ∙ ap worth_of g),
            ne_eqb (digit_step s p).next n (λ z. omega (arith, over_grows s (part (worth 0 (d ∷ [])) (n + 1)), over_grows s p)),
          )
          (iso1_run d (n + 1) bs (here_next e))

-- ---- atoms
-- what the machine comes to at a place: no atom, or what becomes of the one that begins there
unfoldable pub found_run : ℕ → List ℕ → Found
found_run n [] = (Ok None)
found_run n (b ∷ bs) = on (begins b) (λ q. part_run q (n + 1) bs) (Ok None)

-- a byte is this one, or another
letter_or : (P : ℕ → Type 0) (b x : ℕ) → P x → (eqb b x ≡ false → P b) → P b
letter_or P b x p q = by (eqb b x) refl
  where
    by : (t : Bool) → eqb b x ≡ t → P b
    by true e = subst P (sym (eqb-true b x e)) p
    by false e = q e

or_nothing : (f : Found) → or_else f (Ok None) ≡ f
unfolding or_else
or_nothing (Ok (Some (k, n))) = refl
or_nothing (Ok None) = refl
or_nothing (Err m) = refl

whole_run : (o : Organic) (n : ℕ) (bs : List ℕ) → part_run (whole o) n bs ≡ Ok (Some (organic_k o, n))
unfolding part_run part_step part_end stopped atom_k
whole_run o n [] = refl
whole_run o n (b ∷ bs) = refl

-- ---- atoms without brackets, by their first letter
bare_ends : (a : ℕ) (p : T (leads a organics)) (q : T (has1 a organics)) → part_end (bare a p) ≡ some (organic (bare1 a q))
unfolding part_end
bare_ends a p q = test_yes (has1 a organics) q (λ q. some (organic (bare1 a q))) none

bare_open : (a : ℕ) (p : T (leads a organics)) → has1 a organics ≡ false → part_end (bare a p) ≡ none
unfolding part_end
bare_open a p e = test_not (has1 a organics) _ _ e

bare_stays : (a : ℕ) (p : T (leads a organics)) (x : ℕ) → has2 a x organics ≡ false → part_step (bare a p) x ≡ none
unfolding part_step
bare_stays a p x e = test_not (has2 a x organics) _ _ e

bare_grows : (a : ℕ) (p : T (leads a organics)) (x : ℕ) (q : T (has2 a x organics)) → part_step (bare a p) x ≡ some (whole (bare2 a x q))
unfolding part_step
bare_grows a p x q = test_yes (has2 a x organics) q (λ q. some (whole (bare2 a x q))) none

-- a letter that no other prolongs
single_run : (a : ℕ) (p : T (leads a organics)) (q : T (has1 a organics)) (k : AtomKind) → ((x : ℕ) → has2 a x organics ≡ false) → organic_k (bare1 a q) ≡ k
    → (m : ℕ) (bs : List ℕ) → Ok (Some (k, m)) ≡ part_run (bare a p) m bs
unfolding part_run stopped atom_k late_part lacked
single_run a p q k f g m [] = rw (bare_ends a p q, g)
single_run a p q k f g m (x ∷ bs) = rw (bare_stays a p x (f x), bare_ends a p q, g)

module _ (s : List ℕ) (m : ℕ) where
  -- a letter that another may prolong
  optional_run : (a l two one : ℕ) (p : T (leads a organics)) (q : T (has1 a organics)) → eqb 256 l ≡ false → ((x : ℕ) → has2 a x organics ≡ eqb x l)
      → organic_k (bare1 a q) ≡ Aliphatic one → ((r : T (has2 a l organics)) → organic_k (bare2 a l r) ≡ Aliphatic two)
      → (bs : List ℕ) → Here s m bs → optional_at s m l two one ≡ part_run (bare a p) m bs
  unfolding part_run stopped atom_k late_part lacked optional_at
  optional_run a l two one p q z f g h [] e = rw (here_end e, z, bare_ends a p q, g)
  optional_run a l two one p q z f g h (x ∷ bs) e = rw (here_byte e) (letter_or (λ y. pick (eqb y l) (Ok (Some (Aliphatic two, m + 1))) (Ok (Some (Aliphatic one, m)))
      ≡ on (part_step (bare a p) y) (λ r. part_run r (m + 1) bs) (stopped (part_end (bare a p)) m (lacked false m bs))) x l (longer (f l ∙ eq-eqb l l refl)) shorter)
    where
      longer : has2 a l organics ≡ true → pick (eqb l l) (Ok (Some (Aliphatic two, m + 1))) (Ok (Some (Aliphatic one, m))) ≡ on (part_step (bare a p) l) (λ r. part_run r (m + 1) bs) (stopped (part_end (bare a p)) m (lacked false m bs))
      longer y = let r : T (has2 a l organics) = subst T (sym y) tt in rw (eq-eqb l l refl, bare_grows a p l r) (sym (whole_run (bare2 a l r) (m + 1) bs ∙ rw (h r)))

      shorter : eqb x l ≡ false → pick (eqb x l) (Ok (Some (Aliphatic two, m + 1))) (Ok (Some (Aliphatic one, m))) ≡ on (part_step (bare a p) x) (λ r. part_run r (m + 1) bs) (stopped (part_end (bare a p)) m (lacked false m bs))
      shorter y = rw (y, bare_stays a p x (f x ∙ y), bare_ends a p q, g)

  -- a letter that another has to prolong
  wanted_run : (a l two : ℕ) (p : T (leads a organics)) → has1 a organics ≡ false → eqb 256 l ≡ false → ((x : ℕ) → has2 a x organics ≡ eqb x l)
      → ((r : T (has2 a l organics)) → organic_k (bare2 a l r) ≡ Aliphatic two)
      → (bs : List ℕ) → Here s m bs → wanted_at s m l two ≡ part_run (bare a p) m bs
  unfolding part_run stopped atom_k late_part lacked wanted_at
  wanted_run a l two p q z f h [] e = rw (here_end e, z, bare_open a p q, here_missing e)
  wanted_run a l two p q z f h (x ∷ bs) e = rw (here_byte e, here_character e) (letter_or (λ y. pick (eqb y l) (Ok (Some (Aliphatic two, m + 1))) (Err (Character m))
      ≡ on (part_step (bare a p) y) (λ r. part_run r (m + 1) bs) (stopped (part_end (bare a p)) m (lacked false m bs))) x l (longer (f l ∙ eq-eqb l l refl)) shorter)
    where
      longer : has2 a l organics ≡ true → pick (eqb l l) (Ok (Some (Aliphatic two, m + 1))) (Err (Character m)) ≡ on (part_step (bare a p) l) (λ r. part_run r (m + 1) bs) (stopped (part_end (bare a p)) m (lacked false m bs))
      longer y = let r : T (has2 a l organics) = subst T (sym y) tt in rw (eq-eqb l l refl, bare_grows a p l r) (sym (whole_run (bare2 a l r) (m + 1) bs ∙ rw (h r)))

      shorter : eqb x l ≡ false → pick (eqb x l) (Ok (Some (Aliphatic two, m + 1))) (Err (Character m)) ≡ on (part_step (bare a p) x) (λ r. part_run r (m + 1) bs) (stopped (part_end (bare a p)) m (lacked false m bs))
      shorter y = rw (y, bare_stays a p x (f x ∙ y), bare_open a p q)

  optional_is : (l two one : ℕ) (f : Found) → or_else (optional_at s m l two one) f ≡ optional_at s m l two one
  unfolding optional_at or_else
  optional_is l two one f = by (eqb (peek_at s m) l)
    where
      by : (t : Bool) → or_else (pick t (Ok (Some (Aliphatic two, m + 1))) (Ok (Some (Aliphatic one, m)))) f ≡ pick t (Ok (Some (Aliphatic two, m + 1))) (Ok (Some (Aliphatic one, m)))
      by true = refl
      by false = refl

  wanted_is : (l two : ℕ) (f : Found) → or_else (wanted_at s m l two) f ≡ wanted_at s m l two
  unfolding wanted_at or_else
  wanted_is l two f = by (eqb (peek_at s m) l)
    where
      by : (t : Bool) → or_else (pick t (Ok (Some (Aliphatic two, m + 1))) (Err (missing_at s m))) f ≡ pick t (Ok (Some (Aliphatic two, m + 1))) (Err (missing_at s m))
      by true = refl
      by false = refl

same_test : (t : Bool) → pick t true false ≡ t
same_test true = refl
same_test false = refl

module _ (s : List ℕ) (n : ℕ) (bs : List ℕ) where
  abbrev Right : ℕ → Type 0
  Right b = Here s n (b ∷ bs) → atom_at s n ≡ found_run n (b ∷ bs)

  at_low_b : Right (byte "b")
  unfolding leads organics has1 has2 aromatics aliphatics place1 place2 organic_k found_run begins atom_at organic_at or_else aromatic_of aliphatic_of other_at bracket_at star_at
  at_low_b e = rw (here_byte e) (single_run (byte "b") tt tt (Aromatic 0) (λ x. refl) refl (n + 1) bs)

  at_low_c : Right (byte "c")
  unfolding leads organics has1 has2 aromatics aliphatics place1 place2 organic_k found_run begins atom_at organic_at or_else aromatic_of aliphatic_of other_at bracket_at star_at
  at_low_c e = rw (here_byte e) (single_run (byte "c") tt tt (Aromatic 1) (λ x. refl) refl (n + 1) bs)

  at_low_n : Right (byte "n")
  unfolding leads organics has1 has2 aromatics aliphatics place1 place2 organic_k found_run begins atom_at organic_at or_else aromatic_of aliphatic_of other_at bracket_at star_at
  at_low_n e = rw (here_byte e) (single_run (byte "n") tt tt (Aromatic 2) (λ x. refl) refl (n + 1) bs)

  at_low_o : Right (byte "o")
  unfolding leads organics has1 has2 aromatics aliphatics place1 place2 organic_k found_run begins atom_at organic_at or_else aromatic_of aliphatic_of other_at bracket_at star_at
  at_low_o e = rw (here_byte e) (single_run (byte "o") tt tt (Aromatic 3) (λ x. refl) refl (n + 1) bs)

  at_low_p : Right (byte "p")
  unfolding leads organics has1 has2 aromatics aliphatics place1 place2 organic_k found_run begins atom_at organic_at or_else aromatic_of aliphatic_of other_at bracket_at star_at
  at_low_p e = rw (here_byte e) (single_run (byte "p") tt tt (Aromatic 4) (λ x. refl) refl (n + 1) bs)

  at_low_s : Right (byte "s")
  unfolding leads organics has1 has2 aromatics aliphatics place1 place2 organic_k found_run begins atom_at organic_at or_else aromatic_of aliphatic_of other_at bracket_at star_at
  at_low_s e = rw (here_byte e) (single_run (byte "s") tt tt (Aromatic 5) (λ x. refl) refl (n + 1) bs)

  at_cap-N : Right (byte "N")
  unfolding leads organics has1 has2 aromatics aliphatics place1 place2 organic_k found_run begins atom_at organic_at or_else aromatic_of aliphatic_of other_at bracket_at star_at
  at_cap-N e = rw (here_byte e) (single_run (byte "N") tt tt (Aliphatic 2) (λ x. refl) refl (n + 1) bs)

  at_cap-O : Right (byte "O")
  unfolding leads organics has1 has2 aromatics aliphatics place1 place2 organic_k found_run begins atom_at organic_at or_else aromatic_of aliphatic_of other_at bracket_at star_at
  at_cap-O e = rw (here_byte e) (single_run (byte "O") tt tt (Aliphatic 3) (λ x. refl) refl (n + 1) bs)

  at_cap-S : Right (byte "S")
  unfolding leads organics has1 has2 aromatics aliphatics place1 place2 organic_k found_run begins atom_at organic_at or_else aromatic_of aliphatic_of other_at bracket_at star_at
  at_cap-S e = rw (here_byte e) (single_run (byte "S") tt tt (Aliphatic 4) (λ x. refl) refl (n + 1) bs)

  at_cap-P : Right (byte "P")
  unfolding leads organics has1 has2 aromatics aliphatics place1 place2 organic_k found_run begins atom_at organic_at or_else aromatic_of aliphatic_of other_at bracket_at star_at
  at_cap-P e = rw (here_byte e) (single_run (byte "P") tt tt (Aliphatic 5) (λ x. refl) refl (n + 1) bs)

  at_cap-F : Right (byte "F")
  unfolding leads organics has1 has2 aromatics aliphatics place1 place2 organic_k found_run begins atom_at organic_at or_else aromatic_of aliphatic_of other_at bracket_at star_at
  at_cap-F e = rw (here_byte e) (single_run (byte "F") tt tt (Aliphatic 6) (λ x. refl) refl (n + 1) bs)

  at_cap-I : Right (byte "I")
  unfolding leads organics has1 has2 aromatics aliphatics place1 place2 organic_k found_run begins atom_at organic_at or_else aromatic_of aliphatic_of other_at bracket_at star_at
  at_cap-I e = rw (here_byte e) (single_run (byte "I") tt tt (Aliphatic 9) (λ x. refl) refl (n + 1) bs)

  at_star : Right (byte "*")
  unfolding leads organics has1 has2 aromatics aliphatics place1 place2 organic_k found_run begins atom_at organic_at or_else aromatic_of aliphatic_of other_at bracket_at star_at
  at_star e = rw (here_byte e) (single_run (byte "*") tt tt (Star) (λ x. refl) refl (n + 1) bs)

  at_cap-C : Right (byte "C")
  unfolding leads organics has1 has2 aromatics aliphatics place1 place2 organic_k found_run begins atom_at organic_at or_else aromatic_of aliphatic_of other_at bracket_at star_at
  at_cap-C e = rw (here_byte e) (optional_is s (n + 1) (byte "l") 7 1 (Ok None) ∙ optional_run s (n + 1) (byte "C") (byte "l") 7 1 tt tt refl (λ x. same_test (eqb x (byte "l"))) refl (λ r. refl) bs (here_next e))

  at_cap-B : Right (byte "B")
  unfolding leads organics has1 has2 aromatics aliphatics place1 place2 organic_k found_run begins atom_at organic_at or_else aromatic_of aliphatic_of other_at bracket_at star_at
  at_cap-B e = rw (here_byte e) (optional_is s (n + 1) (byte "r") 8 0 (Ok None) ∙ optional_run s (n + 1) (byte "B") (byte "r") 8 0 tt tt refl (λ x. same_test (eqb x (byte "r"))) refl (λ r. refl) bs (here_next e))

  at_cap-A : Right (byte "A")
  unfolding leads organics has1 has2 aromatics aliphatics place1 place2 organic_k found_run begins atom_at organic_at or_else aromatic_of aliphatic_of other_at bracket_at star_at
  at_cap-A e = rw (here_byte e) (wanted_is s (n + 1) (byte "t") 10 (Ok None) ∙ wanted_run s (n + 1) (byte "A") (byte "t") 10 tt refl refl (λ x. same_test (eqb x (byte "t"))) (λ r. refl) bs (here_next e))

  at_cap-T : Right (byte "T")
  unfolding leads organics has1 has2 aromatics aliphatics place1 place2 organic_k found_run begins atom_at organic_at or_else aromatic_of aliphatic_of other_at bracket_at star_at
  at_cap-T e = rw (here_byte e) (wanted_is s (n + 1) (byte "s") 11 (Ok None) ∙ wanted_run s (n + 1) (byte "T") (byte "s") 11 tt refl refl (λ x. same_test (eqb x (byte "s"))) (λ r. refl) bs (here_next e))

  at_bracket : Right (byte "[")
  unfolding leads organics has1 has2 aromatics aliphatics place1 place2 organic_k found_run begins atom_at organic_at or_else aromatic_of aliphatic_of other_at bracket_at star_at
  at_bracket e = rw (here_byte e) (or_nothing (inside_at s (n + 1)) ∙ inside_run s (n + 1) bs (here_next e))

-- none of them
none_arom : (b : ℕ) → eqb b (byte "b") ≡ false → eqb b (byte "c") ≡ false → eqb b (byte "n") ≡ false → eqb b (byte "o") ≡ false → eqb b (byte "p") ≡ false → eqb b (byte "s") ≡ false → aromatic_of b ≡ 6
unfolding aromatic_of
none_arom b x10 x11 x12 x13 x14 x15 = rw (x10, x11, x12, x13, x14, x15)

none_aliph : (b : ℕ) → eqb b (byte "N") ≡ false → eqb b (byte "O") ≡ false → eqb b (byte "S") ≡ false → eqb b (byte "P") ≡ false → eqb b (byte "F") ≡ false → eqb b (byte "I") ≡ false → aliphatic_of b ≡ 12
unfolding aliphatic_of
none_aliph b x2 x3 x4 x5 x6 x7 = rw (x2, x3, x4, x5, x6, x7)

none_leads : (b : ℕ) → eqb b (byte "B") ≡ false → eqb b (byte "C") ≡ false → eqb b (byte "N") ≡ false → eqb b (byte "O") ≡ false → eqb b (byte "S") ≡ false → eqb b (byte "P") ≡ false → eqb b (byte "F") ≡ false → eqb b (byte "I") ≡ false → eqb b (byte "A") ≡ false → eqb b (byte "T") ≡ false → eqb b (byte "b") ≡ false → eqb b (byte "c") ≡ false → eqb b (byte "n") ≡ false → eqb b (byte "o") ≡ false → eqb b (byte "p") ≡ false → eqb b (byte "s") ≡ false → eqb b (byte "*") ≡ false → leads b organics ≡ false
unfolding leads organics
none_leads b x0 x1 x2 x3 x4 x5 x6 x7 x8 x9 x10 x11 x12 x13 x14 x15 x16 = rw (x0, x1, x2, x3, x4, x5, x6, x7, x8, x9, x10, x11, x12, x13, x14, x15, x16)

none_organic : (s : List ℕ) (n b : ℕ) → peek_at s n ≡ b → eqb b 256 ≡ false → aromatic_of b ≡ 6 → aliphatic_of b ≡ 12 → eqb b (byte "C") ≡ false → eqb b (byte "B") ≡ false → eqb b (byte "A") ≡ false → eqb b (byte "T") ≡ false
    → organic_at s n ≡ (Ok None)
unfolding organic_at
none_organic s n b e z r l x1 x0 x8 x9 = rw (e, z, r, l, x1, x0, x8, x9)

none_other : (s : List ℕ) (n b : ℕ) → peek_at s n ≡ b → eqb b (byte "[") ≡ false → eqb b (byte "*") ≡ false → other_at s n ≡ (Ok None)
unfolding other_at bracket_at star_at or_else
none_other s n b e x y = rw (e, x, y)

none_begins : (b : ℕ) → leads b organics ≡ false → eqb b (byte "[") ≡ false → begins b ≡ none
unfolding begins
none_begins b e f = test_not (leads b organics) (λ p. some (bare b p)) _ e ∙ ap (λ (t : Bool). pick t (some (isotope iso0)) none) f

none_here : (s : List ℕ) (n : ℕ) (bs : List ℕ) (b : ℕ) → eqb b (byte "B") ≡ false → eqb b (byte "C") ≡ false → eqb b (byte "N") ≡ false → eqb b (byte "O") ≡ false → eqb b (byte "S") ≡ false → eqb b (byte "P") ≡ false → eqb b (byte "F") ≡ false → eqb b (byte "I") ≡ false → eqb b (byte "A") ≡ false → eqb b (byte "T") ≡ false → eqb b (byte "b") ≡ false → eqb b (byte "c") ≡ false → eqb b (byte "n") ≡ false → eqb b (byte "o") ≡ false → eqb b (byte "p") ≡ false → eqb b (byte "s") ≡ false → eqb b (byte "*") ≡ false → eqb b (byte "[") ≡ false → Right s n bs b
unfolding atom_at found_run
none_here s n bs b x0 x1 x2 x3 x4 x5 x6 x7 x8 x9 x10 x11 x12 x13 x14 x15 x16 x17 e =
    rw (
      none_organic s n b (here_byte e) (ne_eqb b 256 (λ y. omega (arith, here_small e))) (none_arom b x10 x11 x12 x13 x14 x15) (none_aliph b x2 x3 x4 x5 x6 x7) x1 x0 x8 x9,
      none_other s n b (here_byte e) x17 x16,
    )
    (unfold or_else in rw (none_begins b (none_leads b x0 x1 x2 x3 x4 x5 x6 x7 x8 x9 x10 x11 x12 x13 x14 x15 x16) x17))

pub found_run_lem : (s : List ℕ) (n : ℕ) (bs : List ℕ) → Here s n bs → atom_at s n ≡ found_run n bs
unfolding found_run
found_run_lem s n [] e = unfold atom_at organic_at other_at bracket_at star_at or_else in rw (here_end e)
found_run_lem s n (b ∷ bs) e =
    let R : ℕ → Type 0 = λ y. Right s n bs y in
    (letter_or R b (byte "B") (at_cap-B s n bs)
    (λ x0. letter_or R b (byte "C") (at_cap-C s n bs)
    (λ x1. letter_or R b (byte "N") (at_cap-N s n bs)
    (λ x2. letter_or R b (byte "O") (at_cap-O s n bs)
    (λ x3. letter_or R b (byte "S") (at_cap-S s n bs)
    (λ x4. letter_or R b (byte "P") (at_cap-P s n bs)
    (λ x5. letter_or R b (byte "F") (at_cap-F s n bs)
    (λ x6. letter_or R b (byte "I") (at_cap-I s n bs)
    (λ x7. letter_or R b (byte "A") (at_cap-A s n bs)
    (λ x8. letter_or R b (byte "T") (at_cap-T s n bs)
    (λ x9. letter_or R b (byte "b") (at_low_b s n bs)
    (λ x10. letter_or R b (byte "c") (at_low_c s n bs)
    (λ x11. letter_or R b (byte "n") (at_low_n s n bs)
    (λ x12. letter_or R b (byte "o") (at_low_o s n bs)
    (λ x13. letter_or R b (byte "p") (at_low_p s n bs)
    (λ x14. letter_or R b (byte "s") (at_low_s s n bs)
    (λ x15. letter_or R b (byte "*") (at_star s n bs)
    (λ x16. letter_or R b (byte "[") (at_bracket s n bs)
    (λ x17. none_here s n bs b x0 x1 x2 x3 x4 x5 x6 x7 x8 x9 x10 x11 x12 x13 x14 x15 x16 x17))))))))))))))))))) e
