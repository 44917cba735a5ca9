-- The text of any atom in range, whether it survives or not, is read as some atom to its end, or it lacks something within.
-- Assumes nothing.
use Prim.Native.Nat.{ℕ, ◌+◌, ◌<◌}
use mathlib.Core.Path.{◌≡◌, refl, ◌∙◌, ap, sym, subst}
use mathlib.Core.List.{List, ◌∷◌, ◌++◌, append_assoc}
use mathlib.Core.Bool.{Bool, true, false, false≢true}
use native.Mathlib.Omega.{arith}
use lib.ListN.{length, drop, length-append}
use lib.Dec.{T, eqb, eqb→eq}
use Rattle.feature.specs.Pick.{either, neither}
use Rattle.feature.specs.Text.{byte, bytes}
use Rattle.feature.specs.Names.{symbols, names, place_of, begins}
use Rattle.feature.specs.Kinds.{configurations, in_range}
use Rattle.feature.specs.declared.atom_kind.BracketAtom.{BracketAtom}
use Rattle.feature.specs.declared.atom_kind.AtomKind.{AtomKind}
use Rattle.feature.specs.declared.atom_kind.AtomKind.TheVariants.{Star, Aliphatic, Aromatic, Bracket}
use Rattle.feature.proofs.Cases.{by_test, true_of, ok_parts}
use borrow.Author.Tests.{eqb-true}
use Rattle.feature.proofs.Ranges.{good}
use Rattle.read_token.specs.declared.scanner.Missing.{Missing}
use Rattle.read_token.specs.declared.scanner.Part.{Part}
use Rattle.std.specs.Prelude.{Err, None, Ok, Some}
use Rattle.read_token.specs.Scan.{Step}
use Rattle.read_token.specs.Scan.{Found}
use Rattle.read_token.specs.Scan.{part, peek_at, digit_of, digit_at, slip, isotope_at, symbol_at, symbol_of, short_at, late_at, long_at, allene_at, octahedral_at, square_at, trigonal_at, configuration_at, hydrogens_at, fifteen_at, signed_at, charge_at, map_at, close_at, after_map, after_charge, after_hydrogens, after_configuration, configured, after_symbol, after_isotope, inside_at, bracket_at, aromatic_of, aliphatic_of, organic_at, star_at, or_else, other_at, atom_at}
use Rattle.spell.specs.Spell.{digits, name_text, symbol_text, template_text, marked_text, configuration_text, hydrogens_text, charge_text, bracket_text, kind_text, atom_text}
use Rattle.survive.specs.Survive.{survives, can_follow}
use Rattle.survive.proofs.Checked.{mem, checked}
use Rattle.survive.proofs.Shift.{onward, front, past, peek_shift}
use Rattle.survive.proofs.Field.{got, Field, Here, here_read, back}
use Rattle.survive.proofs.Fields.{symbol, configuration, hydrogens, charge}
use Rattle.survive.proofs.Bracketed.{Bracketed, bracketed, from_isotope, at_symbol, at_configuration, at_hydrogens, at_charge, at_map, at_close, of_got}
use Rattle.survive.proofs.ReadBack.{survives_ranged, text_of, read_back_at}

-- ---- one field
-- whether a step ends at k, if it ends
abbrev ends_at : Step → ℕ → Bool
ends_at (Ok (w, j)) k = eqb j k
ends_at (Err j) k = true

abbrev ends : (List ℕ → ℕ → Step) → (ℕ → List ℕ) → List ℕ → ℕ → ℕ → Bool
ends read text t v x = ends_at (read (text v ++ (x ∷ t)) 0) (length (text v))

data Ended : Step → ℕ → Type 0 where
  to : (w k : ℕ) → Ended (Ok (w, k)) k
  none : (p k : ℕ) → Ended (Err p) k

ended : (n : ℕ) (r : Step) (k : ℕ) → T (ends_at r k) → Ended (onward n r) (n + k)
unfolding onward
ended n (Ok (w, j)) k h = subst (λ (i : ℕ). Ended (Ok (w, n + i)) (n + k)) (sym (eqb→eq j k h)) (to w (n + k))
ended n (Err j) k h = none (n + j) (n + k)

field_ends : {F : Field} {s : List ℕ} {n v : ℕ} (h : Here F s n v) → T (ends F.read F.text h.next.rest v h.next.head) → Ended (F.read s n) (n + length (F.text v))
field_ends {F} {s} {n} {v} h e =
    subst (λ (r : Step). Ended r (n + length (F.text v))) (sym (here_read h)) (ended n (F.read (F.text v ++ (h.next.head ∷ h.next.rest)) 0) (length (F.text v)) e)

symbol_ends : (v x : ℕ) (t : List ℕ) → v < symbols → T (mem symbol.after x) → T (ends symbol_at symbol_text t v x)
unfolding symbol_at symbol_of slip place_of begins peek_at symbol_text name_text names
symbol_ends v x t l m = checked (ends symbol_at symbol_text t) symbols symbol.after tt v x l m

configuration_ends : (v x : ℕ) (t : List ℕ) → v < configurations → T (mem configuration.after x) → T (ends configuration_at configuration_text t v x)
unfolding configuration_at allene_at octahedral_at square_at trigonal_at short_at long_at late_at digit_at digit_of peek_at configuration_text marked_text template_text digits
configuration_ends v x t l m = checked (ends configuration_at configuration_text t) configurations configuration.after tt v x l m

hydrogens_ends : (v x : ℕ) (t : List ℕ) → v < 11 → T (mem hydrogens.after x) → T (ends (λ s n. got (hydrogens_at s n)) hydrogens_text t v x)
unfolding hydrogens_at digit_at digit_of peek_at hydrogens_text
hydrogens_ends v x t l m = checked (ends (λ s n. got (hydrogens_at s n)) hydrogens_text t) 11 hydrogens.after tt v x l m

-- a charge ends where its text does, or at a byte that neither begins a map nor ends the bracket
abbrev is_other : ℕ → Bool
is_other c = neither (either (eqb c (byte ":")) (eqb c (byte "]")))

abbrev charged : List ℕ → ℕ → ℕ → Bool
charged t v x =
    either (eqb (charge_at (charge_text v ++ (x ∷ t)) 0).next (length (charge_text v)))
    (is_other (peek_at (charge_text v ++ (x ∷ t)) (charge_at (charge_text v ++ (x ∷ t)) 0).next))

charge_ends : (v x : ℕ) (t : List ℕ) → v < 32 → T (mem charge.after x) → T (charged t v x)
unfolding charge_at signed_at fifteen_at digit_at digit_of peek_at charge_text digits
charge_ends v x t l m = checked (charged t) 32 charge.after tt v x l m

-- ---- the whole of a bracket
-- some atom that ends at n, or something that lacks
pub data Somehow : Found → ℕ → Type 0 where
  atom : (k : AtomKind) (n : ℕ) → Somehow (Ok (Some (k, n))) n
  lacks : (m : Missing) (n : ℕ) → Somehow (Err m) n

part_ended : (p : Part ℕ) (k : ℕ) → Ended (got p) k → p.next ≡ k
part_ended p k (to w j) = refl

module _ (s : List ℕ) (n : ℕ) (b : BracketAtom) (h : Bracketed s n b) where
  abbrev end : ℕ
  end = at_close n b + 1

  -- after a charge that ends where its text does
  map_somehow : (i y c d q : ℕ) → Somehow (after_map s i y c d q (map_at s (at_map n b))) end
  unfolding after_map close_at
  map_somehow i y c d q =
      let m : map_at s (at_map n b) ≡ Ok (b.map, at_close n b) = back h.map refl in
      rw (m, h.close) (atom _ end)

  -- and at another byte
  other_somehow : (i y c d q at : ℕ) → is_other (peek_at s at) ≡ true → Somehow (after_map s i y c d q (map_at s at)) end
  unfolding map_at after_map close_at
  other_somehow i y c d q at o =
      by_test (λ (x : Step). Somehow (after_map s i y c d q x) end) (eqb (peek_at s at) (byte ":"))
      (λ z. absurd (no_colon (eqb (peek_at s at) (byte ":")) (eqb (peek_at s at) (byte "]")) o z))
      (λ z. by_test (λ (x : Found). Somehow x end) (eqb (peek_at s at) (byte "]"))
      (λ y. absurd (no_close (eqb (peek_at s at) (byte ":")) (eqb (peek_at s at) (byte "]")) o y)) (λ y. lacks _ end))
    where
      no_colon : (p q : Bool) → neither (either p q) ≡ true → p ≡ true → ⊥
      no_colon true q e f = false≢true e
      no_colon false q e f = false≢true f

      no_close : (p q : Bool) → neither (either p q) ≡ true → q ≡ true → ⊥
      no_close true q e f = false≢true e
      no_close false true e f = false≢true e
      no_close false false e f = false≢true f

  -- what is read from the charge on
  abbrev rest : List ℕ
  rest = charge_text b.charge ++ (h.charge.next.head ∷ h.charge.next.rest)

  charge_at_lem : (charge_at s (at_charge n b)).next ≡ at_charge n b + (charge_at rest 0).next
  unfolding onward
  charge_at_lem = (ok_parts (here_read h.charge)).1

  peek_at_lem : (j : ℕ) → peek_at s (at_charge n b + j) ≡ peek_at rest j
  peek_at_lem j =
      peek_shift s (at_charge n b) j
      ∙ ap (λ (l : List ℕ). peek_at l j) (h.charge.stands ∙ ap (λ (l : List ℕ). charge_text b.charge ++ l) h.charge.next.is)

  charge_somehow : (i y c d : ℕ) → Somehow (after_charge s i y c d (charge_at s (at_charge n b))) end
  unfolding after_charge
  charge_somehow i y c d = by (eqb (charge_at rest 0).next (length (charge_text b.charge))) refl
    where
      by : (q : Bool) → eqb (charge_at rest 0).next (length (charge_text b.charge)) ≡ q → Somehow (after_charge s i y c d (charge_at s (at_charge n b))) end
      by true q =
          let e : (charge_at s (at_charge n b)).next ≡ at_map n b = charge_at_lem ∙ ap (λ (j : ℕ). at_charge n b + j) (eqb-true _ _ q) in
          rw e (map_somehow i y c d (charge_at s (at_charge n b)).value)
      by false q =
          let t : T (charged h.charge.next.rest b.charge h.charge.next.head) = charge_ends b.charge h.charge.next.head h.charge.next.rest h.charge.small h.charge.next.ok in
          let o : is_other (peek_at rest (charge_at rest 0).next) ≡ true = true_of _ (rw q at t) in
          other_somehow i y c d (charge_at s (at_charge n b)).value (charge_at s (at_charge n b)).next
          (ap is_other (ap (peek_at s) charge_at_lem ∙ peek_at_lem (charge_at rest 0).next) ∙ o)

  -- ---- the fields before it
  hydrogens_somehow : (i y c : ℕ) → Somehow (after_configuration s i y c (at_hydrogens n b)) end
  unfolding after_configuration after_hydrogens
  hydrogens_somehow i y c =
      let e : (hydrogens_at s (at_hydrogens n b)).next ≡ at_charge n b =
      part_ended (hydrogens_at s (at_hydrogens n b)) (at_charge n b) (field_ends h.hydrogens (hydrogens_ends b.hydrogens h.hydrogens.next.head h.hydrogens.next.rest h.hydrogens.small h.hydrogens.next.ok)) in
      rw e (charge_somehow i y c (hydrogens_at s (at_hydrogens n b)).value)

  configured_somehow : (i y : ℕ) (r : Step) → Ended r (at_hydrogens n b) → Somehow (configured s i y r) end
  unfolding configured
  configured_somehow i y (Ok (w, k)) (to v j) = hydrogens_somehow i y w
  configured_somehow i y (Err p) (none q j) = lacks _ end

  symbol_somehow : (i : ℕ) (r : Step) → Ended r (at_configuration n b) → Somehow (after_symbol s i r) end
  unfolding after_symbol
  symbol_somehow i (Ok (w, k)) (to v j) =
      configured_somehow i w (configuration_at s (at_configuration n b))
      (field_ends h.configuration (configuration_ends b.configuration h.configuration.next.head h.configuration.next.rest h.configuration.small h.configuration.next.ok))
  symbol_somehow i (Err p) (none q j) = lacks _ end

  pub inside_somehow : Somehow (inside_at s n) end
  unfolding inside_at after_isotope
  inside_somehow =
      let e : isotope_at s n ≡ part b.isotope (at_symbol n b) = of_got _ _ _ (back h.isotope refl) in
      rw e
      (symbol_somehow b.isotope (symbol_at s (at_symbol n b))
      (field_ends h.symbol (symbol_ends b.symbol h.symbol.next.head h.symbol.next.rest h.symbol.small h.symbol.next.ok)))

-- ---- any atom in range
else_somehow : (f g : Found) (m : ℕ) → Somehow f m → Somehow (or_else f g) m
unfolding or_else
else_somehow (Ok (Some (k, n))) g m (atom j i) = atom k m
else_somehow (Err x) g m (lacks y i) = lacks x m
else_somehow (Ok None) g m x = elim x [ ]

module _ (s : List ℕ) (n : ℕ) (rest : List ℕ) where
  bracket_somehow : (b : BracketAtom) → in_range (Bracket b) ≡ true → drop n s ≡ kind_text (Bracket b) ++ rest → Somehow (atom_at s n) (n + length (kind_text (Bracket b)))
  unfolding kind_text bracket_text peek_at atom_at organic_at aromatic_of aliphatic_of other_at bracket_at or_else in_range
  bracket_somehow b ok e =
      let e' : drop n s ≡ byte "[" ∷ from_isotope b rest = e ∙ simp append_assoc in
      let z : peek_at s n ≡ byte "[" = front s n e' in
      let i : drop (n + 1) s ≡ from_isotope b rest = past s n (bytes "[") (from_isotope b rest) e' in
      let l : at_close (n + 1) b + 1 ≡ n + length (kind_text (Bracket b)) = simp length-append (omega arith) in
      let r = inside_somehow s (n + 1) b (bracketed s (n + 1) b rest (good (Bracket b) ok) i) in
      simp z (rw (← l) (else_somehow (inside_at s (n + 1)) (star_at s n) _ r))

  organic : (k : AtomKind) → survives k ≡ true → can_follow rest ≡ true → drop n s ≡ kind_text k ++ rest → Somehow (atom_at s n) (n + length (kind_text k))
  organic k ok c e =
      let t = text_of k (survives_ranged k ok) in
      let r : atom_at s n ≡ Ok (Some (k, n + length (kind_text k))) = rw t at (read_back_at s n rest k ok c (rw t e)) in
      rw r (atom k _)

  kind_somehow : (k : AtomKind) → in_range k ≡ true → can_follow rest ≡ true → drop n s ≡ kind_text k ++ rest → Somehow (atom_at s n) (n + length (kind_text k))
  unfolding survives in_range
  kind_somehow Star ok c e = organic Star refl c e
  kind_somehow (Aliphatic m) ok c e = organic (Aliphatic m) ok c e
  kind_somehow (Aromatic m) ok c e = organic (Aromatic m) ok c e
  kind_somehow (Bracket b) ok c e = bracket_somehow b ok e

  -- The text of an atom in range, at n of a line with nothing after it that changes its meaning.
  pub atom_somehow : (k : AtomKind) → in_range k ≡ true → can_follow rest ≡ true → drop n s ≡ atom_text k ++ rest → Somehow (atom_at s n) (n + length (atom_text k))
  atom_somehow k ok c e =
      let t = text_of k ok in
      rw t (kind_somehow k ok c (rw t at e))
