-- A bracket atom's text at a place of a line: where each field is, and that it is read back there. Assumes nothing.
use Prim.Native.Nat.{ℕ, ◌+◌, ◌<◌}
use mathlib.Core.Path.{◌≡◌, refl, ◌∙◌, ap}
use mathlib.Core.List.{List, ◌∷◌, ◌++◌}
use mathlib.Core.Bool.{true}
use native.Mathlib.Omega.{arith}
use lib.ListN.{length, drop}
use Rattle.feature.specs.Text.{byte}
use Rattle.feature.specs.Steps.{Within}
use Rattle.feature.specs.declared.atom_kind.BracketAtom.{BracketAtom}
use Rattle.feature.specs.declared.atom_kind.AtomKind.TheVariants.{Bracket}
use Rattle.feature.proofs.Cases.{both_true, ok_parts}
use Rattle.read_token.specs.declared.scanner.Part.{Part}
use Rattle.std.specs.Prelude.{Ok, Some}
use Rattle.read_token.specs.Scan.{part, peek_at, isotope_at, symbol_at, configuration_at, hydrogens_at, charge_at, map_at, close_at, after_map, after_charge, after_hydrogens, after_configuration, configured, after_symbol, after_isotope, inside_at}
use Rattle.spell.specs.Spell.{number_text, symbol_text, configuration_text, hydrogens_text, charge_text, map_text}
use Rattle.survive.specs.Survive.{fields_survive}
use Rattle.survive.proofs.Shift.{front, past}
use Rattle.survive.proofs.Field.{got, Starts, joined, Here, back}
use Rattle.survive.proofs.Fields.{isotope, symbol, configuration, hydrogens, charge, map, isotope_symbol, symbol_configuration, configuration_hydrogens, hydrogens_charge, charge_map}

-- ---- where the fields of a bracket that starts at n are, n the place after its "["
module _ (n : ℕ) (b : BracketAtom) where
  abbrev pub at_symbol : ℕ
  at_symbol = n + length (number_text b.isotope)

  abbrev pub at_configuration : ℕ
  at_configuration = at_symbol + length (symbol_text b.symbol)

  abbrev pub at_hydrogens : ℕ
  at_hydrogens = at_configuration + length (configuration_text b.configuration)

  abbrev pub at_charge : ℕ
  at_charge = at_hydrogens + length (hydrogens_text b.hydrogens)

  abbrev pub at_map : ℕ
  at_map = at_charge + length (charge_text b.charge)

  abbrev pub at_close : ℕ
  at_close = at_map + length (map_text b.map)

-- each field's text is at its place, and "]" at the end
pub record Bracketed (s : List ℕ) (n : ℕ) (b : BracketAtom) : Type 0 where
  pub isotope : Here isotope s n b.isotope
  pub symbol : Here symbol s (at_symbol n b) b.symbol
  pub configuration : Here configuration s (at_configuration n b) b.configuration
  pub hydrogens : Here hydrogens s (at_hydrogens n b) b.hydrogens
  pub charge : Here charge s (at_charge n b) b.charge
  pub map : Here map s (at_map n b) b.map
  pub close : peek_at s (at_close n b) ≡ byte "]"

-- ---- the text from each field on
module _ (b : BracketAtom) (rest : List ℕ) where
  abbrev pub from_close : List ℕ
  from_close = byte "]" ∷ rest

  abbrev pub from_map : List ℕ
  from_map = map_text b.map ++ from_close

  abbrev pub from_charge : List ℕ
  from_charge = charge_text b.charge ++ from_map

  abbrev pub from_hydrogens : List ℕ
  from_hydrogens = hydrogens_text b.hydrogens ++ from_charge

  abbrev pub from_configuration : List ℕ
  from_configuration = configuration_text b.configuration ++ from_hydrogens

  abbrev pub from_symbol : List ℕ
  from_symbol = symbol_text b.symbol ++ from_configuration

  abbrev pub from_isotope : List ℕ
  from_isotope = number_text b.isotope ++ from_symbol

-- a bracket's text has its fields' texts so
pub bracketed : (s : List ℕ) (n : ℕ) (b : BracketAtom) (rest : List ℕ) → Within b → drop n s ≡ from_isotope b rest → Bracketed s n b
unfolding peek_at
bracketed s n b rest w e =
    let t0 = from_close b rest in
    let t1 = from_map b rest in
    let t2 = from_charge b rest in
    let t3 = from_hydrogens b rest in
    let t4 = from_configuration b rest in
    let t5 = from_symbol b rest in
    let e1 : drop (at_symbol n b) s ≡ t5 = past s n (number_text b.isotope) t5 e in
    let e2 : drop (at_configuration n b) s ≡ t4 = past s (at_symbol n b) (symbol_text b.symbol) t4 e1 in
    let e3 : drop (at_hydrogens n b) s ≡ t3 = past s (at_configuration n b) (configuration_text b.configuration) t3 e2 in
    let e4 : drop (at_charge n b) s ≡ t2 = past s (at_hydrogens n b) (hydrogens_text b.hydrogens) t2 e3 in
    let e5 : drop (at_map n b) s ≡ t1 = past s (at_charge n b) (charge_text b.charge) t1 e4 in
    let e6 : drop (at_close n b) s ≡ t0 = past s (at_map n b) (map_text b.map) t0 e5 in
    let i : b.isotope < 1001 = omega arith in
    let h : b.hydrogens < 11 = omega arith in
    let q : b.charge < 32 = omega arith in
    let m : b.map < 1001 = omega arith in
    let s0 : Starts map.after t0 = record { head = byte "]"; rest = rest; is = refl; ok = tt } in
    let s1 : Starts charge.after t1 = joined charge map charge_map b.map t0 m s0 in
    let s2 : Starts hydrogens.after t2 = joined hydrogens charge hydrogens_charge b.charge t1 q s1 in
    let s3 : Starts configuration.after t3 = joined configuration hydrogens configuration_hydrogens b.hydrogens t2 h s2 in
    let s4 : Starts symbol.after t4 = joined symbol configuration symbol_configuration b.configuration t3 w.configuration s3 in
    let s5 : Starts isotope.after t5 = joined isotope symbol isotope_symbol b.symbol t4 w.symbol s4 in
    record {
      isotope = record { rest = t5; small = i; stands = e; next = s5 };
      symbol = record { rest = t4; small = w.symbol; stands = e1; next = s4 };
      configuration = record { rest = t3; small = w.configuration; stands = e2; next = s3 };
      hydrogens = record { rest = t2; small = h; stands = e3; next = s2 };
      charge = record { rest = t1; small = q; stands = e4; next = s1 };
      map = record { rest = t0; small = m; stands = e5; next = s0 };
      close = front s (at_close n b) e6;
    }

pub of_got : (p : Part ℕ) (v k : ℕ) → got p ≡ Ok (v, k) → p ≡ part v k
of_got p v k e =
    let d = ok_parts e in
    ap (λ (x : ℕ). part x p.next) d.0 ∙ ap (λ (x : ℕ). part v x) d.1

-- if the fields survive, what is read is the atom
pub inside_back : (s : List ℕ) (n : ℕ) (b : BracketAtom) → Bracketed s n b → fields_survive b ≡ true → inside_at s n ≡ Ok (Some (Bracket b, at_close n b + 1))
unfolding fields_survive inside_at after_isotope after_symbol configured after_configuration after_hydrogens after_charge after_map close_at
inside_back s n b h ok =
    let o1 = both_true (symbol.stays b.symbol) _ ok in
    let o2 = both_true (configuration.stays b.configuration) _ o1.1 in
    let o3 = both_true (hydrogens.stays b.hydrogens) (charge.stays b.charge) o2.1 in
    let i : isotope_at s n ≡ part b.isotope (at_symbol n b) = of_got _ _ _ (back h.isotope refl) in
    let y : symbol_at s (at_symbol n b) ≡ Ok (b.symbol, at_configuration n b) = back h.symbol o1.0 in
    let c : configuration_at s (at_configuration n b) ≡ Ok (b.configuration, at_hydrogens n b) = back h.configuration o2.0 in
    let d : hydrogens_at s (at_hydrogens n b) ≡ part b.hydrogens (at_charge n b) = of_got _ _ _ (back h.hydrogens o3.0) in
    let q : charge_at s (at_charge n b) ≡ part b.charge (at_map n b) = of_got _ _ _ (back h.charge o3.1) in
    let m : map_at s (at_map n b) ≡ Ok (b.map, at_close n b) = back h.map refl in
    simp (i, y, c, d, q, m, h.close)
