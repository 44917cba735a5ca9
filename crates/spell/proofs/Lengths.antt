-- How long a text can be. Assumes nothing.
use Prim.Native.Nat.{ℕ, ◌+◌, ◌-◌, ◌%◌, ◌≤◌, ◌<◌}
use mathlib.Core.Path.{◌≡◌, refl}
use mathlib.Core.Bool.{Bool, true, false}
use mathlib.Core.List.{List, [], ◌∷◌}
use native.Mathlib.Omega.{arith}
use lib.ListN.{length, get_or, length-append}
use lib.Dec.{ltb, leb, eqb}
use borrow.Author.Tests.{lt-ltb, ltb-true}
use Rattle.feature.specs.Pick.{pick}
use Rattle.feature.specs.Text.{byte, letter_step}
use Rattle.feature.specs.Names.{names, sym_ac, sym_cs}
use Rattle.feature.specs.Kinds.{aliphatic_count, no_number, no_hydrogens, neutral_charge, no_charge, no_configuration, th2, al, sp, tb, oh, configurations, in_range}
use Rattle.feature.specs.Steps.{Within, GoodKind}
use Rattle.feature.specs.declared.atom_kind.BracketAtom.{BracketAtom}
use Rattle.feature.specs.declared.atom_kind.AtomKind.{AtomKind}
use Rattle.feature.specs.declared.atom_kind.AtomKind.TheVariants.{Star, Aliphatic, Aromatic, Bracket}
use Rattle.feature.specs.declared.bond_kind.BondKind.{BondKind}
use Rattle.feature.specs.declared.bond_kind.BondKind.TheVariants as bond
use Rattle.feature.proofs.Ranges.{good}
use Rattle.feature.proofs.Cases.{by_either}
use Rattle.spell.specs.Spell.{digits, number_text, name_text, symbol_text, template_text, marked_text, configuration_text, hydrogens_text, charge_text, map_text, bracket_text, organic_symbols, kind_text, atom_text, bond_text, rnum_text}

-- a choice is no longer than either
pub either_short : (n : ℕ) (b : Bool) (x y : List ℕ) → length x ≤ n → length y ≤ n → length (pick b x y) ≤ n
either_short n b x y p q = by_either (λ (z : List ℕ). length z ≤ n) b p q

digits_short : (n : ℕ) → length (digits n) ≤ 3
unfolding digits
digits_short n = either_short 3 (ltb n 10) _ _ (omega arith) (either_short 3 (ltb n 100) _ _ (omega arith) (omega arith))

-- a number below 100
pair_short : (n : ℕ) → n < 100 → length (digits n) ≤ 2
unfolding digits
pair_short n h = simp (lt-ltb n 100 h) (either_short 2 (ltb n 10) _ _ (omega arith) (omega arith))

number_short : (i : ℕ) → length (number_text i) ≤ 3
unfolding number_text
number_short i = either_short 3 (eqb i no_number) _ _ (omega arith) (digits_short i)

name_short : (y : ℕ) → length (name_text y) ≤ 2
unfolding name_text
name_short y = either_short 2 (eqb (get_or names y 0 % letter_step) 0) _ _ (omega arith) (omega arith)

symbol_short : (y : ℕ) → length (symbol_text y) ≤ 2
unfolding symbol_text
symbol_short y = either_short 2 (eqb y sym_cs) _ _ (name_short sym_ac) (name_short y)

template_short : (a b n : ℕ) → n < 100 → length (template_text a b n) ≤ 5
unfolding template_text
template_short a b n h = omega (arith, pair_short n h)

marked_short : (c : ℕ) → c < configurations → length (marked_text c) ≤ 5
unfolding marked_text
marked_short c h =
    either_short 5 (leb c tb) _ _ (template_short (byte "S") (byte "P") (c - sp) (omega arith))
    (either_short 5 (eqb c (tb + 20)) _ _ (template_short (byte "T") (byte "H") 1 (omega arith))
    (either_short 5 (leb c oh) _ _ (template_short (byte "T") (byte "B") (c - tb) (omega arith))
    (either_short 5 (eqb c (oh + 3)) _ _ (template_short (byte "T") (byte "H") 1 (omega arith))
    (either_short 5 (eqb c (oh + 14)) _ _ (template_short (byte "O") (byte "H") 6 (omega arith))
    (template_short (byte "O") (byte "H") (c - oh) (omega arith))))))

configuration_short : (c : ℕ) → c < configurations → length (configuration_text c) ≤ 5
unfolding configuration_text
configuration_short c h =
    either_short 5 (eqb c no_configuration) _ _ (omega arith)
    (either_short 5 (ltb sp c) _ _ (marked_short c h)
    (either_short 5 (eqb c th2) _ _ (omega arith)
    (either_short 5 (eqb c (al + 2)) _ _ (omega arith)
    (omega arith))))

hydrogens_short : (h : ℕ) → length (hydrogens_text h) ≤ 2
unfolding hydrogens_text
hydrogens_short h =
    either_short 2 (eqb h no_hydrogens) _ _ (omega arith)
    (either_short 2 (eqb h 0) _ _ (omega arith)
    (either_short 2 (eqb h 1) _ _ (omega arith)
    (omega arith)))

charge_short : (q : ℕ) → q ≤ no_charge → length (charge_text q) ≤ 3
unfolding charge_text
charge_short q h =
    either_short 3 (eqb q no_charge) _ _ (omega arith)
    (either_short 3 (eqb q neutral_charge) _ _ (omega arith)
    (either_short 3 (eqb q (neutral_charge + 1)) _ _ (omega arith)
    (either_short 3 (eqb q (neutral_charge - 1)) _ _ (omega arith)
    (either_short 3 (eqb q (neutral_charge + 5)) _ _ (omega arith)
    (either_short 3 (ltb neutral_charge q) _ _ (omega (arith, pair_short (q - neutral_charge) (omega arith)))
    (omega (arith, pair_short (neutral_charge - q) (omega arith))))))))

map_short : (m : ℕ) → length (map_text m) ≤ 4
unfolding map_text
map_short m = either_short 4 (eqb m no_number) _ _ (omega arith) (omega (arith, digits_short m))

bracket_short : (b : BracketAtom) → Within b → length (bracket_text b) ≤ 21
unfolding bracket_text
bracket_short b w =
    simp length-append
    (omega
    (arith, number_short b.isotope, symbol_short b.symbol, configuration_short b.configuration w.configuration, hydrogens_short b.hydrogens, charge_short b.charge w.charge, map_short b.map))

kind_short : (k : AtomKind) → GoodKind k → length (kind_text k) ≤ 21
unfolding kind_text
kind_short Star g = omega arith
kind_short (Aliphatic n) g = omega (arith, name_short (get_or organic_symbols n 0))
kind_short (Aromatic n) g = omega (arith, name_short (get_or organic_symbols (aliphatic_count + n) 0))
kind_short (Bracket b) g = bracket_short b g

-- ---- the texts that a writer lays
pub atom_short : (k : AtomKind) → length (atom_text k) ≤ 21
unfolding atom_text
atom_short k = go (in_range k) refl
  where
    go : (t : Bool) → in_range k ≡ t → length (pick (in_range k) (kind_text k) []) ≤ 21
    go true e = simp e (kind_short k (good k e))
    go false e = simp e (omega arith)

pub bond_short : (b : BondKind) → length (bond_text b) ≤ 1
unfolding bond_text
bond_short bond.Elided = omega arith
bond_short bond.Single = omega arith
bond_short bond.Double = omega arith
bond_short bond.Triple = omega arith
bond_short bond.Quadruple = omega arith
bond_short bond.Aromatic = omega arith
bond_short bond.Up = omega arith
bond_short bond.Down = omega arith

pub rnum_short : (n : ℕ) → length (rnum_text n) ≤ 3
unfolding rnum_text
rnum_short n = go (ltb n 100) refl
  where
    go : (t : Bool) → ltb n 100 ≡ t → length (pick (ltb n 10) ((byte "0" + n) ∷ []) (pick t (byte "%" ∷ digits n) [])) ≤ 3
    go true e = either_short 3 (ltb n 10) _ _ (omega arith) (omega (arith, pair_short n (ltb-true n 100 e)))
    go false e = either_short 3 (ltb n 10) _ _ (omega arith) (omega arith)
