-- The text of an atom, a bond and a ring number, as purr's Display has them: element.rs, configuration.rs, charge.rs,
-- virtual_hydrogen.rs, number.rs, atom_kind.rs, bond_kind.rs, rnum.rs. Ring number 73 is written as itself.
use Rattle.std.specs.Prelude.{ℕ, ◌+◌, ◌-◌, ◌/◌, ◌%◌, ◌≤◌, ◌≡◌, List, [], ◌∷◌, ◌++◌, length, get_or, ltb, leb, eqb}
use Rattle.std.proofs.lemmas.List.Edits.{sets}
use Rattle.feature.specs.Pick.{pick}
use Rattle.feature.specs.Text.{byte, bytes, letter_step}
use Rattle.feature.specs.Names.{names, sym_ac, sym_cs}
use Rattle.feature.specs.Kinds.{aliphatic_count, no_number, no_hydrogens, neutral_charge, no_charge, no_configuration, th2, al, sp, tb, oh, in_range}
use Rattle.feature.specs.declared.atom_kind.BracketAtom.{BracketAtom}
use Rattle.feature.specs.declared.atom_kind.AtomKind.{AtomKind}
use Rattle.feature.specs.declared.atom_kind.AtomKind.TheVariants.{Star, Aliphatic, Aromatic, Bracket}
use Rattle.feature.specs.declared.bond_kind.BondKind.{BondKind}
use Rattle.feature.specs.declared.bond_kind.BondKind.TheVariants as bond

-- bytes laid from a place on, as far as there is room, the rest untouched; r is the place after them, at most n further
pub record Laid (n : ℕ) (l : List ℕ) (at : ℕ) (bs m : List ℕ) (r : ℕ) : Type 0 where
  pub is : m ≡ sets l at bs
  pub next : r ≡ at + length bs
  pub small : r ≤ at + n

-- a digit as a byte
abbrev pub figure : ℕ → ℕ
figure d = byte "0" + d

-- a number below 1,000, with no zeros in front
unfoldable pub digits : ℕ → List ℕ
digits n =
    pick (ltb n 10) (figure n ∷ [])
    (pick (ltb n 100) (figure (n / 10) ∷ figure (n % 10) ∷ [])
    (figure (n / 100) ∷ figure (n / 10 % 10) ∷ figure (n % 10) ∷ []))

unfoldable pub number_text : ℕ → List ℕ
number_text i = pick (eqb i no_number) [] (digits i)

-- a symbol's name in the table
unfoldable pub name_text : ℕ → List ℕ
name_text y =
    pick (eqb (get_or names y 0 % letter_step) 0) ((get_or names y 0 / letter_step) ∷ [])
    ((get_or names y 0 / letter_step) ∷ (get_or names y 0 % letter_step - 1) ∷ [])

-- caesium as actinium, a slip
unfoldable pub symbol_text : ℕ → List ℕ
symbol_text y = pick (eqb y sym_cs) (name_text sym_ac) (name_text y)

-- "@", two letters and a number
unfoldable pub template_text : ℕ → ℕ → ℕ → List ℕ
template_text a b n = byte "@" ∷ a ∷ b ∷ digits n

-- SP1 to SP3, TB1 to TB20, OH1 to OH30; TB20 and OH3 as "@TH1" and OH14 as "@OH6", slips
unfoldable pub marked_text : ℕ → List ℕ
marked_text c =
    pick (leb c tb) (template_text (byte "S") (byte "P") (c - sp))
    (pick (eqb c (tb + 20)) (template_text (byte "T") (byte "H") 1)
    (pick (leb c oh) (template_text (byte "T") (byte "B") (c - tb))
    (pick (eqb c (oh + 3)) (template_text (byte "T") (byte "H") 1)
    (pick (eqb c (oh + 14)) (template_text (byte "O") (byte "H") 6)
    (template_text (byte "O") (byte "H") (c - oh))))))

-- TH1 and TH2 as "@" and "@@", and so AL1 and AL2, a slip
unfoldable pub configuration_text : ℕ → List ℕ
configuration_text c =
    pick (eqb c no_configuration) []
    (pick (ltb sp c) (marked_text c)
    (pick (eqb c th2) (bytes "@@")
    (pick (eqb c (al + 2)) (bytes "@@")
    (bytes "@"))))

-- H0 as nothing, a slip
unfoldable pub hydrogens_text : ℕ → List ℕ
hydrogens_text h =
    pick (eqb h no_hydrogens) []
    (pick (eqb h 0) []
    (pick (eqb h 1) (bytes "H")
    (byte "H" ∷ figure h ∷ [])))

-- a charge of 0 as nothing, and one of 5 with a blank in front, slips
unfoldable pub charge_text : ℕ → List ℕ
charge_text q =
    pick (eqb q no_charge) []
    (pick (eqb q neutral_charge) []
    (pick (eqb q (neutral_charge + 1)) (bytes "+")
    (pick (eqb q (neutral_charge - 1)) (bytes "-")
    (pick (eqb q (neutral_charge + 5)) (bytes " +5")
    (pick (ltb neutral_charge q) (byte "+" ∷ digits (q - neutral_charge))
    (byte "-" ∷ digits (neutral_charge - q)))))))

unfoldable pub map_text : ℕ → List ℕ
map_text m = pick (eqb m no_number) [] (byte ":" ∷ digits m)

unfoldable pub bracket_text : BracketAtom → List ℕ
bracket_text b =
    byte "[" ∷ (number_text b.isotope ++ (symbol_text b.symbol ++ (configuration_text b.configuration ++ (hydrogens_text b.hydrogens ++ (charge_text b.charge ++ (map_text b.map ++ bytes "]"))))))

-- the symbols of B C N O S P F Cl Br I At Ts, then b c n o p s
unfoldable pub organic_symbols : List ℕ
organic_symbols = 9 ∷ 16 ∷ 64 ∷ 73 ∷ 93 ∷ 76 ∷ 34 ∷ 21 ∷ 15 ∷ 48 ∷ 7 ∷ 110 ∷ 120 ∷ 121 ∷ 122 ∷ 123 ∷ 124 ∷ 125 ∷ []

unfoldable pub kind_text : AtomKind → List ℕ
kind_text Star = bytes "*"
kind_text (Aliphatic n) = name_text (get_or organic_symbols n 0)
kind_text (Aromatic n) = name_text (get_or organic_symbols (aliphatic_count + n) 0)
kind_text (Bracket b) = bracket_text b

-- numbers that stand for no atom have no text
unfoldable pub atom_text : AtomKind → List ℕ
atom_text k = pick (in_range k) (kind_text k) []

unfoldable pub bond_text : BondKind → List ℕ
bond_text bond.Elided = []
bond_text bond.Single = bytes "-"
bond_text bond.Double = bytes "="
bond_text bond.Triple = bytes "#"
bond_text bond.Quadruple = bytes "$"
bond_text bond.Aromatic = bytes ":"
bond_text bond.Up = bytes "/"
bond_text bond.Down = bytes "\\"

-- a digit, or "%" and two; above 99 nothing
unfoldable pub rnum_text : ℕ → List ℕ
rnum_text n = pick (ltb n 10) (figure n ∷ []) (pick (ltb n 100) (byte "%" ∷ digits n) [])
