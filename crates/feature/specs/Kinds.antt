-- An atom's kind: which numbers stand for one, and what turning its mark makes of it.
use Rattle.std.specs.Prelude.{ℕ, Bool, true, false, ltb, leb, eqb}
use Rattle.feature.specs.Pick.{pick}
use Rattle.feature.specs.Names.{symbols}
use Rattle.feature.specs.declared.atom_kind.BracketAtom.{BracketAtom}
use Rattle.feature.specs.declared.atom_kind.AtomKind.{AtomKind}
use Rattle.feature.specs.declared.atom_kind.AtomKind.TheVariants.{Star, Aliphatic, Aromatic, Bracket}
use Rattle.std.specs.Prelude.{None, Option, Some}

abbrev pub aliphatic_count : ℕ
aliphatic_count = 12

abbrev pub aromatic_count : ℕ
aromatic_count = 6

abbrev pub no_number : ℕ
no_number = 1000

abbrev pub no_hydrogens : ℕ
no_hydrogens = 10

abbrev pub neutral_charge : ℕ
neutral_charge = 15

abbrev pub no_charge : ℕ
no_charge = 31

abbrev pub no_configuration : ℕ
no_configuration = 0

abbrev pub th1 : ℕ
th1 = 1

abbrev pub th2 : ℕ
th2 = 2

-- a template's configurations are its base and their number, from 1
abbrev pub al : ℕ
al = 2

abbrev pub sp : ℕ
sp = 4

abbrev pub tb : ℕ
tb = 7

abbrev pub oh : ℕ
oh = 27

abbrev pub configurations : ℕ
configurations = 58

abbrev pub bracket_of_six : ℕ → ℕ → ℕ → ℕ → ℕ → ℕ → BracketAtom
bracket_of_six i y c h q m = record { isotope = i; symbol = y; configuration = c; hydrogens = h; charge = q; map = m }

unfoldable pub bracket_in_range : BracketAtom → Bool
bracket_in_range b =
    pick (ltb no_number b.isotope) false
    (pick (leb symbols b.symbol) false
    (pick (leb configurations b.configuration) false
    (pick (ltb no_hydrogens b.hydrogens) false
    (pick (ltb no_charge b.charge) false
    (pick (ltb no_number b.map) false
    true)))))

unfoldable pub in_range : AtomKind → Bool
in_range Star = true
in_range (Aliphatic n) = ltb n aliphatic_count
in_range (Aromatic n) = ltb n aromatic_count
in_range (Bracket b) = bracket_in_range b

abbrev pub with_configuration : BracketAtom → ℕ → BracketAtom
with_configuration b c = bracket_of_six b.isotope b.symbol c b.hydrogens b.charge b.map

-- a mark on an atom that bears hydrogen is turned: TH1 and TH2 are each other's, and any other can't be
unfoldable pub invert_bracket : BracketAtom → Option AtomKind
invert_bracket b =
    pick (eqb b.configuration no_configuration) (Some (Bracket b))
    (pick (eqb b.hydrogens no_hydrogens) (Some (Bracket b))
    (pick (eqb b.hydrogens 0) (Some (Bracket b))
    (pick (eqb b.configuration th1) (Some (Bracket (with_configuration b th2)))
    (pick (eqb b.configuration th2) (Some (Bracket (with_configuration b th1)))
    None))))

unfoldable pub invert_of : AtomKind → Option AtomKind
invert_of Star = Some Star
invert_of (Aliphatic n) = Some (Aliphatic n)
invert_of (Aromatic n) = Some (Aromatic n)
invert_of (Bracket b) = invert_bracket b

-- the kind with its mark turned, or as it is where the mark can't be
unfoldable pub turned_or : AtomKind → Option AtomKind → AtomKind
turned_or k (Some t) = t
turned_or k None = k
