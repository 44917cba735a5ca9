-- Which kinds of atom survive writing and rereading: those whose text, read, is the kind again. The others are what the
-- slips of the texts lose.
use Rattle.std.specs.Prelude.{ℕ, ◌+◌, ◌-◌, ◌≡◌, List, [], ◌∷◌, Bool, true, false, length, eqb}
use Rattle.feature.specs.Pick.{pick, both, either, neither}
use Rattle.feature.specs.Text.{byte}
use Rattle.feature.specs.Names.{sym_cs}
use Rattle.feature.specs.Kinds.{neutral_charge, al, tb, oh, bracket_in_range, in_range}
use Rattle.feature.specs.declared.atom_kind.BracketAtom.{BracketAtom}
use Rattle.feature.specs.declared.atom_kind.AtomKind.{AtomKind}
use Rattle.feature.specs.declared.atom_kind.AtomKind.TheVariants.{Star, Aliphatic, Aromatic, Bracket}
use Rattle.spell.specs.Spell.{atom_text}
use Rattle.read_token.specs.Scan.{atom_at}
use Rattle.std.specs.Prelude.{Ok, Some}

-- caesium is written as actinium
unfoldable pub symbol_survives : ℕ → Bool
symbol_survives y = neither (eqb y sym_cs)

-- AL1 and AL2 are written as TH1 and TH2, TB20 and OH3 as TH1, OH14 as OH6
unfoldable pub configuration_survives : ℕ → Bool
configuration_survives c =
    pick (eqb c (al + 1)) false
    (pick (eqb c (al + 2)) false
    (pick (eqb c (tb + 20)) false
    (pick (eqb c (oh + 3)) false
    (pick (eqb c (oh + 14)) false
    true))))

-- H0 is written as no hydrogens
unfoldable pub hydrogens_survive : ℕ → Bool
hydrogens_survive h = neither (eqb h 0)

-- 0 is written as no charge, +5 with a blank in front, and "+10" and "-10" are read as +1 and -1 with a digit left over
unfoldable pub charge_survives : ℕ → Bool
charge_survives q =
    pick (eqb q neutral_charge) false
    (pick (eqb q (neutral_charge + 5)) false
    (pick (eqb q (neutral_charge + 10)) false
    (pick (eqb q (neutral_charge - 10)) false
    true)))

-- the fields that a text may lose; isotope and map always survive
unfoldable pub fields_survive : BracketAtom → Bool
fields_survive b =
    both (symbol_survives b.symbol)
    (both (configuration_survives b.configuration)
    (both (hydrogens_survive b.hydrogens)
    (charge_survives b.charge)))

-- the test: a kind that stands for an atom, and of a bracket atom fields that survive
unfoldable pub survives : AtomKind → Bool
survives Star = true
survives (Aliphatic n) = in_range (Aliphatic n)
survives (Aromatic n) = in_range (Aromatic n)
survives (Bracket b) = both (bracket_in_range b) (fields_survive b)

-- what may come after an organic atom: "B" and "C" look at the next byte, for "Br" and "Cl". No byte that can follow an
-- atom in a line is one of the two
unfoldable pub can_follow : List ℕ → Bool
can_follow [] = true
can_follow (x ∷ xs) = neither (either (eqb x (byte "l")) (eqb x (byte "r")))

-- what the test means: the text, read alone, is the kind, to its end
abbrev pub Survives : AtomKind → Type 0
Survives k = atom_at (atom_text k) 0 ≡ Ok (Some (k, length (atom_text k)))
