-- Steps of the proofs: no public claim rests on these definitions.
-- The ranges of a kind's numbers as facts, and where the names of one first byte begin.
use Rattle.std.specs.Prelude.{ℕ, ◌/◌, ◌≤◌, ◌<◌, List, map, ltb}
use Rattle.feature.specs.Pick.{pick}
use Rattle.feature.specs.Names.{symbols, names, place_of}
use Rattle.feature.specs.declared.atom_kind.BracketAtom.{BracketAtom}
use Rattle.feature.specs.declared.atom_kind.AtomKind.{AtomKind}
use Rattle.feature.specs.declared.atom_kind.AtomKind.TheVariants.{Star, Aliphatic, Aromatic, Bracket}
use Rattle.feature.specs.Kinds.{aliphatic_count, aromatic_count, no_number, no_hydrogens, no_charge, configurations}
use Rattle.feature.specs.Text.{letter_step}

-- a bracket atom whose numbers are in range, as `bracket_in_range` tests
pub record Within (b : BracketAtom) : Type 0 where
  pub isotope : b.isotope ≤ no_number
  pub symbol : b.symbol < symbols
  pub configuration : b.configuration < configurations
  pub hydrogens : b.hydrogens ≤ no_hydrogens
  pub charge : b.charge ≤ no_charge
  pub map : b.map ≤ no_number

-- and a kind, as `in_range` tests
abbrev pub GoodKind : AtomKind → Type 0
GoodKind Star = Unit {0}
GoodKind (Aliphatic n) = n < aliphatic_count
GoodKind (Aromatic n) = n < aromatic_count
GoodKind (Bracket b) = Within b

-- the first bytes of the names
unfoldable pub first_bytes : List ℕ
first_bytes = map (λ (x : ℕ). x / letter_step) names

-- the place of the first of the names that begin with a byte, or the star's where none does
unfoldable pub head_of : ℕ → ℕ
head_of a = pick (ltb (place_of a first_bytes) symbols) (place_of a first_bytes) 0
