-- Steps of the proofs: no public claim rests on these definitions.
-- The entries of two atoms for each other, as they are scanned.
use Rattle.std.specs.Prelude.{ℕ, ◌-◌, Bool, true, false, eqb}
use Rattle.feature.specs.Pick.{pick}
use Rattle.feature.specs.Bonds.{same_kind, reverse_of}
use Rattle.feature.specs.declared.bond_kind.BondKind.{BondKind}
use Rattle.walk_entry.specs.declared.entry.Back.{Back}
use Rattle.walk_entry.specs.declared.entry.Back.TheVariants.{Found, Twice, Fixed}
use Rattle.std.specs.Prelude.{Err, Ok, Result}
use Rattle.walk_entry.specs.declared.WalkError.{WalkError}
use Rattle.walk_entry.specs.declared.WalkError.TheVariants.{DuplicateBond, HalfBond, IncompatibleBond}
use Rattle.walk_entry.specs.Graph.{Graph, degree_at, bond_of}
use Rattle.walk_entry.specs.Ways.{scan_in}

-- the entries of a that lead to b, no mark asked about: the place of the one, from 1, 0 for none, or that there are two
abbrev pub scanned_to : Graph → ℕ → ℕ → Back
scanned_to g a b = scan_in g.bonds g.first a b false (degree_at g a) 0

unfoldable pub is_twice : Back → Bool
is_twice (Found b) = false
is_twice Twice = true
is_twice Fixed = false

-- a bond of kind k from s to t, by whether s has two entries for t, and by what the entries of t are; no scan that asks about no
-- mark comes to `Fixed`
unfoldable pub tied_by : Graph → BondKind → ℕ → ℕ → Bool → Back → Result ℕ WalkError
tied_by g k s t twice Fixed = Err (DuplicateBond s t)
tied_by g k s t twice Twice = Err (DuplicateBond s t)
tied_by g k s t twice (Found b) =
    pick (eqb b 0) (Err (HalfBond s t))
    (pick twice (Err (DuplicateBond s t))
    (pick (same_kind (bond_of g t (b - 1)).kind (reverse_of k)) (Ok b) (Err (IncompatibleBond t s))))
