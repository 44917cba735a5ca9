-- Whether a walk can enter a new atom, and as what it is said. Its entries are scanned from the last: each entry back to the
-- source toggles the mark at an even index (10 if it can't), and a second such entry is 8; then 7 if there was none, 9 if it
-- isn't the reverse.
use Rattle.std.specs.Prelude.{ℕ, zero, suc, ◌-◌, ◌%◌, List, Bool, true, false, eqb}
use Rattle.feature.specs.Pick.{pick, both}
use Rattle.feature.specs.Kinds.{invert_of}
use Rattle.feature.specs.Bonds.{same_kind, reverse_of}
use Rattle.feature.specs.declared.atom_kind.AtomKind.{AtomKind}
use Rattle.std.specs.Prelude.{None, Option, Some}
use Rattle.feature.specs.declared.bond_kind.BondKind.{BondKind}
use Rattle.walk_entry.specs.declared.entry.Back.{Back}
use Rattle.walk_entry.specs.declared.entry.Back.TheVariants.{Found, Twice, Fixed}
use Rattle.std.specs.Prelude.{Err, Ok, Result}
use Rattle.walk_entry.specs.declared.WalkError.{WalkError}
use Rattle.walk_entry.specs.declared.WalkError.TheVariants.{DuplicateBond, HalfBond, IncompatibleBond, Inversion}
use Rattle.walk_entry.specs.Graph.{Graph, kind_at, degree_at, bond_in, bond_of}
use Rattle.feature.specs.Kinds.{turned_or}

-- ---- the mark of an atom
-- whether its mark can't be turned
unfoldable pub is_refused : Option AtomKind → Bool
is_refused (Some k) = false
is_refused None = true

unfoldable pub is_fixed : AtomKind → Bool
is_fixed k = is_refused (invert_of k)

unfoldable pub even : ℕ → Bool
even n = eqb (n % 2) 0

-- an atom as it is said: `back` is the place, from 1, of its entry back to the atom that it was reached from, 0 for a root
unfoldable pub said_as : AtomKind → ℕ → AtomKind
said_as k back = pick (even back) k (turned_or k (invert_of k))

-- ---- the entries of a new atom t that lead back to the source s: n of them are left, `back` is the place of the one found
unfoldable pub scan_in : List ℕ → List ℕ → ℕ → ℕ → Bool → ℕ → ℕ → Back
scan_in bonds first t s fixed zero back = Found back
scan_in bonds first t s fixed (suc i) back =
    pick (eqb (bond_in bonds first t i).to s)
    (pick (both fixed (even i)) Fixed (pick (eqb back 0) (scan_in bonds first t s fixed i (suc i)) Twice))
    (scan_in bonds first t s fixed i back)

abbrev pub scan_of : Graph → ℕ → ℕ → Back
scan_of g t s = scan_in g.bonds g.first t s (is_fixed (kind_at g t)) (degree_at g t) 0

-- whether a new atom t can be entered from s by a bond of kind k, by what its entries back are
unfoldable pub judged_back : Graph → BondKind → ℕ → ℕ → Back → Result ℕ WalkError
judged_back g k s t Fixed = Err (Inversion t)
judged_back g k s t Twice = Err (DuplicateBond s t)
judged_back g k s t (Found b) =
    pick (eqb b 0) (Err (HalfBond s t))
    (pick (same_kind (bond_of g t (b - 1)).kind (reverse_of k)) (Ok b) (Err (IncompatibleBond t s)))

unfoldable pub way_of : Graph → BondKind → ℕ → ℕ → Result ℕ WalkError
way_of g k s t = judged_back g k s t (scan_of g t s)
