-- Whether a bond can lead to an atom that was met before: each of the two atoms has to hold one entry for the other, and these two
-- have to be reverses. 7 if the target has no entry back, 8 if either atom has more than one for the other, 9 if the target's isn't
-- the reverse. All entries of both count, those that the walk has taken among them.
use Rattle.std.specs.Prelude.{ℕ, zero, suc, ◌+◌, ◌-◌, eqb, ltb}
use Rattle.feature.specs.Pick.{pick, either}
use Rattle.feature.specs.Bonds.{same_kind, reverse_of}
use Rattle.feature.specs.declared.bond_kind.BondKind.{BondKind}
use Rattle.std.specs.Prelude.{Err, Ok, Result}
use Rattle.walk_entry.specs.declared.WalkError.{WalkError}
use Rattle.walk_entry.specs.declared.WalkError.TheVariants.{DuplicateBond, HalfBond, IncompatibleBond}
use Rattle.walk_entry.specs.Graph.{Graph, degree_at, bond_of}

-- how many of the first n entries of the atom a lead to b, and the place, from 1, of the last of them, 0 if there is none
unfoldable pub leading : Graph → ℕ → ℕ → ℕ → ℕ
leading g a b zero = 0
leading g a b (suc i) = pick (eqb (bond_of g a i).to b) (leading g a b i + 1) (leading g a b i)

unfoldable pub last_leading : Graph → ℕ → ℕ → ℕ → ℕ
last_leading g a b zero = 0
last_leading g a b (suc i) = pick (eqb (bond_of g a i).to b) (suc i) (last_leading g a b i)

-- the same of all entries of a
abbrev pub count_to : Graph → ℕ → ℕ → ℕ
count_to g a b = leading g a b (degree_at g a)

abbrev pub place_to : Graph → ℕ → ℕ → ℕ
place_to g a b = last_leading g a b (degree_at g a)

-- a bond of kind k from s to t: refused, or the place of the entry of t that answers it
unfoldable pub tie_of : Graph → BondKind → ℕ → ℕ → Result ℕ WalkError
tie_of g k s t =
    pick (eqb (count_to g t s) 0) (Err (HalfBond s t))
    (pick (either (ltb 1 (count_to g t s)) (ltb 1 (count_to g s t))) (Err (DuplicateBond s t))
    (pick (same_kind (bond_of g t (place_to g t s - 1)).kind (reverse_of k)) (Ok (place_to g t s)) (Err (IncompatibleBond t s))))
