-- Whether tables hold a graph: the first record whose numbers stand for no atom or bond, counted from 0 through all atoms and
-- then all entries (17). An atom's number of entries is bad where it goes beyond the entries that there are, and an
-- entry is bad where no atom holds it. A target beyond the atoms is not judged here: it is 5, when the walk comes to it.
use Rattle.std.specs.Prelude.{ℕ, zero, suc, ◌+◌, ◌-◌, ◌*◌, List, Bool, true, false, ltb, leb}
use Rattle.feature.specs.Pick.{pick}
use Rattle.std.specs.Prelude.{None, Option, Some}
use Rattle.feature.specs.declared.bond_kind.BondKind.{BondKind}
use Rattle.table.specs.Records.{bond_words}
use Rattle.packing.specs.Words.{is_atom, entry_stored}
use Rattle.std.specs.Prelude.{Err, Ok, Result}
use Rattle.table.specs.Records.{degree_in}

unfoldable pub is_entry : Option (BondKind × ℕ) → Bool
is_entry (Some (k, t)) = true
is_entry None = false

-- whether the record e stands for a bond
unfoldable pub bond_stands : List ℕ → ℕ → Bool
bond_stands bonds e = is_entry (entry_stored bonds (e * bond_words))

-- n atoms from a on, where those before hold so many of m entries: the first that is bad, or how many are held in all
unfoldable pub atoms_from : List ℕ → ℕ → ℕ → ℕ → ℕ → Result ℕ ℕ
atoms_from atoms m zero a held = Ok held
atoms_from atoms m (suc n) a held =
    pick (ltb (m - held) (degree_in atoms a)) (Err a)
    (pick (is_atom atoms a) (atoms_from atoms m n (a + 1) (held + degree_in atoms a))
    (Err a))

-- n entries from e on, of which the atoms hold those below `held`: the first that is bad, if any
unfoldable pub first_bad_bond : List ℕ → ℕ → ℕ → ℕ → Option ℕ
first_bad_bond bonds held zero e = None
first_bad_bond bonds held (suc n) e =
    pick (leb held e) (Some e)
    (pick (bond_stands bonds e) (first_bad_bond bonds held n (e + 1))
    (Some e))

-- a place among the entries by its place among all records, after n atoms
abbrev pub after : ℕ → Option ℕ → Option ℕ
after n None = None
after n (Some e) = Some (n + e)

unfoldable pub after_atoms : Result ℕ ℕ → List ℕ → ℕ → ℕ → Option ℕ
after_atoms (Err a) bonds n m = Some a
after_atoms (Ok held) bonds n m = after n (first_bad_bond bonds held m 0)

-- the first bad record of n atoms and m entries, if any
unfoldable pub bad_record : List ℕ → ℕ → List ℕ → ℕ → Option ℕ
bad_record atoms n bonds m = after_atoms (atoms_from atoms m n 0 0) bonds n m
