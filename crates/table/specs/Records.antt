-- How many words a record has, and where an atom's number of bond entries is: docs/PACKING.md has the table.
use Rattle.std.specs.Prelude.{ℕ, ◌+◌, ◌*◌, List, slice_index}

abbrev pub atom_words : ℕ
atom_words = 3

abbrev pub bond_words : ℕ
bond_words = 2

-- where the number of entries of atom a is
abbrev pub degree_place : ℕ → ℕ
degree_place a = a * atom_words + 2

-- how many bond entries atom a has, by its record
abbrev pub degree_in : List ℕ → ℕ → ℕ
degree_in atoms a = slice_index atoms (degree_place a)
