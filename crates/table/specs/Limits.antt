-- How large a label job may be, and for how much of it a table has room. Each limit is defined here and nowhere else.
use Rattle.std.specs.Prelude.{◌≡◌, ℕ, ◌/◌, ◌≤◌, nat_lt}
use Rattle.feature.specs.Pick.{pick}
use Rattle.table.specs.Records.{atom_words, bond_words}

abbrev pub text_limit : ℕ
text_limit = 8192

abbrev pub atom_limit : ℕ
atom_limit = 1024

abbrev pub bond_limit : ℕ
bond_limit = 2304

abbrev pub branch_limit : ℕ
branch_limit = 128

-- how many ring numbers there are: 0 to 99
abbrev pub ring_number_count : ℕ
ring_number_count = 100

-- the lesser of a limit and what was lent
unfoldable pub lesser_of : ℕ → ℕ → ℕ
lesser_of limit lent = pick (nat_lt lent limit) lent limit

pub record RoomOf (limit lent r : ℕ) : Type 0 where
  pub is : r ≡ lesser_of limit lent
  pub most : r ≤ limit
  pub held : r ≤ lent

-- how many atoms there is a place for in a table of so many words, and how many bond entries there is a slot for
abbrev pub places_in : ℕ → ℕ
places_in la = lesser_of atom_limit (la / atom_words)

abbrev pub bond_slots_in : ℕ → ℕ
bond_slots_in lb = lesser_of bond_limit (lb / bond_words)
