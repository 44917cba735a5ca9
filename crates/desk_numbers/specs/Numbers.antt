-- The desk's numbers, as the scope's table "When the desk says no" has them, and an answer in its words: a number with the
-- values that it carries. Where a call answers an enum, its promise is stated over this, by a definition that gives each case
-- of the enum its number and its values.
use Rattle.std.specs.Prelude.{ℕ, List}

pub record Told : Type 0 where
  pub number : ℕ
  pub values : List ℕ

abbrev pub told : ℕ → List ℕ → Told
told n vs = record { number = n; values = vs }

abbrev pub done : ℕ
done = 0

abbrev pub end_of_line : ℕ
end_of_line = 1

abbrev pub character : ℕ
character = 2

abbrev pub join : ℕ
join = 3

abbrev pub rnum : ℕ
rnum = 4

abbrev pub unknown_target : ℕ
unknown_target = 5

abbrev pub loop : ℕ
loop = 6

abbrev pub half_bond : ℕ
half_bond = 7

abbrev pub duplicate_bond : ℕ
duplicate_bond = 8

abbrev pub incompatible_bond : ℕ
incompatible_bond = 9

abbrev pub inversion : ℕ
inversion = 10

abbrev pub ring_numbers : ℕ
ring_numbers = 11

abbrev pub text_too_long : ℕ
text_too_long = 12

abbrev pub atom_room : ℕ
atom_room = 13

abbrev pub bond_room : ℕ
bond_room = 14

abbrev pub nesting : ℕ
nesting = 15

abbrev pub out_room : ℕ
out_room = 16

abbrev pub bad_table : ℕ
bad_table = 17

abbrev pub no_atom : ℕ
no_atom = 18

abbrev pub overpop : ℕ
overpop = 19
