-- What the read call leaves, in the desk's numbers: its answer as a number with the values that it carries, and both tables.
-- The promise of the read call is stated over this.
use Rattle.std.specs.Prelude.{ℕ, List, [], ◌∷◌}
use Rattle.desk_numbers.specs.Numbers.{Told, told, done, end_of_line, character, join, rnum, inversion, text_too_long, atom_room, bond_room, nesting, no_atom}
use Rattle.std.specs.Prelude.{Err, Ok}
use Rattle.read.specs.Read.{Answer}
use Rattle.read.specs.declared.ReadError.TheVariants.{EndOfLine, Character, Join, Rnum, Inversion, TextTooLong, AtomRoom, BondRoom, Nesting, NoAtom}
use Rattle.read.specs.Read.{Said}

unfoldable pub read_told : Answer → Told
read_told (Ok size) = told done (size.atoms ∷ size.entries ∷ [])
read_told (Err EndOfLine) = told end_of_line []
read_told (Err (Character place)) = told character (place ∷ [])
read_told (Err (Join closing opening)) = told join (closing ∷ opening ∷ [])
read_told (Err (Rnum number)) = told rnum (number ∷ [])
read_told (Err (Inversion atom)) = told inversion (atom ∷ [])
read_told (Err (TextTooLong size)) = told text_too_long (size ∷ [])
read_told (Err (AtomRoom place)) = told atom_room (place ∷ [])
read_told (Err (BondRoom place)) = told bond_room (place ∷ [])
read_told (Err (Nesting place)) = told nesting (place ∷ [])
read_told (Err NoAtom) = told no_atom []

pub record ReadNumbered : Type 0 where
  pub answer : Told
  pub atoms : List ℕ
  pub bonds : List ℕ

abbrev pub read_in_numbers : Said → ReadNumbered
read_in_numbers s = record { answer = read_told s.answer; atoms = s.atoms; bonds = s.bonds }
