-- What rereading a written line can be answered, whatever room is lent.
use Rattle.std.specs.Prelude.{ℕ, ◌/◌, ◌<◌, ◌≡◌, List, Bool, true, false, length}
use Rattle.table.specs.Records.{atom_words, bond_words}
use Rattle.table.specs.Limits.{text_limit, atom_limit, bond_limit, lesser_of}
use Rattle.read_line.specs.Parse.{parse}
use Rattle.read_line.specs.Events.{has_nest}
use Rattle.std.specs.Prelude.{Err, Ok}
use Rattle.read.specs.Read.{graph_size}
use Rattle.read.specs.Read.{Answer}
use Rattle.read.specs.declared.ReadError.TheVariants.{EndOfLine, Character, Join, Rnum, Inversion, TextTooLong, AtomRoom, BondRoom, Nesting, NoAtom}

-- A line of n atoms and m bond entries, read into la and lb words: all of them are read, or the line is too long (12), or there is
-- no room for so many atoms (13) or entries (14), or it has a branch too many (15). Each refusal comes with its condition; the
-- place that 13, 14 and 15 carry is not said here.
pub data Reread (line : List ℕ) (n m la lb : ℕ) : Answer → Type 0 where
  whole : Reread line n m la lb (Ok (graph_size n m))
  long : text_limit < length line → Reread line n m la lb (Err (TextTooLong (length line)))
  few_atoms : (place : ℕ) → lesser_of atom_limit (la / atom_words) < n → Reread line n m la lb (Err (AtomRoom place))
  few_bonds : (place : ℕ) → lesser_of bond_limit (lb / bond_words) < m → Reread line n m la lb (Err (BondRoom place))
  deep : (place : ℕ) → has_nest (parse line) ≡ true → Reread line n m la lb (Err (Nesting place))

-- whether an answer is about ring numbers: the two ends of a ring bond disagree (3), or a number is not closed (4)
unfoldable pub blames_ring : Answer → Bool
blames_ring (Err (Join a b)) = true
blames_ring (Err (Rnum j)) = true
blames_ring (Ok size) = false
blames_ring (Err EndOfLine) = false
blames_ring (Err (Character place)) = false
blames_ring (Err (Inversion a)) = false
blames_ring (Err (TextTooLong c)) = false
blames_ring (Err (AtomRoom place)) = false
blames_ring (Err (BondRoom place)) = false
blames_ring (Err (Nesting place)) = false
blames_ring (Err NoAtom) = false
