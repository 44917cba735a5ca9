-- The read call in short, over the atoms of a line with their bonds (`Sketch`), as a person would state it.
--
-- A text over the limit is 12 with its length. Else the first refusal that the line meets, by its number: so too a byte left
-- after a whole line, which is 2 at its place. After a whole line 3 with the first failed join, else 4 with the first open
-- ring number, else 0 with how many atoms and bond entries there are, and the tables: three words an atom, two an entry, atom
-- after atom, zeros after them. Whatever is not 0 leaves zeros in both tables.
use Rattle.std.specs.Prelude.{ℕ, List, length, replicate, ltb, eqb}
use Rattle.feature.specs.Pick.{pick}
use Rattle.table.specs.Limits.{text_limit}
use Rattle.builder_meaning.specs.Sketch.{Sketch, next_number, count_of, sketch_of, finish_s, atom_table, bond_table, left_s}
use Rattle.std.specs.Prelude.{Err}
use Rattle.read.specs.Read.{Answer}
use Rattle.read.specs.declared.ReadError.TheVariants.{TextTooLong}
use Rattle.read.specs.Read.{Said, said, read_refusal, built_answer}

-- an answer that leaves zeros in tables of la and lb words
abbrev pub read_refusing : Answer → ℕ → ℕ → Said
read_refusing r la lb = said r (replicate la 0) (replicate lb 0)

-- what is said of a whole line
unfoldable pub whole_of : Sketch → ℕ → ℕ → Said
whole_of d la lb =
    said (built_answer (finish_s d) (next_number d) (count_of d.nodes))
    (left_s (finish_s d) la (atom_table d.nodes))
    (left_s (finish_s d) lb (bond_table d.nodes))

-- what is said of a line, whole or refused
unfoldable pub whole_or_refused : Sketch → ℕ → ℕ → Said
whole_or_refused d la lb =
    pick (eqb d.refusal 0) (whole_of d la lb) (read_refusing (read_refusal d.refusal d.carried) la lb)

-- a text read into tables of la and lb words
unfoldable pub read_text : List ℕ → ℕ → ℕ → Said
read_text s la lb =
    pick (ltb text_limit (length s)) (read_refusing (Err (TextTooLong (length s))) la lb) (whole_or_refused (sketch_of s la lb) la lb)
