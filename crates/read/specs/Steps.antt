-- Steps of the proofs: no public claim rests on these definitions.
-- The read call over tables of words, in the steps of the code, and what it relies on before its work room is chosen. The work
-- room follows what was lent, since no graph has more atoms or entries than its tables have room for.
use Rattle.std.specs.Prelude.{ℕ, ◌*◌, ◌/◌, ◌≤◌, List, length, replicate, ltb, eqb, ◌≡◌}
use Rattle.feature.specs.Pick.{pick}
use Rattle.desk_numbers.specs.Numbers.{character}
use Rattle.table.specs.Records.{atom_words, bond_words}
use Rattle.table.specs.Steps.{few_atoms, few_bonds}
use Rattle.table.specs.Limits.{text_limit, atom_limit, bond_limit, lesser_of, ring_number_count}
use Rattle.builder.specs.State.{Bld, bld, fresh_builder, refused_st, entry_words}
use Rattle.builder.specs.declared.builder.Builder.{Builder}
use Rattle.builder.specs.Build.{BuildOutcome, tables, build_of}
use Rattle.read_line.specs.Events.{run}
use Rattle.read_line.specs.Parse.{parse}
use Rattle.read_line.specs.declared.line.Reached.{Reached}
use Rattle.std.specs.Prelude.{Err}
use Rattle.read.specs.declared.ReadError.TheVariants.{TextTooLong}
use Rattle.read.specs.Read.{Said, said, read_refusal, built_answer}

-- no byte may be left after a line
unfoldable pub ended_st : List ℕ → Reached → Builder
ended_st s c =
    pick (eqb c.builder.refusal 0)
    (pick (ltb c.at (length s)) (refused_st c.builder character c.at) c.builder)
    c.builder

-- what is said of a build
unfoldable pub built_said : BuildOutcome → Builder → Said
built_said o b = said (built_answer o.answer b.atoms b.entries) o.left.atoms o.left.bonds

-- the state that a text's events make of tables
unfoldable pub state_of : List ℕ → List ℕ → ℕ → List ℕ → List ℕ → List ℕ → Bld
state_of s a lb e p r =
    run (bld a e p r (fresh_builder (lesser_of atom_limit (length a / atom_words)) (lesser_of bond_limit (lb / bond_words)))) (parse s)

-- what is said of a state
unfoldable pub state_said : ℕ → Bld → Said
state_said lb b =
    pick (eqb b.st.refusal 0)
    (built_said (build_of (tables b.atoms (replicate lb 0) b.path) b.entries b.st) b.st)
    (said (read_refusal b.st.refusal b.st.carried) (replicate (length b.atoms) 0) (replicate lb 0))

-- a text within the limit, read into these tables with this work room
unfoldable pub within : List ℕ → List ℕ → ℕ → List ℕ → List ℕ → List ℕ → Said
within s a lb e p r = state_said lb (state_of s a lb e p r)

-- a text read into tables of these lengths
unfoldable pub read_of : List ℕ → ℕ → ℕ → Said
read_of s la lb =
    pick (ltb text_limit (length s)) (said (Err (TextTooLong (length s))) (replicate la 0) (replicate lb 0))
    (within s (replicate la 0) lb (replicate (bond_limit * entry_words) 0) (replicate atom_limit 0) (replicate ring_number_count 0))

-- a text within the limit, and tables of zeros
pub record Cleared (s atoms bonds : List ℕ) : Type 0 where
  pub short : length s ≤ text_limit
  pub blank : atoms ≡ replicate (length atoms) 0
  pub empty : bonds ≡ replicate (length bonds) 0

-- work room for so many atoms and so many words of entries is enough for what tables of these lengths have room for, and no more
-- than any line needs
pub record Enough (atoms entries la lb : ℕ) : Type 0 where
  pub places : lesser_of atom_limit (la / atom_words) ≤ atoms
  pub slots : lesser_of bond_limit (lb / bond_words) * entry_words ≤ entries
  pub most_atoms : atoms ≤ atom_limit
  pub most_entries : entries ≤ bond_limit * entry_words

-- tables of so many words have room for few atoms and entries
pub record Few (la lb : ℕ) : Type 0 where
  pub atoms : la / atom_words ≤ few_atoms
  pub bonds : lb / bond_words ≤ few_bonds
