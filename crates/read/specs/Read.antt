-- An answer of the read call with the tables that it leaves, and what a builder's refusal and a build are called as answers.
use Rattle.std.specs.Prelude.{ℕ, List, eqb, Result, Ok, Err}
use Rattle.feature.specs.Pick.{pick}
use Rattle.desk_numbers.specs.Numbers.{inversion, atom_room, bond_room, end_of_line, character, nesting}
use Rattle.builder.specs.Build.{Built}
use Rattle.builder.specs.declared.build.BuildError.TheVariants as built
use Rattle.builder.specs.declared.build.BuildError.{BuildError}
use Rattle.read.specs.declared.GraphSize.{GraphSize}
use Rattle.read.specs.declared.ReadError.{ReadError}
use Rattle.read.specs.declared.ReadError.TheVariants.{EndOfLine, Character, Join, Rnum, Inversion, AtomRoom, BondRoom, Nesting, NoAtom}

-- what a graph of so many atoms and bond entries has
abbrev pub graph_size : ℕ → ℕ → GraphSize
graph_size n m = record { atoms = n; entries = m }

-- what is said of a line: what its graph has, or why there is none
abbrev pub Answer : Type 0
Answer = Result GraphSize ReadError

-- an answer with the tables that it leaves
pub record Said : Type 0 where
  pub answer : Answer
  pub atoms : List ℕ
  pub bonds : List ℕ

abbrev pub said : Answer → List ℕ → List ℕ → Said
said r a b = record { answer = r; atoms = a; bonds = b }

-- what a refusal is called, with what it carries
unfoldable pub read_refusal : ℕ → ℕ → Answer
read_refusal r c =
    pick (eqb r end_of_line) (Err EndOfLine)
    (pick (eqb r character) (Err (Character c))
    (pick (eqb r inversion) (Err (Inversion c))
    (pick (eqb r atom_room) (Err (AtomRoom c))
    (pick (eqb r bond_room) (Err (BondRoom c))
    (pick (eqb r nesting) (Err (Nesting c))
    (Err NoAtom))))))

-- what a build without a graph is called
abbrev pub build_refusal : BuildError → ReadError
build_refusal (built.Join x y) = Join x y
build_refusal (built.Rnum j) = Rnum j

-- what a build of so many atoms and entries is called
unfoldable pub built_answer : Built → ℕ → ℕ → Answer
built_answer (Ok _) n m = Ok (graph_size n m)
built_answer (Err e) n m = Err (build_refusal e)
