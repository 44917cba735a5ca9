-- The round trip. Take a graph with at least one atom, every atom of a kind that survives writing and rereading alone, and no
-- configuration but TH1 or TH2. If it is written without refusal (so it has no self-bond, at most one bond between two atoms, and
-- each bond is held at both ends as the other's reverse) and the line is within the reader's limits and lent room, reading the
-- line back succeeds and gives that graph renumbered in walk order. Each non-root atom has its parent bond moved to the front,
-- the other bonds in order; a TH mark is toggled exactly if the atom bears hydrogen and its parent bond was at an odd index.
-- Nothing else differs.
--
-- The graph that comes back is a defined one (`renumbered`), and what the reading leaves is an equation: 0 with the counts, and both
-- tables whole. Writing, the walk order and reading are what the public calls promise: `write_plain`, `order_plain` and `read_text`.
use Rattle.std.specs.Prelude.{ℕ, ◌/◌, ◌≤◌, ◌<◌, ◌≡◌, List, false, length, get_or, take}
use Rattle.table.specs.Records.{atom_words, bond_words}
use Rattle.table.specs.Limits.{text_limit, atom_limit, bond_limit, lesser_of}
use Rattle.survive.specs.Survive.{Survives}
use Rattle.read_line.specs.Parse.{parse}
use Rattle.builder_meaning.specs.Sketch.{Node, atom_table, bond_table, padded}
use Rattle.std.specs.Prelude.{Ok}
use Rattle.read.specs.Read.{graph_size}
use Rattle.read.specs.declared.ReadError.TheVariants as answer
use Rattle.read.specs.Read.{Said, said}
use Rattle.read.specs.Line.{read_text}
use Rattle.walk_entry.specs.Graph.{Graph, kind_at}
use Rattle.write.specs.Write.{graph_of, write_leaves}
use Rattle.write.specs.Order.{Order}
use Rattle.write.specs.Plain.{write_plain, order_plain}
use Rattle.trip_graph.specs.Marks.{Tetrahedral}
use Rattle.trip_graph.specs.Renumber.{Numbering, Renumbers}
use Rattle.trip_graph.specs.Renumbered.{Numbers, renumbered}
use Rattle.read_line.specs.Events.{has_nest}

-- ---- what is asked
-- of the graph: at least one atom, and every atom of a kind that survives, with no configuration but TH1 or TH2
pub record Plain (g : Graph) : Type 0 where
  pub some : 1 ≤ g.size
  pub survive : (a : ℕ) → a < g.size → Survives (kind_at g a)
  pub marks : (a : ℕ) → a < g.size → Tetrahedral (kind_at g a)

-- of the line: no longer than a text may be, no branch too many in it, and room lent for n atoms and m bond entries
pub record Readable (line : List ℕ) (n m la lb : ℕ) : Type 0 where
  pub short : length line ≤ text_limit
  pub shallow : has_nest (parse line) ≡ false
  pub atoms : n ≤ lesser_of atom_limit (la / atom_words)
  pub bonds : m ≤ lesser_of bond_limit (lb / bond_words)

-- ---- what is said
-- what a reading that made these atoms says of n atoms and m bond entries, and leaves in tables of la and lb words: the words of the
-- atoms, the words of their entries, and zeros after them up to the end
abbrev pub read_as : ℕ → ℕ → ℕ → ℕ → List Node → Said
read_as n m la lb ns = said (Ok (graph_size n m)) (padded la (atom_table ns)) (padded lb (bond_table ns))

-- the numbers in the tables of a walk order
abbrev pub by_order : Order → Numbers
by_order o =
    record { atom = λ v. get_or o.walked v 0; number = λ a. get_or o.number a 0; parent = λ a. get_or o.back a 0 }

-- the graph of tables handed in for writing, renumbered by its walk order
abbrev pub back_of : List ℕ → ℕ → List ℕ → ℕ → List Node
back_of atoms n bonds m = renumbered (graph_of n atoms bonds) (by_order (order_plain n n n atoms n bonds m))

-- the demand of one job: a write into a lent output of so many bytes, and a reading into la and lb words
abbrev pub RoundTrip : ℕ → List ℕ → ℕ → List ℕ → ℕ → ℕ → List ℕ → ℕ → ℕ → Type 0
RoundTrip room atoms n bonds m len out la lb =
    Plain (graph_of n atoms bonds) → write_plain room atoms n bonds m ≡ write_leaves (Ok len) out → Readable (take len out) n m la lb
    → read_text (take len out) la lb ≡ read_as n m la lb (back_of atoms n bonds m)

-- The corollary on two jobs: two such graphs with the same line have the same renumbering. Of the line it is asked that no branch in
-- it is too many; nothing of its length, and no room is lent.
abbrev pub OneLine : ℕ → List ℕ → ℕ → List ℕ → ℕ → ℕ → List ℕ → ℕ → List ℕ → ℕ → List ℕ → ℕ → ℕ → List ℕ → Type 0
OneLine r1 a1 n1 b1 m1 l1 o1 r2 a2 n2 b2 m2 l2 o2 =
    Plain (graph_of n1 a1 b1) → Plain (graph_of n2 a2 b2) → write_plain r1 a1 n1 b1 m1 ≡ write_leaves (Ok l1) o1 → write_plain r2 a2 n2 b2 m2 ≡ write_leaves (Ok l2) o2
    → take l1 o1 ≡ take l2 o2 → has_nest (parse (take l1 o1)) ≡ false
    → back_of a1 n1 b1 m1 ≡ back_of a2 n2 b2 m2

-- ---- what follows
-- Looked at as a walk looks at tables, the graph h is g renumbered: the numbers are one-to-one and onto, and each atom of h has the
-- kind and the entries of the atom of g with its number.
pub record Same (g h : Graph) (p : Numbers) : Type 0 where
  pub numbers : Numbering g p
  pub renumbers : Renumbers g h p
