-- The graph that tables of words hold, as a walk asks for it. Words that stand for no atom or bond were refused before (17);
-- so that the definitions are total they are read as a star, and as an elided bond.
use Rattle.std.specs.Prelude.{ℕ, ◌+◌, ◌*◌, List, get_or}
use Rattle.feature.specs.Bonds.{kind_of, sure_kind}
use Rattle.feature.specs.declared.atom_kind.AtomKind.{AtomKind}
use Rattle.feature.specs.declared.atom_kind.AtomKind.TheVariants.{Star}
use Rattle.feature.specs.declared.bond_kind.BondKind.{BondKind}
use Rattle.std.specs.Prelude.{None, Option, Some}
use Rattle.table.specs.Records.{atom_words, bond_words}
use Rattle.walk_entry.specs.declared.graph.Graph as tables
use Rattle.packing.specs.Words.{load_at}
use Rattle.table.specs.Records.{degree_in}

-- a bond entry: its kind and its target
pub record BondEntry : Type 0 where
  pub kind : BondKind
  pub to : ℕ

-- how many atoms, their records, all bond entries, and where each atom's entries begin among these
pub record Graph : Type 0 where
  pub size : ℕ
  pub atoms : List ℕ
  pub bonds : List ℕ
  pub first : List ℕ

abbrev pub graph : ℕ → List ℕ → List ℕ → List ℕ → Graph
graph n atoms bonds first = record { size = n; atoms = atoms; bonds = bonds; first = first }

-- the graph that code holds
abbrev pub seen : tables.Graph → Graph
seen g = graph g.size g.atoms.now g.bonds.now g.first.now

abbrev pub entry_to : BondKind → ℕ → BondEntry
entry_to k t = record { kind = k; to = t }

unfoldable pub kind_or : Option AtomKind → AtomKind
kind_or (Some k) = k
kind_or None = Star

-- the entry whose first word is at a place
abbrev pub entry_at : List ℕ → ℕ → BondEntry
entry_at bonds e = entry_to (sure_kind (kind_of (get_or bonds e 0))) (get_or bonds (e + 1) 0)

-- the kind of atom a
unfoldable pub kind_in : List ℕ → ℕ → AtomKind
kind_in atoms a = kind_or (load_at atoms (a * atom_words))

abbrev pub kind_at : Graph → ℕ → AtomKind
kind_at g a = kind_in g.atoms a

-- how many bond entries it has
abbrev pub degree_at : Graph → ℕ → ℕ
degree_at g a = degree_in g.atoms a

-- the entry i of atom a
unfoldable pub bond_in : List ℕ → List ℕ → ℕ → ℕ → BondEntry
bond_in bonds first a i = entry_at bonds ((get_or first a 0 + i) * bond_words)

abbrev pub bond_of : Graph → ℕ → ℕ → BondEntry
bond_of g a i = bond_in g.bonds g.first a i
