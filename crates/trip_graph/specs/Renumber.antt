-- What a graph is whose walk comes to its end, and what a builder that is told such a walk makes of it.
use Rattle.std.specs.Prelude.{ℕ, ◌≤◌, ◌<◌, ◌≡◌, ◌≢◌, get_or}
use Rattle.feature.specs.Bonds.{reverse_of}
use Rattle.feature.specs.declared.bond_kind.BondKind.TheVariants.{Elided}
use Rattle.walk_entry.specs.Graph.{BondEntry, Graph, kind_at, degree_at, bond_of, entry_to}
use Rattle.trip_graph.specs.Marks.{back_kind}
use Rattle.trip_graph.specs.Renumbered.{Numbers, entries_of}

-- ---- graphs that can be walked
-- an entry of t that leads back to a, and is the reverse of the entry e
pub record Backed (g : Graph) (a t : ℕ) (e : BondEntry) : Type 0 where
  pub place : ℕ
  pub within : place < degree_at g t
  pub leads : (bond_of g t place).to ≡ a
  pub reversed : (bond_of g t place).kind ≡ reverse_of e.kind

-- At least one atom; no self-bond; at most one bond between two atoms; each bond held at both ends as the other's reverse.
pub record Simple (g : Graph) : Type 0 where
  pub some : 1 ≤ g.size
  pub apart : (a i : ℕ) → a < g.size → i < degree_at g a → (bond_of g a i).to ≢ a
  pub once : (a i j : ℕ) → a < g.size → i < degree_at g a → j < degree_at g a → (bond_of g a i).to ≡ (bond_of g a j).to → i ≡ j
  pub backed : (a i : ℕ) → a < g.size → i < degree_at g a → Backed g a (bond_of g a i).to (bond_of g a i)

-- every target is an atom; a walk is refused with 5 where it meets one that is none
abbrev pub Known : Graph → Type 0
Known g = (a i : ℕ) → a < g.size → i < degree_at g a → (bond_of g a i).to < g.size

-- ---- what is left
-- the numbers of a walk renumber the atoms: each atom has one, the atom of each number has that number, and a parent's entry is one
-- of the atom's
pub record Numbering (g : Graph) (p : Numbers) : Type 0 where
  pub number : (a : ℕ) → a < g.size → p.number a < g.size
  pub within : (v : ℕ) → v < g.size → p.atom v < g.size
  pub atom : (a : ℕ) → a < g.size → p.atom (p.number a) ≡ a
  pub numbered : (v : ℕ) → v < g.size → p.number (p.atom v) ≡ v
  pub parent : (a : ℕ) → p.parent a ≤ degree_at g a

-- an entry with its target by its number
unfoldable pub numbered_as : (ℕ → ℕ) → BondEntry → BondEntry
numbered_as number e = entry_to e.kind (number e.to)

-- the graph h looks like g renumbered: the atom v of h is the atom that has the number v
pub record Renumbers (g h : Graph) (p : Numbers) : Type 0 where
  pub size : h.size ≡ g.size
  pub kind : (v : ℕ) → v < g.size → kind_at h v ≡ back_kind (kind_at g (p.atom v)) (p.parent (p.atom v))
  pub degree : (v : ℕ) → v < g.size → degree_at h v ≡ degree_at g (p.atom v)
  pub entry : (v i : ℕ) → v < g.size → i < degree_at g (p.atom v)
      → bond_of h v i ≡ numbered_as p.number (get_or (entries_of g (p.atom v) (p.parent (p.atom v))) i (entry_to Elided 0))
