-- WHAT OPENSMILES MEANS BY A LINE: its atoms, each with its neighbours in the order in which the line names them, and what it
-- forbids of them; and where the graph that is read departs from that, each departure by its name in the list of differences.
-- Written from a summary of its rules, without rooms and refusals. A bond that is not written stays elided here: that it is single,
-- or aromatic between two aromatic atoms, is not said.
use Rattle.std.specs.Prelude.{ℕ, ◌+◌, ◌≤◌, ◌≡◌, List, [], ◌∷◌, ◌++◌, Bool, false, length, drop}
use Rattle.std.proofs.Math.Option.{Option, none, some}
use Rattle.feature.specs.Pick.{pick, both}
use Rattle.feature.specs.Kinds.{invert_of}
use Rattle.feature.specs.Bonds.{same_kind, reverse_of}
use Rattle.feature.specs.declared.atom_kind.AtomKind.{AtomKind}
use Rattle.feature.specs.declared.bond_kind.BondKind.{BondKind}
use Rattle.feature.specs.declared.bond_kind.BondKind.TheVariants.{Elided, Double}
use Rattle.read_line.specs.declared.lead.Lead.{Lead}
use Rattle.read_line.specs.declared.lead.Lead.TheVariants.{Dot, Bond}
use Rattle.read_line.specs.Events.{ReadEvent, Enter, Join, Pop, Miss, Nest}
use Rattle.builder_meaning.specs.Sketch.{To, Open, Edge, Node, Held, edge, node, held, upd, edges_at, add_edge, open_kind, fill, lookup, ring_freed, leads, first_open_s}
use Rattle.grammar.specs.OpenSmiles.{Chain, says}
use Rattle.feature.specs.Kinds.{turned_or}

-- ---- A MOLECULE IN THE MAKING
-- The atoms with their neighbours; the atoms that the next one may follow, the last first; the ring numbers used once; how many
-- ring numbers there were.
pub record Molecule : Type 0 where
  pub atoms : List Node
  pub path : List ℕ
  pub opens : List Held
  pub joins : ℕ

abbrev pub molecule : List Node → List ℕ → List Held → ℕ → Molecule
molecule ns at os j = record { atoms = ns; path = at; opens = os; joins = j }

-- An atom after a dot has no neighbour yet. Else the current atom is its first neighbour, and it is that one's last.
unfoldable pub atom_placed : Molecule → Lead → AtomKind → List ℕ → Option Molecule
atom_placed m Dot k at = some (molecule (m.atoms ++ (node k [] ∷ [])) (length m.atoms ∷ at) m.opens m.joins)
atom_placed m (Bond e) k [] = none
atom_placed m (Bond e) k (s ∷ at) =
    some (molecule
    (upd s (add_edge (edge e (To (length m.atoms)))) m.atoms ++ (node k (edge (reverse_of e) (To s) ∷ []) ∷ []))
    (length m.atoms ∷ s ∷ at) m.opens m.joins)

-- The two ends of a ring bond: either may be elided; if neither is, each is the other as seen from its own end. The bond is
-- given as seen from the opening atom. Departure "single and direction": "-" at one end and "/" or "\\" at the other are both
-- single bonds, and may be taken to agree; here, as in the reader, they don't. Smallest lines: C/1CC-1, C-1CC/1.
unfoldable pub agreed : BondKind → BondKind → Option BondKind
agreed k l =
    pick (same_kind k Elided) (some (reverse_of l))
    (pick (same_kind l Elided) (some k)
    (pick (same_kind l (reverse_of k)) (some k)
    none))

-- A number's second use: the opening atom's neighbour is where the number was.
unfoldable pub closed : Molecule → ℕ → ℕ → Held → Option BondKind → Option Molecule
closed m n s h none = none
closed m n s h (some k) =
    some (molecule
    (upd s (add_edge (edge (reverse_of k) (To h.atom))) (upd h.atom (fill h.join k s) m.atoms))
    m.path (ring_freed n m.opens) (m.joins + 1))

-- A ring number at the atom s: its first use keeps its place among the neighbours, its second closes the ring, and the number is
-- free again.
unfoldable pub molecule_ringed : Molecule → BondKind → ℕ → ℕ → Option Held → Option Molecule
molecule_ringed m e n s none =
    some (molecule (upd s (add_edge (edge e (Open m.joins))) m.atoms) m.path (held n s m.joins ∷ m.opens) (m.joins + 1))
molecule_ringed m e n s (some h) = closed m n s h (agreed (open_kind h.join (edges_at h.atom m.atoms)) e)

unfoldable pub numbered : Molecule → BondKind → ℕ → List ℕ → Option Molecule
numbered m e n [] = none
numbered m e n (s ∷ at) = molecule_ringed m e n s (lookup n m.opens)

-- ---- HOW AN ATOM IS HELD
-- OpenSMILES: as it is written. Departure "H0": it means by "[CH0]" what it means by "[C]"; here, as in the reader, the two are
-- two kinds.
unfoldable pub as_written : Lead → AtomKind → AtomKind
as_written l k = k

-- Departure "TH marks": an atom that bears hydrogen and follows another is held with the other mark. OpenSMILES' "@" speaks of
-- the neighbours in the order atom before, hydrogen, others; the held mark of the order hydrogen, atom before, others: with one
-- hydrogen these two marks say the same. Without hydrogen, or with no atom before, the two orders are one, and no mark changes.
-- Departure "TH marks, two hydrogens": past two hydrogens the atom before would keep its mark, and it is turned all the same.
-- Smallest line: C[C@H2]F.
unfoldable pub as_held : Lead → AtomKind → AtomKind
as_held Dot k = k
as_held (Bond e) k = turned_or k (invert_of k)

-- ---- THE MOLECULE OF A LINE, by its events and by how its atoms are held; none if it has none
unfoldable pub molecule_told : (Lead → AtomKind → AtomKind) → Molecule → ReadEvent → Option Molecule
molecule_told hold m (Enter l k place) = atom_placed m l (hold l k) m.path
molecule_told hold m (Join e n place) = numbered m e n m.path
molecule_told hold m (Pop n) = some (molecule m.atoms (drop n m.path) m.opens m.joins)
molecule_told hold m (Miss x) = none
molecule_told hold m (Nest place) = none

unfoldable pub next : (Lead → AtomKind → AtomKind) → Option Molecule → ReadEvent → Option Molecule
next hold none e = none
next hold (some m) e = molecule_told hold m e

unfoldable pub tell_all : (Lead → AtomKind → AtomKind) → Option Molecule → List ReadEvent → Option Molecule
tell_all hold o [] = o
tell_all hold o (e ∷ es) = tell_all hold (next hold o e) es

unfoldable pub molecule_of : (Lead → AtomKind → AtomKind) → List ReadEvent → Option Molecule
molecule_of hold es = tell_all hold (some (molecule [] [] [] 0)) es

-- Each atom's neighbours, and each atom's kind; only the kinds depend on how an atom is held.
unfoldable pub neighbours : List Node → List (List Edge)
neighbours [] = []
neighbours (n ∷ ns) = n.edges ∷ neighbours ns

unfoldable pub node_kinds : List Node → List AtomKind
node_kinds [] = []
node_kinds (n ∷ ns) = n.kind ∷ node_kinds ns

unfoldable pub kind_told : (Lead → AtomKind → AtomKind) → ReadEvent → List AtomKind
kind_told hold (Enter l k place) = hold l k ∷ []
kind_told hold (Join e n place) = []
kind_told hold (Pop n) = []
kind_told hold (Miss x) = []
kind_told hold (Nest place) = []

unfoldable pub kinds_told : (Lead → AtomKind → AtomKind) → List ReadEvent → List AtomKind
kinds_told hold [] = []
kinds_told hold (e ∷ es) = kind_told hold e ++ kinds_told hold es

-- ---- WHAT OPENSMILES FORBIDS
-- how many neighbours of an atom are the atom t
unfoldable pub times_to : ℕ → List Edge → ℕ
times_to t [] = 0
times_to t (e ∷ es) = pick (leads t e.target) 1 0 + times_to t es

-- Departure "joined to itself": an atom is its own neighbour. Smallest line: C11.
pub record JoinedToItself (ns : List Node) : Type 0 where
  pub atom : ℕ
  pub itself : 1 ≤ times_to atom (edges_at atom ns)

-- Departure "joined twice": an atom has another one twice as its neighbour. Smallest line: C1C1.
pub record JoinedTwice (ns : List Node) : Type 0 where
  pub atom : ℕ
  pub other : ℕ
  pub apart : ¬ (atom ≡ other)
  pub twice : 2 ≤ times_to other (edges_at atom ns)

-- OpenSMILES' rule: neither. The reader has no such rule; the walk has (numbers 6 and 8), so that such a graph is not written.
pub record Allowed (ns : List Node) : Type 0 where
  pub self_free : ¬ JoinedToItself ns
  pub twice_free : ¬ JoinedTwice ns

-- Departure "allenes": OpenSMILES means AL1 by "@" and AL2 by "@@" where an atom's neighbours are two, both by double bonds; here,
-- as in the reader, these marks are TH1 and TH2 wherever they are. Smallest line: C=[C@]=C.
unfoldable pub allene_like : List Edge → Bool
allene_like [] = false
allene_like (a ∷ []) = false
allene_like (a ∷ b ∷ []) = both (same_kind a.kind Double) (same_kind b.kind Double)
allene_like (a ∷ b ∷ c ∷ es) = false

-- ---- WHAT OPENSMILES MEANS BY A CHAIN: the atoms of its molecule, all rings closed, and none joined to itself or joined twice
pub record Meant (u : Chain) (ns : List Node) : Type 0 where
  pub whole : Molecule
  pub is : molecule_of as_written (says u) ≡ some whole
  pub atoms : whole.atoms ≡ ns
  pub rings : first_open_s ns ≡ none
  pub allowed : Allowed ns

-- ---- WHAT IS HELD OF IT
-- What is held of a chain beside what is meant by it: the same neighbours; the kinds as they are held, where they are meant as
-- they are written.
pub record HeldFor (u : Chain) (meant ns : List Node) : Type 0 where
  pub around : neighbours ns ≡ neighbours meant
  pub here : node_kinds ns ≡ kinds_told as_held (says u)
  pub there : node_kinds meant ≡ kinds_told as_written (says u)
