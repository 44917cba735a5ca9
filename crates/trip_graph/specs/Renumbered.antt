-- A graph renumbered in walk order. Its atoms come in the order in which a walk met them, and each entry leads to its target's
-- number in that order. Each atom but a root has its parent's entry moved to the front and the other entries in order; a TH mark is
-- toggled exactly if the atom bears hydrogen and its parent's entry was at an odd index (`back_kind`). Nothing else differs.
use Rattle.std.specs.Prelude.{ℕ, zero, suc, ◌-◌, List, [], ◌∷◌, ◌++◌, map, get_or, eqb}
use Rattle.feature.specs.Pick.{pick}
use Rattle.builder_meaning.specs.Sketch.{To, Edge, Node, edge, node}
use Rattle.walk_entry.specs.Graph.{BondEntry, Graph, kind_at, degree_at, bond_of}
use Rattle.walk.specs.Walk.{Walk}
use Rattle.trip_graph.specs.Marks.{back_kind}

-- The numbers of a walk: the atom with a number, the number of an atom, and the place of its parent's entry, from 1, 0 for a root.
pub record Numbers : Type 0 where
  pub atom : ℕ → ℕ
  pub number : ℕ → ℕ
  pub parent : ℕ → ℕ

-- those in the tables of a walk, where a mark is one more than the number
abbrev pub by_walk : Walk → Numbers
by_walk w =
    record { atom = λ v. get_or w.walked v 0; number = λ a. get_or w.met a 0 - 1; parent = λ a. get_or w.back a 0 }

-- ---- the entries of an atom
-- the first n entries of the atom a in order, but for the one at place b, from 1
unfoldable pub others_of : Graph → ℕ → ℕ → ℕ → List BondEntry
others_of g a b zero = []
others_of g a b (suc n) = others_of g a b n ++ pick (eqb b (suc n)) [] (bond_of g a n ∷ [])

-- the parent's entry, at place b from 1, and none for a root
unfoldable pub parent_entry : Graph → ℕ → ℕ → List BondEntry
parent_entry g a b = pick (eqb b 0) [] (bond_of g a (b - 1) ∷ [])

-- with the parent's entry moved to the front: all that come before the place n, and so all of them
unfoldable pub done_of : Graph → ℕ → ℕ → ℕ → List BondEntry
done_of g a b n = parent_entry g a b ++ others_of g a b n

abbrev pub entries_of : Graph → ℕ → ℕ → List BondEntry
entries_of g a b = done_of g a b (degree_at g a)

-- ---- the graph
-- an entry, its target by its number
unfoldable pub edge_of : (ℕ → ℕ) → BondEntry → Edge
edge_of number e = edge e.kind (To (number e.to))

unfoldable pub node_of : Graph → Numbers → ℕ → Node
node_of g p a =
    node (back_kind (kind_at g a) (p.parent a)) (map (edge_of p.number) (entries_of g a (p.parent a)))

-- the first n atoms by their numbers
unfoldable pub first_atoms : (ℕ → ℕ) → ℕ → List ℕ
first_atoms atom zero = []
first_atoms atom (suc n) = first_atoms atom n ++ (atom n ∷ [])

unfoldable pub renumbered : Graph → Numbers → List Node
renumbered g p = map (node_of g p) (first_atoms p.atom g.size)
