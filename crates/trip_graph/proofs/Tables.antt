-- Tables of nodes hold a graph with their degrees and entries. So those of a renumbered graph hold that graph: its kinds, its
-- degrees and its entries are those of the graph walked, by their new numbers.
use mathlib.Core.Path.{◌≡◌, refl, ap, ap₂, ◌∙◌}
use mathlib.Core.List.{List, [], ◌∷◌, ◌++◌, map, append_assoc}
use mathlib.Core.Bool.{true}
use Prim.Native.Nat.{ℕ, zero, suc, ◌+◌, ◌-◌, ◌*◌, ◌^◌, ◌%◌, ◌≤◌, ◌<◌}
use native.Mathlib.Omega.{arith}
use lib.ListN.{length, get_or, replicate, length-map, length-replicate}
use lib.Seq.{get_or-append-add}
use Rattle.feature.specs.Kinds.{in_range}
use Rattle.feature.specs.Bonds.{code_of, kind_of, sure_kind}
use Rattle.feature.specs.declared.atom_kind.AtomKind.{AtomKind}
use Rattle.feature.specs.declared.atom_kind.AtomKind.TheVariants.{Star}
use Rattle.feature.specs.declared.bond_kind.BondKind.{BondKind}
use Rattle.feature.specs.declared.bond_kind.BondKind.TheVariants.{Elided}
use Rattle.feature.proofs.Bonds.{sure_code}
use Rattle.std.specs.Prelude.{None, Option, Some}
use Rattle.packing.specs.Words as words
use Rattle.packing.proofs.Laws.{load_words, only}
use Rattle.table.specs.Limits.{atom_limit}
use Rattle.builder_meaning.specs.Sketch.{To, Edge, Node, edge, node, count_of, atom_table, target_of, edge_table, bond_table, padded}
use Rattle.walk_entry.specs.Graph.{BondEntry, Graph, kind_at, degree_at, bond_of, entry_to, entry_at, kind_or, kind_in, bond_in}
use Rattle.table.specs.Zeros.{zeros}
use Rattle.table.proofs.Zeros.{zero_at}
use Rattle.table.specs.Starts.{sum_of}
use Rattle.table.proofs.EntryStarts.{entry_starts_at}
use Rattle.write.specs.Write.{graph_of}
use Rattle.walk_laws.specs.Trek.{degrees}
use Rattle.trip_graph.specs.Renumber.{numbered_as, Numbering, Renumbers}
use Rattle.trip_graph.specs.Renumbered.{entries_of, edge_of, node_of, Numbers, first_atoms, renumbered}
use Rattle.trip_graph.specs.Marks.{Tetrahedral, back_kind}
use Rattle.trip_graph.proofs.Entries.{entries_length}
use Rattle.trip_graph.proofs.Marks.{marks_serve}
use Rattle.trip_graph.proofs.Trip.{atoms_length, atoms_at, renumbered_length}

abbrev pub no_edge : Edge
no_edge = edge Elided (To 0)

abbrev pub no_node : Node
no_node = node Star []

-- ---- tables by place
atom_words_lem : (ns : List Node) (z : List ℕ) (v : ℕ) → v < length ns
    → (get_or (atom_table ns ++ z) (v * 3) 0 ≡ (words.words_of (get_or ns v no_node).kind).first)
    × (get_or (atom_table ns ++ z) (v * 3 + 1) 0 ≡ (words.words_of (get_or ns v no_node).kind).second)
    × (get_or (atom_table ns ++ z) (v * 3 + 2) 0 ≡ length (get_or ns v no_node).edges)
unfolding atom_table words.list_of
atom_words_lem [] z v h = absurd (omega arith)
atom_words_lem (n ∷ ns) z zero h = (refl, refl, refl)
atom_words_lem (n ∷ ns) z (suc v) h =
    let r = atom_words_lem ns z v (omega arith) in
    let a : suc v * 3 ≡ suc (suc (suc (v * 3))) = omega arith in
    let b : suc v * 3 + 1 ≡ suc (suc (suc (v * 3 + 1))) = omega arith in
    let c : suc v * 3 + 2 ≡ suc (suc (suc (v * 3 + 2))) = omega arith in
    (ap (λ (i : ℕ). get_or (atom_table (n ∷ ns) ++ z) i 0) a ∙ r.0, ap (λ (i : ℕ). get_or (atom_table (n ∷ ns) ++ z) i 0) b ∙ r.1, ap (λ (i : ℕ). get_or (atom_table (n ∷ ns) ++ z) i 0) c ∙ r.2)

edge_words : (es : List Edge) (z : List ℕ) (i : ℕ) → i < length es
    → (get_or (edge_table es ++ z) (i * 2) 0 ≡ code_of (get_or es i no_edge).kind) × (get_or (edge_table es ++ z) (i * 2 + 1) 0 ≡ target_of (get_or es i no_edge).target)
unfolding edge_table
edge_words [] z i h = absurd (omega arith)
edge_words (e ∷ es) z zero h = (refl, refl)
edge_words (e ∷ es) z (suc i) h =
    let r = edge_words es z i (omega arith) in
    let a : suc i * 2 ≡ suc (suc (i * 2)) = omega arith in
    let b : suc i * 2 + 1 ≡ suc (suc (i * 2 + 1)) = omega arith in
    (ap (λ (j : ℕ). get_or (edge_table (e ∷ es) ++ z) j 0) a ∙ r.0, ap (λ (j : ℕ). get_or (edge_table (e ∷ es) ++ z) j 0) b ∙ r.1)

edge_length : (es : List Edge) → length (edge_table es) ≡ length es * 2
unfolding edge_table
edge_length [] = refl
edge_length (e ∷ es) = omega (arith, edge_length es)

-- how many entries the nodes before v have
before : List Node → ℕ → ℕ
before [] v = 0
before (n ∷ ns) zero = 0
before (n ∷ ns) (suc v) = length n.edges + before ns v

before_next : (ns : List Node) (v : ℕ) → v < length ns → before ns (suc v) ≡ before ns v + length (get_or ns v no_node).edges
unfolding before
before_next [] v h = absurd (omega arith)
before_next (n ∷ []) zero h = omega arith
before_next (n ∷ m ∷ ns) zero h = omega arith
before_next (n ∷ ns) (suc v) h = omega (arith, before_next ns v (omega arith))

before_most : (ns : List Node) (v : ℕ) → before ns v ≤ count_of ns
unfolding before count_of
before_most [] v = omega arith
before_most (n ∷ ns) zero = omega arith
before_most (n ∷ ns) (suc v) = omega (arith, before_most ns v)

bond_table_lem : (ns : List Node) (z : List ℕ) (v i : ℕ) → v < length ns → i < length (get_or ns v no_node).edges
    → (get_or (bond_table ns ++ z) ((before ns v + i) * 2) 0 ≡ code_of (get_or (get_or ns v no_node).edges i no_edge).kind)
    × (get_or (bond_table ns ++ z) ((before ns v + i) * 2 + 1) 0 ≡ target_of (get_or (get_or ns v no_node).edges i no_edge).target)
unfolding bond_table before
bond_table_lem [] z v i h k = absurd (omega arith)
bond_table_lem (n ∷ ns) z zero i h k =
    let r = edge_words n.edges (bond_table ns ++ z) i k in
    let s : (edge_table n.edges ++ bond_table ns) ++ z ≡ edge_table n.edges ++ (bond_table ns ++ z) = append_assoc (edge_table n.edges) (bond_table ns) z in
    let a : (0 + i) * 2 ≡ i * 2 = omega arith in
    let b : (0 + i) * 2 + 1 ≡ i * 2 + 1 = omega arith in
    (ap₂ (λ (l : List ℕ) (j : ℕ). get_or l j 0) s a ∙ r.0, ap₂ (λ (l : List ℕ) (j : ℕ). get_or l j 0) s b ∙ r.1)
bond_table_lem (n ∷ ns) z (suc v) i h k =
    let r = bond_table_lem ns z v i (omega arith) k in
    let s : (edge_table n.edges ++ bond_table ns) ++ z ≡ edge_table n.edges ++ (bond_table ns ++ z) = append_assoc (edge_table n.edges) (bond_table ns) z in
    let a : (length n.edges + before ns v + i) * 2 ≡ length (edge_table n.edges) + (before ns v + i) * 2 = omega (arith, edge_length n.edges) in
    let b : (length n.edges + before ns v + i) * 2 + 1 ≡ length (edge_table n.edges) + ((before ns v + i) * 2 + 1) = omega (arith, edge_length n.edges) in
    (ap₂ (λ (l : List ℕ) (j : ℕ). get_or l j 0) s a ∙ get_or-append-add (edge_table n.edges) (bond_table ns ++ z) ((before ns v + i) * 2) 0 ∙ r.0, ap₂ (λ (l : List ℕ) (j : ℕ). get_or l j 0) s b ∙ get_or-append-add (edge_table n.edges) (bond_table ns ++ z) ((before ns v + i) * 2 + 1) 0 ∙ r.1)

-- where the entries of an atom start
sum_is : (ns : List Node) (z : List ℕ) (v : ℕ) → v ≤ length ns → count_of ns < 2 ^ 32 → sum_of v (atom_table ns ++ z) ≡ before ns v
unfolding sum_of
sum_is ns z zero h k = go ns
  where
    go : (ns : List Node) → 0 ≡ before ns 0
    go [] = unfold before in refl
    go (n ∷ ns) = unfold before in refl
sum_is ns z (suc v) h k =
    let a = sum_is ns z v (omega arith) k in
    let b = (atom_words_lem ns z v h).2 in
    let c = before_next ns v h in
    let d = before_most ns (suc v) in
    ap₂ (λ (x y : ℕ). (x + y) % 2 ^ 32) a b ∙ omega arith

atom_table_lem : (ns : List Node) → length (atom_table ns) ≡ length ns * 3
unfolding atom_table words.list_of
atom_table_lem [] = refl
atom_table_lem (n ∷ ns) = omega (arith, atom_table_lem ns)

-- ---- the graph that tables of nodes hold, with any zeros after them
module _ (ns : List Node) (n la lb : ℕ) (limit : n ≤ atom_limit) (few : count_of ns < 2 ^ 32) where
  abbrev pub held : Graph
  held = graph_of n (padded la (atom_table ns)) (padded lb (bond_table ns))

  pub nodes_degree : (v : ℕ) → v < length ns → degree_at held v ≡ length (get_or ns v no_node).edges
  unfolding padded
  nodes_degree v q = (atom_words_lem ns (replicate (la - length (atom_table ns)) 0) v q).2

  -- past the nodes there are no entries
  pub nodes_beyond : (v : ℕ) → length ns ≤ v → degree_at held v ≡ 0
  unfolding padded
  nodes_beyond v q =
      let i : v * 3 + 2 ≡ length (atom_table ns) + (v * 3 + 2 - length ns * 3) = omega (arith, atom_table_lem ns) in
      ap (λ (j : ℕ). get_or (atom_table ns ++ zeros (la - length (atom_table ns))) j 0) i
      ∙ get_or-append-add (atom_table ns) (zeros (la - length (atom_table ns))) (v * 3 + 2 - length ns * 3) 0 ∙ zero_at (la - length (atom_table ns)) (v * 3 + 2 - length ns * 3)

  pub nodes_entry : (v i : ℕ) → v < n → v < length ns → i < length (get_or ns v no_node).edges
      → bond_of held v i ≡ entry_to (get_or (get_or ns v no_node).edges i no_edge).kind (target_of (get_or (get_or ns v no_node).edges i no_edge).target)
  unfolding bond_in padded
  nodes_entry v i h q k =
      let r = bond_table_lem ns (replicate (lb - length (bond_table ns)) 0) v i q k in
      let s : get_or held.first v 0 ≡ before ns v =
      entry_starts_at n v (padded la (atom_table ns)) (zeros atom_limit) h (rw (length-replicate {A = ℕ} atom_limit 0) (omega (arith, h, limit)))
      ∙ sum_is ns (replicate (la - length (atom_table ns)) 0) v (omega (arith, q)) few in
      ap (λ (y : ℕ). entry_at (padded lb (bond_table ns)) ((y + i) * 2)) s
      ∙ ap₂ (λ (y z : ℕ). entry_to (sure_kind (kind_of y)) z) r.0 r.1
      ∙ ap (λ (x : BondKind). entry_to x (target_of (get_or (get_or ns v no_node).edges i no_edge).target)) (sure_code (get_or (get_or ns v no_node).edges i no_edge).kind)

-- ---- maps by place
at_map : {A B : Type 0} (f : A → B) (l : List A) (v : ℕ) (x : A) (y : B) → v < length l → get_or (map f l) v y ≡ f (get_or l v x)
at_map f [] v x y h = absurd (omega arith)
at_map f (a ∷ l) zero x y h = refl
at_map f (a ∷ l) (suc v) x y h = at_map f l v x y (omega arith)

-- ---- kinds are in range
held_range : (l : Option AtomKind) → ((k : AtomKind) → l ≡ Some k → in_range k ≡ true) → in_range (kind_or l) ≡ true
unfolding kind_or in_range
held_range (Some k) h = h k refl
held_range None h = refl

pub kind_range : (g : Graph) (a : ℕ) → in_range (kind_at g a) ≡ true
unfolding kind_in words.load_at
kind_range g a = held_range _ (λ k e. (only _ _ k e).0)

-- ---- the law
module _ (g : Graph) (p : Numbers) (N : Numbering g p) (T : (a : ℕ) → a < g.size → Tetrahedral (kind_at g a)) (limit : g.size ≤ atom_limit)
    (count : count_of (renumbered g p) ≡ degrees g g.size) (few : degrees g g.size < 2 ^ 32) (la lb : ℕ) where
  abbrev h : Graph
  h = graph_of g.size (padded la (atom_table (renumbered g p))) (padded lb (bond_table (renumbered g p)))

  node_at : (v : ℕ) → v < g.size → get_or (renumbered g p) v no_node ≡ node_of g p (p.atom v)
  unfolding renumbered
  node_at v q =
      at_map (node_of g p) (first_atoms p.atom g.size) v 0 no_node (omega (arith, atoms_length p.atom g.size))
      ∙ ap (node_of g p) (atoms_at p.atom g.size v q)

  in_nodes : (v : ℕ) → v < g.size → v < length (renumbered g p)
  in_nodes v q = omega (arith, renumbered_length g p)

  kind_at_lem : (v : ℕ) → v < g.size → kind_at h v ≡ back_kind (kind_at g (p.atom v)) (p.parent (p.atom v))
  unfolding kind_in words.load_at padded node_of kind_or
  kind_at_lem v q =
      let a : ℕ = p.atom v in
      let k : AtomKind = back_kind (kind_at g a) (p.parent a) in
      let r = atom_words_lem (renumbered g p) (replicate (la - length (atom_table (renumbered g p))) 0) v (in_nodes v q) in
      let e : (get_or (renumbered g p) v no_node).kind ≡ k = ap (λ (n : Node). n.kind) (node_at v q) in
      ap₂ (λ (x y : ℕ). kind_or (words.load_of x y)) (r.0 ∙ ap (λ (x : AtomKind). (words.words_of x).first) e) (r.1 ∙ ap (λ (x : AtomKind). (words.words_of x).second) e)
      ∙ ap kind_or (load_words k (marks_serve.held (kind_at g a) (p.parent a) (T a (N.within v q)) (kind_range g a)))

  edges_at_lem : (v : ℕ) → v < g.size → (get_or (renumbered g p) v no_node).edges ≡ map (edge_of p.number) (entries_of g (p.atom v) (p.parent (p.atom v)))
  unfolding node_of
  edges_at_lem v q = ap (λ (n : Node). n.edges) (node_at v q)

  edges_long : (v : ℕ) → v < g.size → length (get_or (renumbered g p) v no_node).edges ≡ degree_at g (p.atom v)
  edges_long v q =
      ap length (edges_at_lem v q) ∙ length-map (entries_of g (p.atom v) (p.parent (p.atom v))) _
      ∙ entries_length g (p.atom v) (p.parent (p.atom v)) (N.parent (p.atom v))

  few_nodes : count_of (renumbered g p) < 2 ^ 32
  few_nodes = omega (arith, count, few)

  degree_at_lem : (v : ℕ) → v < g.size → degree_at h v ≡ degree_at g (p.atom v)
  degree_at_lem v q = nodes_degree (renumbered g p) g.size la lb limit few_nodes v (in_nodes v q) ∙ edges_long v q

  entry_at_lem : (v i : ℕ) → v < g.size → i < degree_at g (p.atom v)
      → bond_of h v i ≡ numbered_as p.number (get_or (entries_of g (p.atom v) (p.parent (p.atom v))) i (entry_to Elided 0))
  unfolding edge_of numbered_as target_of
  entry_at_lem v i q k =
      let a : ℕ = p.atom v in
      let es : List BondEntry = entries_of g a (p.parent a) in
      let x : BondEntry = get_or es i (entry_to Elided 0) in
      let le : i < length es = rw (entries_length g a (p.parent a) (N.parent a)) k in
      let e : get_or (get_or (renumbered g p) v no_node).edges i no_edge ≡ edge_of p.number x =
      ap (λ (y : List Edge). get_or y i no_edge) (edges_at_lem v q) ∙ at_map (edge_of p.number) es i (entry_to Elided 0) no_edge le in
      nodes_entry (renumbered g p) g.size la lb limit few_nodes v i q (in_nodes v q) (rw (edges_long v q) k)
      ∙ ap (λ (y : Edge). entry_to y.kind (target_of y.target)) e

  pub tables_renumber : Renumbers g h p
  tables_renumber = record { size = refl; kind = kind_at_lem; degree = degree_at_lem; entry = entry_at_lem }
