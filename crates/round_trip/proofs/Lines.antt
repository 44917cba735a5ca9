-- A line that is read leaves tables of a graph that is held at both ends, so rewriting it is refused for no end of a bond: with none
-- of 5, 7 and 9. Assumes nothing.
use Prim.Native.Nat.{ℕ, zero, suc, ◌+◌, ◌^◌, ◌≤◌, ◌<◌}
use mathlib.Core.Path.{◌≡◌, refl, sym, ap, ◌∙◌, subst}
use mathlib.Core.List.{List, [], ◌∷◌}
use mathlib.Core.Option.{Option, none, some}
use mathlib.Core.Bool.{true, false}
use native.Mathlib.Omega.{arith}
use lib.ListN.{length, get_or}
use lib.Dec.{eqb, ltb}
use borrow.Author.Tests.{eqb-true, eq-eqb, ltb-true, ltb-false}
use Rattle.feature.specs.Bonds.{code_of, same_kind, reverse_of}
use Rattle.feature.specs.declared.bond_kind.BondKind.{BondKind}
use Rattle.feature.proofs.Bonds.{same_code}
use Rattle.feature.proofs.Cases.{by_either, both_first, both_second, both_pass, impossible}
use Rattle.table.specs.Limits.{text_limit, atom_limit}
use Rattle.std.specs.Prelude.{Err, Ok}
use Rattle.read.specs.declared.GraphSize.{GraphSize}
use Rattle.read.specs.Read.{graph_size}
use Rattle.builder.specs.Build.{Built}
use Rattle.builder.specs.declared.build.BuildError.TheVariants as built
use Rattle.builder_meaning.specs.Sketch.{Target, To, Open, Edge, Node, Failure, None, Failed, Sketch, sketch_of, next_number, count_of, edges_at, open_here, open_in, first_open_s, rings_say, says_s, finish_s, target_of, atom_table, bond_table, padded, leads, is_edge_to, bonds_to, BothEnds}
use Rattle.read.specs.declared.ReadError.TheVariants as answer
use Rattle.read.specs.Read.{Said, built_answer}
use Rattle.read.specs.Line.{read_text, whole_of, whole_or_refused}
use Rattle.read.proofs.Lines.{not_done, done_holds}
use Rattle.walk_entry.specs.Graph.{BondEntry, Graph, degree_at, bond_of, entry_to}
use Rattle.write.specs.Plain.{write_plain}
use Rattle.trip_graph.specs.Renumber.{Backed}
use Rattle.trip_graph.specs.Walked.{Held, blames_end}
use Rattle.trip_graph.proofs.Lists.{by_bool}
use Rattle.trip_graph.proofs.Tables.{no_edge, no_node, held, nodes_degree, nodes_beyond, nodes_entry}
use Rattle.trip_graph.proofs.HeldEnds.{held_says}

-- ---- entries
-- an entry of kind k to the atom t, at a place
record Placed (k : BondKind) (t : ℕ) (es : List Edge) : Type 0 where
  place : ℕ
  within : place < length es
  kind : (get_or es place no_edge).kind ≡ k
  target : (get_or es place no_edge).target ≡ To t

leads_to : (t : ℕ) (x : Target) → leads t x ≡ true → x ≡ To t
unfolding leads
leads_to t (To x) e = ap To (eqb-true x t e)
leads_to t (Open j) e = impossible cc

-- it counts,
placed_counts : (es : List Edge) (i t : ℕ) → i < length es → (get_or es i no_edge).target ≡ To t → 1 ≤ bonds_to (get_or es i no_edge).kind t es
unfolding bonds_to is_edge_to leads
placed_counts [] i t h e = absurd (omega arith)
placed_counts (x ∷ es) zero t h e =
    rw (e, both_pass {a = same_kind x.kind x.kind} {b = eqb t t} (eq-eqb (code_of x.kind) (code_of x.kind) refl) (eq-eqb t t refl)) (omega arith)
placed_counts (x ∷ es) (suc i) t h e = omega (arith, placed_counts es i t (omega arith) e)

-- and where one counts there is one
counted_placed : (k : BondKind) (t : ℕ) (es : List Edge) → 1 ≤ bonds_to k t es → Placed k t es
unfolding bonds_to is_edge_to
counted_placed k t [] h = absurd (omega arith)
counted_placed k t (x ∷ es) h =
    by_bool (is_edge_to k t x)
    (λ q. record {
      place = 0;
      within = omega arith;
      kind = same_code x.kind k (eqb-true _ _ (both_first (same_kind x.kind k) (leads t x.target) q));
      target = leads_to t x.target (both_second (same_kind x.kind k) (leads t x.target) q);
    })
    (λ q. let z : 1 ≤ 0 + bonds_to k t es = rw q at h in
    let r = counted_placed k t es (omega arith) in
    record { place = suc r.place; within = omega (arith, r.within); kind = r.kind; target = r.target })

edges_by : (ns : List Node) (v : ℕ) → v < length ns → edges_at v ns ≡ (get_or ns v no_node).edges
unfolding edges_at
edges_by [] v h = absurd (omega arith)
edges_by (n ∷ ns) zero h = refl
edges_by (n ∷ ns) (suc v) h = edges_by ns v (omega arith)

edges_within : (ns : List Node) (v i : ℕ) → i < length (edges_at v ns) → v < length ns
unfolding edges_at
edges_within [] v i h = absurd (omega arith)
edges_within (n ∷ ns) zero i h = omega arith
edges_within (n ∷ ns) (suc v) i h = omega (arith, edges_within ns v i h)

-- ---- targets
-- no entry waits for a ring number
closed_here : (es : List Edge) (further : Option ℕ) → open_in es further ≡ none → (further ≡ none) × ((i : ℕ) → i < length es → (t : ℕ) × ((get_or es i no_edge).target ≡ To t))
unfolding open_in open_here
closed_here [] further e = (e, λ i h. absurd (omega arith))
closed_here (x ∷ es) further e = by x.target refl e (closed_here es further)
  where
    by : (y : Target) → x.target ≡ y → open_here y (open_in es further) ≡ none
        → (open_in es further ≡ none → (further ≡ none) × ((i : ℕ) → i < length es → (t : ℕ) × ((get_or es i no_edge).target ≡ To t)))
        → (further ≡ none) × ((i : ℕ) → i < length (x ∷ es) → (t : ℕ) × ((get_or (x ∷ es) i no_edge).target ≡ To t))
    by (To t) q z f = let r = f z in (r.0, at t q r.1)
      where
        at : (t : ℕ) → x.target ≡ To t → ((i : ℕ) → i < length es → (t : ℕ) × ((get_or es i no_edge).target ≡ To t)) → (i : ℕ) → i < length (x ∷ es) → (t : ℕ) × ((get_or (x ∷ es) i no_edge).target ≡ To t)
        at t q g zero h = (t, q)
        at t q g (suc i) h = g i (omega arith)
    by (Open j) q z f = impossible cc

closed_all : (ns : List Node) → first_open_s ns ≡ none → (v i : ℕ) → v < length ns → i < length (get_or ns v no_node).edges → (t : ℕ) × ((get_or (get_or ns v no_node).edges i no_edge).target ≡ To t)
unfolding first_open_s
closed_all [] e v i h l = absurd (omega arith)
closed_all (n ∷ ns) e zero i h l = (closed_here n.edges (first_open_s ns) e).1 i l
closed_all (n ∷ ns) e (suc v) i h l = closed_all ns (closed_here n.edges (first_open_s ns) e).0 v i (omega arith) l

-- ---- what a line that is done has built
record DoneBuilt (d : Sketch) (n m : ℕ) : Type 0 where
  closed : first_open_s d.nodes ≡ none
  atoms : length d.nodes ≤ n
  entries : m ≡ count_of d.nodes

says_closed : (o : Option ℕ) → rings_say o ≡ Ok tt → o ≡ none
unfolding rings_say
says_closed none e = refl
says_closed (some j) e = impossible cc

finish_closed : (f : Failure) (ns : List Node) → says_s f ns ≡ Ok tt → first_open_s ns ≡ none
unfolding says_s
finish_closed None ns e = says_closed (first_open_s ns) e
finish_closed (Failed x y) ns e = impossible cc

answer_done : (w : Built) (x y n m : ℕ) → built_answer w x y ≡ Ok (graph_size n m) → (w ≡ Ok tt) × (n ≡ x) × (m ≡ y)
unfolding built_answer
answer_done (Ok _) x y n m e =
    let q : graph_size x y ≡ graph_size n m = cc in
    (refl, sym (ap (λ (g : GraphSize). g.atoms) q), sym (ap (λ (g : GraphSize). g.entries) q))
answer_done (Err (built.Join a b)) x y n m e = impossible cc
answer_done (Err (built.Rnum j)) x y n m e = impossible cc

done_built : (s : List ℕ) (la lb n m : ℕ) → (read_text s la lb).answer ≡ Ok (graph_size n m) → DoneBuilt (sketch_of s la lb) n m
unfolding read_text whole_or_refused whole_of finish_s next_number
done_built s la lb n m =
    let d = sketch_of s la lb in
    let B : Said → Type 0 = λ x. x.answer ≡ Ok (graph_size n m) → DoneBuilt d n m in
    by_either B (ltb text_limit (length s)) (λ e. impossible cc)
    (by_either B (eqb d.refusal 0)
    (λ e. let r = answer_done (finish_s d) (next_number d) (count_of d.nodes) n m e in
    record { closed = finish_closed d.failure d.nodes r.0; atoms = omega (arith, r.1); entries = r.2 })
    (λ e. absurd (not_done _ _ n m e)))

-- ---- the graph of its tables
module _ (ns : List Node) (n la lb : ℕ) (E : BothEnds ns) (closed : first_open_s ns ≡ none) (atoms : length ns ≤ n) (limit : n ≤ atom_limit) (few : count_of ns < 2 ^ 32) where
  abbrev g : Graph
  g = held ns n la lb limit few

  -- the entries of an atom that has any
  in_nodes : (a i : ℕ) → i < degree_at g a → a < length ns
  in_nodes a i l = by_bool (ltb a (length ns)) (λ q. ltb-true a (length ns) q) (λ q. absurd (omega (arith, l, nodes_beyond ns n la lb limit few a (ltb-false a (length ns) q))))

  at_node : (a i : ℕ) → i < degree_at g a → i < length (get_or ns a no_node).edges
  at_node a i l = omega (arith, l, nodes_degree ns n la lb limit few a (in_nodes a i l))

  -- the reverse of an entry to the atom t, among the entries of t
  reverse_at : (a i t : ℕ) → i < degree_at g a → (get_or (get_or ns a no_node).edges i no_edge).target ≡ To t → Placed (reverse_of (get_or (get_or ns a no_node).edges i no_edge).kind) a (edges_at t ns)
  reverse_at a i t l e =
      let k : BondKind = (get_or (get_or ns a no_node).edges i no_edge).kind in
      let c : 1 ≤ bonds_to k t (get_or ns a no_node).edges = placed_counts (get_or ns a no_node).edges i t (at_node a i l) e in
      counted_placed (reverse_of k) a (edges_at t ns) (rw (← E.ends a t k, edges_by ns a (in_nodes a i l)) c)

  entry_is : (a i : ℕ) → a < n → i < degree_at g a → bond_of g a i ≡ entry_to (get_or (get_or ns a no_node).edges i no_edge).kind (target_of (get_or (get_or ns a no_node).edges i no_edge).target)
  entry_is a i h l = nodes_entry ns n la lb limit few a i h (in_nodes a i l) (at_node a i l)

  leads_at : (a i t : ℕ) → a < n → i < degree_at g a → (get_or (get_or ns a no_node).edges i no_edge).target ≡ To t → (bond_of g a i).to ≡ t
  unfolding target_of
  leads_at a i t h l e = ap (λ (x : BondEntry). x.to) (entry_is a i h l) ∙ ap target_of e

  -- an entry to the atom t is backed by that reverse
  backed_at : (a i t : ℕ) → a < n → i < degree_at g a → (get_or (get_or ns a no_node).edges i no_edge).target ≡ To t → (t < n) × Backed g a t (bond_of g a i)
  backed_at a i t h l e =
      let R = reverse_at a i t l e in
      let w : t < length ns = edges_within ns t R.place R.within in
      let b : edges_at t ns ≡ (get_or ns t no_node).edges = edges_by ns t w in
      let q : R.place < degree_at g t = omega (arith, R.within, ap length b, nodes_degree ns n la lb limit few t w) in
      let x : t < n = omega (arith, w, atoms) in (
        x,
        record {
          place = R.place;
          within = q;
          leads = leads_at t R.place a x q (ap (λ (es : List Edge). (get_or es R.place no_edge).target) (sym b) ∙ R.target);
          reversed =
              ap (λ (y : BondEntry). y.kind) (entry_is t R.place x q) ∙ ap (λ (es : List Edge). (get_or es R.place no_edge).kind) (sym b) ∙ R.kind
              ∙ ap (λ (y : BondEntry). reverse_of y.kind) (sym (entry_is a i h l));
        },
      )

  nodes_held : Held g
  nodes_held =
      record {
        known = λ a i h l. let c = closed_all ns closed a i (in_nodes a i l) (at_node a i l) in
            rw (leads_at a i c.0 h l c.1) (backed_at a i c.0 h l c.1).0;
        backed = λ a i h l. let c = closed_all ns closed a i (in_nodes a i l) (at_node a i l) in
            subst (λ (t : ℕ). Backed g a t (bond_of g a i)) (sym (leads_at a i c.0 h l c.1)) (backed_at a i c.0 h l c.1).1;
      }

-- ---- the law
-- A line that is read with 0 and written again, whatever room is lent, is never answered with 5, 7 or 9.
pub rewritten_says : (s : List ℕ) (la lb n m room : ℕ) → (read_text s la lb).answer ≡ Ok (graph_size n m)
    → blames_end (write_plain room (read_text s la lb).atoms n (read_text s la lb).bonds m).answer ≡ false
rewritten_says s la lb n m room e =
    let d = done_holds s la lb n m e in
    let b = done_built s la lb n m e in
    let ns : List Node = (sketch_of s la lb).nodes in
    subst (λ (x : Said). blames_end (write_plain room x.atoms n x.bonds m).answer ≡ false) (sym d.0)
    (held_says (padded la (atom_table ns)) n (padded lb (bond_table ns)) m
    (λ few most. nodes_held ns n la lb d.1 b.closed b.atoms few (omega (arith, most, b.entries))) room)
