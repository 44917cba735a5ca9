-- The builder follows the walk: what each event makes of a sketch that is the view of the walk's state.
use mathlib.Core.Path.{◌≡◌, refl, sym, ap, ap₂, ◌∙◌, subst}
use mathlib.Core.Logic.{◌≢◌}
use mathlib.Core.List.{List, [], ◌∷◌, ◌++◌, map, nil≢cons, map-append}
use mathlib.Core.Option.{none, some}
use mathlib.Core.Bool.{Bool, true, false}
use Prim.Native.Nat.{ℕ, zero, suc, ◌+◌, ◌≤◌, ◌<◌}
use native.Mathlib.Omega.{arith}
use lib.ListN.{length, drop, length-map}
use lib.Dec.{ltb, leb, eqb}
use borrow.Author.Tests.{eq-eqb, ne_eqb, le-ltb, lt-leb, eqb-true}
use Rattle.feature.specs.Pick.{pick}
use Rattle.feature.specs.Kinds.{invert_of}
use Rattle.feature.specs.Bonds.{code_of, reverse_of, is_directional, reconcile_of}
use Rattle.feature.specs.declared.atom_kind.AtomKind.{AtomKind}
use Rattle.std.specs.Prelude.{Some}
use Rattle.feature.specs.declared.bond_kind.BondKind.{BondKind}
use Rattle.feature.specs.declared.bond_kind.BondKind.TheVariants.{Elided, Single, Double, Triple, Quadruple, Aromatic, Up, Down}
use Rattle.feature.proofs.Cases.{by_eq}
use Rattle.read_line.specs.declared.lead.Lead.TheVariants.{Dot, Bond as Bonded}
use Rattle.read_line.specs.Events.{ReadEvent, Enter, Join, Pop}
use Rattle.writer.specs.Line as writer
use Rattle.desk_numbers.specs.Numbers.{atom_room, bond_room}
use Rattle.builder_meaning.specs.Sketch.{To, Open, Node, Held, None, Sketch, edge, node, held, refused, atom_added, joined, next_number, count_of, upd, edges_at, add_edge, open_kind, fill, lookup, ring_freed, root_s, bonded_s, extend_s, opened_s, closed_s, ring_s, join_s, enter_s, number_s, step_s, run_s}
use Rattle.builder_meaning.proofs.Rows.{count_append, count_add, count_fill, upd_length}
use Rattle.walk_entry.specs.Graph.{BondEntry, Graph, entry_to}
use Rattle.walk.specs.Walk.{pops_of}
use Rattle.walk_laws.specs.Trek.{degrees}
use Rattle.trip_graph.specs.Opened.{Pair, ring_pair, look, del, num_in, join_in, Distinct}
use Rattle.trip_graph.proofs.Lists.{memb, idx, Nodup, same_refl, by_bool, or_true, or_true_left, or_elim, idx_app, idx_new, idx_lt}
use Rattle.trip_graph.proofs.View.{has_t, kind_t, NodupB, view, push, view_open, view_extend, view_close, close_kind, view_root}
use Rattle.trip_graph.proofs.Opens.{held_of, look_in, look_one, lookup_none, lookup_some, without_map, join_del_true, Froms, held_snoc}
use Rattle.trip_text.specs.Steps.{retold_one, retold}

unfoldable pub idxs : List ℕ → List ℕ → List ℕ
idxs o [] = []
idxs o (v ∷ fr) = idx v o ∷ idxs o fr

-- what a sketch is, where fr is the current atom and those above it, pend atoms were left since the last event, o is the order of
-- the atoms met, d has the entries behind the walk and P the open pairs
pub record Bld (g : Graph) (κ : ℕ → AtomKind) (fr : List ℕ) (pend : ℕ) (o : List ℕ) (d : ℕ → List BondEntry) (P : List Pair) (b : Sketch) : Type 0 where
  pub junk : List ℕ
  pub stk : drop pend b.path ≡ idxs o fr ++ junk
  pub gr : b.nodes ≡ map (view κ o P d) o
  pub ops : b.opens ≡ map (held_of o) P
  pub noerr : b.failure ≡ None
  pub counted : b.unseen ≡ 0
  pub fine : b.refusal ≡ 0
  pub places : g.size ≤ b.places
  pub slots : degrees g g.size ≤ b.slots
  pub joins : (j : ℕ) → join_in j P ≡ true → j < b.joins

-- ---- events in a row
pub run_refused : (d : Sketch) (es : List ReadEvent) → eqb d.refusal 0 ≡ false → run_s d es ≡ d
unfolding run_s
run_refused d [] h = refl
run_refused d (e ∷ es) h = rw h

pub run_app : (d : Sketch) (es fs : List ReadEvent) → run_s d (es ++ fs) ≡ run_s (run_s d es) fs
unfolding run_s
run_app d [] fs = refl
run_app d (e ∷ es) fs =
    by_bool (eqb d.refusal 0) (λ q. rw q (run_app (step_s d e) es fs)) (λ q. rw q (sym (run_refused d fs q)))

pub told_app : (es fs : List writer.Event) → retold (es ++ fs) ≡ retold es ++ retold fs
unfolding retold
told_app es fs = map-append retold_one es fs

pub run_one : (d : Sketch) (e : ReadEvent) → d.refusal ≡ 0 → run_s d (e ∷ []) ≡ step_s d e
unfolding run_s
run_one d e h = rw (eq-eqb d.refusal 0 h)

-- pops, then an event
pub run_pops : (d : Sketch) (n : ℕ) (e : writer.Event) → run_s d (retold (pops_of n ++ (e ∷ []))) ≡ run_s (run_s d (retold (pops_of n))) (retold_one e ∷ [])
unfolding retold
run_pops d n e = ap (run_s d) (map-append retold_one (pops_of n) (e ∷ [])) ∙ run_app d (retold (pops_of n)) (retold_one e ∷ [])

-- ---- small laws
pick_no : {A : Type 0} (q : Bool) (x y : A) → q ≡ false → pick q x y ≡ y
pick_no q x y h = rw h

pub reconcile_back : (k : BondKind) → reconcile_of (reverse_of k) k ≡ Some (reverse_of k, k)
unfolding reconcile_of reverse_of code_of is_directional
reconcile_back Elided = refl
reconcile_back Single = refl
reconcile_back Double = refl
reconcile_back Triple = refl
reconcile_back Quadruple = refl
reconcile_back Aromatic = refl
reconcile_back Up = refl
reconcile_back Down = refl

idxs_snoc : (o : List ℕ) (t : ℕ) (fr : List ℕ) → ((v : ℕ) → memb v fr ≡ true → memb v o ≡ true) → idxs (o ++ (t ∷ [])) fr ≡ idxs o fr
unfolding idxs memb
idxs_snoc o t [] h = refl
idxs_snoc o t (x ∷ fr) h = ap₂ (λ (a : ℕ) (l : List ℕ). a ∷ l) (idx_app x o (t ∷ []) (h x (or_true_left _ (same_refl x)))) (idxs_snoc o t fr (λ v k. h v (or_true (eqb v x) k)))

drop_suc : (n : ℕ) (l : List ℕ) {x : ℕ} {m : List ℕ} → drop n l ≡ x ∷ m → drop (suc n) l ≡ m
drop_suc zero l h = ap (drop 1) h
drop_suc (suc n) [] h = absurd (nil≢cons h)
drop_suc (suc n) (y ∷ l) h = drop_suc n l h

-- the entry at hand: its atom was met, no entry before it leads where it leads, and that is another atom
pub record Entry (s : ℕ) (e : BondEntry) (o : List ℕ) (d : ℕ → List BondEntry) : Type 0 where
  pub ms : memb s o ≡ true
  pub fresh : has_t e.to (d s) ≡ false
  pub apart : s ≢ e.to

module _ (g : Graph) (κ : ℕ → AtomKind) (o : List ℕ) (d : ℕ → List BondEntry) (P : List Pair) where
  pub bld_pops : (fr : List ℕ) (n : ℕ) (b : Sketch) → Bld g κ fr n o d P b → Bld g κ fr zero o d P (run_s b (retold (pops_of n)))
  unfolding pops_of retold retold_one step_s
  bld_pops fr n b B =
      by_eq n 0
      (λ e. rw (eq-eqb n 0 e) (unfold run_s in subst (λ (i : ℕ). Bld g κ fr i o d P b) e B))
      (λ e. rw (ne_eqb n 0 e) (rw (run_one b (Pop n) B.fine) (record {
        junk = B.junk;
        stk = B.stk;
        gr = B.gr;
        ops = B.ops;
        noerr = B.noerr;
        counted = B.counted;
        fine = B.fine;
        places = B.places;
        slots = B.slots;
        joins = B.joins;
      })))

  -- the current atom left for the one above it
  pub bld_left : (v : ℕ) (fr : List ℕ) (n : ℕ) (b : Sketch) → Bld g κ (v ∷ fr) n o d P b → Bld g κ fr (suc n) o d P b
  unfolding idxs
  bld_left v fr n b B =
      record {
        junk = B.junk;
        stk = drop_suc n b.path B.stk;
        gr = B.gr;
        ops = B.ops;
        noerr = B.noerr;
        counted = B.counted;
        fine = B.fine;
        places = B.places;
        slots = B.slots;
        joins = B.joins;
      }

  -- a component ended
  pub bld_ended : (fr : List ℕ) (n : ℕ) (b : Sketch) → Bld g κ fr n o d P b → Bld g κ [] zero o d P b
  unfolding idxs
  bld_ended fr n b B =
      record {
        junk = b.path;
        stk = refl;
        gr = B.gr;
        ops = B.ops;
        noerr = B.noerr;
        counted = B.counted;
        fine = B.fine;
        places = B.places;
        slots = B.slots;
        joins = B.joins;
      }

  length_nodes : {fr : List ℕ} {n : ℕ} {b : Sketch} → Bld g κ fr n o d P b → length b.nodes ≡ length o
  length_nodes B = ap length B.gr ∙ length-map o _

  number_is : {fr : List ℕ} {n : ℕ} {b : Sketch} → Bld g κ fr n o d P b → next_number b ≡ length o
  unfolding next_number
  number_is B = omega (arith, length_nodes B, B.counted)

  -- a root
  pub bld_root : (i n : ℕ) (b : Sketch) (k : AtomKind) (κ' : ℕ → AtomKind) → ((v : ℕ) → v ≢ i → κ' v ≡ κ v) → k ≡ κ' i → memb i o ≡ false → d i ≡ []
      → ((v x : ℕ) → has_t x (d v) ≡ true → memb x o ≡ true) → Froms o P → length o < g.size → Bld g κ [] n o d P b
      → Bld g κ' (i ∷ []) zero (o ++ (i ∷ [])) d P (step_s b (Enter Dot k 0))
  unfolding idxs step_s enter_s root_s
  bld_root i n b k κ' kq ki mi u seen fm small B =
      let num : next_number b ≡ length o = number_is B in
      let pl : g.size ≤ b.places = B.places in
      let is : enter_s b Dot k 0 b.failure ≡ atom_added b (b.nodes ++ (node k [] ∷ [])) (next_number b) =
      ap (enter_s b Dot k 0) B.noerr
      ∙ pick_no (leb b.places (next_number b)) (refused b atom_room 0) (atom_added b (b.nodes ++ (node k [] ∷ [])) (next_number b)) (lt-leb b.places (next_number b) (omega arith)) in
      rw is (record {
        junk = b.path;
        stk = ap (λ (x : ℕ). x ∷ b.path) (num ∙ sym (idx_new i o mi));
        gr = ap₂ (λ (l : List Node) (x : AtomKind). l ++ (node x [] ∷ [])) B.gr ki ∙ sym (view_root κ κ' o P d i kq mi seen u);
        ops = B.ops ∙ sym (held_snoc o i fm);
        noerr = B.noerr;
        counted = B.counted;
        fine = B.fine;
        places = B.places;
        slots = B.slots;
        joins = B.joins;
      })

  module _ (s : ℕ) (e : BondEntry) (fs : List ℕ) (E : Entry s e o d) (nod : Nodup o) (seen : (v x : ℕ) → has_t x (d v) ≡ true → memb x o ≡ true) (b : Sketch)
      (B : Bld g κ (s ∷ fs) zero o d P b) where
    stands : b.path ≡ idx s o ∷ (idxs o fs ++ B.junk)
    unfolding idxs
    stands = B.stk

    place_in : idx s o < length b.nodes
    place_in = rw (length_nodes B) (idx_lt s o E.ms)

    -- a new atom
    pub bld_extend : (k : AtomKind) (κ' : ℕ → AtomKind) → ((v : ℕ) → v ≢ e.to → κ' v ≡ κ v) → invert_of k ≡ Some (κ' e.to) → memb e.to o ≡ false → d e.to ≡ []
        → look P s e.to ≡ none → look P e.to s ≡ none → Froms o P → ((v : ℕ) → memb v fs ≡ true → memb v o ≡ true) → length o < g.size
        → count_of (map (view κ' (o ++ (e.to ∷ [])) P (push e.to (entry_to (reverse_of e.kind) s) (push s e d))) (o ++ (e.to ∷ []))) ≤ degrees g g.size
        → Bld g κ' (e.to ∷ s ∷ fs) zero (o ++ (e.to ∷ [])) (push e.to (entry_to (reverse_of e.kind) s) (push s e d)) P (step_s b (Enter (Bonded e.kind) k 0))
    unfolding idxs step_s enter_s extend_s bonded_s
    bld_extend k κ' kq kt mt u l1 l2 fm above small room =
        let t : ℕ = e.to in
        let num : next_number b ≡ length o = number_is B in
        let pl : g.size ≤ b.places = B.places in
        let sl : degrees g g.size ≤ b.slots = B.slots in
        let new : List Node = upd (idx s o) (add_edge (edge e.kind (To (length o)))) b.nodes ++ (node (κ' t) (edge (reverse_of e.kind) (To (idx s o)) ∷ []) ∷ []) in
        let grows : new ≡ map (view κ' (o ++ (t ∷ [])) P (push t (entry_to (reverse_of e.kind) s) (push s e d))) (o ++ (t ∷ [])) =
        ap (λ (l : List Node). upd (idx s o) (add_edge (edge e.kind (To (length o)))) l ++ (node (κ' t) (edge (reverse_of e.kind) (To (idx s o)) ∷ []) ∷ [])) B.gr
        ∙ sym (view_extend κ o P d s e nod E.ms seen E.fresh κ' kq mt u l1 l2) in
        let two : count_of new ≡ count_of b.nodes + 2 =
        count_append (upd (idx s o) (add_edge (edge e.kind (To (length o)))) b.nodes) _
        ∙ unfold count_of in omega (arith, count_add (idx s o) (edge e.kind (To (length o))) b.nodes place_in) in
        let fits : count_of b.nodes + 2 ≤ b.slots = omega (arith, ap count_of grows) in
        let is : enter_s b (Bonded e.kind) k 0 b.failure ≡ atom_added b new (next_number b) =
        ap (enter_s b (Bonded e.kind) k 0) B.noerr
        ∙ ap (extend_s b e.kind k 0) stands
        ∙ pick_no (leb b.places (next_number b)) (refused b atom_room 0)
        (pick (ltb b.slots (count_of b.nodes + 2)) (refused b bond_room 0) (bonded_s b e.kind (idx s o) (invert_of k)))
        (lt-leb b.places (next_number b) (omega arith))
        ∙ pick_no (ltb b.slots (count_of b.nodes + 2)) (refused b bond_room 0) (bonded_s b e.kind (idx s o) (invert_of k))
        (le-ltb b.slots (count_of b.nodes + 2) fits)
        ∙ ap (bonded_s b e.kind (idx s o)) kt
        ∙ ap (λ (n : ℕ). atom_added b (upd (idx s o) (add_edge (edge e.kind (To n))) b.nodes ++ (node (κ' t) (edge (reverse_of e.kind) (To (idx s o)) ∷ []) ∷ [])) (next_number b)) num in
        rw is (record {
          junk = B.junk;
          stk = ap₂ (λ (x : ℕ) (l : List ℕ). x ∷ l) (num ∙ sym (idx_new t o mt))
              (stands ∙ ap₂ (λ (x : ℕ) (l : List ℕ). x ∷ (l ++ B.junk)) (sym (idx_app s o (t ∷ []) E.ms)) (sym (idxs_snoc o t fs above)));
          gr = grows;
          ops = B.ops ∙ sym (held_snoc o t fm);
          noerr = B.noerr;
          counted = B.counted;
          fine = B.fine;
          places = B.places;
          slots = B.slots;
          joins = B.joins;
        })

    -- a new number
    pub bld_open : (r : ℕ) → num_in r P ≡ false
        → count_of (map (view κ o (ring_pair s e.to r b.joins ∷ P) (push s e d)) o) ≤ degrees g g.size
        → Bld g κ (s ∷ fs) zero o (push s e d) (ring_pair s e.to r b.joins ∷ P) (step_s b (Join e.kind r 0))
    unfolding idxs step_s number_s join_s ring_s opened_s held_of join_in
    bld_open r new room =
        let sl : degrees g g.size ≤ b.slots = B.slots in
        let grows : upd (idx s o) (add_edge (edge e.kind (Open b.joins))) b.nodes ≡ map (view κ o (ring_pair s e.to r b.joins ∷ P) (push s e d)) o =
        ap (upd (idx s o) (add_edge (edge e.kind (Open b.joins)))) B.gr ∙ sym (view_open κ o P d s e nod E.ms seen E.fresh r b.joins) in
        let fits : count_of b.nodes + 1 ≤ b.slots =
        omega (arith, ap count_of grows, count_add (idx s o) (edge e.kind (Open b.joins)) b.nodes place_in) in
        let is : number_s b e.kind r 0 b.failure ≡ opened_s b e.kind r (idx s o) =
        ap (number_s b e.kind r 0) B.noerr
        ∙ ap (join_s b e.kind r 0) stands
        ∙ ap (ring_s b e.kind r 0 (idx s o)) (ap (lookup r) B.ops ∙ lookup_none o P r new)
        ∙ pick_no (ltb b.slots (count_of b.nodes + 1)) (refused b bond_room 0) (opened_s b e.kind r (idx s o)) (le-ltb b.slots (count_of b.nodes + 1) fits) in
        rw is (record {
          junk = B.junk;
          stk = B.stk;
          gr = grows;
          ops = ap (λ (l : List Held). held r (idx s o) b.joins ∷ l) B.ops;
          noerr = B.noerr;
          counted = B.counted;
          fine = B.fine;
          places = B.places;
          slots = B.slots;
          joins = λ j h. or_elim (eqb j b.joins) (join_in j P) h (λ q. let z = eqb-true j b.joins q in omega arith) (λ q. omega (arith, B.joins j q));
        })

    -- the number of an open pair
    pub bld_close : (x : Pair) → memb e.to o ≡ true → Distinct P → look P e.to s ≡ some x → look P s e.to ≡ none
        → NodupB (d e.to) → has_t s (d e.to) ≡ true → kind_t s (d e.to) ≡ reverse_of e.kind
        → count_of (map (view κ o (del e.to s P) (push s e d)) o) ≤ degrees g g.size
        → Bld g κ (s ∷ fs) zero o (push s e d) (del e.to s P) (step_s b (Join e.kind x.num 0))
    unfolding idxs step_s number_s join_s ring_s closed_s held_of
    bld_close x mt good l l' nt has back room =
        let t : ℕ = e.to in
        let sl : degrees g g.size ≤ b.slots = B.slots in
        let one : (v : ℕ) (y : Pair) → look P t v ≡ some y → y.join ≡ x.join → v ≡ s = λ v y k q. look_one P t s v x y good l k q in
        let h : Held = held x.num (idx t o) x.join in
        let new : List Node = upd (idx s o) (add_edge (edge e.kind (To (idx t o)))) (upd (idx t o) (fill x.join (reverse_of e.kind) (idx s o)) b.nodes) in
        let grows : new ≡ map (view κ o (del t s P) (push s e d)) o =
        ap (λ (n : List Node). upd (idx s o) (add_edge (edge e.kind (To (idx t o)))) (upd (idx t o) (fill x.join (reverse_of e.kind) (idx s o)) n)) B.gr
        ∙ sym (view_close κ o P d s e x nod E.ms mt E.apart l l' one nt has back) in
        let filled : List Node = upd (idx t o) (fill x.join (reverse_of e.kind) (idx s o)) b.nodes in
        let in_filled : idx s o < length filled = rw (upd_length (idx t o) (fill x.join (reverse_of e.kind) (idx s o)) b.nodes) place_in in
        let fits : count_of b.nodes + 1 ≤ b.slots =
        omega (arith, ap count_of grows, count_add (idx s o) (edge e.kind (To (idx t o))) filled in_filled, count_fill (idx t o) x.join (reverse_of e.kind) (idx s o) b.nodes) in
        let found : lookup x.num b.opens ≡ some h =
        ap (lookup x.num) B.ops ∙ lookup_some o P t s x good l ∙ ap (λ (i : ℕ). some (held x.num (idx i o) x.join)) (sym (look_in P t s x l).from) in
        let kinds : reconcile_of (open_kind x.join (edges_at (idx t o) b.nodes)) e.kind ≡ Some (reverse_of e.kind, e.kind) =
        ap (λ (k : BondKind). reconcile_of k e.kind)
        (ap (λ (n : List Node). open_kind x.join (edges_at (idx t o) n)) B.gr ∙ close_kind κ o P d s e x nod E.ms mt E.apart l l' one nt has back)
        ∙ reconcile_back e.kind in
        let is : number_s b e.kind x.num 0 b.failure ≡ joined b new (ring_freed x.num b.opens) =
        ap (number_s b e.kind x.num 0) B.noerr
        ∙ ap (join_s b e.kind x.num 0) stands
        ∙ ap (ring_s b e.kind x.num 0 (idx s o)) found
        ∙ ap (closed_s b x.num 0 (idx s o) h) kinds
        ∙ pick_no (ltb b.slots (count_of b.nodes + 1)) (refused b bond_room 0) (joined b new (ring_freed x.num b.opens)) (le-ltb b.slots (count_of b.nodes + 1) fits) in
        rw is (record {
          junk = B.junk;
          stk = B.stk;
          gr = grows;
          ops = ap (ring_freed x.num) B.ops ∙ without_map o P t s x good l;
          noerr = B.noerr;
          counted = B.counted;
          fine = B.fine;
          places = B.places;
          slots = B.slots;
          joins = λ j q. omega (arith, B.joins j (join_del_true P t s j q));
        })
