-- What a builder makes of events does not depend on the kinds of atoms, but for a mark that can't be turned: a builder is told events,
-- another with no less room the same with a star for each atom. Assumes nothing.
use mathlib.Core.Path.{◌≡◌, refl, sym, ap, ap₂, ◌∙◌, subst}
use mathlib.Core.Logic.{◌≢◌}
use mathlib.Core.List.{List, [], ◌∷◌, ◌++◌, map}
use mathlib.Core.Option.{Option, none, some}
use mathlib.Core.Bool.{Bool, true, false, false≢true}
use Prim.Native.Nat.{ℕ, zero, suc, ◌+◌, ◌≤◌}
use native.Mathlib.Omega.{arith}
use lib.ListN.{length}
use lib.Dec.{leb, ltb, eqb}
use borrow.Author.Tests.{ne_eqb, eqb-false, leb-false, lt-leb, ltb-false, le-ltb}
use Rattle.feature.specs.Pick.{pick}
use Rattle.feature.specs.Kinds.{invert_of}
use Rattle.feature.specs.Bonds.{reverse_of, reconcile_of}
use Rattle.feature.specs.declared.atom_kind.AtomKind.{AtomKind}
use Rattle.feature.specs.declared.atom_kind.AtomKind.TheVariants.{Star}
use Rattle.std.specs.Prelude as std
use Rattle.std.specs.Prelude.{Some}
use Rattle.feature.specs.declared.bond_kind.BondKind.{BondKind}
use Rattle.read_token.specs.declared.scanner.Missing.{Missing}
use Rattle.read_token.specs.declared.scanner.Missing.TheVariants.{EndOfLine, Character}
use Rattle.desk_numbers.specs.Numbers.{nesting}
use Rattle.read_line.specs.declared.lead.Lead.{Lead}
use Rattle.read_line.specs.declared.lead.Lead.TheVariants.{Dot, Bond}
use Rattle.read_line.specs.Events.{ReadEvent, Enter, Join, Pop, Miss, Nest, has_nest}
use Rattle.builder_meaning.specs.Sketch.{To, Open, Edge, edge, Node, node, Sketch, sketch, Held, Failure, None, Failed, refused, next_number, count_of, upd, edges_at, add_edge, open_kind, fill, root_s, extend_s, bonded_s, opened_s, closed_s, ring_s, join_s, judged_s, enter_s, number_s, missed_s, step_s, run_s, lookup, open_in, first_open_s, rings_say, says_s, finish_s}
use Rattle.feature.proofs.Cases.{by_test}
use Rattle.trip_graph.proofs.Lists.{by_bool}
use Rattle.trip_graph.proofs.Follows.{run_refused}
use Rattle.trip_text.proofs.Starred.{bare_event, Lost, miss, nest, more}

-- ---- atoms
unfoldable pub bare_node : Node → Node
bare_node n = node Star n.edges

abbrev pub bares : List Node → List Node
bares ns = map bare_node ns

bares_length : (ns : List Node) → length (bares ns) ≡ length ns
bares_length [] = refl
bares_length (n ∷ ns) = ap suc (bares_length ns)

bares_count : (ns : List Node) → count_of (bares ns) ≡ count_of ns
unfolding count_of bare_node
bares_count [] = refl
bares_count (n ∷ ns) = ap (λ (m : ℕ). length n.edges + m) (bares_count ns)

bares_edges : (i : ℕ) (ns : List Node) → edges_at i (bares ns) ≡ edges_at i ns
unfolding edges_at bare_node
bares_edges i [] = refl
bares_edges zero (n ∷ ns) = refl
bares_edges (suc i) (n ∷ ns) = bares_edges i ns

bares_more : (ns : List Node) (n : Node) → bares (ns ++ (n ∷ [])) ≡ bares ns ++ (bare_node n ∷ [])
bares_more [] n = refl
bares_more (m ∷ ns) n = ap (λ (l : List Node). bare_node m ∷ l) (bares_more ns n)

bares_upd : (i : ℕ) (f : Node → Node) (ns : List Node) → ((n : Node) → bare_node (f n) ≡ f (bare_node n)) → bares (upd i f ns) ≡ upd i f (bares ns)
unfolding upd
bares_upd i f [] h = refl
bares_upd zero f (n ∷ ns) h = ap (λ (m : Node). m ∷ bares ns) (h n)
bares_upd (suc i) f (n ∷ ns) h = ap (λ (l : List Node). bare_node n ∷ l) (bares_upd i f ns h)

bares_add : (i : ℕ) (e : Edge) (ns : List Node) → bares (upd i (add_edge e) ns) ≡ upd i (add_edge e) (bares ns)
unfolding add_edge bare_node
bares_add i e ns = bares_upd i (add_edge e) ns (λ n. refl)

bares_fill : (i j : ℕ) (k : BondKind) (t : ℕ) (ns : List Node) → bares (upd i (fill j k t) ns) ≡ upd i (fill j k t) (bares ns)
unfolding fill bare_node
bares_fill i j k t ns = bares_upd i (fill j k t) ns (λ n. refl)

bares_open : (ns : List Node) → first_open_s (bares ns) ≡ first_open_s ns
unfolding first_open_s bare_node
bares_open [] = refl
bares_open (n ∷ ns) = ap (open_in n.edges) (bares_open ns)

module _ (p l : ℕ) where
  -- with a star for each atom, and room for p atoms and l entries
  abbrev pub bare : Sketch → Sketch
  bare d =
      sketch p l (bares d.nodes) d.path d.opens d.joins d.failure d.unseen d.refusal d.carried

  -- x has refused something, or y is the same
  pub data Bares (x y : Sketch) : Type 0 where
    same : y ≡ bare x → x.places ≤ p → x.slots ≤ l → Bares x y
    off : x.refusal ≢ 0 → Bares x y

  says_bare : (f : Failure) (ns : List Node) → says_s f (bares ns) ≡ says_s f ns
  unfolding says_s
  says_bare None ns = ap rings_say (bares_open ns)
  says_bare (Failed x y) ns = refl

  pub finish_bare : (d : Sketch) → finish_s (bare d) ≡ finish_s d
  unfolding finish_s
  finish_bare d = says_bare d.failure d.nodes

  -- a choice between a refusal and what goes on
  pick_bare : (q r : Bool) (x x' y y' : Sketch) → (q ≡ false → r ≡ false) → x.refusal ≢ 0 → Bares y y' → Bares (pick q x y) (pick r x' y')
  pick_bare true r x x' y y' t h k = off h
  pick_bare false r x x' y y' t h k = rw (t refl) k

  module _ (d : Sketch) (hp : d.places ≤ p) (hl : d.slots ≤ l) where
    next_bare : next_number (bare d) ≡ next_number d
    unfolding next_number
    next_bare = ap (λ (n : ℕ). n + d.unseen) (bares_length d.nodes)

    few : leb d.places (next_number d) ≡ false → leb p (next_number (bare d)) ≡ false
    few q = lt-leb p (next_number (bare d)) (omega (arith, hp, next_bare, leb-false d.places (next_number d) q))

    less : (n : ℕ) → ltb d.slots (count_of d.nodes + n) ≡ false → ltb l (count_of (bares d.nodes) + n) ≡ false
    less n q = le-ltb l (count_of (bares d.nodes) + n) (omega (arith, hl, bares_count d.nodes, ltb-false d.slots (count_of d.nodes + n) q))

    -- an atom more
    added : (ns ms : List Node) → ms ≡ bares ns
        → sketch p l ms (next_number (bare d) ∷ d.path) d.opens d.joins d.failure d.unseen d.refusal d.carried
        ≡ bare (sketch d.places d.slots ns (next_number d ∷ d.path) d.opens d.joins d.failure d.unseen d.refusal d.carried)
    added ns ms e =
        ap₂ (λ (x : List Node) (n : ℕ). sketch p l x (n ∷ d.path) d.opens d.joins d.failure d.unseen d.refusal d.carried) e next_bare

    root_bare : (k : AtomKind) (place i : ℕ) → Bares (root_s d k place) (root_s (bare d) Star i)
    unfolding root_s bare_node
    root_bare k place i =
        pick_bare (leb d.places (next_number d)) (leb p (next_number (bare d))) _ _ _ _ few (λ z. omega arith)
        (same (added (d.nodes ++ (node k [] ∷ [])) _ (sym (bares_more d.nodes (node k [])))) hp hl)

    bonded_bare : (e : BondKind) (s : ℕ) (x : std.Option AtomKind) → Bares (bonded_s d e s x) (bonded_s (bare d) e s (Some Star))
    unfolding bonded_s bare_node
    bonded_bare e s std.None = off (λ z. omega arith)
    bonded_bare e s (Some k) =
        let ns : List Node = upd s (add_edge (edge e (To (next_number d)))) d.nodes in
        same (added (ns ++ (node k (edge (reverse_of e) (To s) ∷ []) ∷ [])) _
        (ap (λ (n : ℕ). upd s (add_edge (edge e (To n))) (bares d.nodes) ++ (node Star (edge (reverse_of e) (To s) ∷ []) ∷ [])) next_bare
        ∙ ap (λ (x : List Node). x ++ (node Star (edge (reverse_of e) (To s) ∷ []) ∷ [])) (sym (bares_add s (edge e (To (next_number d))) d.nodes))
        ∙ sym (bares_more ns (node k (edge (reverse_of e) (To s) ∷ []))))) hp hl

    extend_bare : (e : BondKind) (k : AtomKind) (place i : ℕ) (path : List ℕ) → Bares (extend_s d e k place path) (extend_s (bare d) e Star i path)
    unfolding extend_s invert_of
    extend_bare e k place i [] = off (λ z. omega arith)
    extend_bare e k place i (s ∷ rest) =
        pick_bare (leb d.places (next_number d)) (leb p (next_number (bare d))) _ _ _ _ few (λ z. omega arith)
        (pick_bare (ltb d.slots (count_of d.nodes + 2)) (ltb l (count_of (bares d.nodes) + 2)) _ _ _ _ (less 2) (λ z. omega arith) (bonded_bare e s (invert_of k)))

    -- a join more
    joined_as : (ns ms : List Node) (os : List Held) (f : Failure) → ms ≡ bares ns
        → sketch p l ms d.path os (d.joins + 1) f d.unseen d.refusal d.carried
        ≡ bare (sketch d.places d.slots ns d.path os (d.joins + 1) f d.unseen d.refusal d.carried)
    joined_as ns ms os f e =
        ap (λ (x : List Node). sketch p l x d.path os (d.joins + 1) f d.unseen d.refusal d.carried) e

    opened_bare : (e : BondKind) (n s : ℕ) → Bares (opened_s d e n s) (opened_s (bare d) e n s)
    unfolding opened_s
    opened_bare e n s = same (joined_as (upd s (add_edge (edge e (Open d.joins))) d.nodes) _ _ _ (sym (bares_add s (edge e (Open d.joins)) d.nodes))) hp hl

    closed_bare : (n place i s : ℕ) (h : Held) (r : std.Option (BondKind × BondKind)) → Bares (closed_s d n place s h r) (closed_s (bare d) n i s h r)
    unfolding closed_s
    closed_bare n place i s h std.None = same refl hp hl
    closed_bare n place i s h (Some (a, b)) =
        pick_bare (ltb d.slots (count_of d.nodes + 1)) (ltb l (count_of (bares d.nodes) + 1)) _ _ _ _ (less 1) (λ z. omega arith)
        (same (joined_as (upd s (add_edge (edge b (To h.atom))) (upd h.atom (fill h.join a s) d.nodes)) _ _ _
        (ap (upd s (add_edge (edge b (To h.atom)))) (sym (bares_fill h.atom h.join a s d.nodes))
        ∙ sym (bares_add s (edge b (To h.atom)) (upd h.atom (fill h.join a s) d.nodes)))) hp hl)

    ring_bare : (e : BondKind) (n place i s : ℕ) (o : Option Held) → Bares (ring_s d e n place s o) (ring_s (bare d) e n i s o)
    unfolding ring_s
    ring_bare e n place i s none =
        pick_bare (ltb d.slots (count_of d.nodes + 1)) (ltb l (count_of (bares d.nodes) + 1)) _ _ _ _ (less 1) (λ z. omega arith) (opened_bare e n s)
    ring_bare e n place i s (some h) =
        subst (λ (es : List Edge). Bares (closed_s d n place s h (reconcile_of (open_kind h.join (edges_at h.atom d.nodes)) e)) (closed_s (bare d) n i s h (reconcile_of (open_kind h.join es) e))) (sym (bares_edges h.atom d.nodes))
        (closed_bare n place i s h _)

    join_bare : (e : BondKind) (n place i : ℕ) (path : List ℕ) → Bares (join_s d e n place path) (join_s (bare d) e n i path)
    unfolding join_s
    join_bare e n place i [] = off (λ z. omega arith)
    join_bare e n place i (s ∷ rest) = ring_bare e n place i s (lookup n d.opens)

    judged_bare : (x : std.Option AtomKind) → Bares (judged_s d x) (judged_s (bare d) (Some Star))
    unfolding judged_s
    judged_bare std.None = off (λ z. omega arith)
    judged_bare (Some k) = same refl hp hl

    enter_bare : (a : Lead) (k : AtomKind) (place i : ℕ) (f : Failure) → Bares (enter_s d a k place f) (enter_s (bare d) a Star i f)
    unfolding enter_s invert_of
    enter_bare Dot k place i None = root_bare k place i
    enter_bare (Bond e) k place i None = extend_bare e k place i d.path
    enter_bare Dot k place i (Failed x y) = same refl hp hl
    enter_bare (Bond e) k place i (Failed x y) = judged_bare (invert_of k)

    number_bare : (e : BondKind) (n place i : ℕ) (f : Failure) → Bares (number_s d e n place f) (number_s (bare d) e n i f)
    unfolding number_s
    number_bare e n place i None = join_bare e n place i d.path
    number_bare e n place i (Failed x y) = same refl hp hl

    missed_off : (m : Missing) → (missed_s d m).refusal ≢ 0
    unfolding missed_s
    missed_off EndOfLine = λ z. omega arith
    missed_off (Character place) = λ z. omega arith

    step_bare : (e : ReadEvent) → Bares (step_s d e) (step_s (bare d) (bare_event e))
    unfolding step_s bare_event
    step_bare (Enter a k place) = enter_bare a k place 0 d.failure
    step_bare (Join e n place) = number_bare e n place 0 d.failure
    step_bare (Pop n) = same refl hp hl
    step_bare (Miss m) = off (missed_off m)
    step_bare (Nest place) = off (λ z. omega arith)

  -- events in a row
  refused_off : (x : Sketch) (es : List ReadEvent) → x.refusal ≢ 0 → (run_s x es).refusal ≢ 0
  refused_off x es h = λ z. h (sym (ap (λ (c : Sketch). c.refusal) (run_refused x es (ne_eqb x.refusal 0 h))) ∙ z)

  then_bare : (es : List ReadEvent) (x y : Sketch) → ((d : Sketch) → d.places ≤ p → d.slots ≤ l → Bares (run_s d es) (run_s (bare d) (map bare_event es))) → Bares x y → Bares (run_s x es) (run_s y (map bare_event es))
  then_bare es x y f (same i hp hl) = subst (λ (c : Sketch). Bares (run_s x es) (run_s c (map bare_event es))) (sym i) (f x hp hl)
  then_bare es x y f (off h) = off (refused_off x es h)

  pub run_bare : (es : List ReadEvent) (d : Sketch) → d.places ≤ p → d.slots ≤ l → Bares (run_s d es) (run_s (bare d) (map bare_event es))
  unfolding run_s
  run_bare [] d hp hl = same refl hp hl
  run_bare (e ∷ es) d hp hl =
      by_bool (eqb d.refusal 0)
      (λ q. rw q (then_bare es (step_s d e) (step_s (bare d) (bare_event e)) (run_bare es) (step_bare d hp hl e)))
      (λ q. rw q (off (eqb-false _ _ q)))

-- ---- events that end with something missing or a branch too many are refused
lost_step : (d : Sketch) (e : ReadEvent) (x : List ReadEvent) → ((c : Sketch) → (run_s c x).refusal ≢ 0) → (run_s d (e ∷ x)).refusal ≢ 0
unfolding run_s
lost_step d e x f = by_test (λ (c : Sketch). c.refusal ≢ 0) (eqb d.refusal 0) (λ q. f (step_s d e)) (λ q. eqb-false _ _ q)

end_off : (d : Sketch) (e : ReadEvent) → (step_s d e).refusal ≢ 0 → (run_s d (e ∷ [])).refusal ≢ 0
unfolding run_s
end_off d e h = by_test (λ (c : Sketch). c.refusal ≢ 0) (eqb d.refusal 0) (λ q. h) (λ q. eqb-false _ _ q)

miss_off : (d : Sketch) (m : Missing) → (step_s d (Miss m)).refusal ≢ 0
unfolding step_s missed_s
miss_off d EndOfLine = λ z. omega arith
miss_off d (Character place) = λ z. omega arith

nest_off : (d : Sketch) (place : ℕ) → (step_s d (Nest place)).refusal ≢ 0
unfolding step_s
nest_off d place = λ z. omega arith

pub lost_refused : (x : List ReadEvent) → Lost x → (d : Sketch) → (run_s d x).refusal ≢ 0
lost_refused x (miss m) d = end_off d (Miss m) (miss_off d m)
lost_refused x (nest place) d = end_off d (Nest place) (nest_off d place)
lost_refused x (more e {x = y} l) d = lost_step d e y (lost_refused y l)

-- and so are those with a branch too many among them
nest_first : (d : Sketch) (place : ℕ) (x : List ReadEvent) → (run_s d (Nest place ∷ x)).refusal ≢ 0
unfolding run_s step_s
nest_first d place x =
    by_test (λ (c : Sketch). c.refusal ≢ 0) (eqb d.refusal 0) (λ q. refused_off 0 0 (refused d nesting place) x (λ z. omega arith)) (λ q. eqb-false _ _ q)

pub nest_refused : (x : List ReadEvent) → has_nest x ≡ true → (d : Sketch) → (run_s d x).refusal ≢ 0
unfolding has_nest
nest_refused [] h d = absurd (false≢true h)
nest_refused (Enter a k place ∷ x) h d = lost_step d (Enter a k place) x (nest_refused x h)
nest_refused (Join e n place ∷ x) h d = lost_step d (Join e n place) x (nest_refused x h)
nest_refused (Pop n ∷ x) h d = lost_step d (Pop n) x (nest_refused x h)
nest_refused (Miss m ∷ x) h d = lost_step d (Miss m) x (nest_refused x h)
nest_refused (Nest place ∷ x) h d = nest_first d place x
