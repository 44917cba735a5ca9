-- What a walk over a simple graph says, told to the builder, builds the graph renumbered in walk order.
use borrow.Author.Tests.{ne_eqb, eq-eqb}
use mathlib.Core.Path.{◌≡◌, refl, sym, ap, ap₂, ◌∙◌, subst}
use mathlib.Core.Logic.{◌≢◌}
use mathlib.Core.List.{List, [], ◌∷◌, ◌++◌, map}
use mathlib.Core.Option.{Option, none}
use mathlib.Core.Bool.{Bool, true, false, not, ◌&&◌}
use Prim.Native.Nat.{ℕ, zero, suc, ◌-◌, ◌≤◌, ◌<◌}
use native.Mathlib.Omega.{arith}
use lib.ListN.{length, get_or, replicate, length-append, length-map, get_or-append}
use lib.Seq.{get_or-append_seam}
use Rattle.std.specs.Prelude as std
use Rattle.std.specs.Prelude.{None}
use Rattle.feature.proofs.Cases.{by_eq, clash}
use Rattle.join_pool.specs.declared.Pool.{Pool}
use Rattle.writer.specs.Line.{Event, Root, Extend, Join, Pop}
use Rattle.builder_meaning.specs.Sketch.{To, Edge, Sketch, node, start_s, run_s, count_of, open_here, open_in, first_open_s, rings_say, says_s, finish_s}
use Rattle.walk_entry.specs.Graph.{BondEntry, Graph, kind_at, degree_at, bond_of}
use Rattle.walk.specs.Walk.{Walk, Turn, step_of, turn_of, walk_to, events_of, turns_of}
use Rattle.write.specs.Write.{pair_words}
use Rattle.walk_laws.specs.Trek.{Room, fresh, degrees, Finished}
use Rattle.walk_laws.proofs.Moves.{turn_moves}
use Rattle.walk_laws.proofs.Sound.{Sound, sound_start, step_sound}
use Rattle.walk_laws.proofs.Ended as walk-laws
use Rattle.walk.proofs.Going.{walk_off, step_on}
use Rattle.trip_graph.specs.Opened.{Pair, look, join_in, Serves, dnil, RingsHaveText}
use Rattle.trip_graph.specs.Renumber.{Simple, Backed, Numbering}
use Rattle.trip_graph.specs.Steps.{Built}
use Rattle.trip_graph.specs.Renumbered.{entries_of, edge_of, node_of, Numbers, by_walk, first_atoms, renumbered}
use Rattle.trip_graph.specs.Marks.{Tetrahedral, back_kind}
use Rattle.trip_graph.proofs.Lists.{memb, idx, Nodup, nil, cons, same_refl, map_same, idx_lt, memb_here, memb_there}
use Rattle.trip_graph.proofs.View.{has_t, tgt, enc_t, aim, view, enc_same, look_here, pair_this}
use Rattle.trip_graph.proofs.Opens.{Pol, fnil, from_first, is_some, held_of}
use Rattle.trip_graph.proofs.Entries.{Behind, first, done_all, done_has, done_length, entries_length}
use Rattle.trip_graph.proofs.Counts.{view_count_all}
use Rattle.trip_graph.proofs.Follows.{idxs, run_app, told_app}
use Rattle.trip_graph.proofs.State.{done_in, kind_by, order_of, mark_in, is_met, has_start, sta_start}
use Rattle.trip_graph.proofs.Turns.{Inv, Result, goes, stops, one_turn}
use Rattle.trip_graph.proofs.Pool.{Holds, pool_serves}
use Rattle.trip_text.specs.Steps.{retold}

-- ---- turns
numbered_app : (xs ys : List Event) → RingsHaveText xs → RingsHaveText ys → RingsHaveText (xs ++ ys)
numbered_app [] ys h k = k
numbered_app (Root a ∷ xs) ys h k = numbered_app xs ys h k
numbered_app (Extend b a ∷ xs) ys h k = numbered_app xs ys h k
numbered_app (Join b n ∷ xs) ys h k = (h.0, numbered_app xs ys h.1 k)
numbered_app (Pop d ∷ xs) ys h k = numbered_app xs ys h k

-- after any number of turns the builder has followed, or the walk was refused
pub data Walked (H : Pool → List ℕ → List Pair → Type 0) (g : Graph) (b : Sketch) (t : ℕ) (w : Walk) : Type 0 where
  follows : Inv H g (walk_to g t w) (run_s b (retold (events_of g t w))) → RingsHaveText (events_of g t w) → Walked H g b t w
  stopped : (walk_to g t w).at.refusal ≢ None → Walked H g b t w

module _ (H : Pool → List ℕ → List Pair → Type 0) (Q : Serves H) (g : Graph) (W : Simple g) (T : (a : ℕ) → a < g.size → Tetrahedral (kind_at g a)) where
  -- one turn, then the others
  then_walked : (t : ℕ) (w : Walk) (b : Sketch) (x : Turn) → step_of g w ≡ x → RingsHaveText x.said → Walked H g (run_s b (retold x.said)) t x.after → Walked H g b (suc t) w
  unfolding walk_to events_of
  then_walked t w b x e h (follows I k) =
      follows (subst (λ (y : Turn). Inv H g (walk_to g t y.after) (run_s b (retold (y.said ++ events_of g t y.after)))) (sym e)
      (subst (λ (c : Sketch). Inv H g (walk_to g t x.after) c) (sym (ap (run_s b) (told_app x.said (events_of g t x.after)) ∙ run_app b (retold x.said) (retold (events_of g t x.after)))) I))
      (subst (λ (y : Turn). RingsHaveText (y.said ++ events_of g t y.after)) (sym e) (numbered_app x.said (events_of g t x.after) h k))
  then_walked t w b x e h (stopped r) = stopped (subst (λ (y : Turn). (walk_to g t y.after).at.refusal ≢ None) (sym e) r)

  stop_walked : (t : ℕ) (w : Walk) (b : Sketch) (x : Turn) → step_of g w ≡ x → x.after.at.refusal ≢ None → Walked H g b (suc t) w
  unfolding walk_to
  stop_walked t w b x e r =
      stopped (subst (λ (y : Turn). (walk_to g t y.after).at.refusal ≢ None) (sym e) (λ z. r (ap (λ (v : Walk). v.at.refusal) (sym (walk_off g t x.after r)) ∙ z)))

  next_walked : (t : ℕ) (w : Walk) (b : Sketch) (n : ℕ) → Sound g (turn_of g w).after n → step_of g w ≡ turn_of g w
      → ((v : Walk) (c : Sketch) (m : ℕ) → Sound g v m → Inv H g v c → Walked H g c t v) → Result H g b (turn_of g w) → Walked H g b (suc t) w
  next_walked t w b n s e f (goes I h) = then_walked t w b (turn_of g w) e h (f (turn_of g w).after (run_s b (retold (turn_of g w).said)) n s I)
  next_walked t w b n s e f (stops r) = stop_walked t w b (turn_of g w) e r

  pub turns_walked : (t : ℕ) (w : Walk) (b : Sketch) (dep : ℕ) → Sound g w dep → Inv H g w b → Walked H g b t w
  unfolding walk_to events_of retold run_s
  turns_walked zero w b dep s I = follows I tt
  turns_walked (suc t) w b dep s I =
      let m = turn_moves g w dep in
      next_walked t w b m.0 (step_sound s m.1) (step_on g w I.fine) (turns_walked t) (one_turn H Q g W T w b dep s I)

-- ---- the beginning
module _ (H : Pool → List ℕ → List Pair → Type 0) (Q : Serves H) (g : Graph) (lm lw lb lt : ℕ) (wide : g.size ≤ lw) where
  abbrev w0 : Walk
  w0 = fresh lm lw lb lt (replicate pair_words 0)

  pub inv_start : (places slots : ℕ) → g.size ≤ places → degrees g g.size ≤ slots → Inv H g w0 (start_s places slots)
  unfolding is_some look idxs join_in
  inv_start places slots hp hs = record {
    order = [];
    frame = [];
    opened = [];
    sta = sta_start g lm lw lb lt (replicate pair_words 0) wide;
    pol = record { opn = λ a b. rw (has_start g lm lw lb lt (replicate pair_words 0) wide a b); good = dnil; froms = fnil };
    hold = Q.start;
    bld = record {
      junk = [];
      stk = refl;
      gr = refl;
      ops = refl;
      noerr = refl;
      counted = refl;
      fine = refl;
      places = hp;
      slots = hs;
      joins = λ j h. clash h refl;
    };
    fine = refl;
  }

-- ---- the end
-- lists by place
at_idx : (x : ℕ) (o : List ℕ) → memb x o ≡ true → get_or o (idx x o) 0 ≡ x
unfolding memb idx
at_idx x [] h = clash h refl
at_idx x (y ∷ o) h = by_eq x y (λ e. rw (eq-eqb _ _ e) (sym e)) (λ e. rw (ne_eqb x y e) (at_idx x o (rw (ne_eqb x y e) at h)))

at_memb : (o : List ℕ) (v : ℕ) → v < length o → memb (get_or o v 0) o ≡ true
at_memb [] v h = absurd (omega arith)
at_memb (y ∷ o) zero h = memb_here o refl
at_memb (y ∷ o) (suc v) h = memb_there (get_or o v 0) y o (at_memb o v (omega arith))

idx_at : {o : List ℕ} (v : ℕ) → Nodup o → v < length o → idx (get_or o v 0) o ≡ v
unfolding idx
idx_at v nil h = absurd (omega arith)
idx_at zero (cons {x = y} {l = o} k n) h = rw (same_refl y)
idx_at (suc v) (cons {x = y} {l = o} k n) h =
    rw (ne_eqb (get_or o v 0) y (λ e. clash (at_memb o v (omega arith)) (rw e k))) (ap suc (idx_at v n (omega arith)))

pub atoms_length : (atom : ℕ → ℕ) (n : ℕ) → length (first_atoms atom n) ≡ n
unfolding first_atoms
atoms_length atom zero = refl
atoms_length atom (suc n) = length-append (first_atoms atom n) (atom n ∷ []) ∙ omega (arith, atoms_length atom n)

pub atoms_at : (atom : ℕ → ℕ) (n v : ℕ) → v < n → get_or (first_atoms atom n) v 0 ≡ atom v
unfolding first_atoms
atoms_at atom zero v h = absurd (omega arith)
atoms_at atom (suc n) v h =
    by_eq v n
    (λ e. rw e (ap (λ (i : ℕ). get_or (first_atoms atom n ++ (atom n ∷ [])) i 0) (sym (atoms_length atom n)) ∙ get_or-append_seam (first_atoms atom n) (atom n) [] 0))
    (λ e. get_or-append (first_atoms atom n) (atom n ∷ []) 0 v (omega (arith, atoms_length atom n)) ∙ atoms_at atom n v (omega arith))

not_lone : (p q : Bool) → p && not q ≡ true → (p ≡ true → q ≡ true) → ⊥
not_lone true true h f = clash h refl
not_lone true false h f = clash (f refl) refl
not_lone false q h f = clash h refl

-- no entry is open
first_none : (number : ℕ → ℕ) (es : List BondEntry) (q : Option ℕ) → open_in (map (edge_of number) es) q ≡ q
unfolding open_in edge_of open_here
first_none number [] q = refl
first_none number (e ∷ es) q = first_none number es q

none_open : (g : Graph) (p : Numbers) (l : List ℕ) → first_open_s (map (node_of g p) l) ≡ none
unfolding first_open_s node_of
none_open g p [] = refl
none_open g p (a ∷ l) = first_none p.number (entries_of g a (p.parent a)) (first_open_s (map (node_of g p) l)) ∙ none_open g p l

module _ (H : Pool → List ℕ → List Pair → Type 0) (g : Graph) (W : Simple g) (w : Walk) (b : Sketch) (I : Inv H g w b) (F : Finished g w) where
  all_met : (a : ℕ) → a < g.size → memb a I.order ≡ true
  all_met a h = is_met I.sta a (F.met a h)

  all_taken : (v : ℕ) → memb v I.order ≡ true → get_or w.taken v 0 ≡ degree_at g v
  unfolding memb
  all_taken v m = omega (arith, I.sta.left v m (rw (I.sta.rest (ap std.is_some F.current))), I.sta.takes v)

  end_done : (v : ℕ) → memb v I.order ≡ true → done_in g w.back w.taken v ≡ entries_of g v (get_or w.back v 0)
  unfolding done_in
  end_done v m = rw (all_taken v m)

  -- the entry at the other end is behind the walk too
  end_back : (v x : ℕ) → memb v I.order ≡ true → has_t x (done_in g w.back w.taken v) ≡ true → has_t v (done_in g w.back w.taken x) ≡ true
  end_back v x m h =
      let hv : v < g.size = I.sta.small v m in
      let hx : memb x I.order ≡ true = I.sta.seen v x h in
      let h' : has_t x (entries_of g v (get_or w.back v 0)) ≡ true = rw (end_done v m) at h in
      let f = first {Q = Behind g v (get_or w.back v 0) (degree_at g v)} x (entries_of g v (get_or w.back v 0)) (done_all g v (get_or w.back v 0) (degree_at g v) (omega arith) (I.sta.backs v)) h' in
      let i : ℕ = f.fact.place in
      let to : (bond_of g v i).to ≡ x = ap (λ (e : BondEntry). e.to) (sym f.fact.is) ∙ f.leads in
      let k : Backed g v x (bond_of g v i) = subst (λ (y : ℕ). Backed g v y (bond_of g v i)) to (W.backed v i hv f.fact.within) in
      rw (end_done x hx) (subst (λ (y : ℕ). has_t y (entries_of g x (get_or w.back x 0)) ≡ true) k.leads (done_has g x (get_or w.back x 0) (degree_at g x) k.place k.within))

  -- so no pair is open
  none_opened : (P : List Pair) → Pol I.order (done_in g w.back w.taken) P → P ≡ []
  unfolding is_some
  none_opened [] K = refl
  none_opened (x ∷ P) K =
      let v : ℕ = x.from in
      let y : ℕ = x.onto in
      let d : ℕ → List BondEntry = done_in g w.back w.taken in
      let o : has_t y (d v) && not (has_t v (d y)) ≡ true = sym (K.opn v y) ∙ ap is_some (look_here x P v y (pair_this v y x refl refl)) in
      absurd (not_lone (has_t y (d v)) (has_t v (d y)) o (end_back v y (from_first K.froms)))

  end_shut : I.opened ≡ []
  end_shut = none_opened I.opened I.pol

  end_order : order_of w.walked g.size ≡ I.order
  end_order = ap (order_of w.walked) (sym F.count ∙ I.sta.count) ∙ I.sta.order

  end_length : length I.order ≡ g.size
  end_length = sym I.sta.count ∙ F.count

  end_node : (v : ℕ) → memb v I.order ≡ true → node_of g (by_walk w) v ≡ view (kind_by g w.back) I.order [] (done_in g w.back w.taken) v
  unfolding node_of view kind_by aim tgt look edge_of enc_t
  end_node v m =
      let l : List BondEntry = entries_of g v (get_or w.back v 0) in
      rw (end_done v m) (ap (λ (es : List Edge). node (back_kind (kind_at g v) (get_or w.back v 0)) es) (edges l (λ x h. I.sta.seen v x (rw (end_done v m) h))))
    where
      edges : (l : List BondEntry) → ((x : ℕ) → has_t x l ≡ true → memb x I.order ≡ true) → map (edge_of (by_walk w).number) l ≡ map (enc_t (aim I.order [] v)) l
      edges l h = enc_same (λ (x : ℕ). To (get_or w.met x 0 - 1)) (aim I.order [] v) l (λ x k.
          let e : get_or w.met x 0 ≡ suc (idx x I.order) = I.sta.met x ∙ mark_in x I.order (h x k) in
          ap To (omega arith))

  pub end_built : Built b (renumbered g (by_walk w))
  unfolding renumbered finish_s says_s rings_say
  end_built =
      let K : b.nodes ≡ map (node_of g (by_walk w)) (order_of w.walked g.size) =
      I.bld.gr
      ∙ ap (λ (P : List Pair). map (view (kind_by g w.back) I.order P (done_in g w.back w.taken)) I.order) end_shut
      ∙ sym (map_same (view (kind_by g w.back) I.order [] (done_in g w.back w.taken)) (node_of g (by_walk w)) I.order end_node)
      ∙ ap (map (node_of g (by_walk w))) (sym end_order) in
      record {
        refusal = I.bld.fine;
        failure = I.bld.noerr;
        opens = I.bld.ops ∙ ap (map (held_of I.order)) end_shut;
        unseen = I.bld.counted;
        nodes = K;
        says = ap₂ says_s I.bld.noerr K ∙ ap rings_say (none_open g (by_walk w) (order_of w.walked g.size));
      }

  pub end_numbers : Numbering g (by_walk w)
  end_numbers =
      let o : List ℕ = I.order in
      let num : (a : ℕ) → a < g.size → get_or w.met a 0 ≡ suc (idx a o) = λ a h. I.sta.met a ∙ mark_in a o (all_met a h) in
      let walked : (v : ℕ) → v < g.size → get_or w.walked v 0 ≡ get_or o v 0 = λ v h. sym (atoms_at (λ v. get_or w.walked v 0) g.size v h) ∙ ap (λ (l : List ℕ). get_or l v 0) end_order in
      let in_range_lem : (a : ℕ) → a < g.size → idx a o < g.size = λ a h. omega (arith, idx_lt a o (all_met a h), end_length) in
      record {
        number = λ a h. omega (arith, num a h, in_range_lem a h);
        atom = λ a h. let e : get_or w.met a 0 - 1 ≡ idx a o = omega (arith, num a h) in
            ap (λ (i : ℕ). get_or w.walked i 0) e ∙ walked (idx a o) (in_range_lem a h) ∙ at_idx a o (all_met a h);
        within = λ v h. rw (walked v h) (I.sta.small (get_or o v 0) (at_memb o v (omega (arith, end_length))));
        numbered = λ v h. rw (walked v h)
            (let e : get_or w.met (get_or o v 0) 0 ≡ suc v = I.sta.met (get_or o v 0) ∙ mark_in (get_or o v 0) o (at_memb o v (omega (arith, end_length)))
            ∙ ap suc (idx_at v I.sta.nod (omega (arith, end_length))) in omega arith);
        parent = I.sta.backs;
      }

  -- as many entries as the graph has
  pub end_count : count_of b.nodes ≡ degrees g g.size
  unfolding done_in
  end_count =
      ap count_of I.bld.gr
      ∙ view_count_all g (kind_by g w.back) I.order I.opened (done_in g w.back w.taken) I.sta.nod I.sta.small all_met
      (λ v. done_length g v (get_or w.back v 0) (get_or w.taken v 0) (I.sta.takes v) (I.sta.backs v))
      (λ v h. ap length (end_done v (all_met v h)) ∙ entries_length g v (get_or w.back v 0) (I.sta.backs v))

-- ---- the law
module _ (g : Graph) (W : Simple g) (T : (a : ℕ) → a < g.size → Tetrahedral (kind_at g a)) (lm lw lb lt : ℕ) (room : Room g lm lb lt) (wide : g.size ≤ lw)
    (m : ℕ) (few : degrees g g.size ≤ m)
    (fine : (walk_to g (turns_of g.size m) (fresh lm lw lb lt (replicate pair_words 0))).at.refusal ≡ None) where
  abbrev start : Walk
  start = fresh lm lw lb lt (replicate pair_words 0)

  abbrev turns : ℕ
  turns = turns_of g.size m

  finished : Finished g (walk_to g turns start)
  finished = walk-laws.ended g lm lw lb lt (replicate pair_words 0) room m few fine

  module _ (places slots : ℕ) (enough : g.size ≤ places) (entries : degrees g g.size ≤ slots) where
    walked : Walked Holds g (start_s places slots) turns start
    walked =
        turns_walked Holds pool_serves g W T turns start (start_s places slots) 0
        (sound_start g lm lw lb lt (replicate pair_words 0) room) (inv_start Holds pool_serves g lm lw lb lt wide places slots enough entries)

    followed : Walked Holds g (start_s places slots) turns start → Inv Holds g (walk_to g turns start) (run_s (start_s places slots) (retold (events_of g turns start)))
    followed (follows I h) = I
    followed (stopped r) = absurd (r fine)

    numbered : Walked Holds g (start_s places slots) turns start → RingsHaveText (events_of g turns start)
    numbered (follows I h) = h
    numbered (stopped r) = absurd (r fine)

    invariant : Inv Holds g (walk_to g turns start) (run_s (start_s places slots) (retold (events_of g turns start)))
    invariant = followed walked

-- A simple graph whose kinds have no configuration but TH1 or TH2, walked without refusal: what the walk says, told to a builder
-- with room for its atoms and entries, builds the graph renumbered in walk order.
pub graph_trip : (g : Graph) → Simple g → ((a : ℕ) → a < g.size → Tetrahedral (kind_at g a))
    → (lm lw lb lt : ℕ) → Room g lm lb lt → g.size ≤ lw
    → (m : ℕ) → degrees g g.size ≤ m
    → (walk_to g (turns_of g.size m) (fresh lm lw lb lt (replicate pair_words 0))).at.refusal ≡ None
    → (places slots : ℕ) → g.size ≤ places → degrees g g.size ≤ slots
    → Built (run_s (start_s places slots) (retold (events_of g (turns_of g.size m) (fresh lm lw lb lt (replicate pair_words 0)))))
    (renumbered g (by_walk (walk_to g (turns_of g.size m) (fresh lm lw lb lt (replicate pair_words 0)))))
graph_trip g W T lm lw lb lt room wide m few fine places slots enough entries =
    end_built Holds g W (walk_to g (turns_of g.size m) (fresh lm lw lb lt (replicate pair_words 0))) _
    (invariant g W T lm lw lb lt room wide m few fine places slots enough entries) (finished g W T lm lw lb lt room wide m few fine)

-- And the walk's numbers renumber the atoms.
pub walk_numbers : (g : Graph) → Simple g → ((a : ℕ) → a < g.size → Tetrahedral (kind_at g a))
    → (lm lw lb lt : ℕ) → Room g lm lb lt → g.size ≤ lw
    → (m : ℕ) → degrees g g.size ≤ m
    → (walk_to g (turns_of g.size m) (fresh lm lw lb lt (replicate pair_words 0))).at.refusal ≡ None
    → Numbering g (by_walk (walk_to g (turns_of g.size m) (fresh lm lw lb lt (replicate pair_words 0))))
walk_numbers g W T lm lw lb lt room wide m few fine =
    end_numbers Holds g W (walk_to g (turns_of g.size m) (fresh lm lw lb lt (replicate pair_words 0))) _
    (invariant g W T lm lw lb lt room wide m few fine g.size (degrees g g.size) (omega arith) (omega arith)) (finished g W T lm lw lb lt room wide m few fine)

-- Every ring number that is said has a text.
pub walk_numbered : (g : Graph) → Simple g → ((a : ℕ) → a < g.size → Tetrahedral (kind_at g a))
    → (lm lw lb lt : ℕ) → Room g lm lb lt → g.size ≤ lw
    → (m : ℕ) → degrees g g.size ≤ m
    → (walk_to g (turns_of g.size m) (fresh lm lw lb lt (replicate pair_words 0))).at.refusal ≡ None
    → RingsHaveText (events_of g (turns_of g.size m) (fresh lm lw lb lt (replicate pair_words 0)))
walk_numbered g W T lm lw lb lt room wide m few fine =
    numbered g W T lm lw lb lt room wide m few fine g.size (degrees g g.size) (omega arith) (omega arith)
    (walked g W T lm lw lb lt room wide m few fine g.size (degrees g g.size) (omega arith) (omega arith))

-- There are as many entries as before,
pub renumbered_count : (g : Graph) → Simple g → ((a : ℕ) → a < g.size → Tetrahedral (kind_at g a))
    → (lm lw lb lt : ℕ) → Room g lm lb lt → g.size ≤ lw
    → (m : ℕ) → degrees g g.size ≤ m
    → (walk_to g (turns_of g.size m) (fresh lm lw lb lt (replicate pair_words 0))).at.refusal ≡ None
    → count_of (renumbered g (by_walk (walk_to g (turns_of g.size m) (fresh lm lw lb lt (replicate pair_words 0))))) ≡ degrees g g.size
renumbered_count g W T lm lw lb lt room wide m few fine =
    let I = invariant g W T lm lw lb lt room wide m few fine g.size (degrees g g.size) (omega arith) (omega arith) in
    let F = finished g W T lm lw lb lt room wide m few fine in
    ap count_of (sym (end_built Holds g W _ _ I F).nodes) ∙ end_count Holds g W _ _ I F

-- and as many atoms
pub renumbered_length : (g : Graph) (p : Numbers) → length (renumbered g p) ≡ g.size
unfolding renumbered
renumbered_length g p = length-map (first_atoms p.atom g.size) _ ∙ atoms_length p.atom g.size
