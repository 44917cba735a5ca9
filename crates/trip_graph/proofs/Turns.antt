-- One turn of a walk over a simple graph: the builder follows, or the walk is refused.
use mathlib.Core.Path.{◌≡◌, refl, sym, ap, ◌∙◌, subst}
use mathlib.Core.Logic.{◌≢◌}
use mathlib.Core.List.{List, [], ◌∷◌, ◌++◌, map}
use mathlib.Core.Option.{Option, none, some}
use mathlib.Core.Bool.{true, false}
use Prim.Native.Nat.{ℕ, zero, suc, ◌+◌, ◌≤◌, ◌<◌}
use native.Mathlib.Omega.{arith}
use native.Mathlib.Numerals.{add-one}
use lib.ListN.{length, get_or, set}
use lib.Seq.{get_or-set_same, get_or-set_other}
use lib.Dec.{leb, eqb}
use borrow.Author.Tests.{eqb-true, eqb-false, leb-true, leb-false}
use Rattle.std.specs.Prelude.{None, Some, is_some}
use Rattle.feature.specs.Kinds.{invert_of}
use Rattle.feature.specs.Bonds.{reverse_of}
use Rattle.feature.specs.declared.atom_kind.AtomKind.{AtomKind}
use Rattle.join_pool.specs.declared.Pool.{Pool}
use Rattle.join_pool.specs.Pairs.{Hits, highest, hit_of}
use Rattle.read_line.specs.declared.lead.Lead.TheVariants as lead
use Rattle.read_line.specs.Events as reader
use Rattle.writer.specs.Line.{Event, Root, Extend, Join}
use Rattle.builder_meaning.specs.Sketch.{Sketch, count_of, step_s, run_s}
use Rattle.std.specs.Prelude as std
use Rattle.walk_entry.specs.declared.WalkError.{WalkError}
use Rattle.walk_entry.specs.Graph.{BondEntry, Graph, kind_at, degree_at, bond_of, entry_to}
use Rattle.walk_entry.specs.Ways.{said_as}
use Rattle.walk.specs.declared.walker.Walker.{Walker}
use Rattle.walk.specs.Walk.{Walk, Turn, turn, quiet, root_passed, ring_said, with_walker, pooled, met_at, took_at, pops_of, pops_then, left_in, root_turn, leave_of, numbered_of, ring_turn, tied_of, tie_turn, entered_of, enter_turn, bond_turn, entry_turn, atom_of, turn_of}
use Rattle.walk_laws.specs.Trek.{degrees}
use Rattle.feature.proofs.Cases.{by_test}
use Rattle.walk_laws.proofs.Sound.{Sound}
use Rattle.walk_laws.proofs.Fits.{count_below}
use Rattle.trip_graph.proofs.Stops.{some_stops}
use Rattle.trip_graph.specs.Opened.{Pair, ring_pair, look, del, num_in, join_in, Opens, full, number, Serves, RingsHaveText}
use Rattle.trip_graph.specs.Renumber.{Backed, Simple}
use Rattle.trip_graph.specs.Marks.{Tetrahedral, back_kind}
use Rattle.trip_graph.proofs.Lists.{memb, by_bool, memb_there}
use Rattle.trip_graph.proofs.View.{has_t, kind_t, NodupB, view, push}
use Rattle.trip_graph.proofs.Opens.{Pol, shut, opened_has, pol_extend, pol_open, pol_close, froms_snoc}
use Rattle.trip_graph.proofs.Entries.{done_length, done_nodup, reverse_kind}
use Rattle.trip_graph.proofs.Marks.{marks_serve}
use Rattle.trip_graph.proofs.Ways.{way_enters, tie_is}
use Rattle.trip_graph.proofs.Counts.{view_count}
use Rattle.trip_graph.proofs.Follows.{Bld, Entry, run_one, run_pops, bld_pops, bld_left, bld_ended, bld_root, bld_extend, bld_open, bld_close}
use Rattle.trip_graph.proofs.State.{done_in, kind_by, Sta, line_head, line_above, is_met, is_new, here_held, done_new, took_done, pass_done, root_done, sta_skip, sta_ends, sta_leaves, sta_pass, entry, sta_joins, sta_root, sta_enters, entered_done}
use Rattle.trip_text.specs.Steps.{retold_one, retold}
use Rattle.walk.proofs.Place.{atom_at, by_place}

-- what holds of a walk and of the sketch that its events make, where H says what a pool holds
pub record Inv (H : Pool → List ℕ → List Pair → Type 0) (g : Graph) (w : Walk) (b : Sketch) : Type 0 where
  pub order : List ℕ
  pub frame : List ℕ
  pub opened : List Pair
  pub sta : Sta g w order frame
  pub pol : Pol order (done_in g w.back w.taken) opened
  pub hold : H w.at.pool w.pairs opened
  pub bld : Bld g (kind_by g w.back) frame w.at.pend order (done_in g w.back w.taken) opened b
  pub fine : w.at.refusal ≡ None

pub data Result (H : Pool → List ℕ → List Pair → Type 0) (g : Graph) (b : Sketch) (x : Turn) : Type 0 where
  goes : Inv H g x.after (run_s b (retold x.said)) → RingsHaveText x.said → Result H g b x
  stops : x.after.at.refusal ≢ None → Result H g b x

-- pops change no numbers
said_pops : (p : ℕ) (e : Event) → RingsHaveText (e ∷ []) → RingsHaveText (pops_then p e)
unfolding pops_of
said_pops p e h = by_test (λ (x : List Event). RingsHaveText (x ++ (e ∷ []))) (eqb p 0) (λ q. h) (λ q. h)

by_look {ℓ} : {X : Type ℓ} (q : Option Pair) → (q ≡ none → X) → ((x : Pair) → q ≡ some x → X) → X
by_look none f g = f refl
by_look (some x) f g = g x refl

-- the entries of a state are no more than the graph's
sta_count : {g : Graph} {w : Walk} {o fr : List ℕ} → Sta g w o fr → (κ : ℕ → AtomKind) (P : List Pair) → count_of (map (view κ o P (done_in g w.back w.taken)) o) ≤ degrees g g.size
unfolding done_in
sta_count {g} {w} {o} S κ P =
    view_count g κ o P (done_in g w.back w.taken) S.nod S.small (λ v. done_length g v (get_or w.back v 0) (get_or w.taken v 0) (S.takes v) (S.backs v))

sta_nodup : {g : Graph} {w : Walk} {o fr : List ℕ} → Simple g → Sta g w o fr → (t : ℕ) → t < g.size → NodupB (done_in g w.back w.taken t)
unfolding done_in
sta_nodup {g} {w} W S t ht = done_nodup g W t (get_or w.back t 0) ht (S.backs t) (get_or w.taken t 0) (S.takes t)

sta_reverse : {g : Graph} {w : Walk} {o fr : List ℕ} → Simple g → Sta g w o fr → (s i : ℕ) → s < g.size → i < degree_at g s → (bond_of g s i).to < g.size
    → has_t s (done_in g w.back w.taken (bond_of g s i).to) ≡ true → kind_t s (done_in g w.back w.taken (bond_of g s i).to) ≡ reverse_of (bond_of g s i).kind
unfolding done_in
sta_reverse {g} {w} W S s i hs hi ht h =
    reverse_kind g W s i (bond_of g s i).to (get_or w.back (bond_of g s i).to 0) (get_or w.taken (bond_of g s i).to 0) hs hi refl ht (S.takes (bond_of g s i).to) (S.backs (bond_of g s i).to) h

none_leads : (x : ℕ) (l : List BondEntry) → l ≡ [] → has_t x l ≡ false
unfolding has_t
none_leads x l e = rw e

module _ (H : Pool → List ℕ → List Pair → Type 0) (Q : Serves H) (g : Graph) (W : Simple g) (T : (a : ℕ) → a < g.size → Tetrahedral (kind_at g a))
    (w : Walk) (b : Sketch) (dep : ℕ) (snd : Sound g w dep) (I : Inv H g w b) where
  abbrev R : Turn → Type 0
  R x = Result H g b x

  abbrev d0 : ℕ → List BondEntry
  d0 = done_in g w.back w.taken

  abbrev κ0 : ℕ → AtomKind
  κ0 = kind_by g w.back

  still_turn : R (quiet w)
  unfolding run_s retold
  still_turn = goes I tt

  skip_turn : R (quiet (with_walker w (root_passed w.at)))
  unfolding run_s retold
  skip_turn = goes (record {
    order = I.order;
    frame = I.frame;
    opened = I.opened;
    sta = sta_skip I.sta;
    pol = I.pol;
    hold = I.hold;
    bld = I.bld;
    fine = I.fine;
  }) tt

  new_root : is_some w.at.here ≡ false → w.at.next < g.size → get_or w.met w.at.next 0 ≡ 0
      → R (turn (met_at w (root_passed w.at) w.at.next 0) (Root (said_as (kind_at g w.at.next) 0) ∷ []))
  unfolding retold retold_one kind_by
  new_root r hi m =
      let i : ℕ = w.at.next in
      let S = I.sta in
      let o : List ℕ = I.order in
      let P : List Pair = I.opened in
      let k : AtomKind = said_as (kind_at g i) 0 in
      let mi : memb i o ≡ false = is_new S i m in
      let few : length o < g.size = rw (← S.count) (count_below snd i hi m) in
      let rm : i < length w.met = omega (arith, snd.room.met) in
      let rb : i < length w.back = omega (arith, snd.room.back) in
      let D : done_in g (set w.back i 0) w.taken ≡ d0 = root_done g w.back w.taken i rb (S.unback i mi) in
      let κ' : ℕ → AtomKind = kind_by g (set w.back i 0) in
      let B : Bld g κ0 [] w.at.pend o d0 P b = subst (λ (f : List ℕ). Bld g κ0 f w.at.pend o d0 P b) (S.rest r) I.bld in
      let kq : (v : ℕ) → v ≢ i → κ' v ≡ κ0 v = λ v q. ap (back_kind (kind_at g v)) (get_or-set_other w.back i v 0 0 q) in
      let ki : k ≡ κ' i = marks_serve.root (kind_at g i) ∙ ap (back_kind (kind_at g i)) (sym (get_or-set_same w.back i 0 0 rb)) in
      let B' = bld_root g κ0 o d0 P i w.at.pend b k κ' kq ki mi (done_new S i mi) S.seen I.pol.froms few B in
      goes (record {
        order = o ++ (i ∷ []);
        frame = i ∷ [];
        opened = P;
        sta = sta_root S i rm rb hi mi few (S.rest r) (root_passed w.at) refl;
        pol = subst (λ (d : ℕ → List BondEntry). Pol (o ++ (i ∷ [])) d P) (sym D) (record { opn = I.pol.opn; good = I.pol.good; froms = froms_snoc o i I.pol.froms });
        hold = I.hold;
        bld = subst (λ (d : ℕ → List BondEntry). Bld g κ' (i ∷ []) zero (o ++ (i ∷ [])) d P (run_s b (reader.Enter lead.Dot k 0 ∷ []))) (sym D)
            (subst (λ (x : Sketch). Bld g κ' (i ∷ []) zero (o ++ (i ∷ [])) d0 P x) (sym (run_one b (reader.Enter lead.Dot k 0) B.fine)) B');
        fine = I.fine;
      }) tt

  root_turn_lem : is_some w.at.here ≡ false → R (root_turn g w)
  unfolding root_turn
  root_turn_lem r =
      by_test R (leb g.size w.at.next) (λ q. still_turn)
      (λ q. by_test R (eqb (get_or w.met w.at.next 0) 0)
      (λ z. new_root r (leb-false _ _ q) (eqb-true _ _ z)) (λ z. skip_turn))

  left_turn : is_some w.at.here ≡ true → degree_at g (atom_at w) ≤ get_or w.taken (atom_at w) 0 → R (leave_of g w (atom_at w))
  unfolding left_in run_s retold
  left_turn r h =
      by_test (λ (z : Walker). R (quiet (with_walker w z))) (eqb (get_or w.back (atom_at w) 0) 0)
      (λ q. goes (record {
        order = I.order;
        frame = [];
        opened = I.opened;
        sta = sta_ends I.sta r (eqb-true _ _ q) h;
        pol = I.pol;
        hold = I.hold;
        bld = bld_ended g κ0 I.order d0 I.opened I.frame w.at.pend b I.bld;
        fine = I.fine;
      }) tt)
      (λ q.
      let n : get_or w.back (atom_at w) 0 ≢ 0 = eqb-false _ _ q in
      let A = line_above (I.sta.line r) n in
      let B = subst (λ (f : List ℕ). Bld g κ0 f w.at.pend I.order d0 I.opened b) A.is I.bld in
      goes (record {
        order = I.order;
        frame = A.rest;
        opened = I.opened;
        sta = sta_leaves I.sta r n A h;
        pol = I.pol;
        hold = I.hold;
        bld = subst (λ (n : ℕ). Bld g κ0 A.rest n I.order d0 I.opened b) (sym (add-one w.at.pend))
            (bld_left g κ0 I.order d0 I.opened (atom_at w) A.rest w.at.pend b B);
        fine = I.fine;
      }) tt)

  -- at an entry
  module _ (r : is_some w.at.here ≡ true) (more : get_or w.taken (atom_at w) 0 < degree_at g (atom_at w)) where
    abbrev s0 : ℕ
    s0 = atom_at w

    abbrev i0 : ℕ
    i0 = get_or w.taken s0 0

    abbrev e0 : BondEntry
    e0 = bond_of g s0 i0

    abbrev w1 : Walk
    w1 = took_at w s0 i0

    hs : s0 < g.size
    hs = I.sta.small s0 (here_held I.sta r)

    rt : s0 < length w.taken
    rt = omega (arith, hs, snd.room.taken)

    pass_turn : get_or w.back s0 0 ≡ i0 + 1 → R (quiet w1)
    unfolding run_s retold
    pass_turn q =
        let D = pass_done g w.back w.taken s0 rt q in
        goes (record {
          order = I.order;
          frame = I.frame;
          opened = I.opened;
          sta = sta_pass I.sta rt r more q;
          pol = subst (λ (d : ℕ → List BondEntry). Pol I.order d I.opened) (sym D) I.pol;
          hold = I.hold;
          bld = subst (λ (d : ℕ → List BondEntry). Bld g κ0 I.frame w.at.pend I.order d I.opened b) (sym D) I.bld;
          fine = I.fine;
        }) tt

    module _ (q : get_or w.back s0 0 ≢ i0 + 1) where
      D1 : done_in g w.back (set w.taken s0 (i0 + 1)) ≡ push s0 e0 d0
      D1 = took_done g w.back w.taken s0 rt q

      E0 : Entry s0 e0 I.order d0
      E0 = entry I.sta rt r more q W

      fs : List ℕ
      fs = (line_head (I.sta.line r)).rest

      is_fs : I.frame ≡ s0 ∷ fs
      unfolding fs
      is_fs = (line_head (I.sta.line r)).is

      b0 : Sketch
      b0 = run_s b (retold (pops_of w.at.pend))

      B0 : Bld g κ0 (s0 ∷ fs) zero I.order d0 I.opened b0
      unfolding b0
      B0 =
          subst (λ (f : List ℕ). Bld g κ0 f zero I.order d0 I.opened (run_s b (retold (pops_of w.at.pend)))) is_fs
          (bld_pops g κ0 I.order d0 I.opened I.frame w.at.pend b I.bld)

      run_is : (x : Event) → run_s b (retold (pops_then w.at.pend x)) ≡ step_s b0 (retold_one x)
      unfolding b0
      run_is x = run_pops b w.at.pend x ∙ run_one (run_s b (retold (pops_of w.at.pend))) (retold_one x) (unfold b0 in B0.fine)

      -- a new atom
      enter_goes : (k : Backed g s0 e0.to e0) → get_or w.met e0.to 0 ≡ 0 → e0.to < g.size
          → R (turn (met_at w1 w.at e0.to (suc k.place)) (pops_then w.at.pend (Extend e0.kind (said_as (kind_at g e0.to) (suc k.place)))))
      unfolding kind_by retold_one
      enter_goes k m ht =
          let S = I.sta in
          let o : List ℕ = I.order in
          let P : List Pair = I.opened in
          let t : ℕ = e0.to in
          let c : ℕ = suc k.place in
          let mt : memb t o ≡ false = is_new S t m in
          let few : length o < g.size = rw (← S.count) (count_below snd t ht m) in
          let rm : t < length w.met = omega (arith, snd.room.met) in
          let rb : t < length w.back = omega (arith, snd.room.back) in
          let κ' : ℕ → AtomKind = kind_by g (set w.back t c) in
          let o' : List ℕ = o ++ (t ∷ []) in
          let bb : BondEntry = entry_to (reverse_of e0.kind) s0 in
          let d2 : ℕ → List BondEntry = push t bb (push s0 e0 d0) in
          let S' = sta_enters S rt r more q t refl ht rm rb mt few k in
          let D = entered_done S rt r more q t refl ht rm rb mt few k in
          let kq : (v : ℕ) → v ≢ t → κ' v ≡ κ0 v = λ v z. ap (back_kind (kind_at g v)) (get_or-set_other w.back t v c 0 z) in
          let kt : invert_of (said_as (kind_at g t) c) ≡ Some (κ' t) =
          marks_serve.built (kind_at g t) c (T t ht) (λ z. omega arith) ∙ ap (λ (x : ℕ). Some (back_kind (kind_at g t) x)) (sym (get_or-set_same w.back t c 0 rb)) in
          let u : d0 t ≡ [] = done_new S t mt in
          let room : count_of (map (view κ' o' P d2) o') ≤ degrees g g.size =
          subst (λ (d : ℕ → List BondEntry). count_of (map (view κ' o' P d) o') ≤ degrees g g.size) D (sta_count S' κ' P) in
          let B' = bld_extend g κ0 o d0 P s0 e0 fs E0 S.nod S.seen b0 B0 (said_as (kind_at g t) c) κ' kq kt mt u
          (shut I.pol s0 t E0.fresh) (shut I.pol t s0 (none_leads s0 (d0 t) u)) I.pol.froms
          (λ v z. S.held v (rw is_fs (memb_there v s0 fs z))) few room in
          goes (record {
            order = o';
            frame = t ∷ I.frame;
            opened = P;
            sta = S';
            pol = subst (λ (d : ℕ → List BondEntry). Pol o' d P) (sym D) (pol_extend s0 e0 o d0 P I.pol E0.fresh E0.apart bb refl u);
            hold = I.hold;
            bld = subst (λ (x : Sketch). Bld g κ' (t ∷ I.frame) zero o' (done_in g (set w.back t c) (set w.taken s0 (i0 + 1))) P x) (sym (run_is _))
                (subst (λ (d : ℕ → List BondEntry). Bld g κ' (t ∷ I.frame) zero o' d P (step_s b0 (reader.Enter (lead.Bond e0.kind) (said_as (kind_at g t) c) 0))) (sym D)
                (subst (λ (f : List ℕ). Bld g κ' (t ∷ f) zero o' d2 P (step_s b0 (reader.Enter (lead.Bond e0.kind) (said_as (kind_at g t) c) 0))) (sym is_fs) B'));
            fine = I.fine;
          }) (said_pops w.at.pend (Extend e0.kind (said_as (kind_at g t) c)) tt)

      enter_turn_lem : get_or w.met e0.to 0 ≡ 0 → e0.to < g.size → R (enter_turn g w1 e0.kind s0 e0.to)
      unfolding enter_turn entered_of
      enter_turn_lem m ht =
          let k = W.backed s0 i0 hs more in
          subst (λ (y : std.Result ℕ WalkError). R (entered_of g w1 e0.kind e0.to y))
          (sym (way_enters g W s0 i0 e0.to ht refl (marks_serve.free (kind_at g e0.to) (T e0.to ht)) k))
          (enter_goes k m ht)

      -- a ring number
      module _ (mt : memb e0.to I.order ≡ true) where
        close_goes : (x : Pair) → look I.opened e0.to s0 ≡ some x → (p : Pool) (pairs : List ℕ) → x.num ≤ highest → H p pairs (del e0.to s0 I.opened)
            → R (turn (with_walker (pooled w1 pairs) (ring_said w.at p)) (pops_then w.at.pend (Join e0.kind x.num)))
        unfolding retold_one
        close_goes x l p pairs small h =
            let S = I.sta in
            let o : List ℕ = I.order in
            let P : List Pair = I.opened in
            let t : ℕ = e0.to in
            let l' : look P s0 t ≡ none = shut I.pol s0 t E0.fresh in
            let has : has_t s0 (d0 t) ≡ true = opened_has I.pol t s0 x l in
            let ht : t < g.size = S.small t mt in
            let nt : NodupB (d0 t) = sta_nodup W S t ht in
            let back : kind_t s0 (d0 t) ≡ reverse_of e0.kind =
            sta_reverse W S s0 i0 hs more ht has in
            let P' : List Pair = del t s0 P in
            let S' = sta_joins S rt r more q pairs p mt in
            let room : count_of (map (view κ0 o P' (push s0 e0 d0)) o) ≤ degrees g g.size =
            subst (λ (d : ℕ → List BondEntry). count_of (map (view κ0 o P' d) o) ≤ degrees g g.size) D1 (sta_count S' κ0 P') in
            let B' = bld_close g κ0 o d0 P s0 e0 fs E0 S.nod S.seen b0 B0 x mt I.pol.good l l' nt has back room in
            goes (record {
              order = o;
              frame = I.frame;
              opened = P';
              sta = S';
              pol = subst (λ (d : ℕ → List BondEntry). Pol o d P') (sym D1) (pol_close s0 e0 o d0 P I.pol E0.fresh E0.apart x l);
              hold = h;
              bld = subst (λ (x : Sketch). Bld g κ0 I.frame zero o (done_in g w.back (set w.taken s0 (i0 + 1))) P' x) (sym (run_is _))
                  (subst (λ (d : ℕ → List BondEntry). Bld g κ0 I.frame zero o d P' (step_s b0 (reader.Join e0.kind x.num 0))) (sym D1)
                  (subst (λ (f : List ℕ). Bld g κ0 f zero o (push s0 e0 d0) P' (step_s b0 (reader.Join e0.kind x.num 0))) (sym is_fs) B'));
              fine = I.fine;
            }) (said_pops w.at.pend (Join e0.kind x.num) (small, tt))

        open_goes : look I.opened e0.to s0 ≡ none → (p : Pool) (pairs : List ℕ) (n : ℕ) → n ≤ highest → num_in n I.opened ≡ false
            → ((j : ℕ) → H p pairs (ring_pair s0 e0.to n j ∷ I.opened))
            → R (turn (with_walker (pooled w1 pairs) (ring_said w.at p)) (pops_then w.at.pend (Join e0.kind n)))
        unfolding retold_one
        open_goes l p pairs n small new h =
            let S = I.sta in
            let o : List ℕ = I.order in
            let P : List Pair = I.opened in
            let t : ℕ = e0.to in
            let j : ℕ = b0.joins in
            let P' : List Pair = ring_pair s0 t n j ∷ P in
            let S' = sta_joins S rt r more q pairs p mt in
            let nj : join_in j P ≡ false = by_bool (join_in j P) (λ z. absurd (omega (arith, B0.joins j z))) (λ z. z) in
            let room : count_of (map (view κ0 o P' (push s0 e0 d0)) o) ≤ degrees g g.size =
            subst (λ (d : ℕ → List BondEntry). count_of (map (view κ0 o P' d) o) ≤ degrees g g.size) D1 (sta_count S' κ0 P') in
            let B' = bld_open g κ0 o d0 P s0 e0 fs E0 S.nod S.seen b0 B0 n new room in
            goes (record {
              order = o;
              frame = I.frame;
              opened = P';
              sta = S';
              pol = subst (λ (d : ℕ → List BondEntry). Pol o d P') (sym D1) (pol_open s0 e0 o d0 P I.pol E0.fresh E0.apart n j E0.ms l new nj);
              hold = h j;
              bld = subst (λ (x : Sketch). Bld g κ0 I.frame zero o (done_in g w.back (set w.taken s0 (i0 + 1))) P' x) (sym (run_is _))
                  (subst (λ (d : ℕ → List BondEntry). Bld g κ0 I.frame zero o d P' (step_s b0 (reader.Join e0.kind n 0))) (sym D1)
                  (subst (λ (f : List ℕ). Bld g κ0 f zero o (push s0 e0 d0) P' (step_s b0 (reader.Join e0.kind n 0))) (sym is_fs) B'));
              fine = I.fine;
            }) (said_pops w.at.pend (Join e0.kind n) (small, tt))

        abbrev Rings : Hits → Type 0
        Rings h = R (numbered_of w1 e0.kind s0 e0.to h.answer h.left)

        opens_turn : look I.opened e0.to s0 ≡ none → Opens H w.at.pool w.pairs I.opened s0 e0.to → Rings (hit_of w.at.pool w.pairs s0 e0.to)
        unfolding numbered_of
        opens_turn l (full words e) = subst (λ (h : Hits). Rings h) (sym e) (stops (some_stops _))
        opens_turn l (number p pairs n e small new h) = subst (λ (h : Hits). Rings h) (sym e) (open_goes l p pairs n small new h)

        ring_turn_lem : R (ring_turn w1 e0.kind s0 e0.to)
        unfolding ring_turn numbered_of
        ring_turn_lem =
            let l' : look I.opened s0 e0.to ≡ none = shut I.pol s0 e0.to E0.fresh in
            by_look (look I.opened e0.to s0)
            (λ l. opens_turn l (Q.opens w.at.pool w.pairs I.opened s0 e0.to I.hold I.pol.good E0.apart l l'))
            (λ x l. let c = Q.closes w.at.pool w.pairs I.opened s0 e0.to x I.hold I.pol.good E0.apart l l' in
            subst (λ (h : Hits). Rings h) (sym c.is) (close_goes x l c.after c.words c.small c.holds))

        -- both ends hold one entry for the other
        tie_turn_lem : e0.to < g.size → R (tie_turn g w1 e0.kind s0 e0.to)
        unfolding tie_turn tied_of
        tie_turn_lem ht =
            subst (λ (y : std.Result ℕ WalkError). R (tied_of w1 e0.kind s0 e0.to y)) (sym (tie_is g W s0 i0 e0.to hs more ht refl (W.backed s0 i0 hs more))) ring_turn_lem

      bond_turn_lem : R (bond_turn g w1 s0 e0)
      unfolding bond_turn
      bond_turn_lem =
          by_test R (leb g.size e0.to) (λ z. stops (some_stops _))
          (λ z. by_test R (eqb e0.to s0) (λ y. absurd (W.apart s0 i0 hs more (eqb-true _ _ y)))
          (λ y. by_test R (eqb (get_or w.met e0.to 0) 0)
          (λ x. enter_turn_lem (eqb-true _ _ x) (leb-false _ _ z))
          (λ x. tie_turn_lem (is_met I.sta e0.to (eqb-false _ _ x)) (leb-false _ _ z))))

    entry_turn_lem : R (entry_turn g w s0 i0)
    unfolding entry_turn
    entry_turn_lem = by_test R (eqb (get_or w.back s0 0) (i0 + 1)) (λ z. pass_turn (eqb-true _ _ z)) (λ z. bond_turn_lem (eqb-false _ _ z))

  atom_turn : is_some w.at.here ≡ true → R (atom_of g w (atom_at w))
  unfolding atom_of
  atom_turn r =
      by_test R (leb (degree_at g (atom_at w)) (get_or w.taken (atom_at w) 0))
      (λ z. left_turn r (leb-true _ _ z)) (λ z. entry_turn_lem r (leb-false _ _ z))

  pub one_turn : R (turn_of g w)
  one_turn = by_place R g w atom_turn root_turn_lem
