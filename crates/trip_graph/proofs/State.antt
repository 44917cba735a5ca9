-- What holds of the walk's tables at every turn of a walk: the order of the atoms met, the entries behind the walk, and the way
-- from the current atom up to its root.
use borrow.Author.Tests.{ne_eqb, eqb-true}
use mathlib.Core.Path.{◌≡◌, refl, sym, ap, ap₂, ◌∙◌, subst, fun_ext}
use mathlib.Core.Logic.{◌≢◌}
use mathlib.Core.List.{List, [], ◌∷◌, ◌++◌}
use mathlib.Core.Bool.{true, false}
use Prim.Native.Nat.{ℕ, zero, suc, ◌+◌, ◌-◌, ◌≤◌, ◌<◌}
use native.Mathlib.Omega.{arith}
use native.Mathlib.Numerals.{add-one}
use lib.ListN.{length, get_or, set, length-append, length-set, length-replicate}
use lib.Seq.{get_or-set_same, get_or-set_other}
use lib.Dec.{eqb}
use Rattle.feature.specs.Pick.{pick}
use Rattle.feature.specs.Bonds.{reverse_of}
use Rattle.feature.specs.declared.atom_kind.AtomKind.{AtomKind}
use Rattle.feature.proofs.Cases.{by_eq, clash}
use Rattle.join_pool.specs.declared.Pool.{Pool}
use Rattle.walk_entry.specs.Graph.{BondEntry, Graph, kind_at, degree_at, bond_in, bond_of, entry_to}
use Rattle.walk.specs.declared.walker.Walker.{Walker}
use Rattle.walk.specs.Walk.{Walk, root_passed, back_at, at_end, ring_said, with_walker, pooled, met_at, took_at}
use Rattle.table.proofs.Zeros.{zero_at}
use Rattle.walk_laws.specs.Trek.{fresh}
use Rattle.walk_laws.proofs.Moves.{parent_of}
use Rattle.trip_graph.specs.Renumber.{Backed, Simple}
use Rattle.trip_graph.specs.Renumbered.{done_of, first_atoms}
use Rattle.trip_graph.specs.Marks.{back_kind}
use Rattle.trip_graph.proofs.Lists.{memb, idx, Nodup, nil, by_bool, or_elim, idx_app, idx_new, nodup_snoc, memb_left, memb_new, memb_old, ne_of_memb, not_new, memb_cons, memb_there, memb_here}
use Rattle.trip_graph.proofs.View.{has_t, push, push_same, push_other}
use Rattle.trip_graph.proofs.Opens.{has_t_push}
use Rattle.trip_graph.proofs.Entries.{done_step, done_pass, done_nothing, done_parent, done_fresh}
use Rattle.trip_graph.proofs.Follows.{Entry}
use Rattle.std.specs.Prelude.{is_some}
use Rattle.walk.proofs.Place.{atom_at}

-- the entries behind the walk, and the kinds that come back
unfoldable pub done_in : Graph → List ℕ → List ℕ → ℕ → List BondEntry
done_in g back taken v = done_of g v (get_or back v 0) (get_or taken v 0)

unfoldable pub kind_by : Graph → List ℕ → ℕ → AtomKind
kind_by g back v = back_kind (kind_at g v) (get_or back v 0)

-- the first n atoms in walk order
abbrev pub order_of : List ℕ → ℕ → List ℕ
order_of walked n = first_atoms (λ v. get_or walked v 0) n

-- the mark of an atom in the table of those met
unfoldable pub mark : ℕ → List ℕ → ℕ
mark x o = pick (memb x o) (suc (idx x o)) 0

pub mark_in : (x : ℕ) (o : List ℕ) → memb x o ≡ true → mark x o ≡ suc (idx x o)
unfolding mark
mark_in x o h = rw h

mark_out : (x : ℕ) (o : List ℕ) → memb x o ≡ false → mark x o ≡ 0
unfolding mark
mark_out x o h = rw h

-- ---- from the current atom up to its root
pub data Line (g : Graph) (back : List ℕ) : ℕ → List ℕ → Type 0 where
  base : (a : ℕ) → get_or back a 0 ≡ 0 → Line g back a (a ∷ [])
  up : (a : ℕ) (fr : List ℕ) → get_or back a 0 ≢ 0 → Line g back (parent_of g back a) fr → Line g back a (a ∷ fr)

line_kept : (g : Graph) (back : List ℕ) (t b a : ℕ) (fr : List ℕ) → ((v : ℕ) → memb v fr ≡ true → v ≢ t) → Line g back a fr → Line g (set back t b) a fr
line_kept g back t b x fr h (base a e) = base a (get_or-set_other back t a b 0 (h a (memb_here [] refl)) ∙ e)
line_kept g back t b x fr h (up a fs n l) =
    let f : get_or (set back t b) a 0 ≡ get_or back a 0 = get_or-set_other back t a b 0 (h a (memb_here fs refl)) in
    up a fs (λ z. n (sym f ∙ z))
    (subst (λ (i : ℕ). Line g (set back t b) (bond_in g.bonds g.first a (i - 1)).to fs) (sym f)
    (line_kept g back t b (parent_of g back a) fs (λ v m. h v (memb_there v a fs m)) l))

pub record Head (a : ℕ) (fr : List ℕ) : Type 0 where
  pub rest : List ℕ
  pub is : fr ≡ a ∷ rest

pub line_head : {g : Graph} {back : List ℕ} {a : ℕ} {fr : List ℕ} → Line g back a fr → Head a fr
line_head (base a e) = record { rest = []; is = refl }
line_head (up a fr n l) = record { rest = fr; is = refl }

pub line_root : {g : Graph} {back : List ℕ} {a : ℕ} {fr : List ℕ} → Line g back a fr → get_or back a 0 ≡ 0 → fr ≡ a ∷ []
line_root (base a e) z = refl
line_root (up a fr n l) z = absurd (n z)

pub record Above (g : Graph) (back : List ℕ) (a : ℕ) (fr : List ℕ) : Type 0 where
  pub rest : List ℕ
  pub is : fr ≡ a ∷ rest
  pub line : Line g back (parent_of g back a) rest

pub line_above : {g : Graph} {back : List ℕ} {a : ℕ} {fr : List ℕ} → Line g back a fr → get_or back a 0 ≢ 0 → Above g back a fr
line_above (base a e) z = absurd (z e)
line_above (up a fr n l) z = record { rest = fr; is = refl; line = l }

-- ---- the state
pub record Sta (g : Graph) (w : Walk) (o fr : List ℕ) : Type 0 where
  pub nod : Nodup o
  pub count : w.at.count ≡ length o
  pub met : (x : ℕ) → get_or w.met x 0 ≡ mark x o
  pub order : order_of w.walked (length o) ≡ o
  pub wide : g.size ≤ length w.walked
  pub small : (x : ℕ) → memb x o ≡ true → x < g.size
  pub unback : (v : ℕ) → memb v o ≡ false → get_or w.back v 0 ≡ 0
  pub untaken : (v : ℕ) → memb v o ≡ false → get_or w.taken v 0 ≡ 0
  pub seen : (v x : ℕ) → has_t x (done_in g w.back w.taken v) ≡ true → memb x o ≡ true
  pub backs : (v : ℕ) → get_or w.back v 0 ≤ degree_at g v
  pub takes : (v : ℕ) → get_or w.taken v 0 ≤ degree_at g v
  pub left : (v : ℕ) → memb v o ≡ true → memb v fr ≡ false → degree_at g v ≤ get_or w.taken v 0
  pub held : (v : ℕ) → memb v fr ≡ true → memb v o ≡ true
  pub line : is_some w.at.here ≡ true → Line g w.back (atom_at w) fr
  pub rest : is_some w.at.here ≡ false → fr ≡ []

module _ {g : Graph} {w : Walk} {o fr : List ℕ} (S : Sta g w o fr) where
  pub is_met : (x : ℕ) → get_or w.met x 0 ≢ 0 → memb x o ≡ true
  is_met x h = by_bool (memb x o) (λ q. q) (λ q. absurd (h (S.met x ∙ mark_out x o q)))

  pub is_new : (x : ℕ) → get_or w.met x 0 ≡ 0 → memb x o ≡ false
  is_new x h = by_bool (memb x o) (λ q. absurd (let z : suc (idx x o) ≡ 0 = sym (mark_in x o q) ∙ sym (S.met x) ∙ h in omega arith)) (λ q. q)

  pub here_held : is_some w.at.here ≡ true → memb (atom_at w) o ≡ true
  here_held r = let h = line_head (S.line r) in S.held (atom_at w) (rw h.is (memb_here h.rest refl))

  pub done_new : (v : ℕ) → memb v o ≡ false → done_in g w.back w.taken v ≡ []
  unfolding done_in
  done_new v m = rw (S.unback v m, S.untaken v m) (done_nothing g v)

-- ---- how the entries behind the walk change
module _ (g : Graph) (back taken : List ℕ) (s : ℕ) (rt : s < length taken) where
  pub took_done : get_or back s 0 ≢ get_or taken s 0 + 1 → done_in g back (set taken s (get_or taken s 0 + 1)) ≡ push s (bond_of g s (get_or taken s 0)) (done_in g back taken)
  unfolding done_in
  took_done h = fun_ext (λ v. by_eq v s
      (λ e. rw e (ap (done_of g s (get_or back s 0)) (get_or-set_same taken s (get_or taken s 0 + 1) 0 rt ∙ add-one (get_or taken s 0))
      ∙ done_step g s (get_or back s 0) (get_or taken s 0) (λ z. h (z ∙ sym (add-one (get_or taken s 0))))
      ∙ sym (push_same s (bond_of g s (get_or taken s 0)) (λ v. done_of g v (get_or back v 0) (get_or taken v 0)))))
      (λ e. ap (done_of g v (get_or back v 0)) (get_or-set_other taken s v (get_or taken s 0 + 1) 0 e)
      ∙ sym (push_other s (bond_of g s (get_or taken s 0)) (λ v. done_of g v (get_or back v 0) (get_or taken v 0)) v e)))

  pub pass_done : get_or back s 0 ≡ get_or taken s 0 + 1 → done_in g back (set taken s (get_or taken s 0 + 1)) ≡ done_in g back taken
  unfolding done_in
  pass_done h = fun_ext (λ v. by_eq v s
      (λ e. rw e (ap (done_of g s (get_or back s 0)) (get_or-set_same taken s (get_or taken s 0 + 1) 0 rt ∙ add-one (get_or taken s 0))
      ∙ done_pass g s (get_or back s 0) (get_or taken s 0) (h ∙ add-one (get_or taken s 0))))
      (λ e. ap (done_of g v (get_or back v 0)) (get_or-set_other taken s v (get_or taken s 0 + 1) 0 e)))

-- a root has none
pub root_done : (g : Graph) (back taken : List ℕ) (i : ℕ) → i < length back → get_or back i 0 ≡ 0 → done_in g (set back i 0) taken ≡ done_in g back taken
unfolding done_in
root_done g back taken i rb h = fun_ext (λ v. by_eq v i
    (λ e. rw e (ap (λ (b : ℕ). done_of g i b (get_or taken i 0)) (get_or-set_same back i 0 0 rb ∙ sym h)))
    (λ e. ap (λ (b : ℕ). done_of g v b (get_or taken v 0)) (get_or-set_other back i v 0 0 e)))

-- a new atom has its parent's
pub enter_done : (g : Graph) (back taken : List ℕ) (t b : ℕ) (e : BondEntry) → t < length back → get_or back t 0 ≡ 0 → get_or taken t 0 ≡ 0 → b ≢ 0 → bond_of g t (b - 1) ≡ e
    → done_in g (set back t b) taken ≡ push t e (done_in g back taken)
unfolding done_in
enter_done g back taken t b x rb h k nb q = fun_ext (λ v. by_eq v t
    (λ e. rw e (ap₂ (done_of g t) (get_or-set_same back t b 0 rb) k ∙ done_parent g t b nb ∙ ap (λ (y : BondEntry). y ∷ []) q
    ∙ sym (push_same t x (λ v. done_of g v (get_or back v 0) (get_or taken v 0)) ∙ ap (λ (l : List BondEntry). l ++ (x ∷ [])) (ap₂ (done_of g t) h k ∙ done_nothing g t))))
    (λ e. ap (λ (b : ℕ). done_of g v b (get_or taken v 0)) (get_or-set_other back t v b 0 e)
    ∙ sym (push_other t x (λ v. done_of g v (get_or back v 0) (get_or taken v 0)) v e)))

order_kept : (walked : List ℕ) (i v n : ℕ) → n ≤ i → order_of (set walked i v) n ≡ order_of walked n
unfolding first_atoms
order_kept walked i v zero h = refl
order_kept walked i v (suc n) h =
    ap₂ (λ (l : List ℕ) (x : ℕ). l ++ (x ∷ [])) (order_kept walked i v n (omega arith)) (get_or-set_other walked i n v 0 (λ z. omega arith))

-- ---- the beginning
module _ (g : Graph) (lm lw lb lt : ℕ) (pairs : List ℕ) (wide : g.size ≤ lw) where
  abbrev w0 : Walk
  w0 = fresh lm lw lb lt pairs

  done_start : (v : ℕ) → done_in g w0.back w0.taken v ≡ []
  unfolding done_in
  done_start v = rw (zero_at lb v, zero_at lt v) (done_nothing g v)

  pub has_start : (v x : ℕ) → has_t x (done_in g w0.back w0.taken v) ≡ false
  unfolding has_t
  has_start v x = rw (done_start v)

  pub sta_start : Sta g w0 [] []
  unfolding mark memb first_atoms
  sta_start = record {
    nod = nil;
    count = refl;
    met = λ x. zero_at lm x;
    order = refl;
    wide = rw (length-replicate {A = ℕ} lw 0) wide;
    small = λ x h. clash h refl;
    unback = λ v h. zero_at lb v;
    untaken = λ v h. zero_at lt v;
    seen = λ v x h. clash h (has_start v x);
    backs = λ v. rw (zero_at lb v) (omega arith);
    takes = λ v. rw (zero_at lt v) (omega arith);
    left = λ v m k. clash m refl;
    held = λ v m. clash m refl;
    line = λ q. clash q refl;
    rest = λ q. refl;
  }

-- ---- the changes
module _ {g : Graph} {w : Walk} {o fr : List ℕ} (S : Sta g w o fr) where
  pub sta_skip : Sta g (with_walker w (root_passed w.at)) o fr
  sta_skip =
      record {
        nod = S.nod;
        count = S.count;
        met = S.met;
        order = S.order;
        wide = S.wide;
        small = S.small;
        unback = S.unback;
        untaken = S.untaken;
        seen = S.seen;
        backs = S.backs;
        takes = S.takes;
        left = S.left;
        held = S.held;
        line = S.line;
        rest = S.rest;
      }

  pub sta_ends : is_some w.at.here ≡ true → get_or w.back (atom_at w) 0 ≡ 0 → degree_at g (atom_at w) ≤ get_or w.taken (atom_at w) 0
      → Sta g (with_walker w (at_end w.at)) o []
  unfolding memb
  sta_ends r z h =
      let e : fr ≡ atom_at w ∷ [] = line_root (S.line r) z in
      record {
        nod = S.nod;
        count = S.count;
        met = S.met;
        order = S.order;
        wide = S.wide;
        small = S.small;
        unback = S.unback;
        untaken = S.untaken;
        seen = S.seen;
        backs = S.backs;
        takes = S.takes;
        left = λ v m k. by_eq v (atom_at w) (λ q. rw q h) (λ q. S.left v m (rw (e, ne_eqb v (atom_at w) q)));
        held = λ v m. clash m refl;
        line = λ q. clash q refl;
        rest = λ q. refl;
      }

  pub sta_leaves : is_some w.at.here ≡ true → (n : get_or w.back (atom_at w) 0 ≢ 0) → (A : Above g w.back (atom_at w) fr) → degree_at g (atom_at w) ≤ get_or w.taken (atom_at w) 0
      → Sta g (with_walker w (back_at w.at (parent_of g w.back (atom_at w)))) o A.rest
  unfolding memb
  sta_leaves r n A h =
      record {
        nod = S.nod;
        count = S.count;
        met = S.met;
        order = S.order;
        wide = S.wide;
        small = S.small;
        unback = S.unback;
        untaken = S.untaken;
        seen = S.seen;
        backs = S.backs;
        takes = S.takes;
        left = λ v m k. by_eq v (atom_at w) (λ q. rw q h) (λ q. S.left v m (rw (A.is, ne_eqb v (atom_at w) q) k));
        held = λ v m. S.held v (rw A.is (memb_there v (atom_at w) A.rest m));
        line = λ q. A.line;
        rest = λ q. clash refl q;
      }

  -- the entry at hand taken: other pool and pops, and what it leads to was met
  module _ (rt : atom_at w < length w.taken) (r : is_some w.at.here ≡ true) (more : get_or w.taken (atom_at w) 0 < degree_at g (atom_at w)) where
    takes_next : (v : ℕ) → get_or (set w.taken (atom_at w) (get_or w.taken (atom_at w) 0 + 1)) v 0 ≤ degree_at g v
    takes_next v = by_eq v (atom_at w)
        (λ e. rw (e, get_or-set_same w.taken (atom_at w) (get_or w.taken (atom_at w) 0 + 1) 0 rt) (omega arith))
        (λ e. rw (get_or-set_other w.taken (atom_at w) v (get_or w.taken (atom_at w) 0 + 1) 0 e) (S.takes v))

    untaken_next : (v : ℕ) → memb v o ≡ false → get_or (set w.taken (atom_at w) (get_or w.taken (atom_at w) 0 + 1)) v 0 ≡ 0
    untaken_next v m =
        get_or-set_other w.taken (atom_at w) v (get_or w.taken (atom_at w) 0 + 1) 0 (λ e. ne_of_memb o (here_held S r) m (sym e)) ∙ S.untaken v m

    left_next : (v : ℕ) → memb v o ≡ true → memb v fr ≡ false → degree_at g v ≤ get_or (set w.taken (atom_at w) (get_or w.taken (atom_at w) 0 + 1)) v 0
    left_next v m k =
        let h = line_head (S.line r) in
        let ne : v ≢ atom_at w = λ e. clash (rw h.is (memb_here h.rest e)) k in
        rw (get_or-set_other w.taken (atom_at w) v (get_or w.taken (atom_at w) 0 + 1) 0 ne) (S.left v m k)

    pub sta_pass : get_or w.back (atom_at w) 0 ≡ get_or w.taken (atom_at w) 0 + 1 → Sta g (took_at w (atom_at w) (get_or w.taken (atom_at w) 0)) o fr
    sta_pass e =
        record {
          nod = S.nod;
          count = S.count;
          met = S.met;
          order = S.order;
          wide = S.wide;
          small = S.small;
          unback = S.unback;
          untaken = untaken_next;
          seen = subst (λ (d : ℕ → List BondEntry). (v x : ℕ) → has_t x (d v) ≡ true → memb x o ≡ true) (sym (pass_done g w.back w.taken (atom_at w) rt e)) S.seen;
          backs = S.backs;
          takes = takes_next;
          left = left_next;
          held = S.held;
          line = S.line;
          rest = S.rest;
        }

    module _ (apart : get_or w.back (atom_at w) 0 ≢ get_or w.taken (atom_at w) 0 + 1) where
      pub entry : Simple g → Entry (atom_at w) (bond_of g (atom_at w) (get_or w.taken (atom_at w) 0)) o (done_in g w.back w.taken)
      unfolding done_in
      entry W =
          let hs : atom_at w < g.size = S.small (atom_at w) (here_held S r) in
          record {
            ms = here_held S r;
            fresh = done_fresh g W (atom_at w) (get_or w.back (atom_at w) 0) hs (S.backs (atom_at w)) (get_or w.taken (atom_at w) 0) more (λ z. apart (z ∙ sym (add-one (get_or w.taken (atom_at w) 0))));
            apart = λ z. W.apart (atom_at w) (get_or w.taken (atom_at w) 0) hs more (sym z);
          }

      seen_push : (o' : List ℕ) → ((x : ℕ) → memb x o ≡ true → memb x o' ≡ true) → memb (bond_of g (atom_at w) (get_or w.taken (atom_at w) 0)).to o' ≡ true
          → (v x : ℕ) → has_t x (push (atom_at w) (bond_of g (atom_at w) (get_or w.taken (atom_at w) 0)) (done_in g w.back w.taken) v) ≡ true → memb x o' ≡ true
      seen_push o' inc mt v x h =
          let s : ℕ = atom_at w in
          let e : BondEntry = bond_of g s (get_or w.taken s 0) in
          let d : ℕ → List BondEntry = done_in g w.back w.taken in
          by_eq v s
          (λ q. or_elim (has_t x (d s)) (eqb x e.to) (sym (has_t_push s e d x) ∙ (rw q at h)) (λ z. inc x (S.seen s x z)) (λ z. rw (eqb-true x e.to z) mt))
          (λ q. inc x (S.seen v x (rw (push_other s e d v q) at h)))

      pub sta_joins : (pairs : List ℕ) (p : Pool) → memb (bond_of g (atom_at w) (get_or w.taken (atom_at w) 0)).to o ≡ true
          → Sta g (with_walker (pooled (took_at w (atom_at w) (get_or w.taken (atom_at w) 0)) pairs) (ring_said w.at p)) o fr
      sta_joins pairs p mt =
          record {
            nod = S.nod;
            count = S.count;
            met = S.met;
            order = S.order;
            wide = S.wide;
            small = S.small;
            unback = S.unback;
            untaken = untaken_next;
            seen = subst (λ (d : ℕ → List BondEntry). (v x : ℕ) → has_t x (d v) ≡ true → memb x o ≡ true) (sym (took_done g w.back w.taken (atom_at w) rt apart)) (seen_push o (λ x m. m) mt);
            backs = S.backs;
            takes = takes_next;
            left = left_next;
            held = S.held;
            line = S.line;
            rest = S.rest;
          }

  -- an atom met
  module _ (t : ℕ) (rm : t < length w.met) (rb : t < length w.back) (ht : t < g.size) (mt : memb t o ≡ false) (few : length o < g.size) where
    met_next : (x : ℕ) → get_or (set w.met t (w.at.count + 1)) x 0 ≡ mark x (o ++ (t ∷ []))
    met_next x = by_eq x t
        (λ e. rw e (get_or-set_same w.met t (w.at.count + 1) 0 rm ∙ add-one w.at.count ∙ ap suc (S.count ∙ sym (idx_new t o mt)) ∙ sym (mark_in t (o ++ (t ∷ [])) (memb_new t o))))
        (λ e. get_or-set_other w.met t x (w.at.count + 1) 0 e ∙ S.met x
        ∙ by_bool (memb x o)
        (λ q. mark_in x o q ∙ ap suc (sym (idx_app x o (t ∷ []) q)) ∙ sym (mark_in x (o ++ (t ∷ [])) (memb_left x t o q)))
        (λ q. mark_out x o q ∙ sym (mark_out x (o ++ (t ∷ [])) (memb_old x t o e ∙ q))))

    length_next : length (o ++ (t ∷ [])) ≡ suc (length o)
    length_next = length-append o (t ∷ []) ∙ add-one (length o)

    order_next : order_of (set w.walked w.at.count t) (length (o ++ (t ∷ []))) ≡ o ++ (t ∷ [])
    unfolding first_atoms
    order_next =
        let rw' : length o < length w.walked = omega (arith, S.wide) in
        subst (λ (m : ℕ). order_of (set w.walked m t) (length (o ++ (t ∷ []))) ≡ o ++ (t ∷ [])) (sym S.count)
        (rw length_next (ap₂ (λ (l : List ℕ) (x : ℕ). l ++ (x ∷ [])) (order_kept w.walked (length o) t (length o) (omega arith) ∙ S.order) (get_or-set_same w.walked (length o) t 0 rw')))

    count_next : w.at.count + 1 ≡ length (o ++ (t ∷ []))
    count_next = omega (arith, length_next, S.count)

    wide_next : g.size ≤ length (set w.walked w.at.count t)
    wide_next = rw (length-set w.walked w.at.count t) S.wide

    small_next : (x : ℕ) → memb x (o ++ (t ∷ [])) ≡ true → x < g.size
    small_next x m = by_eq x t (λ e. rw e ht) (λ e. S.small x (sym (memb_old x t o e) ∙ m))

    unback_next : (b v : ℕ) → memb v (o ++ (t ∷ [])) ≡ false → get_or (set w.back t b) v 0 ≡ 0
    unback_next b v m =
        let e : v ≢ t = not_new v t o m in
        get_or-set_other w.back t v b 0 e ∙ S.unback v (sym (memb_old v t o e) ∙ m)

    backs_next : (b : ℕ) → b ≤ degree_at g t → (v : ℕ) → get_or (set w.back t b) v 0 ≤ degree_at g v
    backs_next b h v = by_eq v t (λ e. rw (e, get_or-set_same w.back t b 0 rb) h) (λ e. rw (get_or-set_other w.back t v b 0 e) (S.backs v))

    pub sta_root : fr ≡ [] → (z : Walker) → z.count ≡ w.at.count → Sta g (met_at w z t 0) (o ++ (t ∷ [])) (t ∷ [])
    unfolding memb
    sta_root e z c =
        record {
          nod = nodup_snoc t S.nod mt;
          count = rw c count_next;
          met = rw c met_next;
          order = rw c order_next;
          wide = rw c wide_next;
          small = small_next;
          unback = unback_next 0;
          untaken = λ v m. S.untaken v (sym (memb_old v t o (not_new v t o m)) ∙ m);
          seen = subst (λ (d : ℕ → List BondEntry). (v x : ℕ) → has_t x (d v) ≡ true → memb x (o ++ (t ∷ [])) ≡ true) (sym (root_done g w.back w.taken t rb (S.unback t mt))) (λ v x h. memb_left x t o (S.seen v x h));
          backs = backs_next 0 (omega arith);
          takes = S.takes;
          left = λ v m k. by_eq v t (λ q. clash (memb_here [] q) k) (λ q. S.left v (sym (memb_old v t o q) ∙ m) (rw e refl));
          held = λ v m. by_eq v t (λ q. rw q (memb_new t o)) (λ q. clash (memb_cons v t [] m q) refl);
          line = λ q. base t (get_or-set_same w.back t 0 0 rb);
          rest = λ q. clash refl q;
        }

-- a new atom entered from the current one, whose entry at hand is taken
module _ {g : Graph} {w : Walk} {o fr : List ℕ} (S : Sta g w o fr)
    (rt : atom_at w < length w.taken) (r : is_some w.at.here ≡ true) (more : get_or w.taken (atom_at w) 0 < degree_at g (atom_at w))
    (apart : get_or w.back (atom_at w) 0 ≢ get_or w.taken (atom_at w) 0 + 1)
    (t : ℕ) (to : (bond_of g (atom_at w) (get_or w.taken (atom_at w) 0)).to ≡ t) (ht : t < g.size)
    (rm : t < length w.met) (rb : t < length w.back) (mt : memb t o ≡ false) (few : length o < g.size)
    (k : Backed g (atom_at w) t (bond_of g (atom_at w) (get_or w.taken (atom_at w) 0))) where
  back_bond : bond_of g t (suc k.place - 1) ≡ entry_to (reverse_of (bond_of g (atom_at w) (get_or w.taken (atom_at w) 0)).kind) (atom_at w)
  back_bond =
      let z : suc k.place - 1 ≡ k.place = omega arith in
      ap (bond_of g t) z ∙ (λ i. record { kind = k.reversed i; to = k.leads i })

  pub entered_done : done_in g (set w.back t (suc k.place)) (set w.taken (atom_at w) (get_or w.taken (atom_at w) 0 + 1))
      ≡ push t (entry_to (reverse_of (bond_of g (atom_at w) (get_or w.taken (atom_at w) 0)).kind) (atom_at w))
      (push (atom_at w) (bond_of g (atom_at w) (get_or w.taken (atom_at w) 0)) (done_in g w.back w.taken))
  entered_done =
      enter_done g w.back (set w.taken (atom_at w) (get_or w.taken (atom_at w) 0 + 1)) t (suc k.place) _ rb (S.unback t mt) (untaken_next S rt r more t mt) (λ z. omega arith) back_bond
      ∙ ap (push t (entry_to (reverse_of (bond_of g (atom_at w) (get_or w.taken (atom_at w) 0)).kind) (atom_at w))) (took_done g w.back w.taken (atom_at w) rt apart)

  pub sta_enters : Sta g (met_at (took_at w (atom_at w) (get_or w.taken (atom_at w) 0)) w.at t (suc k.place)) (o ++ (t ∷ [])) (t ∷ fr)
  sta_enters =
      let s : ℕ = atom_at w in
      let e : BondEntry = bond_of g s (get_or w.taken s 0) in
      let b : ℕ = suc k.place in
      let bb : BondEntry = entry_to (reverse_of e.kind) s in
      let d : ℕ → List BondEntry = done_in g w.back w.taken in
      let off : (v : ℕ) → memb v fr ≡ true → v ≢ t = λ v m. ne_of_memb o (S.held v m) mt in
      let z : get_or (set w.back t b) t 0 ≡ b = get_or-set_same w.back t b 0 rb in
      let h = line_head (S.line r) in
      record {
        nod = nodup_snoc t S.nod mt;
        count = count_next S t rm rb ht mt few;
        met = met_next S t rm rb ht mt few;
        order = order_next S t rm rb ht mt few;
        wide = wide_next S t rm rb ht mt few;
        small = small_next S t rm rb ht mt few;
        unback = unback_next S t rm rb ht mt few b;
        untaken = λ v m. untaken_next S rt r more v (sym (memb_old v t o (not_new v t o m)) ∙ m);
        seen = subst (λ (d : ℕ → List BondEntry). (v x : ℕ) → has_t x (d v) ≡ true → memb x (o ++ (t ∷ [])) ≡ true) (sym entered_done)
            (λ v x q. by_eq v t
            (λ p. or_elim (has_t x (push s e d t)) (eqb x s) (sym (has_t_push t bb (push s e d) x) ∙ (rw p at q))
            (λ y. seen_push S rt r more apart (o ++ (t ∷ [])) (λ x m. memb_left x t o m) (rw to (memb_new t o)) t x y)
            (λ y. rw (eqb-true x s y) (memb_left s t o (here_held S r))))
            (λ p. seen_push S rt r more apart (o ++ (t ∷ [])) (λ x m. memb_left x t o m) (rw to (memb_new t o)) v x (rw (push_other t bb (push s e d) v p) at q)));
        backs = backs_next S t rm rb ht mt few b k.within;
        takes = takes_next S rt r more;
        left = λ v m q. by_eq v t (λ p. clash (memb_here fr p) q)
            (λ p. left_next S rt r more v (sym (memb_old v t o p) ∙ m) (by_bool (memb v fr) (λ y. clash (memb_there v t fr y) q) (λ y. y)));
        held = λ v m. by_eq v t (λ p. rw p (memb_new t o)) (λ p. memb_left v t o (S.held v (memb_cons v t fr m p)));
        line = λ q. up t fr (λ y. let x : b ≡ 0 = sym z ∙ y in omega arith)
            (subst (λ (i : ℕ). Line g (set w.back t b) (bond_in g.bonds g.first t (i - 1)).to fr) (sym z)
            (subst (λ (i : ℕ). Line g (set w.back t b) i fr) (sym (ap (λ (x : BondEntry). x.to) back_bond)) (line_kept g w.back t b s fr off (S.line r))));
        rest = λ q. clash refl q;
      }
