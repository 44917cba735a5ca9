-- The turns walk as the plain walk does: from every state of the turns the plain walk can be resumed, and a turn does not change
-- what it comes to. So where the turns end, the plain walk ends. Assumes nothing.
use Prim.Native.Nat.{ℕ, zero, suc, ◌+◌, ◌-◌, ◌≤◌, ◌<◌}
use mathlib.Core.Path.{◌≡◌, refl, sym, ap, ap₂, ◌∙◌, subst}
use mathlib.Core.Logic.{◌≢◌}
use mathlib.Core.List.{List, [], ◌∷◌, ◌++◌, append_assoc, append-nil}
use mathlib.Core.Bool.{Bool, true, false}
use native.Mathlib.Omega.{arith}
use lib.ListN.{length, get_or, set, take, length-append, length-set, length-replicate}
use lib.Seq.{get_or-set_same, get_or-set_other, take-suc-set, take_all}
use lib.Dec.{ltb, leb, eqb}
use borrow.Author.Tests.{eqb-true, eqb-false, leb-true, leb-false, ne_eqb, eq-eqb}
use Rattle.feature.proofs.Cases.{by_test, by_eq, impossible}
use Rattle.feature.specs.Pick.{pick}
use Rattle.feature.specs.declared.bond_kind.BondKind.{BondKind}
use Rattle.table.proofs.Zeros.{zero_at}
use Rattle.join_pool.specs.declared.Pool.{Pool}
use Rattle.std.specs.Prelude.{Err, None, Ok, Option, Result, Some}
use Rattle.walk_entry.specs.declared.WalkError.{WalkError}
use Rattle.walk_entry.specs.declared.WalkError.TheVariants.{UnknownTarget, Loop, RingNumbers}
use Rattle.join_pool.specs.Pairs.{Hits, highest, next_of, open_of, close_of, open_or_close, hit_pair, hit_of}
use Rattle.writer.specs.Line.{Event, Root, Extend, Join}
use Rattle.walk_entry.specs.Graph.{BondEntry, Graph, kind_at, degree_at, bond_in, bond_of}
use Rattle.walk_entry.specs.Ways.{said_as}
use Rattle.walk.specs.declared.walker.Walker.{Walker}
use Rattle.walk.specs.Walk.{Walk, Turn, turn, quiet, refuse_turn, root_passed, back_at, at_end, with_walker, met_at, took_at, pooled, pops_then, left_in, root_turn, leave_of, numbered_of, ring_turn, tied_of, tie_turn, entered_of, enter_turn, bond_turn, entry_turn, atom_of, turn_at, turn_of, step_of, walk_to, events_of, turns_of}
use Rattle.walk_laws.specs.Trek.{fresh, degrees, Finished, least_walk, least_said}
use Rattle.walk_laws.specs.Plain.{Trail, Outcome, Goes, Refused, Visit, and_then, number_from, number_in, meets, leaves, joins, rings, ties, enters, follows, entries_from, visit_of, roots_from, start_trail, plain_walk}
use Rattle.walk_laws.specs.OneWalk.{trail_of, refusal_in, HoldTrail, OneWalk}
use Rattle.walk_laws.proofs.Moves.{EntersBy, way_back}
use Rattle.walk_laws.proofs.Sums.{unmet, unmet_set, unmet_all}
use Rattle.walk_laws.proofs.Ended.{ended}
use Rattle.walk_laws.proofs.Longer.{least_exact}
use Rattle.walk.proofs.Going.{walk_off, say_off}

-- ---- numbers in walk order
number_old : (i : ℕ) (l : List ℕ) (t a : ℕ) → a ≢ t → number_from i (l ++ (t ∷ [])) a ≡ number_from i l a
unfolding number_from
number_old i [] t a ne = rw (ne_eqb t a (λ e. ne (sym e))) refl
number_old i (x ∷ l) t a ne = ap (λ (n : ℕ). pick (eqb x a) i n) (number_old (i + 1) l t a ne)

number_new : (i : ℕ) (l : List ℕ) (t : ℕ) → i ≢ 0 → number_from i l t ≡ 0 → number_from i (l ++ (t ∷ [])) t ≡ i + length l
unfolding number_from
number_new i [] t nz = λ z. rw (eq-eqb t t refl) (omega arith)
number_new i (x ∷ l) t nz =
    by_test2 (eqb x t) (λ q z. absurd (nz z))
    (λ q z. number_new (i + 1) l t (omega arith) z ∙ omega arith)
  where
    by_test2 : (b : Bool) {m n r : ℕ} → (b ≡ true → i ≡ 0 → i ≡ r) → (b ≡ false → m ≡ 0 → n ≡ r) → pick b i m ≡ 0 → pick b i n ≡ r
    by_test2 true f h = f refl
    by_test2 false f h = h refl

-- ---- a pool with no number left keeps its words
record Keeps (pairs : List ℕ) (h : Hits) : Type 0 where
  full : h.answer ≡ None → h.left ≡ pairs

given≢full : (x : Pool × ℕ) → Some x ≡ None → ⊥
given≢full x e = impossible cc

pair_keeps : (p : Pool) (pairs : List ℕ) (lo hi : ℕ) (r : Option ℕ) → Keeps pairs (open_or_close p pairs lo hi r)
unfolding open_or_close open_of close_of
pair_keeps p pairs lo hi None =
    by_test (Keeps pairs) (ltb highest (next_of p)) (λ z. record { full = λ e. refl }) (λ z. record { full = λ e. absurd (given≢full _ e) })
pair_keeps p pairs lo hi (Some r) = record { full = λ e. absurd (given≢full _ e) }

hit_keeps : (p : Pool) (pairs : List ℕ) (a b : ℕ) → Keeps pairs (hit_of p pairs a b)
unfolding hit_of hit_pair
hit_keeps p pairs a b = by_test (Keeps pairs) (ltb a b) (λ q. pair_keeps p pairs a b _) (λ q. pair_keeps p pairs b a _)

-- ---- the atoms on the way: each with the place of its entry back, and how many of its entries were taken; the last one first
record Frame : Type 0 where
  atom : ℕ
  place : ℕ
  done : ℕ

abbrev frame : ℕ → ℕ → ℕ → Frame
frame a b i = record { atom = a; place = b; done = i }

-- a is none of them
abbrev Off : ℕ → List Frame → Type 0
Off a [] = Unit {0}
Off a (f ∷ fs) = (a ≢ f.atom) × Off a fs

-- the entry of a at place b leads to the last of them; a root has none
abbrev From : Graph → ℕ → ℕ → List Frame → Type 0
From g a b [] = b ≡ 0
From g a b (f ∷ fs) = (b ≢ 0) × ((bond_of g a (b - 1)).to ≡ f.atom)

data Held (g : Graph) (met back taken : List ℕ) : List Frame → Type 0 where
  none : Held g met back taken []
  more : (a b i : ℕ) (fs : List Frame) → a < g.size → get_or met a 0 ≢ 0 → get_or back a 0 ≡ b → get_or taken a 0 ≡ i
      → Off a fs → From g a b fs → Held g met back taken fs → Held g met back taken (frame a b i ∷ fs)

-- a new atom is none of them, and changes nothing for them
held_off : {g : Graph} {met back taken : List ℕ} {fs : List Frame} (t : ℕ) → get_or met t 0 ≡ 0 → Held g met back taken fs → Off t fs
held_off t z none = tt
held_off {g} {met} t z (more a b i fs l m hb ht o f h) = (λ e. m (ap (λ (x : ℕ). get_or met x 0) (sym e) ∙ z), held_off t z h)

held_met : {g : Graph} {met back taken : List ℕ} {fs : List Frame} (t v b : ℕ) → get_or met t 0 ≡ 0 → Held g met back taken fs
    → Held g (set met t v) (set back t b) taken fs
held_met t v b z none = none
held_met {g} {met} {back} t v b z (more a c i fs l m hb ht o f h) =
    let ne : a ≢ t = λ e. m (ap (λ (x : ℕ). get_or met x 0) e ∙ z) in
    more a c i fs l (rw (get_or-set_other met t a v 0 ne) m) (get_or-set_other back t a b 0 ne ∙ hb) ht o f (held_met t v b z h)

-- nor does an entry of another atom
held_took : {g : Graph} {met back taken : List ℕ} {fs : List Frame} (a v : ℕ) → Off a fs → Held g met back taken fs → Held g met back (set taken a v) fs
held_took a v o none = none
held_took {g} {met} {back} {taken} a v o (more c b i fs l m hb ht p f h) =
    more c b i fs l m hb (get_or-set_other taken a c v 0 (λ e. o.0 (sym e)) ∙ ht) p f (held_took a v o.1 h)

-- ---- the plain walk resumed: the rest of each atom's entries, then the rest of the roots
module _ (g : Graph) where
  abbrev left : Trail → Outcome
  left z = Goes (leaves z)

  -- the entries of an atom from one on, where d atoms are on the way below it
  abbrev rest : ℕ → ℕ → ℕ → ℕ → Trail → Outcome
  rest d a b i = entries_from g (visit_of g (g.size - suc d)) a b i (degree_at g a - i)

  climb : List Frame → Outcome → Outcome
  climb [] p = p
  climb (f ∷ fs) p = climb fs (and_then (and_then p (rest (length fs) f.atom f.place f.done)) left)

  abbrev roots : ℕ → Trail → Outcome
  roots next = roots_from g next (g.size - next)

  whole : ℕ → List Frame → Outcome → Outcome
  whole next fs p = and_then (climb fs p) (roots next)

  climb_refused : (fs : List Frame) (why : WalkError) (s : Trail) → climb fs (Refused why s) ≡ Refused why s
  unfolding climb and_then
  climb_refused [] why s = refl
  climb_refused (f ∷ fs) why s = climb_refused fs why s

  whole_refused : (next : ℕ) (fs : List Frame) (why : WalkError) (s : Trail) → whole next fs (Refused why s) ≡ Refused why s
  unfolding whole and_then
  whole_refused next fs why s = ap (λ (p : Outcome). and_then p (roots next)) (climb_refused fs why s)

  -- how far the turns have come
  abbrev Stands : Walk → List Frame → Trail → Type 0
  Stands w [] s = w.at.here ≡ None
  Stands w (f ∷ fs) s = (w.at.here ≡ Some f.atom) × (w.at.pend ≡ s.left)

  record Roomy (w : Walk) : Type 0 where
    met : g.size ≤ length w.met
    walked : g.size ≤ length w.walked
    back : g.size ≤ length w.back
    taken : g.size ≤ length w.taken

  -- a state of the turns, and the plain walk's there
  record Shows (w : Walk) (fs : List Frame) (s : Trail) : Type 0 where
    going : w.at.refusal ≡ None
    stands : Stands w fs s
    held : Held g w.met w.back w.taken fs
    unused : (t : ℕ) → get_or w.met t 0 ≡ 0 → get_or w.taken t 0 ≡ 0
    room : Roomy w
    deep : length fs ≤ w.at.count
    counted : w.at.count + unmet g.size w.met ≡ g.size
    tables : HoldTrail w s

  -- A turn to x agrees with a plain walk that comes to p: it goes on from there, or both are refused.
  data Step (s : Trail) (x : Turn) (p : Outcome) : Type 0 where
    on : (fs : List Frame) (z : Trail) → Shows x.after fs z → z.said ≡ s.said ++ x.said → whole x.after.at.next fs (Goes z) ≡ p → Step s x p
    off : (why : WalkError) → x.after.at.refusal ≡ Some why → x.said ≡ [] → HoldTrail x.after s → p ≡ Refused why s → Step s x p

  -- two choices by one test
  chosen : {s : Trail} (k : Outcome → Outcome) (p q : Bool) {x y : Turn} {a b : Outcome} → p ≡ q → (q ≡ true → Step s x (k a)) → (q ≡ false → Step s y (k b))
      → Step s (pick p x y) (k (pick q a b))
  chosen k p true e f h = rw e (f refl)
  chosen k p false e f h = rw e (h refl)

  -- ---- the plain walk taken one part further
  visit_is : (n d t b : ℕ) (s : Trail) → n ≡ suc (g.size - suc d) → visit_of g n t b s ≡ and_then (rest d t b 0 s) left
  unfolding visit_of
  visit_is n d t b s e =
      let z : degree_at g t - 0 ≡ degree_at g t = omega arith in
      rw (e, z) refl

  rest_none : (next : ℕ) (f : Frame) (fs : List Frame) (s : Trail) → degree_at g f.atom ≤ f.done → whole next (f ∷ fs) (Goes s) ≡ whole next fs (Goes (leaves s))
  unfolding whole climb and_then entries_from
  rest_none next f fs s l =
      let z : degree_at g f.atom - f.done ≡ 0 = omega arith in
      rw z refl

  abbrev further : Frame → Frame
  further f = frame f.atom f.place (f.done + 1)

  abbrev below : List Frame → Visit
  below fs = visit_of g (g.size - suc (length fs))

  rest_one : (next : ℕ) (f : Frame) (fs : List Frame) (s : Trail) → f.done < degree_at g f.atom
      → whole next (f ∷ fs) (Goes s)
      ≡ whole next (further f ∷ fs) (pick (eqb f.place (f.done + 1)) (Goes s) (follows g (below fs) f.atom (bond_of g f.atom f.done) s))
  unfolding whole climb and_then entries_from
  rest_one next f fs s l =
      let z : degree_at g f.atom - f.done ≡ suc (degree_at g f.atom - (f.done + 1)) = omega arith in
      rw z refl

  roots_one : (next : ℕ) (s : Trail) → next < g.size
      → whole next [] (Goes s)
      ≡ whole (next + 1) [] (pick (eqb (number_in s.order next) 0) (visit_of g g.size next 0 (meets s next 0 (Root (said_as (kind_at g next) 0) ∷ []))) (Goes s))
  unfolding whole climb and_then roots_from
  roots_one next s l =
      let z : g.size - next ≡ suc (g.size - (next + 1)) = omega arith in
      rw z refl

  -- ---- an atom met
  module _ (w : Walk) (s : Trail) (tb : HoldTrail w s) (rm : Roomy w) (counted : w.at.count + unmet g.size w.met ≡ g.size)
      (z : Walker) (ec : z.count ≡ w.at.count) (ep : z.pool ≡ w.at.pool) (t b : ℕ) (es : List Event) (l : t < g.size) (m : get_or w.met t 0 ≡ 0) where
    fewer : w.at.count < g.size
    fewer = omega (arith, counted, unmet_set g.size w.met t 1 l rm.met m (omega arith))

    met_tables : HoldTrail (met_at w z t b) (meets s t b es)
    met_tables =
        let q : z.count + 1 ≡ suc z.count = omega arith in
        record {
          count = rw (length-append s.order (t ∷ [])) (omega (arith, ec, tb.count));
          walked =
              ap (λ (n : ℕ). take n (set w.walked z.count t)) q
              ∙ take-suc-set w.walked z.count t (omega (arith, ec, fewer, rm.walked))
              ∙ ap (λ (x : List ℕ). x ++ (t ∷ [])) (ap (λ (n : ℕ). take n w.walked) ec ∙ tb.walked);
          met =
              λ a. by_eq a t
              (λ e. ap (λ (i : ℕ). get_or (set w.met t (z.count + 1)) i 0) e
              ∙ get_or-set_same w.met t (z.count + 1) 0 (omega (arith, rm.met))
              ∙ omega (arith, ec, tb.count)
              ∙ sym (number_new 1 s.order t (omega arith) (sym (tb.met t) ∙ m))
              ∙ ap (λ (i : ℕ). number_in (s.order ++ (t ∷ [])) i) (sym e))
              (λ ne. get_or-set_other w.met t a (z.count + 1) 0 ne ∙ tb.met a ∙ sym (number_old 1 s.order t a ne));
          back = ap (λ (x : List ℕ). set x t b) tb.back;
          pool = ep ∙ tb.pool;
          pairs = tb.pairs;
        }

    met_shows : z.refusal ≡ None → (fs : List Frame) → Held g w.met w.back w.taken fs → From g t b fs
        → length fs ≤ w.at.count → ((u : ℕ) → get_or w.met u 0 ≡ 0 → get_or w.taken u 0 ≡ 0)
        → Shows (met_at w z t b) (frame t b 0 ∷ fs) (meets s t b es)
    met_shows gr fs h fr dp un =
        let nz : z.count + 1 ≢ 0 = omega arith in
        let here : get_or (set w.met t (z.count + 1)) t 0 ≡ z.count + 1 = get_or-set_same w.met t (z.count + 1) 0 (omega (arith, rm.met)) in
        record {
          going = gr;
          stands = (refl, refl);
          held =
              more t b 0 fs l (rw here nz) (get_or-set_same w.back t b 0 (omega (arith, rm.back))) (un t m) (held_off t m h) fr
              (held_met t (z.count + 1) b m h);
          unused =
              λ u q. by_eq u t (λ e. ap (λ (i : ℕ). get_or w.taken i 0) e ∙ un t m)
              (λ ne. un u (sym (get_or-set_other w.met t u (z.count + 1) 0 ne) ∙ q));
          room =
              record {
                met = rw length-set rm.met;
                walked = rw length-set rm.walked;
                back = rw length-set rm.back;
                taken = rm.taken;
              };
          deep = omega (arith, dp, ec);
          counted = omega (arith, ec, counted, unmet_set g.size w.met t (z.count + 1) l rm.met m nz);
          tables = met_tables;
        }

  -- ---- a turn where there is no current atom
  said_none : (l : List Event) → l ≡ l ++ []
  said_none l = sym (append-nil l)

  -- tables as they were, under another walker of the same count and pool
  moved_tables : (w : Walk) (s : Trail) → HoldTrail w s → (z : Walker) → z.count ≡ w.at.count → z.pool ≡ w.at.pool → HoldTrail (with_walker w z) s
  moved_tables w s t z ec ep =
      record { count = ec ∙ t.count; walked = ap (λ (n : ℕ). take n w.walked) ec ∙ t.walked; met = t.met; back = t.back; pool = ep ∙ t.pool; pairs = t.pairs }

  moved_room : (w : Walk) (z : Walker) → Roomy w → Roomy (with_walker w z)
  moved_room w z r = record { met = r.met; walked = r.walked; back = r.back; taken = r.taken }

  module _ (w : Walk) (s : Trail) (h : Shows w [] s) where
    abbrev root_said : List Event
    root_said = Root (said_as (kind_at g w.at.next) 0) ∷ []

    root_met : w.at.next < g.size → get_or w.met w.at.next 0 ≡ 0
        → Step s (turn (met_at w (root_passed w.at) w.at.next 0) root_said) (whole (w.at.next + 1) [] (visit_of g g.size w.at.next 0 (meets s w.at.next 0 root_said)))
    unfolding whole climb and_then
    root_met l m =
        on (frame w.at.next 0 0 ∷ []) (meets s w.at.next 0 root_said)
        (met_shows w s h.tables h.room h.counted (root_passed w.at) refl refl w.at.next 0 root_said l m h.going [] none refl (omega arith) h.unused)
        refl
        (ap (λ (p : Outcome). and_then p (roots (w.at.next + 1))) (sym (visit_is g.size 0 w.at.next 0 (meets s w.at.next 0 root_said) (omega arith))))

    root_passed_lem : Step s (quiet (with_walker w (root_passed w.at))) (whole (w.at.next + 1) [] (Goes s))
    root_passed_lem =
        on [] s
        (record {
          going = h.going;
          stands = h.stands;
          held = h.held;
          unused = h.unused;
          room = moved_room w (root_passed w.at) h.room;
          deep = h.deep;
          counted = h.counted;
          tables = moved_tables w s h.tables (root_passed w.at) refl refl;
        })
        (said_none _) refl

    root_step : Step s (root_turn g w) (whole w.at.next [] (Goes s))
    unfolding root_turn
    root_step =
        by_test (λ (x : Turn). Step s x (whole w.at.next [] (Goes s))) (leb g.size w.at.next) (λ q. on [] s h (said_none _) refl)
        (λ q. subst (Step s _) (sym (roots_one w.at.next s (leb-false _ _ q)))
        (chosen (whole (w.at.next + 1) []) (eqb (get_or w.met w.at.next 0) 0) (eqb (number_in s.order w.at.next) 0) (ap (λ (n : ℕ). eqb n 0) (h.tables.met w.at.next))
        (λ y. root_met (leb-false _ _ q) (h.tables.met w.at.next ∙ eqb-true _ _ y)) (λ y. root_passed_lem)))

  -- ---- a turn at the current atom
  -- what is known of it
  record Top (w : Walk) (f : Frame) (fs : List Frame) : Type 0 where
    inside : f.atom < g.size
    seen : get_or w.met f.atom 0 ≢ 0
    back : get_or w.back f.atom 0 ≡ f.place
    taken : get_or w.taken f.atom 0 ≡ f.done
    off : Off f.atom fs
    from : From g f.atom f.place fs
    under : Held g w.met w.back w.taken fs

  top : (w : Walk) (f : Frame) (fs : List Frame) → Held g w.met w.back w.taken (f ∷ fs) → Top w f fs
  top w f fs (more a b i gs l m hb ht o fr h) =
      record { inside = l; seen = m; back = hb; taken = ht; off = o; from = fr; under = h }

  module _ (w : Walk) (f : Frame) (fs : List Frame) (s : Trail) (h : Shows w (f ∷ fs) s) (t : Top w f fs) where
    -- ---- it has no entry left
    module _ (none_left : degree_at g f.atom ≤ f.done) where
      left_shows : (gs : List Frame) (z : Walker) → z.refusal ≡ None → z.count ≡ w.at.count → z.pool ≡ w.at.pool
          → length gs ≤ w.at.count → Stands (with_walker w z) gs (leaves s) → Held g w.met w.back w.taken gs → Shows (with_walker w z) gs (leaves s)
      left_shows gs z zr zc zp zd st hd =
          let k = moved_tables w s h.tables z zc zp in
          record {
            going = zr;
            stands = st;
            held = hd;
            unused = h.unused;
            room = moved_room w z h.room;
            deep = omega (arith, zd, zc);
            counted = omega (arith, zc, h.counted);
            tables = record { count = k.count; walked = k.walked; met = k.met; back = k.back; pool = k.pool; pairs = k.pairs };
          }

  -- the one before it is current, or none is
  leave_step : (w : Walk) (f : Frame) (fs : List Frame) (s : Trail) → Shows w (f ∷ fs) s → Top w f fs → degree_at g f.atom ≤ f.done
      → Step s (leave_of g w f.atom) (whole w.at.next (f ∷ fs) (Goes s))
  unfolding left_in
  leave_step w f [] s h t l =
      by_test (λ (z : Walker). Step s (quiet (with_walker w z)) (whole w.at.next (f ∷ []) (Goes s))) (eqb (get_or w.back f.atom 0) 0)
      (λ q. on [] (leaves s) (left_shows w f [] s h t l [] (at_end w.at) h.going refl refl (omega arith) refl none) (said_none _)
      (sym (rest_none w.at.next f [] s l)))
      (λ q. absurd (eqb-false _ _ q (t.back ∙ t.from)))
  leave_step w f (p ∷ fs) s h t l =
      by_test (λ (z : Walker). Step s (quiet (with_walker w z)) (whole w.at.next (f ∷ p ∷ fs) (Goes s))) (eqb (get_or w.back f.atom 0) 0)
      (λ q. absurd (t.from.0 (sym t.back ∙ eqb-true _ _ q)))
      (λ q. on (p ∷ fs) (leaves s)
      (left_shows w f (p ∷ fs) s h t l (p ∷ fs) (back_at w.at (bond_in g.bonds g.first f.atom (get_or w.back f.atom 0 - 1)).to) h.going refl refl (omega (arith, h.deep))
      (ap (λ (b : ℕ). Some (bond_in g.bonds g.first f.atom (b - 1)).to) t.back ∙ ap Some t.from.1, ap (λ (n : ℕ). n + 1) h.stands.1) t.under)
      (said_none _)
      (sym (rest_none w.at.next f (p ∷ fs) s l)))

  -- ---- an entry of it
  module _ (w : Walk) (f : Frame) (fs : List Frame) (s : Trail) (h : Shows w (f ∷ fs) s) (t : Top w f fs) where
    abbrev took : Walk
    took = took_at w f.atom f.done

    -- what the plain walk comes to when this entry comes to p
    abbrev after : Outcome → Outcome
    after p = whole w.at.next (further f ∷ fs) p

    took_tables : HoldTrail took s
    took_tables =
        let k = h.tables in
        record { count = k.count; walked = k.walked; met = k.met; back = k.back; pool = k.pool; pairs = k.pairs }

    took_room : Roomy took
    took_room =
        record { met = h.room.met; walked = h.room.walked; back = h.room.back; taken = rw length-set h.room.taken }

    took_held : Held g w.met w.back (set w.taken f.atom (f.done + 1)) (further f ∷ fs)
    took_held =
        more f.atom f.place (f.done + 1) fs t.inside t.seen t.back
        (get_or-set_same w.taken f.atom (f.done + 1) 0 (omega (arith, t.inside, h.room.taken)))
        t.off t.from (held_took f.atom (f.done + 1) t.off t.under)

    took_unused : (u : ℕ) → get_or w.met u 0 ≡ 0 → get_or (set w.taken f.atom (f.done + 1)) u 0 ≡ 0
    took_unused u q =
        get_or-set_other w.taken f.atom u (f.done + 1) 0 (λ e. t.seen (ap (λ (i : ℕ). get_or w.met i 0) (sym e) ∙ q)) ∙ h.unused u q

    took_shows : Shows took (further f ∷ fs) s
    took_shows =
        record {
          going = h.going;
          stands = h.stands;
          held = took_held;
          unused = took_unused;
          room = took_room;
          deep = h.deep;
          counted = h.counted;
          tables = took_tables;
        }

    -- refused
    refuse_step : (why : WalkError) (pairs : List ℕ) → pairs ≡ w.pairs → Step s (refuse_turn (pooled took pairs) why) (after (Refused why s))
    refuse_step why pairs e =
        let k = h.tables in
        off why refl refl
        (record { count = k.count; walked = k.walked; met = k.met; back = k.back; pool = k.pool; pairs = e ∙ k.pairs })
        (whole_refused w.at.next (further f ∷ fs) why s)

    -- to an atom met before
    given_step : (k : BondKind) (u : ℕ) (x : Option (Pool × ℕ)) (pairs : List ℕ) → (x ≡ None → pairs ≡ s.pairs)
        → Step s (numbered_of took k f.atom u x pairs) (after (joins s k f.atom u x pairs))
    unfolding numbered_of joins
    given_step k u None pairs e = refuse_step (RingNumbers f.atom u) pairs (e refl ∙ sym h.tables.pairs)
    given_step k u (Some (p, n)) pairs e =
        let b = h.tables in
        on (further f ∷ fs) _
        (record {
          going = h.going;
          stands = (h.stands.0, refl);
          held = took_held;
          unused = took_unused;
          room = record { met = took_room.met; walked = took_room.walked; back = took_room.back; taken = took_room.taken };
          deep = h.deep;
          counted = h.counted;
          tables = record { count = b.count; walked = b.walked; met = b.met; back = b.back; pool = refl; pairs = refl };
        })
        (ap (λ (d : ℕ). s.said ++ pops_then d (Join k n)) (sym h.stands.1))
        refl

    ring_step : (k : BondKind) (u : ℕ)
        → Step s (ring_turn took k f.atom u) (after (rings s k f.atom u))
    unfolding ring_turn rings
    ring_step k u =
        let e : hit_of s.pool s.pairs f.atom u ≡ hit_of w.at.pool w.pairs f.atom u =
        sym (ap₂ (λ (p : Pool) (l : List ℕ). hit_of p l f.atom u) h.tables.pool h.tables.pairs) in
        subst (λ (x : Hits). Step s (numbered_of took k f.atom u x.answer x.left) (after (rings s k f.atom u))) e
        (given_step k u (hit_of s.pool s.pairs f.atom u).answer (hit_of s.pool s.pairs f.atom u).left (hit_keeps s.pool s.pairs f.atom u).full)

    -- to an atom met before, once both ends were compared
    tied_step : (k : BondKind) (u : ℕ) (x : Result ℕ WalkError) → Step s (tied_of took k f.atom u x) (after (ties s k f.atom u x))
    unfolding tied_of ties
    tied_step k u (Err why) = refuse_step why w.pairs refl
    tied_step k u (Ok b) = ring_step k u

    -- to a new atom
    way_step : (k : BondKind) (u : ℕ) → u < g.size → get_or w.met u 0 ≡ 0 → (x : Result ℕ WalkError) → EntersBy g f.atom u x
        → Step s (entered_of g took k u x) (after (enters g (below fs) s k u x))
    unfolding entered_of enters EntersBy whole climb and_then
    way_step k u l m (Err why) by = refuse_step why w.pairs refl
    way_step k u l m (Ok b) by =
        let es : List Event = pops_then s.left (Extend k (said_as (kind_at g u) b)) in
        let c : w.at.count < g.size = fewer took s took_tables took_room h.counted w.at refl refl u b es l m in
        on (frame u b 0 ∷ further f ∷ fs) (meets s u b es)
        (met_shows took s took_tables took_room h.counted w.at refl refl u b es l m h.going (further f ∷ fs) took_held by h.deep took_unused)
        (ap (λ (d : ℕ). s.said ++ pops_then d (Extend k (said_as (kind_at g u) b))) (sym h.stands.1))
        (ap after (sym (visit_is (g.size - suc (length fs)) (suc (length fs)) u b (meets s u b es) (omega (arith, c, h.deep)))))

    bond_step : (e : BondEntry) → Step s (bond_turn g took f.atom e) (after (follows g (below fs) f.atom e s))
    unfolding bond_turn follows enter_turn tie_turn
    bond_step e =
        chosen after (leb g.size e.to) (leb g.size e.to) refl (λ q. refuse_step (UnknownTarget f.atom e.to) w.pairs refl)
        (λ q. chosen after (eqb e.to f.atom) (eqb e.to f.atom) refl (λ z. refuse_step (Loop f.atom) w.pairs refl)
        (λ z. chosen after (eqb (get_or w.met e.to 0) 0) (eqb (number_in s.order e.to) 0) (ap (λ (n : ℕ). eqb n 0) (h.tables.met e.to))
        (λ y. way_step e.kind e.to (leb-false _ _ q) (h.tables.met e.to ∙ eqb-true _ _ y) _ (way_back g e.kind f.atom e.to))
        (λ y. tied_step e.kind e.to _)))

    entry_step : f.done < degree_at g f.atom → Step s (entry_turn g w f.atom f.done) (whole w.at.next (f ∷ fs) (Goes s))
    unfolding entry_turn
    entry_step l =
        subst (Step s _) (sym (rest_one w.at.next f fs s l))
        (chosen after (eqb (get_or w.back f.atom 0) (f.done + 1)) (eqb f.place (f.done + 1)) (ap (λ (n : ℕ). eqb n (f.done + 1)) t.back)
        (λ q. on (further f ∷ fs) s took_shows (said_none _) refl)
        (λ q. bond_step (bond_of g f.atom f.done)))

    atom_step_lem : Step s (atom_of g w f.atom) (whole w.at.next (f ∷ fs) (Goes s))
    unfolding atom_of
    atom_step_lem =
        subst (λ (i : ℕ). Step s (pick (leb (degree_at g f.atom) i) (leave_of g w f.atom) (entry_turn g w f.atom i)) (whole w.at.next (f ∷ fs) (Goes s))) (sym t.taken)
        (by_test (λ (x : Turn). Step s x (whole w.at.next (f ∷ fs) (Goes s))) (leb (degree_at g f.atom) f.done)
        (λ q. leave_step w f fs s h t (leb-true _ _ q)) (λ q. entry_step (leb-false _ _ q)))

  -- ---- any turn
  turn_step : (w : Walk) (fs : List Frame) (s : Trail) → Shows w fs s → Step s (turn_of g w) (whole w.at.next fs (Goes s))
  unfolding turn_of
  turn_step w [] s h =
      subst (λ (o : Option ℕ). Step s (turn_at g w o) (whole w.at.next [] (Goes s))) (sym h.stands) (root_step w s h)
  turn_step w (f ∷ fs) s h =
      subst (λ (o : Option ℕ). Step s (turn_at g w o) (whole w.at.next (f ∷ fs) (Goes s))) (sym h.stands.0) (atom_step_lem w f fs s h (top w f fs h.held))

  -- ---- turns
  -- a state where the turns end
  done_one : (w : Walk) (fs : List Frame) (s : Trail) → Shows w fs s → Finished g w → OneWalk (whole w.at.next fs (Goes s)) w (s.said ++ [])
  unfolding whole climb and_then roots_from
  done_one w [] s h d =
      let z : g.size - w.at.next ≡ 0 = omega (arith, d.next) in
      rw z (record { said = append-nil s.said; refusal = h.going; tables = h.tables })
  done_one w (f ∷ fs) s h d = absurd (let y : None ≡ Some f.atom = sym d.current ∙ h.stands.0 in impossible cc)

  module _ (n : ℕ)
      (ih : (w : Walk) (fs : List Frame) (s : Trail) → Shows w fs s → ((walk_to g n w).at.refusal ≡ None → Finished g (walk_to g n w))
      → OneWalk (whole w.at.next fs (Goes s)) (walk_to g n w) (s.said ++ events_of g n w)) where
    one_more : (s : Trail) (x : Turn) (p : Outcome) → Step s x p → ((walk_to g n x.after).at.refusal ≡ None → Finished g (walk_to g n x.after))
        → OneWalk p (walk_to g n x.after) (s.said ++ (x.said ++ events_of g n x.after))
    one_more s x p (on fs z h e q) d =
        let r = ih x.after fs z h d in
        let a : s.said ++ (x.said ++ events_of g n x.after) ≡ z.said ++ events_of g n x.after =
        sym (append_assoc s.said x.said (events_of g n x.after)) ∙ ap (λ (l : List Event). l ++ events_of g n x.after) (sym e) in
        rw a (subst (λ (y : Outcome). OneWalk y (walk_to g n x.after) (z.said ++ events_of g n x.after)) q r)
    one_more s x p (off why er es tb q) d =
        let ne : x.after.at.refusal ≢ None = λ e. let y : Some why ≡ None = sym er ∙ e in impossible cc in
        let st : walk_to g n x.after ≡ x.after = walk_off g n x.after ne in
        let si : s.said ++ (x.said ++ events_of g n x.after) ≡ s.said =
        ap₂ (λ (k l : List Event). s.said ++ (k ++ l)) es (say_off g n x.after ne) ∙ append-nil s.said in
        let one : OneWalk (Refused why s) x.after s.said =
        record { said = refl; refusal = er; tables = tb } in
        rw (q, st, si) one

  turns_one : (n : ℕ) (w : Walk) (fs : List Frame) (s : Trail) → Shows w fs s → ((walk_to g n w).at.refusal ≡ None → Finished g (walk_to g n w))
      → OneWalk (whole w.at.next fs (Goes s)) (walk_to g n w) (s.said ++ events_of g n w)
  unfolding walk_to events_of step_of
  turns_one zero w fs s h d = done_one w fs s h (d h.going)
  turns_one (suc n) w fs s h d =
      let q : step_of g w ≡ turn_of g w = simp h.going in
      subst (λ (x : Turn). ((walk_to g n x.after).at.refusal ≡ None → Finished g (walk_to g n x.after)) → OneWalk (whole w.at.next fs (Goes s)) (walk_to g n x.after) (s.said ++ (x.said ++ events_of g n x.after))) (sym q)
      (one_more n (turns_one n) s (turn_of g w) (whole w.at.next fs (Goes s)) (turn_step w fs s h)) d

  -- ---- a whole walk
  abbrev start : List ℕ → Walk
  start pairs = fresh g.size g.size g.size g.size pairs

  start_shows : (pairs : List ℕ) → Shows (start pairs) [] (start_trail g.size pairs)
  unfolding number_from
  start_shows pairs =
      record {
        going = refl;
        stands = refl;
        held = none;
        unused = λ t q. zero_at g.size t;
        room =
            record {
              met = omega (arith, length-replicate {A = ℕ} g.size 0);
              walked = omega (arith, length-replicate {A = ℕ} g.size 0);
              back = omega (arith, length-replicate {A = ℕ} g.size 0);
              taken = omega (arith, length-replicate {A = ℕ} g.size 0);
            };
        deep = omega arith;
        counted = omega (arith, unmet_all g.size g.size);
        tables = record { count = refl; walked = refl; met = λ a. zero_at g.size a; back = refl; pool = refl; pairs = refl };
      }

  whole_start : (pairs : List ℕ) → whole 0 [] (Goes (start_trail g.size pairs)) ≡ plain_walk g pairs
  unfolding plain_walk whole climb and_then
  whole_start pairs =
      let z : g.size - 0 ≡ g.size = omega arith in
      ap (λ (n : ℕ). roots_from g 0 n (start_trail g.size pairs)) z

  -- For every graph, whatever its tables hold: so many turns as end a walk come to what the plain walk comes to.
  pub one_walk : (pairs : List ℕ) (m : ℕ) → degrees g g.size ≤ m
      → OneWalk (plain_walk g pairs) (least_walk g (turns_of g.size m) pairs) (least_said g (turns_of g.size m) pairs)
  one_walk pairs m few =
      subst (λ (p : Outcome). OneWalk p (least_walk g (turns_of g.size m) pairs) (least_said g (turns_of g.size m) pairs)) (whole_start pairs)
      (turns_one (turns_of g.size m) (start pairs) [] (start_trail g.size pairs) (start_shows pairs)
      (ended g g.size g.size g.size g.size pairs (record { met = omega arith; back = omega arith; taken = omega arith }) m few))

  -- Where it was not refused every atom was met, so the walk order fills its table.
  pub all_met : (pairs : List ℕ) (m : ℕ) → degrees g g.size ≤ m → refusal_in (plain_walk g pairs) ≡ None
      → (least_walk g (turns_of g.size m) pairs).walked ≡ (trail_of (plain_walk g pairs)).order
  all_met pairs m few e =
      let o = one_walk pairs m few in
      let w = least_walk g (turns_of g.size m) pairs in
      let f = ended g g.size g.size g.size g.size pairs (record { met = omega arith; back = omega arith; taken = omega arith }) m few (o.refusal ∙ e) in
      let l = least_exact g (turns_of g.size m) pairs in
      sym (take_all w.at.count w.walked (omega (arith, f.count, l.walked))) ∙ o.tables.walked
