-- The lengths of a walk's tables do not matter: with more room than the atoms need, each turn says the same, and leaves the same
-- tables with zeros after them. Nor does the room for more pieces of the line than there are atoms. Assumes nothing.
use Prim.Native.Nat.{ℕ, zero, suc, ◌+◌, ◌-◌, ◌*◌, ◌≤◌, ◌<◌}
use mathlib.Core.Path.{◌≡◌, refl, sym, ap, ◌∙◌, subst, ap₂}
use mathlib.Core.List.{List, [], ◌∷◌}
use mathlib.Core.Bool.{Bool, true, false}
use native.Mathlib.Omega.{arith}
use lib.ListN.{length, get_or, set, replicate, length-set, length-replicate, replicate-append-replicate}
use lib.Dec.{leb, eqb}
use borrow.Author.Tests.{lt-leb, eqb-true, leb-false}
use Rattle.feature.specs.Pick.{pick}
use Rattle.feature.specs.declared.bond_kind.BondKind.{BondKind}
use Rattle.std.specs.Prelude.{Err, None, Ok, Option, Result, Some, is_none, is_some}
use Rattle.walk_entry.specs.declared.WalkError.{WalkError}
use Rattle.join_pool.specs.declared.Pool.{Pool}
use Rattle.join_pool.specs.Pairs.{hit_of}
use Rattle.writer.specs.Line.{Event, Root, Extend, Join, Pop, add_piece, write_event, write_events}
use Rattle.walk_entry.specs.declared.entry.Back.{Back}
use Rattle.walk_entry.specs.declared.entry.Back.TheVariants.{Found, Twice, Fixed}
use Rattle.walk_entry.specs.Graph.{BondEntry, Graph, entry_at, bond_in, bond_of, kind_at, degree_at}
use Rattle.table.specs.Records.{bond_words}
use Rattle.walk_entry.specs.Ways.{said_as, scan_in, scan_of, judged_back, way_of}
use Rattle.walk_entry.specs.Ties.{tie_of}
use Rattle.walk_entry.specs.Steps.{scanned_to, is_twice, tied_by}
use Rattle.walk_entry.proofs.Ties.{tie_scans}
use Rattle.walk.specs.declared.walker.Walker.{Walker}
use Rattle.walk.specs.Walk.{Walk, Turn, turn, quiet, root_passed, with_walker, met_at, took_at, pops_then, left_in, root_turn, leave_of, numbered_of, ring_turn, tied_of, tie_turn, entered_of, enter_turn, bond_turn, entry_turn, atom_of, turn_of, step_of, walk_to, events_of}
use Rattle.walk_laws.specs.Trek.{Room, fresh, Accepts, AllAccepted, least_walk}
use Rattle.walk_laws.specs.Steps.{longer, longer_graph, longer_walk, Alike, Lengths, AnyLength, ExactWalk}
use Rattle.feature.proofs.Cases.{by_test}
use Rattle.table.proofs.Zeros.{zero_at}
use Rattle.walk_laws.proofs.Moves.{Move, still, skip, root, ends, leaves, takes, refuses, joins, enters, turn_moves}
use Rattle.walk_laws.proofs.Sound.{Sound, up_within, sound_start, step_sound}
use Rattle.walk_laws.proofs.Fits.{count_below}
use Rattle.walk.proofs.Place.{atom_at, turn_is}

-- it looks the same everywhere
pub get_d_longer : (j : ℕ) (l : List ℕ) (i : ℕ) → get_or (longer j l) i 0 ≡ get_or l i 0
get_d_longer j [] i = zero_at j i
get_d_longer j (x ∷ l) zero = refl
get_d_longer j (x ∷ l) (suc i) = get_d_longer j l i

-- and is stored to in the same way
pub set_longer : (j : ℕ) (l : List ℕ) (i v : ℕ) → i < length l → set (longer j l) i v ≡ longer j (set l i v)
set_longer j [] i v h = absurd (omega arith)
set_longer j (x ∷ l) zero v h = refl
set_longer j (x ∷ l) (suc i) v h = ap (λ (r : List ℕ). x ∷ r) (set_longer j l i v (omega arith))

-- ---- the entries of an atom
bond_longer : (j : ℕ) (bonds first : List ℕ) (a i : ℕ) → bond_in bonds (longer j first) a i ≡ bond_in bonds first a i
unfolding bond_in
bond_longer j bonds first a i = ap (λ (x : ℕ). entry_at bonds ((x + i) * bond_words)) (get_d_longer j first a)

scan_longer : (j : ℕ) (bonds first : List ℕ) (t s : ℕ) (fixed : Bool) (n back : ℕ) → scan_in bonds (longer j first) t s fixed n back ≡ scan_in bonds first t s fixed n back
unfolding scan_in
scan_longer j bonds first t s fixed zero back = refl
scan_longer j bonds first t s fixed (suc i) back =
    rw (bond_longer j bonds first t i, scan_longer j bonds first t s fixed i back, scan_longer j bonds first t s fixed i (suc i)) refl

judged_longer : (j : ℕ) (g : Graph) (k : BondKind) (s t : ℕ) (x : Back) → judged_back (longer_graph j g) k s t x ≡ judged_back g k s t x
unfolding judged_back
judged_longer j g k s t Fixed = refl
judged_longer j g k s t Twice = refl
judged_longer j g k s t (Found b) = rw (bond_longer j g.bonds g.first t (b - 1)) refl

way_longer : (j : ℕ) (g : Graph) (k : BondKind) (s t : ℕ) → way_of (longer_graph j g) k s t ≡ way_of g k s t
unfolding way_of
way_longer j g k s t =
    judged_longer j g k s t (scan_of (longer_graph j g) t s)
    ∙ ap (judged_back g k s t) (scan_longer j g.bonds g.first t s _ (degree_at g t) 0)

tied_longer : (j : ℕ) (g : Graph) (k : BondKind) (s t : ℕ) (q : Bool) (x : Back) → tied_by (longer_graph j g) k s t q x ≡ tied_by g k s t q x
unfolding tied_by
tied_longer j g k s t q Fixed = refl
tied_longer j g k s t q Twice = refl
tied_longer j g k s t q (Found b) = rw (bond_longer j g.bonds g.first t (b - 1)) refl

tie_longer : (j : ℕ) (g : Graph) (k : BondKind) (s t : ℕ) → tie_of (longer_graph j g) k s t ≡ tie_of g k s t
tie_longer j g k s t =
    tie_scans (longer_graph j g) k s t
    ∙ tied_longer j g k s t (is_twice (scanned_to (longer_graph j g) s t)) (scanned_to (longer_graph j g) t s)
    ∙ ap₂ (λ (x y : Back). tied_by g k s t (is_twice x) y) (scan_longer j g.bonds g.first s t _ (degree_at g s) 0) (scan_longer j g.bonds g.first t s _ (degree_at g t) 0)
    ∙ sym (tie_scans g k s t)

-- ---- one turn
-- what a turn needs of the tables: room for every atom, and for the next number in walk order where an atom is not met
record Enough (g : Graph) (w : Walk) : Type 0 where
  room : Room g (length w.met) (length w.back) (length w.taken)
  walked : g.size ≤ length w.walked
  more : (t : ℕ) → t < g.size → get_or w.met t 0 ≡ 0 → w.at.count < g.size
  here : is_some w.at.here ≡ true → atom_at w < g.size

sound_enough : {g : Graph} {w : Walk} {d : ℕ} → Sound g w d → g.size ≤ length w.walked → Enough g w
sound_enough s l = record { room = s.room; walked = l; more = count_below s; here = λ r. up_within (s.stands r) }

module _ (g : Graph) (lf lm lw lb lt : ℕ) where
  abbrev wide : Graph
  wide = longer_graph lf g

  abbrev long : Walk → Walk
  long w = longer_walk lm lw lb lt w

  -- it leaves the longer walk, and says the same
  abbrev later : Turn → Turn
  later x = turn (long x.after) x.said

  -- a turn of the longer walk that is the other's
  record Later (y x : Turn) : Type 0 where
    is : y ≡ later x

  -- two choices by one test
  chosen : (p q : Bool) {a b x y : Turn} → p ≡ q → (q ≡ true → Later a x) → (q ≡ false → Later b y) → Later (pick p a b) (pick q x y)
  chosen p true e f h = rw e (f refl)
  chosen p false e f h = rw e (h refl)

  met_long : (w : Walk) (z : Walker) (a b : ℕ) → a < length w.met → z.count < length w.walked → a < length w.back
      → met_at (long w) z a b ≡ long (met_at w z a b)
  met_long w z a b hm hw hb =
      rw (set_longer lm w.met a (z.count + 1) hm, set_longer lw w.walked z.count a hw, set_longer lb w.back a b hb) refl

  took_long : (w : Walk) (a i : ℕ) → a < length w.taken → took_at (long w) a i ≡ long (took_at w a i)
  took_long w a i h = rw (set_longer lt w.taken a (i + 1) h) refl

  module _ (w : Walk) (f : Enough g w) where
    -- the atom a met, where it was not before
    entry_met : (z : Walker) (a b : ℕ) → z.count ≡ w.at.count → a < g.size → get_or w.met a 0 ≡ 0 → met_at (long w) z a b ≡ long (met_at w z a b)
    entry_met z a b e l m =
        met_long w z a b (omega (arith, f.room.met)) (omega (arith, e, f.walked, f.more a l m)) (omega (arith, f.room.back))

    root_long : Later (root_turn wide (long w)) (root_turn g w)
    unfolding root_turn
    root_long =
        chosen _ _ refl (λ q. record { is = refl })
        (λ q. chosen _ _ (ap (λ (x : ℕ). eqb x 0) (get_d_longer lm w.met w.at.next))
        (λ z. record { is = ap (λ (v : Walk). turn v (Root (said_as (kind_at g w.at.next) 0) ∷ [])) (entry_met (root_passed w.at) w.at.next 0 refl (leb-false _ _ q) (eqb-true _ _ z)) })
        (λ z. record { is = refl }))

    left_long : (a : ℕ) → left_in g.bonds (longer lf g.first) (longer lb w.back) w.at a ≡ left_in g.bonds g.first w.back w.at a
    unfolding left_in
    left_long a = rw (get_d_longer lb w.back a, bond_longer lf g.bonds g.first a (get_or w.back a 0 - 1)) refl

    leave_long : (a : ℕ) → Later (leave_of wide (long w) a) (leave_of g w a)
    leave_long a = record { is = ap (λ (z : Walker). quiet (with_walker (long w) z)) (left_long a) }

    given_long : (k : BondKind) (s t : ℕ) (x : Option (Pool × ℕ)) (pairs : List ℕ) → Later (numbered_of (long w) k s t x pairs) (numbered_of w k s t x pairs)
    unfolding numbered_of
    given_long k s t None pairs = record { is = refl }
    given_long k s t (Some (p, n)) pairs = record { is = refl }

    ring_long : (k : BondKind) (s t : ℕ) → Later (ring_turn (long w) k s t) (ring_turn w k s t)
    unfolding ring_turn
    ring_long k s t =
        given_long k s t (hit_of w.at.pool w.pairs s t).answer (hit_of w.at.pool w.pairs s t).left

    tied_long : (k : BondKind) (s t : ℕ) (x : Result ℕ WalkError) → Later (tied_of (long w) k s t x) (tied_of w k s t x)
    unfolding tied_of
    tied_long k s t (Err why) = record { is = refl }
    tied_long k s t (Ok b) = ring_long k s t

    tie_long : (k : BondKind) (s t : ℕ) → Later (tie_turn wide (long w) k s t) (tie_turn g w k s t)
    unfolding tie_turn
    tie_long k s t = rw (tie_longer lf g k s t) (tied_long k s t (tie_of g k s t))

    way_long : (k : BondKind) (t : ℕ) → t < g.size → get_or w.met t 0 ≡ 0 → (x : Result ℕ WalkError) → Later (entered_of wide (long w) k t x) (entered_of g w k t x)
    unfolding entered_of
    way_long k t h m (Err why) = record { is = refl }
    way_long k t h m (Ok b) =
        record { is = ap (λ (v : Walk). turn v (pops_then w.at.pend (Extend k (said_as (kind_at g t) b)))) (entry_met w.at t b refl h m) }

    enter_long : (k : BondKind) (s t : ℕ) → t < g.size → get_or w.met t 0 ≡ 0 → Later (enter_turn wide (long w) k s t) (enter_turn g w k s t)
    unfolding enter_turn
    enter_long k s t h m = rw (way_longer lf g k s t) (way_long k t h m (way_of g k s t))

    bond_long : (s : ℕ) (b : BondEntry) → Later (bond_turn wide (long w) s b) (bond_turn g w s b)
    unfolding bond_turn
    bond_long s b =
        chosen (leb g.size b.to) (leb g.size b.to) refl (λ q. record { is = refl })
        (λ q. chosen (eqb b.to s) (eqb b.to s) refl (λ z. record { is = refl })
        (λ z. chosen (eqb (get_or (longer lm w.met) b.to 0) 0) (eqb (get_or w.met b.to 0) 0) (ap (λ (x : ℕ). eqb x 0) (get_d_longer lm w.met b.to))
        (λ y. enter_long b.kind s b.to (leb-false _ _ q) (eqb-true _ _ y))
        (λ y. tie_long b.kind s b.to)))

  -- an entry taken leaves as much room
  took_enough : (w : Walk) → Enough g w → (a i : ℕ) → Enough g (took_at w a i)
  took_enough w f a i =
      record {
        room = record { met = f.room.met; back = f.room.back; taken = rw length-set f.room.taken };
        walked = f.walked;
        more = f.more;
        here = f.here;
      }

  module _ (w : Walk) (f : Enough g w) where
    entry_long : (a i : ℕ) → a < g.size → Later (entry_turn wide (long w) a i) (entry_turn g w a i)
    unfolding entry_turn
    entry_long a i h =
        let t : took_at (long w) a i ≡ long (took_at w a i) = took_long w a i (omega (arith, f.room.taken)) in
        chosen _ _ (ap (λ (x : ℕ). eqb x (i + 1)) (get_d_longer lb w.back a))
        (λ q. record { is = ap quiet t })
        (λ q. rw (t, bond_longer lf g.bonds g.first a i) (bond_long (took_at w a i) (took_enough w f a i) a (bond_of g a i)))

    atom_long : (a : ℕ) → a < g.size → Later (atom_of wide (long w) a) (atom_of g w a)
    unfolding atom_of
    atom_long a h =
        let e : get_or (longer lt w.taken) a 0 ≡ get_or w.taken a 0 = get_d_longer lt w.taken a in
        chosen _ _ (ap (λ (x : ℕ). leb (degree_at g a) x) e) (λ q. leave_long w f a) (λ q. rw e (entry_long a (get_or w.taken a 0) h))

    quiet_long : Later (quiet (long w)) (quiet w)
    quiet_long = record { is = refl }

    turn_long : Later (turn_of wide (long w)) (turn_of g w)
    turn_long = rw (turn_is wide (long w), turn_is g w) (chosen (is_some w.at.here) _ refl (λ q. atom_long (atom_at w) (f.here q)) (λ q. root_long w f))

    step_long : Later (step_of wide (long w)) (step_of g w)
    unfolding step_of
    step_long = chosen (is_none w.at.refusal) (is_none w.at.refusal) refl (λ q. turn_long) (λ q. quiet_long)

-- ---- turns
-- a turn keeps the lengths
move_exact : {g : Graph} {w : Walk} {d n : ℕ} {x : Turn} → ExactWalk g w → Move g w d x n → ExactWalk g x.after
move_exact e (still r h) = e
move_exact e (skip r h m) = e
move_exact e (root r h m k) = record { met = rw length-set e.met; walked = rw length-set e.walked; back = rw length-set e.back }
move_exact e (ends r h) = e
move_exact e (leaves r h) = e
move_exact e (takes r h) = e
move_exact e (refuses r h pairs why) = e
move_exact e (joins r h pairs p k n) = e
move_exact e (enters r h t b i m nb to c k) = record { met = rw length-set e.met; walked = rw length-set e.walked; back = rw length-set e.back }

-- what it leaves is as sound
record Kept (g : Graph) (w : Walk) : Type 0 where
  deep : ℕ
  sound : Sound g w deep
  exact : ExactWalk g w

step_kept : (g : Graph) (w : Walk) → Kept g w → Kept g (step_of g w).after
unfolding step_of
step_kept g w k =
    by_test (λ (x : Turn). Kept g x.after) (is_none w.at.refusal)
    (λ q. let m = turn_moves g w k.deep in
    record { deep = m.0; sound = step_sound k.sound m.1; exact = move_exact k.exact m.1 })
    (λ q. k)

turns_kept : (g : Graph) (t : ℕ) (w : Walk) → Kept g w → Kept g (walk_to g t w)
unfolding walk_to
turns_kept g zero w k = k
turns_kept g (suc t) w k = turns_kept g t (step_of g w).after (step_kept g w k)

-- so many turns from w on longer tables
record Longer (g : Graph) (lf lm lw lb lt t : ℕ) (w : Walk) : Type 0 where
  left : walk_to (longer_graph lf g) t (longer_walk lm lw lb lt w) ≡ longer_walk lm lw lb lt (walk_to g t w)
  said : events_of (longer_graph lf g) t (longer_walk lm lw lb lt w) ≡ events_of g t w

turns_long : (g : Graph) (lf lm lw lb lt t : ℕ) (w : Walk) → Kept g w → Longer g lf lm lw lb lt t w
unfolding walk_to events_of
turns_long g lf lm lw lb lt zero w k = record { left = refl; said = refl }
turns_long g lf lm lw lb lt (suc t) w k =
    let s : step_of (longer_graph lf g) (longer_walk lm lw lb lt w) ≡ turn (longer_walk lm lw lb lt (step_of g w).after) (step_of g w).said =
    (step_long g lf lm lw lb lt w (sound_enough k.sound (omega (arith, k.exact.walked)))).is in
    let r = turns_long g lf lm lw lb lt t (step_of g w).after (step_kept g w k) in
    record { left = rw s r.left; said = rw (s, r.said) refl }

-- ---- whole walks
-- zeros are zeros with more zeros after them
pub longer_zeros : (n l : ℕ) → n ≤ l → longer (l - n) (replicate n 0) ≡ replicate l 0
longer_zeros n l h =
    let e : n + (l - n) ≡ l = omega (arith, h) in
    replicate-append-replicate n (l - n) 0 ∙ ap (λ (k : ℕ). replicate k 0) e

module _ (g : Graph) (t : ℕ) (pairs : List ℕ) where
  start_kept : Kept g (fresh g.size g.size g.size g.size pairs)
  start_kept =
      record {
        deep = 0;
        sound = sound_start g g.size g.size g.size g.size pairs (record { met = omega arith; back = omega arith; taken = omega arith });
        exact = record { met = length-replicate g.size 0; walked = length-replicate g.size 0; back = length-replicate g.size 0 };
      }

  pub least_exact : ExactWalk g (least_walk g t pairs)
  least_exact = (turns_kept g t (fresh g.size g.size g.size g.size pairs) start_kept).exact

  -- The lengths of the tables do not matter.
  pub any_length : (lf lm lw lb lt : ℕ) → Lengths g lm lw lb lt → AnyLength g lf lm lw lb lt t pairs
  any_length lf lm lw lb lt h =
      let n : ℕ = g.size in
      let e : fresh lm lw lb lt pairs ≡ longer_walk (lm - n) (lw - n) (lb - n) (lt - n) (fresh n n n n pairs) =
      rw (longer_zeros n lm h.met, longer_zeros n lw h.walked, longer_zeros n lb h.back, longer_zeros n lt h.taken) refl in
      let s = turns_long g lf (lm - n) (lw - n) (lb - n) (lt - n) t (fresh n n n n pairs) start_kept in
      record {
        left = ap (λ (w : Walk). walk_to (longer_graph lf g) t w) e ∙ s.left;
        said = ap (λ (w : Walk). events_of (longer_graph lf g) t w) e ∙ s.said;
      }

-- So two walks with tables of any lengths come as far at every turn, and their tables look alike.
longer_alike : (w : Walk) (am aw ab at bm bw bb bt : ℕ) → Alike (longer_walk am aw ab at w) (longer_walk bm bw bb bt w)
longer_alike w am aw ab at bm bw bb bt =
    record {
      at = refl;
      met = λ i. get_d_longer am w.met i ∙ sym (get_d_longer bm w.met i);
      walked = λ i. get_d_longer aw w.walked i ∙ sym (get_d_longer bw w.walked i);
      back = λ i. get_d_longer ab w.back i ∙ sym (get_d_longer bb w.back i);
      taken = λ i. get_d_longer at w.taken i ∙ sym (get_d_longer bt w.taken i);
      pairs = refl;
    }

pub walks_alike : (g : Graph) (t : ℕ) (pairs : List ℕ) (af am aw ab at bf bm bw bb bt : ℕ) → Lengths g am aw ab at → Lengths g bm bw bb bt
    → Alike (walk_to (longer_graph af g) t (fresh am aw ab at pairs)) (walk_to (longer_graph bf g) t (fresh bm bw bb bt pairs))
walks_alike g t pairs af am aw ab at bf bm bw bb bt h k =
    let n : ℕ = g.size in
    rw ((any_length g t pairs af am aw ab at h).left, (any_length g t pairs bf bm bw bb bt k).left)
    (longer_alike (least_walk g t pairs) (am - n) (aw - n) (ab - n) (at - n) (bm - n) (bw - n) (bb - n) (bt - n))

pub words_alike : (g : Graph) (t : ℕ) (pairs : List ℕ) (af am aw ab at bf bm bw bb bt : ℕ) → Lengths g am aw ab at → Lengths g bm bw bb bt
    → events_of (longer_graph af g) t (fresh am aw ab at pairs) ≡ events_of (longer_graph bf g) t (fresh bm bw bb bt pairs)
words_alike g t pairs af am aw ab at bf bm bw bb bt h k =
    (any_length g t pairs af am aw ab at h).said ∙ sym (any_length g t pairs bf bm bw bb bt k).said

-- ---- the pieces of the line
-- a writer that takes every event makes the same pieces, whatever room there is for more
event_alike : (a b : ℕ) (e : Event) (ps : List (List ℕ)) → Accepts a e ps → Accepts b e ps → write_event a e ps ≡ write_event b e ps
unfolding write_event add_piece
event_alike a b (Root k) ps h i = simp (lt-leb a (length ps) h, lt-leb b (length ps) i)
event_alike a b (Extend c k) ps h i = simp (lt-leb a (length ps) h, lt-leb b (length ps) i)
event_alike a b (Join c n) ps h i = refl
event_alike a b (Pop d) ps h i = refl

pub pieces_alike : (a b : ℕ) (es : List Event) (ps : List (List ℕ)) → AllAccepted a es ps → AllAccepted b es ps → write_events a es ps ≡ write_events b es ps
unfolding write_events
pieces_alike a b [] ps h i = refl
pieces_alike a b (e ∷ es) ps h i =
    let q : write_event a e ps ≡ write_event b e ps = event_alike a b e ps h.0 i.0 in
    ap (write_events a es) q ∙ pieces_alike a b es (write_event b e ps) (subst (AllAccepted a es) q h.1) i.1
