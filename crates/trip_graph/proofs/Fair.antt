-- A graph with an atom that is walked without refusal is simple, whatever its tables and whatever the pool was lent: each entry was
-- taken, and each entry taken was compared with the other end, or its target was new and was entered by its one entry back.
use mathlib.Core.Path.{◌≡◌, refl, sym, ap, ◌∙◌, subst}
use mathlib.Core.Logic.{◌≢◌}
use mathlib.Core.List.{List, [], ◌∷◌, ◌++◌}
use mathlib.Core.Bool.{true, false}
use Prim.Native.Nat.{ℕ, zero, suc, ◌+◌, ◌-◌, ◌≤◌, ◌<◌}
use native.Mathlib.Omega.{arith}
use lib.ListN.{length, get_or, set}
use lib.Seq.{get_or-set_same, get_or-set_other}
use lib.Dec.{leb, eqb}
use borrow.Author.Tests.{eqb-true, eqb-false, leb-true, leb-false}
use Rattle.feature.specs.Bonds.{reverse_of}
use Rattle.feature.proofs.Bonds.{reverse_twice}
use Rattle.std.specs.Prelude as std
use Rattle.std.specs.Prelude.{Err, None, Ok, Option, Some, is_none, is_some}
use Rattle.walk_entry.specs.declared.WalkError.{WalkError}
use Rattle.join_pool.specs.declared.Pool.{Pool}
use Rattle.walk_entry.specs.Graph.{BondEntry, Graph, degree_at, bond_of}
use Rattle.walk_entry.specs.Ways.{way_of}
use Rattle.walk_entry.specs.Ties.{tie_of}
use Rattle.walk.specs.declared.walker.Walker.{Walker}
use Rattle.walk.specs.Walk.{Walk, Turn, quiet, root_passed, with_walker, met_at, took_at, left_in, root_turn, leave_of, numbered_of, ring_turn, tied_of, tie_turn, entered_of, enter_turn, bond_turn, entry_turn, atom_of, turn_of, step_of, walk_to, turns_of}
use Rattle.walk_laws.specs.Trek.{Room, fresh, degrees, Finished}
use Rattle.feature.proofs.Cases.{by_test, by_eq, clash}
use Rattle.walk_laws.proofs.Moves.{turn_moves}
use Rattle.table.proofs.Zeros.{zero_at}
use Rattle.walk_laws.proofs.Sound.{Sound, sound_start, step_sound}
use Rattle.walk_laws.proofs.Fits.{count_below}
use Rattle.walk_laws.proofs.Ended as walk-laws
use Rattle.trip_graph.specs.Renumber.{Backed, Simple, Known}
use Rattle.trip_graph.specs.Renumbered.{done_of}
use Rattle.trip_graph.proofs.Lists.{memb, by_bool}
use Rattle.trip_graph.proofs.View.{has_t}
use Rattle.trip_graph.proofs.Entries.{done_has}
use Rattle.trip_graph.proofs.State.{done_in, Sta, line_above, is_met, is_new, here_held, sta_start, sta_skip, sta_ends, sta_leaves, sta_pass, sta_joins, sta_root, sta_enters}
use Rattle.trip_graph.proofs.Stops.{some_stops}
use Rattle.trip_graph.proofs.Refusals.{Only, only_refusals}
use Rattle.walk.proofs.Going.{walk_off, not_none}
use Rattle.trip_graph.proofs.Ways.{Answers, Passes, way_passes, Ties, tie_ties}
use Rattle.walk.proofs.Place.{atom_at, by_place}

-- what a walk finds of the entry i of the atom a: it leads to another atom, to which no entry before it leads, and which holds its
-- reverse
record Good (g : Graph) (a i : ℕ) : Type 0 where
  known : (bond_of g a i).to < g.size
  apart : (bond_of g a i).to ≢ a
  first : (j : ℕ) → j < i → (bond_of g a j).to ≢ (bond_of g a i).to
  backed : Backed g a (bond_of g a i).to (bond_of g a i)

-- so are the entries taken, and those by which atoms were entered
record Fair (g : Graph) (w : Walk) : Type 0 where
  taken : (a i : ℕ) → i < get_or w.taken a 0 → Good g a i
  parent : (a : ℕ) → get_or w.back a 0 ≢ 0 → Good g a (get_or w.back a 0 - 1)

record Fine (g : Graph) (w : Walk) : Type 0 where
  order : List ℕ
  frame : List ℕ
  sta : Sta g w order frame
  fair : Fair g w
  fine : w.at.refusal ≡ None

data Result (g : Graph) (x : Turn) : Type 0 where
  goes : Fine g x.after → Result g x
  stops : x.after.at.refusal ≢ None → Result g x

-- the entry that answers the bond is backed by it
answers_backed : (g : Graph) (s i b : ℕ) → Answers g (bond_of g s i).kind s (bond_of g s i).to b → Backed g s (bond_of g s i).to (bond_of g s i)
answers_backed g s i b A =
    record {
      place = b - 1;
      within = omega (arith, A.some, A.sole.within);
      leads = A.sole.leads A.some;
      reversed = A.reversed;
    }

-- and the other way about: the entry back by which an atom is entered
answers_good : (g : Graph) (s i t b : ℕ) → s < g.size → i < degree_at g s → (bond_of g s i).to ≡ t → t ≢ s → Answers g (bond_of g s i).kind s t b → Good g t (b - 1)
answers_good g s i t b hs hi to ne A =
    let e : (bond_of g t (b - 1)).to ≡ s = A.sole.leads A.some in
    record {
      known = rw e hs;
      apart = λ z. ne (sym z ∙ e);
      first = λ j l z. let q : suc j ≡ b = A.sole.only j (omega (arith, A.sole.within)) (z ∙ e) in omega arith;
      backed = subst (λ (x : ℕ). Backed g t x (bond_of g t (b - 1))) (sym e)
          (record { place = i; within = hi; leads = to; reversed = sym (ap reverse_of A.reversed ∙ reverse_twice (bond_of g s i).kind) });
    }

module _ (g : Graph) (w : Walk) (dep : ℕ) (snd : Sound g w dep) (I : Fine g w) where
  abbrev R : Turn → Type 0
  R x = Result g x

  -- ---- a root
  new_root : is_some w.at.here ≡ false → w.at.next < g.size → get_or w.met w.at.next 0 ≡ 0 → Fine g (met_at w (root_passed w.at) w.at.next 0)
  new_root r hi m =
      let i : ℕ = w.at.next in
      let S = I.sta in
      let mi : memb i I.order ≡ false = is_new S i m in
      let few : length I.order < g.size = rw (← S.count) (count_below snd i hi m) in
      let rm : i < length w.met = omega (arith, snd.room.met) in
      let rb : i < length w.back = omega (arith, snd.room.back) in
      record {
        order = I.order ++ (i ∷ []);
        frame = i ∷ [];
        sta = sta_root S i rm rb hi mi few (S.rest r) (root_passed w.at) refl;
        fair = record {
          taken = I.fair.taken;
          parent = λ a. by_eq a i
              (λ e q. absurd (q (rw e (get_or-set_same w.back i 0 0 rb))))
              (λ e. rw (get_or-set_other w.back i a 0 0 e) (I.fair.parent a));
        };
        fine = I.fine;
      }

  root_turn_lem : is_some w.at.here ≡ false → R (root_turn g w)
  unfolding root_turn
  root_turn_lem r =
      by_test R (leb g.size w.at.next) (λ q. goes I)
      (λ q. by_test R (eqb (get_or w.met w.at.next 0) 0)
      (λ z. goes (new_root r (leb-false _ _ q) (eqb-true _ _ z)))
      (λ z. goes (record { order = I.order; frame = I.frame; sta = sta_skip I.sta; fair = record { taken = I.fair.taken; parent = I.fair.parent }; fine = I.fine })))

  -- ---- the way back
  left_turn : is_some w.at.here ≡ true → degree_at g (atom_at w) ≤ get_or w.taken (atom_at w) 0 → R (leave_of g w (atom_at w))
  unfolding left_in
  left_turn r h =
      by_test (λ (z : Walker). R (quiet (with_walker w z))) (eqb (get_or w.back (atom_at w) 0) 0)
      (λ q. goes (record { order = I.order; frame = []; sta = sta_ends I.sta r (eqb-true _ _ q) h; fair = record { taken = I.fair.taken; parent = I.fair.parent }; fine = I.fine }))
      (λ q. let A = line_above (I.sta.line r) (eqb-false _ _ q) in
      goes (record { order = I.order; frame = A.rest; sta = sta_leaves I.sta r (eqb-false _ _ q) A h; fair = record { taken = I.fair.taken; parent = I.fair.parent }; fine = I.fine }))

  -- ---- at an entry
  module _ (r : is_some w.at.here ≡ true) (more : get_or w.taken (atom_at w) 0 < degree_at g (atom_at w)) where
    abbrev s0 : ℕ
    s0 = atom_at w

    abbrev i0 : ℕ
    i0 = get_or w.taken s0 0

    abbrev e0 : BondEntry
    e0 = bond_of g s0 i0

    abbrev w1 : Walk
    w1 = took_at w s0 i0

    hs : s0 < g.size
    hs = I.sta.small s0 (here_held I.sta r)

    rt : s0 < length w.taken
    rt = omega (arith, hs, snd.room.taken)

    -- one more was taken
    took_good : Good g s0 i0 → (a i : ℕ) → i < get_or (set w.taken s0 (i0 + 1)) a 0 → Good g a i
    took_good G a i = by_eq a s0
        (λ e h. let z : i < i0 + 1 = rw (e, get_or-set_same w.taken s0 (i0 + 1) 0 rt) at h in
        subst (λ (x : ℕ). Good g x i) (sym e) (by_eq i i0 (λ q. subst (λ (x : ℕ). Good g s0 x) (sym q) G) (λ q. I.fair.taken s0 i (omega arith))))
        (λ e h. I.fair.taken a i (rw (get_or-set_other w.taken s0 a (i0 + 1) 0 e) at h))

    pass_turn : get_or w.back s0 0 ≡ i0 + 1 → R (quiet w1)
    pass_turn q =
        let z : get_or w.back s0 0 - 1 ≡ i0 = omega arith in
        let G : Good g s0 i0 = subst (λ (x : ℕ). Good g s0 x) z (I.fair.parent s0 (λ y. omega arith)) in
        goes (record { order = I.order; frame = I.frame; sta = sta_pass I.sta rt r more q; fair = record { taken = took_good G; parent = I.fair.parent }; fine = I.fine })

    module _ (q : get_or w.back s0 0 ≢ i0 + 1) (known : e0.to < g.size) (apart : e0.to ≢ s0) where
      -- ---- an atom met before
      given_turn : memb e0.to I.order ≡ true → Good g s0 i0 → (x : Option (Pool × ℕ)) (pairs : List ℕ) → R (numbered_of w1 e0.kind s0 e0.to x pairs)
      unfolding numbered_of
      given_turn mt G None pairs = stops (some_stops _)
      given_turn mt G (Some (p, n)) pairs =
          goes (record { order = I.order; frame = I.frame; sta = sta_joins I.sta rt r more q pairs p mt; fair = record { taken = took_good G; parent = I.fair.parent }; fine = I.fine })

      tied_turn : memb e0.to I.order ≡ true → (x : std.Result ℕ WalkError) → Ties g e0.kind s0 e0.to x → R (tied_of w1 e0.kind s0 e0.to x)
      unfolding tied_of Ties ring_turn
      tied_turn mt (Err why) h = stops (some_stops why)
      tied_turn mt (Ok b) h =
          given_turn mt (record {
            known = known;
            apart = apart;
            first = λ j l z. let y : j ≡ i0 = h.once j i0 (omega arith) more z refl in omega arith;
            backed = answers_backed g s0 i0 b h.answers;
          }) _ _

      -- ---- a new atom
      entered_turn : get_or w.met e0.to 0 ≡ 0 → (x : std.Result ℕ WalkError) → Passes g e0.kind s0 e0.to x → R (entered_of g w1 e0.kind e0.to x)
      unfolding entered_of Passes done_in answers_backed
      entered_turn m (Err why) h = stops (some_stops why)
      entered_turn m (Ok b) A =
          let S = I.sta in
          let o : List ℕ = I.order in
          let t : ℕ = e0.to in
          let mt : memb t o ≡ false = is_new S t m in
          let few : length o < g.size = rw (← S.count) (count_below snd t known m) in
          let rm : t < length w.met = omega (arith, known, snd.room.met) in
          let rb : t < length w.back = omega (arith, known, snd.room.back) in
          let k : Backed g s0 t e0 = answers_backed g s0 i0 b A in
          let z : suc (b - 1) ≡ b = omega (arith, A.some) in
          let G : Good g s0 i0 = record {
            known = known;
            apart = apart;
            first = λ j l y. clash (S.seen s0 t (subst (λ (x : ℕ). has_t x (done_of g s0 (get_or w.back s0 0) i0) ≡ true) y (done_has g s0 (get_or w.back s0 0) i0 j l))) mt;
            backed = k;
          } in
          goes (record {
            order = o ++ (t ∷ []);
            frame = t ∷ I.frame;
            sta = subst (λ (c : ℕ). Sta g (met_at w1 w.at t c) (o ++ (t ∷ [])) (t ∷ I.frame)) z (sta_enters S rt r more q t refl known rm rb mt few k);
            fair = record {
              taken = took_good G;
              parent = λ a. by_eq a t
                  (λ e y. rw (e, get_or-set_same w.back t b 0 rb) (answers_good g s0 i0 t b hs more refl apart A))
                  (λ e. rw (get_or-set_other w.back t a b 0 e) (I.fair.parent a));
            };
            fine = I.fine;
          })

    bond_turn_lem : get_or w.back s0 0 ≢ i0 + 1 → R (bond_turn g w1 s0 e0)
    unfolding bond_turn enter_turn tie_turn
    bond_turn_lem q =
        by_test R (leb g.size e0.to) (λ z. stops (some_stops _))
        (λ z. by_test R (eqb e0.to s0) (λ y. stops (some_stops _))
        (λ y. by_test R (eqb (get_or w.met e0.to 0) 0)
        (λ x. entered_turn q (leb-false _ _ z) (eqb-false _ _ y) (eqb-true _ _ x) (way_of g e0.kind s0 e0.to) (way_passes g e0.kind s0 e0.to))
        (λ x. tied_turn q (leb-false _ _ z) (eqb-false _ _ y) (is_met I.sta e0.to (eqb-false _ _ x)) (tie_of g e0.kind s0 e0.to) (tie_ties g e0.kind s0 e0.to))))

    entry_turn_lem : R (entry_turn g w s0 i0)
    unfolding entry_turn
    entry_turn_lem = by_test R (eqb (get_or w.back s0 0) (i0 + 1)) (λ z. pass_turn (eqb-true _ _ z)) (λ z. bond_turn_lem (eqb-false _ _ z))

  atom_turn : is_some w.at.here ≡ true → R (atom_of g w (atom_at w))
  unfolding atom_of
  atom_turn r =
      by_test R (leb (degree_at g (atom_at w)) (get_or w.taken (atom_at w) 0))
      (λ z. left_turn r (leb-true _ _ z)) (λ z. entry_turn_lem r (leb-false _ _ z))

  one_turn : R (turn_of g w)
  one_turn = by_place R g w atom_turn root_turn_lem

-- ---- turns
next_fine : (g : Graph) (t : ℕ) (w : Walk) (n : ℕ) → Sound g (turn_of g w).after n
    → ((v : Walk) (m : ℕ) → Sound g v m → Fine g v → (walk_to g t v).at.refusal ≡ None → Fine g (walk_to g t v))
    → Result g (turn_of g w) → (walk_to g t (turn_of g w).after).at.refusal ≡ None → Fine g (walk_to g t (turn_of g w).after)
next_fine g t w n s f (goes I) e = f (turn_of g w).after n s I e
next_fine g t w n s f (stops r) e =
    absurd (r (ap (λ (v : Walk). v.at.refusal) (sym (walk_off g t (turn_of g w).after r)) ∙ e))

turns_fine : (g : Graph) (t : ℕ) (w : Walk) (dep : ℕ) → Sound g w dep → Fine g w → (walk_to g t w).at.refusal ≡ None → Fine g (walk_to g t w)
unfolding walk_to step_of
turns_fine g zero w dep s I = λ e. I
turns_fine g (suc t) w dep s I =
    let m = turn_moves g w dep in
    by_test (λ (x : Turn). (walk_to g t x.after).at.refusal ≡ None → Fine g (walk_to g t x.after)) (is_none w.at.refusal)
    (λ q. next_fine g t w m.0 (step_sound s m.1) (turns_fine g t) (one_turn g w dep s I)) (λ q. absurd (not_none _ q I.fine))

-- ---- the law
fine_start : (g : Graph) (lm lw lb lt : ℕ) (pairs : List ℕ) → g.size ≤ lw → Fine g (fresh lm lw lb lt pairs)
fine_start g lm lw lb lt pairs wide =
    record {
      order = [];
      frame = [];
      sta = sta_start g lm lw lb lt pairs wide;
      fair = record {
        taken = λ a i h. let z : i < 0 = rw (zero_at lt a) at h in absurd (omega arith);
        parent = λ a h. absurd (h (zero_at lb a));
      };
      fine = refl;
    }

-- every entry was taken
fine_good : (g : Graph) (w : Walk) → Fine g w → Finished g w → (a i : ℕ) → a < g.size → i < degree_at g a → Good g a i
unfolding memb
fine_good g w I F a i h l =
    I.fair.taken a i (omega (arith, I.sta.left a (is_met I.sta a (F.met a h)) (rw (I.sta.rest (ap is_some F.current)))))

-- no two entries of an atom lead to one atom, for the later of the two would have an earlier beside it
good_once : (g : Graph) (a i j : ℕ) → Good g a i → Good g a j → (bond_of g a i).to ≡ (bond_of g a j).to → i ≡ j
good_once g a i j G H e =
    by_eq i j (λ q. q)
    (λ q. by_bool (leb (suc i) j)
    (λ z. absurd (H.first i (leb-true (suc i) j z) e))
    (λ z. absurd (G.first j (omega (arith, leb-false (suc i) j z)) (sym e))))

-- On tables with room for every atom, walked without refusal. Nothing is asked of the graph's entries, of its marks or of the pool.
module _ (g : Graph) (lm lw lb lt : ℕ) (pairs : List ℕ) (room : Room g lm lb lt) (wide : g.size ≤ lw) (m : ℕ) (few : degrees g g.size ≤ m) where
  abbrev walked : Walk
  walked = walk_to g (turns_of g.size m) (fresh lm lw lb lt pairs)

  all_good : walked.at.refusal ≡ None → (a i : ℕ) → a < g.size → i < degree_at g a → Good g a i
  all_good e =
      fine_good g walked
      (turns_fine g (turns_of g.size m) (fresh lm lw lb lt pairs) 0 (sound_start g lm lw lb lt pairs room) (fine_start g lm lw lb lt pairs wide) e)
      (walk-laws.ended g lm lw lb lt pairs room m few e)

  -- A graph with at least one atom is then simple: each bond held at both ends as the other's reverse.
  pub written_simple : 1 ≤ g.size → walked.at.refusal ≡ None → Simple g
  written_simple some e =
      record {
        some = some;
        apart = λ a i h l. (all_good e a i h l).apart;
        once = λ a i j h li lj. good_once g a i j (all_good e a i h li) (all_good e a j h lj);
        backed = λ a i h l. (all_good e a i h l).backed;
      }

  -- and every target is an atom
  pub written_known : walked.at.refusal ≡ None → Known g
  written_known e a i h l = (all_good e a i h l).known

  -- Exactly the simple graphs are walked without refusal, but for a mark that can't be turned (10) and want of a ring number (11).
  pub fair_exactly : 1 ≤ g.size → (walked.at.refusal ≡ None → Simple g) × (Simple g → Only g walked.at.refusal)
  fair_exactly some =
      (written_simple some, λ W. only_refusals g W lm lw lb lt pairs room (turns_of g.size m))
