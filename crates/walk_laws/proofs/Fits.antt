-- A walk and the pieces written of it, turn by turn: there are pieces for all the atoms on the way up and for those left since
-- the last event, no more pieces than atoms met, and a line that is paid for by the atoms met and the entries taken. Each atom
-- pays 24 bytes: 22 for its own piece, and 2 for the brackets around the pieces that a pop takes away. Assumes nothing.
use Prim.Native.Nat.{ℕ, zero, suc, ◌+◌, ◌*◌, ◌≤◌, ◌<◌}
use mathlib.Core.Path.{◌≡◌}
use mathlib.Core.List.{List, [], ◌++◌}
use mathlib.Core.Bool.{true}
use native.Mathlib.Omega.{arith}
use lib.ListN.{length, get_or, set}
use Rattle.writer.specs.Line.{Event, line_of, write_events}
use Rattle.walk_entry.specs.Graph.{Graph, degree_at}
use Rattle.std.specs.Prelude.{is_none, is_some}
use Rattle.walk.specs.Walk.{Walk, Turn, step_of, walk_to, events_of}
use Rattle.walk_laws.specs.Trek.{Room, fresh, AllAccepted, degrees}
use Rattle.feature.proofs.Cases.{by_test}
use Rattle.walk_laws.proofs.Moves.{Move, still, skip, root, ends, leaves, takes, refuses, joins, enters, turn_moves, taken_of}
use Rattle.walk_laws.proofs.Sums.{entries_left, left_taken, left_all}
use Rattle.walk_laws.proofs.Sound.{Sound, up_within, up_some, sound_start, met_counted, step_sound}
use Rattle.walk_laws.proofs.Written.{leaves_root, pops_join, pops_extend, write_append, accept_append}
use Rattle.walk.proofs.Place.{atom_at}

pub record Fits (g : Graph) (w : Walk) (d : ℕ) (ps : List (List ℕ)) : Type 0 where
  pub deep : d + w.at.pend ≤ length ps
  pub few : length ps ≤ w.at.count
  pub short : length (line_of ps) + 2 * length ps + 4 * entries_left g w.taken ≤ 24 * w.at.count + 4 * degrees g g.size

-- the state and the pieces after a turn, where d atoms are on the way up
pub record Goes (g : Graph) (most : ℕ) (ps : List (List ℕ)) (x : Turn) (d : ℕ) : Type 0 where
  pub sound : Sound g x.after d
  pub accepted : AllAccepted most x.said ps
  pub fits : Fits g x.after d (write_events most x.said ps)

module _ {g : Graph} {w : Walk} {d : ℕ} (s : Sound g w d) where
  -- one entry less is left
  pub left_less : is_some w.at.here ≡ true → taken_of w < degree_at g (atom_at w)
      → entries_left g w.taken ≡ suc (entries_left g (set w.taken (atom_at w) (taken_of w + 1)))
  left_less r h = left_taken g w.taken (atom_at w) (up_within (s.stands r)) s.room.taken h

  -- an atom not met is one more than were counted
  pub count_below : (t : ℕ) → t < g.size → get_or w.met t 0 ≡ 0 → w.at.count < g.size
  count_below t l m = omega (arith, met_counted s t 1 l m (omega arith))

  module _ (most : ℕ) (enough : g.size ≤ most) (ps : List (List ℕ)) (f : Fits g w d ps) where
    step_goes : {x : Turn} {n : ℕ} → Move g w d x n → AllAccepted most x.said ps × Fits g x.after n (write_events most x.said ps)
    unfolding write_events
    step_goes (still r h) = (tt, f)
    step_goes (skip r h m) = (tt, record { deep = f.deep; few = f.few; short = f.short })
    step_goes (root r h m k) =
        let l = leaves_root most ps k (omega (arith, count_below w.at.next h m, f.few)) in (
          l.accepted,
          record {
            deep = omega (arith, l.pieces);
            few = omega (arith, l.pieces, f.few);
            short = omega (arith, l.pieces, l.line, f.short);
          },
        )
    step_goes (ends r h) = (tt, record { deep = omega arith; few = f.few; short = f.short })
    step_goes (leaves r h) =
        (tt, record { deep = omega (arith, f.deep, up_some (s.stands r)); few = f.few; short = f.short })
    step_goes (takes r h) =
        (tt, record { deep = f.deep; few = f.few; short = omega (arith, f.short, left_less r h) })
    step_goes (refuses r h pairs why) =
        (tt, record { deep = f.deep; few = f.few; short = omega (arith, f.short, left_less r h) })
    step_goes (joins r h pairs p k n) =
        let l = pops_join most ps w.at.pend (omega (arith, f.deep, up_some (s.stands r))) k n in (
          l.accepted,
          record {
            deep = omega (arith, l.pieces, f.deep);
            few = omega (arith, l.pieces, f.few);
            short = omega (arith, l.pieces, l.line, f.short, f.deep, left_less r h);
          },
        )
    step_goes (enters r h t b i m nb to e k) =
        let l = pops_extend most ps w.at.pend (omega (arith, f.deep, up_some (s.stands r))) e k (omega (arith, count_below t i m, f.few)) in (
          l.accepted,
          record {
            deep = omega (arith, l.pieces, f.deep);
            few = omega (arith, l.pieces, f.few);
            short = omega (arith, l.pieces, l.line, f.short, f.deep, left_less r h);
          },
        )

-- one turn, refused or not
turn_goes : (g : Graph) (w : Walk) (d : ℕ) → Sound g w d → (most : ℕ) → g.size ≤ most → (ps : List (List ℕ)) → Fits g w d ps → (n : ℕ) × Goes g most ps (step_of g w) n
unfolding step_of write_events
turn_goes g w d s most enough ps f =
    by_test (λ (x : Turn). (n : ℕ) × Goes g most ps x n) (is_none w.at.refusal)
    (λ q. let m = turn_moves g w d in let l = step_goes s most enough ps f m.1 in
    (m.0, record { sound = step_sound s m.1; accepted = l.0; fits = l.1 }))
    (λ q. (d, record { sound = s; accepted = tt; fits = f }))

-- ---- turns
-- what they say is taken, and the walk and the pieces still fit
pub record Went (g : Graph) (most : ℕ) (ps : List (List ℕ)) (es : List Event) (w : Walk) (d : ℕ) : Type 0 where
  pub sound : Sound g w d
  pub accepted : AllAccepted most es ps
  pub fits : Fits g w d (write_events most es ps)

goes_on : {g : Graph} {most : ℕ} {ps : List (List ℕ)} {x : Turn} {d n : ℕ} {es : List Event} {w : Walk} → Goes g most ps x d → Went g most (write_events most x.said ps) es w n → Went g most ps (x.said ++ es) w n
goes_on {g} {most} {ps} {x} {d} {n} {es} {w} h k =
    record {
      sound = k.sound;
      accepted = accept_append most x.said es ps h.accepted k.accepted;
      fits = rw (write_append most x.said es ps) k.fits;
    }

pub turns_go : (g : Graph) (most : ℕ) → g.size ≤ most → (t : ℕ) (w : Walk) (d : ℕ) (ps : List (List ℕ)) → Sound g w d → Fits g w d ps
    → (n : ℕ) × Went g most ps (events_of g t w) (walk_to g t w) n
unfolding events_of walk_to write_events
turns_go g most enough zero w d ps s f = (d, record { sound = s; accepted = tt; fits = f })
turns_go g most enough (suc t) w d ps s f =
    let a = turn_goes g w d s most enough ps f in
    let b = turns_go g most enough t (step_of g w).after a.0 (write_events most (step_of g w).said ps) a.1.sound a.1.fits in
    (b.0, goes_on a.1 b.1)

fits_start : (g : Graph) (lm lw lb lt : ℕ) (pairs : List ℕ) → Fits g (fresh lm lw lb lt pairs) 0 []
unfolding line_of
fits_start g lm lw lb lt pairs = record { deep = omega arith; few = omega arith; short = omega (arith, left_all g lt) }

pub walk_goes : (g : Graph) (lm lw lb lt : ℕ) (pairs : List ℕ) → Room g lm lb lt → (most : ℕ) → g.size ≤ most → (t : ℕ)
    → (n : ℕ) × Went g most [] (events_of g t (fresh lm lw lb lt pairs)) (walk_to g t (fresh lm lw lb lt pairs)) n
walk_goes g lm lw lb lt pairs r most enough t =
    turns_go g most enough t (fresh lm lw lb lt pairs) 0 [] (sound_start g lm lw lb lt pairs r) (fits_start g lm lw lb lt pairs)
