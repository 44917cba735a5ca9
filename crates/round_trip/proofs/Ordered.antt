-- A walk tells its events in an order that a line can say. Assumes nothing.
use Prim.Native.Nat.{ℕ, zero, suc, ◌+◌, ◌-◌, ◌≤◌, ◌<◌}
use mathlib.Core.Path.{◌≡◌, refl}
use mathlib.Core.Logic.{◌≢◌}
use mathlib.Core.List.{List, [], ◌∷◌, ◌++◌}
use mathlib.Core.Bool.{true, false≢true}
use native.Mathlib.Omega.{arith}
use lib.ListN.{length, get_or}
use lib.Dec.{eqb}
use borrow.Author.Tests.{eqb-true, eqb-false, lt-leb, eq-eqb}
use Rattle.std.specs.Prelude.{None, is_none, is_some}
use Rattle.writer.specs.Line.{Event, Extend, Join}
use Rattle.walk_entry.specs.Graph.{Graph}
use Rattle.walk.specs.Walk.{Walk, Turn, pops_of, pops_then, root_turn, turn_of, step_of, events_of}
use Rattle.walk_laws.specs.Trek.{Room, fresh}
use Rattle.feature.proofs.Cases.{by_test}
use Rattle.table.proofs.Zeros.{zero_at}
use Rattle.walk_laws.proofs.Moves.{Move, still, skip, root, ends, leaves, takes, refuses, joins, enters, turn_moves}
use Rattle.walk_laws.proofs.Sound.{Sound, up_some, sound_start, step_sound}
use Rattle.trip_text.specs.Steps.{Sayable}

-- pops, then an event that goes on from what they leave
told_pops : (p n : ℕ) (e : Event) (es : List Event) → p < n → Sayable (n - p) (e ∷ es) → Sayable n (pops_then p e ++ es)
unfolding pops_of
told_pops p n e es l h =
    by_test (λ (x : List Event). Sayable n ((x ++ (e ∷ [])) ++ es)) (eqb p 0)
    (λ q. let z : p ≡ 0 = eqb-true p 0 q in let y : n - p ≡ n = omega arith in rw y at h)
    (λ q. let z : p ≢ 0 = eqb-false p 0 q in (omega arith, l, h))

-- One turn, where d atoms are on the way up: there are pieces for these and for those left since the last event. Where there
-- is no current atom, the next event is a root, and any number will do.
told_step : {g : Graph} {w : Walk} {d : ℕ} {x : Turn} {c : ℕ} → Sound g w d → Move g w d x c → (n : ℕ) → (is_some w.at.here ≡ true → n ≡ d + w.at.pend)
    → (es : List Event) → ((k : ℕ) → (is_some x.after.at.here ≡ true → k ≡ c + x.after.at.pend) → Sayable k es) → Sayable n (x.said ++ es)
told_step s (still r h) n f es go = go n f
told_step s (skip r h m) n f es go = go n f
told_step s (root r h m k) n f es go = go 1 (λ e. omega arith)
told_step s (ends r h) n f es go = go n (λ e. absurd (false≢true e))
told_step s (leaves r h) n f es go = go n (λ e. omega (arith, f r, up_some (s.stands r)))
told_step s (takes r h) n f es go = go n f
told_step s (refuses r h pairs why) n f es go = go n f
told_step {w} {d} s (joins r h pairs p k i) n f es go =
    let l : 0 < d = up_some (s.stands r) in
    let e : n ≡ d + w.at.pend = f r in
    told_pops w.at.pend n (Join k i) es (omega arith) (omega arith, go (n - w.at.pend) (λ z. omega arith))
told_step {w} {d} s (enters r h t b l m nb to e k) n f es go =
    let l : 0 < d = up_some (s.stands r) in
    let q : n ≡ d + w.at.pend = f r in
    told_pops w.at.pend n (Extend e k) es (omega arith) (omega arith, go (n - w.at.pend + 1) (λ z. omega arith))

told_turns : (g : Graph) (t : ℕ) (w : Walk) (d n : ℕ) → Sound g w d → (is_some w.at.here ≡ true → n ≡ d + w.at.pend) → Sayable n (events_of g t w)
unfolding events_of step_of
told_turns g zero w d n s f = tt
told_turns g (suc t) w d n s f =
    by_test (λ (x : Turn). Sayable n (x.said ++ events_of g t x.after)) (is_none w.at.refusal)
    (λ q. let m = turn_moves g w d in
    told_step s m.1 n f (events_of g t (turn_of g w).after) (λ k h. told_turns g t (turn_of g w).after m.0 k (step_sound s m.1) h))
    (λ q. told_turns g t w d n s f)

pub told_walk : (g : Graph) (lm lw lb lt : ℕ) (pairs : List ℕ) → Room g lm lb lt → (t : ℕ) → Sayable 0 (events_of g t (fresh lm lw lb lt pairs))
told_walk g lm lw lb lt pairs r t =
    told_turns g t (fresh lm lw lb lt pairs) 0 0 (sound_start g lm lw lb lt pairs r) (λ e. absurd (false≢true e))

-- ---- the first event
-- where there is no current atom and the next one is new, a turn says a root
first_said : (g : Graph) (t : ℕ) (w : Walk) → 1 ≤ t → w.at.refusal ≡ None → w.at.here ≡ None → w.at.next < g.size → get_or w.met w.at.next 0 ≡ 0
    → 0 < length (events_of g t w)
unfolding events_of step_of turn_of root_turn
first_said g zero w l r s h m = absurd (omega arith)
first_said g (suc t) w l r s h m =
    rw (r, s, lt-leb g.size w.at.next h, eq-eqb (get_or w.met w.at.next 0) 0 m) (omega arith)

pub some_said : (g : Graph) (lm lw lb lt : ℕ) (pairs : List ℕ) → 1 ≤ g.size → g.size ≤ lm → (t : ℕ) → 1 ≤ t → 0 < length (events_of g t (fresh lm lw lb lt pairs))
some_said g lm lw lb lt pairs some r t l = first_said g t (fresh lm lw lb lt pairs) l refl refl (omega arith) (zero_at lm 0)
