-- A walk of as many turns as `turns_of` says is done, unless it was refused: every turn of one that is not done tries a root,
-- takes an entry or leaves an atom. Assumes nothing.
use Prim.Native.Nat.{ℕ, zero, suc, ◌+◌, ◌-◌, ◌≤◌, ◌<◌}
use mathlib.Core.Path.{◌≡◌, refl, sym, ap, ◌∙◌}
use mathlib.Core.Logic.{◌≢◌}
use mathlib.Core.List.{List}
use mathlib.Core.Bool.{Bool, true, false, false≢true}
use native.Mathlib.Omega.{arith}
use lib.ListN.{get_or}
use lib.Dec.{leb}
use borrow.Author.Tests.{le-leb}
use Rattle.walk_entry.specs.Graph.{Graph}
use Rattle.walk.specs.Walk.{Walk, Turn, root_turn, step_of, walk_to, turns_of}
use Rattle.walk_laws.specs.Trek.{Room, fresh, degrees, Finished}
use Rattle.feature.proofs.Cases.{by_test}
use Rattle.std.specs.Prelude.{is_none, None, is_some}
use Rattle.walk_laws.proofs.Moves.{Move, still, skip, root, ends, leaves, takes, refuses, joins, enters, turn_moves}
use Rattle.walk_laws.proofs.Sums.{unmet, unmet_set, unmet_none, unmet_all, entries_left, left_all}
use Rattle.walk_laws.proofs.Sound.{Sound, up_some, sound_start, step_sound}
use Rattle.walk_laws.proofs.Fits.{left_less}
use Rattle.walk.proofs.Going.{walk_off, not_none, none_at}
use Rattle.walk.proofs.Place.{by_place}

-- what is left to do: roots to try, entries to take, atoms to meet, and d atoms on the way up to leave
to_do : Graph → Walk → ℕ → ℕ
to_do g w d = (g.size - w.at.next) + entries_left g w.taken + unmet g.size w.met + d

-- ---- a walk that is done, or was refused, stays as it is
stays : (g : Graph) (t : ℕ) (w : Walk) → (step_of g w).after ≡ w → walk_to g t w ≡ w
unfolding walk_to
stays g zero w e = refl
stays g (suc t) w e = ap (λ (v : Walk). walk_to g t v) e ∙ stays g t w e

done_stays : (g : Graph) (w : Walk) → is_some w.at.here ≡ false → g.size ≤ w.at.next → (step_of g w).after ≡ w
unfolding step_of root_turn
done_stays g w r h =
    by_test (λ (x : Turn). x.after ≡ w) (is_none w.at.refusal)
    (λ q. by_place (λ (x : Turn). x.after ≡ w) g w (λ z. absurd (false≢true (sym r ∙ z)))
    (λ z. by_test (λ (x : Turn). x.after ≡ w) (leb g.size w.at.next) (λ y. refl) (λ y. absurd (false≢true (sym y ∙ le-leb _ _ h)))))
    (λ q. refl)

-- where there is no current atom and no root is left to try, every atom was met
module _ {g : Graph} {w : Walk} {d : ℕ} (s : Sound g w d) where
  finished : is_some w.at.here ≡ false → g.size ≤ w.at.next → Finished g w
  finished r h =
      let all : (a : ℕ) → a < g.size → get_or w.met a 0 ≢ 0 = λ a l. s.tried a (omega arith) in
      record { current = none_at _ _ refl r; next = h; met = all; count = omega (arith, s.counted, unmet_none g.size w.met all) }

  -- with nothing left to do there is no current atom
  nothing_left : to_do g w d ≤ 0 → Finished g w
  unfolding to_do
  nothing_left h = go (is_some w.at.here) refl
    where
      go : (q : Bool) → is_some w.at.here ≡ q → Finished g w
      go true r = absurd (omega (arith, h, up_some (s.stands r)))
      go false r = finished r (omega arith)

  -- any other turn leaves less to do
  module _ (t : ℕ) (h : to_do g w d ≤ suc t)
      (rest : (v : Walk) (n : ℕ) → Sound g v n → to_do g v n ≤ t → (walk_to g t v).at.refusal ≡ None → Finished g (walk_to g t v)) where
    one_less : {x : Turn} {n : ℕ} → Move g w d x n → (walk_to g t x.after).at.refusal ≡ None → Finished g (walk_to g t x.after)
    unfolding to_do
    one_less (still r l) e = rw (stays g t w (done_stays g w r l)) (finished r l)
    one_less (skip r l m) e = rest _ _ (step_sound s (skip r l m)) (omega (arith, h)) e
    one_less (root r l m k) e =
        rest _ _ (step_sound s (root r l m k))
        (omega (arith, h, (s.rests r).0, unmet_set g.size w.met w.at.next (w.at.count + 1) l s.room.met m (omega arith))) e
    one_less (ends r l) e = rest _ _ (step_sound s (ends r l)) (omega (arith, h, up_some (s.stands r))) e
    one_less (leaves r l) e = rest _ _ (step_sound s (leaves r l)) (omega (arith, h, up_some (s.stands r))) e
    one_less (takes r l) e = rest _ _ (step_sound s (takes r l)) (omega (arith, h, left_less s r l)) e
    one_less (refuses r l pairs why) e =
        rest _ _ (step_sound s (refuses r l pairs why)) (omega (arith, h, left_less s r l)) e
    one_less (joins r l pairs p k n) e =
        rest _ _ (step_sound s (joins r l pairs p k n)) (omega (arith, h, left_less s r l)) e
    one_less (enters r l i b j m nb to k n) e =
        rest _ _ (step_sound s (enters r l i b j m nb to k n))
        (omega (arith, h, left_less s r l, unmet_set g.size w.met i (w.at.count + 1) j s.room.met m (omega arith))) e

-- ---- turns
turns_end : (g : Graph) (t : ℕ) (w : Walk) (d : ℕ) → Sound g w d → to_do g w d ≤ t → (walk_to g t w).at.refusal ≡ None → Finished g (walk_to g t w)
unfolding walk_to step_of
turns_end g zero w d s h = λ e. nothing_left s h
turns_end g (suc t) w d s h =
    by_test (λ (x : Turn). (walk_to g t x.after).at.refusal ≡ None → Finished g (walk_to g t x.after)) (is_none w.at.refusal)
    (λ q. one_less s t h (turns_end g t) (turn_moves g w d).1)
    (λ q e. absurd (not_none _ q (ap (λ (v : Walk). v.at.refusal) (sym (walk_off g t w (not_none _ q))) ∙ e)))

start_to_do : (g : Graph) (lm lw lb lt : ℕ) (pairs : List ℕ) (m : ℕ) → degrees g g.size ≤ m → to_do g (fresh lm lw lb lt pairs) 0 ≤ turns_of g.size m
unfolding to_do turns_of
start_to_do g lm lw lb lt pairs m few = omega (arith, left_all g lt, unmet_all g.size lm)

pub ended : (g : Graph) (lm lw lb lt : ℕ) (pairs : List ℕ) → Room g lm lb lt → (m : ℕ) → degrees g g.size ≤ m
    → (walk_to g (turns_of g.size m) (fresh lm lw lb lt pairs)).at.refusal ≡ None
    → Finished g (walk_to g (turns_of g.size m) (fresh lm lw lb lt pairs))
ended g lm lw lb lt pairs r m few =
    turns_end g (turns_of g.size m) (fresh lm lw lb lt pairs) 0 (sound_start g lm lw lb lt pairs r) (start_to_do g lm lw lb lt pairs m few)
