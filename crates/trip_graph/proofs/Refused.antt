-- What holds of the refusal of every bond's turn, and of no refusal, holds of a whole walk's: nothing else is refused.
use mathlib.Core.Path.{◌≡◌}
use mathlib.Core.Bool.{true}
use Prim.Native.Nat.{ℕ, zero, suc, ◌+◌, ◌<◌}
use lib.ListN.{get_or}
use lib.Dec.{leb, eqb}
use borrow.Author.Tests.{leb-false}
use Rattle.walk.proofs.Going.{none_is}
use Rattle.std.specs.Prelude.{None, Option, is_none, is_some}
use Rattle.walk_entry.specs.Graph.{Graph, degree_at, bond_of}
use Rattle.walk.specs.declared.walker.Walker.{Walker}
use Rattle.walk.specs.Walk.{Walk, Turn, quiet, with_walker, took_at, left_in, root_turn, leave_of, bond_turn, entry_turn, atom_of, turn_of, step_of, walk_to}
use Rattle.feature.proofs.Cases.{by_test}
use Rattle.walk_entry.specs.declared.WalkError.{WalkError}
use Rattle.walk_laws.proofs.Moves.{turn_moves}
use Rattle.walk_laws.proofs.Sound.{Sound, step_sound}
use Rattle.walk.proofs.Place.{atom_at, by_place}

-- the turn of the next bond of the current atom
abbrev pub next_bond : Graph → Walk → Turn
next_bond g w =
    bond_turn g (took_at w (atom_at w) (get_or w.taken (atom_at w) 0)) (atom_at w) (bond_of g (atom_at w) (get_or w.taken (atom_at w) 0))

module _ (g : Graph) (P : Option WalkError → Type 0)
    (bond : (w : Walk) (dep : ℕ) → Sound g w dep → w.at.refusal ≡ None → is_some w.at.here ≡ true → get_or w.taken (atom_at w) 0 < degree_at g (atom_at w)
    → P (next_bond g w).after.at.refusal) where
  module _ (w : Walk) (dep : ℕ) (snd : Sound g w dep) (fine : w.at.refusal ≡ None) (here : P w.at.refusal) where
    abbrev R : Turn → Type 0
    R x = P x.after.at.refusal

    root_holds : R (root_turn g w)
    unfolding root_turn
    root_holds =
        by_test R (leb g.size w.at.next) (λ q. here) (λ q. by_test R (eqb (get_or w.met w.at.next 0) 0) (λ z. here) (λ z. here))

    left_holds : R (leave_of g w (atom_at w))
    unfolding left_in
    left_holds =
        by_test (λ (z : Walker). R (quiet (with_walker w z))) (eqb (get_or w.back (atom_at w) 0) 0) (λ q. here) (λ q. here)

    entry_holds : is_some w.at.here ≡ true → get_or w.taken (atom_at w) 0 < degree_at g (atom_at w) → R (entry_turn g w (atom_at w) (get_or w.taken (atom_at w) 0))
    unfolding entry_turn
    entry_holds r more =
        by_test R (eqb (get_or w.back (atom_at w) 0) (get_or w.taken (atom_at w) 0 + 1)) (λ z. here) (λ z. bond w dep snd fine r more)

    turn_holds : R (turn_of g w)
    unfolding atom_of
    turn_holds =
        by_place R g w
        (λ r. by_test R (leb (degree_at g (atom_at w)) (get_or w.taken (atom_at w) 0)) (λ z. left_holds) (λ z. entry_holds r (leb-false _ _ z)))
        (λ r. root_holds)

  pub turns_hold : (t : ℕ) (w : Walk) (dep : ℕ) → Sound g w dep → P w.at.refusal → P (walk_to g t w).at.refusal
  unfolding walk_to step_of
  turns_hold zero w dep s o = o
  turns_hold (suc t) w dep s o =
      by_test (λ (x : Turn). P (walk_to g t x.after).at.refusal) (is_none w.at.refusal)
      (λ q. let m = turn_moves g w dep in turns_hold t (turn_of g w).after m.0 (step_sound s m.1) (turn_holds w dep s (none_is _ q) o))
      (λ q. turns_hold t w dep s o)
