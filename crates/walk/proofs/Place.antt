-- By whether there is a current atom, and which. Assumes nothing.
use Prim.Native.Nat.{ℕ}
use mathlib.Core.Path.{◌≡◌, refl, sym, subst}
use Rattle.std.specs.Prelude.{true, false, Option, None, Some, is_some, unwrap_or}
use Rattle.feature.specs.Pick.{pick}
use Rattle.feature.proofs.Cases.{by_test}
use Rattle.walk_entry.specs.Graph.{Graph}
use Rattle.walk.specs.Walk.{Walk, Turn, root_turn, atom_of, turn_at, turn_of}

-- the current atom, where there is one
abbrev pub atom_at : Walk → ℕ
atom_at w = unwrap_or w.at.here 0

pub turn_is : (g : Graph) (w : Walk) → turn_of g w ≡ pick (is_some w.at.here) (atom_of g w (atom_at w)) (root_turn g w)
unfolding turn_of
turn_is g w = go w.at.here
  where
    go : (o : Option ℕ) → turn_at g w o ≡ pick (is_some o) (atom_of g w (unwrap_or o 0)) (root_turn g w)
    go None = refl
    go (Some a) = refl

pub by_place : (P : Turn → Type 0) (g : Graph) (w : Walk) → (is_some w.at.here ≡ true → P (atom_of g w (atom_at w))) → (is_some w.at.here ≡ false → P (root_turn g w)) → P (turn_of g w)
by_place P g w f r = subst P (sym (turn_is g w)) (by_test P (is_some w.at.here) f r)
