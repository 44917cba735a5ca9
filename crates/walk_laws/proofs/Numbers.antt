-- A refusal as the desk has it: its number and the two values that it carries, 0 for one that it does not carry.
use Prim.Native.Nat.{ℕ}
use mathlib.Core.List.{List, [], ◌∷◌}
use Rattle.desk_numbers.specs.Numbers.{unknown_target, loop, half_bond, duplicate_bond, incompatible_bond, inversion, ring_numbers}
use Rattle.walk_entry.specs.declared.WalkError.{WalkError}
use Rattle.walk_entry.specs.declared.WalkError.TheVariants.{UnknownTarget, Loop, HalfBond, DuplicateBond, IncompatibleBond, Inversion, RingNumbers}

abbrev pub in_numbers : WalkError → List ℕ
in_numbers (UnknownTarget s t) = unknown_target ∷ s ∷ t ∷ []
in_numbers (Loop s) = loop ∷ s ∷ 0 ∷ []
in_numbers (HalfBond s t) = half_bond ∷ s ∷ t ∷ []
in_numbers (DuplicateBond s t) = duplicate_bond ∷ s ∷ t ∷ []
in_numbers (IncompatibleBond t s) = incompatible_bond ∷ t ∷ s ∷ []
in_numbers (Inversion a) = inversion ∷ a ∷ 0 ∷ []
in_numbers (RingNumbers s t) = ring_numbers ∷ s ∷ t ∷ []
