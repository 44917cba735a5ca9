-- The invariant: judging what is left comes to judging all.
use Prim.Native.Nat.{◌-◌}
use mathlib.Core.Path.{◌≡◌}
use Rattle.table_check.specs.Judge.{first_bad_bond}
use Rattle.table_check.proofs.judge_bonds.Given as goal

abbrev pub invariant-loop-e : goal.invariant-loop-e
invariant-loop-e l =
    first_bad_bond l.bonds l.held (l.m - l.e) l.e ≡ first_bad_bond l.bonds l.held l.m 0
