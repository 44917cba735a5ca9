-- The invariant: judging what is left comes to judging all.
use Prim.Native.Nat.{◌-◌, ◌≤◌}
use mathlib.Core.Path.{◌≡◌}
use Rattle.table_check.specs.Judge.{atoms_from}
use Rattle.table_check.proofs.judge_atoms.Given as goal

abbrev pub invariant-loop-a : goal.invariant-loop-a
invariant-loop-a l =
    (atoms_from l.atoms l.m (l.n - l.a) l.a l.held ≡ atoms_from l.atoms l.m l.n 0 0) × (l.held ≤ l.m)
