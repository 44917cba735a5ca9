-- The invariant: the scan of what is left comes to the scan of all.
use mathlib.Core.Path.{◌≡◌}
use Rattle.walk_entry.specs.Ways.{scan_in}
use Rattle.walk_entry.proofs.entry.scan_back.Given as goal

abbrev pub invariant-loop-i : goal.invariant-loop-i
invariant-loop-i l =
    scan_in l.g.bonds.now l.g.first.now l.t l.s l.fixed l.i l.back ≡ scan_in l.g.bonds.now l.g.first.now l.t l.s l.fixed l.n 0
