use Prim.Native.Nat.{◌+◌, ◌*◌, ◌-◌}
use mathlib.Core.Path.{◌≡◌}
use lib.ListN.{length}
use Rattle.builder.specs.State.{bld}
use Rattle.read_line.proofs.Turn.{Turn}
use Rattle.read_line.proofs.line.+line_rest_read_branch.Given as goal

abbrev pub decreases-line_rest : goal.decreases-line_rest
decreases-line_rest l = 2 * (length l.text.now - l.at) + 1

abbrev pub decreases-read_branch : goal.decreases-read_branch
decreases-read_branch l = 2 * (length l.text.now - l.at)

abbrev pub invariant-line_rest-loop-atoms : goal.invariant-line_rest-loop-atoms
invariant-line_rest-loop-atoms l =
    Turn l.text l.room (bld l.initial.atoms l.initial.entries l.initial.path l.initial.rings l.initial.state) l.initial.i l.initial.n (bld l.atoms l.entries l.path l.rings l.state) l.i l.n
    × (length l.atoms ≡ length l.initial.atoms)
    × (length l.entries ≡ length l.initial.entries)
    × (length l.path ≡ length l.initial.path)
    × (length l.rings ≡ length l.initial.rings)

abbrev pub decreases-line_rest-loop-atoms : goal.decreases-line_rest-loop-atoms
decreases-line_rest-loop-atoms l =
    length l.text - l.i
