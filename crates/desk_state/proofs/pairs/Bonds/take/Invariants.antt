use Rattle.std.proofs.Common.{◌≡◌}
use Rattle.desk_state.specs.Steps.{Taken}
use Rattle.desk_state.proofs.Levels.{Stands}
use Rattle.desk_state.proofs.pairs.Bonds.take.Given as goal

abbrev pub invariant-loop-i : goal.invariant-loop-i
invariant-loop-i l =
    let b = l.self in
    let s = l.i-iterator in
    record {
      links : s.next.now ≡ b.to.next.now;
      stands : Stands b.entries.now 2 l.a b.n s.ahead;
      taken : Taken b.entries.now b.n l.a s.ahead l.counts;
    }
