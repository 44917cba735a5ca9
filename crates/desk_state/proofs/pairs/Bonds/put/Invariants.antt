use Rattle.std.proofs.Common.{◌≡◌}
use Rattle.desk_state.specs.Steps.{CountedAfter}
use Rattle.desk_state.proofs.Levels.{Stands}
use Rattle.desk_state.proofs.pairs.Bonds.put.Given as goal

abbrev pub invariant-loop-i : goal.invariant-loop-i
invariant-loop-i l =
    let b = l.self in
    let s = l.i-iterator in
    record {
      links : s.next.now ≡ b.from.next.now;
      stands : Stands b.entries.now 0 l.a b.n s.ahead;
      counted : CountedAfter b.entries.now b.n l.a s.ahead l.counts;
    }
