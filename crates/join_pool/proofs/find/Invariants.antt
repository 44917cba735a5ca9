-- The search goes down; the invariant is that the numbers passed are not open for the pair, so what is left answers the same.
use Rattle.std.proofs.Common.{◌≡◌}
use Rattle.join_pool.specs.Pairs.{open_number}
use Rattle.join_pool.proofs.find.Given as goal

abbrev pub invariant-loop-number : goal.invariant-loop-number
invariant-loop-number l = open_number l.pairs l.lower l.higher l.n ≡ open_number l.pairs l.lower l.higher l.number
