use Rattle.std.proofs.Common.{ℕ, ◌<◌, length}
use Rattle.desk_state.specs.Steps.{NoneCounted, BondsMatch}
use Rattle.desk_state.proofs.pairs.Bonds.are_level.Given as goal

abbrev pub invariant-loop-a : goal.invariant-loop-a
invariant-loop-a l =
    let b = l.self in
    NoneCounted l.counts × ((x : ℕ) → x < l.a → BondsMatch b.entries.now b.n x (length l.counts))
