-- Steps of the proofs: no public claim rests on these definitions.
use Rattle.std.specs.Prelude.{ℕ, Option, Some, None, ltb, leb}
use Rattle.feature.specs.Pick.{pick}
use Rattle.builder.specs.declared.builder.FailedJoin.{FailedJoin}
use Rattle.desk_report.specs.State.{narrow, failure_in}

-- a word for a field of 32 bits
abbrev pub narrow_in : ℕ → Option ℕ
narrow_in n = pick (leb narrow n) None (Some n)

-- and three for a failed join
abbrev pub failure_by : ℕ → ℕ → ℕ → Option (Option FailedJoin)
failure_by f x y = pick (ltb 1 f) None (Some (failure_in f x y))
