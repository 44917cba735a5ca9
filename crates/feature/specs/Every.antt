-- A test that every number below some number passes.
use Rattle.std.specs.Prelude.{ℕ, zero, suc, Bool, true, false}
use Rattle.feature.specs.Pick.{pick}

unfoldable pub every : (ℕ → Bool) → ℕ → Bool
every f zero = true
every f (suc n) = pick (f n) (every f n) false
