-- A walk that was refused has a refusal. Assumes nothing.
use mathlib.Core.Logic.{◌≢◌}
use Rattle.feature.proofs.Cases.{impossible}
use Rattle.std.specs.Prelude.{Some, None}
use Rattle.walk_entry.specs.declared.WalkError.{WalkError}

pub some_stops : (why : WalkError) → Some why ≢ None
some_stops why e = impossible cc
