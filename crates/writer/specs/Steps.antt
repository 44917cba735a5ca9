-- Steps of the proofs: no public claim rests on these definitions.
-- How far a writer's event goes: no count wraps.
use Rattle.std.specs.Prelude.{◌+◌, ◌≤◌, ◌<◌}
use Rattle.writer.specs.declared.Writer.{Writer}
use Rattle.writer.specs.Tables.{far}

-- counts so small that none wraps in an event
pub record LineNear (w : Writer) : Type 0 where
  pub pieces : w.pieces < far
  pub len : w.len < far

-- at most one piece and 25 bytes
pub record LineGrows (v w : Writer) : Type 0 where
  pub pieces : w.pieces ≤ v.pieces + 1
  pub len : w.len ≤ v.len + 25
