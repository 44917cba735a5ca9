use Rattle.std.proofs.Common.{arith}
use Rattle.desk_state.proofs.Ways.{between_sound, level_all}
use Rattle.desk_state.proofs.pairs.Bonds.is_level_at.Goals as goal

pub returns-then-take : goal.returns-then-take
returns-then-take c =
    level_all (between_sound c.args.self.now.between (omega (arith, c.requires.1.room))) (c.take.ensures.good c.if-take.true) c.is_level.ensures
