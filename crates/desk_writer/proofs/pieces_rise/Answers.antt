use Rattle.std.proofs.Common.{refl, rules}
use Rattle.desk_writer.specs.Pieces.{is_piece}
use Rattle.feature.proofs.AllBelow.{all_below}
use Rattle.desk_writer.proofs.pieces_rise.Goals as goal

pub returns : goal.returns
returns c = all_below _ _ _ (is_piece c.args.line.now.starts.now c.args.line.now.at) _ refl c.all.ensures.ran (λ x b q k. search rules)
