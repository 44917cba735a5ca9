use Rattle.std.proofs.Common.{refl, rules}
use Rattle.desk_state.specs.Standing.{is_ring}
use Rattle.feature.proofs.AllBelow.{all_below}
use Rattle.desk_state.proofs.state.rings_stand.Goals as goal

pub returns : goal.returns
returns c = all_below _ _ _ (is_ring c.args.builder c.args.entries.now c.args.rings.now) _ refl c.all.ensures.ran (λ x b q k. search rules)
