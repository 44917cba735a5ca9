use Rattle.std.proofs.Common.{refl, rules}
use Rattle.desk_state.specs.Standing.{is_step}
use Rattle.feature.proofs.AllBelow.{all_below}
use Rattle.desk_state.proofs.state.steps_stand.Goals as goal

pub returns : goal.returns
unfolding is_step
returns c = all_below _ _ _ (is_step c.args.builder c.args.path.now) _ refl c.all.ensures.ran (λ x b q k. search rules)
