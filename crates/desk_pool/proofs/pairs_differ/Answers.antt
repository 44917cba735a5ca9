use Rattle.std.proofs.Common.{refl, rules}
use Rattle.desk_pool.specs.Slots.{is_found}
use Rattle.feature.proofs.AllBelow.{all_below}
use Rattle.desk_pool.proofs.pairs_differ.Goals as goal

pub returns : goal.returns
returns c = all_below _ _ _ (is_found c.args.p c.args.pairs.now) _ refl c.all.ensures.ran (λ x b q k. search rules)
