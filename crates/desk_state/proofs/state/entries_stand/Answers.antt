use Rattle.std.proofs.Common.{refl, rules, sym, ◌∙◌}
use Rattle.desk_state.specs.Standing.{is_builder_entry}
use Rattle.feature.proofs.AllBelow.{all_below}
use Rattle.desk_state.proofs.Kept.{between}
use Rattle.desk_state.proofs.state.entries_stand.Goals as goal

pub returns : goal.returns
returns c =
    let is = all_below _ _ _ (is_builder_entry c.args.builder c.args.entries.now) _ refl c.all.ensures.ran (λ x b q k. search rules) in
    record { value = is; between = λ stands few. between c.args.builder c.args.entries.now c.args.n c.requires few (sym is ∙ stands) }
