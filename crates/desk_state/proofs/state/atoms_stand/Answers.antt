use Rattle.std.proofs.Common.{refl, rules}
use Rattle.packing.specs.Words.{is_atom}
use Rattle.feature.proofs.AllBelow.{all_below}
use Rattle.desk_state.proofs.state.atoms_stand.Goals as goal

pub returns : goal.returns
returns c = all_below _ _ _ (is_atom c.args.atoms.now) _ refl c.all.ensures.ran (λ x b q k. search rules)
