use Rattle.desk_state.proofs.Rings.{alone}
use Rattle.desk_state.proofs.joins.leads_alone.Goals as goal

pub returns : goal.returns
returns c = alone c.args.rings.now c.args.n c.contains.result c.requires c.contains.ensures.cases
