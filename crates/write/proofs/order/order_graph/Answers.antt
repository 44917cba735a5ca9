-- The walk's tables start as zeros; the rest is the definition.
use borrow.Author.Rules.{rules}
use Rattle.write.proofs.Ends.{few, graph_ordered_lem, concluded_as}
use Rattle.write.proofs.order.order_graph.Goals as goal

pub walk-walker-requires : goal.walk-walker-requires
walk-walker-requires c = few _ _ c.requires.0 c.requires.1

pub returns : goal.returns
returns c = graph_ordered_lem _ _ _ _ _ _ _ _ _ _ _ _ _ _ _ _ _ _ c.lay_starts.ensures c.requires.3 c.requires.2 c.requires.4 c.walk-walker.ensures.walked.0 (concluded_as _ _ _ _ _ _ _ _ _ c.conclude.ensures (search rules) (search rules) (search rules))
