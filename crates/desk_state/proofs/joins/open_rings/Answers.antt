use Rattle.std.proofs.Common.{◌∙◌, rules}
use borrow.Author.Tests.{tests}
use Rattle.std.proofs.lemmas.Iterator.{YieldsList-from_slice, YieldsList-from_take}
use Rattle.std.proofs.lemmas.Iterator.Consumers.{YieldsList-at, YieldsList-from_filter, count_from_yields_List}
use Rattle.table.specs.Limits.{ring_number_count}
use Rattle.desk_state.proofs.Rings.{is_open, open_counted}
use Rattle.desk_state.proofs.joins.open_rings.Goals as goal

pub returns : goal.returns
returns c =
    count_from_yields_List c.filter.result _ c.count.ensures.ran
    (YieldsList-from_filter _ is_open
    (YieldsList-at c.filter.ensures.source (YieldsList-from_take ring_number_count (YieldsList-at c.take.ensures.source (YieldsList-from_slice c.args.rings.now (cc))) (cc)))
    c.filter.ensures.closure
    (λ x r q k. search (rules, tests)))
    ∙ open_counted c.args.rings.now ring_number_count
