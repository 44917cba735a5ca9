use Rattle.std.proofs.Common.{rules, refl, arith}
use borrow.Author.Tests.{tests}
use lib.Dec.{ltb, leb}
use Rattle.std.proofs.lemmas.Iterator.{YieldsList-from_range, YieldsList-from_map}
use Rattle.std.proofs.lemmas.Iterator.Consumers.{YieldsList-at, YieldsList-from_filter}
use Rattle.builder.specs.State.{unclosed}
use Rattle.desk_state.specs.Standing.{target_at}
use Rattle.desk_state.proofs.Turns.{sorted}
use Rattle.desk_state.proofs.joins.joins_rise.Goals as goal

pub returns : goal.returns
returns c =
    let e = c.args.entries.now in
    let run = c.is_sorted_by.ensures.runs in
    sorted e c.args.n
    (YieldsList-from_filter _ (leb unclosed)
    (YieldsList-at c.filter.ensures.source
    (YieldsList-from_map _ (target_at e) (YieldsList-at c.map.ensures.source (YieldsList-from_range 0 c.args.n c.args.n refl (omega arith))) c.map.ensures.closure (λ x r q k. search (rules, tests))))
    c.filter.ensures.closure
    (λ x r q k. search (rules, tests)))
    _ run.0 run.1 run.2.0 (run.2.1 ltb (λ x y r q k. search (rules, tests)))
