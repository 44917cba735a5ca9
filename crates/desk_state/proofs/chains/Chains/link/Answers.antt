use Rattle.std.proofs.Common.{arith}
use Rattle.desk_state.proofs.Links.{linked_none, linked_next}
use Rattle.desk_state.proofs.chains.Chains.link.Goals as goal

pub loop-i-init : goal.loop-i-init
loop-i-init c = linked_none _ _ _ _ _ c.requires.1

pub loop-i-preserved : goal.loop-i-preserved
loop-i-preserved c =
    let h = c.requires.1 in
    linked_next _ _ _ (omega (arith, h.room)) (λ u. omega (arith, h.keys c.loop-i.i c.loop-i-test.true u)) c.loop-i.invariant c.link_one.ensures.head_after c.link_one.ensures.next_after
