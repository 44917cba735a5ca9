use Rattle.std.proofs.Common.{◌≡◌, ◌∙◌, ◌<◌, arith, ap, get_or, length}
use Rattle.desk_state.proofs.Levels.{stands_head, laid_first}
use Rattle.desk_state.proofs.Ways.{between_sound, goes_on, put_room, put_turn}
use Rattle.desk_state.proofs.pairs.Bonds.put.Goals as goal

pub loop-i-init : goal.loop-i-init
loop-i-init c =
    let b = c.args.self.now in
    let low : c.args.a < length b.from.head.now = omega (arith, b.from_room) in
    let first : c.into_iter-i-iterator.result.ahead ≡ get_or b.from.head.now c.args.a 0 = cc in
    record {
      links = cc;
      stands = stands_head _ _ _ _ _ _ b.from_linked low first;
      counted = laid_first _ _ _ _ (between_sound b.between c.requires.1.room) _ (first ∙ b.from_linked.heads _ low) c.requires.1.none;
    }

pub put_one-requires : goal.put_one-requires
put_one-requires c =
    let b = c.args.self.now in
    let h = c.loop-i.invariant in
    let is = c.in-Some.ensures.steps.0 in
    let sound = between_sound b.between (omega (arith, c.requires.1.room)) in
    put_room _ _ _ _ is c.loop-i.counts sound h.stands h.counted

pub loop-i-preserved : goal.loop-i-preserved
loop-i-preserved c =
    let b = c.args.self.now in
    let h = c.loop-i.invariant in
    let is = c.in-Some.ensures.steps.0 in
    let goes : c.next.new.self.ahead ≡ get_or b.from.next.now c.in-Some.i 0 = c.in-Some.ensures.steps.1 ∙ ap (λ x. get_or x c.in-Some.i 0) h.links in
    record {
      links = c.in-Some.ensures.steps.2 ∙ h.links;
      stands = goes_on _ _ _ _ is 0 b.from_linked h.stands goes;
      counted = put_turn _ _ _ _ is (between_sound b.between (omega (arith, c.requires.1.room))) b.from_linked h.stands h.counted c.put_one.ensures goes;
    }
