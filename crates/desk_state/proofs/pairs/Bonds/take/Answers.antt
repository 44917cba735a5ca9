use Rattle.std.proofs.Common.{◌≡◌, ◌∙◌, ◌<◌, arith, ap, get_or, length, sym, subst, ℕ}
use Rattle.desk_state.specs.Steps.{Taken}
use Rattle.desk_state.proofs.Levels.{stands_head, taken_first}
use Rattle.desk_state.proofs.Ways.{says_yes, between_sound, goes_on, take_turn, take_stops}
use Rattle.desk_state.proofs.pairs.Bonds.take.Goals as goal

pub loop-i-init : goal.loop-i-init
loop-i-init c =
    let b = c.args.self.now in
    let low : c.args.a < length b.to.head.now = omega (arith, b.to_room) in
    let first : c.into_iter-i-iterator.result.ahead ≡ get_or b.to.head.now c.args.a 0 = cc in
    record {
      links = cc;
      stands = stands_head _ _ _ _ _ _ b.to_linked low first;
      taken = taken_first _ _ _ _ (between_sound b.between c.requires.1) (omega (arith, b.between.most)) (first ∙ b.to_linked.heads _ low) c.requires.2;
    }

pub returns-then-not-take_one : goal.returns-then-not-take_one
returns-then-not-take_one c =
    let b = c.args.self.now in
    let h = c.loop-i.invariant in
    take_stops _ _ _ _ c.in-Some.ensures.steps.0 c.loop-i.counts (between_sound b.between (omega (arith, c.requires.1))) (omega (arith, b.between.most)) h.stands h.taken (sym c.take_one.ensures.value ∙ c.if-not-take_one.true)

pub loop-i-preserved : goal.loop-i-preserved
loop-i-preserved c =
    let b = c.args.self.now in
    let h = c.loop-i.invariant in
    let is = c.in-Some.ensures.steps.0 in
    let goes : c.next.new.self.ahead ≡ get_or b.to.next.now c.in-Some.i 0 = c.in-Some.ensures.steps.1 ∙ ap (λ x. get_or x c.in-Some.i 0) h.links in
    record {
      links = c.in-Some.ensures.steps.2 ∙ h.links;
      stands = goes_on _ _ _ _ is 2 b.to_linked h.stands goes;
      taken = take_turn _ _ _ _ is (between_sound b.between (omega (arith, c.requires.1))) (omega (arith, b.between.most)) b.to_linked h.stands h.taken (sym c.take_one.ensures.value ∙ c.if-not-take_one.false) c.take_one.ensures.counts_after goes;
    }

pub returns : goal.returns
returns c =
    let b = c.args.self.now in
    says_yes _ _ (subst (λ (x : ℕ). Taken b.entries.now b.n c.args.a x c.loop-i.counts) c.in-None.ensures.steps c.loop-i.invariant.taken)
