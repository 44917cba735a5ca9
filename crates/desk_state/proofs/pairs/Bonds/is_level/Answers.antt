use Rattle.std.proofs.Common.{◌≡◌, ◌∙◌, ◌<◌, arith, get_or, length, rules}
use borrow.Author.Tests.{tests}
use Rattle.desk_state.proofs.Levels.{stands_head, level_first}
use Rattle.desk_state.proofs.Ways.{between_sound}
use Rattle.desk_state.proofs.Walks.{level_told}
use Rattle.desk_state.proofs.pairs.Bonds.is_level.Goals as goal

pub returns : goal.returns
returns c =
    let b = c.args.self.now in
    let d = c.args.counts.now in
    let low : c.args.a < length b.from.head.now = omega (arith, b.from_room) in
    let first : c.of.result.ahead ≡ get_or b.from.head.now c.args.a 0 = cc in
    let sound = between_sound b.between c.requires.1 in
    level_told _ _ _ d _ _ sound b.from_linked _ (λ x q j k. search (rules, tests)) c.requires.2 _ c.of.result c.all.new.self (cc)
    (stands_head _ _ _ _ _ _ b.from_linked low first)
    (level_first _ _ _ d sound (first ∙ b.from_linked.heads _ low))
    c.all.ensures.ran
