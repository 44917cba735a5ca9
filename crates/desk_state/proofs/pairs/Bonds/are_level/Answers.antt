use Rattle.std.proofs.Common.{ℕ, arith, subst, sym}
use Rattle.desk_state.specs.Steps.{BondsMatch}
use Rattle.desk_state.proofs.Ways.{good_next, all_stand}
use Rattle.desk_state.proofs.pairs.Bonds.are_level.Goals as goal

pub loop-a-preserved : goal.loop-a-preserved
loop-a-preserved c =
    let b = c.args.self.now in
    let g = c.is_level_at.ensures.good c.if-not-is_level_at.false in
    let same = sym c.is_level_at.auto.counts in
    (g.0, good_next _ _ _ _ (λ x l. subst (λ (size : ℕ). BondsMatch b.entries.now b.n x size) same (c.loop-a.invariant.1 x l)) g.1)

pub returns : goal.returns
returns c =
    all_stand {a = c.loop-a.a} c.args.self.now.between (omega (arith, c.requires.room)) c.loop-a-test.false c.loop-a.invariant.1
