use native.Mathlib.Omega.{arith}
use borrow.Author.Rules.{rules}
use Rattle.walk.proofs.Going.{going_start, from_start, going_near, going_on, going_off, going_end, turns_are, few_turns, none_at, some_at}
use Rattle.walk.proofs.turns.walk.Goals as goal

pub overflow_mul-end : goal.overflow_mul-end
overflow_mul-end c = let h = few_turns c.args.g.size c.args.entries c.requires in omega (arith, h)

pub overflow_add-end : goal.overflow_add-end
overflow_add-end c = let h = few_turns c.args.g.size c.args.entries c.requires in omega (arith, h)

pub loop-init : goal.loop-init
loop-init c = (going_start _ _ _ _ _ _ _ _ _ _ _ _ (turns_are _ _ _ (omega arith)) c.start-walker.ensures, search rules, search rules)

pub turn-walker-requires : goal.turn-walker-requires
turn-walker-requires c = going_near c.requires c.loop.invariant.0

pub returns-then-is_some-clause-walked : goal.returns-then-is_some-clause-walked
returns-then-is_some-clause-walked c = from_start _ _ _ _ _ _ _ _ _ _ _ _ c.start-walker.ensures (going_off _ c.loop.invariant.0 (omega arith) c.turn-walker.ensures.did (some_at _ _ c.is_some.ensures c.if-is_some.true))

pub loop-preserved : goal.loop-preserved
loop-preserved c = (going_on _ _ c.loop.invariant.0 c.loop-test.true c.turn-walker.ensures.did c.turn-walker.ensures.turn_grows (none_at _ _ c.is_some.ensures c.if-is_some.false), search rules, search rules)

pub returns-clause-walked : goal.returns-clause-walked
returns-clause-walked c = from_start _ _ _ _ _ _ _ _ _ _ _ _ c.start-walker.ensures (going_end _ c.loop.invariant.0 (omega arith))
