use mathlib.Core.Path.{sym, ◌∙◌}
use native.Mathlib.Omega.{arith}
use Rattle.feature.proofs.Names.{ordered_le, before_head, found, missed, passed}
use Rattle.feature.proofs.element.find_from.Goals as goal

pub loop-place-init : goal.loop-place-init
loop-place-init c = λ j h. before_head _ j (omega (arith, c.requires))

pub returns-then-here-key : goal.returns-then-here-key
returns-then-here-key c = found _ _ c.loop-place.invariant (omega arith) (sym c.name-here.ensures ∙ c.if-here-key.true)

pub returns-then-key-here : goal.returns-then-key-here
returns-then-key-here c = missed _ _ c.loop-place.invariant (omega arith) (omega (arith, c.name-here.ensures, c.if-key-here.true))

pub loop-place-preserved : goal.loop-place-preserved
loop-place-preserved c = λ j h e. omega (arith, e, c.name-here.ensures, c.if-here-key.false, c.if-key-here.false, ordered_le j c.loop-place.place (omega arith) (omega arith))

pub returns : goal.returns
returns c = passed _ _ c.loop-place.invariant c.loop-place-test.false
