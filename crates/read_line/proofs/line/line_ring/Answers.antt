use mathlib.Core.Path.{sym, ◌∙◌, ap}
use Rattle.std.specs.Prelude.{Ok}
use Rattle.read_line.specs.Steps.{reached_missing}
use Rattle.read_line.proofs.Counts.{small}
use native.Mathlib.Omega.{arith}
use Rattle.read_token.proofs.Within.{ring_in}
use Rattle.read_line.proofs.Turn.{ring_none, ring_lacks, ring_made}
use Rattle.read_line.proofs.line.line_ring.Goals as goal

pub put_ring-builder-requires : goal.put_ring-builder-requires
put_ring-builder-requires c =
    (small c.requires.0.counted (omega (arith, c.requires.0.within, c.requires.0.short)), (ring_in _ _ (sym c.read_rnum.ensures ∙ c.in-Ok-Some.is ∙ ap Ok c.in-Ok-Some.field-0-is)).0)

pub returns-in-Ok-None : goal.returns-in-Ok-None
unfolding reached_missing
returns-in-Ok-None c = λ a. simp c.stopped.ensures (ring_none _ _ _ _ c.requires.0 c.requires.1 _ (sym c.read_rnum.ensures ∙ c.in-Ok-None.is ∙ ap Ok c.in-Ok-None.field-0-is))

pub returns-in-Err : goal.returns-in-Err
returns-in-Err c = λ a. simp c.put_missing-builder.ensures (ring_lacks _ _ _ _ c.requires.0 c.requires.1 _ _ (sym c.read_rnum.ensures ∙ c.in-Err.is))

pub returns-in-Ok-Some : goal.returns-in-Ok-Some
returns-in-Ok-Some c = λ a. (ring_made _ _ _ _ c.requires.0 c.requires.1 _ _ _ (sym c.read_rnum.ensures ∙ c.in-Ok-Some.is ∙ ap Ok c.in-Ok-Some.field-0-is) _ (c.put_ring-builder.ensures a))
