-- A state's counts are small.
use mathlib.Core.Path.{sym, ◌∙◌}
use Rattle.desk_builder.proofs.Ways.{small_of}
use Rattle.desk_builder.proofs.calls.join.Goals as goal

pub join-requires : goal.join-requires
join-requires c = (small_of _ _ _ _ _ _ c.refused-2.ensures (sym c.is_state.ensures ∙ c.if-not-is_state.false), c.if-number-ge-RING_NUMBER_COUNT.false)
