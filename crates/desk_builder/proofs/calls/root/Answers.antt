-- A state's counts are small.
use mathlib.Core.Path.{sym, ◌∙◌}
use Rattle.desk_builder.proofs.Ways.{small_of}
use Rattle.desk_builder.proofs.calls.root.Goals as goal

pub root-requires : goal.root-requires
root-requires c = small_of _ _ _ _ _ _ c.refused-2.ensures (sym c.is_state.ensures ∙ c.if-not-is_state.false)
