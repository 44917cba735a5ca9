-- Each way out of `build`, from what the calls on the way ensure.
use mathlib.Core.Path.{ap}
use mathlib.Core.Bool.{not}
use native.Mathlib.Omega.{arith}
use Rattle.desk_builder.proofs.Ways.{state_counts}
use Rattle.desk_builder.proofs.Builds.{end_within, build_none, build_less, build_goes}
use Rattle.desk_builder.proofs.calls.build.Goals.{then-not-is_state-via-then-not-is_state, then-not-is_state-via-else-not-is_state+then-bonds-builder}
use Rattle.desk_builder.proofs.calls.build.Goals as goal

pub returns-then-not-is_state : goal.returns-then-not-is_state
returns-then-not-is_state c =
    elim c.then-not-is_state.branch [
      | then-not-is_state-via-then-not-is_state w ↦ build_none _ _ c.is_state.ensures (ap not w.if-not-is_state.true) c.clear.ensures c.clear-then-not-is_state.ensures
      | then-not-is_state-via-else-not-is_state+then-bonds-builder w ↦ build_less _ _ c.is_state.ensures (ap not w.if-not-is_state.false) w.if-bonds-builder.true c.clear.ensures c.clear-then-not-is_state.ensures
    ]

pub overflow_mul-builder : goal.overflow_mul-builder
overflow_mul-builder c =
    let h = state_counts _ c.is_state.ensures (ap not c.if-not-is_state.false) in
    omega (arith, h.entries, h.slots)

pub overflow_mul-end : goal.overflow_mul-end
overflow_mul-end c = omega (arith, (end_within _ c.is_state.ensures (ap not c.if-not-is_state.false)).1)

pub offset_bounds-atoms-end : goal.offset_bounds-atoms-end
offset_bounds-atoms-end c = omega (arith, (end_within _ c.is_state.ensures (ap not c.if-not-is_state.false)).1)

pub slice_bounds-clear-count : goal.slice_bounds-clear-count
slice_bounds-clear-count c = omega (arith, (end_within _ c.is_state.ensures (ap not c.if-not-is_state.false)).0)

pub returns : goal.returns
returns c =
    build_goes _ _ c.is_state.ensures (ap not c.if-not-is_state.false) _ c.if-bonds-builder.false c.clear-2.ensures c.build-r.ensures c.called.ensures

pub slice_bounds-clear-start : goal.slice_bounds-clear-start
slice_bounds-clear-start c = omega (arith, (end_within _ c.is_state.ensures (ap not c.if-not-is_state.false)).0)
