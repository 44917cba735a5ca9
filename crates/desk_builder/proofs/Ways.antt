-- A state's counts are small, whatever its refusal. Assumes nothing.
use Prim.Native.Nat.{ℕ}
use mathlib.Core.Path.{◌≡◌, ap, sym, ◌∙◌}
use mathlib.Core.Bool.{Bool, true, false, not}
use mathlib.Core.List.{List}
use lib.ListN.{length}
use borrow.Author.Tests.{not-true, not-false}
use Rattle.feature.proofs.Cases.{both_first}
use Rattle.builder.specs.State.{Bld, bld, refused_st, refuse}
use Rattle.builder.specs.Steps.{SmallCounts}
use Rattle.builder.specs.declared.builder.Builder.{Builder}
use Rattle.desk_numbers.specs.Numbers.{bad_table}
use Rattle.desk_builder.specs.Events.{anew, judged}
use Rattle.desk_state.specs.Standing.{counts_stand, is_state}
use Rattle.desk_state.proofs.Counts.{Counts, counts}
use Rattle.desk_state.proofs.Kept.{holds, small}

-- a state's counts are small
pub state_counts : (b : Bld) {q : Bool} → q ≡ is_state b → not q ≡ false → Counts b.st (length b.atoms) (length b.entries)
unfolding is_state
state_counts b {q} e holds =
    counts b.st (length b.atoms) (length b.entries) (length b.path) (length b.rings)
    (both_first (counts_stand b.st (length b.atoms) (length b.entries) (length b.path) (length b.rings)) _ (sym e ∙ not-false q holds))

-- of a state, with any refusal
pub small_of : (a e p r : List ℕ) (st s : Builder) → s ≡ refused_st st 0 0 → is_state (bld a e p r st) ≡ true → SmallCounts s
small_of a e p r st s is holds_lem =
    let h = small (bld a e p r st) (holds (bld a e p r st) holds_lem) in
    rw is (record { atoms = h.atoms; entries = h.entries; top = h.top; joins = h.joins })
