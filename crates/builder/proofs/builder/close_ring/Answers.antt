use Rattle.builder.specs.State.{bld}
use Rattle.builder.proofs.Joins.{closed_fails, closed_full, closed_both}
use Rattle.feature.specs.Bonds.{kind_of, sure_kind}
use Rattle.std.proofs.Common.{ℕ, sym, ap, ◌∙◌}
use Rattle.builder.proofs.builder.close_ring.Goals as goal

pub returns-then-builder-e : goal.returns-then-builder-e
returns-then-builder-e c =
    λ a. simp c.refused.ensures
    (closed_full (bld a c.args.entries.now c.args.path.now c.args.rings.now c.args.builder) _ _ c.args.number c.args.place _ _ _ c.requires.4 c.look-opening.ensures (c.sure_kind-left.ensures ∙ ap (λ (x : ℕ). sure_kind (kind_of x)) c.look.ensures) c.look-closing.ensures _ _ (sym c.in-Some.is ∙ c.reconcile.ensures) c.if-builder-e.true)

pub rejoin-requires-in-Some : goal.rejoin-requires-in-Some
rejoin-requires-in-Some c = c.requires.2

pub joined-requires : goal.joined-requires
joined-requires c = c.requires.0

pub returns-in-None : goal.returns-in-None
returns-in-None c =
    λ a. simp (c.fail.ensures, c.rejoin.ensures)
    (closed_fails (bld a c.args.entries.now c.args.path.now c.args.rings.now c.args.builder) _ _ c.args.number c.args.place _ _ _ c.requires.4 c.look-opening.ensures (c.sure_kind-left.ensures ∙ ap (λ (x : ℕ). sure_kind (kind_of x)) c.look.ensures) c.look-closing.ensures (sym c.in-None.is ∙ c.reconcile.ensures))

pub returns-else-builder-e : goal.returns-else-builder-e
returns-else-builder-e c =
    λ a. simp (c.joined.ensures, c.rejoin-in-Some.ensures, c.close_entries.ensures)
    (closed_both (bld a c.args.entries.now c.args.path.now c.args.rings.now c.args.builder) _ _ c.args.number c.args.place _ _ _ c.requires.4 c.look-opening.ensures (c.sure_kind-left.ensures ∙ ap (λ (x : ℕ). sure_kind (kind_of x)) c.look.ensures) c.look-closing.ensures _ _ (sym c.in-Some.is ∙ c.reconcile.ensures) c.if-builder-e.false)
