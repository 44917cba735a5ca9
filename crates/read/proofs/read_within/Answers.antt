use Prim.Native.Nat.{ℕ, ◌/◌}
use mathlib.Core.Path.{ap, ◌∙◌}
use lib.ListN.{length}
use Rattle.table.specs.Records.{atom_words}
use Rattle.table.specs.Limits.{atom_limit, lesser_of}
use Rattle.builder.specs.State.{fresh_builder}
use Rattle.read.proofs.Whole.{start_ready, said_refused, said_built}
use Rattle.read.proofs.read_within.Goals as goal

pub read_line-reached-requires : goal.read_line-reached-requires
read_line-reached-requires c = start_ready _ _ _ _ c.start-start.ensures c.requires.0

pub returns-then-builder-ne0 : goal.returns-then-builder-ne0
returns-then-builder-ne0 c =
    said_refused _ _ _ _ _ _ _ (c.start-start.ensures ∙ ap (λ (p : ℕ). fresh_builder p c.bond_room.result) c.atom_room.ensures.is ∙ ap (λ (l : ℕ). fresh_builder (lesser_of atom_limit (length c.args.atoms.now / atom_words)) l) c.bond_room.ensures.is) _ _ _ c.read_line-reached.ensures _ c.end_line-builder.ensures c.if-builder-ne0.true _ _ _ c.refusal.ensures c.clear.ensures c.requires.1

pub returns : goal.returns
returns c =
    said_built _ _ _ _ _ _ _ (c.start-start.ensures ∙ ap (λ (p : ℕ). fresh_builder p c.bond_room.result) c.atom_room.ensures.is ∙ ap (λ (l : ℕ). fresh_builder (lesser_of atom_limit (length c.args.atoms.now / atom_words)) l) c.bond_room.ensures.is) _ _ _ c.read_line-reached.ensures _ c.end_line-builder.ensures c.if-builder-ne0.false _ c.requires.1 _ _ c.build-r.ensures _ c.built.ensures
