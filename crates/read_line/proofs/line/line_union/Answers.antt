use mathlib.Core.Path.{sym, ◌∙◌, ap}
use Rattle.std.specs.Prelude.{Ok}
use Rattle.read_line.proofs.Turn.{union_ring, union_lacks, union_made}
use Rattle.read_line.proofs.line.line_union.Goals as goal

pub returns-in-Ok-None : goal.returns-in-Ok-None
returns-in-Ok-None c = union_ring _ _ _ _ c.requires.0 c.requires.1 _ (sym c.first_atom.ensures ∙ c.in-Ok-None.is ∙ ap Ok c.in-Ok-None.field-0-is) _ _ _ (c.line_ring.ensures _)

pub returns-in-Err : goal.returns-in-Err
returns-in-Err c = simp c.put_missing-builder.ensures (union_lacks _ _ _ _ c.requires.0 c.requires.1 _ _ (sym c.first_atom.ensures ∙ c.in-Err.is))

pub returns-in-Ok-Some : goal.returns-in-Ok-Some
returns-in-Ok-Some c = (union_made _ _ _ _ c.requires.0 c.requires.1 _ _ _ (sym c.first_atom.ensures ∙ c.in-Ok-Some.is ∙ ap Ok c.in-Ok-Some.field-0-is) _ (c.put_atom-builder.ensures _))
