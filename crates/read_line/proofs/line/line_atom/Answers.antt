use mathlib.Core.Path.{sym, ◌∙◌, ap}
use Rattle.std.specs.Prelude.{Ok}
use Rattle.read_line.specs.Steps.{reached_missing}
use Rattle.read_line.proofs.Turn.{atom_none, atom_lacks, atom_made}
use Rattle.read_line.proofs.line.line_atom.Goals as goal

pub returns-in-Ok-None : goal.returns-in-Ok-None
unfolding reached_missing
returns-in-Ok-None c = λ s. simp c.stopped.ensures (atom_none _ _ _ _ c.requires.0 c.requires.1 _ (sym c.first_atom.ensures ∙ c.in-Ok-None.is ∙ ap Ok c.in-Ok-None.field-0-is))

pub returns-in-Err : goal.returns-in-Err
returns-in-Err c = λ s. simp c.put_missing-builder.ensures (atom_lacks _ _ _ _ c.requires.0 c.requires.1 _ _ (sym c.first_atom.ensures ∙ c.in-Err.is))

pub returns-in-Ok-Some : goal.returns-in-Ok-Some
returns-in-Ok-Some c = λ s. (atom_made _ _ _ _ c.requires.0 c.requires.1 _ _ _ (sym c.first_atom.ensures ∙ c.in-Ok-Some.is ∙ ap Ok c.in-Ok-Some.field-0-is) _ (c.put_atom-builder.ensures s))
