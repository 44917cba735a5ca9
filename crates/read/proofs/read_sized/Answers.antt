use mathlib.Core.Path.{ap, ◌∙◌}
use mathlib.Core.List.{List}
use Prim.Native.Nat.{ℕ}
use native.Mathlib.Omega.{arith}
use lib.ListN.{length, replicate}
use Rattle.table.specs.Limits.{ring_number_count}
use Rattle.read.specs.Steps.{within}
use Rattle.read.proofs.Lines.{within_sized}
use Rattle.read.proofs.read_sized.Goals as goal

pub whole_as_slice-read_within : goal.whole_as_slice-read_within
whole_as_slice-read_within g c = omega (arith, c.requires.1.most_entries)

pub whole_as_slice-read_within-2 : goal.whole_as_slice-read_within-2
whole_as_slice-read_within-2 g c = omega (arith, c.requires.1.most_atoms)

pub returns : goal.returns
returns g c =
    c.read_within.ensures
    ∙ ap (λ (a : List ℕ). within c.args.text.now a (length c.args.bonds.now) (replicate g.row.WORDS 0) (replicate g.row.PLACES 0) (replicate ring_number_count 0)) c.requires.0.blank
    ∙ within_sized _ _ _ _ _ c.requires.1
