-- The bytes from the place on move one place on; past the end nothing changes.
use lib.ListN.{set}
use mathlib.Core.List.{List}
use mathlib.Core.Path.{ap, ◌∙◌}
use Prim.Native.Nat.{ℕ}
use Rattle.writer.proofs.Laws.{inserted}
use Rattle.writer.proofs.lay.insert.Goals as goal

pub returns-then-at-out : goal.returns-then-at-out
returns-then-at-out c =
    ap (λ (l : List ℕ). set l c.args.at c.args.b) c.copy_within.ensures.after
    ∙ inserted c.args.out.now c.args.at c.args.b c.args.end c.min-stop.result c.requires.0 c.if-at-out.true c.min-stop.ensures
