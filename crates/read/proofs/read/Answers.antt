use Prim.Native.Nat.{ℕ}
use mathlib.Core.Path.{ap, sym, ◌∙◌}
use lib.ListN.{replicate}
use borrow.Author.Tests.{lt-ltb, le-ltb}
use Rattle.read.specs.Line.{read_text}
use Rattle.read.specs.Numbers.{read_in_numbers}
use Rattle.read.proofs.Lines.{enough_for_any, enough_for_few}
use Rattle.read.proofs.read.Goals as goal

pub returns-then-text-gt-TEXT : goal.returns-then-text-gt-TEXT
unfolding read_text
returns-then-text-gt-TEXT c = simp (lt-ltb _ _ c.if-text-gt-TEXT.true, c.clear.ensures, c.clear-2.ensures)

pub read_sized-requires : goal.read_sized-requires
read_sized-requires c = (
  record {
    short = c.if-text-gt-TEXT.false;
    blank = c.clear.ensures ∙ ap (λ (n : ℕ). replicate n 0) (sym c.clear.auto.t);
    empty = c.clear-2.ensures ∙ ap (λ (n : ℕ). replicate n 0) (sym c.clear-2.auto.t);
  },
  enough_for_few _ _ (c.are_few.ensures c.if-are_few.true),
)

pub read_sized-requires-else-are_few : goal.read_sized-requires-else-are_few
read_sized-requires-else-are_few c = (
  record {
    short = c.if-text-gt-TEXT.false;
    blank = c.clear.ensures ∙ ap (λ (n : ℕ). replicate n 0) (sym c.clear.auto.t);
    empty = c.clear-2.ensures ∙ ap (λ (n : ℕ). replicate n 0) (sym c.clear-2.auto.t);
  },
  enough_for_any _ _,
)

pub returns-then-are_few : goal.returns-then-are_few
unfolding read_text
returns-then-are_few c = ap read_in_numbers (c.read_sized.ensures ∙ simp (le-ltb _ _ c.if-text-gt-TEXT.false, c.clear.auto.t, c.clear-2.auto.t))

pub returns-else-are_few : goal.returns-else-are_few
unfolding read_text
returns-else-are_few c = ap read_in_numbers (c.read_sized-else-are_few.ensures ∙ simp (le-ltb _ _ c.if-text-gt-TEXT.false, c.clear.auto.t, c.clear-2.auto.t))
