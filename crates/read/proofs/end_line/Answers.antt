-- What the scanner says of the line's end, as the definition asks it.
use mathlib.Core.Path.{◌≡◌, sym, ◌∙◌}
use mathlib.Core.Bool.{Bool, true, false}
use Prim.Native.Nat.{ℕ}
use mathlib.Core.List.{List}
use lib.ListN.{length}
use lib.Dec.{leb}
use borrow.Author.Tests.{lt-ltb, le-ltb, leb-true, leb-false, eq-eqb, ne_eqb}
use Rattle.builder.specs.State.{refused_st}
use Rattle.builder.specs.declared.builder.Builder.{Builder}
use Rattle.desk_numbers.specs.Numbers.{character}
use Rattle.read_line.specs.declared.line.Reached.{Reached}
use Rattle.read.specs.Steps.{ended_st}
use Rattle.read.proofs.end_line.Goals as goal

none_left : (s : List ℕ) (reached : Reached) (r : Bool) → reached.builder.refusal ≡ 0 → r ≡ leb (length s) reached.at → r ≡ true → reached.builder ≡ ended_st s reached
unfolding ended_st
none_left s reached r e f g = simp (eq-eqb reached.builder.refusal 0 e, le-ltb reached.at (length s) (leb-true (length s) reached.at (sym f ∙ g)))

some_left : (s : List ℕ) (reached : Reached) (r : Bool) (b : Builder) → reached.builder.refusal ≡ 0 → r ≡ leb (length s) reached.at → r ≡ false → b ≡ refused_st reached.builder character reached.at → b ≡ ended_st s reached
unfolding ended_st
some_left s reached r b e f g h = simp (eq-eqb reached.builder.refusal 0 e, lt-ltb reached.at (length s) (leb-false (length s) reached.at (sym f ∙ g)), h)

pub returns-then-builder-ne0 : goal.returns-then-builder-ne0
unfolding ended_st
returns-then-builder-ne0 c = simp (ne_eqb _ _ c.if-builder-ne0.true)

pub returns-then-is_done : goal.returns-then-is_done
returns-then-is_done c = none_left _ _ _ c.if-builder-ne0.false c.is_done.ensures c.if-is_done.true

pub returns : goal.returns
returns c = some_left _ _ _ _ c.if-builder-ne0.false c.is_done.ensures c.if-is_done.false c.refused.ensures
