-- What an event lays into words stands for the state that it laid, where there are words enough: a builder's whose numbers fit
-- their fields, any writer's, a pool's whose numbers fit. Assumes nothing.
use Prim.Native.Nat.{ℕ, suc}
use mathlib.Core.Path.{◌≡◌}
use mathlib.Core.Bool.{false}
use mathlib.Core.List.{List, ◌∷◌}
use native.Mathlib.Omega.{arith}
use borrow.Author.Tests.{le-ltb}
use lib.ListN.{length}
use lib.Seq.{sets}
use lib.Dec.{ltb, leb}
use Rattle.std.specs.Prelude.{Option, None, Some}
use Rattle.builder.specs.State.{state}
use Rattle.builder.specs.declared.builder.FailedJoin.{FailedJoin}
use Rattle.writer.specs.declared.Writer.{Writer}
use Rattle.join_pool.specs.declared.Pool.{Pool}
use Rattle.desk_report.specs.State.{narrow, builder_in, writer_in, pool_in, builder_words, event_words, writer_list, pool_list}

two_words : (n : ℕ) → ltb (suc (suc n)) 2 ≡ false
two_words n = le-ltb (suc (suc n)) 2 (omega arith)

eleven_words : (n : ℕ) → ltb (suc (suc (suc (suc (suc (suc (suc (suc (suc (suc (suc n))))))))))) 11 ≡ false
eleven_words n =
    le-ltb (suc (suc (suc (suc (suc (suc (suc (suc (suc (suc (suc n))))))))))) 11 (omega arith)

pub writer_again : (a b : ℕ) (rest : List ℕ) (w : Writer) → writer_in (sets (a ∷ b ∷ rest) 0 (writer_list w)) ≡ Some w
unfolding writer_in writer_list
writer_again a b rest w = simp (two_words (length rest))

pub pool_again : (a b : ℕ) (rest : List ℕ) (p : Pool) → leb narrow p.counter ≡ false → leb narrow p.spare ≡ false → pool_in (sets (a ∷ b ∷ rest) 0 (pool_list p)) ≡ Some p
unfolding pool_in pool_list
pool_again a b rest p g h = simp (two_words (length rest), g, h)

-- the atoms of a failed join, if there is one, fit their words
abbrev pub Narrow : Option FailedJoin → Type 0
Narrow None = Unit
Narrow (Some f) = (leb narrow f.closing ≡ false) × (leb narrow f.opening ≡ false)

-- whatever words there were
pub builder_again : (a b c d e f g h i j k : ℕ) (rest : List ℕ) (r v p l n m t o : ℕ) (q : Option FailedJoin) → leb narrow r ≡ false → Narrow q → builder_in (sets (a ∷ b ∷ c ∷ d ∷ e ∷ f ∷ g ∷ h ∷ i ∷ j ∷ k ∷ rest) 0 (builder_words (state r v p l n m t o q))) ≡ Some (state r v p l n m t o q)
unfolding builder_in builder_words
builder_again a b c d e f g h i j k rest r v p l n m t o None x w = simp (eleven_words (length rest), x)
builder_again a b c d e f g h i j k rest r v p l n m t o (Some q) x w = simp (eleven_words (length rest), x, w.0, w.1)

-- the same of what an event lays over words that fit: where no join has failed, it leaves those of a failed join's atoms
abbrev pub FailureFits : Option FailedJoin → ℕ → ℕ → Type 0
FailureFits None x y = (leb narrow x ≡ false) × (leb narrow y ≡ false)
FailureFits (Some f) x y = (leb narrow f.closing ≡ false) × (leb narrow f.opening ≡ false)

pub event_again : (a b c d e f g h i j k : ℕ) (rest : List ℕ) (r v p l n m t o : ℕ) (q : Option FailedJoin) → leb narrow r ≡ false → FailureFits q j k → builder_in (sets (a ∷ b ∷ c ∷ d ∷ e ∷ f ∷ g ∷ h ∷ i ∷ j ∷ k ∷ rest) 0 (event_words (state r v p l n m t o q))) ≡ Some (state r v p l n m t o q)
unfolding builder_in event_words
event_again a b c d e f g h i j k rest r v p l n m t o None x w = simp (eleven_words (length rest), x, w.0, w.1)
event_again a b c d e f g h i j k rest r v p l n m t o (Some q) x w = simp (eleven_words (length rest), x, w.0, w.1)
