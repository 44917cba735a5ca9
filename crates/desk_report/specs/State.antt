-- The states of the desk's single calls as words: each number of a state is a word, in the order of its fields; a failure is
-- 1, none is 0. Words that are too few, or one too large for its field, stand for no state.
use Rattle.std.specs.Prelude.{ℕ, List, [], ◌∷◌, length, get_or, ltb, leb, eqb, Option, Some, None, Result}
use Rattle.std.proofs.lemmas.List.Edits.{sets}
use Rattle.feature.specs.Pick.{pick}
use Rattle.builder.specs.State.{state, failed_join}
use Rattle.builder.specs.declared.builder.Builder.{Builder}
use Rattle.builder.specs.declared.builder.FailedJoin.{FailedJoin}
use Rattle.writer.specs.declared.Writer.{Writer}
use Rattle.desk_writer.specs.declared.Refusal as writer
use Rattle.desk_writer.specs.Pieces.{writer_words}
use Rattle.desk_pool.specs.declared.Refusal as pool
use Rattle.desk_pool.specs.Slots.{pool_words}
use Rattle.join_pool.specs.declared.Pool.{Pool}

-- the words of each state
abbrev pub builder_size : ℕ
builder_size = 11

abbrev pub writer_size : ℕ
writer_size = 2

abbrev pub pool_size : ℕ
pool_size = 2

-- the first number that is too large for a field of 32 bits
abbrev pub narrow : ℕ
narrow = 0x1_0000_0000

-- ---- what words stand for
-- a failed join is 1 and its two atoms, none is 0
abbrev pub failure_in : ℕ → ℕ → ℕ → Option FailedJoin
failure_in f x y = pick (eqb f 1) (Some (failed_join x y)) None

unfoldable pub builder_in : List ℕ → Option Builder
builder_in w =
    pick (ltb (length w) builder_size) None
    (pick (leb narrow (get_or w 0 0)) None
    (pick (ltb 1 (get_or w 8 0)) None
    (pick (leb narrow (get_or w 9 0)) None
    (pick (leb narrow (get_or w 10 0)) None
    (Some (state (get_or w 0 0) (get_or w 1 0) (get_or w 2 0) (get_or w 3 0) (get_or w 4 0) (get_or w 5 0) (get_or w 6 0) (get_or w 7 0) (failure_in (get_or w 8 0) (get_or w 9 0) (get_or w 10 0))))))))

unfoldable pub writer_in : List ℕ → Option Writer
writer_in w =
    pick (ltb (length w) writer_size) None
    (Some (record { pieces = get_or w 0 0; len = get_or w 1 0 }))

unfoldable pub pool_in : List ℕ → Option Pool
pool_in w =
    pick (ltb (length w) pool_size) None
    (pick (leb narrow (get_or w 0 0)) None
    (pick (leb narrow (get_or w 1 0)) None
    (Some (record { counter = get_or w 0 0; spare = get_or w 1 0 }))))

-- ---- the words of a state
abbrev pub failure_words : Option FailedJoin → List ℕ
failure_words None = 0 ∷ 0 ∷ 0 ∷ []
failure_words (Some f) = 1 ∷ f.closing ∷ f.opening ∷ []

unfoldable pub builder_words : Builder → List ℕ
builder_words b =
    b.refusal ∷ b.carried ∷ b.places ∷ b.slots ∷ b.atoms ∷ b.entries ∷ b.top ∷ b.joins ∷ failure_words b.failed

-- what an event lays of them over the words that it was told on: where no join has failed, those of a failed join's atoms stay
-- as they are, whatever they are
abbrev pub failure_told : Option FailedJoin → List ℕ
failure_told None = 0 ∷ []
failure_told (Some f) = failure_words (Some f)

unfoldable pub event_words : Builder → List ℕ
event_words b =
    b.refusal ∷ b.carried ∷ b.places ∷ b.slots ∷ b.atoms ∷ b.entries ∷ b.top ∷ b.joins ∷ failure_told b.failed

unfoldable pub writer_list : Writer → List ℕ
writer_list w = w.pieces ∷ w.len ∷ []

unfoldable pub pool_list : Pool → List ℕ
pool_list p = p.counter ∷ p.spare ∷ []

-- ---- the state's words after a call
unfoldable pub builder_kept : List ℕ → Builder → List ℕ
builder_kept words b = pick (eqb b.refusal 0) (sets words 0 (builder_words b)) words

-- after an event on the state that they stood for
unfoldable pub event_kept : List ℕ → Builder → List ℕ
event_kept words b = pick (eqb b.refusal 0) (sets words 0 (event_words b)) words

abbrev pub writer_kept : List ℕ → Result Writer writer.Refusal → List ℕ
writer_kept words said = sets words 0 (writer_words said)

abbrev pub pool_kept : List ℕ → Result (Pool × ℕ) pool.Refusal → List ℕ
pool_kept words handed = sets words 0 (pool_words handed)

-- ---- what a call does with words that stand for a state, and with words that stand for none
unfoldable pub on_state : {A S : Type 0} → Option S → A → (S → A) → A
on_state (Some s) none some = some s
on_state None none some = none
