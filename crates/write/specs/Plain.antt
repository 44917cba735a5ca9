-- The write call and the walk order by the plain walk of crates/walk_laws. proofs/Plain says that they are `write_of` and `order_of`.
use Rattle.std.specs.Prelude.{ℕ, zero, suc, ◌+◌, ◌-◌, List, [], ◌∷◌, ◌++◌, Ok}
use Rattle.walk_laws.specs.Plain.{Outcome, Goes, Refused, number_in, plain_walk}
use Rattle.write.specs.declared.answer.WriteError.TheVariants.{Stopped}
use Rattle.table.specs.Zeros.{zeros}
use Rattle.write.specs.Write.{pair_words, graph_of, line_said, admitted, atom_places, WriteLeft, line_refusing, put_line}
use Rattle.write.specs.Order as made

-- the plain walk of the graph of n atoms that tables hold
abbrev pub outcome_of : ℕ → List ℕ → List ℕ → Outcome
outcome_of n atoms bonds = plain_walk (graph_of n atoms bonds) (zeros pair_words)

-- ---- the write call
-- the line that was said, or the refusal
unfoldable pub outcome_written : ℕ → Outcome → WriteLeft
outcome_written room (Goes s) = put_line room (line_said s.said)
outcome_written room (Refused why s) = line_refusing room (Stopped why)

unfoldable pub write_plain : ℕ → List ℕ → ℕ → List ℕ → ℕ → WriteLeft
write_plain room atoms n bonds m =
    admitted (atom_places atoms) atoms n bonds m (line_refusing room) (outcome_written room (outcome_of n atoms bonds))

-- ---- the walk order
-- the numbers in a walk order, from 0, of the n atoms from a on
unfoldable pub numbers_from : List ℕ → ℕ → ℕ → List ℕ
numbers_from order a zero = []
numbers_from order a (suc n) = (number_in order a - 1) ∷ numbers_from order (a + 1) n

-- tables of these lengths: the walk order, the number of each atom, the place of its entry back, and zeros after them
unfoldable pub outcome_ordered : ℕ → ℕ → ℕ → ℕ → Outcome → made.Order
outcome_ordered walked number back n (Goes s) =
    made.order (Ok n) (s.order ++ zeros (walked - n)) (numbers_from s.order 0 n ++ zeros (number - n)) (s.back ++ zeros (back - n))
outcome_ordered walked number back n (Refused why s) = made.order_refusing walked number back (Stopped why)

unfoldable pub order_plain : ℕ → ℕ → ℕ → List ℕ → ℕ → List ℕ → ℕ → made.Order
order_plain walked number back atoms n bonds m =
    admitted (made.order_room walked number back atoms) atoms n bonds m (made.order_refusing walked number back)
    (outcome_ordered walked number back n (outcome_of n atoms bonds))
