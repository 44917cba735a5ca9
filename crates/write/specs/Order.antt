-- The walk order: the number in walk order of each atom, the atom of each such number, and for each atom the place, from 1, of
-- its entry back to the atom that it was reached from, 0 for a root. It has the refusals of the write call but for 16, and
-- answers 13 where a table has less room than there are atoms. After a refusal all three tables are zero.
use Rattle.std.specs.Prelude.{ℕ, ◌-◌, List, [], ◌∷◌, length, Result, Ok, Err}
use Rattle.table.specs.Limits.{lesser_of}
use Rattle.walk.specs.declared.walker.Walker.{Walker}
use Rattle.walk.specs.Walk.{Walk}
use Rattle.write.specs.declared.answer.WriteError.{WriteError}
use Rattle.write.specs.declared.answer.WriteError.TheVariants.{Stopped}
use Rattle.table.specs.Zeros.{zeros}
use Rattle.write.specs.Write.{walk_in, unless, admitted, atom_places}

-- marks are one more than a number in walk order, or 0
unfoldable pub lowered : List ℕ → List ℕ
lowered [] = []
lowered (x ∷ l) = (x - 1) ∷ lowered l

pub record Order : Type 0 where
  pub answer : Result ℕ WriteError
  pub walked : List ℕ
  pub number : List ℕ
  pub back : List ℕ

abbrev pub order : Result ℕ WriteError → List ℕ → List ℕ → List ℕ → Order
order r walked number back = record { answer = r; walked = walked; number = number; back = back }

-- zeros in tables of so many words
abbrev pub order_refusing : ℕ → ℕ → ℕ → WriteError → Order
order_refusing walked number back why = order (Err why) (zeros walked) (zeros number) (zeros back)

-- the end of a walk, with the tables that it filled
unfoldable pub order_concluded : ℕ → Walker → List ℕ → List ℕ → List ℕ → Order
order_concluded n z walked met back =
    unless z.refusal (λ why. order_refusing (length walked) (length met) (length back) (Stopped why))
    (order (Ok n) walked (lowered met) back)

abbrev pub order_at_end : ℕ → Walk → Order
order_at_end n w = order_concluded n w.at w.walked w.met w.back

unfoldable pub graph_ordered : ℕ → ℕ → ℕ → List ℕ → ℕ → List ℕ → ℕ → Order
graph_ordered walked number back atoms n bonds m =
    order_at_end n (walk_in number walked back atoms n bonds m)

-- how many atoms the tables have room for
unfoldable pub order_room : ℕ → ℕ → ℕ → List ℕ → ℕ
order_room walked number back atoms = lesser_of (lesser_of (lesser_of (atom_places atoms) walked) number) back

unfoldable pub order_of : ℕ → ℕ → ℕ → List ℕ → ℕ → List ℕ → ℕ → Order
order_of walked number back atoms n bonds m =
    admitted (order_room walked number back atoms) atoms n bonds m (order_refusing walked number back)
    (graph_ordered walked number back atoms n bonds m)
