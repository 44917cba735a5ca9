-- Each way out of the write call and of the walk order. Assumes nothing.
use Prim.Native.Nat.{ℕ, ◌/◌}
use mathlib.Core.Path.{◌≡◌, ◌∙◌, ap}
use mathlib.Core.List.{List}
use lib.ListN.{length, length-replicate}
use Rattle.table.specs.Records.{atom_words}
use Rattle.table.specs.Limits.{RoomOf, atom_limit}
use Rattle.std.specs.Prelude.{Err, Ok, Result}
use Rattle.write.specs.declared.answer.WriteError.{WriteError}
use Rattle.table.specs.Zeros.{zeros}
use Rattle.write.specs.Write.{admitted, atom_places, WriteLeft, write_leaves, line_refusing, graph_written, write_of}
use Rattle.write.specs.Order as made
use Rattle.write.proofs.Ends.{left_zeros, tables_zero}
use Rattle.write.proofs.Judging.{atom_room_is, admit_refused, admit_all}

length_zeros : {o : List ℕ} (n : ℕ) → o ≡ zeros n → length o ≡ n
length_zeros {o} n e = ap length e ∙ length-replicate {A = ℕ} n 0

-- ---- the write call
module _ (room a n m : ℕ) (atoms bonds o : List ℕ) (lent : RoomOf atom_limit (length atoms / atom_words) a) (cleared : o ≡ zeros room) (r : Result (Unit {0}) WriteError)
    (tests : r ≡ admitted a atoms n bonds m (λ why. Err why) (Ok tt)) where
  in_room : r ≡ admitted (atom_places atoms) atoms n bonds m (λ why. Err why) (Ok tt)
  in_room = tests ∙ ap (λ (k : ℕ). admitted k atoms n bonds m (λ (why : WriteError). let x : Result (Unit {0}) WriteError = Err why in x) (Ok tt)) (atom_room_is atoms a lent)

  pub write_refused : (why : WriteError) → r ≡ Err why → write_leaves (Err why) o ≡ write_of room atoms n bonds m
  unfolding write_of
  write_refused why e =
      left_zeros (Err why) o room cleared
      ∙ admit_refused WriteLeft (line_refusing room) (graph_written room atoms n bonds m) atoms bonds n m (atom_places atoms) r in_room why e

  pub write_all : (x : WriteLeft) (u : Unit {0}) → r ≡ Ok u → x ≡ graph_written (length o) atoms n bonds m → x ≡ write_of room atoms n bonds m
  unfolding write_of
  write_all x u e f =
      f
      ∙ ap (λ (k : ℕ). graph_written k atoms n bonds m) (length_zeros room cleared)
      ∙ admit_all WriteLeft (line_refusing room) (graph_written room atoms n bonds m) atoms bonds n m (atom_places atoms) r in_room u e

-- ---- the walk order
module _ (lw ln lb a n m : ℕ) (atoms bonds w u v : List ℕ) (lent : a ≡ made.order_room lw ln lb atoms) (cw : w ≡ zeros lw) (cu : u ≡ zeros ln) (cv : v ≡ zeros lb) (r : Result (Unit {0}) WriteError)
    (tests : r ≡ admitted a atoms n bonds m (λ why. Err why) (Ok tt)) where
  in_tables : r ≡ admitted (made.order_room lw ln lb atoms) atoms n bonds m (λ why. Err why) (Ok tt)
  in_tables = tests ∙ ap (λ (k : ℕ). admitted k atoms n bonds m (λ (why : WriteError). let x : Result (Unit {0}) WriteError = Err why in x) (Ok tt)) lent

  pub order_refused_lem : (why : WriteError) → r ≡ Err why → made.order (Err why) w u v ≡ made.order_of lw ln lb atoms n bonds m
  unfolding made.order_of
  order_refused_lem why e =
      tables_zero (Err why) w u v lw ln lb cw cu cv
      ∙ admit_refused made.Order (made.order_refusing lw ln lb) (made.graph_ordered lw ln lb atoms n bonds m) atoms bonds n m (made.order_room lw ln lb atoms) r in_tables why e

  pub order_all : (x : made.Order) (y : Unit {0}) → r ≡ Ok y → x ≡ made.graph_ordered (length w) (length u) (length v) atoms n bonds m → x ≡ made.order_of lw ln lb atoms n bonds m
  unfolding made.order_of
  order_all x y e f =
      f
      ∙ ap (λ (k : ℕ). made.graph_ordered k (length u) (length v) atoms n bonds m) (length_zeros lw cw)
      ∙ ap (λ (k : ℕ). made.graph_ordered lw k (length v) atoms n bonds m) (length_zeros ln cu)
      ∙ ap (λ (k : ℕ). made.graph_ordered lw ln k atoms n bonds m) (length_zeros lb cv)
      ∙ admit_all made.Order (made.order_refusing lw ln lb) (made.graph_ordered lw ln lb atoms n bonds m) atoms bonds n m (made.order_room lw ln lb atoms) r in_tables y e
