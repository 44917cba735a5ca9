-- The numbers in the tables that the walk order hands out are those of the walk that is written. Assumes nothing.
use Prim.Native.Nat.{ℕ}
use mathlib.Core.Path.{◌≡◌, sym, ap, ◌∙◌, fun_ext}
use mathlib.Core.List.{List}
use Rattle.walk.specs.Walk.{Walk}
use Rattle.std.specs.Prelude.{Ok}
use Rattle.write.specs.Write.{walk_of, WriteLeft, write_leaves, write_of}
use Rattle.write.specs.Order.{Order, order_of}
use Rattle.write.specs.Steps.{Looks, as_order}
use Rattle.write.proofs.Lengths.{order_looks, order_answer}
use Rattle.trip_graph.specs.Renumbered.{by_walk}
use Rattle.round_trip.specs.RoundTrip.{by_order}
use Rattle.round_trip.specs.ByOrder.{Lent}

-- ---- the order's numbers are the walk's
looks_same : (w : Walk) (o : Order) → Looks w o → by_walk w ≡ by_order o
looks_same w o l =
    λ i. record { atom = fun_ext (λ v. sym (l.walked v)) i; number = fun_ext (λ a. sym (l.number a)) i; parent = fun_ext (λ a. sym (l.back a)) i }

-- what the walk order answers, where the write call is done
pub order_done : (room : ℕ) (atoms : List ℕ) (n : ℕ) (bonds : List ℕ) (m len : ℕ) (out : List ℕ) (lw ln lb : ℕ) → write_of room atoms n bonds m ≡ write_leaves (Ok len) out
    → Lent n lw ln lb → (order_of lw ln lb atoms n bonds m).answer ≡ Ok n
unfolding as_order
order_done room atoms n bonds m len out lw ln lb e r =
    order_answer lw ln lb atoms n bonds m r.walked r.number r.back room ∙ ap (λ (x : WriteLeft). as_order n x.answer) e

pub order_numbers : (room : ℕ) (atoms : List ℕ) (n : ℕ) (bonds : List ℕ) (m len : ℕ) (out : List ℕ) (lw ln lb : ℕ) → write_of room atoms n bonds m ≡ write_leaves (Ok len) out
    → Lent n lw ln lb → by_walk (walk_of atoms n bonds m) ≡ by_order (order_of lw ln lb atoms n bonds m)
order_numbers room atoms n bonds m len out lw ln lb e r =
    looks_same (walk_of atoms n bonds m) (order_of lw ln lb atoms n bonds m)
    (order_looks lw ln lb atoms n bonds m n (order_done room atoms n bonds m len out lw ln lb e r))
