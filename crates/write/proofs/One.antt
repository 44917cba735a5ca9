-- The desk's numbers tell the answers of the write call and of the walk order apart, so what their promises settle in numbers
-- they settle altogether: two results that meet a promise are equal. Assumes nothing.
use Prim.Native.Nat.{ℕ}
use mathlib.Core.Path.{◌≡◌, refl, ap, ◌∙◌}
use mathlib.Core.List.{List}
use lib.ListN.{get_or}
use lib.Dec.{eqb}
use Rattle.feature.specs.Pick.{pick}
use Rattle.desk_numbers.specs.Numbers as desk
use Rattle.desk_numbers.specs.Numbers.{Told}
use Rattle.desk_numbers.proofs.One.{same_result, one_result}
use Rattle.std.specs.Prelude.{Err, Ok, Result}
use Rattle.walk_entry.specs.declared.WalkError.TheVariants.{UnknownTarget, Loop, HalfBond, DuplicateBond, IncompatibleBond, Inversion, RingNumbers}
use Rattle.write.specs.declared.answer.WriteError.{WriteError}
use Rattle.write.specs.declared.answer.WriteError.TheVariants.{Stopped, AtomRoom, BondRoom, OutRoom, BadTable}
use Rattle.write.specs.Write.{WriteLeft, write_leaves, write_of}
use Rattle.write.specs.Order.{Order, order, order_of}
use Rattle.write.specs.Plain.{write_plain, order_plain}
use Rattle.write.specs.Numbers.{walk_told, written_told, WriteNumbered, write_in_numbers, NumberedOrder, order_in_numbers}
use Rattle.write.proofs.Plain.{write_plain_lem, order_plain_lem}

-- the answer with a number and values
abbrev answer_to : Told → Result ℕ WriteError
answer_to t =
    let first : ℕ = get_or t.values 0 0 in
    let second : ℕ = get_or t.values 1 0 in
    pick (eqb t.number desk.done) (Ok first)
    (pick (eqb t.number desk.unknown_target) (Err (Stopped (UnknownTarget first second)))
    (pick (eqb t.number desk.loop) (Err (Stopped (Loop first)))
    (pick (eqb t.number desk.half_bond) (Err (Stopped (HalfBond first second)))
    (pick (eqb t.number desk.duplicate_bond) (Err (Stopped (DuplicateBond first second)))
    (pick (eqb t.number desk.incompatible_bond) (Err (Stopped (IncompatibleBond first second)))
    (pick (eqb t.number desk.inversion) (Err (Stopped (Inversion first)))
    (pick (eqb t.number desk.ring_numbers) (Err (Stopped (RingNumbers first second)))
    (pick (eqb t.number desk.atom_room) (Err (AtomRoom first))
    (pick (eqb t.number desk.bond_room) (Err (BondRoom first))
    (pick (eqb t.number desk.out_room) (Err (OutRoom first))
    (Err (BadTable first))))))))))))

answer_back : (a : Result ℕ WriteError) → answer_to (written_told a) ≡ a
unfolding written_told walk_told
answer_back (Ok n) = refl
answer_back (Err (Stopped (UnknownTarget a b))) = refl
answer_back (Err (Stopped (Loop a))) = refl
answer_back (Err (Stopped (HalfBond a b))) = refl
answer_back (Err (Stopped (DuplicateBond a b))) = refl
answer_back (Err (Stopped (IncompatibleBond a b))) = refl
answer_back (Err (Stopped (Inversion a))) = refl
answer_back (Err (Stopped (RingNumbers a b))) = refl
answer_back (Err (AtomRoom n)) = refl
answer_back (Err (BondRoom m)) = refl
answer_back (Err (OutRoom n)) = refl
answer_back (Err (BadTable n)) = refl

-- no two answers have the same number and values
pub same_answer : (a b : Result ℕ WriteError) → written_told a ≡ written_told b → a ≡ b
same_answer = same_result written_told answer_to answer_back

-- ---- the write call
abbrev left_by : WriteNumbered → WriteLeft
left_by n = write_leaves (answer_to n.answer) n.out

left_back : (x : WriteLeft) → left_by (write_in_numbers x) ≡ x
left_back x = ap (λ (a : Result ℕ WriteError). write_leaves a x.out) (answer_back x.answer)

-- what is left is the same if it is in numbers
pub same_left : (x y : WriteLeft) → write_in_numbers x ≡ write_in_numbers y → x ≡ y
same_left = same_result write_in_numbers left_by left_back

-- what the walk by turns comes to is what the promise says
pub promised : (x : WriteLeft) (room : ℕ) (atoms : List ℕ) (n : ℕ) (bonds : List ℕ) (m : ℕ) → x ≡ write_of room atoms n bonds m → write_in_numbers x ≡ write_in_numbers (write_plain room atoms n bonds m)
promised x room atoms n bonds m e = ap write_in_numbers (e ∙ write_plain_lem atoms n bonds m room)

pub one_write : (room : ℕ) (atoms : List ℕ) (n : ℕ) (bonds : List ℕ) (m : ℕ) (x y : WriteLeft) → write_in_numbers x ≡ write_in_numbers (write_plain room atoms n bonds m)
    → write_in_numbers y ≡ write_in_numbers (write_plain room atoms n bonds m) → x ≡ y
one_write room atoms n bonds m = one_result write_in_numbers left_by left_back (write_in_numbers (write_plain room atoms n bonds m))

-- ---- the walk order
abbrev order_by : NumberedOrder → Order
order_by o = order (answer_to o.answer) o.walked o.number o.back

order_back : (x : Order) → order_by (order_in_numbers x) ≡ x
order_back x = ap (λ (a : Result ℕ WriteError). order a x.walked x.number x.back) (answer_back x.answer)

pub same_order : (x y : Order) → order_in_numbers x ≡ order_in_numbers y → x ≡ y
same_order = same_result order_in_numbers order_by order_back

pub order_promised : (x : Order) (lw ln lb : ℕ) (atoms : List ℕ) (n : ℕ) (bonds : List ℕ) (m : ℕ) → x ≡ order_of lw ln lb atoms n bonds m
    → order_in_numbers x ≡ order_in_numbers (order_plain lw ln lb atoms n bonds m)
order_promised x lw ln lb atoms n bonds m e = ap order_in_numbers (e ∙ order_plain_lem atoms n bonds m lw ln lb)

pub one_order : (lw ln lb : ℕ) (atoms : List ℕ) (n : ℕ) (bonds : List ℕ) (m : ℕ) (x y : Order) → order_in_numbers x ≡ order_in_numbers (order_plain lw ln lb atoms n bonds m)
    → order_in_numbers y ≡ order_in_numbers (order_plain lw ln lb atoms n bonds m) → x ≡ y
one_order lw ln lb atoms n bonds m =
    one_result order_in_numbers order_by order_back (order_in_numbers (order_plain lw ln lb atoms n bonds m))
