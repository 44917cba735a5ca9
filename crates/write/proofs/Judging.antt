-- The tests before a walk, in their order, for the write call and the walk order. Assumes nothing.
use Prim.Native.Nat.{ℕ, ◌/◌, ◌≤◌}
use mathlib.Core.Path.{◌≡◌, refl, sym, ◌∙◌, ap}
use mathlib.Core.Bool.{Bool, true, false}
use mathlib.Core.List.{List}
use native.Mathlib.Omega.{arith}
use lib.ListN.{length}
use lib.Dec.{ltb}
use Rattle.feature.specs.Pick.{pick}
use Rattle.table.specs.Records.{atom_words, bond_words}
use Rattle.table.specs.Limits.{RoomOf, atom_limit, bond_limit, lesser_of}
use Rattle.table_check.specs.Judge.{bad_record}
use Rattle.std.specs.Prelude.{Err, Ok, Result, Option, Some, None}
use Rattle.write.specs.declared.answer.WriteError.{WriteError}
use Rattle.write.specs.declared.answer.WriteError.TheVariants.{AtomRoom, BondRoom, BadTable}
use Rattle.write.specs.Write.{atom_places, bond_slots, unless, admitted}
use Rattle.write.specs.Order.{order_room}

pub atom_room_is : (atoms : List ℕ) (a : ℕ) → RoomOf atom_limit (length atoms / atom_words) a → a ≡ atom_places atoms
unfolding atom_places
atom_room_is atoms a h = h.is

bond_room_is : (bonds : List ℕ) (b : ℕ) → RoomOf bond_limit (length bonds / bond_words) b → b ≡ bond_slots bonds
unfolding bond_slots
bond_room_is bonds b h = h.is

pub order_room_is : (atoms : List ℕ) (lw ln lb a b c r : ℕ) → RoomOf atom_limit (length atoms / atom_words) a → RoomOf a lw b → RoomOf b ln c → RoomOf c lb r → (r ≡ order_room lw ln lb atoms) × (r ≤ atom_limit)
unfolding order_room
order_room_is atoms lw ln lb a b c r h i j k = (
  k.is
      ∙ ap (λ (x : ℕ). lesser_of x lb) j.is
      ∙ ap (λ (x : ℕ). lesser_of (lesser_of x ln) lb) i.is
      ∙ ap (λ (x : ℕ). lesser_of (lesser_of (lesser_of x lw) ln) lb) (atom_room_is atoms a h),
  omega (arith, h.most, i.most, j.most, k.most),
)

-- ---- what the tests answer, a call by the same tests answers
settled_by : {A : Type 0} (refused : WriteError → A) (made : A) → Result (Unit {0}) WriteError → A
settled_by refused made (Err why) = refused why
settled_by refused made (Ok u) = made

settle : {A : Type 0} (refused : WriteError → A) (made : A) (p q : Bool) (o : Option ℕ) (a b : WriteError) (f : ℕ → WriteError)
    → pick p (refused a) (pick q (refused b) (unless o (λ x. refused (f x)) made)) ≡ settled_by refused made (pick p (Err a) (pick q (Err b) (unless o (λ x. Err (f x)) (Ok tt))))
unfolding settled_by
settle refused made true q o a b f = refl
settle refused made false true o a b f = refl
settle refused made false false (Some x) a b f = refl
settle refused made false false None a b f = refl

module _ (A : Type 0) (refused : WriteError → A) (made : A) (atoms bonds : List ℕ) (n m room : ℕ) (r : Result (Unit {0}) WriteError)
    (is : r ≡ admitted room atoms n bonds m (λ why. Err why) (Ok tt)) where
  by_answer : settled_by refused made r ≡ admitted room atoms n bonds m refused made
  by_answer =
      ap (settled_by refused made) is
      ∙ sym (settle refused made (ltb room n) (ltb (bond_slots bonds) m) (bad_record atoms n bonds m) (AtomRoom n) (BondRoom m) BadTable)

  pub admit_refused : (why : WriteError) → r ≡ Err why → refused why ≡ admitted room atoms n bonds m refused made
  unfolding settled_by
  admit_refused why e = ap (settled_by refused made) (sym e) ∙ by_answer

  pub admit_all : (u : Unit {0}) → r ≡ Ok u → made ≡ admitted room atoms n bonds m refused made
  unfolding settled_by
  admit_all u e = ap (settled_by refused made) (sym e) ∙ by_answer
