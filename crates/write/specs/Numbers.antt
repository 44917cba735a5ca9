-- What the write call and the walk order leave, in the desk's numbers: the answer as a number with the values that it carries,
-- and the output, or the three tables. The promises of both calls are stated over this.
use Rattle.std.specs.Prelude.{ℕ, List, [], ◌∷◌, Result, Ok, Err}
use Rattle.desk_numbers.specs.Numbers as desk
use Rattle.desk_numbers.specs.Numbers.{Told, told}
use Rattle.walk_entry.specs.declared.WalkError.{WalkError}
use Rattle.walk_entry.specs.declared.WalkError.TheVariants.{UnknownTarget, Loop, HalfBond, DuplicateBond, IncompatibleBond, Inversion, RingNumbers}
use Rattle.write.specs.declared.answer.WriteError.{WriteError}
use Rattle.write.specs.declared.answer.WriteError.TheVariants.{Stopped, AtomRoom, BondRoom, OutRoom, BadTable}
use Rattle.write.specs.Write.{WriteLeft}
use Rattle.write.specs.Order.{Order}

-- what stops a walk, with the atoms that it carries
unfoldable pub walk_told : WalkError → Told
walk_told (UnknownTarget source target) = told desk.unknown_target (source ∷ target ∷ [])
walk_told (Loop source) = told desk.loop (source ∷ [])
walk_told (HalfBond source target) = told desk.half_bond (source ∷ target ∷ [])
walk_told (DuplicateBond source target) = told desk.duplicate_bond (source ∷ target ∷ [])
walk_told (IncompatibleBond target source) = told desk.incompatible_bond (target ∷ source ∷ [])
walk_told (Inversion atom) = told desk.inversion (atom ∷ [])
walk_told (RingNumbers source target) = told desk.ring_numbers (source ∷ target ∷ [])

-- 0 carries the bytes written; of the walk order, the atoms walked
unfoldable pub written_told : Result ℕ WriteError → Told
written_told (Ok n) = told desk.done (n ∷ [])
written_told (Err (Stopped why)) = walk_told why
written_told (Err (AtomRoom atoms)) = told desk.atom_room (atoms ∷ [])
written_told (Err (BondRoom entries)) = told desk.bond_room (entries ∷ [])
written_told (Err (OutRoom bytes)) = told desk.out_room (bytes ∷ [])
written_told (Err (BadTable place)) = told desk.bad_table (place ∷ [])

pub record WriteNumbered : Type 0 where
  pub answer : Told
  pub out : List ℕ

abbrev pub write_in_numbers : WriteLeft → WriteNumbered
write_in_numbers l = record { answer = written_told l.answer; out = l.out }

pub record NumberedOrder : Type 0 where
  pub answer : Told
  pub walked : List ℕ
  pub number : List ℕ
  pub back : List ℕ

abbrev pub order_in_numbers : Order → NumberedOrder
order_in_numbers o =
    record { answer = written_told o.answer; walked = o.walked; number = o.number; back = o.back }
