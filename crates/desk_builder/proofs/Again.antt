-- What a call hands out from a state can be handed in again: it is not answered 17, however many calls went before. So 17 is
-- never the answer to what a start and calls after it have made. Assumes nothing.
use Prim.Native.Nat.{ℕ, ◌+◌}
use mathlib.Core.Path.{◌≡◌, refl}
use mathlib.Core.Logic.{◌≢◌}
use mathlib.Core.List.{List, [], ◌∷◌}
use mathlib.Core.Bool.{Bool, true, false}
use native.Mathlib.Omega.{arith}
use lib.ListN.{get_or}
use lib.Dec.{ltb, leb, eqb}
use borrow.Author.Tests.{ltb-true}
use Rattle.std.specs.Prelude.{is_some}
use Rattle.feature.specs.Pick.{pick, both}
use Rattle.feature.specs.Kinds.{in_range, invert_of}
use Rattle.feature.specs.Bonds.{reconcile_of}
use Rattle.feature.specs.declared.atom_kind.AtomKind.{AtomKind}
use Rattle.std.specs.Prelude.{None, Option, Some}
use Rattle.feature.specs.declared.bond_kind.BondKind.{BondKind}
use Rattle.feature.proofs.Cases.{by_test, both_first}
use Rattle.table.specs.Limits.{ring_number_count}
use Rattle.builder.specs.State.{Bld, refuse, entered, root_of, bonded, extended_by, extend_of, opened_of, opening_kind, failed_st, closed_by, join_of, pop_of}
use Rattle.builder.specs.declared.builder.Builder.{Builder}
use Rattle.desk_state.specs.Standing.{is_state}
use Rattle.desk_state.proofs.Kept.{Holds, holds, stands, refuse_holds, root_holds, extend_holds, join_holds, pop_holds}
use Rattle.desk_numbers.specs.Numbers.{bad_table}
use Rattle.desk_builder.specs.Events.{anew, judged, start_d, root_d, extend_d, join_d, pop_d}
use Rattle.desk_builder.specs.Build.{roomy, build_d}
use Rattle.desk_builder.proofs.Start.{started}
use Rattle.desk_builder.proofs.Held.{build_other}
use Rattle.desk_builder.specs.Runs.{Call, Root, Extend, Join, Pop, call_d, fits, calls_d}

-- ---- a call on a state leaves a state, accepted or not
judged_stands : (ok : Bool) (b done : Bld) → is_state b ≡ true → (ok ≡ true → Holds (anew b) → Holds done) → is_state (judged ok b done) ≡ true
unfolding judged anew
judged_stands ok b done is go =
    let h = holds b is in
    stands (pick (both ok (is_state b)) done (refuse b bad_table 0))
    (by_test Holds (both ok (is_state b)) (λ e. go (both_first ok (is_state b) e) (refuse_holds b h 0 0)) (λ e. refuse_holds b h bad_table 0))

pub root_stands : (b : Bld) (k : AtomKind) → is_state b ≡ true → is_state (root_d b k) ≡ true
unfolding root_d
root_stands b k is = judged_stands (in_range k) b (root_of (anew b) k b.st.atoms) is (λ ok h. root_holds (anew b) h k b.st.atoms ok)

pub extend_stands : (b : Bld) (e : BondKind) (k : AtomKind) → is_state b ≡ true → is_state (extend_d b e k) ≡ true
unfolding extend_d
extend_stands b e k is = judged_stands (in_range k) b (extend_of (anew b) e k b.st.atoms) is (λ ok h. extend_holds (anew b) h e k b.st.atoms ok)

pub join_stands : (b : Bld) (e : BondKind) (n : ℕ) → is_state b ≡ true → is_state (join_d b e n) ≡ true
unfolding join_d
join_stands b e n is = judged_stands (ltb n ring_number_count) b (join_of (anew b) e n b.st.atoms) is (λ ok h. join_holds (anew b) h e n b.st.atoms (ltb-true n ring_number_count ok))

pub pop_stands : (b : Bld) (n : ℕ) → is_state b ≡ true → is_state (pop_d b n) ≡ true
unfolding pop_d
pop_stands b n is = judged_stands true b (pop_of (anew b) n) is (λ ok h. pop_holds (anew b) h n)

pub call_stands : (b : Bld) (c : Call) → is_state b ≡ true → is_state (call_d b c) ≡ true
unfolding call_d
call_stands b (Root k) is = root_stands b k is
call_stands b (Extend e k) is = extend_stands b e k is
call_stands b (Join e n) is = join_stands b e n is
call_stands b (Pop n) is = pop_stands b n is

pub calls_stand : (b : Bld) (cs : List Call) → is_state b ≡ true → is_state (calls_d b cs) ≡ true
unfolding calls_d
calls_stand b [] is = is
calls_stand b (c ∷ cs) is = calls_stand (call_d b c) cs (call_stands b c is)

-- ---- no event answers 17 by itself
abbrev Other : Bld → Type 0
Other b = b.st.refusal ≢ bad_table

-- of a builder with no refusal
module _ (b : Bld) (none : b.st.refusal ≡ 0) where
  root_other : (k : AtomKind) (place : ℕ) → Other (root_of b k place)
  unfolding root_of refuse entered
  root_other k place = by_test Other (leb b.st.places b.st.atoms) (λ t e. omega arith) (λ t e. omega (arith, none, e))

  extended_other : (c : BondKind) (q : Option AtomKind) → Other (extended_by b c q)
  unfolding extended_by refuse entered bonded
  extended_other c None e = omega arith
  extended_other c (Some k) e = omega (arith, none, e)

  extend_other : (c : BondKind) (k : AtomKind) (place : ℕ) → Other (extend_of b c k place)
  unfolding extend_of refuse
  extend_other c k place =
      by_test Other (eqb b.st.top 0) (λ t e. omega arith)
      (λ t. by_test Other (leb b.st.places b.st.atoms) (λ t e. omega arith)
      (λ t. by_test Other (ltb b.st.slots (b.st.entries + 2)) (λ t e. omega arith)
      (λ t. extended_other c (invert_of k))))

  closed_other : (n place : ℕ) (q : Option (BondKind × BondKind)) → Other (closed_by b n place q)
  unfolding closed_by refuse failed_st
  closed_other n place None =
      by_test (λ (s : Builder). s.refusal ≢ bad_table) (is_some b.st.failed) (λ t e. omega (arith, none, e)) (λ t e. omega (arith, none, e))
  closed_other n place (Some (l, r)) =
      by_test Other (ltb b.st.slots (b.st.entries + 1)) (λ t e. omega arith) (λ t e. omega (arith, none, e))

  join_other : (c : BondKind) (n place : ℕ) → Other (join_of b c n place)
  unfolding join_of refuse opened_of
  join_other c n place =
      by_test Other (eqb b.st.top 0) (λ t e. omega arith)
      (λ t. by_test Other (eqb (get_or b.rings n 0) 0)
      (λ t. by_test Other (ltb b.st.slots (b.st.entries + 1)) (λ t e. omega arith) (λ t e. omega (arith, none, e)))
      (λ t. closed_other n place (reconcile_of (opening_kind b n) c)))

  pop_other : (n : ℕ) → Other (pop_of b n)
  unfolding pop_of
  pop_other n e = omega (arith, none, e)

judged_other : (ok : Bool) (b done : Bld) → ok ≡ true → is_state b ≡ true → Other done → Other (judged ok b done)
unfolding judged
judged_other ok b done fit is h = rw (fit, is) h

anew_none : (b : Bld) → (anew b).st.refusal ≡ 0
unfolding anew refuse
anew_none b = refl

-- a call that fits, on a state
pub call_other : (b : Bld) (c : Call) → is_state b ≡ true → fits c ≡ true → (call_d b c).st.refusal ≢ bad_table
unfolding call_d fits root_d extend_d join_d pop_d
call_other b (Root k) is fit = judged_other (in_range k) b (root_of (anew b) k b.st.atoms) fit is (root_other (anew b) (anew_none b) k b.st.atoms)
call_other b (Extend e k) is fit = judged_other (in_range k) b (extend_of (anew b) e k b.st.atoms) fit is (extend_other (anew b) (anew_none b) e k b.st.atoms)
call_other b (Join e n) is fit = judged_other (ltb n ring_number_count) b (join_of (anew b) e n b.st.atoms) fit is (join_other (anew b) (anew_none b) e n b.st.atoms)
call_other b (Pop n) is fit = judged_other true b (pop_of (anew b) n) fit is (pop_other (anew b) (anew_none b) n)

-- so from a state on, after any calls, one that fits is not answered 17
pub never_bad : (b : Bld) (cs : List Call) (c : Call) → is_state b ≡ true → fits c ≡ true → (call_d (calls_d b cs) c).st.refusal ≢ bad_table
never_bad b cs c is fit = call_other (calls_d b cs) c (calls_stand b cs is) fit

-- and from the start on
pub start_never_bad : (a e p r : List ℕ) (cs : List Call) (c : Call) → (start_d a e p r).st.refusal ≡ 0 → fits c ≡ true → (call_d (calls_d (start_d a e p r) cs) c).st.refusal ≢ bad_table
start_never_bad a e p r cs c accepted fit = never_bad (start_d a e p r) cs c (started a e p r accepted) fit

-- nor is the build, into a table with room for the entries held
pub build_never_bad : (a e p r : List ℕ) (cs : List Call) (bonds : List ℕ) → (start_d a e p r).st.refusal ≡ 0 → roomy (calls_d (start_d a e p r) cs).st bonds ≡ true → (build_d (calls_d (start_d a e p r) cs) bonds).number ≢ bad_table
build_never_bad a e p r cs bonds accepted room =
    build_other (calls_d (start_d a e p r) cs) bonds (calls_stand (start_d a e p r) cs (started a e p r accepted)) room

-- ---- an accepted call was on a state, and leaves one
judged_bad : (ok : Bool) (b done : Bld) → is_state b ≡ false → (judged ok b done).st.refusal ≡ bad_table
unfolding judged refuse
judged_bad ok b done none = rw none (go ok) where
  go : (q : Bool) → (pick (both q false) done (refuse b bad_table 0)).st.refusal ≡ bad_table
  go true = refl
  go false = refl

bad_call : (b : Bld) (c : Call) → is_state b ≡ false → (call_d b c).st.refusal ≡ bad_table
unfolding call_d root_d extend_d join_d pop_d
bad_call b (Root k) none = judged_bad (in_range k) b (root_of (anew b) k b.st.atoms) none
bad_call b (Extend e k) none = judged_bad (in_range k) b (extend_of (anew b) e k b.st.atoms) none
bad_call b (Join e n) none = judged_bad (ltb n ring_number_count) b (join_of (anew b) e n b.st.atoms) none
bad_call b (Pop n) none = judged_bad true b (pop_of (anew b) n) none

pub called_again : (b : Bld) (c : Call) → (call_d b c).st.refusal ≡ 0 → is_state (call_d b c) ≡ true
called_again b c accepted = go (is_state b) refl where
  go : (q : Bool) → is_state b ≡ q → is_state (call_d b c) ≡ true
  go true is = call_stands b c is
  go false is = absurd (omega (arith, accepted, bad_call b c is))
