-- What the counts of a state keep to. Assumes nothing.
use Prim.Native.Nat.{ℕ, ◌*◌, ◌/◌, ◌≤◌}
use mathlib.Core.Path.{◌≡◌}
use mathlib.Core.Bool.{true}
use native.Mathlib.Omega.{arith}
use lib.Dec.{leb, eqb}
use borrow.Author.Tests.{leb-true, eqb-true}
use Rattle.feature.proofs.Cases.{both_first, both_second}
use Rattle.table.specs.Records.{atom_words}
use Rattle.table.specs.Limits.{atom_limit, bond_limit, ring_number_count, places_in}
use Rattle.table.proofs.Rooms.{lesser_most, lesser_held}
use Rattle.builder.specs.State.{entry_words}
use Rattle.builder.specs.declared.builder.Builder.{Builder}
use Rattle.desk_state.specs.Standing.{entry_slots_in, counts_stand}

-- for tables of la and le words
pub record Counts (s : Builder) (la le : ℕ) : Type 0 where
  pub places_is : s.places ≡ places_in la
  pub slots_is : s.slots ≡ entry_slots_in le
  pub places : s.places ≤ atom_limit
  pub slots : s.slots ≤ bond_limit
  pub atom_room : s.places * atom_words ≤ la
  pub entry_room : s.slots * entry_words ≤ le
  pub atoms : s.atoms ≤ s.places
  pub entries : s.entries ≤ s.slots
  pub top : s.top ≤ s.atoms

pub counts : (s : Builder) (la le lp lr : ℕ) → counts_stand s la le lp lr ≡ true → Counts s la le
unfolding counts_stand
counts s la le lp lr h1 =
    let h2 = both_second (eqb s.places (places_in la)) _ h1 in
    let h3 = both_second (eqb s.slots (entry_slots_in le)) _ h2 in
    let h4 = both_second (leb s.places lp) _ h3 in
    let h5 = both_second (leb ring_number_count lr) _ h4 in
    let h6 = both_second (leb s.atoms s.places) _ h5 in
    let h7 = both_second (leb s.entries s.slots) _ h6 in
    let p : s.places ≡ places_in la = eqb-true _ _ (both_first (eqb s.places (places_in la)) _ h1) in
    let l : s.slots ≡ entry_slots_in le = eqb-true _ _ (both_first (eqb s.slots (entry_slots_in le)) _ h2) in
    record {
      places_is = p;
      slots_is = l;
      places = omega (arith, p, lesser_most atom_limit (la / atom_words));
      slots = omega (arith, l, lesser_most bond_limit (le / entry_words));
      atom_room = omega (arith, p, lesser_held atom_limit (la / atom_words));
      entry_room = omega (arith, l, lesser_held bond_limit (le / entry_words));
      atoms = leb-true _ _ (both_first (leb s.atoms s.places) _ h5);
      entries = leb-true _ _ (both_first (leb s.entries s.slots) _ h6);
      top = leb-true _ _ h7;
    }
