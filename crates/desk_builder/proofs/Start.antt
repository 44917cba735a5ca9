-- The start: what is lent holds a state, or is answered 17. Assumes nothing.
use Prim.Native.Nat.{ℕ, zero, suc, ◌<◌, ◌≤◌}
use mathlib.Core.Path.{◌≡◌, refl}
use mathlib.Core.List.{List}
use mathlib.Core.Bool.{Bool, true, false}
use native.Mathlib.Omega.{arith}
use lib.ListN.{length, length-replicate}
use borrow.Author.Tests.{le-leb, lt-leb, eq-eqb}
use Rattle.feature.specs.Pick.{pick}
use Rattle.feature.specs.Every.{every}
use Rattle.feature.proofs.Every.{every_all}
use Rattle.desk_numbers.specs.Numbers.{bad_table}
use Rattle.table.specs.Limits.{ring_number_count, places_in}
use Rattle.builder.specs.State.{bld, fresh_builder, refused_st}
use Rattle.builder.specs.declared.builder.Builder.{Builder}
use Rattle.table.specs.Zeros.{zeroed}
use Rattle.table.proofs.Zeros.{zero_at}
use Rattle.desk_state.specs.Standing.{entry_slots_in, is_ring, open_rings, joins_stand, counts_stand, failure_stands, is_state}
use Rattle.desk_builder.specs.Events.{rooms_of, fresh_of, start_d}

-- ---- no event yet
none_below : (f : ℕ → Bool) → every f 0 ≡ true
unfolding every
none_below f = refl

free_ring : (s : Builder) (e r : List ℕ) (i : ℕ) → is_ring s e (zeroed r) i ≡ true
unfolding is_ring
free_ring s e r i = rw (zero_at (length r) i) refl

no_rings : (r : List ℕ) (n : ℕ) → open_rings (zeroed r) n ≡ 0
unfolding open_rings
no_rings r zero = refl
no_rings r (suc n) = rw (zero_at (length r) n, no_rings r n) refl

module _ (a e p r : List ℕ) where
  -- a path with a word for each atom, and a hundred words for the ring numbers, hold a state
  pub fresh_stands : places_in (length a) ≤ length p → ring_number_count ≤ length r → is_state (fresh_of a e p r) ≡ true
  unfolding is_state fresh_of rooms_of counts_stand joins_stand failure_stands
  fresh_stands hp hr =
      simp
      (eq-eqb (places_in (length a)) (places_in (length a)) refl, eq-eqb (entry_slots_in (length e)) (entry_slots_in (length e)) refl, le-leb (places_in (length a)) (length p) hp, le-leb ring_number_count (length (zeroed r)) (omega (arith, hr, length-replicate {A = ℕ} (length r) 0)), le-leb 0 (places_in (length a)) (omega arith), le-leb 0 (entry_slots_in (length e)) (omega arith), none_below, no_rings r ring_number_count, every_all (is_ring (fresh_builder (places_in (length a)) (entry_slots_in (length e))) e (zeroed r)) ring_number_count (λ i l. free_ring (fresh_builder (places_in (length a)) (entry_slots_in (length e))) e r i))

  -- a shorter one holds none
  pub short_path : length p < places_in (length a) → is_state (fresh_of a e p r) ≡ false
  unfolding is_state fresh_of rooms_of counts_stand
  short_path h =
      simp (eq-eqb (places_in (length a)) (places_in (length a)) refl, eq-eqb (entry_slots_in (length e)) (entry_slots_in (length e)) refl, lt-leb (places_in (length a)) (length p) h)

  pub few_rings : places_in (length a) ≤ length p → length r < ring_number_count → is_state (fresh_of a e p r) ≡ false
  unfolding is_state fresh_of rooms_of counts_stand
  few_rings hp h =
      simp
      (eq-eqb (places_in (length a)) (places_in (length a)) refl, eq-eqb (entry_slots_in (length e)) (entry_slots_in (length e)) refl, le-leb (places_in (length a)) (length p) hp, lt-leb ring_number_count (length (zeroed r)) (omega (arith, h, length-replicate {A = ℕ} (length r) 0)))

  -- ---- the ways out of a start
  module _ {n m : ℕ} {b : Builder} (places : n ≡ places_in (length a)) (slots : m ≡ entry_slots_in (length e)) (new : b ≡ fresh_builder n m) where
    rooms_are : b ≡ rooms_of a e
    unfolding rooms_of
    rooms_are = rw (new, places, slots) refl

    start_bad : (s : Builder) → is_state (fresh_of a e p r) ≡ false → s ≡ refused_st b bad_table 0 → bld a e p r s ≡ start_d a e p r
    unfolding start_d
    start_bad s bad is = rw (is, rooms_are, bad) refl

    pub start_short : {s : Builder} → length p < n → s ≡ refused_st b bad_table 0 → bld a e p r s ≡ start_d a e p r
    start_short {s} h is = start_bad s (short_path (omega (arith, places, h))) is

    pub start_few : {s : Builder} → n ≤ length p → length r < ring_number_count → s ≡ refused_st b bad_table 0 → bld a e p r s ≡ start_d a e p r
    start_few {s} hp h is = start_bad s (few_rings (omega (arith, places, hp)) h) is

    pub start_goes : {x : List ℕ} → n ≤ length p → ring_number_count ≤ length r → x ≡ zeroed r → bld a e p x b ≡ start_d a e p r
    unfolding start_d fresh_of
    start_goes hp hr clears = rw (clears, rooms_are, fresh_stands (omega (arith, places, hp)) hr) refl

  -- a start that is accepted is a state
  pub started : (start_d a e p r).st.refusal ≡ 0 → is_state (start_d a e p r) ≡ true
  unfolding start_d
  started h = go (is_state (fresh_of a e p r)) refl h where
    go : (q : Bool) → is_state (fresh_of a e p r) ≡ q → (pick q (fresh_of a e p r) (bld a e p r (refused_st (rooms_of a e) bad_table 0))).st.refusal ≡ 0 → is_state (pick q (fresh_of a e p r) (bld a e p r (refused_st (rooms_of a e) bad_table 0))) ≡ true
    go true is z = is
    go false is z = absurd (omega (arith, z))
