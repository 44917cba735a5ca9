-- The ways through the steps of the judge of pairs, each from what the calls on the way ensure. Assumes nothing.
use Prim.Native.Nat.{ℕ, suc, ◌+◌, ◌*◌, ◌<◌, ◌≤◌}
use mathlib.Core.Path.{◌≡◌, sym, subst}
use mathlib.Core.Logic.{◌≢◌}
use mathlib.Core.List.{List}
use mathlib.Core.Bool.{Bool, true, false, false≢true}
use native.Mathlib.Omega.{arith}
use lib.ListN.{length, get_or, replicate, length-replicate}
use Rattle.feature.specs.Bonds.{code_of}
use Rattle.feature.specs.Every.{every}
use Rattle.feature.proofs.Cases.{by_eq}
use Rattle.table.specs.Limits.{atom_limit, bond_limit}
use Rattle.table.proofs.Zeros.{zero_at}
use Rattle.builder.specs.State.{unclosed}
use Rattle.desk_state.specs.Standing.{source_at, entry_kind_at, target_at, is_paired}
use Rattle.desk_state.specs.Steps.{word_at, Linked, Loose, bond_kind_count, cell_of, Sound, out_cell, put_of, can_take, take_of, CountedAfter, Taken, NoneCounted, BondsMatch, Judged, Between, Blank}
use Rattle.desk_state.proofs.Ends.{kind_code}
use Rattle.desk_state.proofs.Links.{word_source}
use Rattle.desk_state.proofs.Levels.{Stands, Level, entry_at_lem, stands_next, put_fits, laid_next, taken_next, cannot_take, level_next, level_fails, good_from, all_good}

-- ---- judgements
pub says_no : {e : List ℕ} {n : ℕ} {X : Type 0} → every (is_paired e n) n ≡ false → Judged false e n X
says_no h = record { bad = λ z. h; good = λ z. absurd (false≢true z) }

pub says_yes : (e : List ℕ) (n : ℕ) {X : Type 0} → X → Judged true e n X
says_yes e n x = record { bad = λ z. absurd (false≢true (sym z)); good = λ z. x }

-- ---- one turn along a chain, at entry i, which is at place p
module _ (e : List ℕ) (n a i : ℕ) {p : ℕ} (is : p ≡ i + 1) where
  here : p ≡ suc i
  here = omega (arith, is)

  at_one : (column : ℕ) → Stands e column a n p → Stands e column a n (suc i)
  at_one column s = subst (λ (x : ℕ). Stands e column a n x) here s

  -- where the walk goes on
  pub goes_on : {q : ℕ} (column : ℕ) {head next : List ℕ} → Linked e column n head next → Stands e column a n p → q ≡ get_or next i 0 → Stands e column a n q
  goes_on column {head} {next} link s goes = (stands_next e column a n i head next link (at_one column s) goes).1

  pub put_room : (d : List ℕ) → Sound e n (length d) → Stands e 0 a n p → CountedAfter e n a p d → get_or d (out_cell e i) 0 < bond_limit
  put_room d sound s h =
      put_fits e n a d sound i (entry_at_lem e 0 a n i (at_one 0 s)) (subst (λ (x : ℕ). CountedAfter e n a x d) here h)

  pub put_turn : {q : ℕ} {head next d d' : List ℕ} → Sound e n (length d) → Linked e 0 n head next → Stands e 0 a n p → CountedAfter e n a p d → d' ≡ put_of e i d → q ≡ get_or next i 0 → CountedAfter e n a q d'
  put_turn {q} {head} {next} {d} sound link s h x goes =
      let z = stands_next e 0 a n i head next link (at_one 0 s) goes in
      subst (λ (y : List ℕ). CountedAfter e n a q y) (sym x)
      (laid_next e n a d sound i (entry_at_lem e 0 a n i (at_one 0 s)) (subst (λ (y : ℕ). CountedAfter e n a y d) here h) q z.0)

  pub take_turn : {q : ℕ} {head next d d' : List ℕ} → Sound e n (length d) → a < atom_limit → Linked e 2 n head next → Stands e 2 a n p → Taken e n a p d → can_take e i d ≡ true → d' ≡ take_of e i d → q ≡ get_or next i 0 → Taken e n a q d'
  take_turn {q} {head} {next} {d} sound low link s h can x goes =
      let z = stands_next e 2 a n i head next link (at_one 2 s) goes in
      subst (λ (y : List ℕ). Taken e n a q y) (sym x)
      (taken_next e n a d sound low i (entry_at_lem e 2 a n i (at_one 2 s)) (subst (λ (y : ℕ). Taken e n a y d) here h) z.0 can)

  pub level_turn : {q : ℕ} {head next : List ℕ} (d : List ℕ) → Sound e n (length d) → Linked e 0 n head next → Stands e 0 a n p → Level e n a p d → get_or d (out_cell e i) 0 ≡ 0 → q ≡ get_or next i 0 → Level e n a q d
  level_turn {head = head} {next} d sound link s h none goes =
      let z = stands_next e 0 a n i head next link (at_one 0 s) goes in
      level_next e n a d sound i (entry_at_lem e 0 a n i (at_one 0 s)) (subst (λ (y : ℕ). Level e n a y d) here h) none z.0

  pub take_stops : (d : List ℕ) → Sound e n (length d) → a < atom_limit → Stands e 2 a n p → Taken e n a p d → can_take e i d ≡ false → {X : Type 0} → Judged false e n X
  take_stops d sound low s h can =
      says_no (cannot_take e n a d sound low i (entry_at_lem e 2 a n i (at_one 2 s)) (subst (λ (y : ℕ). Taken e n a y d) here h) can)

  pub level_stops : (d : List ℕ) → Sound e n (length d) → Stands e 0 a n p → Taken e n a 0 d → get_or d (out_cell e i) 0 ≢ 0 → {X : Type 0} → Judged false e n X
  level_stops d sound s h some = says_no (level_fails e n a d sound i (entry_at_lem e 0 a n i (at_one 0 s)) h some)

-- ---- an atom, and all of them
pub between_sound : {e : List ℕ} {n atoms size : ℕ} → Between e n atoms → atoms * bond_kind_count < size → Sound e n size
between_sound {e} h room =
    record {
      few = h.few;
      kind = λ i l. kind_code (entry_kind_at e i) (h.kind i l);
      ends = λ i l c. ((omega (arith, h.source i l, h.most), omega (arith, h.source i l, room)), (omega (arith, h.target i l c, h.most), omega (arith, h.target i l c, room)));
    }

pub level_all : {e : List ℕ} {n a : ℕ} {d : List ℕ} {r : Bool} → Sound e n (length d) → Taken e n a 0 d → Judged r e n (NoneCounted d) → Judged r e n (NoneCounted d × BondsMatch e n a (length d))
level_all {e} {n} {a} {d} sound taken j =
    record { bad = j.bad; good = λ z. (j.good z, good_from e n a d sound taken (j.good z)) }

pub good_next : (e : List ℕ) (n a size : ℕ) → ((x : ℕ) → x < a → BondsMatch e n x size) → BondsMatch e n a size → (x : ℕ) → x < a + 1 → BondsMatch e n x size
good_next e n a size before here x l =
    by_eq x a (λ q. subst (λ (y : ℕ). BondsMatch e n y size) (sym q) here) (λ q. before x (omega (arith, l, q)))

pub all_stand : {e : List ℕ} {n atoms size a : ℕ} → Between e n atoms → atoms * bond_kind_count < size → atoms ≤ a → ((x : ℕ) → x < a → BondsMatch e n x size) → true ≡ every (is_paired e n) n
all_stand {e} {n} {size = size} h room l good =
    sym (all_good e n size (between_sound h room) (λ i b c. good (source_at e i) (omega (arith, l, h.source i b))))

module _ {e : List ℕ} {n atoms : ℕ} (h : Between e n atoms) (x y : ℕ) (room : atoms ≤ x) (long : n ≤ y) where
  loose : (column : ℕ) → ((i : ℕ) → i < n → target_at e i < unclosed → word_at e column i < atoms) → Loose e column n (replicate x 0) (replicate y 0)
  loose column keys =
      record {
        few = h.few;
        blank = zero_at x;
        unlinked = zero_at y;
        room = omega (arith, long, length-replicate {A = ℕ} y 0);
        keys = λ i l c. omega (arith, keys i l c, room, length-replicate {A = ℕ} x 0);
      }

  pub loose_from : Loose e 0 n (replicate x 0) (replicate y 0)
  loose_from = loose 0 (λ i l c. omega (arith, word_source e i, h.source i l))

pub blank : (atoms size : ℕ) → atoms * bond_kind_count < size → Blank atoms (replicate size 0)
blank atoms size fits =
    record { room = omega (arith, length-replicate {A = ℕ} size 0); none = λ t k w. zero_at size (cell_of t (code_of k)) }
