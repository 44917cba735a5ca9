-- How far an event lets a builder's counts grow, and that the number of a refusal is not 0. Assumes nothing.
use Prim.Native.Nat.{ℕ, ◌+◌, ◌≤◌}
use mathlib.Core.Path.{◌≡◌}
use Rattle.std.specs.Prelude.{is_some}
use native.Mathlib.Omega.{arith}
use lib.Dec.{eqb, ltb, leb}
use lib.ListN.{get_or}
use Rattle.feature.specs.Kinds.{invert_of}
use Rattle.feature.specs.Bonds.{reconcile_of}
use Rattle.feature.specs.declared.atom_kind.AtomKind.{AtomKind}
use Rattle.std.specs.Prelude.{None, Option, Some}
use Rattle.feature.specs.declared.bond_kind.BondKind.{BondKind}
use Rattle.feature.proofs.Cases.{by_either}
use Rattle.read_token.specs.declared.scanner.Missing.{Missing}
use Rattle.read_token.specs.declared.scanner.Missing.TheVariants.{EndOfLine, Character}
use Rattle.builder.specs.declared.builder.Builder.{Builder}
use Rattle.table.specs.Limits.{text_limit}
use Rattle.builder.specs.State.{Bld, refuse, refused_st, entered, bonded, root_of, extend_of, extended_by, opened_of, opening_of, opening_kind, last_of, failed_st, closed_by, join_of, popped_st}
use Rattle.builder.specs.Steps.{SmallCounts}
use Rattle.read_line.specs.declared.lead.Lead.{Lead}
use Rattle.read_line.specs.declared.lead.Lead.TheVariants.{Dot, Bond}
use Rattle.read_line.specs.Events.{counted_st, mark_judged, unstored_of, led_of, enter_of, ring_of, missing_st}
use Rattle.read_line.specs.Steps.{Counted}

abbrev At : ℕ → Bld → Type 0
At n b = Counted b.st n

pub counted_more : {s : Builder} {at at' : ℕ} → Counted s at → at ≤ at' → Counted s at'
counted_more c h = record { atoms = omega arith; entries = omega arith; top = omega arith; joins = omega arith }

pub small : {s : Builder} {at : ℕ} → Counted s at → at ≤ text_limit → SmallCounts s
small c h = record { atoms = omega arith; entries = omega arith; top = omega arith; joins = omega arith }

module _ (b : Bld) (at : ℕ) (c : Counted b.st at) where
  refuse_at : (r n : ℕ) → At (at + 1) (refuse b r n)
  unfolding refuse
  refuse_at r n = record { atoms = omega arith; entries = omega arith; top = omega arith; joins = omega arith }

  entered_at : (k : AtomKind) (e : ℕ) → e ≤ b.st.entries + 2 → At (at + 1) (entered b k e)
  unfolding entered
  entered_at k e h = record { atoms = omega arith; entries = omega arith; top = omega arith; joins = omega arith }

  root_at : (k : AtomKind) (place : ℕ) → At (at + 1) (root_of b k place)
  unfolding root_of
  root_at k place =
      by_either (At (at + 1)) (leb b.st.places b.st.atoms) (refuse_at _ _) (entered_at k _ (omega arith))

  extended_at : (k : BondKind) (t : Option AtomKind) → At (at + 1) (extended_by b k t)
  unfolding extended_by bonded entered
  extended_at k None = refuse_at _ _
  extended_at k (Some t) =
      record { atoms = omega arith; entries = omega arith; top = omega arith; joins = omega arith }

  extend_at : (k : BondKind) (t : AtomKind) (place : ℕ) → At (at + 1) (extend_of b k t place)
  unfolding extend_of
  extend_at k t place =
      by_either (At (at + 1)) (eqb b.st.top 0) (refuse_at _ _)
      (by_either (At (at + 1)) (leb b.st.places b.st.atoms) (refuse_at _ _)
      (by_either (At (at + 1)) (ltb b.st.slots (b.st.entries + 2)) (refuse_at _ _)
      (extended_at k (invert_of t))))

  counted_at : Counted (counted_st b.st) (at + 1)
  counted_at = record { atoms = omega arith; entries = omega arith; top = omega arith; joins = omega arith }

  judged_at : (t : Option AtomKind) → Counted (mark_judged b.st t) (at + 1)
  unfolding mark_judged
  judged_at None = record { atoms = omega arith; entries = omega arith; top = omega arith; joins = omega arith }
  judged_at (Some k) = counted_at

  numb_at : (l : Lead) (k : AtomKind) → Counted (unstored_of b.st l k) (at + 1)
  unfolding unstored_of
  numb_at Dot k = counted_at
  numb_at (Bond e) k = judged_at (invert_of k)

  led_at_lem : (l : Lead) (k : AtomKind) (place : ℕ) → At (at + 1) (led_of b l k place)
  unfolding led_of
  led_at_lem Dot k place = root_at k place
  led_at_lem (Bond e) k place = extend_at e k place

  -- an atom
  pub enter_at : (l : Lead) (k : AtomKind) (place : ℕ) → At (at + 1) (enter_of b l k place)
  unfolding enter_of
  enter_at l k place = by_either (At (at + 1)) (is_some b.st.failed) (numb_at l k) (led_at_lem l k place)

  opened_at_lem : (k : BondKind) (n : ℕ) → At (at + 1) (opened_of b k n)
  unfolding opened_of
  opened_at_lem k n = record { atoms = omega arith; entries = omega arith; top = omega arith; joins = omega arith }

  failed_at : (x y : ℕ) → Counted (failed_st b.st x y) (at + 1)
  unfolding failed_st
  failed_at x y =
      by_either (λ (s : Builder). Counted s (at + 1)) (is_some b.st.failed)
      (record { atoms = omega arith; entries = omega arith; top = omega arith; joins = omega arith })
      (record { atoms = omega arith; entries = omega arith; top = omega arith; joins = omega arith })

  closed_at : (n place : ℕ) (q : Option (BondKind × BondKind)) → At (at + 1) (closed_by b n place q)
  unfolding closed_by
  closed_at n place None = failed_at (last_of b) (opening_of b n)
  closed_at n place (Some (l, r)) =
      by_either (At (at + 1)) (ltb b.st.slots (b.st.entries + 1)) (refuse_at _ _)
      (record { atoms = omega arith; entries = omega arith; top = omega arith; joins = omega arith })

  join_at : (k : BondKind) (n place : ℕ) → At (at + 1) (join_of b k n place)
  unfolding join_of
  join_at k n place =
      by_either (At (at + 1)) (eqb b.st.top 0) (refuse_at _ _)
      (by_either (At (at + 1)) (eqb (get_or b.rings n 0) 0)
      (by_either (At (at + 1)) (ltb b.st.slots (b.st.entries + 1)) (refuse_at _ _) (opened_at_lem k n))
      (closed_at n place (reconcile_of (opening_kind b n) k)))

  -- a ring number
  pub ring_at : (k : BondKind) (n place : ℕ) → At (at + 1) (ring_of b k n place)
  unfolding ring_of
  ring_at k n place =
      by_either (At (at + 1)) (is_some b.st.failed) (counted_more c (omega arith)) (join_at k n place)

-- a pop, and something missing
pub pop_at : (s : Builder) (at n : ℕ) → Counted s at → Counted (popped_st s n) at
pop_at s at n c = record { atoms = c.atoms; entries = c.entries; top = omega arith; joins = c.joins }

pub refused_at : (s : Builder) (at r n : ℕ) → Counted s at → Counted (refused_st s r n) at
refused_at s at r n c = record { atoms = c.atoms; entries = c.entries; top = c.top; joins = c.joins }

pub missing_at_lem : (s : Builder) (at : ℕ) (m : Missing) → Counted s at → Counted (missing_st s m) at
unfolding missing_st
missing_at_lem s at EndOfLine c = refused_at s at _ _ c
missing_at_lem s at (Character p) c = refused_at s at _ _ c

pub missing_not : (s : Builder) (m : Missing) → (missing_st s m).refusal ≡ 0 → ⊥
unfolding missing_st
missing_not s EndOfLine e = omega arith
missing_not s (Character p) e = omega arith
