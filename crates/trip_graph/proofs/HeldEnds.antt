-- A graph whose bonds are held at both ends is refused for no end of a bond: with none of 5, 7 and 9.
use mathlib.Core.Path.{◌≡◌, refl, subst}
use mathlib.Core.List.{List}
use mathlib.Core.Bool.{true, false}
use Prim.Native.Nat.{ℕ, ◌≤◌, ◌<◌}
use native.Mathlib.Omega.{arith}
use lib.ListN.{length, get_or}
use lib.Dec.{leb, ltb, eqb}
use borrow.Author.Tests.{leb-true}
use Rattle.table.specs.Limits.{atom_limit, bond_limit}
use Rattle.table.specs.Zeros.{zeros}
use Rattle.table_check.specs.Judge.{bad_record}
use Rattle.std.specs.Prelude.{Err, None, Ok, Option, Result, Some, is_some}
use Rattle.walk_entry.specs.declared.WalkError.{WalkError}
use Rattle.write.specs.declared.answer.WriteError.TheVariants.{Stopped}
use Rattle.write.proofs.Unless.{by_unless}
use Rattle.join_pool.specs.declared.Pool.{Pool}
use Rattle.walk_entry.specs.Graph.{BondEntry, Graph, degree_at, bond_of}
use Rattle.walk_entry.specs.Ways.{way_of}
use Rattle.walk_entry.specs.Ties.{tie_of}
use Rattle.walk.specs.Walk.{Walk, Turn, took_at, numbered_of, ring_turn, tied_of, tie_turn, entered_of, enter_turn, bond_turn, turns_of, walk_to}
use Rattle.walk_laws.specs.Trek.{Room, fresh}
use Rattle.walk_laws.proofs.Sound.{Sound, sound_start, up_within}
use Rattle.feature.proofs.Cases.{by_test, by_either}
use Rattle.write.specs.Write.{pair_words, graph_of, walk_in, walk_of, walk_events, line_said, atom_places, bond_slots, WriteLeft, put_line, line_concluded, graph_written, write_of}
use Rattle.write.specs.Plain.{write_plain}
use Rattle.write.proofs.Said.{few_atoms_lem, few_bonds_lem}
use Rattle.write.proofs.Plain.{write_plain_lem}
use Rattle.trip_graph.specs.Walked.{Held, blames_end}
use Rattle.trip_graph.proofs.Ways.{NoEnd, Allows, way_allows, tie_allows}
use Rattle.trip_graph.proofs.Refused.{next_bond, turns_hold}
use Rattle.walk.proofs.Place.{atom_at}

-- ---- one bond
module _ (g : Graph) (H : Held g) (w : Walk) (dep : ℕ) (snd : Sound g w dep) (fine : w.at.refusal ≡ None)
    (r : is_some w.at.here ≡ true) (more : get_or w.taken (atom_at w) 0 < degree_at g (atom_at w)) where
  abbrev R : Turn → Type 0
  R x = NoEnd x.after.at.refusal

  abbrev s0 : ℕ
  s0 = atom_at w

  abbrev i0 : ℕ
  i0 = get_or w.taken s0 0

  abbrev e0 : BondEntry
  e0 = bond_of g s0 i0

  hs : s0 < g.size
  hs = up_within (snd.stands r)

  none : NoEnd w.at.refusal
  none = rw fine tt

  given_ends : (x : Option (Pool × ℕ)) (pairs : List ℕ) → R (numbered_of (took_at w s0 i0) e0.kind s0 e0.to x pairs)
  unfolding numbered_of blames_end
  given_ends None pairs = refl
  given_ends (Some (p, n)) pairs = none

  entered_ends : (x : Result ℕ WalkError) → Allows x → R (entered_of g (took_at w s0 i0) e0.kind e0.to x)
  unfolding entered_of Allows
  entered_ends (Err why) h = h
  entered_ends (Ok b) h = none

  tied_ends : (x : Result ℕ WalkError) → Allows x → R (tied_of (took_at w s0 i0) e0.kind s0 e0.to x)
  unfolding tied_of Allows ring_turn
  tied_ends (Err why) h = h
  tied_ends (Ok b) h = given_ends _ _

  bond_ends : R (next_bond g w)
  unfolding bond_turn enter_turn tie_turn blames_end
  bond_ends =
      let B = H.backed s0 i0 hs more in
      by_test R (leb g.size e0.to) (λ z. absurd (omega (arith, leb-true g.size e0.to z, H.known s0 i0 hs more)))
      (λ z. by_test R (eqb e0.to s0) (λ y. refl)
      (λ y. by_test R (eqb (get_or w.met e0.to 0) 0)
      (λ x. entered_ends (way_of g e0.kind s0 e0.to) (way_allows g s0 i0 e0.to B))
      (λ x. tied_ends (tie_of g e0.kind s0 e0.to) (tie_allows g s0 i0 e0.to B))))

-- ---- a walk
held_refusals : (g : Graph) → Held g → (lm lw lb lt : ℕ) (pairs : List ℕ) → Room g lm lb lt → (t : ℕ) → NoEnd (walk_to g t (fresh lm lw lb lt pairs)).at.refusal
held_refusals g H lm lw lb lt pairs room t =
    turns_hold g NoEnd (bond_ends g H) t (fresh lm lw lb lt pairs) 0 (sound_start g lm lw lb lt pairs room)
    tt

-- ---- the write call
refusal_ends : (r : Option WalkError) (why : WalkError) → r ≡ Some why → NoEnd r → blames_end (Err (Stopped why)) ≡ false
refusal_ends r why e h = rw e at h

-- of tables that hold such a graph, if they are admitted
module _ (atoms : List ℕ) (n : ℕ) (bonds : List ℕ) (m : ℕ) (H : n ≤ atom_limit → m ≤ bond_limit → Held (graph_of n atoms bonds)) where
  turns_held : (room : ℕ) → blames_end (write_of room atoms n bonds m).answer ≡ false
  unfolding write_of graph_written line_concluded put_line blames_end walk_in
  turns_held room =
      by_test S (ltb (atom_places atoms) n) (λ q. refl)
      (λ q1. by_test S (ltb (bond_slots bonds) m) (λ q. refl)
      (λ q2. by_unless S (bad_record atoms n bonds m) (λ bad q. refl)
      (λ q3. by_unless S (walk_of atoms n bonds m).at.refusal
      (λ why q4. let few : n ≤ atom_limit = few_atoms_lem atoms n q1 in
      refusal_ends (walk_of atoms n bonds m).at.refusal why q4
      (held_refusals (graph_of n atoms bonds) (H few (few_bonds_lem bonds m q2)) atom_limit atom_limit atom_limit atom_limit (zeros pair_words) (record { met = few; back = few; taken = few }) (turns_of n m)))
      (λ q4. by_either S (ltb room (length (line_said (walk_events atoms n bonds m)))) refl refl))))
    where
      S : WriteLeft → Type 0
      S x = blames_end x.answer ≡ false

  -- A graph that is held at both ends is never refused with 5, 7 or 9, whatever it is written into.
  pub held_says : (room : ℕ) → blames_end (write_plain room atoms n bonds m).answer ≡ false
  held_says room =
      subst (λ (x : WriteLeft). blames_end x.answer ≡ false) (write_plain_lem atoms n bonds m room) (turns_held room)
