-- A graph handed in as tables and written without refusal: events that differ from those of its walk only in their places in a
-- text build the graph renumbered in walk order.
use mathlib.Core.Path.{◌≡◌, sym, ap, ◌∙◌, subst}
use mathlib.Core.List.{List, ◌++◌}
use Prim.Native.Nat.{ℕ, ◌-◌, ◌≤◌, ◌<◌}
use native.Mathlib.Omega.{arith}
use lib.ListN.{length}
use lib.Dec.{ltb}
use borrow.Author.Tests.{ltb-false}
use Rattle.table.specs.Limits.{atom_limit, bond_limit}
use Rattle.read_line.specs.Events as reader
use Rattle.builder_meaning.specs.Sketch.{Sketch, count_of, start_s, run_s}
use Rattle.walk_entry.specs.Graph.{kind_at}
use Rattle.table_check.specs.Judge.{bad_record}
use Rattle.std.specs.Prelude.{Err, None, Ok, Result}
use Rattle.write.specs.declared.answer.WriteError.{WriteError}
use Rattle.write.specs.declared.answer.WriteError.TheVariants.{Stopped, AtomRoom, BondRoom, OutRoom, BadTable}
use Rattle.table.specs.Zeros.{zeros}
use Rattle.write.specs.Write.{pair_words, graph_of, walk_in, said_in, walk_of, walk_events, line_said, atom_places, bond_slots, WriteLeft, write_leaves, line_refusing, put_line, line_concluded, graph_written, write_of}
use Rattle.walk_laws.specs.Trek.{Room, degrees}
use Rattle.feature.proofs.Cases.{by_test, impossible}
use Rattle.write.proofs.Said.{few_atoms_lem, few_bonds_lem}
use Rattle.walk_laws.proofs.Judged.{judged_degrees}
use Rattle.trip_graph.specs.Renumber.{Simple, Numbering}
use Rattle.trip_graph.specs.Steps.{Built}
use Rattle.trip_graph.specs.Renumbered.{by_walk, renumbered}
use Rattle.trip_graph.specs.Marks.{Tetrahedral}
use Rattle.trip_graph.specs.Opened.{RingsHaveText}
use Rattle.trip_graph.proofs.Trip.{graph_trip, walk_numbers, walk_numbered, renumbered_count}
use Rattle.trip_graph.proofs.Fair.{written_simple}
use Rattle.trip_graph.proofs.Places.{places_free}
use Rattle.read_line.specs.Steps.{unplaced}
use Rattle.trip_text.specs.Steps.{retold}
use Rattle.write.proofs.Unless.{by_unless}

-- ---- tables in which the judge finds nothing bad
module _ (atoms bonds : List ℕ) (n m : ℕ) (few : n ≤ atom_limit) (good : bad_record atoms n bonds m ≡ None)
    (W : Simple (graph_of n atoms bonds)) (T : (a : ℕ) → a < n → Tetrahedral (kind_at (graph_of n atoms bonds) a))
    (fine : (walk_of atoms n bonds m).at.refusal ≡ None) where
  table_room : Room (graph_of n atoms bonds) atom_limit atom_limit atom_limit
  table_room = record { met = few; back = few; taken = few }

  pub entries : degrees (graph_of n atoms bonds) n ≡ m
  entries = judged_degrees n m atoms bonds _ good

  pub table_trip : (places slots : ℕ) → n ≤ places → m ≤ slots
      → Built (run_s (start_s places slots) (retold (walk_events atoms n bonds m))) (renumbered (graph_of n atoms bonds) (by_walk (walk_of atoms n bonds m)))
  unfolding walk_in said_in
  table_trip places slots hp hs =
      graph_trip (graph_of n atoms bonds) W T atom_limit atom_limit atom_limit atom_limit table_room few m (omega (arith, entries)) fine places slots hp (omega (arith, entries))

  pub table_numbers : Numbering (graph_of n atoms bonds) (by_walk (walk_of atoms n bonds m))
  unfolding walk_in
  table_numbers = walk_numbers (graph_of n atoms bonds) W T atom_limit atom_limit atom_limit atom_limit table_room few m (omega (arith, entries)) fine

  pub table_numbered : RingsHaveText (walk_events atoms n bonds m)
  unfolding walk_in said_in
  table_numbered = walk_numbered (graph_of n atoms bonds) W T atom_limit atom_limit atom_limit atom_limit table_room few m (omega (arith, entries)) fine

  pub table_count : count_of (renumbered (graph_of n atoms bonds) (by_walk (walk_of atoms n bonds m))) ≡ m
  unfolding walk_in
  table_count =
      renumbered_count (graph_of n atoms bonds) W T atom_limit atom_limit atom_limit atom_limit table_room few m (omega (arith, entries)) fine ∙ entries

  -- the same for events of a reader, which say where they were in a text
  pub placed_trip : (places slots : ℕ) → n ≤ places → m ≤ slots → (es : List reader.ReadEvent) → unplaced es ≡ retold (walk_events atoms n bonds m)
      → Built (run_s (start_s places slots) es) (renumbered (graph_of n atoms bonds) (by_walk (walk_of atoms n bonds m)))
  placed_trip places slots hp hs es e =
      let b = table_trip places slots hp hs in
      let same : run_s (start_s places slots) es ≡ run_s (start_s places slots) (unplaced es) =
      places_free (start_s places slots) es (ap (λ (x : List reader.ReadEvent). (run_s (start_s places slots) x).refusal) e ∙ b.refusal) in
      subst (λ (d : Sketch). Built d (renumbered (graph_of n atoms bonds) (by_walk (walk_of atoms n bonds m)))) (sym (same ∙ ap (run_s (start_s places slots)) e)) b

-- ---- what a write that is done says

-- the tables were admitted, the walk was not refused, and the line of what it said is in the output, zeros after it
pub record WasDone (room : ℕ) (atoms : List ℕ) (n : ℕ) (bonds : List ℕ) (m len : ℕ) (out : List ℕ) : Type 0 where
  pub few : n ≤ atom_limit
  pub most : m ≤ bond_limit
  pub good : bad_record atoms n bonds m ≡ None
  pub fine : (walk_of atoms n bonds m).at.refusal ≡ None
  pub length_is : len ≡ length (line_said (walk_events atoms n bonds m))
  pub fits : length (line_said (walk_events atoms n bonds m)) ≤ room
  pub line : out ≡ line_said (walk_events atoms n bonds m) ++ zeros (room - length (line_said (walk_events atoms n bonds m)))

abbrev done : ℕ → Result ℕ WriteError
done n = Ok n

pub was_done : (room : ℕ) (atoms : List ℕ) (n : ℕ) (bonds : List ℕ) (m len : ℕ) (out : List ℕ) → write_of room atoms n bonds m ≡ write_leaves (Ok len) out
    → WasDone room atoms n bonds m len out
unfolding write_of graph_written line_concluded put_line
was_done room atoms n bonds m len out =
    let D : Type 0 = WasDone room atoms n bonds m len out in
    let L : List ℕ = line_said (walk_events atoms n bonds m) in
    by_test (λ (x : WriteLeft). x ≡ write_leaves (Ok len) out → D) (ltb (atom_places atoms) n) (λ q e. absurd (refusal_no (AtomRoom n) e))
    (λ q1. by_test (λ (x : WriteLeft). x ≡ write_leaves (Ok len) out → D) (ltb (bond_slots bonds) m) (λ q e. absurd (refusal_no (BondRoom m) e))
    (λ q2. by_unless (λ (x : WriteLeft). x ≡ write_leaves (Ok len) out → D) (bad_record atoms n bonds m) (λ bad q e. absurd (refusal_no (BadTable bad) e))
    (λ q3. by_unless (λ (x : WriteLeft). x ≡ write_leaves (Ok len) out → D) (walk_of atoms n bonds m).at.refusal (λ why q e. absurd (refusal_no (Stopped why) e))
    (λ q4. by_test (λ (x : WriteLeft). x ≡ write_leaves (Ok len) out → D) (ltb room (length L)) (λ q e. absurd (refusal_no (OutRoom (length L)) e))
    (λ q5 e. record {
      few = few_atoms_lem atoms n q1;
      most = few_bonds_lem bonds m q2;
      good = q3;
      fine = q4;
      length_is = done_length (ap (λ (x : WriteLeft). x.answer) e);
      fits = ltb-false room (length L) q5;
      line = sym (ap (λ (x : WriteLeft). x.out) e);
    })))))
  where
    refusal_no : (why : WriteError) → line_refusing room why ≡ write_leaves (Ok len) out → ⊥
    refusal_no why e = let y : Err why ≡ Ok len = ap (λ (x : WriteLeft). x.answer) e in impossible cc

    done_length : {a b : ℕ} → done a ≡ done b → b ≡ a
    done_length e = cc

-- ---- the law for tables
-- A simple graph with no configuration but TH1 or TH2, written without refusal: a reader that says of the line what the walk said,
-- each event at any place, has its builder build the graph renumbered in walk order.
pub written_trip : (room : ℕ) (atoms : List ℕ) (n : ℕ) (bonds : List ℕ) (m len : ℕ) (out : List ℕ)
    → Simple (graph_of n atoms bonds) → ((a : ℕ) → a < n → Tetrahedral (kind_at (graph_of n atoms bonds) a))
    → write_of room atoms n bonds m ≡ write_leaves (Ok len) out
    → (places slots : ℕ) → n ≤ places → m ≤ slots → (es : List reader.ReadEvent) → unplaced es ≡ retold (walk_events atoms n bonds m)
    → Built (run_s (start_s places slots) es) (renumbered (graph_of n atoms bonds) (by_walk (walk_of atoms n bonds m))) × Numbering (graph_of n atoms bonds) (by_walk (walk_of atoms n bonds m))
written_trip room atoms n bonds m len out W T e places slots hp hs es h =
    let d = was_done room atoms n bonds m len out e in
    (placed_trip atoms bonds n m d.few d.good W T d.fine places slots hp hs es h, table_numbers atoms bonds n m d.few d.good W T d.fine)

-- ---- what was written is simple
-- A graph with at least one atom that was written is simple and held at both ends as reverses.
pub done_simple : (room : ℕ) (atoms : List ℕ) (n : ℕ) (bonds : List ℕ) (m len : ℕ) (out : List ℕ) → 1 ≤ n
    → write_of room atoms n bonds m ≡ write_leaves (Ok len) out → Simple (graph_of n atoms bonds)
unfolding walk_in
done_simple room atoms n bonds m len out some e =
    let d = was_done room atoms n bonds m len out e in
    written_simple (graph_of n atoms bonds) atom_limit atom_limit atom_limit atom_limit (zeros pair_words) (record { met = d.few; back = d.few; taken = d.few }) d.few m
    (omega (arith, judged_degrees n m atoms bonds (graph_of n atoms bonds).first d.good)) some d.fine
