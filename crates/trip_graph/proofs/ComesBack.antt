-- A simple graph with no configuration but TH1 or TH2, handed in as tables and written without refusal: a text that is read as what
-- the walk said, each event at any place, comes back as the graph renumbered in walk order, where there is room for it.
use mathlib.Core.Path.{◌≡◌, sym, ap, ◌∙◌}
use mathlib.Core.List.{List}
use Prim.Native.Nat.{ℕ, ◌/◌, ◌≤◌, ◌<◌}
use native.Mathlib.Omega.{arith}
use lib.ListN.{length}
use Rattle.table.specs.Records.{atom_words, bond_words}
use Rattle.table.specs.Limits.{atom_limit, bond_limit, lesser_of}
use Rattle.read_line.specs.Events.{ReadEvent}
use Rattle.read_line.specs.Parse.{parse}
use Rattle.builder_meaning.specs.Sketch.{next_number, count_of, start_s, run_s, sketch_of, atom_table, bond_table, padded}
use Rattle.walk_entry.specs.Graph.{kind_at}
use Rattle.std.specs.Prelude.{Ok}
use Rattle.write.specs.Write.{graph_of, walk_of, walk_events, write_leaves, write_of}
use Rattle.trip_graph.specs.Renumber.{Simple, Renumbers}
use Rattle.trip_graph.specs.Steps.{ComesBack}
use Rattle.trip_graph.specs.Renumbered.{by_walk, renumbered}
use Rattle.trip_graph.specs.Marks.{Tetrahedral}
use Rattle.trip_graph.proofs.Trip.{renumbered_length}
use Rattle.trip_graph.proofs.Written.{entries, table_numbers, table_count, placed_trip, was_done}
use Rattle.trip_graph.proofs.Tables.{tables_renumber}
use Rattle.read_line.specs.Steps.{unplaced}
use Rattle.trip_text.specs.Steps.{retold}

module _ (room : ℕ) (atoms : List ℕ) (n : ℕ) (bonds : List ℕ) (m len : ℕ) (out : List ℕ)
    (W : Simple (graph_of n atoms bonds)) (T : (a : ℕ) → a < n → Tetrahedral (kind_at (graph_of n atoms bonds) a))
    (e : write_of room atoms n bonds m ≡ write_leaves (Ok len) out) where
  -- events that differ from those of the walk only in their places
  pub events_come_back : (places slots : ℕ) → n ≤ places → m ≤ slots → (es : List ReadEvent) → unplaced es ≡ retold (walk_events atoms n bonds m)
      → ComesBack (graph_of n atoms bonds) (by_walk (walk_of atoms n bonds m)) (run_s (start_s places slots) es) n m
  unfolding next_number
  events_come_back places slots hp hs es h =
      let d = was_done room atoms n bonds m len out e in
      let b = placed_trip atoms bonds n m d.few d.good W T d.fine places slots hp hs es h in
      let c = table_count atoms bonds n m d.few d.good W T d.fine in
      record {
        built = b;
        atoms = omega (arith, ap length b.nodes, renumbered_length (graph_of n atoms bonds) (by_walk (walk_of atoms n bonds m)), b.unseen);
        entries = ap count_of b.nodes ∙ c;
      }

  -- a text
  pub text_comes_back : (s : List ℕ) → unplaced (parse s) ≡ retold (walk_events atoms n bonds m)
      → (la lb : ℕ) → n ≤ lesser_of atom_limit (la / atom_words) → m ≤ lesser_of bond_limit (lb / bond_words)
      → ComesBack (graph_of n atoms bonds) (by_walk (walk_of atoms n bonds m)) (sketch_of s la lb) n m
  unfolding sketch_of
  text_comes_back s h la lb hp hs =
      events_come_back (lesser_of atom_limit (la / atom_words)) (lesser_of bond_limit (lb / bond_words)) hp hs (parse s) h

  -- and the tables of the renumbered graph, with any zeros after them, hold that graph
  pub tables_hold : (la lb : ℕ)
      → Renumbers (graph_of n atoms bonds)
      (graph_of n (padded la (atom_table (renumbered (graph_of n atoms bonds) (by_walk (walk_of atoms n bonds m))))) (padded lb (bond_table (renumbered (graph_of n atoms bonds) (by_walk (walk_of atoms n bonds m))))))
      (by_walk (walk_of atoms n bonds m))
  tables_hold la lb =
      let d = was_done room atoms n bonds m len out e in
      let N = table_numbers atoms bonds n m d.few d.good W T d.fine in
      let c = table_count atoms bonds n m d.few d.good W T d.fine in
      let q = entries atoms bonds n m d.few d.good W T d.fine in
      tables_renumber (graph_of n atoms bonds) (by_walk (walk_of atoms n bonds m)) N T d.few (c ∙ sym q) (omega (arith, d.most)) la lb
