-- The round trip: what is read back of a graph that was written is the graph renumbered in the order of its walk, in both tables
-- whole. Assumes nothing.
use Prim.Native.Nat.{ℕ, ◌*◌, ◌/◌, ◌≤◌, ◌<◌}
use mathlib.Core.Path.{◌≡◌, refl, sym, ap, ap₂, ◌∙◌, subst}
use mathlib.Core.List.{List, []}
use mathlib.Core.Bool.{false}
use native.Mathlib.Omega.{arith}
use lib.ListN.{length, take}
use lib.Dec.{ltb}
use lib.Seq.{take-append_seam}
use borrow.Author.Tests.{le-ltb, ltb-false, eq-eqb}
use Rattle.table.specs.Records.{atom_words, bond_words}
use Rattle.table.specs.Limits.{text_limit, atom_limit, bond_limit, branch_limit, lesser_of}
use Rattle.read_line.specs.Parse.{parse}
use Rattle.builder_meaning.specs.Sketch.{count_of, sketch_of, left_s}
use Rattle.read.specs.Read.{Said, built_answer}
use Rattle.read.specs.Line as read
use Rattle.walk.specs.Walk.{turns_of}
use Rattle.std.specs.Prelude.{Ok}
use Rattle.table.specs.Zeros.{zeros}
use Rattle.write.specs.Write.{pair_words, graph_of, walk_of, said_in, walk_events, line_said, write_leaves, write_of}
use Rattle.walk_laws.specs.Trek.{Room, AllAccepted}
use Rattle.walk_laws.proofs.Accepted.{accepted}
use Rattle.trip_text.specs.Steps.{Sayable, Spellable, retold, depth}
use Rattle.trip_text.proofs.Passes.{passes}
use Rattle.trip_text.proofs.Retold.{retold_shallow, retold_nests}
use Rattle.trip_graph.specs.Steps as graph-steps
use Rattle.trip_graph.specs.Renumbered.{Numbers, by_walk, renumbered}
use Rattle.walk_entry.specs.Graph.{Graph, kind_at}
use Rattle.trip_graph.proofs.Written.{was_done, done_simple, table_numbers, table_numbered, table_count}
use Rattle.survive.specs.Survive.{survives}
use Rattle.trip_graph.proofs.Marks.{marks_serve}
use Rattle.trip_graph.proofs.Trip.{renumbered_length}
use Rattle.trip_graph.proofs.ComesBack.{text_comes_back, tables_hold}
use Rattle.round_trip.specs.RoundTrip.{Plain, Readable, read_as, Same}
use Rattle.round_trip.specs.Steps.{back_by_turns, TripByTurns, OneLineByTurns}
use Rattle.round_trip.proofs.Ordered.{told_walk, some_said}
use Rattle.round_trip.proofs.Spelling.{kept_spelled, kept_turns}
use Rattle.read_line.specs.Steps.{unplaced}
use Rattle.read_line.specs.Events.{has_nest}

-- ---- what a line says of the walk
module _ (room : ℕ) (atoms : List ℕ) (n : ℕ) (bonds : List ℕ) (m len : ℕ) (out : List ℕ) (P : Plain (graph_of n atoms bonds))
    (done : write_of room atoms n bonds m ≡ write_leaves (Ok len) out) where
  few : n ≤ atom_limit
  few = (was_done room atoms n bonds m len out done).few

  walk_room : Room (graph_of n atoms bonds) atom_limit atom_limit atom_limit
  walk_room = record { met = few; back = few; taken = few }

  pub walk_told : Sayable 0 (walk_events atoms n bonds m)
  unfolding said_in
  walk_told = told_walk (graph_of n atoms bonds) atom_limit atom_limit atom_limit atom_limit (zeros pair_words) walk_room (turns_of n m)

  pub walk_spelled : Spellable (walk_events atoms n bonds m)
  walk_spelled =
      let d = was_done room atoms n bonds m len out done in
      kept_spelled (walk_events atoms n bonds m)
      (unfold said_in in
      kept_turns survives marks_serve.kept (graph_of n atoms bonds) (λ a h. passes (kind_at (graph_of n atoms bonds) a) (P.survive a h)) (turns_of n m) _)
      (table_numbered atoms bonds n m d.few d.good (done_simple room atoms n bonds m len out P.some done) P.marks d.fine)

  pub walk_accepted : AllAccepted atom_limit (walk_events atoms n bonds m) []
  unfolding said_in
  walk_accepted =
      accepted (graph_of n atoms bonds) atom_limit atom_limit atom_limit atom_limit (zeros pair_words) walk_room atom_limit few (turns_of n m)

  pub walk_says : 0 < length (walk_events atoms n bonds m)
  unfolding said_in turns_of
  walk_says =
      some_said (graph_of n atoms bonds) atom_limit atom_limit atom_limit atom_limit (zeros pair_words) P.some few (turns_of n m) (omega (arith, P.some))

  -- a branch too many is met exactly where more are open at once than the reader has room for
  pub line_nests : has_nest (parse (line_said (walk_events atoms n bonds m))) ≡ ltb branch_limit (depth (walk_events atoms n bonds m))
  line_nests = retold_nests atom_limit (walk_events atoms n bonds m) walk_says walk_told walk_spelled walk_accepted

  -- the line is read as what the walk said
  pub line_says : has_nest (parse (line_said (walk_events atoms n bonds m))) ≡ false
      → unplaced (parse (line_said (walk_events atoms n bonds m))) ≡ retold (walk_events atoms n bonds m)
  line_says h =
      retold_shallow atom_limit (walk_events atoms n bonds m) walk_says walk_told walk_spelled walk_accepted (ltb-false branch_limit (depth (walk_events atoms n bonds m)) (sym line_nests ∙ h))

-- ---- what is read of it
-- a text whose builder is done is read, and leaves what the builder made
read_back : (g : Graph) (p : Numbers) (s : List ℕ) (n m la lb : ℕ) → length s ≤ text_limit → graph-steps.ComesBack g p (sketch_of s la lb) n m
    → read.read_text s la lb ≡ read_as n m la lb (renumbered g p)
unfolding read.read_text read.whole_or_refused read.whole_of built_answer left_s
read_back g p s n m la lb short c =
    rw (le-ltb text_limit (length s) short, eq-eqb (sketch_of s la lb).refusal 0 c.built.refusal, c.built.says, c.atoms, c.entries, c.built.nodes) refl

-- the line in an output
pub line_is : (room : ℕ) (atoms : List ℕ) (n : ℕ) (bonds : List ℕ) (m len : ℕ) (out : List ℕ) → write_of room atoms n bonds m ≡ write_leaves (Ok len) out
    → take len out ≡ line_said (walk_events atoms n bonds m)
line_is room atoms n bonds m len out e =
    let d = was_done room atoms n bonds m len out e in
    ap₂ (λ (i : ℕ) (o : List ℕ). take i o) d.length_is d.line ∙ take-append_seam (line_said (walk_events atoms n bonds m)) _

-- what the builder makes of it, where no branch is too many: the graph renumbered
line_comes_back : (room : ℕ) (atoms : List ℕ) (n : ℕ) (bonds : List ℕ) (m len : ℕ) (out : List ℕ) → Plain (graph_of n atoms bonds)
    → write_of room atoms n bonds m ≡ write_leaves (Ok len) out → has_nest (parse (take len out)) ≡ false
    → (la lb : ℕ) → n ≤ lesser_of atom_limit (la / atom_words) → m ≤ lesser_of bond_limit (lb / bond_words)
    → graph-steps.ComesBack (graph_of n atoms bonds) (by_walk (walk_of atoms n bonds m)) (sketch_of (take len out) la lb) n m
line_comes_back room atoms n bonds m len out P e flat la lb ra rb =
    let l : take len out ≡ line_said (walk_events atoms n bonds m) = line_is room atoms n bonds m len out e in
    let f : has_nest (parse (line_said (walk_events atoms n bonds m))) ≡ false = ap (λ (x : List ℕ). has_nest (parse x)) (sym l) ∙ flat in
    let h : unplaced (parse (take len out)) ≡ retold (walk_events atoms n bonds m) =
    ap (λ (x : List ℕ). unplaced (parse x)) l ∙ line_says room atoms n bonds m len out P e f in
    text_comes_back room atoms n bonds m len out (done_simple room atoms n bonds m len out P.some e) P.marks e (take len out) h la lb ra rb

-- ---- the laws
-- The round trip: what the reading says and both tables that it leaves, whole.
pub turns_trip : (room : ℕ) (atoms : List ℕ) (n : ℕ) (bonds : List ℕ) (m len : ℕ) (out : List ℕ) (la lb : ℕ) → TripByTurns room atoms n bonds m len out la lb
turns_trip room atoms n bonds m len out la lb P e r =
    read_back (graph_of n atoms bonds) (by_walk (walk_of atoms n bonds m)) (take len out) n m la lb r.short
    (line_comes_back room atoms n bonds m len out P e r.shallow la lb r.atoms r.bonds)

-- The same with no word on what the reader says: no line that is too long, at most as many branches open at once as the reader
-- has room for, and room lent for the atoms and entries.
pub turns_trip_shallow : (room : ℕ) (atoms : List ℕ) (n : ℕ) (bonds : List ℕ) (m len : ℕ) (out : List ℕ) (la lb : ℕ)
    → Plain (graph_of n atoms bonds) → write_of room atoms n bonds m ≡ write_leaves (Ok len) out
    → len ≤ text_limit → depth (walk_events atoms n bonds m) ≤ branch_limit → n ≤ lesser_of atom_limit (la / atom_words) → m ≤ lesser_of bond_limit (lb / bond_words)
    → read.read_text (take len out) la lb ≡ read_as n m la lb (back_by_turns atoms n bonds m)
turns_trip_shallow room atoms n bonds m len out la lb P e short deep ra rb =
    let d = was_done room atoms n bonds m len out e in
    let l : take len out ≡ line_said (walk_events atoms n bonds m) = line_is room atoms n bonds m len out e in
    turns_trip room atoms n bonds m len out la lb P e
    (record {
      short = omega (arith, ap length l, d.length_is);
      shallow = ap (λ (x : List ℕ). has_nest (parse x)) l ∙ line_nests room atoms n bonds m len out P e ∙ le-ltb branch_limit (depth (walk_events atoms n bonds m)) deep;
      atoms = ra;
      bonds = rb;
    })

-- And with room lent for the largest job, whatever was written: only the line's length and its branches are asked for.
pub turns_trip_wide : (room : ℕ) (atoms : List ℕ) (n : ℕ) (bonds : List ℕ) (m len : ℕ) (out : List ℕ)
    → Plain (graph_of n atoms bonds) → write_of room atoms n bonds m ≡ write_leaves (Ok len) out
    → length (take len out) ≤ text_limit → has_nest (parse (take len out)) ≡ false
    → read.read_text (take len out) (atom_limit * atom_words) (bond_limit * bond_words) ≡ read_as n m (atom_limit * atom_words) (bond_limit * bond_words) (back_by_turns atoms n bonds m)
unfolding lesser_of
turns_trip_wide room atoms n bonds m len out P e short shallow =
    let d = was_done room atoms n bonds m len out e in
    turns_trip room atoms n bonds m len out (atom_limit * atom_words) (bond_limit * bond_words) P e
    (record { short = short; shallow = shallow; atoms = d.few; bonds = d.most })

-- Looked at as a walk looks at tables, what is read is the graph renumbered.
pub turns_same : (room : ℕ) (atoms : List ℕ) (n : ℕ) (bonds : List ℕ) (m len : ℕ) (out : List ℕ) (la lb : ℕ)
    → Plain (graph_of n atoms bonds) → write_of room atoms n bonds m ≡ write_leaves (Ok len) out → Readable (take len out) n m la lb
    → Same (graph_of n atoms bonds) (graph_of n (read.read_text (take len out) la lb).atoms (read.read_text (take len out) la lb).bonds) (by_walk (walk_of atoms n bonds m))
turns_same room atoms n bonds m len out la lb P e r =
    let d = was_done room atoms n bonds m len out e in
    subst (λ (x : Said). Same (graph_of n atoms bonds) (graph_of n x.atoms x.bonds) (by_walk (walk_of atoms n bonds m)))
    (sym (turns_trip room atoms n bonds m len out la lb P e r))
    (record {
      numbers = table_numbers atoms bonds n m d.few d.good (done_simple room atoms n bonds m len out P.some e) P.marks d.fine;
      renumbers = tables_hold room atoms n bonds m len out (done_simple room atoms n bonds m len out P.some e) P.marks e la lb;
    })

-- ---- two graphs with one line
-- Two such graphs with the same line have the same renumbering.
pub turns_one_line : (r1 : ℕ) (a1 : List ℕ) (n1 : ℕ) (b1 : List ℕ) (m1 l1 : ℕ) (o1 : List ℕ) (r2 : ℕ) (a2 : List ℕ) (n2 : ℕ) (b2 : List ℕ) (m2 l2 : ℕ) (o2 : List ℕ)
    → OneLineByTurns r1 a1 n1 b1 m1 l1 o1 r2 a2 n2 b2 m2 l2 o2
unfolding lesser_of
turns_one_line r1 a1 n1 b1 m1 l1 o1 r2 a2 n2 b2 m2 l2 o2 P1 P2 e1 e2 q flat =
    let d1 = was_done r1 a1 n1 b1 m1 l1 o1 e1 in
    let d2 = was_done r2 a2 n2 b2 m2 l2 o2 e2 in
    let x = line_comes_back r1 a1 n1 b1 m1 l1 o1 P1 e1 flat (atom_limit * atom_words) (bond_limit * bond_words) d1.few d1.most in
    let y = line_comes_back r2 a2 n2 b2 m2 l2 o2 P2 e2 (ap (λ (s : List ℕ). has_nest (parse s)) (sym q) ∙ flat) (atom_limit * atom_words) (bond_limit * bond_words) d2.few d2.most in
    sym x.built.nodes ∙ ap (λ (s : List ℕ). (sketch_of s (atom_limit * atom_words) (bond_limit * bond_words)).nodes) q ∙ y.built.nodes

-- So they have as many atoms and as many entries.
pub turns_one_count : (r1 : ℕ) (a1 : List ℕ) (n1 : ℕ) (b1 : List ℕ) (m1 l1 : ℕ) (o1 : List ℕ) (r2 : ℕ) (a2 : List ℕ) (n2 : ℕ) (b2 : List ℕ) (m2 l2 : ℕ) (o2 : List ℕ)
    → Plain (graph_of n1 a1 b1) → Plain (graph_of n2 a2 b2) → write_of r1 a1 n1 b1 m1 ≡ write_leaves (Ok l1) o1 → write_of r2 a2 n2 b2 m2 ≡ write_leaves (Ok l2) o2
    → take l1 o1 ≡ take l2 o2 → has_nest (parse (take l1 o1)) ≡ false
    → (n1 ≡ n2) × (m1 ≡ m2)
turns_one_count r1 a1 n1 b1 m1 l1 o1 r2 a2 n2 b2 m2 l2 o2 P1 P2 e1 e2 q flat =
    let d1 = was_done r1 a1 n1 b1 m1 l1 o1 e1 in
    let d2 = was_done r2 a2 n2 b2 m2 l2 o2 e2 in
    let z : back_by_turns a1 n1 b1 m1 ≡ back_by_turns a2 n2 b2 m2 = turns_one_line r1 a1 n1 b1 m1 l1 o1 r2 a2 n2 b2 m2 l2 o2 P1 P2 e1 e2 q flat in
    (sym (renumbered_length (graph_of n1 a1 b1) _) ∙ ap length z ∙ renumbered_length (graph_of n2 a2 b2) _, sym (table_count a1 b1 n1 m1 d1.few d1.good (done_simple r1 a1 n1 b1 m1 l1 o1 P1.some e1) P1.marks d1.fine) ∙ ap count_of z ∙ table_count a2 b2 n2 m2 d2.few d2.good (done_simple r2 a2 n2 b2 m2 l2 o2 P2.some e2) P2.marks d2.fine)
