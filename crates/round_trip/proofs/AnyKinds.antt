-- A written line is never reread as 3 or 4, whatever the kinds and marks of its atoms: ring numbers and bonds are written and read as in
-- the same graph with a star for each atom, which comes back. Assumes nothing.
use Prim.Native.Nat.{ℕ, zero, suc, ◌+◌, ◌/◌, ◌≤◌, ◌<◌, max}
use mathlib.Core.Path.{◌≡◌, refl, sym, ap, ap₂, ◌∙◌, subst}
use mathlib.Core.List.{List, [], ◌∷◌, ◌++◌, map}
use mathlib.Core.Bool.{true, false}
use native.Mathlib.Omega.{arith}
use lib.ListN.{length, take}
use lib.Dec.{ltb, eqb}
use borrow.Author.Tests.{eqb-true, ltb-false, le-leb}
use Rattle.feature.specs.Kinds.{in_range}
use Rattle.feature.specs.declared.atom_kind.AtomKind.TheVariants.{Star}
use Rattle.feature.proofs.Cases.{by_test, by_either}
use Rattle.table.specs.Records.{atom_words, bond_words}
use Rattle.table.specs.Limits.{text_limit, atom_limit, bond_limit, branch_limit, lesser_of}
use Rattle.table.specs.Zeros.{zeros}
use Rattle.desk_numbers.specs.Numbers.{end_of_line, character, inversion, atom_room, bond_room, nesting}
use Rattle.survive.specs.Survive.{survives}
use Rattle.read_token.specs.Scan.{peek_at, aromatic_of, aliphatic_of, organic_at, bracket_at, star_at, or_else, other_at, atom_at}
use Rattle.read_line.specs.Parse.{miss_p, found_p, atom_p, line_p, parse}
use Rattle.read_line.specs.Events.{ReadEvent, Enter, Join, Pop, Miss, Nest, has_nest}
use Rattle.read_line.specs.Steps.{unplaced, placeless}
use Rattle.std.specs.Prelude.{Ok, None, is_none}
use Rattle.builder_meaning.specs.Sketch.{Sketch, start_s, run_s, sketch_of, finish_s}
use Rattle.read.specs.Read.{Answer}
use Rattle.read.specs.Read.{Said, read_refusal, built_answer}
use Rattle.read.specs.Line as read
use Rattle.writer.specs.Line.{Event, Root, Extend}
use Rattle.writer.specs.Line as writer
use Rattle.walk_entry.specs.Graph.{Graph, kind_at}
use Rattle.walk.specs.Walk.{Walk, Turn, quiet, root_turn, turn_of, step_of, walk_to, events_of, turns_of}
use Rattle.walk_laws.specs.Trek.{Room, fresh, degrees, AllAccepted}
use Rattle.walk_laws.proofs.Sound.{sound_start}
use Rattle.walk_laws.proofs.Accepted.{accepted}
use Rattle.walk_laws.proofs.Judged.{judged_degrees}
use Rattle.write.specs.Write.{pair_words, graph_of, walk_in, said_in, walk_events, line_said, write_leaves, write_of}
use Rattle.trip_text.specs.Steps.{retold_one, retold, depth, Sayable, Spellable}
use Rattle.trip_text.proofs.Retold.{retold_shallow, retold_nests}
use Rattle.trip_text.proofs.Starred.{bare_event, Lost, miss, Alike, alike, lost}
use Rattle.trip_text.proofs.StarredLine.{bare_said, starred_alike}
use Rattle.trip_graph.specs.Renumber.{Simple}
use Rattle.trip_graph.specs.Opened.{RingsHaveText}
use Rattle.trip_graph.proofs.Lists.{by_bool}
use Rattle.trip_graph.proofs.Marks.{marks_serve, said_range}
use Rattle.trip_graph.proofs.Tables.{kind_range}
use Rattle.trip_graph.proofs.Trip.{graph_trip, walk_numbered}
use Rattle.trip_graph.proofs.Fair.{written_known}
use Rattle.trip_graph.proofs.Written.{was_done, done_simple}
use Rattle.trip_graph.proofs.Stars.{starred, star_degree, star_kind, star_marks, star_simple, StarWalk, star_walk}
use Rattle.round_trip.specs.Answers.{blames_ring}
use Rattle.round_trip.proofs.Ordered.{told_walk, some_said}
use Rattle.round_trip.proofs.Spelling.{Kept, kept_spelled, kept_ranged, kept_turns}
use Rattle.round_trip.proofs.Law.{line_is}
use Rattle.round_trip.proofs.Bare.{Bares, same, off, finish_bare, run_bare, lost_refused, nest_refused}

-- ---- events without kinds and places
bare_placeless : (x : List ReadEvent) → map bare_event (unplaced x) ≡ map bare_event x
unfolding bare_event unplaced placeless
bare_placeless [] = refl
bare_placeless (Enter l k p ∷ x) = ap (λ (y : List ReadEvent). Enter l Star 0 ∷ y) (bare_placeless x)
bare_placeless (Join b n p ∷ x) = ap (λ (y : List ReadEvent). Join b n 0 ∷ y) (bare_placeless x)
bare_placeless (Pop n ∷ x) = ap (λ (y : List ReadEvent). Pop n ∷ y) (bare_placeless x)
bare_placeless (Miss m ∷ x) = ap (λ (y : List ReadEvent). Miss m ∷ y) (bare_placeless x)
bare_placeless (Nest p ∷ x) = ap (λ (y : List ReadEvent). Nest 0 ∷ y) (bare_placeless x)

bare_retold : (es : List Event) → map bare_event (retold (map bare_said es)) ≡ retold (map bare_said es)
unfolding bare_event retold retold_one bare_said
bare_retold [] = refl
bare_retold (Root k ∷ es) = ap (λ (y : List ReadEvent). retold_one (Root Star) ∷ y) (bare_retold es)
bare_retold (Extend b k ∷ es) = ap (λ (y : List ReadEvent). retold_one (Extend b Star) ∷ y) (bare_retold es)
bare_retold (writer.Join b r ∷ es) = ap (λ (y : List ReadEvent). retold_one (writer.Join b r) ∷ y) (bare_retold es)
bare_retold (writer.Pop d ∷ es) = ap (λ (y : List ReadEvent). retold_one (writer.Pop d) ∷ y) (bare_retold es)

bare_nests : (x : List ReadEvent) → has_nest (map bare_event x) ≡ has_nest x
unfolding bare_event has_nest
bare_nests [] = refl
bare_nests (Enter l k p ∷ x) = bare_nests x
bare_nests (Join b n p ∷ x) = bare_nests x
bare_nests (Pop n ∷ x) = bare_nests x
bare_nests (Miss m ∷ x) = bare_nests x
bare_nests (Nest p ∷ x) = refl

-- ---- answers
refusal_blames : (r c : ℕ) → blames_ring (read_refusal r c) ≡ false
unfolding read_refusal blames_ring
refusal_blames r c =
    by_either B (eqb r end_of_line) refl
    (by_either B (eqb r character) refl
    (by_either B (eqb r inversion) refl
    (by_either B (eqb r atom_room) refl
    (by_either B (eqb r bond_room) refl
    (by_either B (eqb r nesting) refl refl)))))
  where
    B : Answer → Type 0
    B x = blames_ring x ≡ false

-- of a builder that is done, if it has refused nothing
answer_blames : (d : Sketch) (la lb : ℕ) → (d.refusal ≡ 0 → finish_s d ≡ Ok tt) → blames_ring (read.whole_or_refused d la lb).answer ≡ false
unfolding read.whole_or_refused read.whole_of built_answer blames_ring
answer_blames d la lb f =
    by_test (λ (x : Said). blames_ring x.answer ≡ false) (eqb d.refusal 0) (λ q. rw (f (eqb-true _ _ q)) refl) (λ q. refusal_blames d.refusal d.carried)

-- ---- the same graph with stars
star_degrees : (g : Graph) (n : ℕ) → n ≤ g.size → degrees (starred g) n ≡ degrees g n
unfolding degrees
star_degrees g zero h = refl
star_degrees g (suc n) h = ap₂ (λ (x y : ℕ). x + y) (star_degrees g n (omega arith)) (star_degree g n h)

module _ (room : ℕ) (atoms : List ℕ) (n : ℕ) (bonds : List ℕ) (m len : ℕ) (out : List ℕ) (some : 1 ≤ n)
    (e : write_of room atoms n bonds m ≡ write_leaves (Ok len) out) where
  abbrev g : Graph
  g = graph_of n atoms bonds

  abbrev start : Walk
  start = fresh atom_limit atom_limit atom_limit atom_limit (zeros pair_words)

  abbrev said : List Event
  said = events_of g (turns_of n m) start

  abbrev stars : List Event
  stars = map bare_said said

  few : n ≤ atom_limit
  few = (was_done room atoms n bonds m len out e).few

  walk_room : Room g atom_limit atom_limit atom_limit
  walk_room = record { met = few; back = few; taken = few }

  star_room : Room (starred g) atom_limit atom_limit atom_limit
  star_room = record { met = few; back = few; taken = few }

  fine : (walk_to g (turns_of n m) start).at.refusal ≡ None
  unfolding walk_in
  fine = (was_done room atoms n bonds m len out e).fine

  entries : degrees g n ≤ m
  entries = omega (arith, judged_degrees n m atoms bonds g.first (was_done room atoms n bonds m len out e).good)

  simple : Simple (starred g)
  simple =
      star_simple g (done_simple room atoms n bonds m len out some e)
      (written_known g atom_limit atom_limit atom_limit atom_limit (zeros pair_words) walk_room few m entries fine)

  walk : StarWalk g (turns_of n m) start
  walk = star_walk g (turns_of n m) start 0 (sound_start g atom_limit atom_limit atom_limit atom_limit (zeros pair_words) walk_room) fine

  star_fine : (walk_to (starred g) (turns_of n m) start).at.refusal ≡ None
  star_fine = ap (λ (w : Walk). w.at.refusal) walk.walked ∙ fine

  star_entries : degrees (starred g) n ≤ m
  star_entries = omega (arith, entries, star_degrees g n (omega arith))

  -- what the stars' walk says is what a line can say,
  star_told : Sayable 0 stars
  star_told = subst (Sayable 0) walk.said (told_walk (starred g) atom_limit atom_limit atom_limit atom_limit (zeros pair_words) star_room (turns_of n m))

  star_numbered : RingsHaveText stars
  star_numbered =
      subst RingsHaveText walk.said (walk_numbered (starred g) simple (star_marks g) atom_limit atom_limit atom_limit atom_limit star_room few m star_entries star_fine)

  star_survives : (a : ℕ) → a < n → survives (kind_at (starred g) a) ≡ true
  unfolding survives
  star_survives a h = rw (star_kind g a h) refl

  star_spelled : Spellable stars
  star_spelled =
      kept_spelled stars (subst (Kept survives) walk.said (kept_turns survives marks_serve.kept (starred g) star_survives (turns_of n m) start)) star_numbered

  star_accepted : AllAccepted atom_limit stars []
  star_accepted =
      subst (λ (es : List Event). AllAccepted atom_limit es []) walk.said (accepted (starred g) atom_limit atom_limit atom_limit atom_limit (zeros pair_words) star_room atom_limit few (turns_of n m))

  star_says : 0 < length stars
  unfolding turns_of
  star_says =
      subst (λ (es : List Event). 0 < length es) walk.said (some_said (starred g) atom_limit atom_limit atom_limit atom_limit (zeros pair_words) some few (turns_of n m) (omega (arith, some)))

  -- and builds a graph with no ring left open
  star_built : (p l : ℕ) → n ≤ p → m ≤ l → finish_s (run_s (start_s p l) (retold stars)) ≡ Ok tt
  star_built p l hp hl =
      subst (λ (es : List Event). finish_s (run_s (start_s p l) (retold es)) ≡ Ok tt) walk.said
      (graph_trip (starred g) simple (star_marks g) atom_limit atom_limit atom_limit atom_limit star_room few m star_entries star_fine p l hp (omega (arith, star_entries))).says

  -- the two lines are read alike
  lines_alike : Alike (parse (line_said stars)) (parse (line_said said))
  unfolding turns_of
  lines_alike =
      starred_alike atom_limit said (some_said g atom_limit atom_limit atom_limit atom_limit (zeros pair_words) some few (turns_of n m) (omega (arith, some)))
      (told_walk g atom_limit atom_limit atom_limit atom_limit (zeros pair_words) walk_room (turns_of n m))
      (kept_ranged said (kept_turns in_range said_range g (λ a h. kind_range g a) (turns_of n m) start) star_numbered)
      (accepted g atom_limit atom_limit atom_limit atom_limit (zeros pair_words) walk_room atom_limit few (turns_of n m))

  star_read : has_nest (parse (line_said stars)) ≡ false → map bare_event (parse (line_said stars)) ≡ retold stars
  star_read h =
      sym (bare_placeless (parse (line_said stars)))
      ∙ ap (map bare_event) (retold_shallow atom_limit stars star_says star_told star_spelled star_accepted (ltb-false branch_limit (depth stars) (sym (retold_nests atom_limit stars star_says star_told star_spelled star_accepted) ∙ h)))
      ∙ bare_retold said

  -- a builder that is told the line's events, with whatever room, has refused something or is done
  module _ (places slots : ℕ) where
    abbrev p : ℕ
    p = max places n

    abbrev l : ℕ
    l = max slots m

    abbrev d : Sketch
    d = run_s (start_s places slots) (parse (line_said said))

    bares_done : run_s (start_s p l) (map bare_event (parse (line_said said))) ≡ run_s (start_s p l) (retold stars)
        → Bares p l d (run_s (start_s p l) (map bare_event (parse (line_said said)))) → d.refusal ≡ 0 → finish_s d ≡ Ok tt
    bares_done q (same i hp hl) z =
        sym (finish_bare p l d) ∙ ap finish_s (sym i ∙ q) ∙ star_built p l (omega arith) (omega arith)
    bares_done q (off h) z = absurd (h z)

    alike_done : Alike (parse (line_said stars)) (parse (line_said said)) → d.refusal ≡ 0 → finish_s d ≡ Ok tt
    alike_done (lost y) z = absurd (lost_refused (parse (line_said said)) y (start_s places slots) z)
    alike_done (alike q) z =
        by_bool (has_nest (parse (line_said stars)))
        (λ h. absurd (nest_refused (parse (line_said said)) (sym (bare_nests (parse (line_said said))) ∙ ap has_nest (sym q) ∙ bare_nests (parse (line_said stars)) ∙ h) (start_s places slots) z))
        (λ h. bares_done (ap (run_s (start_s p l)) (sym q ∙ star_read h)) (run_bare p l (parse (line_said said)) (start_s places slots) (omega arith) (omega arith)) z)

  some_never_rings : (la lb : ℕ) → blames_ring (read.read_text (take len out) la lb).answer ≡ false
  unfolding read.read_text sketch_of blames_ring
  some_never_rings la lb =
      rw (line_is room atoms n bonds m len out e)
      (by_test (λ (x : Said). blames_ring x.answer ≡ false) (ltb text_limit (length (line_said (walk_events atoms n bonds m)))) (λ q. refl)
      (λ q. unfold said_in in answer_blames (d (lesser_of atom_limit (la / atom_words)) (lesser_of bond_limit (lb / bond_words))) la lb
      (alike_done (lesser_of atom_limit (la / atom_words)) (lesser_of bond_limit (lb / bond_words)) lines_alike)))

-- ---- the empty graph, whose line is empty
empty_step : (g : Graph) (w : Walk) → g.size ≡ 0 → w.at.here ≡ None → step_of g w ≡ quiet w
unfolding step_of turn_of root_turn
empty_step g w z c = by_test (λ (x : Turn). x ≡ quiet w) (is_none w.at.refusal) (λ q. rw (c, le-leb g.size w.at.next (omega (arith, z))) refl) (λ q. refl)

empty_said : (g : Graph) (t : ℕ) (w : Walk) → g.size ≡ 0 → w.at.here ≡ None → events_of g t w ≡ []
unfolding events_of
empty_said g zero w z c = refl
empty_said g (suc t) w z c = ap (λ (x : Turn). x.said ++ events_of g t x.after) (empty_step g w z c) ∙ empty_said g t w z c

empty_line : (atoms bonds : List ℕ) (m : ℕ) → line_said (walk_events atoms 0 bonds m) ≡ []
unfolding said_in writer.line_of writer.write_events
empty_line atoms bonds m =
    ap line_said (empty_said (graph_of 0 atoms bonds) (turns_of 0 m) (fresh atom_limit atom_limit atom_limit atom_limit (zeros pair_words)) refl refl)

empty_lost : Lost (parse [])
unfolding parse line_p atom_p found_p miss_p atom_at organic_at aromatic_of aliphatic_of other_at bracket_at star_at or_else peek_at
empty_lost = miss _

-- ---- the law
pub turns_never_rings : (room : ℕ) (atoms : List ℕ) (n : ℕ) (bonds : List ℕ) (m len : ℕ) (out : List ℕ) → write_of room atoms n bonds m ≡ write_leaves (Ok len) out
    → (la lb : ℕ) → blames_ring (read.read_text (take len out) la lb).answer ≡ false
unfolding read.read_text sketch_of blames_ring
turns_never_rings room atoms zero bonds m len out e la lb =
    rw (line_is room atoms 0 bonds m len out e ∙ empty_line atoms bonds m)
    (answer_blames (run_s (start_s (lesser_of atom_limit (la / atom_words)) (lesser_of bond_limit (lb / bond_words))) (parse [])) la lb
    (λ z. absurd (lost_refused (parse []) empty_lost (start_s (lesser_of atom_limit (la / atom_words)) (lesser_of bond_limit (lb / bond_words))) z)))
turns_never_rings room atoms (suc n) bonds m len out e la lb = some_never_rings room atoms (suc n) bonds m len out (omega arith) e la lb
