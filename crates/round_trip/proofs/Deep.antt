-- A line with a branch too many in it, written of such a graph, is refused for that and for nothing else. So what is asked of a
-- line can be asked of the answer. Assumes nothing.
use Prim.Native.Nat.{ℕ, ◌/◌, ◌≤◌, ◌<◌}
use mathlib.Core.Path.{◌≡◌, refl, sym, ap, ap₂, ◌∙◌}
use mathlib.Core.List.{List, [], ◌∷◌, ◌++◌}
use mathlib.Core.Bool.{true}
use native.Mathlib.Omega.{arith}
use lib.ListN.{length, take}
use borrow.Author.Tests.{le-ltb, ltb-true, ne_eqb}
use Rattle.feature.proofs.Cases.{impossible}
use Rattle.table.specs.Records.{atom_words, bond_words}
use Rattle.table.specs.Limits.{text_limit, atom_limit, bond_limit, branch_limit, lesser_of}
use Rattle.desk_numbers.specs.Numbers.{nesting}
use Rattle.read_line.specs.Events as reader
use Rattle.read_line.specs.Parse.{parse}
use Rattle.writer.specs.Line.{Event}
use Rattle.builder_meaning.specs.Sketch.{Sketch, start_s, step_s, run_s, sketch_of}
use Rattle.std.specs.Prelude.{Err}
use Rattle.read.specs.declared.ReadError.TheVariants as answer
use Rattle.read.specs.Read.{read_refusal}
use Rattle.read.specs.Line as read
use Rattle.std.specs.Prelude.{Ok}
use Rattle.write.specs.Write.{graph_of, walk_events, line_said, write_leaves, write_of}
use Rattle.trip_text.specs.Steps.{retold, depth, SaysWithin, all, cut}
use Rattle.trip_text.proofs.Retold.{retold_line}
use Rattle.trip_graph.proofs.Lists.{by_bool}
use Rattle.trip_graph.proofs.Follows.{run_app, run_one}
use Rattle.trip_graph.proofs.Places.{fine_before, places_free}
use Rattle.trip_graph.proofs.Written.{was_done, done_simple, table_trip}
use Rattle.round_trip.specs.RoundTrip.{Plain, read_as}
use Rattle.round_trip.specs.Steps.{back_by_turns}
use Rattle.round_trip.proofs.Law.{walk_told, walk_spelled, walk_accepted, walk_says, line_nests, line_is, turns_trip}
use Rattle.read_line.specs.Steps.{unplaced, placeless}
use Rattle.read_line.specs.Events.{has_nest}

-- ---- events that end with a branch too many
record Ends (x A : List reader.ReadEvent) : Type 0 where
  front : List reader.ReadEvent
  place : ℕ
  is : x ≡ front ++ (reader.Nest place ∷ [])
  same : unplaced front ≡ A

cons_head : {a b : reader.ReadEvent} {x y : List reader.ReadEvent} → a ∷ x ≡ b ∷ y → a ≡ b
cons_head e = cc

cons_tail : {a b : reader.ReadEvent} {x y : List reader.ReadEvent} → a ∷ x ≡ b ∷ y → x ≡ y
cons_tail e = cc

nest_of : (y : reader.ReadEvent) → placeless y ≡ reader.Nest 0 → (p : ℕ) × (y ≡ reader.Nest p)
unfolding placeless
nest_of (reader.Enter l k p) e = impossible cc
nest_of (reader.Join b n p) e = impossible cc
nest_of (reader.Pop n) e = impossible cc
nest_of (reader.Miss m) e = impossible cc
nest_of (reader.Nest p) e = (p, refl)

nil_of : (x : List reader.ReadEvent) → unplaced x ≡ [] → x ≡ []
unfolding unplaced
nil_of [] e = refl
nil_of (y ∷ x) e = impossible cc

ends_at : (A x : List reader.ReadEvent) → unplaced x ≡ A ++ (reader.Nest 0 ∷ []) → Ends x A
unfolding unplaced
ends_at [] [] e = impossible cc
ends_at [] (y ∷ x) e =
    let n = nest_of y (cons_head e) in
    record { front = []; place = n.0; is = ap₂ (λ (a : reader.ReadEvent) (b : List reader.ReadEvent). a ∷ b) n.1 (nil_of x (cons_tail e)); same = refl }
ends_at (a ∷ A) [] e = impossible cc
ends_at (a ∷ A) (y ∷ x) e =
    let r = ends_at A x (cons_tail e) in
    record {
      front = y ∷ r.front;
      place = r.place;
      is = ap (λ (b : List reader.ReadEvent). y ∷ b) r.is;
      same = ap₂ (λ (a : reader.ReadEvent) (b : List reader.ReadEvent). a ∷ b) (cons_head e) r.same;
    }

-- ---- a builder
-- as much as comes before a branch too many is built, and then that branch is refused
nest_refused : (d : Sketch) (x A B : List reader.ReadEvent) → (run_s d (A ++ B)).refusal ≡ 0 → unplaced x ≡ A ++ (reader.Nest 0 ∷ [])
    → (run_s d x).refusal ≡ nesting
unfolding step_s
nest_refused d x A B h e =
    let r = ends_at A x e in
    let z : (run_s d A).refusal ≡ 0 = fine_before (run_s d A) B (ap (λ (c : Sketch). c.refusal) (sym (run_app d A B)) ∙ h) in
    let y : (run_s d (unplaced r.front)).refusal ≡ 0 = ap (λ (c : List reader.ReadEvent). (run_s d c).refusal) r.same ∙ z in
    let o : (run_s d r.front).refusal ≡ 0 = ap (λ (c : Sketch). c.refusal) (places_free d r.front y) ∙ y in
    ap (λ (c : List reader.ReadEvent). (run_s d c).refusal) r.is
    ∙ ap (λ (c : Sketch). c.refusal) (run_app d r.front (reader.Nest r.place ∷ []))
    ∙ ap (λ (c : Sketch). c.refusal) (run_one (run_s d r.front) (reader.Nest r.place) o)

says_refused : (d : Sketch) {w room : ℕ} (D x : List reader.ReadEvent) → room < w → (run_s d D).refusal ≡ 0 → SaysWithin w room D x
    → (run_s d x).refusal ≡ nesting
says_refused d D x l h (all g e) = absurd (omega arith)
says_refused d D x l h (cut A B g q e) =
    nest_refused d x A B (ap (λ (c : List reader.ReadEvent). (run_s d c).refusal) (sym q) ∙ h) e

-- ---- the answer
refused_answer : (s : List ℕ) (la lb : ℕ) → length s ≤ text_limit → (sketch_of s la lb).refusal ≡ nesting
    → (read.read_text s la lb).answer ≡ Err (answer.Nesting (sketch_of s la lb).carried)
unfolding read.read_text read.whole_or_refused read_refusal
refused_answer s la lb short e =
    rw (le-ltb text_limit (length s) short, ne_eqb (sketch_of s la lb).refusal 0 (λ z. let y : nesting ≡ 0 = sym e ∙ z in omega arith), e)

-- where more branches are open at once than the reader has room for, a builder with room for the atoms and entries refuses that
pub deep_refused : (room : ℕ) (atoms : List ℕ) (n : ℕ) (bonds : List ℕ) (m len : ℕ) (out : List ℕ)
    → Plain (graph_of n atoms bonds) → write_of room atoms n bonds m ≡ write_leaves (Ok len) out → has_nest (parse (take len out)) ≡ true
    → (places slots : ℕ) → n ≤ places → m ≤ slots → (run_s (start_s places slots) (parse (take len out))).refusal ≡ nesting
deep_refused room atoms n bonds m len out P e deep places slots ra rb =
    let d = was_done room atoms n bonds m len out e in
    let es : List Event = walk_events atoms n bonds m in
    let l : take len out ≡ line_said es = line_is room atoms n bonds m len out e in
    let b : Sketch = start_s places slots in
    let t = table_trip atoms bonds n m d.few d.good (done_simple room atoms n bonds m len out P.some e) P.marks d.fine places slots ra rb in
    let k : branch_limit < depth es =
    ltb-true branch_limit (depth es) (sym (line_nests room atoms n bonds m len out P e) ∙ ap (λ (x : List ℕ). has_nest (parse x)) (sym l) ∙ deep) in
    let s = retold_line atom_limit es (walk_says room atoms n bonds m len out P e) (walk_told room atoms n bonds m len out P e) (walk_spelled room atoms n bonds m len out P e) (walk_accepted room atoms n bonds m len out P e) in
    ap (λ (x : List ℕ). (run_s b (parse x)).refusal) l ∙ says_refused b (retold es) (parse (line_said es)) k t.refusal s

-- and so, if the rest of the limits is kept, the answer is 15
pub turns_too_deep : (room : ℕ) (atoms : List ℕ) (n : ℕ) (bonds : List ℕ) (m len : ℕ) (out : List ℕ) (la lb : ℕ)
    → Plain (graph_of n atoms bonds) → write_of room atoms n bonds m ≡ write_leaves (Ok len) out
    → length (take len out) ≤ text_limit → has_nest (parse (take len out)) ≡ true → n ≤ lesser_of atom_limit (la / atom_words) → m ≤ lesser_of bond_limit (lb / bond_words)
    → (p : ℕ) × ((read.read_text (take len out) la lb).answer ≡ Err (answer.Nesting p))
unfolding sketch_of
turns_too_deep room atoms n bonds m len out la lb P e short deep ra rb =
    (_, refused_answer (take len out) la lb short (deep_refused room atoms n bonds m len out P e deep (lesser_of atom_limit (la / atom_words)) (lesser_of bond_limit (lb / bond_words)) ra rb))

-- The round trip, asked of the answer: a line that is not too long, with room lent for its atoms and entries, is read back
-- unless the answer is 15, a branch too many.
pub turns_trip_answer : (room : ℕ) (atoms : List ℕ) (n : ℕ) (bonds : List ℕ) (m len : ℕ) (out : List ℕ) (la lb : ℕ)
    → Plain (graph_of n atoms bonds) → write_of room atoms n bonds m ≡ write_leaves (Ok len) out
    → length (take len out) ≤ text_limit → n ≤ lesser_of atom_limit (la / atom_words) → m ≤ lesser_of bond_limit (lb / bond_words)
    → ((p : ℕ) → (read.read_text (take len out) la lb).answer ≡ Err (answer.Nesting p) → ⊥)
    → read.read_text (take len out) la lb ≡ read_as n m la lb (back_by_turns atoms n bonds m)
turns_trip_answer room atoms n bonds m len out la lb P e short ra rb never =
    by_bool (has_nest (parse (take len out)))
    (λ q. let t = turns_too_deep room atoms n bonds m len out la lb P e short q ra rb in absurd (never t.0 t.1))
    (λ q. turns_trip room atoms n bonds m len out la lb P e (record { short = short; shallow = q; atoms = ra; bonds = rb }))
