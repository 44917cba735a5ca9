-- A text read into tables: the state that its events leave, and the build of it, say what its sketch says. Assumes nothing.
use Prim.Native.Nat.{ℕ, ◌+◌, ◌*◌, ◌/◌, ◌<◌, ◌≤◌}
use Rattle.std.specs.Prelude.{is_some}
use mathlib.Core.Path.{◌≡◌, refl, ◌∙◌, sym, subst}
use mathlib.Core.List.{List, [], ◌∷◌}
use native.Mathlib.Omega.{arith}
use lib.ListN.{length, get_or, replicate, length-replicate}
use lib.Seq.{length-sets}
use lib.Dec.{ltb, leb, eqb}
use Rattle.feature.specs.Kinds.{invert_of}
use Rattle.feature.specs.Bonds.{reconcile_of}
use Rattle.feature.specs.declared.atom_kind.AtomKind.{AtomKind}
use Rattle.std.specs.Prelude.{None, Option, Some}
use Rattle.feature.specs.declared.bond_kind.BondKind.{BondKind}
use Rattle.feature.proofs.Cases.{by_either}
use Rattle.read_token.specs.declared.scanner.Missing.{Missing}
use Rattle.read_token.specs.declared.scanner.Missing.TheVariants.{EndOfLine, Character}
use Rattle.table.specs.Records.{atom_words, bond_words}
use Rattle.packing.specs.Words.{list_of}
use Rattle.table.specs.Limits.{atom_limit, bond_limit, lesser_of, ring_number_count}
use Rattle.table.proofs.Rooms.{lesser_most, lesser_held}
use Rattle.builder.specs.State.{Bld, bld, fresh_builder, entry_words, refuse, entered, root_of, bonded, extended_by, extend_of, failed_st, last_of, opened_of, opening_of, opening_kind, closed_by, join_of, pop_of}
use Rattle.builder.specs.declared.builder.Builder.{Builder}
use Rattle.read_line.specs.declared.lead.Lead.{Lead}
use Rattle.read_line.specs.declared.lead.Lead.TheVariants.{Dot, Bond}
use Rattle.read_line.specs.Events.{ReadEvent, Enter, Join, Pop, Miss, Nest, mark_judged, unstored_of, missing_st, led_of, enter_of, ring_of, step, run}
use Rattle.read_line.specs.Parse.{parse}
use Rattle.builder.specs.Build.{tables, build_of}
use Rattle.builder_meaning.specs.Sketch.{Sketch, BothEnds, start_s, next_number, count_of, sketch_of, finish_s}
use Rattle.builder_meaning.proofs.Same.{Room, Same}
use Rattle.builder_meaning.proofs.Steps.{number_is}
use Rattle.builder_meaning.proofs.Run.{same_run, same_start}
use Rattle.builder_meaning.proofs.Finish.{Says, same_build}
use Rattle.builder_meaning.proofs.Events.{text_ok}
use Rattle.builder_meaning.proofs.Ends.{same_ends}

-- ---- what no event changes
-- the length of the atoms' table, and the room for entries
record Kept (n l : ℕ) (b : Bld) : Type 0 where
  atoms : length b.atoms ≡ n
  slots : b.st.slots ≡ l

module _ (n l : ℕ) (b : Bld) (kept : Kept n l b) where
  refuse_kept : (r c : ℕ) → Kept n l (refuse b r c)
  unfolding refuse
  refuse_kept r c = record { atoms = kept.atoms; slots = kept.slots }

  root_kept : (k : AtomKind) (place : ℕ) → Kept n l (root_of b k place)
  unfolding root_of entered
  root_kept k place =
      by_either (Kept n l) (leb b.st.places b.st.atoms) (refuse_kept _ _)
      (record { atoms = length-sets b.atoms (b.st.atoms * atom_words) (list_of k) ∙ kept.atoms; slots = kept.slots })

  extended_kept : (e : BondKind) (t : Option AtomKind) → Kept n l (extended_by b e t)
  unfolding extended_by entered bonded
  extended_kept e None = refuse_kept _ _
  extended_kept e (Some k) =
      record { atoms = length-sets b.atoms (b.st.atoms * atom_words) (list_of k) ∙ kept.atoms; slots = kept.slots }

  extend_kept : (e : BondKind) (k : AtomKind) (place : ℕ) → Kept n l (extend_of b e k place)
  unfolding extend_of
  extend_kept e k place =
      by_either (Kept n l) (eqb b.st.top 0) (refuse_kept _ _)
      (by_either (Kept n l) (leb b.st.places b.st.atoms) (refuse_kept _ _)
      (by_either (Kept n l) (ltb b.st.slots (b.st.entries + 2)) (refuse_kept _ _) (extended_kept e (invert_of k))))

  failed_kept : (x y : ℕ) → (failed_st b.st x y).slots ≡ l
  unfolding failed_st
  failed_kept x y = by_either (λ (t : Builder). t.slots ≡ l) (is_some b.st.failed) kept.slots kept.slots

  closed_kept : (m place : ℕ) (q : Option (BondKind × BondKind)) → Kept n l (closed_by b m place q)
  unfolding closed_by
  closed_kept m place None = record { atoms = kept.atoms; slots = failed_kept (last_of b) (opening_of b m) }
  closed_kept m place (Some (x, y)) =
      by_either (Kept n l) (ltb b.st.slots (b.st.entries + 1)) (refuse_kept _ _)
      (record { atoms = kept.atoms; slots = kept.slots })

  join_kept : (e : BondKind) (m place : ℕ) → Kept n l (join_of b e m place)
  unfolding join_of opened_of
  join_kept e m place =
      by_either (Kept n l) (eqb b.st.top 0) (refuse_kept _ _)
      (by_either (Kept n l) (eqb (get_or b.rings m 0) 0)
      (by_either (Kept n l) (ltb b.st.slots (b.st.entries + 1)) (refuse_kept _ _) (record { atoms = kept.atoms; slots = kept.slots }))
      (closed_kept m place (reconcile_of (opening_kind b m) e)))

  led_kept : (x : Lead) (k : AtomKind) (place : ℕ) → Kept n l (led_of b x k place)
  unfolding led_of
  led_kept Dot k place = root_kept k place
  led_kept (Bond e) k place = extend_kept e k place

  judged_kept : (t : Option AtomKind) → (mark_judged b.st t).slots ≡ l
  unfolding mark_judged
  judged_kept None = kept.slots
  judged_kept (Some k) = kept.slots

  numb_kept : (x : Lead) (k : AtomKind) → (unstored_of b.st x k).slots ≡ l
  unfolding unstored_of
  numb_kept Dot k = kept.slots
  numb_kept (Bond e) k = judged_kept (invert_of k)

  missing_kept : (m : Missing) → (missing_st b.st m).slots ≡ l
  unfolding missing_st
  missing_kept EndOfLine = kept.slots
  missing_kept (Character place) = kept.slots

  step_kept : (e : ReadEvent) → Kept n l (step b e)
  unfolding step enter_of ring_of pop_of
  step_kept (Enter x k place) =
      by_either (Kept n l) (is_some b.st.failed) (record { atoms = kept.atoms; slots = numb_kept x k }) (led_kept x k place)
  step_kept (Join e m place) = by_either (Kept n l) (is_some b.st.failed) kept (join_kept e m place)
  step_kept (Pop m) = record { atoms = kept.atoms; slots = kept.slots }
  step_kept (Miss m) = record { atoms = kept.atoms; slots = missing_kept m }
  step_kept (Nest place) = record { atoms = kept.atoms; slots = kept.slots }

run_kept : (n l : ℕ) (b : Bld) (es : List ReadEvent) → Kept n l b → Kept n l (run b es)
unfolding run
run_kept n l b [] kept = kept
run_kept n l b (e ∷ es) kept =
    by_either (Kept n l) (eqb b.st.refusal 0) (run_kept n l (step b e) es (step_kept n l b kept e)) kept

-- ---- a text
-- a state says what a sketch says; tables of la and lb words
pub record Reads (b : Bld) (d : Sketch) (la lb : ℕ) : Type 0 where
  pub refusal : b.st.refusal ≡ d.refusal
  pub carried : b.st.carried ≡ d.carried
  pub atoms : b.st.atoms ≡ next_number d
  pub entries : b.st.entries ≡ count_of d.nodes
  pub long : length b.atoms ≡ la
  pub built : Says (build_of (tables b.atoms (replicate lb 0) b.path) b.entries b.st) (finish_s d) d.nodes la lb
  pub ends : BothEnds d.nodes

module _ (s a e p r : List ℕ) (lb : ℕ) (wide : lesser_of bond_limit (lb / bond_words) * entry_words ≤ length e) (deep : lesser_of atom_limit (length a / atom_words) ≤ length p) (round : ring_number_count ≤ length r) (blank : (i : ℕ) → get_or a i 0 ≡ 0) (free : (n : ℕ) → n < ring_number_count → get_or r n 0 ≡ 0) where
  abbrev places : ℕ
  places = lesser_of atom_limit (length a / atom_words)

  abbrev slots : ℕ
  slots = lesser_of bond_limit (lb / bond_words)

  room : Room places slots a e p r
  room =
      record {
        atoms = omega (arith, lesser_held atom_limit (length a / atom_words));
        entries = wide;
        path = deep;
        rings = round;
        few = lesser_most atom_limit (length a / atom_words);
        small = lesser_most bond_limit (lb / bond_words);
      }

  pub same_text : Same (run (bld a e p r (fresh_builder places slots)) (parse s)) (sketch_of s (length a) lb)
  unfolding sketch_of
  same_text =
      same_run (bld a e p r (fresh_builder places slots)) (start_s places slots) (parse s) (same_start places slots a e p r room blank free) (text_ok s)

  pub text_reads : Reads (run (bld a e p r (fresh_builder places slots)) (parse s)) (sketch_of s (length a) lb) (length a) lb
  text_reads =
      let b = run (bld a e p r (fresh_builder places slots)) (parse s) in
      let d = sketch_of s (length a) lb in
      let kept = run_kept (length a) slots (bld a e p r (fresh_builder places slots)) (parse s) (record { atoms = refl; slots = refl }) in
      let zeros = length-replicate {A = ℕ} lb 0 in
      record {
        refusal = same_text.state.refusal;
        carried = same_text.state.carried;
        atoms = number_is b d same_text;
        entries = same_text.state.entries ∙ sym same_text.entries.count;
        long = kept.atoms;
        built =
            subst (λ (n : ℕ). Says (build_of (tables b.atoms (replicate lb 0) b.path) b.entries b.st) (finish_s d) d.nodes n lb) kept.atoms
            (subst (λ (n : ℕ). Says (build_of (tables b.atoms (replicate lb 0) b.path) b.entries b.st) (finish_s d) d.nodes (length b.atoms) n) zeros
            (same_build b d same_text (replicate lb 0) b.path (omega (arith, zeros, kept.slots, same_text.state.slots, lesser_held bond_limit (lb / bond_words))) same_text.room.path));
        ends = same_ends b d same_text;
      }
