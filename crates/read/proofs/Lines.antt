-- What the tables of words come to is what is said of a line's atoms and bonds. Assumes nothing.
use Prim.Native.Nat.{ℕ, ◌*◌, ◌/◌, ◌<◌, ◌≤◌}
use mathlib.Core.Path.{◌≡◌, ap, ◌∙◌, subst, sym}
use mathlib.Core.List.{List}
use native.Mathlib.Omega.{arith}
use lib.ListN.{length, get_or, replicate, length-replicate}
use lib.Dec.{ltb, eqb}
use Rattle.feature.specs.Pick.{pick}
use Rattle.feature.proofs.Cases.{by_either, impossible}
use Rattle.table.specs.Steps.{few_atoms, few_bonds}
use Rattle.table.specs.Limits.{text_limit, atom_limit, bond_limit, lesser_of, ring_number_count}
use Rattle.table.specs.Records.{atom_words, bond_words}
use Rattle.builder.specs.State.{Bld, entry_words}
use Rattle.desk_numbers.specs.Numbers.{inversion, atom_room, bond_room, end_of_line, character, nesting}
use Rattle.std.specs.Prelude.{Err, Ok}
use Rattle.read.specs.Read.{graph_size}
use Rattle.builder.specs.Build.{Built}
use Rattle.builder.specs.declared.build.BuildError.TheVariants as built
use Rattle.builder_meaning.specs.Sketch.{Sketch, BothEnds, sketch_of, finish_s, atom_table, bond_table, padded, left_s}
use Rattle.table.proofs.Zeros.{zero_at}
use Rattle.table.proofs.Rooms.{lesser_most, lesser_held}
use Rattle.builder_meaning.proofs.Text.{Reads, text_reads}
use Rattle.read.specs.Read.{Answer}
use Rattle.read.specs.declared.ReadError.TheVariants.{TextTooLong}
use Rattle.read.specs.Read.{Said, said, read_refusal, built_answer}
use Rattle.read.specs.Steps.{built_said, state_of, state_said, within, read_of, Enough, Few}
use Rattle.read.specs.Line.{read_refusing, whole_of, whole_or_refused, read_text}

-- a state and a sketch that agree are answered alike
same_said : (b : Bld) (d : Sketch) (la lb : ℕ) → Reads b d la lb → state_said lb b ≡ whole_or_refused d la lb
unfolding state_said built_said whole_or_refused whole_of
same_said b d la lb r =
    simp (r.built.answer, r.built.atoms, r.built.bonds, r.refusal, r.carried, r.atoms, r.entries, r.long)

-- the work room that is lent: long enough, and no ring number held
module _ (s : List ℕ) (la lb : ℕ) (e p r : List ℕ) (wide : lesser_of bond_limit (lb / bond_words) * entry_words ≤ length e) (deep : lesser_of atom_limit (la / atom_words) ≤ length p) (round : ring_number_count ≤ length r) (free : (n : ℕ) → n < ring_number_count → get_or r n 0 ≡ 0) where
  reads : Reads (state_of s (replicate la 0) lb e p r) (sketch_of s (length (replicate {A = ℕ} la 0)) lb) (length (replicate {A = ℕ} la 0)) lb
  unfolding state_of
  reads =
      text_reads s (replicate la 0) e p r lb wide (subst (λ (n : ℕ). lesser_of atom_limit (n / atom_words) ≤ length p) (sym (length-replicate la 0)) deep) round (zero_at la) free

  within_line : within s (replicate la 0) lb e p r ≡ whole_or_refused (sketch_of s la lb) la lb
  unfolding within
  within_line =
      same_said _ _ _ _ reads ∙ ap (λ (n : ℕ). whole_or_refused (sketch_of s n lb) n lb) (length-replicate la 0)

  reads_ends : BothEnds (sketch_of s la lb).nodes
  reads_ends = subst (λ (n : ℕ). BothEnds (sketch_of s n lb).nodes) (length-replicate la 0) reads.ends

-- zeros are such a room
room_of : (n : ℕ) → n ≤ length (replicate {A = ℕ} n 0)
room_of n = omega (arith, length-replicate {A = ℕ} n 0)

pub within_sized : (s : List ℕ) (la lb p w : ℕ) → Enough p w la lb → within s (replicate la 0) lb (replicate w 0) (replicate p 0) (replicate ring_number_count 0) ≡ whole_or_refused (sketch_of s la lb) la lb
within_sized s la lb p w enough =
    within_line s la lb _ _ _ (omega (arith, room_of w, enough.slots)) (omega (arith, room_of p, enough.places)) (room_of ring_number_count) (λ n h. zero_at ring_number_count n)

-- of the largest size for any line, and of a small one where little was lent
pub enough_for_any : (la lb : ℕ) → Enough atom_limit (bond_limit * entry_words) la lb
enough_for_any la lb =
    record {
      places = lesser_most atom_limit (la / atom_words);
      slots = omega (arith, lesser_most bond_limit (lb / bond_words));
      most_atoms = omega arith;
      most_entries = omega arith;
    }

pub enough_for_few : (la lb : ℕ) → Few la lb → Enough few_atoms (few_bonds * entry_words) la lb
enough_for_few la lb few =
    record {
      places = omega (arith, lesser_held atom_limit (la / atom_words), few.atoms);
      slots = omega (arith, lesser_held bond_limit (lb / bond_words), few.bonds);
      most_atoms = omega arith;
      most_entries = omega arith;
    }

pub read_line : (s : List ℕ) (la lb : ℕ) → read_of s la lb ≡ read_text s la lb
unfolding read_of read_text
read_line s la lb =
    ap (pick (ltb text_limit (length s)) (read_refusing (Err (TextTooLong (length s))) la lb))
    (within_sized s la lb atom_limit (bond_limit * entry_words) (enough_for_any la lb))

-- ---- a line that is done
-- whatever the line, each bond that it is read to is held at both ends as reverses
pub both_held : (s : List ℕ) (la lb : ℕ) → BothEnds (sketch_of s la lb).nodes
both_held s la lb =
    reads_ends s la lb (replicate (bond_limit * entry_words) 0) (replicate atom_limit 0) (replicate ring_number_count 0) (omega (arith, room_of (bond_limit * entry_words), lesser_most bond_limit (lb / bond_words))) (omega (arith, room_of atom_limit, lesser_most atom_limit (la / atom_words))) (room_of ring_number_count) (λ n h. zero_at ring_number_count n)

-- no refusal is called 0
pub not_done : (r c n m : ℕ) → read_refusal r c ≡ Ok (graph_size n m) → ⊥
unfolding read_refusal
not_done r c n m =
    let Not : Answer → Type 0 = λ x. x ≡ Ok (graph_size n m) → ⊥ in
    by_either Not (eqb r end_of_line) (λ e. impossible cc)
    (by_either Not (eqb r character) (λ e. impossible cc)
    (by_either Not (eqb r inversion) (λ e. impossible cc)
    (by_either Not (eqb r atom_room) (λ e. impossible cc)
    (by_either Not (eqb r bond_room) (λ e. impossible cc)
    (by_either Not (eqb r nesting) (λ e. impossible cc)
    (λ e. impossible cc))))))

whole_done : (w : Built) (x y n m la lb : ℕ) (a b : List ℕ) → built_answer w x y ≡ Ok (graph_size n m) → said (built_answer w x y) (left_s w la a) (left_s w lb b) ≡ said (Ok (graph_size n m)) (padded la a) (padded lb b)
unfolding built_answer left_s
whole_done (Ok _) x y n m la lb a b e = ap (λ (r : Answer). said r (padded la a) (padded lb b)) e
whole_done (Err (built.Join v w)) x y n m la lb a b e = impossible cc
whole_done (Err (built.Rnum j)) x y n m la lb a b e = impossible cc

-- a line that is answered 0 leaves the tables of its atoms, zeros after them, and each bond is held at both ends
pub done_holds : (s : List ℕ) (la lb n m : ℕ) → (read_text s la lb).answer ≡ Ok (graph_size n m) → (read_text s la lb ≡ said (Ok (graph_size n m)) (padded la (atom_table (sketch_of s la lb).nodes)) (padded lb (bond_table (sketch_of s la lb).nodes))) × BothEnds (sketch_of s la lb).nodes
unfolding read_text whole_or_refused whole_of
done_holds s la lb n m e =
    let d = sketch_of s la lb in
    let Holds : Said → Type 0 = λ x. x.answer ≡ Ok (graph_size n m) → x ≡ said (Ok (graph_size n m)) (padded la (atom_table d.nodes)) (padded lb (bond_table d.nodes)) in (
      by_either Holds (ltb text_limit (length s)) (λ h. impossible cc)
          (by_either Holds (eqb d.refusal 0) (whole_done (finish_s d) _ _ n m la lb _ _) (λ h. absurd (not_done _ _ n m h))) e,
      both_held s la lb,
    )
