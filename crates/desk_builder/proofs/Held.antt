-- What a build that is done leaves: each atom's bonds in its place, and each bond held at both ends as reverses. Assumes
-- nothing.
use Prim.{⊥}
use Prim.Native.Nat.{ℕ, zero, suc, ◌+◌, ◌*◌, ◌%◌, ◌<◌, ◌≤◌}
use mathlib.Core.Path.{◌≡◌, refl, sym, ap, ◌∙◌, subst}
use mathlib.Core.Logic.{◌≢◌}
use Rattle.desk_numbers.specs.Numbers.{bad_table}
use mathlib.Core.List.{List, [], ◌∷◌}
use mathlib.Core.Bool.{Bool, true, false}
use native.Mathlib.Omega.{arith}
use lib.ListN.{length, get_or, take, drop, replicate, length-append, length-drop, length-replicate}
use lib.Seq.{length-take-le}
use lib.Dec.{eqb, ltb}
use borrow.Author.Tests.{leb-true, ltb-true, ltb-false}
use Rattle.feature.specs.Pick.{pick, both}
use Rattle.feature.specs.Bonds.{code_of, reverse_of}
use Rattle.table.specs.Records.{atom_words, bond_words}
use Rattle.table.specs.Limits.{atom_limit}
use Rattle.std.specs.Prelude.{Option, None, Some}
use Rattle.builder.specs.declared.builder.FailedJoin.{FailedJoin}
use Rattle.builder.specs.State.{Bld, entry_words, unclosed}
use Rattle.table.specs.Zeros.{zeroed}
use Rattle.builder.specs.Build.{of, upto, BuildOutcome, Tables, tables, first_open, entries_told, build_of}
use Rattle.builder.specs.Steps.{Sources, BuildReady}
use Rattle.builder.proofs.Laws.{built_failed, built_done, built_open}
use Rattle.feature.specs.Every.{every}
use Rattle.packing.specs.Words.{is_atom}
use Rattle.desk_state.specs.Standing.{source_at, entry_kind_at, target_at, is_builder_entry, is_entry_to, bonds_counted, is_paired, counts_stand, is_state}
use Rattle.desk_builder.specs.Build.{BuildLeft, answer_leaves, built_answered, left_of, trimmed, roomy, build_d, held_of, EntriesBothEnds, state_graph}
use Rattle.desk_state.proofs.Counts.{Counts, counts}
use Rattle.feature.proofs.Every.{every_at}
use Rattle.feature.proofs.Cases.{both_first, both_second}
use Rattle.desk_state.proofs.Ends.{both_ends, even_ends}

-- ---- entries after the first
-- the words of three are passed
three : (i : ℕ) → suc i * entry_words ≡ suc (suc (suc (i * entry_words)))
three i = omega arith

module _ (s k t : ℕ) (es : List ℕ) (i : ℕ) where
  next_source : source_at (s ∷ k ∷ t ∷ es) (suc i) ≡ source_at es i
  next_source = ap (λ (n : ℕ). get_or (s ∷ k ∷ t ∷ es) n 0) (three i)

  next_kind : entry_kind_at (s ∷ k ∷ t ∷ es) (suc i) ≡ entry_kind_at es i
  next_kind = ap (λ (n : ℕ). get_or (s ∷ k ∷ t ∷ es) n 0) {x = suc i * entry_words + 1} {y = suc (suc (suc (i * entry_words + 1)))} (omega arith)

  next_target : target_at (s ∷ k ∷ t ∷ es) (suc i) ≡ target_at es i
  next_target = ap (λ (n : ℕ). get_or (s ∷ k ∷ t ∷ es) n 0) {x = suc i * entry_words + 2} {y = suc (suc (suc (i * entry_words + 2)))} (omega arith)

  next_bond_lem : (a x y : ℕ) → is_entry_to (s ∷ k ∷ t ∷ es) a x y (suc i) ≡ is_entry_to es a x y i
  unfolding is_entry_to
  next_bond_lem a x y =
      ap (λ (n : ℕ). both (eqb n a) (both (eqb (entry_kind_at (s ∷ k ∷ t ∷ es) (suc i)) x) (eqb (target_at (s ∷ k ∷ t ∷ es) (suc i)) y))) next_source
      ∙ ap (λ (n : ℕ). both (eqb (source_at es i) a) (both (eqb n x) (eqb (target_at (s ∷ k ∷ t ∷ es) (suc i)) y))) next_kind
      ∙ ap (λ (n : ℕ). both (eqb (source_at es i) a) (both (eqb (entry_kind_at es i) x) (eqb n y))) next_target

-- the first entry counted, then those after it
counted_first : (a x y s k t : ℕ) (es : List ℕ) (m : ℕ) → bonds_counted (s ∷ k ∷ t ∷ es) a x y (suc m) ≡ pick (both (eqb s a) (both (eqb k x) (eqb t y))) 1 0 + bonds_counted es a x y m
unfolding bonds_counted is_entry_to
counted_first a x y s k t es zero = omega arith
counted_first a x y s k t es (suc m) =
    let ih = counted_first a x y s k t es m in
    let one : pick {A = ℕ} (is_entry_to (s ∷ k ∷ t ∷ es) a x y (suc m)) 1 0 ≡ pick (is_entry_to es a x y m) 1 0 = ap (λ (q : Bool). pick q 1 0) (next_bond_lem s k t es m a x y) in
    omega (arith, ih, one)

-- ---- an atom's bonds
held_first : (a x y s k t : ℕ) (es : List ℕ) → held_of x y (of a (s ∷ k ∷ t ∷ es)) ≡ pick (both (eqb s a) (both (eqb k x) (eqb t y))) 1 0 + held_of x y (of a es)
unfolding of held_of
held_first a x y s k t es = split (eqb s a) where
  split : (q : Bool) → held_of x y (pick q (k ∷ t ∷ of a es) (of a es)) ≡ pick (both q (both (eqb k x) (eqb t y))) 1 0 + held_of x y (of a es)
  split true = refl
  split false = omega arith

-- as many as are counted among the entries
pub held_is : (a x y m : ℕ) (es : List ℕ) → m * entry_words ≤ length es → held_of x y (of a (take (m * entry_words) es)) ≡ bonds_counted es a x y m
unfolding of held_of bonds_counted
held_is a x y zero es h = refl
held_is a x y (suc m) [] h = absurd (omega arith)
held_is a x y (suc m) (s ∷ []) h = absurd (omega arith)
held_is a x y (suc m) (s ∷ k ∷ []) h = absurd (omega arith)
held_is a x y (suc m) (s ∷ k ∷ t ∷ es) h =
    ap (λ (n : ℕ). held_of x y (of a (take n (s ∷ k ∷ t ∷ es)))) (three m)
    ∙ held_first a x y s k t (take (m * entry_words) es)
    ∙ ap (λ (n : ℕ). pick (both (eqb s a) (both (eqb k x) (eqb t y))) 1 0 + n) (held_is a x y m es (omega arith))
    ∙ sym (counted_first a x y s k t es m)

-- each entry's source is an atom
pub sources_of : (n m : ℕ) (es : List ℕ) → m * entry_words ≤ length es → ((i : ℕ) → i < m → source_at es i < n) → Sources n (take (m * entry_words) es)
sources_of n zero es h all = tt
sources_of n (suc m) [] h all = absurd (omega arith)
sources_of n (suc m) (s ∷ []) h all = absurd (omega arith)
sources_of n (suc m) (s ∷ k ∷ []) h all = absurd (omega arith)
sources_of n (suc m) (s ∷ k ∷ t ∷ es) h all =
    subst (λ (w : ℕ). Sources n (take w (s ∷ k ∷ t ∷ es))) (sym (three m))
    (all 0 (omega arith), sources_of n m es (omega arith) (λ i l. subst (λ (w : ℕ). w < n) (next_source s k t es i) (all (suc i) (omega arith))))

-- ---- the build
trimmed_length : (n : ℕ) (t : List ℕ) → n ≤ length t → length (trimmed n t) ≡ length t
unfolding trimmed
trimmed_length n t h =
    length-append (take n t) (zeroed (drop n t))
    ∙ omega (arith, length-take-le n t h, length-replicate {A = ℕ} (length (drop n t)) 0, length-drop n t)

-- what a state's entries keep to
record Facts (b : Bld) : Type 0 where
  counts : Counts b.st (length b.atoms) (length b.entries)
  entries : every (is_builder_entry b.st b.entries) b.st.entries ≡ true
  pairs : every (is_paired b.entries b.st.entries) b.st.entries ≡ true

facts : (b : Bld) → is_state b ≡ true → Facts b
unfolding is_state
facts b h =
    let told = counts_stand b.st (length b.atoms) (length b.entries) (length b.path) (length b.rings) in
    let h1 = both_second told _ h in
    let h2 = both_second (every (is_atom b.atoms) b.st.atoms) _ h1 in
    let h3 = both_second (every (is_builder_entry b.st b.entries) b.st.entries) _ h2 in
    record {
      counts = counts b.st (length b.atoms) (length b.entries) (length b.path) (length b.rings) (both_first told _ h);
      entries = both_first (every (is_builder_entry b.st b.entries) b.st.entries) _ h2;
      pairs = both_first (every (is_paired b.entries b.st.entries) b.st.entries) _ h3;
    }

source_at_lem : (b : Bld) → Facts b → (i : ℕ) → i < b.st.entries → source_at b.entries i < b.st.atoms
unfolding is_builder_entry
source_at_lem b f i l =
    ltb-true (source_at b.entries i) b.st.atoms
    (both_first (ltb (source_at b.entries i) b.st.atoms) _ (every_at (is_builder_entry b.st b.entries) b.st.entries i f.entries l))

-- the entries that a state tells of hold each bond at both ends
told_ends : (b : Bld) → Facts b → EntriesBothEnds (entries_told b.st b.entries)
told_ends b f =
    let room : b.st.entries * entry_words ≤ length b.entries = omega (arith, f.counts.entries, f.counts.entry_room) in
    record {
      ends = λ a t k ha ht.
          held_is a (code_of k) t b.st.entries b.entries room
          ∙ both_ends b.entries b.st.entries f.pairs a t k ha ht
          ∙ sym (held_is t (code_of (reverse_of k)) a b.st.entries b.entries room);
      even = λ a k h own.
          ap (λ (n : ℕ). n % 2) (held_is a (code_of k) a b.st.entries b.entries room) ∙ even_ends b.entries b.st.entries f.pairs a k h own;
    }

-- what the passes start from
abbrev start_of : Bld → List ℕ → Tables
start_of b bonds = tables (trimmed (b.st.atoms * atom_words) b.atoms) bonds (replicate atom_limit 0)

module _ (b : Bld) (bonds : List ℕ) where
  ready : Facts b → b.st.entries * bond_words ≤ length bonds → BuildReady (start_of b bonds) b.entries b.st
  ready f room =
      let c = f.counts in
      let within : b.st.atoms * atom_words ≤ length b.atoms = omega (arith, c.atoms, c.atom_room) in
      let listed : b.st.entries * entry_words ≤ length b.entries = omega (arith, c.entries, c.entry_room) in
      record {
        atoms = omega (arith, within, trimmed_length (b.st.atoms * atom_words) b.atoms within);
        bonds = room;
        starts = omega (arith, c.atoms, c.places, length-replicate {A = ℕ} atom_limit 0);
        entries = listed;
        few = omega (arith, c.entries, c.slots);
        sources = sources_of b.st.atoms b.st.entries b.entries listed (source_at_lem b f);
      }

  -- each way out but the last is numbered otherwise
  no_state : is_state b ≡ false → (build_d b bonds).number ≡ 17
  unfolding build_d
  no_state e = rw e refl

  module _ (holds : is_state b ≡ true) where
    no_room : roomy b.st bonds ≡ false → (build_d b bonds).number ≡ 17
    unfolding build_d
    no_room e = rw (holds, e) refl

    module _ (room : roomy b.st bonds ≡ true) where
      goes : build_d b bonds ≡ left_of (build_of (start_of b bonds) b.entries b.st) b.st
      unfolding build_d
      goes = rw (holds, room) refl

      is_ready : BuildReady (start_of b bonds) b.entries b.st
      unfolding roomy
      is_ready = ready (facts b holds) (leb-true (b.st.entries * bond_words) (length bonds) room)

      failing : (f : FailedJoin) → b.st.failed ≡ Some f → (build_d b bonds).number ≡ 3
      unfolding left_of built_answered answer_leaves
      failing f e =
          ap (λ (x : BuildLeft). x.number) goes
          ∙ ap (λ (o : BuildOutcome). (left_of o b.st).number) (built_failed (start_of b bonds) b.entries b.st f e)

      module _ (joined : b.st.failed ≡ None) where
        opening : unclosed ≤ first_open (upto b.st.atoms (entries_told b.st b.entries)) → (build_d b bonds).number ≡ 4
        unfolding left_of built_answered answer_leaves
        opening h =
            ap (λ (x : BuildLeft). x.number) goes
            ∙ ap (λ (o : BuildOutcome). (left_of o b.st).number) (built_open (start_of b bonds) b.entries b.st is_ready joined h)

        closing : first_open (upto b.st.atoms (entries_told b.st b.entries)) < unclosed → build_d b bonds ≡ state_graph b bonds
        unfolding left_of built_answered answer_leaves
        closing h =
            goes ∙ ap (λ (o : BuildOutcome). left_of o b.st) (built_done (start_of b bonds) b.entries b.st is_ready joined h)

  -- from a state, into a table with room, it is not answered 17
  pub build_other : is_state b ≡ true → roomy b.st bonds ≡ true → (build_d b bonds).number ≢ bad_table
  build_other holds room z = by_failure b.st.failed refl where
    by_open : (joined : b.st.failed ≡ None) (q : Bool) → ltb (first_open (upto b.st.atoms (entries_told b.st b.entries))) unclosed ≡ q → ⊥
    by_open joined true e = let is : (build_d b bonds).number ≡ 0 = ap (λ (x : BuildLeft). x.number) (closing holds room joined (ltb-true _ _ e)) in omega (arith, z, is)
    by_open joined false e = omega (arith, z, opening holds room joined (ltb-false _ _ e))

    by_failure : (q : Option FailedJoin) → b.st.failed ≡ q → ⊥
    by_failure (Some f) e = omega (arith, z, failing holds room f e)
    by_failure None e = by_open e (ltb (first_open (upto b.st.atoms (entries_told b.st b.entries))) unclosed) refl

  -- a build that is answered 0 leaves the graph of its state, and each bond is held at both ends as reverses
  pub done_holds : (build_d b bonds).number ≡ 0 → (build_d b bonds ≡ state_graph b bonds) × EntriesBothEnds (entries_told b.st b.entries)
  done_holds z = by_state (is_state b) refl where
    by_open : (holds : is_state b ≡ true) (room : roomy b.st bonds ≡ true) (joined : b.st.failed ≡ None) (q : Bool) → ltb (first_open (upto b.st.atoms (entries_told b.st b.entries))) unclosed ≡ q → (build_d b bonds ≡ state_graph b bonds) × EntriesBothEnds (entries_told b.st b.entries)
    by_open holds room joined true e = (closing holds room joined (ltb-true _ _ e), told_ends b (facts b holds))
    by_open holds room joined false e = absurd (omega (arith, z, opening holds room joined (ltb-false _ _ e)))

    by_failure : (holds : is_state b ≡ true) (room : roomy b.st bonds ≡ true) (q : Option FailedJoin) → b.st.failed ≡ q → (build_d b bonds ≡ state_graph b bonds) × EntriesBothEnds (entries_told b.st b.entries)
    by_failure holds room (Some f) e = absurd (omega (arith, z, failing holds room f e))
    by_failure holds room None e = by_open holds room e (ltb (first_open (upto b.st.atoms (entries_told b.st b.entries))) unclosed) refl

    by_room : (holds : is_state b ≡ true) (q : Bool) → roomy b.st bonds ≡ q → (build_d b bonds ≡ state_graph b bonds) × EntriesBothEnds (entries_told b.st b.entries)
    by_room holds true e = by_failure holds e b.st.failed refl
    by_room holds false e = absurd (omega (arith, z, no_room holds e))

    by_state : (q : Bool) → is_state b ≡ q → (build_d b bonds ≡ state_graph b bonds) × EntriesBothEnds (entries_told b.st b.entries)
    by_state true e = by_room e (roomy b.st bonds) refl
    by_state false e = absurd (omega (arith, z, no_state e))
