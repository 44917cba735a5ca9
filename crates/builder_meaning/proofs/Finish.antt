-- A build of tables leaves what is said of the sketch that is the same. Assumes nothing.
use Prim.Native.Nat.{ℕ, ◌+◌, ◌*◌, ◌-◌, ◌≤◌}
use mathlib.Core.Path.{◌≡◌, refl, ◌∙◌, ap, ap₂, sym, subst}
use mathlib.Core.List.{List}
use mathlib.Core.Option.{Option, none, some}
use native.Mathlib.Omega.{arith}
use lib.ListN.{length, take}
use lib.Seq.{sets}
use Rattle.table.specs.Records.{atom_words, bond_words}
use Rattle.builder.specs.State.{Bld, unclosed, entry_words, failed_join}
use Rattle.std.specs.Prelude.{Err, Ok}
use Rattle.builder.specs.Build.{Built}
use Rattle.builder.specs.declared.build.BuildError.TheVariants as built
use Rattle.table.specs.Zeros.{zeroed}
use Rattle.builder.specs.Build.{upto, tallied, first_open, Tables, tables, BuildOutcome, build_of, entries_told}
use Rattle.builder.specs.Steps.{degree, Sources, BuildReady}
use Rattle.builder.proofs.Degrees.{tallied_length, words_kept, upto_length}
use Rattle.builder.proofs.Laws.{built_failed, total, degree_at_lem, built_done, built_open}
use Rattle.builder_meaning.specs.Sketch.{Node, Failure, None, Failed, Sketch, first_open_s, rings_say, says_s, finish_s, atom_table, bond_table, padded, left_s}
use Rattle.builder_meaning.proofs.Rows.{edges_of, flat}
use Rattle.builder_meaning.proofs.Same.{has_failed, failure_in, Same}
use Rattle.builder_meaning.proofs.Tables.{degree_rows, sources_rows, bonds_upto, laid_padded, words_table, LowNodes, low_rows, open_word, found_rows}

-- what a build says of some atoms, and what it leaves in tables of these lengths
pub record Says (o : BuildOutcome) (w : Built) (ns : List Node) (la lb : ℕ) : Type 0 where
  pub answer : o.answer ≡ w
  pub atoms : o.left.atoms ≡ left_s w la (atom_table ns)
  pub bonds : o.left.bonds ≡ left_s w lb (bond_table ns)

module _ (b : Bld) (d : Sketch) (same : Same b d) (bonds starts : List ℕ) (wide : d.slots * bond_words ≤ length bonds) (deep : d.places ≤ length starts) where
  abbrev lent : Tables
  lent = tables b.atoms bonds starts

  -- a join failed
  says_failed : (x y : ℕ) → d.failure ≡ Failed x y → Says (build_of lent b.entries b.st) (says_s (Failed x y) d.nodes) d.nodes (length b.atoms) (length bonds)
  unfolding says_s left_s failure_in
  says_failed x y e =
      subst (λ (o : BuildOutcome). Says o (Err (built.Join x y)) d.nodes (length b.atoms) (length bonds))
      (sym (built_failed lent b.entries b.st (failed_join x y) (same.state.failed ∙ ap failure_in e)))
      (record {
        answer = refl;
        atoms = refl;
        bonds = refl;
      })

  -- none did
  module _ (going : d.failure ≡ None) where
    atoms_held : b.st.atoms ≡ length same.kinds
    unfolding has_failed
    atoms_held = omega (arith, same.state.atoms, same.state.seen (ap has_failed going))

    told : entries_told b.st b.entries ≡ flat same.rows
    told = ap (λ (n : ℕ). take (n * entry_words) b.entries) same.state.entries ∙ same.entries.words

    ready : BuildReady lent b.entries b.st
    ready =
        record {
          atoms = omega (arith, atoms_held, same.state.fits, same.room.atoms);
          bonds = omega (arith, same.state.entries, same.state.holds, wide);
          starts = omega (arith, atoms_held, same.state.fits, deep);
          entries = omega (arith, same.state.entries, same.state.holds, same.room.entries);
          few = omega (arith, same.state.entries, same.state.holds, same.room.small);
          sources = subst (λ (n : ℕ). Sources n (entries_told b.st b.entries)) (sym atoms_held)
              (subst (λ (l : List ℕ). Sources (length same.kinds) l) (sym told) (sources_rows same.rows (length same.kinds) same.entries.sources));
        }

    -- the bonds, atom after atom
    bonds_are : upto b.st.atoms (entries_told b.st b.entries) ≡ bond_table d.nodes
    bonds_are =
        ap₂ (λ (n : ℕ) (l : List ℕ). upto n l) atoms_held told
        ∙ bonds_upto same.kinds same.rows ∙ ap bond_table (sym same.entries.nodes)

    bonds_fit : length (bond_table d.nodes) ≤ length bonds
    bonds_fit =
        omega (arith, ap length (sym bonds_are), upto_length b.st.atoms (entries_told b.st b.entries), total lent b.entries b.st ready, ready.bonds)

    -- the first open entry
    found : first_open (upto b.st.atoms (entries_told b.st b.entries)) ≡ open_word (first_open_s d.nodes)
    found =
        ap first_open bonds_are
        ∙ found_rows d.nodes
        (subst LowNodes (sym same.entries.nodes) (low_rows same.kinds same.rows (λ p x h e. omega (arith, same.entries.ends p x h e, same.state.fits, same.room.few))))

    -- the atoms with their numbers of entries
    atoms_are : tallied b.st.atoms (entries_told b.st b.entries) b.atoms ≡ padded (length b.atoms) (atom_table d.nodes)
    atoms_are =
        let n = b.st.atoms in
        let es = entries_told b.st b.entries in
        words_table same.kinds (edges_of same.rows) (tallied n es b.atoms)
        (record {
          long = rw tallied_length (omega (arith, atoms_held, ready.atoms));
          first = λ i h. words_kept n (i * atom_words) es b.atoms ready.sources (λ a l e. omega arith) ∙ same.atoms.first i h;
          second = λ i h. words_kept n (i * atom_words + 1) es b.atoms ready.sources (λ a l e. omega arith) ∙ same.atoms.second i h;
          third = λ i h.
              degree_at_lem lent b.entries b.st ready i (omega (arith, atoms_held))
              ∙ ap (degree i) told ∙ degree_rows same.rows i;
          past = λ i h.
              words_kept n i es b.atoms ready.sources (λ a l e. omega (arith, atoms_held)) ∙ same.atoms.past i h;
        })
        ∙ ap₂ (λ (m : ℕ) (ns : List Node). padded m (atom_table ns)) (tallied_length n es b.atoms) (sym same.entries.nodes)

    says_rings : (o : Option ℕ) → first_open_s d.nodes ≡ o → Says (build_of lent b.entries b.st) (rings_say o) d.nodes (length b.atoms) (length bonds)
    unfolding rings_say left_s open_word failure_in
    says_rings none e =
        let f : first_open (upto b.st.atoms (entries_told b.st b.entries)) ≡ 0 = found ∙ ap open_word e in
        subst (λ (x : BuildOutcome). Says x (Ok tt) d.nodes (length b.atoms) (length bonds))
        (sym (built_done lent b.entries b.st ready (same.state.failed ∙ ap failure_in going) (omega (arith, f))))
        (record {
          answer = refl;
          atoms = atoms_are;
          bonds = ap (λ (t : List ℕ). sets (zeroed bonds) 0 t) bonds_are ∙ laid_padded (length bonds) (bond_table d.nodes) bonds_fit;
        })
    says_rings (some j) e =
        let f : first_open (upto b.st.atoms (entries_told b.st b.entries)) ≡ unclosed + j = found ∙ ap open_word e in
        let q : first_open (upto b.st.atoms (entries_told b.st b.entries)) - unclosed ≡ j = omega (arith, f) in
        subst (λ (x : BuildOutcome). Says x (Err (built.Rnum j)) d.nodes (length b.atoms) (length bonds))
        (sym (built_open lent b.entries b.st ready (same.state.failed ∙ ap failure_in going) (omega (arith, f))))
        (record { answer = ap (λ (x : ℕ). Err (built.Rnum x)) q; atoms = refl; bonds = refl })

  says_by : (f : Failure) → d.failure ≡ f → Says (build_of lent b.entries b.st) (says_s f d.nodes) d.nodes (length b.atoms) (length bonds)
  unfolding says_s
  says_by None e = says_rings e (first_open_s d.nodes) refl
  says_by (Failed x y) e = says_failed x y e

  -- a build: the answer, and both tables
  pub same_build : Says (build_of (tables b.atoms bonds starts) b.entries b.st) (finish_s d) d.nodes (length b.atoms) (length bonds)
  unfolding finish_s
  same_build = says_by d.failure refl
