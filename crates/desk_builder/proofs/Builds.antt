-- The ways out of a build, each from what the calls on the way ensure. Assumes nothing.
use Prim.Native.Nat.{ℕ, ◌*◌, ◌-◌, ◌<◌, ◌≤◌}
use mathlib.Core.Path.{◌≡◌, sym, ap, ◌∙◌}
use mathlib.Core.List.{List, [], ◌++◌, append-nil}
use mathlib.Core.Bool.{Bool, true, false, not}
use native.Mathlib.Omega.{arith}
use lib.ListN.{length, take, drop, replicate, length-drop, drop_of_length-le}
use lib.Seq.{take_all}
use borrow.Author.Tests.{not-true, not-false, lt-leb, le-leb}
use borrow.Rule.Slice.PartMut.{mid_of, put_mid}
use Rattle.table.specs.Records.{atom_words, bond_words}
use Rattle.table.specs.Limits.{atom_limit}
use Rattle.builder.specs.State.{Bld}
use Rattle.table.specs.Zeros.{zeroed}
use Rattle.builder.specs.Build.{BuildOutcome, outcome, tables, build_of}
use Rattle.builder.specs.Build.{Built}
use Rattle.desk_state.specs.Standing.{is_state}
use Rattle.desk_builder.specs.Build.{answer_leaves, built_answered, left_of, trimmed, roomy, build_d}
use Rattle.std.specs.Prelude.{Err, Result}
use Rattle.desk_builder.specs.declared.calls.Refusal.{Refusal}
use Rattle.desk_builder.specs.declared.calls.Refusal.TheVariants.{BadTable}
use Rattle.desk_builder.proofs.Ways.{state_counts}

-- the words of a state's atoms are within the table, and their number is small
pub end_within : (b : Bld) {q : Bool} → q ≡ is_state b → not q ≡ false → (b.st.atoms * atom_words ≤ length b.atoms) × (b.st.atoms ≤ atom_limit)
end_within b e holds =
    let h = state_counts b e holds in
    (omega (arith, h.atoms, h.atom_room), omega (arith, h.atoms, h.places))

-- zeros put from a place within on
pub trimmed_is : (t d : List ℕ) (n : ℕ) → n ≤ length t → d ≡ zeroed (mid_of n (length t - n) t) → put_mid n (length t - n) t d ≡ trimmed n t
unfolding trimmed
trimmed_is t d n h e =
    let z : drop (length t - n) (drop n t) ≡ [] =
    drop_of_length-le (drop n t) {i = length t - n} (simp length-drop (omega arith)) in
    let m : mid_of n (length t - n) t ≡ drop n t = take_all (length t - n) (drop n t) (simp length-drop (omega arith)) in
    ap (λ (r : List ℕ). take n t ++ (d ++ r)) z
    ∙ ap (λ (r : List ℕ). take n t ++ r) (append-nil d)
    ∙ ap (λ (r : List ℕ). take n t ++ r) (e ∙ ap zeroed m)

module _ (b : Bld) (bonds : List ℕ) {q : Bool} (judges : q ≡ is_state b) where
  -- no state
  pub build_none : {x y : List ℕ} → not q ≡ true → x ≡ zeroed b.atoms → y ≡ zeroed bonds → answer_leaves (Err BadTable) x y ≡ build_d b bonds
  unfolding answer_leaves build_d
  build_none none ex ey = rw (ex, ey, sym judges ∙ not-true q none)

  module _ (holds : not q ≡ false) where
    -- too little room
    pub build_less : {x y : List ℕ} → length bonds < b.st.entries * bond_words → x ≡ zeroed b.atoms → y ≡ zeroed bonds → answer_leaves (Err BadTable) x y ≡ build_d b bonds
    unfolding answer_leaves build_d roomy
    build_less less ex ey = rw (ex, ey, sym judges ∙ not-false q holds, lt-leb (b.st.entries * bond_words) (length bonds) less)

    -- what the build comes to
    pub build_goes : {d x y z : List ℕ} (r : Built) {a : Result (ℕ × ℕ) Refusal} → b.st.entries * bond_words ≤ length bonds → d ≡ zeroed (mid_of (b.st.atoms * atom_words) (length b.atoms - b.st.atoms * atom_words) b.atoms) → outcome r (tables x y z) ≡ build_of (tables (put_mid (b.st.atoms * atom_words) (length b.atoms - b.st.atoms * atom_words) b.atoms d) bonds (replicate atom_limit 0)) b.entries b.st → a ≡ built_answered r b.st.atoms b.st.entries → answer_leaves a x y ≡ build_d b bonds
    unfolding build_d roomy left_of
    build_goes {d} {x} {y} r room clears is named =
        ap (λ (w : Result (ℕ × ℕ) Refusal). answer_leaves w x y) named
        ∙ ap (λ (o : BuildOutcome). left_of o b.st) is
        ∙ ap (λ (t : List ℕ). left_of (build_of (tables t bonds (replicate atom_limit 0)) b.entries b.st) b.st) (trimmed_is b.atoms d (b.st.atoms * atom_words) (end_within b judges holds).0 clears)
        ∙ rw (sym judges ∙ not-false q holds, le-leb (b.st.entries * bond_words) (length bonds) room)
