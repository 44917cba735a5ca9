-- A line that was read to its end, and what is said of it. Assumes nothing.
use Prim.Native.Nat.{ℕ, ◌+◌, ◌/◌, ◌≤◌}
use mathlib.Core.Path.{◌≡◌, refl, sym, ap, ◌∙◌, subst}
use mathlib.Core.List.{List, [], ◌∷◌}
use mathlib.Core.Bool.{Bool, true, false}
use native.Mathlib.Omega.{arith}
use lib.ListN.{length, replicate}
use lib.Dec.{ltb, eqb}
use borrow.Author.Tests.{eq-eqb, ne_eqb, eqb-true, eqb-false}
use Rattle.feature.specs.Pick.{pick}
use Rattle.desk_numbers.specs.Numbers.{character}
use Rattle.table.specs.Records.{atom_words, bond_words}
use Rattle.table.specs.Limits.{text_limit, branch_limit, atom_limit, bond_limit, lesser_of}
use Rattle.builder.specs.State.{Bld, bld, fresh_builder, refused_st}
use Rattle.builder.specs.declared.builder.Builder.{Builder}
use Rattle.builder.specs.Build.{BuildOutcome, outcome, Tables, tables, build_of}
use Rattle.builder.specs.Build.{Built}
use Rattle.read_token.specs.declared.scanner.Missing.TheVariants.{Character}
use Rattle.read_line.specs.declared.lead.Lead.TheVariants.{Dot}
use Rattle.read_line.specs.Events.{Miss, on, missing_st, run}
use Rattle.read_line.specs.Parse.{parse, end_p}
use Rattle.read_line.specs.Steps.{reached_at, LineRead, ReadReady}
use Rattle.read_line.proofs.Turn.{run_stuck, run_miss, run_end}
use Rattle.read.specs.Read.{Answer}
use Rattle.read.specs.Read.{said, read_refusal, built_answer}
use Rattle.read.specs.Steps.{ended_st, built_said, state_of, state_said, within}

-- the last event of a text, if any
end_split : (s : List ℕ) (b : Bld) (at n : ℕ) (q : Bool) → eqb b.st.refusal 0 ≡ q → run b (end_p s at n) ≡ on b (pick q (pick (ltb at (length s)) (refused_st b.st character at) b.st) b.st)
unfolding end_p missing_st
end_split s b at n false e = run_stuck b _ (eqb-false _ _ e)
end_split s b at n true e = by_end (ltb at (length s)) where
  by_end : (p : Bool) → run b (pick p (Miss (Character at) ∷ []) []) ≡ on b (pick p (refused_st b.st character at) b.st)
  by_end true = run_miss b (Character at) [] (eqb-true _ _ e) ∙ run_end _
  by_end false = run_end b

module _ (s : List ℕ) (b₀ b : Bld) (at n : ℕ) (line : LineRead s 0 Dot branch_limit b₀ b at n) where
  ended : run b₀ (parse s) ≡ on b (ended_st s (reached_at at n b.st))
  unfolding parse ended_st
  ended =
      line.same (length s + 1) (end_p s) (omega arith) ∙ end_split s b at n (eqb b.st.refusal 0) refl

-- what is said, from the tables that the code has
module _ (s a e p r : List ℕ) (lb : ℕ) (start : Builder) (is-start : start ≡ fresh_builder (lesser_of atom_limit (length a / atom_words)) (lesser_of bond_limit (lb / bond_words))) (b : Bld) (at n : ℕ) (line : LineRead s 0 Dot branch_limit (bld a e p r start) b at n) (st : Builder) (is-st : st ≡ ended_st s (reached_at at n b.st)) where
  state_is : on b st ≡ state_of s a lb e p r
  unfolding state_of
  state_is =
      ap (on b) is-st ∙ sym (ended s (bld a e p r start) b at n line) ∙ ap (λ (x : Builder). run (bld a e p r x) (parse s)) is-start

  pub said_refused : (st.refusal ≡ 0 → ⊥) → (answer : Answer) (atoms bonds : List ℕ) → answer ≡ read_refusal st.refusal st.carried → atoms ≡ replicate (length b.atoms) 0 → bonds ≡ replicate lb 0 → said answer atoms bonds ≡ within s a lb e p r
  unfolding within state_said
  said_refused nz answer atoms bonds is-answer is-atoms is-bonds =
      ap (λ (x : Answer). said x atoms bonds) is-answer
      ∙ ap (λ (x : List ℕ). said (read_refusal st.refusal st.carried) x bonds) is-atoms
      ∙ ap (λ (x : List ℕ). said (read_refusal st.refusal st.carried) (replicate (length b.atoms) 0) x) is-bonds
      ∙ sym (ap (state_said lb) (sym state_is) ∙ rw (ne_eqb _ _ nz))

  pub said_built : st.refusal ≡ 0 → (bonds : List ℕ) → bonds ≡ replicate lb 0 → (built : Built) (left : Tables) → outcome built left ≡ build_of (tables b.atoms bonds b.path) b.entries st → (answer : Answer) → answer ≡ built_answer built st.atoms st.entries → said answer left.atoms left.bonds ≡ within s a lb e p r
  unfolding within state_said built_said
  said_built z bonds is-bonds built left is answer is-answer =
      ap (λ (x : Answer). said x left.atoms left.bonds) is-answer
      ∙ ap (λ (o : BuildOutcome). built_said o st) (is ∙ ap (λ (x : List ℕ). build_of (tables b.atoms x b.path) b.entries st) is-bonds)
      ∙ sym (ap (state_said lb) (sym state_is) ∙ rw (eq-eqb _ _ z))

-- a reading can begin
pub start_ready : (s : List ℕ) (p l : ℕ) (st : Builder) → st ≡ fresh_builder p l → length s ≤ text_limit → ReadReady s 0 st
start_ready s p l st is h =
    let fresh : ReadReady s 0 (fresh_builder p l) =
    record {
      going = refl;
      counted = record { atoms = omega arith; entries = omega arith; top = omega arith; joins = omega arith };
      within = omega arith;
      short = h;
    } in
    subst (ReadReady s 0) (sym is) fresh
