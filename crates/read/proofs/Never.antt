-- A read never answers 18: whenever the reader extends or joins, there is a current atom. Assumes nothing.
use Prim.Native.Nat.{ℕ, zero, suc, ◌+◌, ◌-◌, ◌<◌, ◌≤◌}
use mathlib.Core.Path.{◌≡◌, refl, sym, ap, ◌∙◌, subst}
use mathlib.Core.List.{List, [], ◌∷◌}
use mathlib.Core.Bool.{Bool, true, false, true≢false}
use native.Mathlib.Omega.{arith}
use lib.ListN.{length, get_or}
use lib.Dec.{eqb, ltb, leb}
use borrow.Author.Tests.{eqb-true, eqb-false, ne_eqb}
use Rattle.feature.specs.Pick.{pick}
use Rattle.feature.specs.Text.{byte}
use Rattle.feature.specs.Kinds.{invert_of}
use Rattle.feature.specs.Bonds.{reconcile_of}
use Rattle.feature.specs.declared.atom_kind.AtomKind.{AtomKind}
use Rattle.std.specs.Prelude.{None, Option, Some}
use Rattle.feature.specs.declared.bond_kind.BondKind.{BondKind}
use Rattle.desk_numbers.specs.Numbers.{end_of_line, character, inversion, atom_room, bond_room, nesting}
use Rattle.feature.proofs.Cases.{by_either, by_test, impossible}
use Rattle.read_token.specs.Scan.{peek_at, atom_at, rnum_at}
use Rattle.std.specs.Prelude.{Err, Ok}
use Rattle.read_token.specs.Scan.{Ring}
use Rattle.read_token.specs.Scan.{Found}
use Rattle.read_token.specs.declared.scanner.Missing.{Missing}
use Rattle.read_token.specs.declared.scanner.Missing.TheVariants.{EndOfLine, Character}
use Rattle.table.specs.Limits.{text_limit, branch_limit}
use Rattle.builder.specs.State.{Bld, bld, failed_join, broken_st, refused_st, refuse, entered, bonded, root_of, extended_by, extend_of, opened_of, last_of, opening_of, opening_kind, failed_st, closed_by, join_of, pop_of}
use Rattle.builder.specs.declared.builder.Builder.{Builder}
use Rattle.read_line.specs.declared.lead.Lead.{Lead}
use Rattle.read_line.specs.declared.lead.Lead.TheVariants.{Dot, Bond}
use Rattle.read_line.specs.Events.{ReadEvent, on, Enter, Join, Pop, Miss, Nest, counted_st, mark_judged, unstored_of, led_of, enter_of, ring_of, missing_st, step, run}
use Rattle.read_line.specs.Parse.{Rest, one_of, led_at, body_at, miss_p, found_p, atom_p, ring_p, union_by, union_p, unit_by, unit_p, line_p, close_p, branch_p, bodies, end_p, parse}
use Rattle.read_line.proofs.Bodies.{by_body_lem}
use Rattle.std.specs.Prelude.{is_some}
use Rattle.builder.specs.Build.{Built}
use Rattle.builder.specs.declared.build.BuildError.TheVariants as built
use Rattle.read.specs.Read.{Answer}
use Rattle.read.specs.declared.ReadError.TheVariants.{NoAtom}
use Rattle.read.specs.Read.{Said, read_refusal, built_answer}
use Rattle.read.specs.Steps.{built_said, state_of, state_said, within, read_of}
use Rattle.read.specs.Line.{read_text}
use Rattle.read_line.proofs.Counts.{missing_not}
use Rattle.read_line.proofs.Turn.{run_stuck}
use Rattle.read.proofs.Lines.{read_line}

-- ---- events that keep a current atom, from so many atoms on the path

abbrev pub Sound : ℕ → List ReadEvent → Type 0
Sound d [] = Unit {0}
Sound d (Enter Dot k p ∷ es) = Sound (d + 1) es
Sound d (Enter (Bond e) k p ∷ es) = (0 < d) × Sound (d + 1) es
Sound d (Join e n p ∷ es) = (0 < d) × Sound d es
Sound d (Pop n ∷ es) = (n < d) × Sound (d - n) es
Sound d (Miss m ∷ es) = Unit {0}
Sound d (Nest p ∷ es) = Unit {0}

-- the refusals that a reading can meet; 0 is none
abbrev known : ℕ → Bool
known r = one_of r (0 ∷ end_of_line ∷ character ∷ inversion ∷ atom_room ∷ bond_room ∷ nesting ∷ [])

-- nothing else was refused, and while nothing is refused and no join has failed the path is so long
record Fine (b : Bld) (d : ℕ) : Type 0 where
  other : known b.st.refusal ≡ true
  level : b.st.refusal ≡ 0 → is_some b.st.failed ≡ false → b.st.top ≡ d

module _ (b : Bld) (going : b.st.refusal ≡ 0) where
  -- a refusal that is not 18
  refused_fine : (d r n : ℕ) → known r ≡ true → (r ≡ 0 → ⊥) → Fine (refuse b r n) d
  unfolding refuse
  refused_fine d r n other nz = record { other = other; level = λ z f. absurd (nz z) }

  -- after a failure nothing is asked of the path
  numb_fine : (d : ℕ) (s : Builder) → known s.refusal ≡ true → s.failed ≡ b.st.failed → is_some b.st.failed ≡ true → Fine (on b s) d
  numb_fine d s other same failed = record { other = other; level = λ z f. absurd (true≢false (sym (ap is_some same ∙ failed) ∙ f)) }

  same_known : known b.st.refusal ≡ true
  same_known = rw going

  judged_other : (t : Option AtomKind) → known (mark_judged b.st t).refusal ≡ true
  unfolding mark_judged
  judged_other None = refl
  judged_other (Some k) = same_known

  judged_same : (t : Option AtomKind) → (mark_judged b.st t).failed ≡ b.st.failed
  unfolding mark_judged
  judged_same None = refl
  judged_same (Some k) = refl

  module _ (d : ℕ) (top : b.st.top ≡ d) where
    entered_fine : (k : AtomKind) (e : ℕ) → Fine (entered b k e) (d + 1)
    unfolding entered
    entered_fine k e = record { other = same_known; level = λ z f. ap (λ (n : ℕ). n + 1) top }

    root_fine : (k : AtomKind) (p : ℕ) → Fine (root_of b k p) (d + 1)
    unfolding root_of
    root_fine k p =
        by_either (λ (x : Bld). Fine x (d + 1)) (leb b.st.places b.st.atoms)
        (refused_fine (d + 1) atom_room _ refl (λ z. omega arith)) (entered_fine k _)

    extended_fine : (e : BondKind) (t : Option AtomKind) → Fine (extended_by b e t) (d + 1)
    unfolding extended_by bonded entered
    extended_fine e None = refused_fine (d + 1) inversion _ refl (λ z. omega arith)
    extended_fine e (Some k) = record { other = same_known; level = λ z f. ap (λ (n : ℕ). n + 1) top }

    extend_fine : (e : BondKind) (k : AtomKind) (p : ℕ) → 0 < d → Fine (extend_of b e k p) (d + 1)
    unfolding extend_of
    extend_fine e k p h =
        let stands : b.st.top ≡ 0 → ⊥ = λ z. omega arith in
        rw (ne_eqb _ _ stands)
        (by_either (λ (x : Bld). Fine x (d + 1)) (leb b.st.places b.st.atoms)
        (refused_fine (d + 1) atom_room _ refl (λ z. omega arith))
        (by_either (λ (x : Bld). Fine x (d + 1)) (ltb b.st.slots (b.st.entries + 2))
        (refused_fine (d + 1) bond_room _ refl (λ z. omega arith))
        (extended_fine e (invert_of k))))

    opened_fine : (e : BondKind) (n : ℕ) → Fine (opened_of b e n) d
    unfolding opened_of
    opened_fine e n = record { other = same_known; level = λ z f. top }

    failed_fine : (x y : ℕ) (r : List ℕ) → Fine (bld b.atoms b.entries b.path r (failed_st b.st x y)) d
    unfolding failed_st
    failed_fine x y r = split (is_some b.st.failed) refl where
      kept : Bool → Builder
      kept q =
          pick q
          (broken_st b.st b.st.failed)
          (broken_st b.st (Some (failed_join x y)))

      split : (q : Bool) → is_some b.st.failed ≡ q → Fine (bld b.atoms b.entries b.path r (kept q)) d
      split true e = record { other = same_known; level = λ z f. absurd (true≢false (sym e ∙ f)) }
      split false e = record { other = same_known; level = λ z f. absurd (true≢false f) }

    closed_fine : (n p : ℕ) (q : Option (BondKind × BondKind)) → Fine (closed_by b n p q) d
    unfolding closed_by
    closed_fine n p None = failed_fine (last_of b) (opening_of b n) _
    closed_fine n p (Some (l, r)) =
        by_either (λ (x : Bld). Fine x d) (ltb b.st.slots (b.st.entries + 1))
        (refused_fine d bond_room _ refl (λ z. omega arith))
        (record { other = same_known; level = λ z f. top })

    join_fine : (e : BondKind) (n p : ℕ) → 0 < d → Fine (join_of b e n p) d
    unfolding join_of
    join_fine e n p h =
        let stands : b.st.top ≡ 0 → ⊥ = λ z. omega arith in
        rw (ne_eqb _ _ stands)
        (by_either (λ (x : Bld). Fine x d) (eqb (get_or b.rings n 0) 0)
        (by_either (λ (x : Bld). Fine x d) (ltb b.st.slots (b.st.entries + 1))
        (refused_fine d bond_room _ refl (λ z. omega arith)) (opened_fine e n))
        (closed_fine n p (reconcile_of (opening_kind b n) e)))

module _ (b : Bld) (d : ℕ) (going : b.st.refusal ≡ 0) (fine : Fine b d) where
  dot_fine : (k : AtomKind) (p : ℕ) → Fine (enter_of b Dot k p) (d + 1)
  unfolding enter_of led_of unstored_of
  dot_fine k p =
      by_test (λ (x : Bld). Fine x (d + 1)) (is_some b.st.failed)
      (λ f. numb_fine b going (d + 1) (counted_st b.st) (same_known b going) refl f)
      (λ f. root_fine b going d (fine.level going f) k p)

  bond_fine : (e : BondKind) (k : AtomKind) (p : ℕ) → 0 < d → Fine (enter_of b (Bond e) k p) (d + 1)
  unfolding enter_of led_of unstored_of
  bond_fine e k p h =
      by_test (λ (x : Bld). Fine x (d + 1)) (is_some b.st.failed)
      (λ f. numb_fine b going (d + 1) (mark_judged b.st (invert_of k)) (judged_other b going (invert_of k)) (judged_same b going (invert_of k)) f)
      (λ f. extend_fine b going d (fine.level going f) e k p h)

  ring_fine : (e : BondKind) (n p : ℕ) → 0 < d → Fine (ring_of b e n p) d
  unfolding ring_of
  ring_fine e n p h =
      by_test (λ (x : Bld). Fine x d) (is_some b.st.failed) (λ f. fine) (λ f. join_fine b going d (fine.level going f) e n p h)

  pop_fine : (n : ℕ) → Fine (pop_of b n) (d - n)
  unfolding pop_of
  pop_fine n = record { other = fine.other; level = λ z f. ap (λ (t : ℕ). t - n) (fine.level z f) }

missing_other : (s : Builder) (m : Missing) → known (missing_st s m).refusal ≡ true
unfolding missing_st
missing_other s EndOfLine = refl
missing_other s (Character p) = refl

-- what holds of the rest of the events
Never : List ReadEvent → Type 0
Never es = (b : Bld) (d : ℕ) → Fine b d → Sound d es → known (run b es).st.refusal ≡ true

fine_step : (e : ReadEvent) (es : List ReadEvent) (b : Bld) (d : ℕ) → b.st.refusal ≡ 0 → Fine b d → Sound d (e ∷ es) → Never es → known (run (step b e) es).st.refusal ≡ true
unfolding step Never
fine_step (Enter Dot k p) es b d going f s rest = rest _ (d + 1) (dot_fine b d going f k p) s
fine_step (Enter (Bond e) k p) es b d going f s rest = rest _ (d + 1) (bond_fine b d going f e k p s.0) s.1
fine_step (Join e n p) es b d going f s rest = rest _ d (ring_fine b d going f e n p s.0) s.1
fine_step (Pop n) es b d going f s rest = rest _ (d - n) (pop_fine b d going f n) s.1
fine_step (Miss m) es b d going f s rest =
    ap (λ (x : Bld). known x.st.refusal) (run_stuck (on b (missing_st b.st m)) es (missing_not b.st m)) ∙ missing_other b.st m
fine_step (Nest p) es b d going f s rest =
    ap (λ (x : Bld). known x.st.refusal) (run_stuck (on b (refused_st b.st nesting p)) es (λ e. omega arith)) ∙ refl

-- such events meet only those refusals
fine_run : (es : List ReadEvent) → Never es
unfolding Never run
fine_run [] b d f s = f.other
fine_run (e ∷ es) b d f s =
    by_test (λ (x : Bld). known x.st.refusal ≡ true) (eqb b.st.refusal 0)
    (λ q. fine_step e es b d (eqb-true _ _ q) f s (fine_run es)) (λ q. f.other)

-- ---- and a text's events are such

-- what follows a line of n atoms, over so many others on the path
Follows : ℕ → Rest → Type 0
Follows base k = (at n : ℕ) → 1 ≤ n → Sound (base + n) (k at n)

-- an atom can be led in
Led : Lead → ℕ → Type 0
Led Dot d = Unit {0}
Led (Bond e) d = 0 < d

same_depth : (base n : ℕ) → base + (n + 1) ≡ base + n + 1
same_depth base n = omega arith

enter_sound : (l : Lead) (k : AtomKind) (p base n : ℕ) (es : List ReadEvent) → Led l (base + n) → Sound (base + (n + 1)) es → Sound (base + n) (Enter l k p ∷ es)
unfolding Led
enter_sound Dot k p base n es h s = subst (λ (d : ℕ). Sound d es) (same_depth base n) s
enter_sound (Bond e) k p base n es h s = (h, subst (λ (d : ℕ). Sound d es) (same_depth base n) s)

found_sound : (s : List ℕ) (at : ℕ) (l : Lead) (base n : ℕ) (k : Rest) → Led l (base + n) → Follows base k → (q : Found) → Sound (base + n) (found_p s at l n k q)
unfolding found_p miss_p Follows
found_sound s at l base n k h f (Ok (Some (kind, next))) = enter_sound l kind at base n (k next (n + 1)) h (f next (n + 1) (omega arith))
found_sound s at l base n k h f (Ok None) = tt
found_sound s at l base n k h f (Err m) = tt

atom_sound : (s : List ℕ) (at : ℕ) (l : Lead) (base n : ℕ) (k : Rest) → Led l (base + n) → Follows base k → Sound (base + n) (atom_p s at l n k)
unfolding atom_p
atom_sound s at l base n k h f = found_sound s at l base n k h f (atom_at s at)

module _ (s : List ℕ) (at : ℕ) (bond : BondKind) (base n : ℕ) (k : Rest) (some : 1 ≤ n) (f : Follows base k) where
  ring_sound : (q : Ring) → Sound (base + n) (ring_p s at bond n k q)
  unfolding ring_p miss_p Follows
  ring_sound (Ok (Some (r, next))) = (omega arith, f next n some)
  ring_sound (Ok None) = tt
  ring_sound (Err m) = tt

  union_sound : (q : Found) → Sound (base + n) (union_by s at bond n k q)
  unfolding union_by Led Follows
  union_sound (Ok (Some (kind, next))) = enter_sound (Bond bond) kind at base n (k next (n + 1)) (omega arith) (f next (n + 1) (omega arith))
  union_sound (Ok None) = ring_sound (rnum_at s at)
  union_sound (Err m) = tt

unit_sound : (s : List ℕ) (at base n : ℕ) (k : Rest) → 1 ≤ n → Follows base k → (l : Lead) → Sound (base + n) (unit_by s at n k l)
unfolding unit_by union_p Led
unit_sound s at base n k some f Dot = atom_sound s at Dot base n k tt f
unit_sound s at base n k some f (Bond e) = union_sound s at e base n k some f (atom_at s at)

led_some : (l : Lead) (d : ℕ) → 0 < d → Led l d
unfolding Led
led_some Dot d h = tt
led_some (Bond e) d h = h

-- after a branch as many atoms are on the path as before it
close_sound : (s : List ℕ) (base : ℕ) (k : ℕ → List ReadEvent) → 0 < base → ((at : ℕ) → Sound base (k at)) → Follows base (close_p s k)
unfolding close_p miss_p Follows
close_sound s base k h f at n some =
    by_either (λ (es : List ReadEvent). Sound (base + n) es) (eqb (peek_at s at) (byte ")"))
    (let back : base + n - n ≡ base = omega arith in (omega arith, subst (λ (d : ℕ). Sound d (k (at + 1))) (sym back) (f (at + 1)))) tt

bodies_sound : (f : ℕ) (s : List ℕ) (room at base n : ℕ) (k : Rest) → 1 ≤ n → Follows base k → Sound (base + n) (bodies f s room at n k)
unfolding bodies branch_p line_p unit_p Follows
bodies_sound zero s room at base n k some f = tt
bodies_sound (suc g) s room at base n k some f =
    let line : Sound (base + n + 0) (line_p (bodies g s (room - 1)) s (led_at s (at + 1)).next (led_at s (at + 1)).value (close_p s (λ at'. bodies g s room at' n k))) =
    atom_sound s (led_at s (at + 1)).next (led_at s (at + 1)).value (base + n) 0 _ (led_some _ _ (omega arith))
    (λ at' n' some'. bodies_sound g s (room - 1) at' (base + n) n' _ some'
    (close_sound s (base + n) _ (omega arith) (λ at''. bodies_sound g s room at'' base n k some f))) in
    let flat : base + n + 0 ≡ base + n = omega arith in
    by_body_lem (λ (es : List ReadEvent). Sound (base + n) es) (body_at s at) (f at n some)
    (by_either (λ (es : List ReadEvent). Sound (base + n) es) (eqb room 0) tt
    (subst (λ (d : ℕ). Sound d (line_p (bodies g s (room - 1)) s (led_at s (at + 1)).next (led_at s (at + 1)).value (close_p s (λ at'. bodies g s room at' n k)))) flat line))
    (unit_sound s (led_at s at).next base n _ some (λ at' n' some'. bodies_sound g s room at' base n' k some' f) (led_at s at).value)

end_sound : (s : List ℕ) → Follows 0 (end_p s)
unfolding end_p Follows
end_sound s at n some = by_either (λ (es : List ReadEvent). Sound (0 + n) es) (ltb at (length s)) tt tt

pub parse_sound : (s : List ℕ) → Sound 0 (parse s)
unfolding parse line_p Led Follows
parse_sound s =
    atom_sound s 0 Dot 0 0 _ tt
    (λ at n some. bodies_sound (length s + 1) s branch_limit at 0 n (end_p s) some (end_sound s))

-- ---- so of a line 18 is never said

-- an answer that is not this one was not picked
passed : (q : Bool) {x y z : Answer} → (x ≡ z → ⊥) → pick q x y ≡ z → (q ≡ false) × (y ≡ z)
passed true h e = absurd (h e)
passed false h e = (refl, e)

refusal_said : (r c : ℕ) → known r ≡ true → (r ≡ 0 → ⊥) → read_refusal r c ≡ Err NoAtom → ⊥
unfolding read_refusal
refusal_said r c k nz e =
    let r1 = passed (eqb r end_of_line) (λ h. impossible cc) e in
    let r2 = passed (eqb r character) (λ h. impossible cc) r1.1 in
    let r3 = passed (eqb r inversion) (λ h. impossible cc) r2.1 in
    let r4 = passed (eqb r atom_room) (λ h. impossible cc) r3.1 in
    let r5 = passed (eqb r bond_room) (λ h. impossible cc) r4.1 in
    let r6 = passed (eqb r nesting) (λ h. impossible cc) r5.1 in
    true≢false (sym k ∙ simp (ne_eqb r 0 nz, r1.0, r2.0, r3.0, r4.0, r5.0, r6.0))

built_said_lem : (r : Built) (n m : ℕ) → built_answer r n m ≡ Err NoAtom → ⊥
unfolding built_answer
built_said_lem (Ok _) n m e = impossible cc
built_said_lem (Err (built.Join x y)) n m e = impossible cc
built_said_lem (Err (built.Rnum j)) n m e = impossible cc

state_known : (s a : List ℕ) (lb : ℕ) (e p r : List ℕ) → known (state_of s a lb e p r).st.refusal ≡ true
unfolding state_of Never
state_known s a lb e p r =
    fine_run (parse s) _ 0 (record { other = refl; level = λ z f. refl }) (parse_sound s)

said_never : (lb : ℕ) (b : Bld) → known b.st.refusal ≡ true → (state_said lb b).answer ≡ Err NoAtom → ⊥
unfolding state_said built_said
said_never lb b k =
    by_test (λ (x : Said). x.answer ≡ Err NoAtom → ⊥) (eqb b.st.refusal 0)
    (λ q. built_said_lem _ _ _) (λ q. refusal_said _ _ k (eqb-false _ _ q))

-- no text, whatever is lent, is answered with 18
pub never_18 : (s : List ℕ) (la lb : ℕ) → (read_text s la lb).answer ≡ Err NoAtom → ⊥
unfolding read_of within
never_18 s la lb e =
    by_either (λ (x : Said). x.answer ≡ Err NoAtom → ⊥) (ltb text_limit (length s))
    (λ h. impossible cc) (said_never lb _ (state_known s _ lb _ _ _))
    (ap (λ (x : Said). x.answer) (read_line s la lb) ∙ e)
