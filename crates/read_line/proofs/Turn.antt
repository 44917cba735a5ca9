-- The reader's steps on plain values: at each way through the code, the state that it leaves is what the events of the
-- grammar make. Assumes nothing.
use mathlib.Core.Path.{◌≡◌, refl, sym, ap, ◌∙◌, subst}
use mathlib.Core.Bool.{Bool, true, false, true≢false}
use mathlib.Core.List.{List, [], ◌∷◌}
use Prim.Native.Nat.{ℕ, zero, suc, ◌+◌, ◌-◌, ◌≤◌, ◌<◌}
use native.Mathlib.Omega.{arith}
use lib.ListN.{length}
use lib.Dec.{eqb, ltb}
use borrow.Author.Tests.{eq-eqb, ne_eqb, eqb-true, eqb-false}
use Rattle.feature.specs.Pick.{pick}
use Rattle.feature.specs.Text.{byte, bytes}
use Rattle.feature.specs.declared.atom_kind.AtomKind.{AtomKind}
use Rattle.feature.specs.declared.bond_kind.BondKind.{BondKind}
use Rattle.desk_numbers.specs.Numbers.{nesting}
use Rattle.read_token.specs.Scan.{Peeked, peek_at, missing_at, bond_at, atom_at, rnum_at}
use Rattle.std.specs.Prelude.{Err, None, Ok, Option, Some}
use Rattle.std.specs.Option.{option_eq}
use Rattle.read_token.specs.declared.scanner.Missing.{Missing}
use Rattle.read_token.proofs.Within.{byte_in, ring_in, bond_in_lem, atom_in}
use Rattle.builder.specs.declared.builder.Builder.{Builder}
use Rattle.table.specs.Limits.{text_limit}
use Rattle.builder.specs.State.{Bld, refused_st, popped_st, pop_of}
use Rattle.read_line.specs.declared.lead.Body.{Body}
use Rattle.read_line.specs.declared.lead.Body.TheVariants.{Ends, Branch, Unit}
use Rattle.read_line.specs.declared.lead.Lead.{Lead}
use Rattle.read_line.specs.declared.lead.Lead.TheVariants.{Dot, Bond}
use Rattle.read_token.specs.declared.scanner.Part.{Part}
use Rattle.read_line.specs.Events.{ReadEvent, Pop, Miss, Nest, on, enter_of, ring_of, missing_st, step, run}
use Rattle.read_line.specs.Parse.{Rest, led_at, one_of, body_of, body_at, miss_p, found_p, atom_p, ring_p, union_by, union_p, unit_by, unit_p, line_p, close_p, branch_p, bodies}
use Rattle.read_line.specs.Steps.{reached_at, reached_missing, reached_closed, Counted, ReadReady, Moved, AtomRead, RingRead, UnionRead, UnitRead, RestRead, LineRead, BranchRead}
use Rattle.read_line.proofs.Bodies.{mark_of}
use Rattle.read_line.proofs.Counts.{counted_more, enter_at, ring_at, pop_at, refused_at, missing_at_lem, missing_not}

-- a byte that was looked at and is the one that was asked for is there
pub seen : (s : List ℕ) (at b : ℕ) (r : Option ℕ) → Peeked s at r → true ≡ option_eq eqb r (Some b) → peek_at s at ≡ b
seen s at b None p e = absurd (true≢false e)
seen s at b (Some x) p e = sym p.is ∙ eqb-true x b (sym e)

-- ---- running

pub run_stuck : (b : Bld) (es : List ReadEvent) → (b.st.refusal ≡ 0 → ⊥) → run b es ≡ b
unfolding run
run_stuck b [] h = refl
run_stuck b (e ∷ es) h = simp (ne_eqb _ _ h)

pub run_cons : (b : Bld) (e : ReadEvent) (es : List ReadEvent) → b.st.refusal ≡ 0 → run b (e ∷ es) ≡ run (step b e) es
unfolding run
run_cons b e es h = simp (eq-eqb _ _ h)

pub run_end : (b : Bld) → run b [] ≡ b
unfolding run
run_end b = refl

-- a refusal takes no more events
run_last : (b : Bld) (e : ReadEvent) (b' : Bld) (es : List ReadEvent) → b.st.refusal ≡ 0 → b' ≡ step b e → (b'.st.refusal ≡ 0 → ⊥) → run b (e ∷ []) ≡ run b' es
run_last b e b' es h is nz = run_cons b e [] h ∙ run_end (step b e) ∙ sym is ∙ sym (run_stuck b' es nz)

pub run_miss : (b : Bld) (m : Missing) (es : List ReadEvent) → b.st.refusal ≡ 0 → run b (Miss m ∷ []) ≡ run (on b (missing_st b.st m)) es
unfolding step
run_miss b m es h = run_last b (Miss m) _ es h refl (missing_not b.st m)

-- ---- what leads an atom in stays within the line

abbrev led : Lead → ℕ → Part Lead
led l n = record { value = l; next = n }

-- a place at or past another, within the line
abbrev Between : List ℕ → ℕ → Part Lead → Type 0
Between s at r = (at ≤ r.next) × (r.next ≤ length s)

led_split : (s : List ℕ) (at : ℕ) → at ≤ length s → (q : Bool) → eqb (peek_at s at) (byte ".") ≡ q → Between s at (pick q (led Dot (at + 1)) (led (Bond (bond_at s at).value) (bond_at s at).next))
led_split s at h true e = (omega arith, omega (arith, byte_in s at (byte ".") (omega arith) (eqb-true _ _ e)))
led_split s at h false e = bond_in_lem s at h

pub led_in : (s : List ℕ) (at : ℕ) → at ≤ length s → Between s at (led_at s at)
unfolding led_at
led_in s at h = led_split s at h (eqb (peek_at s at) (byte ".")) refl

module _ (s : List ℕ) (b : Bld) (at n : ℕ) (ready : ReadReady s at b.st) (few : n ≤ at) where
  stays : (m : Missing) → Moved s at (missing_st b.st m) at
  stays m =
      record {
        within = ready.within;
        on = λ z. absurd (missing_not b.st m z);
        counted = missing_at_lem b.st at m ready.counted;
      }

  module _ (l : Lead) where
    pub atom_none : atom_at s at ≡ (Ok None) → AtomRead s at l n b (on b (missing_st b.st (missing_at s at))) at n
    unfolding atom_p found_p miss_p
    atom_none e =
        record { same = λ k. simp e (run_miss b _ (k at n) ready.going); moved = stays _; count = few }

    pub atom_lacks : (m : Missing) → atom_at s at ≡ Err m → AtomRead s at l n b (on b (missing_st b.st m)) at n
    unfolding atom_p found_p
    atom_lacks m e =
        record { same = λ k. simp e (run_miss b m (k at n) ready.going); moved = stays m; count = few }

    pub atom_made : (kind : AtomKind) (next : ℕ) → atom_at s at ≡ Ok (Some (kind, next)) → (b' : Bld) → b' ≡ enter_of b l kind at → AtomRead s at l n b b' next (n + 1)
    unfolding atom_p found_p step
    atom_made kind next e b' made =
        let past : (at < next) × (next ≤ length s) = atom_in s at e in
        record {
          same = λ k. simp e (run_cons b _ _ ready.going ∙ ap (λ (x : Bld). run x (k next (n + 1))) (sym made));
          moved =
              record {
                within = past.1;
                on = λ z. past.0;
                counted = counted_more (subst (λ (x : Bld). Counted x.st (at + 1)) (sym made) (enter_at b at ready.counted l kind at)) (omega (arith, past.0));
              };
          count = omega (arith, past.0);
        }

  module _ (bond : BondKind) where
    pub ring_none : rnum_at s at ≡ (Ok None) → RingRead s at bond n b (on b (missing_st b.st (missing_at s at))) at n
    unfolding ring_p miss_p
    ring_none e =
        record { same = λ k. simp e (run_miss b _ (k at n) ready.going); moved = stays _; count = few }

    pub ring_lacks : (m : Missing) → rnum_at s at ≡ Err m → RingRead s at bond n b (on b (missing_st b.st m)) at n
    unfolding ring_p
    ring_lacks m e =
        record { same = λ k. simp e (run_miss b m (k at n) ready.going); moved = stays m; count = few }

    pub ring_made : (r next : ℕ) → rnum_at s at ≡ Ok (Some (r, next)) → (b' : Bld) → b' ≡ ring_of b bond r at → RingRead s at bond n b b' next n
    unfolding ring_p step
    ring_made r next e b' made =
        let past : (r < 100) × (at < next) × (next ≤ length s) = ring_in s at e in
        record {
          same = λ k. simp e (run_cons b _ _ ready.going ∙ ap (λ (x : Bld). run x (k next n)) (sym made));
          moved =
              record {
                within = past.2;
                on = λ z. past.1;
                counted = counted_more (subst (λ (x : Bld). Counted x.st (at + 1)) (sym made) (ring_at b at ready.counted bond r at)) (omega (arith, past.1));
              };
          count = omega (arith, past.1);
        }

    pub union_ring : atom_at s at ≡ (Ok None) → (b' : Bld) (at' n' : ℕ) → RingRead s at bond n b b' at' n' → UnionRead s at bond n b b' at' n'
    unfolding union_p union_by
    union_ring e b' at' n' read =
        record { same = λ k. simp e (read.same k); moved = read.moved; count = read.count }

    pub union_lacks : (m : Missing) → atom_at s at ≡ Err m → UnionRead s at bond n b (on b (missing_st b.st m)) at n
    unfolding union_p union_by
    union_lacks m e =
        record { same = λ k. simp e (run_miss b m (k at n) ready.going); moved = stays m; count = few }

    pub union_made : (kind : AtomKind) (next : ℕ) → atom_at s at ≡ Ok (Some (kind, next)) → (b' : Bld) → b' ≡ enter_of b (Bond bond) kind at → UnionRead s at bond n b b' next (n + 1)
    unfolding union_p union_by atom_p found_p
    union_made kind next e b' made =
        let read = atom_made (Bond bond) kind next e b' made in
        record { same = λ k. simp e (sym (refl) ∙ (simp e at (read.same k))); moved = read.moved; count = read.count }

-- r is what leads an atom in at a place
module _ (s : List ℕ) (at : ℕ) (r : Part Lead) (is : r ≡ led_at s at) where
  pub led_ready : (b : Builder) (n : ℕ) → ReadReady s at b → n ≤ at → ReadReady s r.next b × (n ≤ r.next)
  led_ready b n ready few =
      let l : Between s at r = subst (Between s at) (sym is) (led_in s at ready.within) in (
        record { going = ready.going; counted = counted_more ready.counted l.0; within = l.1; short = ready.short },
        omega (arith, l.0),
      )

  module _ (b b' : Bld) (n at' n' : ℕ) (within : at ≤ length s) where
    further : Moved s r.next b'.st at' → Moved s at b'.st at'
    further m =
        let l : Between s at r = subst (Between s at) (sym is) (led_in s at within) in
        record { within = m.within; on = λ z. omega (arith, m.on z, l.0); counted = m.counted }

    pub unit_split : r.value ≡ Dot → AtomRead s r.next Dot n b b' at' n' → UnitRead s at n b b' at' n'
    unfolding unit_p unit_by
    unit_split e read =
        record { same = λ k. simp (← is, e) (read.same k); moved = further read.moved; count = read.count }

    pub unit_union : (bond : BondKind) → r.value ≡ Bond bond → UnionRead s r.next bond n b b' at' n' → UnitRead s at n b b' at' n'
    unfolding unit_p unit_by
    unit_union bond e read =
        record { same = λ k. simp (← is, e) (read.same k); moved = further read.moved; count = read.count }

pub branch_in : (s : List ℕ) (at : ℕ) → peek_at s at ≡ byte "(" → at < length s
branch_in s at e = byte_in s at (byte "(") (omega arith) e

-- ---- a branch

-- r is what leads its line in
module _ (s : List ℕ) (at : ℕ) (is_open : peek_at s at ≡ byte "(") (r : Part Lead) (is : r ≡ led_at s (at + 1)) where
  past_open : Between s (at + 1) r
  past_open =
      let h : at + 1 ≤ length s = omega (arith, branch_in s at is_open) in
      subst (Between s (at + 1)) (sym is) (led_in s (at + 1) h)

  pub branch_ready : (b : Builder) → ReadReady s at b → ReadReady s r.next b
  branch_ready b ready =
      record {
        going = ready.going;
        counted = counted_more ready.counted (omega (arith, past_open.0));
        within = past_open.1;
        short = ready.short;
      }

  pub from : at < r.next
  from = omega (arith, past_open.0)

module _ (s : List ℕ) (b : Bld) (at room : ℕ) (ready : ReadReady s at b.st) (is_open : peek_at s at ≡ byte "(") where
  pub branch_deep : room ≡ 0 → BranchRead s at room b (on b (refused_st b.st nesting at)) at
  unfolding branch_p step
  branch_deep none =
      let nz : ◌≡◌ {A = ℕ} nesting 0 → ⊥ = λ h. omega arith in
      record {
        same = λ f k big. simp (eq-eqb _ _ none) (run_last b (Nest at) _ (k at) ready.going refl nz);
        moved = record { within = ready.within; on = λ z. absurd (nz z); counted = refused_at b.st at _ _ ready.counted };
      }

  module _ (r : Part Lead) (is : r ≡ led_at s (at + 1)) (some : room ≡ 0 → ⊥) (b₁ : Bld) (at₁ n₁ : ℕ) (line : LineRead s r.next r.value (room - 1) b b₁ at₁ n₁) where
    run_line : (f : ℕ) (k : ℕ → List ReadEvent) → length s ≤ at + f → run b (branch_p (bodies f s) s at room k) ≡ run b₁ (close_p s k at₁ n₁)
    unfolding branch_p
    run_line f k big = simp (ne_eqb _ _ some, ← is) (line.same f (close_p s k) (omega (arith, from s at is_open r is)))

    pub branch_refused : (b₁.st.refusal ≡ 0 → ⊥) → BranchRead s at room b b₁ at₁
    branch_refused nz =
        record {
          same = λ f k big. run_line f k big ∙ run_stuck b₁ (close_p s k at₁ n₁) nz ∙ sym (run_stuck b₁ (k at₁) nz);
          moved = record { within = line.moved.within; on = λ z. absurd (nz z); counted = line.moved.counted };
        }

    module _ (going : b₁.st.refusal ≡ 0) where
      branch_made : peek_at s at₁ ≡ byte ")" → BranchRead s at room b (pop_of b₁ n₁) (at₁ + 1)
      unfolding close_p step pop_of
      branch_made e =
          let lt : at₁ < length s = byte_in s at₁ (byte ")") (omega arith) e in
          record {
            same = λ f k big. run_line f k big ∙ simp (eq-eqb _ _ e) (run_cons b₁ (Pop n₁) (k (at₁ + 1)) going);
            moved =
                record {
                  within = omega arith;
                  on = λ z. omega (arith, line.moved.on going, from s at is_open r is);
                  counted = pop_at b₁.st (at₁ + 1) n₁ (counted_more line.moved.counted (omega arith));
                };
          }

      branch_missing : (peek_at s at₁ ≡ byte ")" → ⊥) → BranchRead s at room b (on b₁ (missing_st b₁.st (missing_at s at₁))) at₁
      unfolding close_p miss_p
      branch_missing ne =
          record {
            same = λ f k big. run_line f k big ∙ simp (ne_eqb _ _ ne) (run_miss b₁ _ (k at₁) going);
            moved =
                record {
                  within = line.moved.within;
                  on = λ z. absurd (missing_not b₁.st _ z);
                  counted = missing_at_lem b₁.st at₁ _ line.moved.counted;
                };
          }

      closed_split : (q : Bool) → eqb (peek_at s at₁) (byte ")") ≡ q → BranchRead s at room b (on b₁ (pick q (reached_at (at₁ + 1) 0 (popped_st b₁.st n₁)) (reached_missing s at₁ 0 b₁.st)).builder) (pick q (reached_at (at₁ + 1) 0 (popped_st b₁.st n₁)) (reached_missing s at₁ 0 b₁.st)).at
      unfolding pop_of reached_missing
      closed_split true e = branch_made (eqb-true _ _ e)
      closed_split false e = branch_missing (eqb-false _ _ e)

      pub branch_closed : BranchRead s at room b (on b₁ (reached_closed s at₁ n₁ b₁.st).builder) (reached_closed s at₁ n₁ b₁.st).at
      unfolding reached_closed
      branch_closed = closed_split (eqb (peek_at s at₁) (byte ")")) refl

-- ---- a line's turns
open_split : (c : ℕ) (q : Bool) → eqb c (byte "(") ≡ q → pick q Branch (pick (one_of c (bytes ".-=#$:/\\ABCFINOPSTbcnops[*0123456789%")) Unit Ends) ≡ Branch → c ≡ byte "("
open_split c true e h = eqb-true _ _ e
open_split c false e h = absurd (other (one_of c (bytes ".-=#$:/\\ABCFINOPSTbcnops[*0123456789%")) h) where
  other : (q : Bool) → pick q Unit Ends ≡ Branch → ⊥
  other true h = let z : ◌≡◌ {A = ℕ} 2 1 = ap mark_of h in omega (arith, z)
  other false h = let z : ◌≡◌ {A = ℕ} 0 1 = ap mark_of h in omega (arith, z)

ascii_split : (c : ℕ) (q : Bool) → pick q (body_of c) Ends ≡ Branch → body_of c ≡ Branch
ascii_split c true h = h
ascii_split c false h = absurd (let z : ◌≡◌ {A = ℕ} 0 1 = ap mark_of h in omega (arith, z))

-- a branch begins at "("
pub body_open : (s : List ℕ) (at : ℕ) → body_at s at ≡ Branch → peek_at s at ≡ byte "("
unfolding body_at body_of
body_open s at h =
    open_split (peek_at s at) (eqb (peek_at s at) (byte "(")) refl (ascii_split (peek_at s at) (ltb (peek_at s at) 128) h)

-- no body begins at ")"
body_closed : (s : List ℕ) (at : ℕ) → peek_at s at ≡ byte ")" → body_at s at ≡ Ends
unfolding body_at body_of
body_closed s at e = simp e

at_end_lem : (s : List ℕ) (room i n : ℕ) → i ≤ length s → body_at s i ≡ Ends → (g : ℕ) (k : Rest) → length s < i + g → bodies g s room i n k ≡ k i n
unfolding bodies
at_end_lem s room i n within e zero k big = absurd (omega (arith, within))
at_end_lem s room i n within e (suc g) k big = simp e

-- at the head of the loop: what the events of the bodies from i₀ on make of the first state, those from i on make of this one
pub record Turn (s : List ℕ) (room : ℕ) (b₀ : Bld) (i₀ n₀ : ℕ) (b : Bld) (i n : ℕ) : Type 0 where
  pub ready : ReadReady s i b.st
  pub past : i₀ ≤ i
  pub count : n ≤ i
  pub same : (f : ℕ) (k : Rest) → length s < i₀ + f → (g : ℕ) × (length s < i + g) × (run b₀ (bodies f s room i₀ n₀ k) ≡ run b (bodies g s room i n k))

pub line_refused : (s : List ℕ) (at : ℕ) (l : Lead) (room : ℕ) (b₀ b : Bld) (i n : ℕ) → AtomRead s at l 0 b₀ b i n → (b.st.refusal ≡ 0 → ⊥) → LineRead s at l room b₀ b i n
unfolding line_p
line_refused s at l room b₀ b i n read nz =
    record {
      same = λ f k big. read.same (λ at' n'. bodies f s room at' n' k) ∙ run_stuck b _ nz ∙ sym (run_stuck b (k i n) nz);
      moved = record { within = read.moved.within; on = λ z. absurd (nz z); counted = read.moved.counted };
    }

-- a line whose first atom was read
module _ (s : List ℕ) (at : ℕ) (l : Lead) (room : ℕ) (b₋ b₀ : Bld) (i₀ n₀ : ℕ) (first : AtomRead s at l 0 b₋ b₀ i₀ n₀) (going₀ : b₀.st.refusal ≡ 0) where
  pub first_ready : length s ≤ text_limit → ReadReady s i₀ b₀.st
  first_ready short =
      record { going = going₀; counted = first.moved.counted; within = first.moved.within; short = short }

  pub line_whole : (b' : Bld) (i' n' : ℕ) → RestRead s room b₀ i₀ n₀ b' i' n' → LineRead s at l room b₋ b' i' n'
  unfolding line_p
  line_whole b' i' n' left =
      record {
        same = λ f k big. first.same (λ at' n''. bodies f s room at' n'' k) ∙ left.same f k (omega (arith, first.moved.on going₀));
        moved = record { within = left.within; on = λ z. omega (arith, first.moved.on going₀, left.on z); counted = left.counted };
      }

  -- its atom alone
  pub line_alone : peek_at s i₀ ≡ byte ")" → LineRead s at l room b₋ b₀ i₀ n₀
  line_alone e =
      line_whole b₀ i₀ n₀
      (record {
        same = λ f k big. ap (run b₀) (at_end_lem s room i₀ n₀ first.moved.within (body_closed s i₀ e) f k big);
        within = first.moved.within;
        on = λ _. omega arith;
        counted = first.moved.counted;
      })

module _ (s : List ℕ) (room : ℕ) (b₀ : Bld) (i₀ n₀ : ℕ) (ready₀ : ReadReady s i₀ b₀.st) where
  pub rest_first : n₀ ≤ i₀ → Turn s room b₀ i₀ n₀ b₀ i₀ n₀
  rest_first few = record { ready = ready₀; past = omega arith; count = few; same = λ f k big. (f, big, refl) }

  module _ (b : Bld) (i n : ℕ) (turn : Turn s room b₀ i₀ n₀ b i n) (what : Body) (is-what : what ≡ body_at s i) where
    pub rest_end : what ≡ Ends → RestRead s room b₀ i₀ n₀ b i n
    rest_end e =
        record {
          same = λ f k big. let t = turn.same f k big in t.2 ∙ ap (run b) (at_end_lem s room i n turn.ready.within (sym is-what ∙ e) t.0 k t.1);
          within = turn.ready.within;
          on = λ _. turn.past;
          counted = turn.ready.counted;
        }

    module _ (b' : Bld) (i' n' : ℕ) where
      -- one body more, however it was read
      Next : Type 0
      Next =
          (g : ℕ) (k : Rest) → length s < i + g → (h : ℕ) × (b'.st.refusal ≡ 0 → length s < i' + h) × (run b (bodies g s room i n k) ≡ run b' (bodies h s room i' n' k))

      on_next : Next → Moved s i b'.st i' → n' ≤ i' → b'.st.refusal ≡ 0 → Turn s room b₀ i₀ n₀ b' i' n'
      unfolding Next
      on_next next moved few going =
          record {
            ready = record { going = going; counted = moved.counted; within = moved.within; short = ready₀.short };
            past = omega (arith, turn.past, moved.on going);
            count = few;
            same = λ f k big. let t = turn.same f k big in let u = next t.0 k t.1 in (u.0, u.1 going, t.2 ∙ u.2);
          }

      stuck_next : Next → Moved s i b'.st i' → (m : ℕ) → (b'.st.refusal ≡ 0 → ⊥) → RestRead s room b₀ i₀ n₀ b' i' m
      unfolding Next
      stuck_next next moved m nz =
          record {
            same = λ f k big. let t = turn.same f k big in let u = next t.0 k t.1 in t.2 ∙ u.2 ∙ run_stuck b' _ nz ∙ sym (run_stuck b' (k i' m) nz);
            within = moved.within;
            on = λ z. absurd (nz z);
            counted = moved.counted;
          }

    module _ (b' : Bld) (i' : ℕ) (e : what ≡ Branch) (read : BranchRead s i room b b' i') where
      next_branch : Next b' i' n
      unfolding Next bodies
      next_branch zero k big = absurd (omega (arith, turn.ready.within))
      next_branch (suc g) k big =
          let e₁ : body_at s i ≡ Branch = sym is-what ∙ e in
          (g, (λ z. omega (arith, read.moved.on z)), simp e₁ (read.same g (λ at'. bodies g s room at' n k) (omega arith)))

      pub after_branch : b'.st.refusal ≡ 0 → Turn s room b₀ i₀ n₀ b' i' n
      after_branch going = on_next b' i' n next_branch read.moved (omega (arith, turn.count, read.moved.on going)) going

      pub stuck_branch : (m : ℕ) → (b'.st.refusal ≡ 0 → ⊥) → RestRead s room b₀ i₀ n₀ b' i' m
      stuck_branch m nz = stuck_next b' i' n next_branch read.moved m nz

    module _ (b' : Bld) (i' n' : ℕ) (e : what ≡ Unit) (read : UnitRead s i n b b' i' n') where
      next_unit : Next b' i' n'
      unfolding Next bodies
      next_unit zero k big = absurd (omega (arith, turn.ready.within))
      next_unit (suc g) k big = (
        g,
        (λ z. omega (arith, read.moved.on z)),
        (let e₁ : body_at s i ≡ Unit = sym is-what ∙ e in simp e₁ (read.same (λ at' n''. bodies g s room at' n'' k))),
      )

      pub after_unit : b'.st.refusal ≡ 0 → Turn s room b₀ i₀ n₀ b' i' n'
      after_unit going = on_next b' i' n' next_unit read.moved read.count going

      pub stuck_unit : (b'.st.refusal ≡ 0 → ⊥) → RestRead s room b₀ i₀ n₀ b' i' n'
      stuck_unit nz = stuck_next b' i' n' next_unit read.moved n' nz
