-- What a start and events leave in the lent words can be handed in again: no event with words of an atom, a bond and a ring
-- number is answered 17, however many went before. Assumes nothing.
use Prim.Native.Nat.{ℕ, ◌+◌, ◌<◌, ◌≤◌}
use mathlib.Core.Path.{◌≡◌, refl, sym, ap, subst, ◌∙◌}
use mathlib.Core.Logic.{◌≢◌}
use mathlib.Core.List.{List, [], ◌∷◌}
use mathlib.Core.Bool.{Bool, true, false}
use native.Mathlib.Omega.{arith}
use lib.ListN.{length, get_or, set}
use lib.Seq.{sets}
use lib.Dec.{ltb, leb, eqb}
use borrow.Author.Tests.{eqb-true, eqb-false, eq-eqb, lt-ltb, ltb-false, lt-leb, le-ltb}
use Rattle.feature.specs.Pick.{pick, both}
use Rattle.feature.specs.Kinds.{in_range, invert_of}
use Rattle.feature.specs.Bonds.{kind_of, reconcile_of}
use Rattle.feature.specs.declared.atom_kind.AtomKind.{AtomKind}
use Rattle.std.specs.Prelude.{None, Option, Some}
use Rattle.feature.specs.declared.bond_kind.BondKind.{BondKind}
use Rattle.feature.proofs.Cases.{by_test}
use Rattle.packing.specs.Words.{load_of}
use Rattle.packing.proofs.Laws.{only}
use Rattle.table.specs.Limits.{ring_number_count}
use Rattle.builder.specs.State.{Bld, bld, refuse, entered, root_of, bonded, extended_by, extend_of, opened_of, opening_kind, failed_st, closed_by, join_of, pop_of}
use Rattle.builder.specs.State as graph
use Rattle.builder.specs.declared.builder.Builder.{Builder}
use Rattle.builder.specs.declared.builder.FailedJoin.{FailedJoin}
use Rattle.std.specs.Prelude.{is_some}
use Rattle.desk_state.specs.Standing.{is_state}
use Rattle.desk_state.proofs.Kept.{holds}
use Rattle.desk_numbers.specs.Numbers.{bad_table}
use Rattle.desk_builder.specs.Events.{anew, judged, rooms_of, fresh_of, start_d, root_d, extend_d, join_d, pop_d}
use Rattle.desk_builder.proofs.Start.{started}
use Rattle.desk_builder.specs.Runs.{Root, Extend, Join, Pop, call_d, fits}
use Rattle.desk_builder.proofs.Again.{root_stands, extend_stands, join_stands, pop_stands, call_other}
use Rattle.desk_report.specs.State.{on_state, builder_size, narrow, builder_in, builder_kept, builder_words, event_kept, event_words, failure_in}
use Rattle.desk_report.specs.Report.{of_event, laid_into}
use Rattle.desk_report.proofs.Again.{Narrow, builder_again, FailureFits, event_again}
use Rattle.export.specs.Given.{on_atom, on_bond}
use Rattle.export.specs.Events.{BuilderCells, cells_of_builder, over, builder_after, builder_begun, builder_unheard, builder_event, start_x, builder_root_x, builder_extend_x, builder_join_x, builder_pop_x}

-- ---- what an event changes
-- a refused one nothing but the refusal
record Tame (b x : Bld) : Type 0 where
  same : x.st.refusal ≢ 0 → (r : ℕ) × (k : ℕ) × (x ≡ refuse b r k)

tame_refused : (b : Bld) (r k : ℕ) → Tame b (refuse b r k)
unfolding refuse
tame_refused b r k = record { same = λ z. (r, k, refl) }

-- of a builder b with no refusal yet
module _ (b : Bld) where
  tame_root : (k : AtomKind) (place : ℕ) → Tame b (root_of (anew b) k place)
  unfolding root_of refuse entered anew
  tame_root k place =
      by_test (Tame b) (leb b.st.places b.st.atoms) (λ t. record { same = λ z. (_, _, refl) }) (λ t. record { same = λ z. absurd (z refl) })

  tame_extended : (c : BondKind) (q : Option AtomKind) → Tame b (extended_by (anew b) c q)
  unfolding extended_by refuse entered bonded anew
  tame_extended c None = record { same = λ z. (_, _, refl) }
  tame_extended c (Some k) = record { same = λ z. absurd (z refl) }

  tame_extend : (c : BondKind) (k : AtomKind) (place : ℕ) → Tame b (extend_of (anew b) c k place)
  unfolding extend_of refuse anew
  tame_extend c k place =
      by_test (Tame b) (eqb b.st.top 0) (λ t. record { same = λ z. (_, _, refl) })
      (λ t. by_test (Tame b) (leb b.st.places b.st.atoms) (λ t. record { same = λ z. (_, _, refl) })
      (λ t. by_test (Tame b) (ltb b.st.slots (b.st.entries + 2)) (λ t. record { same = λ z. (_, _, refl) })
      (λ t. tame_extended c (invert_of k))))

  tame_closed : (n place : ℕ) (q : Option (BondKind × BondKind)) → Tame b (closed_by (anew b) n place q)
  unfolding closed_by refuse failed_st anew
  tame_closed n place None =
      by_test (λ (s : Builder). Tame b (bld b.atoms b.entries b.path (set b.rings n 0) s)) (is_some b.st.failed) (λ t. record { same = λ z. absurd (z refl) }) (λ t. record { same = λ z. absurd (z refl) })
  tame_closed n place (Some (l, r)) =
      by_test (Tame b) (ltb b.st.slots (b.st.entries + 1)) (λ t. record { same = λ z. (_, _, refl) }) (λ t. record { same = λ z. absurd (z refl) })

  tame_join : (c : BondKind) (n place : ℕ) → Tame b (join_of (anew b) c n place)
  unfolding join_of refuse opened_of anew
  tame_join c n place =
      by_test (Tame b) (eqb b.st.top 0) (λ t. record { same = λ z. (_, _, refl) })
      (λ t. by_test (Tame b) (eqb (get_or b.rings n 0) 0)
      (λ t. by_test (Tame b) (ltb b.st.slots (b.st.entries + 1)) (λ t. record { same = λ z. (_, _, refl) }) (λ t. record { same = λ z. absurd (z refl) }))
      (λ t. tame_closed n place (reconcile_of (opening_kind (anew b) n) c)))

  tame_pop : (n : ℕ) → Tame b (pop_of (anew b) n)
  unfolding pop_of anew refuse
  tame_pop n = record { same = λ z. absurd (z refl) }

  tame_judged : (ok : Bool) (done : Bld) → Tame b done → Tame b (judged ok b done)
  unfolding judged
  tame_judged ok done h = by_test (Tame b) (both ok (is_state b)) (λ t. h) (λ t. tame_refused b _ 0)

-- ---- words
-- words that stand for a state are enough, and those of a failure's atoms fit their fields
record Held (w : List ℕ) : Type 0 where
  enough : 11 ≤ length w
  closing : leb narrow (get_or w 9 0) ≡ false
  opening : leb narrow (get_or w 10 0) ≡ false

-- the state of words, field by field
abbrev told : List ℕ → Builder
told w =
    graph.state (get_or w 0 0) (get_or w 1 0) (get_or w 2 0) (get_or w 3 0) (get_or w 4 0) (get_or w 5 0) (get_or w 6 0) (get_or w 7 0) (failure_in (get_or w 8 0) (get_or w 9 0) (get_or w 10 0))

-- what is not none although a test says none
some_past : (q : Bool) (x : Option Builder) (s : Builder) → pick q None x ≡ Some s → (q ≡ false) × (x ≡ Some s)
some_past true x s e = absurd (cc)
some_past false x s e = (refl, e)

held_in : (w : List ℕ) (s : Builder) → builder_in w ≡ Some s → Held w
unfolding builder_in
held_in w s h =
    let enough = some_past _ _ s h in
    let refusal = some_past _ _ s enough.1 in
    let failed = some_past _ _ s refusal.1 in
    let closing = some_past _ _ s failed.1 in
    let opening = some_past (leb narrow (get_or w 10 0)) (Some (told w)) s closing.1 in
    record { enough = ltb-false _ _ enough.0; closing = closing.0; opening = opening.0 }

-- what holds of eleven words and any more holds of words enough
of_eleven : (P : List ℕ → Type 0) → ((a b c d e f g h i j k : ℕ) (rest : List ℕ) → P (a ∷ b ∷ c ∷ d ∷ e ∷ f ∷ g ∷ h ∷ i ∷ j ∷ k ∷ rest)) → (w : List ℕ) → 11 ≤ length w → P w
of_eleven P go [] l = absurd (omega arith)
of_eleven P go (a ∷ []) l = absurd (omega arith)
of_eleven P go (a ∷ b ∷ []) l = absurd (omega arith)
of_eleven P go (a ∷ b ∷ c ∷ []) l = absurd (omega arith)
of_eleven P go (a ∷ b ∷ c ∷ d ∷ []) l = absurd (omega arith)
of_eleven P go (a ∷ b ∷ c ∷ d ∷ e ∷ []) l = absurd (omega arith)
of_eleven P go (a ∷ b ∷ c ∷ d ∷ e ∷ f ∷ []) l = absurd (omega arith)
of_eleven P go (a ∷ b ∷ c ∷ d ∷ e ∷ f ∷ g ∷ []) l = absurd (omega arith)
of_eleven P go (a ∷ b ∷ c ∷ d ∷ e ∷ f ∷ g ∷ h ∷ []) l = absurd (omega arith)
of_eleven P go (a ∷ b ∷ c ∷ d ∷ e ∷ f ∷ g ∷ h ∷ i ∷ []) l = absurd (omega arith)
of_eleven P go (a ∷ b ∷ c ∷ d ∷ e ∷ f ∷ g ∷ h ∷ i ∷ j ∷ []) l = absurd (omega arith)
of_eleven P go (a ∷ b ∷ c ∷ d ∷ e ∷ f ∷ g ∷ h ∷ i ∷ j ∷ k ∷ rest) l = go a b c d e f g h i j k rest

-- what is laid into enough words is what they stand for
laid_in : (w : List ℕ) (s : Builder) → 11 ≤ length w → leb narrow s.refusal ≡ false → Narrow s.failed → builder_in (sets w 0 (builder_words s)) ≡ Some s
laid_in w s l x y =
    of_eleven (λ v. builder_in (sets v 0 (builder_words s)) ≡ Some s)
    (λ a b c d e f g h i j k rest. builder_again a b c d e f g h i j k rest s.refusal s.carried s.places s.slots s.atoms s.entries s.top s.joins s.failed x y)
    w l

-- and so is what an event lays over words that fit
told_in : (w : List ℕ) (s : Builder) → 11 ≤ length w → leb narrow s.refusal ≡ false → FailureFits s.failed (get_or w 9 0) (get_or w 10 0) → builder_in (sets w 0 (event_words s)) ≡ Some s
told_in w s l x y =
    of_eleven (λ v. FailureFits s.failed (get_or v 9 0) (get_or v 10 0) → builder_in (sets v 0 (event_words s)) ≡ Some s)
    (λ a b c d e f g h i j k rest z. event_again a b c d e f g h i j k rest s.refusal s.carried s.places s.slots s.atoms s.entries s.top s.joins s.failed x z)
    w l y

-- ---- the words and the tables stand for a state
pub record Stood (c : BuilderCells) : Type 0 where
  pub builder : Builder
  pub words : builder_in c.state ≡ Some builder
  pub stands : is_state (over c builder) ≡ true

narrow_atom : (b : Bld) → is_state b ≡ true → (n : ℕ) → n < b.st.atoms → leb narrow n ≡ false
narrow_atom b is n l = let h = (holds b is).keeps in lt-leb narrow n (omega (arith, l, h.within, h.most_places))

after_stood : (c : BuilderCells) (s : Builder) (x : Bld) → Held c.state → builder_in c.state ≡ Some s → is_state (over c s) ≡ true → Tame (over c s) x → is_state x ≡ true → Stood (builder_after c x)
unfolding builder_after event_kept refuse
after_stood c s x held in_words_lem was tame is = by_refusal (eqb x.st.refusal 0) refl where
  fits : (q : Option FailedJoin) → x.st.failed ≡ q → FailureFits q (get_or c.state 9 0) (get_or c.state 10 0)
  fits None e = (held.closing, held.opening)
  fits (Some f) e =
      let z = (holds x is).failing f e in
      (narrow_atom x is f.closing z.0, narrow_atom x is f.opening z.1)

  by_refusal : (q : Bool) → eqb x.st.refusal 0 ≡ q → Stood (cells_of_builder x.atoms x.entries x.path x.rings (pick q (sets c.state 0 (event_words x.st)) c.state) (laid_into c.report (of_event x.st)))
  by_refusal true none =
      record { builder = x.st; words = told_in c.state x.st held.enough (ap (leb narrow) (eqb-true x.st.refusal 0 none)) (fits x.st.failed refl); stands = is }
  by_refusal false some =
      let z = tame.same (eqb-false x.st.refusal 0 some) in
      record { builder = s; words = in_words_lem; stands = ap (λ (y : Bld). is_state (bld y.atoms y.entries y.path y.rings s)) z.2 ∙ was }

-- ---- each event leaves such
unheard_stood : (c : BuilderCells) → Stood c → Stood (builder_unheard c)
unfolding builder_unheard
unheard_stood c h = record { builder = h.builder; words = h.words; stands = h.stands }

event_stood : (c : BuilderCells) (f : Bld → Bld) → Stood c → ((b : Bld) → is_state b ≡ true → Tame b (f b) × (is_state (f b) ≡ true)) → Stood (builder_event c f)
unfolding builder_event on_state
event_stood c f h go =
    let s = h.builder in
    let z = go (over c s) h.stands in
    rw h.words (after_stood c s (f (over c s)) (held_in c.state s h.words) h.words h.stands z.0 z.1)

on_atom_lem : (c : BuilderCells) (f : AtomKind → BuilderCells) (q : Option AtomKind) → Stood (builder_unheard c) → ((k : AtomKind) → Stood (f k)) → Stood (on_atom q (builder_unheard c) f)
unfolding on_atom
on_atom_lem c f (Some k) none some = some k
on_atom_lem c f None none some = none

on_bond_lem : (c : BuilderCells) (f : BondKind → BuilderCells) (q : Option BondKind) → Stood (builder_unheard c) → ((k : BondKind) → Stood (f k)) → Stood (on_bond q (builder_unheard c) f)
unfolding on_bond
on_bond_lem c f (Some k) none some = some k
on_bond_lem c f None none some = none

root_tame : (b : Bld) (k : AtomKind) → Tame b (root_d b k)
unfolding root_d
root_tame b k = tame_judged b (in_range k) (root_of (anew b) k b.st.atoms) (tame_root b k b.st.atoms)

extend_tame : (b : Bld) (e : BondKind) (k : AtomKind) → Tame b (extend_d b e k)
unfolding extend_d
extend_tame b e k = tame_judged b (in_range k) (extend_of (anew b) e k b.st.atoms) (tame_extend b e k b.st.atoms)

join_tame : (b : Bld) (e : BondKind) (n : ℕ) → Tame b (join_d b e n)
unfolding join_d
join_tame b e n = tame_judged b (ltb n ring_number_count) (join_of (anew b) e n b.st.atoms) (tame_join b e n b.st.atoms)

pop_tame : (b : Bld) (n : ℕ) → Tame b (pop_d b n)
unfolding pop_d
pop_tame b n = tame_judged b true (pop_of (anew b) n) (tame_pop b n)

pub root_stood : (c : BuilderCells) (first second : ℕ) → Stood c → Stood (builder_root_x c first second)
unfolding builder_root_x
root_stood c first second h =
    on_atom_lem c (λ k. builder_event c (λ b. root_d b k)) (load_of first second) (unheard_stood c h)
    (λ k. event_stood c (λ b. root_d b k) h (λ b is. (root_tame b k, root_stands b k is)))

pub extend_stood : (c : BuilderCells) (bond first second : ℕ) → Stood c → Stood (builder_extend_x c bond first second)
unfolding builder_extend_x
extend_stood c bond first second h =
    on_atom_lem c (λ k. on_bond (kind_of bond) (builder_unheard c) (λ e. builder_event c (λ b. extend_d b e k))) (load_of first second) (unheard_stood c h)
    (λ k. on_bond_lem c (λ e. builder_event c (λ b. extend_d b e k)) (kind_of bond) (unheard_stood c h)
    (λ e. event_stood c (λ b. extend_d b e k) h (λ b is. (extend_tame b e k, extend_stands b e k is))))

pub join_stood : (c : BuilderCells) (bond number : ℕ) → Stood c → Stood (builder_join_x c bond number)
unfolding builder_join_x
join_stood c bond number h =
    on_bond_lem c (λ e. builder_event c (λ b. join_d b e number)) (kind_of bond) (unheard_stood c h)
    (λ e. event_stood c (λ b. join_d b e number) h (λ b is. (join_tame b e number, join_stands b e number is)))

pub pop_stood : (c : BuilderCells) (n : ℕ) → Stood c → Stood (builder_pop_x c n)
unfolding builder_pop_x
pop_stood c n h = event_stood c (λ b. pop_d b n) h (λ b is. (pop_tame b n, pop_stands b n is))

-- ---- and so does the start, if it is accepted
no_failure : (a e p r : List ℕ) → (start_d a e p r).st.failed ≡ None
unfolding start_d fresh_of rooms_of
no_failure a e p r = by_test (λ (x : Bld). x.st.failed ≡ None) (is_state (fresh_of a e p r)) (λ t. refl) (λ t. refl)

pub start_stood : (c : BuilderCells) → builder_size ≤ length c.state → (start_d c.atoms c.entries c.path c.rings).st.refusal ≡ 0 → Stood (start_x c)
unfolding start_x builder_begun builder_kept
start_stood c room accepted =
    let x = start_d c.atoms c.entries c.path c.rings in
    rw (le-ltb (length c.state) builder_size room, eq-eqb x.st.refusal 0 accepted)
    (record {
      builder = x.st;
      words = laid_in c.state x.st room (ap (leb narrow) accepted) (subst Narrow (sym (no_failure c.atoms c.entries c.path c.rings)) tt);
      stands = started c.atoms c.entries c.path c.rings accepted;
    })

-- ---- and then no event of good words is answered 17
pub record Heard (c d : BuilderCells) : Type 0 where
  pub builder : Builder
  pub told : d.report ≡ laid_into c.report (of_event builder)
  pub other : builder.refusal ≢ bad_table

event_heard : (c : BuilderCells) (f : Bld → Bld) → Stood c → ((b : Bld) → is_state b ≡ true → (f b).st.refusal ≢ bad_table) → Heard c (builder_event c f)
unfolding builder_event on_state builder_after
event_heard c f h go =
    let s = h.builder in
    rw h.words (record { builder = (f (over c s)).st; told = refl; other = go (over c s) h.stands })

pub root_heard : (c : BuilderCells) (first second : ℕ) (k : AtomKind) → Stood c → load_of first second ≡ Some k → Heard c (builder_root_x c first second)
unfolding builder_root_x on_atom call_d fits
root_heard c first second k h is =
    rw is (event_heard c (λ b. root_d b k) h (λ b on. call_other b (Root k) on (only first second k is).0))

pub extend_heard : (c : BuilderCells) (bond first second : ℕ) (e : BondKind) (k : AtomKind) → Stood c → load_of first second ≡ Some k → kind_of bond ≡ Some e → Heard c (builder_extend_x c bond first second)
unfolding builder_extend_x on_atom on_bond call_d fits
extend_heard c bond first second e k h is like =
    rw (is, like) (event_heard c (λ b. extend_d b e k) h (λ b on. call_other b (Extend e k) on (only first second k is).0))

pub join_heard : (c : BuilderCells) (bond number : ℕ) (e : BondKind) → Stood c → kind_of bond ≡ Some e → number < ring_number_count → Heard c (builder_join_x c bond number)
unfolding builder_join_x on_bond call_d fits
join_heard c bond number e h like low =
    rw like (event_heard c (λ b. join_d b e number) h (λ b on. call_other b (Join e number) on (lt-ltb number ring_number_count low)))

pub pop_heard : (c : BuilderCells) (n : ℕ) → Stood c → Heard c (builder_pop_x c n)
unfolding builder_pop_x call_d fits
pop_heard c n h = event_heard c (λ b. pop_d b n) h (λ b on. call_other b (Pop n) on refl)
