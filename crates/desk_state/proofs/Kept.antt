-- Each event on a state leaves a state, whether it is accepted or refused. Assumes nothing.
use Prim.Native.Nat.{ℕ, ◌+◌, ◌*◌, ◌-◌, ◌%◌, ◌<◌, ◌≤◌}
use mathlib.Core.Path.{◌≡◌, refl, sym, ap, ◌∙◌, subst}
use mathlib.Core.Logic.{◌≢◌}
use mathlib.Core.List.{List}
use mathlib.Core.Bool.{Bool, true, false, false≢true}
use native.Mathlib.Omega.{arith}
use lib.ListN.{length, get_or, set}
use lib.Dec.{eqb, ltb, leb}
use borrow.Author.Tests.{eqb-true, eqb-false, eq-eqb, ne_eqb, lt-ltb, le-ltb, ltb-true, ltb-false, leb-true, leb-false, le-leb}
use Rattle.feature.specs.Pick.{pick, neither, both}
use Rattle.feature.specs.Every.{every}
use Rattle.feature.specs.Kinds.{no_configuration, no_hydrogens, th1, th2, with_configuration, in_range, invert_bracket, invert_of}
use Rattle.feature.specs.Bonds.{kind_of, reverse_of, reconcile_of}
use Rattle.feature.specs.declared.atom_kind.BracketAtom.{BracketAtom}
use Rattle.feature.specs.declared.atom_kind.AtomKind.{AtomKind}
use Rattle.feature.specs.declared.atom_kind.AtomKind.TheVariants.{Star, Aliphatic, Aromatic, Bracket}
use Rattle.std.specs.Prelude.{None, Option, Some}
use Rattle.feature.specs.declared.bond_kind.BondKind.{BondKind}
use Rattle.feature.proofs.Cases.{by_test, both_first, both_second, both_pass}
use Rattle.feature.proofs.Every.{every_at, every_all}
use Rattle.feature.proofs.Ranges.{good, ranged}
use Rattle.feature.proofs.Bonds.{same_code, Reversed, reconciled}
use Rattle.packing.specs.Words.{is_atom}
use Rattle.table.specs.Limits.{atom_limit, bond_limit, ring_number_count, places_in}
use Rattle.builder.specs.State.{Bld, bld, failed_join, unclosed, refuse, last_of, entered, root_of, bonded, extended_by, extend_of, opened_of, opened_at, opening_of, opening_kind, failed_st, closed_by, join_of, pop_of}
use Rattle.builder.specs.Steps.{SmallCounts}
use Rattle.builder.specs.declared.builder.Builder.{Builder}
use Rattle.builder.specs.declared.builder.FailedJoin.{FailedJoin}
use Rattle.std.specs.Prelude.{is_some}
use Rattle.desk_state.specs.Standing.{is_kind, source_at, entry_kind_at, target_at, is_target, is_builder_entry, bonds_counted, turned_of, is_own, is_matched, is_paired, least_open, is_later, is_step, is_apart, is_ring, open_rings, joins_stand, entry_slots_in, counts_stand, failure_stands, failure_below, is_state}
use Rattle.desk_state.specs.Steps.{Between}
use Rattle.desk_state.proofs.Counts.{counts}
use Rattle.desk_state.proofs.Ends.{kind_code, code_kind, turned_code, to_matched, both_ends, even_ends}
use Rattle.desk_state.proofs.Grown.{Plain, Pairs}
use Rattle.desk_state.proofs.Keeps.{Keeps, keeps_root, keeps_extend, keeps_open, keeps_fail, keeps_close, keeps_pop}

-- ---- entries
-- the entries of a state are between atoms
pub between : (s : Builder) (e : List ℕ) (m : ℕ) → m ≤ bond_limit → s.atoms ≤ atom_limit → every (is_builder_entry s e) m ≡ true → Between e m s.atoms
unfolding is_builder_entry is_target
between s e m few most all =
    record {
      few = few;
      most = most;
      kind = λ i l. both_first (is_kind (kind_of (entry_kind_at e i))) _ (both_second (ltb (source_at e i) s.atoms) _ (at i l));
      source = λ i l. ltb-true _ _ (both_first (ltb (source_at e i) s.atoms) _ (at i l));
      target = λ i l u. ltb-true _ _ (subst (λ (q : Bool). pick q (ltb (target_at e i) s.atoms) (ltb (target_at e i - unclosed) s.joins) ≡ true) (lt-ltb (target_at e i) unclosed u) (both_second (is_kind (kind_of (entry_kind_at e i))) _ (both_second (ltb (source_at e i) s.atoms) _ (at i l))));
    }
  where
    at : (i : ℕ) → i < m → is_builder_entry s e i ≡ true
    at i l = every_at (is_builder_entry s e) m i all l

module _ (s : Builder) (e : List ℕ) (m : ℕ) where
  to_plain : every (is_builder_entry s e) m ≡ true → every (is_later e) m ≡ true → Plain s.atoms s.joins e m
  unfolding is_builder_entry is_target is_later
  to_plain all late =
      record {
        source = λ i l. ltb-true _ _ (both_first (ltb (source_at e i) s.atoms) _ (at i l));
        kind = λ i l. kind_code (entry_kind_at e i) (both_first (is_kind (kind_of (entry_kind_at e i))) _ (both_second (ltb (source_at e i) s.atoms) _ (at i l)));
        target = λ i l u. ltb-true _ _ (subst (λ (q : Bool). pick q (ltb (target_at e i) s.atoms) (ltb (target_at e i - unclosed) s.joins) ≡ true) (lt-ltb (target_at e i) unclosed u) (third i l));
        waits = λ i l u. let z = ltb-true (target_at e i - unclosed) s.joins (subst (λ (q : Bool). pick q (ltb (target_at e i) s.atoms) (ltb (target_at e i - unclosed) s.joins) ≡ true) (le-ltb (target_at e i) unclosed u) (third i l)) in omega (arith, z, u);
        later = λ i l u. leb-true _ _ (subst (λ (q : Bool). pick q (leb (least_open e i) (target_at e i)) true ≡ true) (le-leb unclosed (target_at e i) u) (every_at (is_later e) m i late l));
      }
    where
      at : (i : ℕ) → i < m → is_builder_entry s e i ≡ true
      at i l = every_at (is_builder_entry s e) m i all l

      third : (i : ℕ) → i < m → is_target s (target_at e i) ≡ true
      third i l = both_second (is_kind (kind_of (entry_kind_at e i))) _ (both_second (ltb (source_at e i) s.atoms) _ (at i l))

  of_plain : Plain s.atoms s.joins e m → (i : ℕ) → i < m → is_builder_entry s e i ≡ true
  unfolding is_builder_entry is_target
  of_plain h i l =
      both_pass (lt-ltb _ _ (h.source i l))
      (both_pass (ap (λ (c : ℕ). is_kind (kind_of c)) (h.kind i l).1 ∙ code_kind (h.kind i l).0) (go (ltb (target_at e i) unclosed) refl))
    where
      go : (q : Bool) → ltb (target_at e i) unclosed ≡ q → pick q (ltb (target_at e i) s.atoms) (ltb (target_at e i - unclosed) s.joins) ≡ true
      go true is = lt-ltb _ _ (h.target i l (ltb-true _ _ is))
      go false is = let u = ltb-false (target_at e i) unclosed is in lt-ltb (target_at e i - unclosed) s.joins (let z = h.waits i l u in omega (arith, z, u))

  of_later : Plain s.atoms s.joins e m → (i : ℕ) → i < m → is_later e i ≡ true
  unfolding is_later
  of_later h i l = go (leb unclosed (target_at e i)) refl where
    go : (q : Bool) → leb unclosed (target_at e i) ≡ q → pick q (leb (least_open e i) (target_at e i)) true ≡ true
    go true is = le-leb _ _ (h.later i l (leb-true _ _ is))
    go false is = refl

  of_pairs : Plain s.atoms s.joins e m → Pairs e m → s.atoms ≤ unclosed → (i : ℕ) → i < m → is_paired e m i ≡ true
  unfolding is_paired is_own
  of_pairs h p few i l = go (leb unclosed (target_at e i)) refl where
    k : BondKind
    k = (h.kind i l).0

    low : source_at e i < unclosed
    low = omega (arith, h.source i l)

    alike : target_at e i < unclosed → bonds_counted e (source_at e i) (entry_kind_at e i) (target_at e i) m ≡ bonds_counted e (target_at e i) (turned_of (kind_of (entry_kind_at e i))) (source_at e i) m
    alike u =
        subst (λ (c : ℕ). bonds_counted e (source_at e i) c (target_at e i) m ≡ bonds_counted e (target_at e i) (turned_of (kind_of c)) (source_at e i) m) (sym (h.kind i l).1)
        (p.ends (source_at e i) (target_at e i) k low u ∙ ap (λ (c : ℕ). bonds_counted e (target_at e i) c (source_at e i) m) (sym (turned_code k)))

    twice : both (eqb (source_at e i) (target_at e i)) (eqb (entry_kind_at e i) (turned_of (kind_of (entry_kind_at e i)))) ≡ true → bonds_counted e (source_at e i) (entry_kind_at e i) (target_at e i) m % 2 ≡ 0
    twice own =
        let st : source_at e i ≡ target_at e i = eqb-true _ _ (both_first (eqb (source_at e i) (target_at e i)) _ own) in
        let kk : entry_kind_at e i ≡ turned_of (kind_of (entry_kind_at e i)) = eqb-true _ _ (both_second (eqb (source_at e i) (target_at e i)) _ own) in
        let back : reverse_of k ≡ k = same_code (reverse_of k) k (sym (sym (h.kind i l).1 ∙ kk ∙ ap (λ (c : ℕ). turned_of (kind_of c)) (h.kind i l).1 ∙ turned_code k)) in
        subst (λ (t : ℕ). bonds_counted e (source_at e i) (entry_kind_at e i) t m % 2 ≡ 0) st
        (subst (λ (c : ℕ). bonds_counted e (source_at e i) c (source_at e i) m % 2 ≡ 0) (sym (h.kind i l).1) (p.even (source_at e i) k low back))

    go : (q : Bool) → leb unclosed (target_at e i) ≡ q → pick q true (is_matched (both (eqb (source_at e i) (target_at e i)) (eqb (entry_kind_at e i) (turned_of (kind_of (entry_kind_at e i))))) (bonds_counted e (source_at e i) (entry_kind_at e i) (target_at e i) m) (bonds_counted e (target_at e i) (turned_of (kind_of (entry_kind_at e i))) (source_at e i) m)) ≡ true
    go true is = refl
    go false is = to_matched (both (eqb (source_at e i) (target_at e i)) (eqb (entry_kind_at e i) (turned_of (kind_of (entry_kind_at e i))))) _ _ (alike (leb-false _ _ is)) twice

-- ---- ring numbers
module _ (s : Builder) (e r : List ℕ) where
  ring_at : (n : ℕ) → is_ring s e r n ≡ true → get_or r n 0 ≢ 0 → both (leb (get_or r n 0) s.entries) (both (leb unclosed (target_at e (get_or r n 0 - 1))) (every (is_apart r n) n)) ≡ true
  unfolding is_ring
  ring_at n h z =
      subst (λ (q : Bool). pick q true (both (leb (get_or r n 0) s.entries) (both (leb unclosed (target_at e (get_or r n 0 - 1))) (every (is_apart r n) n))) ≡ true) (ne_eqb (get_or r n 0) 0 z) h

  ring_apart : (n i : ℕ) → is_apart r n i ≡ true → get_or r i 0 ≢ get_or r n 0
  unfolding is_apart
  ring_apart n i h e = false≢true (sym (ap neither (eq-eqb _ _ e)) ∙ h)

  of_ring : (n : ℕ) → (get_or r n 0 ≢ 0 → (get_or r n 0 ≤ s.entries) × (unclosed ≤ target_at e (get_or r n 0 - 1))) → ((i : ℕ) → i < n → get_or r n 0 ≢ 0 → get_or r i 0 ≢ get_or r n 0) → is_ring s e r n ≡ true
  unfolding is_ring is_apart
  of_ring n h apart = go (eqb (get_or r n 0) 0) refl where
    go : (q : Bool) → eqb (get_or r n 0) 0 ≡ q → pick q true (both (leb (get_or r n 0) s.entries) (both (leb unclosed (target_at e (get_or r n 0 - 1))) (every (is_apart r n) n))) ≡ true
    go true is = refl
    go false is =
        let z = eqb-false (get_or r n 0) 0 is in
        both_pass (le-leb _ _ (h z).0)
        (both_pass (le-leb _ _ (h z).1)
        (every_all (is_apart r n) n (λ i l. ap neither (ne_eqb (get_or r i 0) (get_or r n 0) (apart i l z)))))

-- ---- a state as what it keeps to
-- the failure that is remembered
abbrev pub Failing : Builder → Type 0
Failing s = (f : FailedJoin) → s.failed ≡ Some f → (f.closing < s.atoms) × (f.opening < s.atoms)

abbrev pub KeepsOf : Bld → Type 0
KeepsOf b =
    Keeps b.st.places b.st.slots b.st.atoms b.st.entries b.st.top b.st.joins b.atoms b.entries b.path b.rings

pub record Holds (b : Bld) : Type 0 where
  pub keeps : KeepsOf b
  pub failing : Failing b.st

rooms : (s : Builder) (la le lp lr : ℕ) → counts_stand s la le lp lr ≡ true → (s.places ≤ lp) × (ring_number_count ≤ lr)
unfolding counts_stand
rooms s la le lp lr h1 =
    let h2 = both_second (eqb s.places (places_in la)) _ h1 in
    let h3 = both_second (eqb s.slots (entry_slots_in le)) _ h2 in
    let h4 = both_second (leb s.places lp) _ h3 in
    (leb-true _ _ (both_first (leb s.places lp) _ h3), leb-true _ _ (both_first (leb ring_number_count lr) _ h4))

to_failing : (s : Builder) → failure_stands s ≡ true → Failing s
unfolding failure_stands
to_failing s h f e =
    let z : failure_below s.atoms (Some f) ≡ true = subst (λ (q : Option FailedJoin). failure_below s.atoms q ≡ true) e h in
    (ltb-true _ _ (both_first (ltb f.closing s.atoms) _ z), ltb-true _ _ (both_second (ltb f.closing s.atoms) _ z))

of_failing : (s : Builder) → Failing s → failure_stands s ≡ true
unfolding failure_stands
of_failing s h = go s.failed refl where
  go : (q : Option FailedJoin) → s.failed ≡ q → failure_below s.atoms q ≡ true
  go None e = refl
  go (Some f) e = let z = h f e in both_pass (lt-ltb _ _ z.0) (lt-ltb _ _ z.1)

pub holds : (b : Bld) → is_state b ≡ true → Holds b
unfolding is_state joins_stand is_step
holds b h =
    let s = b.st in
    let e = b.entries in
    let m = s.entries in
    let told = counts_stand s (length b.atoms) (length e) (length b.path) (length b.rings) in
    let h1 = both_second told _ h in
    let h2 = both_second (every (is_atom b.atoms) s.atoms) _ h1 in
    let h3 = both_second (every (is_builder_entry s e) m) _ h2 in
    let h4 = both_second (every (is_paired e m) m) _ h3 in
    let h5 = both_second (every (is_later e) m) _ h4 in
    let h6 = both_second (every (is_step s b.path) s.top) _ h5 in
    let h7 = both_second (every (is_ring s e b.rings) ring_number_count) _ h6 in
    let c = counts s (length b.atoms) (length e) (length b.path) (length b.rings) (both_first told _ h) in
    let w = rooms s (length b.atoms) (length e) (length b.path) (length b.rings) (both_first told _ h) in
    let paired = both_first (every (is_paired e m) m) _ h3 in
    let ring = both_first (every (is_ring s e b.rings) ring_number_count) _ h6 in
    record {
      keeps = record {
        places_is = c.places_is;
        slots_is = c.slots_is;
        most_places = c.places;
        most_slots = c.slots;
        atom_room = c.atom_room;
        entry_room = c.entry_room;
        path_room = w.0;
        ring_room = w.1;
        within = c.atoms;
        listed = c.entries;
        short = c.top;
        atoms = λ i l. every_at (is_atom b.atoms) s.atoms i (both_first (every (is_atom b.atoms) s.atoms) _ h1) l;
        plain = to_plain s e m (both_first (every (is_builder_entry s e) m) _ h2) (both_first (every (is_later e) m) _ h4);
        pairs = record { ends = both_ends e m paired; even = even_ends e m paired };
        steps = λ i l. ltb-true _ _ (every_at (is_step s b.path) s.top i (both_first (every (is_step s b.path) s.top) _ h5) l);
        each = λ i l z.
            let t = ring_at s e b.rings i (every_at (is_ring s e b.rings) ring_number_count i ring l) z in
            (leb-true _ _ (both_first (leb (get_or b.rings i 0) m) _ t), leb-true _ _ (both_first (leb unclosed (target_at e (get_or b.rings i 0 - 1))) _ (both_second (leb (get_or b.rings i 0) m) _ t)));
        apart = λ i k l u z.
            let t = ring_at s e b.rings k (every_at (is_ring s e b.rings) ring_number_count k ring u) z in
            ring_apart s e b.rings k i (every_at (is_apart b.rings k) k i (both_second (leb unclosed (target_at e (get_or b.rings k 0 - 1))) _ (both_second (leb (get_or b.rings k 0) m) _ t)) l);
        few = leb-true _ _ (both_first (leb (s.joins + open_rings b.rings ring_number_count) (m * 2)) _ h7);
      };
      failing = to_failing s (both_second (leb (s.joins + open_rings b.rings ring_number_count) (m * 2)) _ h7);
    }

pub stands : (b : Bld) → Holds b → is_state b ≡ true
unfolding is_state joins_stand is_step counts_stand
stands b w =
    let s = b.st in
    let e = b.entries in
    let m = s.entries in
    let h = w.keeps in
    both_pass
    (both_pass (eq-eqb _ _ h.places_is)
    (both_pass (eq-eqb _ _ h.slots_is)
    (both_pass (le-leb _ _ h.path_room)
    (both_pass (le-leb _ _ h.ring_room)
    (both_pass (le-leb _ _ h.within)
    (both_pass (le-leb _ _ h.listed)
    (le-leb s.top s.atoms h.short)))))))
    (both_pass (every_all (is_atom b.atoms) s.atoms h.atoms)
    (both_pass (every_all (is_builder_entry s e) m (of_plain s e m h.plain))
    (both_pass (every_all (is_paired e m) m (of_pairs s e m h.plain h.pairs (omega (arith, h.within, h.most_places))))
    (both_pass (every_all (is_later e) m (of_later s e m h.plain))
    (both_pass (every_all (is_step s b.path) s.top (λ i l. lt-ltb _ _ (h.steps i l)))
    (both_pass (every_all (is_ring s e b.rings) ring_number_count (λ n l. of_ring s e b.rings n (h.each n l) (λ i u z. h.apart i n u l z)))
    (both_pass (le-leb _ _ h.few)
    (of_failing s w.failing))))))))

-- so few of each that no sum with them wraps
pub small : (b : Bld) → Holds b → SmallCounts b.st
small b w =
    let h = w.keeps in
    record {
      atoms = omega (arith, h.within, h.most_places);
      entries = omega (arith, h.listed, h.most_slots);
      top = omega (arith, h.short, h.within, h.most_places);
      joins = omega (arith, h.few, h.listed, h.most_slots);
    }

-- ---- kinds that change
-- a mark that is toggled stays in range
abbrev RangeKept : Option AtomKind → Type 0
RangeKept None = Unit {0}
RangeKept (Some t) = in_range t ≡ true

marked_range : (b : BracketAtom) (c : ℕ) → c ≤ th2 → in_range (Bracket b) ≡ true → in_range (Bracket (with_configuration b c)) ≡ true
marked_range b c l h =
    let g = good (Bracket b) h in
    ranged (Bracket (with_configuration b c))
    (record { isotope = g.isotope; symbol = g.symbol; configuration = omega arith; hydrogens = g.hydrogens; charge = g.charge; map = g.map })

invert_range : (k : AtomKind) → in_range k ≡ true → RangeKept (invert_of k)
unfolding invert_of invert_bracket
invert_range Star h = h
invert_range (Aliphatic n) h = h
invert_range (Aromatic n) h = h
invert_range (Bracket b) h =
    by_test RangeKept (eqb b.configuration no_configuration) (λ e. h)
    (λ e. by_test RangeKept (eqb b.hydrogens no_hydrogens) (λ e. h)
    (λ e. by_test RangeKept (eqb b.hydrogens 0) (λ e. h)
    (λ e. by_test RangeKept (eqb b.configuration th1) (λ e. marked_range b th2 (omega arith) h)
    (λ e. by_test RangeKept (eqb b.configuration th2) (λ e. marked_range b th1 (omega arith) h)
    (λ e. tt)))))

-- ---- the events
module _ (b : Bld) (h : Holds b) where
  -- whatever the refusal
  pub refuse_holds : (r c : ℕ) → Holds (refuse b r c)
  unfolding refuse
  refuse_holds r c = record { keeps = h.keeps; failing = h.failing }

  more_failing : Failing b.st → (f : FailedJoin) → b.st.failed ≡ Some f → (f.closing < b.st.atoms + 1) × (f.opening < b.st.atoms + 1)
  more_failing h f e = let z = h f e in (omega (arith, z.0), omega (arith, z.1))

  pub root_holds : (k : AtomKind) (place : ℕ) → in_range k ≡ true → Holds (root_of b k place)
  unfolding root_of entered
  root_holds k place ok =
      by_test Holds (leb b.st.places b.st.atoms) (λ e. refuse_holds _ place)
      (λ e. record {
        keeps = keeps_root b.st.places b.st.slots b.st.atoms b.st.entries b.st.top b.st.joins b.atoms b.entries b.path b.rings h.keeps k ok (leb-false _ _ e);
        failing = more_failing h.failing;
      })

  -- the current atom
  last_below : b.st.top ≢ 0 → last_of b < b.st.atoms
  unfolding last_of
  last_below z = h.keeps.steps (b.st.top - 1) (omega arith)

  extended_holds : (c : BondKind) (q : Option AtomKind) → RangeKept q → b.st.top ≢ 0 → b.st.atoms < b.st.places → b.st.entries + 2 ≤ b.st.slots → Holds (extended_by b c q)
  unfolding extended_by entered bonded
  extended_holds c None ok z room fits = refuse_holds _ b.st.atoms
  extended_holds c (Some t) ok z room fits =
      record {
        keeps = keeps_extend b.st.places b.st.slots b.st.atoms b.st.entries b.st.top b.st.joins b.atoms b.entries b.path b.rings h.keeps t c (last_of b) ok room fits (last_below z);
        failing = more_failing h.failing;
      }

  pub extend_holds : (c : BondKind) (k : AtomKind) (place : ℕ) → in_range k ≡ true → Holds (extend_of b c k place)
  unfolding extend_of
  extend_holds c k place ok =
      by_test Holds (eqb b.st.top 0) (λ e. refuse_holds _ 0)
      (λ z. by_test Holds (leb b.st.places b.st.atoms) (λ e. refuse_holds _ place)
      (λ r. by_test Holds (ltb b.st.slots (b.st.entries + 2)) (λ e. refuse_holds _ place)
      (λ f. extended_holds c (invert_of k) (invert_range k ok) (eqb-false _ _ z) (leb-false _ _ r) (ltb-false _ _ f))))

  -- ring numbers
  module _ (n : ℕ) (below : n < ring_number_count) (some : b.st.top ≢ 0) where
    opened_holds : (c : BondKind) → get_or b.rings n 0 ≡ 0 → b.st.entries + 1 ≤ b.st.slots → Holds (opened_of b c n)
    unfolding opened_of
    opened_holds c free fits =
        record {
          keeps = keeps_open b.st.places b.st.slots b.st.atoms b.st.entries b.st.top b.st.joins b.atoms b.entries b.path b.rings h.keeps n c (last_of b) below free fits (last_below some);
          failing = h.failing;
        }

    opener_below : get_or b.rings n 0 ≢ 0 → opening_of b n < b.st.atoms
    unfolding opening_of opened_at
    opener_below held = h.keeps.plain.source (get_or b.rings n 0 - 1) (let z = h.keeps.each n below held in omega (arith, z.0, held))

    closed_holds : (place : ℕ) (q : Option (BondKind × BondKind)) → Reversed q → get_or b.rings n 0 ≢ 0 → Holds (closed_by b n place q)
    unfolding closed_by failed_st opened_at opening_of
    closed_holds place None back held =
        by_test (λ (s : Builder). Holds (bld b.atoms b.entries b.path (set b.rings n 0) s)) (is_some b.st.failed)
        (λ t. record { keeps = fails; failing = h.failing })
        (λ t. record {
          keeps = fails;
          failing = λ f e.
              let q : failed_join (last_of b) (opening_of b n) ≡ f = cc in
              subst (λ (g : FailedJoin). (g.closing < b.st.atoms) × (g.opening < b.st.atoms)) q (last_below some, opener_below held);
        })
      where
        fails : Keeps b.st.places b.st.slots b.st.atoms b.st.entries b.st.top (b.st.joins + 1) b.atoms b.entries b.path (set b.rings n 0)
        fails = keeps_fail b.st.places b.st.slots b.st.atoms b.st.entries b.st.top b.st.joins b.atoms b.entries b.path b.rings h.keeps n below held
    closed_holds place (Some (l, r)) back held =
        by_test Holds (ltb b.st.slots (b.st.entries + 1)) (λ e. refuse_holds _ place)
        (λ f. record {
          keeps = keeps_close b.st.places b.st.slots b.st.atoms b.st.entries b.st.top b.st.joins b.atoms b.entries b.path b.rings h.keeps n below held l r (last_of b) back (ltb-false _ _ f) (last_below some);
          failing = h.failing;
        })

  pub join_holds : (c : BondKind) (n place : ℕ) → n < ring_number_count → Holds (join_of b c n place)
  unfolding join_of
  join_holds c n place below =
      by_test Holds (eqb b.st.top 0) (λ e. refuse_holds _ 0)
      (λ z. by_test Holds (eqb (get_or b.rings n 0) 0)
      (λ free. by_test Holds (ltb b.st.slots (b.st.entries + 1)) (λ e. refuse_holds _ place)
      (λ f. opened_holds n below (eqb-false _ _ z) c (eqb-true _ _ free) (ltb-false _ _ f)))
      (λ held. closed_holds n below (eqb-false _ _ z) place (reconcile_of (opening_kind b n) c) (reconciled (opening_kind b n) c) (eqb-false _ _ held)))

  pub pop_holds : (n : ℕ) → Holds (pop_of b n)
  unfolding pop_of
  pop_holds n =
      record {
        keeps = keeps_pop b.st.places b.st.slots b.st.atoms b.st.entries b.st.top b.st.joins b.atoms b.entries b.path b.rings h.keeps n;
        failing = h.failing;
      }
