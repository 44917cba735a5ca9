-- The rule for marks serves: of a kind with no configuration but TH1 or TH2 the mark can always be turned, and a kind that is said
-- and built again is the kind that comes back.
use mathlib.Core.Path.{◌≡◌, refl, sym, ap, ◌∙◌}
use mathlib.Core.Logic.{◌≢◌}
use mathlib.Core.Bool.{Bool, true, false}
use Prim.Native.Nat.{ℕ, ◌-◌, ◌%◌, ◌≤◌}
use native.Mathlib.Omega.{arith}
use lib.Dec.{eqb}
use borrow.Author.Tests.{eq-eqb, ne_eqb, eqb-true}
use Rattle.feature.specs.Pick.{pick, both, neither}
use Rattle.feature.specs.Kinds.{no_hydrogens, no_configuration, th1, th2, with_configuration, bracket_in_range, in_range, invert_bracket, invert_of, turned_or}
use Rattle.feature.specs.declared.atom_kind.BracketAtom.{BracketAtom}
use Rattle.feature.specs.declared.atom_kind.AtomKind.{AtomKind}
use Rattle.feature.specs.declared.atom_kind.AtomKind.TheVariants.{Star, Aliphatic, Aromatic, Bracket}
use Rattle.std.specs.Prelude.{Option, Some}
use Rattle.feature.proofs.Cases.{by_test, by_eq, by_either}
use Rattle.feature.proofs.Ranges.{good, ranged}
use Rattle.survive.specs.Survive.{configuration_survives, fields_survive, survives}
use Rattle.walk_entry.specs.Ways.{is_refused, is_fixed, even, said_as}
use Rattle.trip_graph.specs.Marks.{Tetrahedral, bears_hydrogen, other_mark, toggled, odd_index, back_kind, MarksServe}
use Rattle.trip_graph.proofs.Lists.{by_bool}

-- the mark toggled where the atom bears hydrogen
turned : AtomKind → AtomKind
turned k = pick (bears_hydrogen k) (toggled k) k

mark_same : (b : BracketAtom) (c : ℕ) → c ≡ b.configuration → Bracket (with_configuration b c) ≡ Bracket b
mark_same b c e = ap (λ (x : ℕ). Bracket (with_configuration b x)) e

mark_none : (c : ℕ) → c ≡ 0 → other_mark c ≡ c
unfolding other_mark
mark_none c e = rw e

mark_one : (c : ℕ) → c ≡ 1 → other_mark c ≡ 2
unfolding other_mark
mark_one c e = rw e

mark_two : (c : ℕ) → c ≡ 2 → other_mark c ≡ 1
unfolding other_mark
mark_two c e = rw e

mark_small : (c : ℕ) → c ≤ 2 → other_mark c ≤ 2
mark_small c h =
    by_eq c 0 (λ e. rw (mark_none c e) h)
    (λ n. by_eq c 1 (λ e. rw (mark_one c e) (omega arith)) (λ m. rw (mark_two c (omega arith)) (omega arith)))

mark_twice : (c : ℕ) → c ≤ 2 → other_mark (other_mark c) ≡ c
mark_twice c h =
    by_eq c 0 (λ e. rw (mark_none c e) (mark_none c e))
    (λ n. by_eq c 1 (λ e. rw (mark_one c e) (mark_two 2 refl ∙ sym e)) (λ m. let e : c ≡ 2 = omega arith in rw (mark_two c e) (mark_one 1 refl ∙ sym e)))

invert_bracket_lem : (b : BracketAtom) → b.configuration ≤ 2 → invert_bracket b ≡ Some (turned (Bracket b))
unfolding invert_bracket turned bears_hydrogen toggled
invert_bracket_lem b h =
    by_eq b.configuration 0
    (λ e. rw (eq-eqb b.configuration 0 e)
    (by_bool (pick (eqb b.hydrogens no_hydrogens) false (neither (eqb b.hydrogens 0)))
    (λ q. rw q (ap Some (sym (mark_same b (other_mark b.configuration) (mark_none b.configuration e)))))
    (λ q. rw q)))
    (λ n. by_eq b.hydrogens no_hydrogens (λ e. simp (ne_eqb b.configuration 0 n, eq-eqb b.hydrogens no_hydrogens e))
    (λ m. by_eq b.hydrogens 0 (λ e. simp (ne_eqb b.configuration 0 n, ne_eqb b.hydrogens no_hydrogens m, eq-eqb b.hydrogens 0 e))
    (λ l. by_eq b.configuration 1
    (λ e. simp (ne_eqb b.configuration 0 n, ne_eqb b.hydrogens no_hydrogens m, ne_eqb b.hydrogens 0 l, eq-eqb b.configuration 1 e, mark_one b.configuration e))
    (λ o. let e : b.configuration ≡ 2 = omega arith in
    simp (ne_eqb b.configuration 0 n, ne_eqb b.hydrogens no_hydrogens m, ne_eqb b.hydrogens 0 l, ne_eqb b.configuration 1 o, eq-eqb b.configuration 2 e, mark_two b.configuration e)))))

-- the mark of such a kind can be turned
invert_is : (k : AtomKind) → Tetrahedral k → invert_of k ≡ Some (turned k)
unfolding invert_of turned bears_hydrogen
invert_is Star h = refl
invert_is (Aliphatic n) h = refl
invert_is (Aromatic n) h = refl
invert_is (Bracket b) h = invert_bracket_lem b h

never_fixed : (k : AtomKind) → Tetrahedral k → is_fixed k ≡ false
unfolding is_fixed is_refused
never_fixed k h = rw (invert_is k h)

turned_stays : (k : AtomKind) → Tetrahedral k → Tetrahedral (turned k)
unfolding turned bears_hydrogen toggled
turned_stays Star h = tt
turned_stays (Aliphatic n) h = tt
turned_stays (Aromatic n) h = tt
turned_stays (Bracket b) h =
    by_bool (pick (eqb b.hydrogens no_hydrogens) false (neither (eqb b.hydrogens 0)))
    (λ q. rw q (mark_small b.configuration h)) (λ q. rw q h)

turned_twice : (k : AtomKind) → Tetrahedral k → turned (turned k) ≡ k
unfolding turned bears_hydrogen toggled
turned_twice Star h = refl
turned_twice (Aliphatic n) h = refl
turned_twice (Aromatic n) h = refl
turned_twice (Bracket b) h =
    by_bool (pick (eqb b.hydrogens no_hydrogens) false (neither (eqb b.hydrogens 0)))
    (λ q. rw (q, q) (mark_same b (other_mark (other_mark b.configuration)) (mark_twice b.configuration h))) (λ q. rw (q, q))

-- ---- said, and built again
said_even : (k : AtomKind) (b : ℕ) → even b ≡ true → said_as k b ≡ k
unfolding said_as
said_even k b e = rw e

said_odd : (k : AtomKind) (b : ℕ) → Tetrahedral k → even b ≡ false → said_as k b ≡ turned k
unfolding said_as turned_or
said_odd k b h e = rw (e, invert_is k h)

said_root : (k : AtomKind) → said_as k 0 ≡ k
unfolding said_as even
said_root k = refl

-- ---- what comes back
even_before : (b : ℕ) → b ≢ 0 → even b ≡ neither (even (b - 1))
unfolding even
even_before b n =
    by_eq (b % 2) 0
    (λ e. rw (eq-eqb (b % 2) 0 e, ne_eqb ((b - 1) % 2) 0 (λ z. omega arith)))
    (λ e. rw (ne_eqb (b % 2) 0 e, eq-eqb ((b - 1) % 2) 0 (omega arith)))

-- a place from 1 is even where its index is odd
odd_index_lem : (b : ℕ) → b ≢ 0 → odd_index b ≡ even b
unfolding odd_index
odd_index_lem b n = rw (ne_eqb b 0 n) (sym (even_before b n))

back_quiet : (k : AtomKind) (b : ℕ) → odd_index b ≡ false → back_kind k b ≡ k
unfolding back_kind
back_quiet k b e = rw e (go (bears_hydrogen k))
  where
    go : (q : Bool) → pick (both q false) (toggled k) k ≡ k
    go true = refl
    go false = refl

back_loud : (k : AtomKind) (b : ℕ) → odd_index b ≡ true → back_kind k b ≡ turned k
unfolding back_kind turned
back_loud k b e = rw e (go (bears_hydrogen k))
  where
    go : (q : Bool) → pick (both q true) (toggled k) k ≡ pick q (toggled k) k
    go true = refl
    go false = refl

back_root : (k : AtomKind) → back_kind k 0 ≡ k
unfolding odd_index
back_root k = back_quiet k 0 refl

-- what the builder makes of an atom as it is said
said_built : (k : AtomKind) (b : ℕ) → Tetrahedral k → b ≢ 0 → invert_of (said_as k b) ≡ Some (back_kind k b)
said_built k b h n =
    by_bool (even b)
    (λ e. ap invert_of (said_even k b e) ∙ invert_is k h ∙ ap Some (sym (back_loud k b (odd_index_lem b n ∙ e))))
    (λ e. ap invert_of (said_odd k b h e) ∙ invert_is (turned k) (turned_stays k h) ∙ ap Some (turned_twice k h ∙ sym (back_quiet k b (odd_index_lem b n ∙ e))))

-- ---- ranges
mark_range : (b : BracketAtom) (c : ℕ) → c ≤ th2 → in_range (Bracket b) ≡ true → in_range (Bracket (with_configuration b c)) ≡ true
mark_range b c l h =
    let w = good (Bracket b) h in
    ranged (Bracket (with_configuration b c))
    (record { isotope = w.isotope; symbol = w.symbol; configuration = omega arith; hydrogens = w.hydrogens; charge = w.charge; map = w.map })

toggled_range : (k : AtomKind) → Tetrahedral k → in_range k ≡ true → in_range (toggled k) ≡ true
unfolding toggled
toggled_range Star t h = h
toggled_range (Aliphatic n) t h = h
toggled_range (Aromatic n) t h = h
toggled_range (Bracket b) t h =
    let m = mark_small b.configuration t in
    mark_range b (other_mark b.configuration) (omega arith) h

back_range : (k : AtomKind) (b : ℕ) → Tetrahedral k → in_range k ≡ true → in_range (back_kind k b) ≡ true
unfolding back_kind
back_range k b t h = by_bool (both (bears_hydrogen k) (odd_index b)) (λ q. rw q (toggled_range k t h)) (λ q. rw q h)

-- ---- what survives
-- a mark of TH1 or TH2 in place of the other
mark_survives : (b : BracketAtom) (c d : ℕ) → b.configuration ≡ c → bracket_in_range (with_configuration b d) ≡ bracket_in_range (with_configuration b c) → configuration_survives d ≡ configuration_survives c
    → survives (Bracket b) ≡ true → survives (Bracket (with_configuration b d)) ≡ true
unfolding survives fields_survive
mark_survives b c d e r f h = rw (r, f) (rw e at h)

turned_survives : (k : AtomKind) → survives k ≡ true → survives (turned_or k (invert_of k)) ≡ true
unfolding turned_or invert_of invert_bracket bracket_in_range configuration_survives
turned_survives Star h = h
turned_survives (Aliphatic n) h = h
turned_survives (Aromatic n) h = h
turned_survives (Bracket b) h =
    let P : Option AtomKind → Type 0 = λ x. survives (turned_or (Bracket b) x) ≡ true in
    by_test P (eqb b.configuration no_configuration) (λ q. h)
    (λ q. by_test P (eqb b.hydrogens no_hydrogens) (λ q. h)
    (λ q. by_test P (eqb b.hydrogens 0) (λ q. h)
    (λ q. by_test P (eqb b.configuration th1) (λ e. mark_survives b th1 th2 (eqb-true _ _ e) refl refl h)
    (λ q. by_test P (eqb b.configuration th2) (λ e. mark_survives b th2 th1 (eqb-true _ _ e) refl refl h)
    (λ q. h)))))

said_survives : (k : AtomKind) (b : ℕ) → survives k ≡ true → survives (said_as k b) ≡ true
unfolding said_as
said_survives k b h = by_test (λ (x : AtomKind). survives x ≡ true) (even b) (λ q. h) (λ q. turned_survives k h)

-- ---- what is said is in range
turned_range : (k : AtomKind) → in_range k ≡ true → in_range (turned_or k (invert_of k)) ≡ true
unfolding turned_or invert_of invert_bracket
turned_range Star h = h
turned_range (Aliphatic n) h = h
turned_range (Aromatic n) h = h
turned_range (Bracket b) h =
    let P : Option AtomKind → Type 0 = λ x. in_range (turned_or (Bracket b) x) ≡ true in
    by_either P (eqb b.configuration no_configuration) h
    (by_either P (eqb b.hydrogens no_hydrogens) h
    (by_either P (eqb b.hydrogens 0) h
    (by_either P (eqb b.configuration th1) (mark_range b th2 (omega arith) h)
    (by_either P (eqb b.configuration th2) (mark_range b th1 (omega arith) h) h))))

pub said_range : (k : AtomKind) (b : ℕ) → in_range k ≡ true → in_range (said_as k b) ≡ true
unfolding said_as
said_range k b h = by_test (λ (x : AtomKind). in_range x ≡ true) (even b) (λ q. h) (λ q. turned_range k h)

-- ---- the law
pub marks_serve : MarksServe
marks_serve = record {
  root = λ k. said_root k ∙ sym (back_root k);
  free = never_fixed;
  built = said_built;
  held = back_range;
  kept = said_survives;
}
