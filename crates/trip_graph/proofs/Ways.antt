-- In a simple graph a new atom has one entry back to the source, which is the reverse: so it can be entered; and a bond to an
-- atom met before has such ends. And the other way about, whatever the graph: what a scan found, and what lets a bond pass, says so
-- of the entries.
use mathlib.Core.Path.{◌≡◌, refl, sym, ap, ap₂, ◌∙◌, subst}
use mathlib.Core.Logic.{◌≢◌}
use mathlib.Core.List.{List}
use mathlib.Core.Bool.{Bool, true, false}
use Prim.Native.Nat.{ℕ, zero, suc, ◌-◌, ◌≤◌, ◌<◌}
use native.Mathlib.Omega.{arith}
use lib.Dec.{eqb}
use borrow.Author.Tests.{eq-eqb, ne_eqb, eqb-true, eqb-false}
use Rattle.feature.specs.Pick.{pick, both}
use Rattle.feature.specs.Bonds.{code_of, same_kind, reverse_of}
use Rattle.feature.specs.declared.bond_kind.BondKind.{BondKind}
use Rattle.feature.proofs.Bonds.{same_code}
use Rattle.feature.proofs.Cases.{by_eq, by_test, both_first, clash}
use Rattle.walk_entry.specs.declared.entry.Back.{Back}
use Rattle.walk_entry.specs.declared.entry.Back.TheVariants.{Found, Twice, Fixed}
use Rattle.std.specs.Prelude.{Err, None, Ok, Option, Result, Some}
use Rattle.walk_entry.specs.declared.WalkError.{WalkError}
use Rattle.walk_entry.specs.declared.WalkError.TheVariants.{DuplicateBond, IncompatibleBond, Inversion}
use Rattle.write.specs.declared.answer.WriteError.TheVariants.{Stopped}
use Rattle.trip_graph.specs.Walked.{blames_end}
use Rattle.walk_entry.specs.Graph.{Graph, kind_at, degree_at, bond_in, bond_of}
use Rattle.walk_entry.specs.Ways.{is_fixed, even, scan_in, scan_of, judged_back, way_of}
use Rattle.walk_entry.specs.Ties.{tie_of}
use Rattle.walk_entry.specs.Steps.{scanned_to, is_twice, tied_by}
use Rattle.walk_entry.proofs.Ties.{tie_scans}
use Rattle.trip_graph.specs.Renumber.{Backed, Simple}
use Rattle.trip_graph.proofs.Lists.{by_bool}

module _ (bonds first : List ℕ) (t s : ℕ) where
  -- no entry back below n
  scan_clear : (fixed : Bool) (n back : ℕ) → ((i : ℕ) → i < n → (bond_in bonds first t i).to ≢ s) → scan_in bonds first t s fixed n back ≡ Found back
  unfolding scan_in
  scan_clear fixed zero back h = refl
  scan_clear fixed (suc i) back h = rw (ne_eqb (bond_in bonds first t i).to s (h i (omega arith))) (scan_clear fixed i back (λ j l. h j (omega arith)))

  -- one entry back below n
  scan_finds : (fixed : Bool) (n j : ℕ) → j < n → (bond_in bonds first t j).to ≡ s → ((i : ℕ) → i < n → (bond_in bonds first t i).to ≡ s → i ≡ j)
      → scan_in bonds first t s fixed n 0 ≡ pick (both fixed (even j)) Fixed (Found (suc j))
  unfolding scan_in
  scan_finds fixed zero j l e u = absurd (omega arith)
  scan_finds fixed (suc i) j l e u =
      by_eq i j
      (λ q. rw (eq-eqb (bond_in bonds first t i).to s (ap (λ (x : ℕ). (bond_in bonds first t x).to) q ∙ e))
      (ap (pick (both fixed (even i)) Fixed) (scan_clear fixed i (suc i) (λ x h z. let y : x ≡ j = u x (omega arith) z in omega arith))
      ∙ ap (λ (x : ℕ). pick (both fixed (even x)) Fixed (Found (suc x))) q))
      (λ q. rw (ne_eqb (bond_in bonds first t i).to s (λ z. q (u i (omega arith) z))) (scan_finds fixed i j (omega arith) e (λ x h z. u x (omega arith) z)))

-- the entry i of s leads to t: t is entered by its entry back, unless its mark would have to be turned and can't be
pub way_is : (g : Graph) → Simple g → (s i t : ℕ) → t < g.size → (bond_of g s i).to ≡ t
    → (k : Backed g s t (bond_of g s i)) → way_of g (bond_of g s i).kind s t ≡ pick (both (is_fixed (kind_at g t)) (even k.place)) (Err (Inversion t)) (Ok (suc k.place))
unfolding way_of judged_back
way_is g S s i t ht e k =
    let z : suc k.place - 1 ≡ k.place = omega arith in
    ap (judged_back g (bond_of g s i).kind s t)
    (scan_finds g.bonds g.first t s (is_fixed (kind_at g t)) (degree_at g t) k.place k.within k.leads (λ x h y. S.once t x k.place ht h k.within (y ∙ sym k.leads)))
    ∙ by_bool (both (is_fixed (kind_at g t)) (even k.place)) (λ q. rw q)
    (λ q. rw (q, ne_eqb (suc k.place) 0 (λ y. omega arith), z, eq-eqb (code_of (bond_of g t k.place).kind) (code_of (reverse_of (bond_of g s i).kind)) (ap code_of k.reversed)))

pub way_enters : (g : Graph) → Simple g → (s i t : ℕ) → t < g.size → (bond_of g s i).to ≡ t → is_fixed (kind_at g t) ≡ false
    → (k : Backed g s t (bond_of g s i)) → way_of g (bond_of g s i).kind s t ≡ Ok (suc k.place)
way_enters g S s i t ht e f k = way_is g S s i t ht e k ∙ rw f

-- the entry i of s leads to t, which was met: each holds one entry for the other, the reverse
pub tie_is : (g : Graph) → Simple g → (s i t : ℕ) → s < g.size → i < degree_at g s → t < g.size → (bond_of g s i).to ≡ t
    → (k : Backed g s t (bond_of g s i)) → tie_of g (bond_of g s i).kind s t ≡ Ok (suc k.place)
unfolding tied_by is_twice
tie_is g S s i t hs hi ht e k =
    let z : suc k.place - 1 ≡ k.place = omega arith in
    tie_scans g (bond_of g s i).kind s t
    ∙ ap₂ (λ (x y : Back). tied_by g (bond_of g s i).kind s t (is_twice x) y)
    (scan_finds g.bonds g.first s t false (degree_at g s) i hi e (λ x h y. S.once s x i hs h hi (y ∙ sym e)))
    (scan_finds g.bonds g.first t s false (degree_at g t) k.place k.within k.leads (λ x h y. S.once t x k.place ht h k.within (y ∙ sym k.leads)))
    ∙ rw (ne_eqb (suc k.place) 0 (λ y. omega arith), z, eq-eqb (code_of (bond_of g t k.place).kind) (code_of (reverse_of (bond_of g s i).kind)) (ap code_of k.reversed))

-- ---- what a scan says, whatever the tables
-- the one entry below n of t that leads to s stands at place b, from 1, and 0 is none
pub record Sole (bonds first : List ℕ) (t s n b : ℕ) : Type 0 where
  pub within : b ≤ n
  pub leads : b ≢ 0 → (bond_in bonds first t (b - 1)).to ≡ s
  pub only : (i : ℕ) → i < n → (bond_in bonds first t i).to ≡ s → suc i ≡ b

-- none below n leads to s, and one above was found
record Rest (bonds first : List ℕ) (t s n back b : ℕ) : Type 0 where
  is : b ≡ back
  clear : (i : ℕ) → i < n → (bond_in bonds first t i).to ≢ s

module _ (bonds first : List ℕ) (t s : ℕ) (fixed : Bool) where
  Rests : ℕ → ℕ → Back → Type 0
  Rests n back (Found b) = Rest bonds first t s n back b
  Rests n back Twice = Unit {0}
  Rests n back Fixed = fixed ≡ true

  unfoldable Tells : ℕ → Back → Type 0
  Tells n (Found b) = Sole bonds first t s n b
  Tells n Twice = Unit {0}
  Tells n Fixed = fixed ≡ true

  rest_next : (i back : ℕ) → (bond_in bonds first t i).to ≢ s → (x : Back) → Rests i back x → Rests (suc i) back x
  unfolding Rests
  rest_next i back ne (Found b) r =
      record { is = r.is; clear = λ j l. by_eq j i (λ e. rw e ne) (λ q. r.clear j (omega arith)) }
  rest_next i back ne Twice r = tt
  rest_next i back ne Fixed r = r

  scan_rests : (n back : ℕ) → back ≢ 0 → Rests n back (scan_in bonds first t s fixed n back)
  unfolding scan_in Rests
  scan_rests zero back nb = record { is = refl; clear = λ i l. absurd (omega arith) }
  scan_rests (suc i) back nb =
      by_test (Rests (suc i) back) (eqb (bond_in bonds first t i).to s)
      (λ q. by_test (Rests (suc i) back) (both fixed (even i)) (λ z. both_first _ _ z)
      (λ z. by_test (Rests (suc i) back) (eqb back 0) (λ y. absurd (nb (eqb-true _ _ y))) (λ y. tt)))
      (λ q. rest_next i back (eqb-false _ _ q) (scan_in bonds first t s fixed i back) (scan_rests i back nb))

  tell_here : (i : ℕ) → (bond_in bonds first t i).to ≡ s → (x : Back) → Rests i (suc i) x → Tells (suc i) x
  unfolding Rests Tells
  tell_here i e (Found b) r =
      let is : b ≡ suc i = r.is in
      let z : b - 1 ≡ i = omega arith in
      record {
        within = omega arith;
        leads = λ nb. rw z e;
        only = λ j l h. by_eq j i (λ q. omega arith) (λ q. absurd (r.clear j (omega arith) h));
      }
  tell_here i e Twice r = tt
  tell_here i e Fixed r = r

  tell_next : (i : ℕ) → (bond_in bonds first t i).to ≢ s → (x : Back) → Tells i x → Tells (suc i) x
  unfolding Tells
  tell_next i ne (Found b) r =
      record {
        within = omega (arith, r.within);
        leads = r.leads;
        only = λ j l h. by_eq j i (λ q. absurd (ne (rw q at h))) (λ q. r.only j (omega arith) h);
      }
  tell_next i ne Twice r = tt
  tell_next i ne Fixed r = r

  scan_tells : (n : ℕ) → Tells n (scan_in bonds first t s fixed n 0)
  unfolding scan_in Tells
  scan_tells zero = record { within = omega arith; leads = λ nb. absurd (nb refl); only = λ i l. absurd (omega arith) }
  scan_tells (suc i) =
      by_test (Tells (suc i)) (eqb (bond_in bonds first t i).to s)
      (λ q. by_test (Tells (suc i)) (both fixed (even i)) (λ z. both_first _ _ z)
      (λ z. tell_here i (eqb-true _ _ q) (scan_in bonds first t s fixed i (suc i)) (scan_rests i (suc i) (λ y. omega arith))))
      (λ q. tell_next i (eqb-false _ _ q) (scan_in bonds first t s fixed i 0) (scan_tells i))

-- ---- what lets a bond pass, whatever the tables
same_kinds : (j k : BondKind) → same_kind j k ≡ true → j ≡ k
same_kinds j k h = same_code j k (eqb-true _ _ h)

-- t holds one entry for s, at place b from 1, of the reverse of the kind k
pub record Answers (g : Graph) (k : BondKind) (s t b : ℕ) : Type 0 where
  pub some : b ≢ 0
  pub sole : Sole g.bonds g.first t s (degree_at g t) b
  pub reversed : (bond_of g t (b - 1)).kind ≡ reverse_of k

-- a new atom is entered by such an entry, or it is refused with a number
unfoldable pub Passes : Graph → BondKind → ℕ → ℕ → Result ℕ WalkError → Type 0
Passes g k s t (Ok b) = Answers g k s t b
Passes g k s t (Err why) = Unit {0}

judged_passes : (g : Graph) (k : BondKind) (s t : ℕ) (fixed : Bool) (x : Back) → Tells g.bonds g.first t s fixed (degree_at g t) x → Passes g k s t (judged_back g k s t x)
unfolding judged_back Passes Tells
judged_passes g k s t fixed Fixed h = tt
judged_passes g k s t fixed Twice h = tt
judged_passes g k s t fixed (Found b) h =
    by_test (Passes g k s t) (eqb b 0) (λ q. tt)
    (λ q. by_test (Passes g k s t) (same_kind (bond_of g t (b - 1)).kind (reverse_of k))
    (λ z. record { some = eqb-false _ _ q; sole = h; reversed = same_kinds _ _ z }) (λ z. tt))

pub way_passes : (g : Graph) (k : BondKind) (s t : ℕ) → Passes g k s t (way_of g k s t)
unfolding way_of
way_passes g k s t =
    judged_passes g k s t (is_fixed (kind_at g t)) (scan_of g t s) (scan_tells g.bonds g.first t s (is_fixed (kind_at g t)) (degree_at g t))

-- an atom met before lets a bond pass if also s holds no second entry for it
pub record Tied (g : Graph) (k : BondKind) (s t b : ℕ) : Type 0 where
  pub answers : Answers g k s t b
  pub once : (i j : ℕ) → i < degree_at g s → j < degree_at g s → (bond_of g s i).to ≡ t → (bond_of g s j).to ≡ t → i ≡ j

unfoldable pub Ties : Graph → BondKind → ℕ → ℕ → Result ℕ WalkError → Type 0
Ties g k s t (Ok b) = Tied g k s t b
Ties g k s t (Err why) = Unit {0}

-- no two, where the scan doesn't say so
tells_once : (g : Graph) (s t : ℕ) (x : Back) → Tells g.bonds g.first s t false (degree_at g s) x → is_twice x ≡ false
    → (i j : ℕ) → i < degree_at g s → j < degree_at g s → (bond_of g s i).to ≡ t → (bond_of g s j).to ≡ t → i ≡ j
unfolding Tells is_twice
tells_once g s t (Found b) h q i j hi hj ei ej = omega (arith, h.only i hi ei, h.only j hj ej)
tells_once g s t Twice h q i j hi hj ei ej = clash refl q
tells_once g s t Fixed h q i j hi hj ei ej = clash h refl

tied_ties : (g : Graph) (k : BondKind) (s t : ℕ) (y x : Back) → Tells g.bonds g.first s t false (degree_at g s) y
    → Tells g.bonds g.first t s false (degree_at g t) x → Ties g k s t (tied_by g k s t (is_twice y) x)
unfolding tied_by Ties Tells
tied_ties g k s t y Fixed n h = tt
tied_ties g k s t y Twice n h = tt
tied_ties g k s t y (Found b) n h =
    by_test (Ties g k s t) (eqb b 0) (λ q. tt)
    (λ q. by_test (Ties g k s t) (is_twice y) (λ z. tt)
    (λ z. by_test (Ties g k s t) (same_kind (bond_of g t (b - 1)).kind (reverse_of k))
    (λ p. record { answers = record { some = eqb-false _ _ q; sole = h; reversed = same_kinds _ _ p }; once = tells_once g s t y n z })
    (λ p. tt)))

pub tie_ties : (g : Graph) (k : BondKind) (s t : ℕ) → Ties g k s t (tie_of g k s t)
tie_ties g k s t =
    subst (Ties g k s t) (sym (tie_scans g k s t))
    (tied_ties g k s t (scanned_to g s t) (scanned_to g t s)
    (scan_tells g.bonds g.first s t false (degree_at g s)) (scan_tells g.bonds g.first t s false (degree_at g t)))

-- ---- what refuses a bond whose target holds the reverse
-- not for a bond with one end, for one whose ends do not match, or for a target that is no atom
abbrev pub EndsWell : WalkError → Type 0
EndsWell why = blames_end (Err (Stopped why)) ≡ false

abbrev pub NoEnd : Option WalkError → Type 0
NoEnd None = Unit {0}
NoEnd (Some why) = EndsWell why

unfoldable pub Allows : Result ℕ WalkError → Type 0
Allows (Ok b) = Unit {0}
Allows (Err why) = EndsWell why

pub twice_ends : (s t : ℕ) → EndsWell (DuplicateBond s t)
unfolding blames_end
twice_ends s t = refl

module _ (g : Graph) (s i t : ℕ) (B : Backed g s t (bond_of g s i)) where
  abbrev kind : BondKind
  kind = (bond_of g s i).kind

  -- the one entry back is the reverse
  sole_place : (b : ℕ) → Sole g.bonds g.first t s (degree_at g t) b → b - 1 ≡ B.place
  sole_place b h = omega (arith, h.only B.place B.within B.leads)

  sole_allows : (b : ℕ) → Sole g.bonds g.first t s (degree_at g t) b → Allows (pick (same_kind (bond_of g t (b - 1)).kind (reverse_of kind)) (Ok b) (Err (IncompatibleBond t s)))
  unfolding Allows
  sole_allows b h =
      by_test Allows (same_kind (bond_of g t (b - 1)).kind (reverse_of kind)) (λ q. tt)
      (λ q. clash (eq-eqb (code_of (bond_of g t (b - 1)).kind) (code_of (reverse_of kind)) (ap (λ (x : ℕ). code_of (bond_of g t x).kind) (sole_place b h) ∙ ap code_of B.reversed)) q)

  some_back : (b : ℕ) → Sole g.bonds g.first t s (degree_at g t) b → b ≢ 0
  some_back b h z = omega (arith, h.only B.place B.within B.leads)

  judged_allows : (fixed : Bool) (x : Back) → Tells g.bonds g.first t s fixed (degree_at g t) x → Allows (judged_back g kind s t x)
  unfolding judged_back Allows Tells blames_end
  judged_allows fixed Fixed h = refl
  judged_allows fixed Twice h = refl
  judged_allows fixed (Found b) h = by_test Allows (eqb b 0) (λ q. absurd (some_back b h (eqb-true _ _ q))) (λ q. sole_allows b h)

  pub way_allows : Allows (way_of g kind s t)
  unfolding way_of
  way_allows =
      judged_allows (is_fixed (kind_at g t)) (scan_of g t s) (scan_tells g.bonds g.first t s (is_fixed (kind_at g t)) (degree_at g t))

  tied_allows : (twice : Bool) (x : Back) → Tells g.bonds g.first t s false (degree_at g t) x → Allows (tied_by g kind s t twice x)
  unfolding tied_by Allows Tells
  tied_allows twice Fixed h = twice_ends s t
  tied_allows twice Twice h = twice_ends s t
  tied_allows twice (Found b) h =
      by_test Allows (eqb b 0) (λ q. absurd (some_back b h (eqb-true _ _ q))) (λ q. by_test Allows twice (λ z. twice_ends s t) (λ z. sole_allows b h))

  pub tie_allows : Allows (tie_of g kind s t)
  tie_allows =
      subst Allows (sym (tie_scans g kind s t)) (tied_allows (is_twice (scanned_to g s t)) (scanned_to g t s) (scan_tells g.bonds g.first t s false (degree_at g t)))
