-- What is stored is what is loaded, nothing else is changed by it, and no other numbers are taken for an atom or a bond.
-- Assumes nothing.
use Prim.Native.Nat.{ℕ, ◌+◌, ◌-◌, ◌*◌, ◌/◌, ◌%◌, ◌<◌, ◌≤◌}
use mathlib.Core.Path.{◌≡◌, refl, ◌∙◌, ap, subst}
use mathlib.Core.List.{List}
use mathlib.Core.Logic.{◌⊎◌, ⊎_map}
use mathlib.Core.Bool.{Bool, true, false}
use native.Mathlib.Omega.{arith}
use native.Mathlib.Nat.{add-mul-mod_self_left, add-mul-div_left, mod-eq_of_lt, div-eq_of_lt, zero-add, mod-add-div}
use lib.ListN.{length, get_or-eq_default}
use lib.Seq.{sets}
use lib.Dec.{ltb, leb, eqb, lit<}
use borrow.Author.Tests.{lt-ltb, le-ltb, lt-leb, le-leb, ltb-true, ltb-false, eqb-true}
use Rattle.feature.specs.Pick.{pick}
use Rattle.feature.specs.Kinds.{aliphatic_count, aromatic_count, configurations, in_range}
use Rattle.feature.specs.Steps.{Within, GoodKind}
use Rattle.feature.specs.Bonds.{code_of, kind_of}
use Rattle.feature.specs.declared.atom_kind.AtomKind.{AtomKind}
use Rattle.feature.specs.declared.atom_kind.AtomKind.TheVariants.{Star, Aliphatic, Aromatic, Bracket}
use Rattle.feature.specs.declared.atom_kind.BracketAtom.{BracketAtom}
use Rattle.feature.specs.declared.bond_kind.BondKind.{BondKind}
use Rattle.feature.specs.declared.bond_kind.BondKind.TheVariants as bonds
use Rattle.std.specs.Prelude.{None, Option, Some}
use Rattle.feature.proofs.Ranges.{good, ranged}
use Rattle.feature.proofs.Bonds.{kind_back}
use Rattle.feature.proofs.Cases.{impossible, some_parts}
use Rattle.table.proofs.Stores.{sets_beside, sets_in, sets_first}
use Rattle.packing.specs.Words.{star, aliphatic_from, aromatic_from, bracketed, kind_room, number_room, charges, pair, bracket_pair, pair_of, words_of, list_of, plain_of, unpacked, bracket_of, load_of, load_at, bond_list, entry_coded, entry_of_words, entry_stored}

-- ---- two numbers in one
-- the first of them is its rest
low : (m x y : ℕ) → x < m → (x + m * y) % m ≡ x
low m x y h = add-mul-mod_self_left x m y ∙ mod-eq_of_lt h

-- the second is its quotient
high : (m x y : ℕ) → x < m → (x + m * y) / m ≡ y
high m x y h = add-mul-div_left x y (omega arith) ∙ ap (λ (z : ℕ). z + y) (div-eq_of_lt h) ∙ zero-add y

-- ---- atoms
-- zeros stand for no atom
pub zeros : load_of 0 0 ≡ None
unfolding load_of plain_of
zeros = refl

-- a kind in range has the words of its numbers
pub words_in : (k : AtomKind) → in_range k ≡ true → words_of k ≡ pair_of k
unfolding words_of
words_in k e = simp e

-- a bracket atom's words stand for it: no number of it reaches into the next
bracket_pair_lem : (b : BracketAtom) → Within b → load_of (bracket_pair b).first (bracket_pair b).second ≡ Some (Bracket b)
unfolding load_of bracket_of bracket_pair
bracket_pair_lem b g =
    let kind : bracketed + b.symbol < kind_room = omega arith in
    let isotope : b.isotope < number_room = omega arith in
    let configuration : b.configuration < configurations = omega arith in
    let charge : b.charge < charges = omega arith in
    let symbol : bracketed + b.symbol - bracketed ≡ b.symbol = omega arith in
    simp
    (le-leb bracketed (bracket_pair b).first (omega arith), low, high, le-ltb (bracketed + b.symbol) bracketed (omega arith), symbol)
    (ap (λ (p : Bool). pick p (Some (Bracket b)) None) (ranged (Bracket b) g))

-- the words of a kind's numbers stand for it
pair_loads : (k : AtomKind) → GoodKind k → load_of (pair_of k).first (pair_of k).second ≡ Some k
unfolding load_of plain_of pair_of
pair_loads Star g = refl
pair_loads (Aliphatic n) g =
    let e : aliphatic_from + n - aliphatic_from ≡ n = omega arith in
    simp
    (lt-leb bracketed (aliphatic_from + n) (omega arith), le-ltb (aliphatic_from + n) star (omega arith), le-ltb (aliphatic_from + n) aliphatic_from (omega arith), lt-ltb (aliphatic_from + n) aromatic_from (omega arith), e)
pair_loads (Aromatic n) g =
    let e : aromatic_from + n - aromatic_from ≡ n = omega arith in
    simp
    (lt-leb bracketed (aromatic_from + n) (omega arith), le-ltb (aromatic_from + n) star (omega arith), le-ltb (aromatic_from + n) aliphatic_from (omega arith), le-ltb (aromatic_from + n) aromatic_from (omega arith), lt-ltb (aromatic_from + n) bracketed (omega arith), e)
pair_loads (Bracket b) g = bracket_pair_lem b g

-- the words of a kind in range stand for it
pub load_words : (k : AtomKind) → in_range k ≡ true → load_of (words_of k).first (words_of k).second ≡ Some k
load_words k e = rw (words_in k e) (pair_loads k (good k e))

-- a test that refuses was not taken
refused : (b : Bool) {x : (Option AtomKind)} {k : AtomKind} → pick b None x ≡ Some k → (b ≡ false) × (x ≡ Some k)
refused true e = impossible cc
refused false e = (refl, e)

-- a test that grants was
granted : (b : Bool) {x : (Option AtomKind)} {k : AtomKind} → pick b x None ≡ Some k → (b ≡ true) × (x ≡ Some k)
granted true e = (refl, e)
granted false e = impossible cc

same_held : {j k : AtomKind} → Some j ≡ Some k → j ≡ k
same_held e = cc

-- the kind is in range, and the numbers are its words
abbrev Stands : ℕ → ℕ → AtomKind → Type 0
Stands a b k = (in_range k ≡ true) × (words_of k ≡ pair a b)

-- so it is where the words of its numbers are those
held : {a b : ℕ} (j : AtomKind) {k : AtomKind} → in_range j ≡ true → pair_of j ≡ pair a b → Some j ≡ Some k → Stands a b k
held {a} {b} j r w e = subst (Stands a b) (same_held e) (r, words_in j r ∙ w)

-- the words of a bracket atom
bracket_only : (a b : ℕ) (k : AtomKind) → bracket_of a b ≡ Some k → Stands a b k
unfolding bracket_of pair_of bracket_pair
bracket_only a b k e =
    let r1 = refused (ltb (a % kind_room) bracketed) e in
    let r2 = granted (in_range (Bracket (unpacked a b))) r1.1 in
    let kind : bracketed + (a % kind_room - bracketed) ≡ a % kind_room = omega (arith, ltb-false (a % kind_room) bracketed r1.0) in
    held (Bracket (unpacked a b)) r2.0 (simp (kind, mod-add-div)) r2.1

-- the first word of any other
plain_only : (n : ℕ) (k : AtomKind) → plain_of n ≡ Some k → Stands n 0 k
unfolding plain_of pair_of
plain_only n k e =
    let r = refused (ltb n star) e in
    cases (ltb n aliphatic_from) (ltb n aromatic_from) refl refl (ltb-false n star r.0) r.1 where
      cases : (p q : Bool) → ltb n aliphatic_from ≡ p → ltb n aromatic_from ≡ q → star ≤ n → pick p (Some Star) (pick q (Some (Aliphatic (n - aliphatic_from))) (pick (ltb n bracketed) (Some (Aromatic (n - aromatic_from))) None)) ≡ Some k → Stands n 0 k
      cases true q u v l d =
          held Star (ranged Star tt) (ap (λ (m : ℕ). pair m 0) (omega (arith, ltb-true n aliphatic_from u))) d
      cases false true u v l d =
          let g : n - aliphatic_from < aliphatic_count = omega (arith, ltb-true n aromatic_from v) in
          held (Aliphatic (n - aliphatic_from)) (ranged (Aliphatic (n - aliphatic_from)) g) (ap (λ (m : ℕ). pair m 0) (omega (arith, ltb-false n aliphatic_from u))) d
      cases false false u v l d =
          let r = granted (ltb n bracketed) d in
          let g : n - aromatic_from < aromatic_count = omega (arith, ltb-true n bracketed r.0) in
          held (Aromatic (n - aromatic_from)) (ranged (Aromatic (n - aromatic_from)) g) (ap (λ (m : ℕ). pair m 0) (omega (arith, ltb-false n aromatic_from v))) r.1

-- numbers stand for a kind only where it is in range and they are its words: all others are refused
pub only : (a b : ℕ) (k : AtomKind) → load_of a b ≡ Some k → (in_range k ≡ true) × (words_of k ≡ pair a b)
unfolding load_of
only a b k e = split (leb bracketed a) refl where
  split : (p : Bool) → leb bracketed a ≡ p → Stands a b k
  split true p = bracket_only a b k (simp p at e)
  split false p =
      let r = refused (ltb 0 b) (simp p at e) in
      subst (λ (m : ℕ). Stands a m k) (omega (arith, ltb-false 0 b r.0)) (plain_only a k r.1)

-- ---- bonds
-- zero stands for no bond
pub bond_zero : (target : ℕ) → entry_of_words 0 target ≡ None
unfolding entry_of_words entry_coded kind_of
bond_zero target = refl

-- a kind's number stands for it
pub bond_words_lem : (k : BondKind) (target : ℕ) → entry_of_words (code_of k) target ≡ Some (k, target)
unfolding entry_of_words entry_coded
bond_words_lem k target = rw (kind_back k)

-- a number that is not the kind's at hand is one of the rest
bond_step : (n : ℕ) (j k : BondKind) {rest : (Option BondKind)} → pick (eqb n (code_of j)) (Some j) rest ≡ Some k → (rest ≡ Some k → n ≡ code_of k) → n ≡ code_of k
bond_step n j k {rest} e f = split (eqb n (code_of j)) refl e where
  split : (b : Bool) → eqb n (code_of j) ≡ b → pick b (Some j) rest ≡ Some k → n ≡ code_of k
  split true p d = cc (eqb-true n (code_of j) p)
  split false p d = f d

-- a number stands for a kind only where it is the kind's
code_only : (n : ℕ) (k : BondKind) → kind_of n ≡ Some k → n ≡ code_of k
unfolding kind_of code_of
code_only n k e =
    bond_step n bonds.Elided k e λ e.
    bond_step n bonds.Single k e λ e.
    bond_step n bonds.Double k e λ e.
    bond_step n bonds.Triple k e λ e.
    bond_step n bonds.Quadruple k e λ e.
    bond_step n bonds.Aromatic k e λ e.
    bond_step n bonds.Up k e λ e.
    bond_step n bonds.Down k e λ e.
    impossible cc

-- an entry holds the kind and the target that it was made of
entry_only : (c : Option BondKind) (k : BondKind) (target u : ℕ) → entry_coded c target ≡ Some (k, u) → (c ≡ Some k) × (target ≡ u)
unfolding entry_coded
entry_only (Some j) k target u e = let p = some_parts e in (ap Some p.0, p.1)
entry_only None k target u e = impossible cc

-- numbers stand for a bond only where they are its own: all others are refused
pub bond_only : (n target : ℕ) (k : BondKind) (u : ℕ) → entry_of_words n target ≡ Some (k, u) → (n ≡ code_of k) × (target ≡ u)
unfolding entry_of_words
bond_only n target k u e =
    let r = entry_only (kind_of n) k target u e in
    (code_only n k r.0, r.1)

-- ---- in a table
-- a kind is two words
pub atom_length : (k : AtomKind) → length (list_of k) ≡ 2
unfolding list_of
atom_length k = refl

-- a bond entry is two words
pub bond_length : (k : BondKind) (target : ℕ) → length (bond_list k target) ≡ 2
unfolding bond_list
bond_length k target = refl

-- past the end of a table there is no atom
pub load_past : (t : List ℕ) (at : ℕ) → length t ≤ at → load_at t at ≡ None
unfolding load_at
load_past t at h =
    let h1 : length t ≤ at + 1 = omega arith in
    simp (get_or-eq_default t 0 h, get_or-eq_default t 0 h1) zeros

-- past the end of a table there is no bond
pub bond_past : (t : List ℕ) (at : ℕ) → length t ≤ at → entry_stored t at ≡ None
unfolding entry_stored
bond_past t at h =
    let h1 : length t ≤ at + 1 = omega arith in
    simp (get_or-eq_default t 0 h, get_or-eq_default t 0 h1) (bond_zero 0)

-- a kind in range that was stored is the one that is loaded
pub load_stored : (t : List ℕ) (at : ℕ) (k : AtomKind) → in_range k ≡ true → at + 2 ≤ length t → load_at (sets t at (list_of k)) at ≡ Some k
unfolding load_at list_of
load_stored t at k e room =
    simp (sets_first t (list_of k) at room (lit< tt), sets_in t (list_of k) at 1 room (lit< tt)) (load_words k e)

-- a bond that was stored is the one that is loaded
pub bond_stored : (t : List ℕ) (at : ℕ) (k : BondKind) (target : ℕ) → at + 2 ≤ length t → entry_stored (sets t at (bond_list k target)) at ≡ Some (k, target)
unfolding entry_stored bond_list
bond_stored t at k target room =
    simp (sets_first t (bond_list k target) at room (lit< tt), sets_in t (bond_list k target) at 1 room (lit< tt))
    (bond_words_lem k target)

-- beside a store of any run of words, a kind's, a bond's or one word
module _ (t vs : List ℕ) (at j : ℕ) (apart : (j + 2 ≤ at) ⊎ (at + length vs ≤ j)) where
  -- both words of a record beside it are beside it
  first_beside : (j < at) ⊎ (at + length vs ≤ j)
  first_beside = ⊎_map (λ h. omega arith) (λ h. omega arith) apart

  second_beside : (j + 1 < at) ⊎ (at + length vs ≤ j + 1)
  second_beside = ⊎_map (λ h. omega arith) (λ h. omega arith) apart

  -- the kinds stay as they are
  pub load_beside : load_at (sets t at vs) j ≡ load_at t j
  unfolding load_at
  load_beside = simp (sets_beside t vs at j first_beside, sets_beside t vs at (j + 1) second_beside)

  -- the bonds stay as they are
  pub bond_beside : entry_stored (sets t at vs) j ≡ entry_stored t j
  unfolding entry_stored
  bond_beside = simp (sets_beside t vs at j first_beside, sets_beside t vs at (j + 1) second_beside)
