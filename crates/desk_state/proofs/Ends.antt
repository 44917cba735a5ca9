-- Bonds counted at either end: one turn of the count, and what a state's bonds come to. Assumes nothing.
use Prim.Native.Nat.{ℕ, zero, suc, ◌+◌, ◌%◌, ◌<◌, ◌≤◌}
use mathlib.Core.Path.{◌≡◌, refl, sym, ap, ◌∙◌, subst}
use mathlib.Core.List.{List}
use mathlib.Core.Bool.{Bool, true, false, false≢true}
use native.Mathlib.Omega.{arith}
use native.Mathlib.Numerals.{add-one}
use lib.Dec.{eqb, ltb}
use borrow.Author.Tests.{eqb-true, eq-eqb, ltb-true, ltb-false, lt-leb}
use Rattle.feature.specs.Pick.{pick}
use Rattle.feature.specs.Bonds.{code_of, kind_of, reverse_of}
use Rattle.feature.specs.declared.bond_kind.BondKind.{BondKind}
use Rattle.std.specs.Prelude.{None, Option, Some}
use Rattle.packing.specs.Words.{entry_of_words, entry_coded}
use Rattle.packing.proofs.Laws.{bond_only}
use Rattle.builder.specs.State.{unclosed}
use Rattle.feature.specs.Every.{every}
use Rattle.feature.proofs.Every.{every_at}
use Rattle.feature.proofs.Bonds.{reverse_twice, kind_back}
use Rattle.feature.proofs.Cases.{both_first, both_second}
use Rattle.desk_state.specs.Standing.{is_kind, source_at, entry_kind_at, target_at, is_entry_to, bonds_counted, turned_of, is_own, is_matched, is_paired}

-- ---- kinds
-- a number that is a kind's is its code, and the other way round
pub kind_code : (n : ℕ) → is_kind (kind_of n) ≡ true → (k : BondKind) × (n ≡ code_of k)
unfolding is_kind entry_of_words entry_coded
kind_code n h = go (kind_of n) refl h where
  go : (q : Option BondKind) → kind_of n ≡ q → is_kind q ≡ true → (k : BondKind) × (n ≡ code_of k)
  go (Some k) e i = (k, (bond_only n 0 k 0 (ap (λ (x : Option BondKind). entry_coded x 0) e)).0)
  go None e i = absurd (false≢true i)

pub code_kind : (k : BondKind) → is_kind (kind_of (code_of k)) ≡ true
unfolding is_kind
code_kind k = rw (kind_back k)

-- ---- one turn of the count
pub count_step : (e : List ℕ) (a k t i : ℕ) → bonds_counted e a k t (i + 1) ≡ bonds_counted e a k t i + pick (is_entry_to e a k t i) 1 0
unfolding bonds_counted
count_step e a k t i = rw add-one refl

pub at_most : (q : Bool) → pick {A = ℕ} q 1 0 ≤ 1
at_most true = omega arith
at_most false = omega arith

-- ---- what a state's bonds come to
-- what is counted is somewhere
found : (e : List ℕ) (a k t m : ℕ) → 0 < bonds_counted e a k t m → (i : ℕ) × (i < m) × (is_entry_to e a k t i ≡ true)
unfolding bonds_counted
found e a k t zero h = absurd (omega arith)
found e a k t (suc m) h = split (is_entry_to e a k t m) refl h (λ l. found e a k t m l) where
  split : (q : Bool) → is_entry_to e a k t m ≡ q → 0 < bonds_counted e a k t m + pick q 1 0 → (0 < bonds_counted e a k t m → (i : ℕ) × (i < m) × (is_entry_to e a k t i ≡ true)) → (i : ℕ) × (i < suc m) × (is_entry_to e a k t i ≡ true)
  split true is l ih = (m, omega arith, is)
  split false is l ih = let r = ih (omega (arith, l)) in (r.0, omega (arith, r.1), r.2)

matched_at : (e : List ℕ) (m i : ℕ) → is_paired e m i ≡ true → target_at e i < unclosed → is_matched (is_own (source_at e i) (entry_kind_at e i) (target_at e i)) (bonds_counted e (source_at e i) (entry_kind_at e i) (target_at e i) m) (bonds_counted e (target_at e i) (turned_of (kind_of (entry_kind_at e i))) (source_at e i) m) ≡ true
unfolding is_paired
matched_at e m i h l =
    subst (λ (q : Bool). pick q true (is_matched (is_own (source_at e i) (entry_kind_at e i) (target_at e i)) (bonds_counted e (source_at e i) (entry_kind_at e i) (target_at e i) m) (bonds_counted e (target_at e i) (turned_of (kind_of (entry_kind_at e i))) (source_at e i) m)) ≡ true) (lt-leb unclosed (target_at e i) l) h

-- what is matched
pub matched_same : (own : Bool) (x y : ℕ) → is_matched own x y ≡ true → x ≡ y
unfolding is_matched
matched_same own x y h = eqb-true x y (both_first (eqb x y) _ h)

pub matched_even : (x y : ℕ) → is_matched true x y ≡ true → x % 2 ≡ 0
unfolding is_matched
matched_even x y h = eqb-true (x % 2) 0 (both_second (eqb x y) _ h)

pub to_matched : (own : Bool) (x y : ℕ) → x ≡ y → (own ≡ true → x % 2 ≡ 0) → is_matched own x y ≡ true
unfolding is_matched
to_matched true x y e f = rw (eq-eqb x y e, eq-eqb (x % 2) 0 (f refl)) refl
to_matched false x y e f = rw (eq-eqb x y e) refl

paired_at : (e : List ℕ) (m i : ℕ) → is_paired e m i ≡ true → target_at e i < unclosed → bonds_counted e (source_at e i) (entry_kind_at e i) (target_at e i) m ≡ bonds_counted e (target_at e i) (turned_of (kind_of (entry_kind_at e i))) (source_at e i) m
paired_at e m i h l = matched_same (is_own (source_at e i) (entry_kind_at e i) (target_at e i)) _ _ (matched_at e m i h l)

own_is : (s k t : ℕ) → s ≡ t → k ≡ turned_of (kind_of k) → is_own s k t ≡ true
unfolding is_own
own_is s k t e f = rw (eq-eqb s t e, eq-eqb k (turned_of (kind_of k)) f) refl

even_at : (e : List ℕ) (m i : ℕ) → is_paired e m i ≡ true → target_at e i < unclosed → is_own (source_at e i) (entry_kind_at e i) (target_at e i) ≡ true → bonds_counted e (source_at e i) (entry_kind_at e i) (target_at e i) m % 2 ≡ 0
even_at e m i h l own =
    matched_even (bonds_counted e (source_at e i) (entry_kind_at e i) (target_at e i) m) (bonds_counted e (target_at e i) (turned_of (kind_of (entry_kind_at e i))) (source_at e i) m)
    (subst (λ (q : Bool). is_matched q (bonds_counted e (source_at e i) (entry_kind_at e i) (target_at e i) m) (bonds_counted e (target_at e i) (turned_of (kind_of (entry_kind_at e i))) (source_at e i) m) ≡ true) own (matched_at e m i h l))

pub turned_code : (k : BondKind) → turned_of (kind_of (code_of k)) ≡ code_of (reverse_of k)
unfolding turned_of
turned_code k = ap turned_of (kind_back k)

module _ (e : List ℕ) (m : ℕ) (all : every (is_paired e m) m ≡ true) where
  -- where there is such a bond, there are as many reverses of it
  held : (a t : ℕ) (k : BondKind) → t < unclosed → 0 < bonds_counted e a (code_of k) t m → bonds_counted e a (code_of k) t m ≡ bonds_counted e t (code_of (reverse_of k)) a m
  unfolding is_entry_to
  held a t k h some =
      let f = found e a (code_of k) t m some in
      let i = f.0 in
      let s : source_at e i ≡ a = eqb-true _ _ (both_first (eqb (source_at e i) a) _ f.2) in
      let rest = both_second (eqb (source_at e i) a) _ f.2 in
      let w : entry_kind_at e i ≡ code_of k = eqb-true _ _ (both_first (eqb (entry_kind_at e i) (code_of k)) _ rest) in
      let g : target_at e i ≡ t = eqb-true _ _ (both_second (eqb (entry_kind_at e i) (code_of k)) _ rest) in
      let p = paired_at e m i (every_at (is_paired e m) m i all f.1) (omega (arith, g, h)) in
      let q : bonds_counted e a (code_of k) t m ≡ bonds_counted e t (turned_of (kind_of (code_of k))) a m =
      subst (λ (x : ℕ). bonds_counted e a (code_of k) x m ≡ bonds_counted e x (turned_of (kind_of (code_of k))) a m) g
      (subst (λ (x : ℕ). bonds_counted e a x (target_at e i) m ≡ bonds_counted e (target_at e i) (turned_of (kind_of x)) a m) w
      (subst (λ (x : ℕ). bonds_counted e x (entry_kind_at e i) (target_at e i) m ≡ bonds_counted e (target_at e i) (turned_of (kind_of (entry_kind_at e i))) x m) s p)) in
      q ∙ ap (λ (x : ℕ). bonds_counted e t x a m) (turned_code k)

  -- so an atom has as many bonds of a kind to another as that one has of the reverse to it
  pub both_ends : (a t : ℕ) (k : BondKind) → a < unclosed → t < unclosed → bonds_counted e a (code_of k) t m ≡ bonds_counted e t (code_of (reverse_of k)) a m
  both_ends a t k ha ht = here (ltb 0 (bonds_counted e a (code_of k) t m)) refl where
    back : 0 < bonds_counted e t (code_of (reverse_of k)) a m → bonds_counted e t (code_of (reverse_of k)) a m ≡ bonds_counted e a (code_of k) t m
    back some = held t a (reverse_of k) ha some ∙ ap (λ (x : BondKind). bonds_counted e a (code_of x) t m) (reverse_twice k)

    there : bonds_counted e a (code_of k) t m ≤ 0 → (q : Bool) → ltb 0 (bonds_counted e t (code_of (reverse_of k)) a m) ≡ q → bonds_counted e a (code_of k) t m ≡ bonds_counted e t (code_of (reverse_of k)) a m
    there none true is = sym (back (ltb-true _ _ is))
    there none false is = omega (arith, none, ltb-false 0 (bonds_counted e t (code_of (reverse_of k)) a m) is)

    here : (q : Bool) → ltb 0 (bonds_counted e a (code_of k) t m) ≡ q → bonds_counted e a (code_of k) t m ≡ bonds_counted e t (code_of (reverse_of k)) a m
    here true is = held a t k ht (ltb-true _ _ is)
    here false is = there (ltb-false _ _ is) (ltb 0 (bonds_counted e t (code_of (reverse_of k)) a m)) refl

  -- and of each kind that is its own reverse an even number to itself
  pub even_ends : (a : ℕ) (k : BondKind) → a < unclosed → reverse_of k ≡ k → bonds_counted e a (code_of k) a m % 2 ≡ 0
  unfolding is_entry_to
  even_ends a k h back = go (ltb 0 (bonds_counted e a (code_of k) a m)) refl where
    go : (q : Bool) → ltb 0 (bonds_counted e a (code_of k) a m) ≡ q → bonds_counted e a (code_of k) a m % 2 ≡ 0
    go false is = omega (arith, ltb-false 0 (bonds_counted e a (code_of k) a m) is)
    go true is =
        let f = found e a (code_of k) a m (ltb-true _ _ is) in
        let i = f.0 in
        let s : source_at e i ≡ a = eqb-true _ _ (both_first (eqb (source_at e i) a) _ f.2) in
        let rest = both_second (eqb (source_at e i) a) _ f.2 in
        let w : entry_kind_at e i ≡ code_of k = eqb-true _ _ (both_first (eqb (entry_kind_at e i) (code_of k)) _ rest) in
        let g : target_at e i ≡ a = eqb-true _ _ (both_second (eqb (entry_kind_at e i) (code_of k)) _ rest) in
        let own : entry_kind_at e i ≡ turned_of (kind_of (entry_kind_at e i)) = w ∙ ap code_of (sym back) ∙ sym (turned_code k) ∙ ap (λ (x : ℕ). turned_of (kind_of x)) (sym w) in
        let p = even_at e m i (every_at (is_paired e m) m i all f.1) (omega (arith, g, h)) (own_is (source_at e i) (entry_kind_at e i) (target_at e i) (s ∙ sym g) own) in
        subst (λ (x : ℕ). bonds_counted e a (code_of k) x m % 2 ≡ 0) g
        (subst (λ (x : ℕ). bonds_counted e a x (target_at e i) m % 2 ≡ 0) w
        (subst (λ (x : ℕ). bonds_counted e x (entry_kind_at e i) (target_at e i) m % 2 ≡ 0) s p))
