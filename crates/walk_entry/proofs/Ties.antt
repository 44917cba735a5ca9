-- What a scan finds of the entries that lead to an atom is how many there are and where. Assumes nothing.
use Prim.Native.Nat.{ℕ, zero, suc, ◌+◌}
use mathlib.Core.Path.{◌≡◌, refl, sym, ap, ◌∙◌}
use mathlib.Core.Bool.{Bool, true, false}
use native.Mathlib.Omega.{arith}
use lib.Dec.{eqb, ltb}
use borrow.Author.Tests.{eq-eqb, ne_eqb, ltb-true, lt-ltb, le-ltb}
use Rattle.feature.specs.Pick.{pick}
use Rattle.feature.specs.declared.bond_kind.BondKind.{BondKind}
use Rattle.feature.proofs.Cases.{by_eq}
use Rattle.walk_entry.specs.declared.entry.Back.{Back}
use Rattle.walk_entry.specs.declared.entry.Back.TheVariants.{Found, Twice}
use Rattle.std.specs.Prelude.{Result}
use Rattle.walk_entry.specs.declared.WalkError.{WalkError}
use Rattle.walk_entry.specs.Graph.{Graph, degree_at, bond_of}
use Rattle.walk_entry.specs.Ways.{scan_in}
use Rattle.walk_entry.specs.Ties.{leading, last_leading, count_to, place_to, tie_of}
use Rattle.walk_entry.specs.Steps.{scanned_to, is_twice, tied_by}

one_less : (x : ℕ) → ltb 1 (x + 1) ≡ ltb 0 x
one_less zero = le-ltb 1 1 (omega arith) ∙ sym (le-ltb 0 0 (omega arith))
one_less (suc x) = lt-ltb 1 (suc x + 1) (omega arith) ∙ sym (lt-ltb 0 (suc x) (omega arith))

module _ (g : Graph) (a b : ℕ) where
  abbrev scanned : ℕ → ℕ → Back
  scanned n back = scan_in g.bonds g.first a b false n back

  -- once one was found, any other is a second
  scan_more : (n p : ℕ) → scanned n (suc p) ≡ pick (ltb 0 (leading g a b n)) Twice (Found (suc p))
  unfolding scan_in leading
  scan_more zero p = refl
  scan_more (suc i) p =
      by_eq (bond_of g a i).to b (λ e. simp (eq-eqb _ _ e, ne_eqb (suc p) 0 (λ z. omega arith), lt-ltb 0 (leading g a b i + 1) (omega arith))) (λ e. simp (ne_eqb _ _ e) (scan_more i p))

  scan_counts : (n : ℕ) → scanned n 0 ≡ pick (ltb 1 (leading g a b n)) Twice (Found (last_leading g a b n))
  unfolding scan_in leading last_leading
  scan_counts zero = refl
  scan_counts (suc i) =
      by_eq (bond_of g a i).to b (λ e. simp (eq-eqb _ _ e, one_less (leading g a b i)) (scan_more i i)) (λ e. simp (ne_eqb _ _ e) (scan_counts i))

  -- there is a place exactly if there is an entry
  place_some : (n : ℕ) → eqb (last_leading g a b n) 0 ≡ eqb (leading g a b n) 0
  unfolding leading last_leading
  place_some zero = refl
  place_some (suc i) =
      by_eq (bond_of g a i).to b (λ e. simp (eq-eqb _ _ e, ne_eqb (suc i) 0 (λ z. omega arith), ne_eqb (leading g a b i + 1) 0 (λ z. omega arith))) (λ e. simp (ne_eqb _ _ e) (place_some i))

twice_is : (q : Bool) (p : ℕ) → is_twice (pick q Twice (Found p)) ≡ q
unfolding is_twice
twice_is true p = refl
twice_is false p = refl

-- A bond to an atom met before is judged by its scans.
pub tie_scans : (g : Graph) (k : BondKind) (s t : ℕ) → tie_of g k s t ≡ tied_by g k s t (is_twice (scanned_to g s t)) (scanned_to g t s)
unfolding tie_of tied_by
tie_scans g k s t =
    by_count (ltb 1 (count_to g t s)) refl
    ∙ sym (ap (λ (x : Back). tied_by g k s t (is_twice x) (scanned_to g t s)) (scan_counts g s t (degree_at g s))
    ∙ ap (λ (q : Bool). tied_by g k s t q (scanned_to g t s)) (twice_is (ltb 1 (count_to g s t)) (place_to g s t))
    ∙ ap (tied_by g k s t (ltb 1 (count_to g s t))) (scan_counts g t s (degree_at g t)))
  where
    by_count : (q : Bool) → ltb 1 (count_to g t s) ≡ q → tie_of g k s t ≡ tied_by g k s t (ltb 1 (count_to g s t)) (pick (ltb 1 (count_to g t s)) Twice (Found (place_to g t s)))
    by_count true e = simp (e, ne_eqb (count_to g t s) 0 (λ z. omega (arith, ltb-true 1 (count_to g t s) e)))
    by_count false e = simp (e, place_some g t s (degree_at g t))

-- so what the scans come to is what is meant
pub tied_as : (g : Graph) (k : BondKind) (s t : ℕ) {r : (Result ℕ WalkError)} → r ≡ tied_by g k s t (is_twice (scanned_to g s t)) (scanned_to g t s) → r ≡ tie_of g k s t
tied_as g k s t e = e ∙ sym (tie_scans g k s t)
