-- A bond kind's number stands for the kind; a kind and its reverse; what two reconciled ends are. Assumes nothing.
use Prim.Native.Nat.{ℕ}
use mathlib.Core.Path.{◌≡◌, refl, ◌∙◌, ap, sym}
use mathlib.Core.Bool.{Bool, true, false, true≢false}
use Rattle.std.specs.Prelude.{◌≢◌}
use lib.Dec.{eqb}
use borrow.Author.Tests.{eqb-true, eq-eqb, ne_eqb}
use Rattle.feature.specs.Pick.{pick}
use Rattle.feature.specs.Bonds.{code_of, kind_of, same_kind, is_directional, reverse_of, reconcile_of, sure_kind}
use Rattle.feature.specs.declared.bond_kind.BondKind.{BondKind}
use Rattle.feature.specs.declared.bond_kind.BondKind.TheVariants.{Elided, Single, Double, Triple, Quadruple, Aromatic, Up, Down}
use Rattle.std.specs.Prelude.{None, Option, Some}
use Rattle.feature.proofs.Cases.{by_eq}

-- ---- numbers
-- a kind's number stands for it
pub kind_back : (k : BondKind) → kind_of (code_of k) ≡ Some k
unfolding kind_of code_of
kind_back Elided = refl
kind_back Single = refl
kind_back Double = refl
kind_back Triple = refl
kind_back Quadruple = refl
kind_back Aromatic = refl
kind_back Up = refl
kind_back Down = refl

pub sure_code : (k : BondKind) → sure_kind (kind_of (code_of k)) ≡ k
unfolding sure_kind
sure_code k = ap sure_kind (kind_back k)

-- so no two kinds have one number
pub same_code : (j k : BondKind) → code_of j ≡ code_of k → j ≡ k
same_code j k e = sym (sure_code j) ∙ ap (λ (c : ℕ). sure_kind (kind_of c)) e ∙ sure_code k

-- one kind has one number
pub alike : (j k : BondKind) → j ≡ k → same_kind j k ≡ true
alike j k e = eq-eqb (code_of j) (code_of k) (ap code_of e)

-- and kinds that differ have different numbers
pub apart : (j k : BondKind) → j ≢ k → same_kind j k ≡ false
apart j k n = ne_eqb (code_of j) (code_of k) (λ e. n (same_code j k e))

-- ---- reverses
pub reverse_twice : (k : BondKind) → reverse_of (reverse_of k) ≡ k
unfolding reverse_of
reverse_twice Elided = refl
reverse_twice Single = refl
reverse_twice Double = refl
reverse_twice Triple = refl
reverse_twice Quadruple = refl
reverse_twice Aromatic = refl
reverse_twice Up = refl
reverse_twice Down = refl

-- a kind with no direction is its own reverse
own_reverse : (k : BondKind) → is_directional k ≡ false → k ≡ reverse_of k
unfolding reverse_of is_directional
own_reverse Elided e = refl
own_reverse Single e = refl
own_reverse Double e = refl
own_reverse Triple e = refl
own_reverse Quadruple e = refl
own_reverse Aromatic e = refl
own_reverse Up e = absurd (true≢false e)
own_reverse Down e = absurd (true≢false e)

-- the reverses of two kinds are the same where they are
pub same_reverse : (j k : BondKind) → same_kind (reverse_of j) (reverse_of k) ≡ same_kind j k
same_reverse j k =
    by_eq (code_of j) (code_of k)
    (λ e. eq-eqb (code_of (reverse_of j)) (code_of (reverse_of k)) (ap (λ (x : BondKind). code_of (reverse_of x)) (same_code j k e)) ∙ sym (eq-eqb (code_of j) (code_of k) e))
    (λ n. ne_eqb (code_of (reverse_of j)) (code_of (reverse_of k)) (λ e. n (turned e)) ∙ sym (ne_eqb (code_of j) (code_of k) n))
  where
    turned : code_of (reverse_of j) ≡ code_of (reverse_of k) → code_of j ≡ code_of k
    turned e =
        ap code_of (sym (reverse_twice j) ∙ ap reverse_of (same_code (reverse_of j) (reverse_of k) e) ∙ reverse_twice k)

-- ---- the two ends of a ring bond
-- the second kind is the reverse of the first
abbrev pub Reversed : Option (BondKind × BondKind) → Type 0
Reversed None = Unit {0}
Reversed (Some (l, r)) = r ≡ reverse_of l

-- reconciled kinds are
pub reconciled : (l r : BondKind) → Reversed (reconcile_of l r)
unfolding reconcile_of
reconciled l r = split (eqb (code_of l) (code_of r)) (eqb (code_of l) (code_of (reverse_of r))) (eqb (code_of l) (code_of Elided)) (eqb (code_of r) (code_of Elided)) (is_directional l) refl refl refl where
  split : (p q e f d : Bool) → eqb (code_of l) (code_of r) ≡ p → eqb (code_of l) (code_of (reverse_of r)) ≡ q → is_directional l ≡ d → Reversed (pick p (pick d None (Some (l, r))) (pick q (Some (l, r)) (pick e (Some (reverse_of r, r)) (pick f (Some (l, reverse_of l)) None))))
  split true q e f true i j g = tt
  split true q e f false i j g = sym (same_code l r (eqb-true _ _ i)) ∙ own_reverse l g
  split false true e f d i j g = sym (reverse_twice r) ∙ ap reverse_of (sym (same_code l (reverse_of r) (eqb-true _ _ j)))
  split false false true f d i j g = sym (reverse_twice r)
  split false false false true d i j g = refl
  split false false false false d i j g = tt
