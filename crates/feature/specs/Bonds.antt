-- A bond's kind. Up and Down are each other's reverse, the other kinds their own. At a ring bond equal kinds stay, but Up
-- with Up and Down with Down fail; Up with Down stays; Elided takes the other's kind, or its reverse where that is
-- directional; all else fails.
use Rattle.std.specs.Prelude.{ℕ, ◌≤◌, ◌≡◌, Bool, true, false, eqb}
use Rattle.feature.specs.Pick.{pick}
use Rattle.feature.specs.declared.bond_kind.BondKind.{BondKind}
use Rattle.feature.specs.declared.bond_kind.BondKind.TheVariants.{Elided, Single, Double, Triple, Quadruple, Aromatic, Up, Down}
use Rattle.std.specs.Prelude.{None, Option, Some}

unfoldable pub reverse_of : BondKind → BondKind
reverse_of Elided = Elided
reverse_of Single = Single
reverse_of Double = Double
reverse_of Triple = Triple
reverse_of Quadruple = Quadruple
reverse_of Aromatic = Aromatic
reverse_of Up = Down
reverse_of Down = Up

unfoldable pub is_directional : BondKind → Bool
is_directional Elided = false
is_directional Single = false
is_directional Double = false
is_directional Triple = false
is_directional Quadruple = false
is_directional Aromatic = false
is_directional Up = true
is_directional Down = true

-- a kind's number in a table
unfoldable pub code_of : BondKind → ℕ
code_of Elided = 1
code_of Single = 2
code_of Double = 3
code_of Triple = 4
code_of Quadruple = 5
code_of Aromatic = 6
code_of Up = 7
code_of Down = 8

pub record NumberOf (k : BondKind) (r : ℕ) : Type 0 where
  pub is : r ≡ code_of k
  pub least : 1 ≤ r
  pub most : r ≤ 8

-- what a number stands for
unfoldable pub kind_of : ℕ → Option BondKind
kind_of n =
    pick (eqb n 1) (Some Elided)
    (pick (eqb n 2) (Some Single)
    (pick (eqb n 3) (Some Double)
    (pick (eqb n 4) (Some Triple)
    (pick (eqb n 5) (Some Quadruple)
    (pick (eqb n 6) (Some Aromatic)
    (pick (eqb n 7) (Some Up)
    (pick (eqb n 8) (Some Down)
    None)))))))

-- the kind, and an elided bond for none
unfoldable pub sure_kind : Option BondKind → BondKind
sure_kind (Some k) = k
sure_kind None = Elided

abbrev pub same_kind : BondKind → BondKind → Bool
same_kind j k = eqb (code_of j) (code_of k)

unfoldable pub reconcile_of : BondKind → BondKind → Option (BondKind × BondKind)
reconcile_of l r =
    pick (same_kind l r) (pick (is_directional l) None (Some (l, r)))
    (pick (same_kind l (reverse_of r)) (Some (l, r))
    (pick (same_kind l Elided) (Some (reverse_of r, r))
    (pick (same_kind r Elided) (Some (l, reverse_of l))
    None)))
