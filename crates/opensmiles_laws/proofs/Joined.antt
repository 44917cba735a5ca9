-- The two ends of a ring bond agree exactly where the reader reconciles them. Assumes nothing.
use mathlib.Core.Path.{◌≡◌, refl}
use mathlib.Core.Option.{Option, none, some}
use Rattle.feature.specs.Bonds.{code_of, reverse_of, is_directional, reconcile_of}
use Rattle.feature.specs.declared.bond_kind.BondKind.{BondKind}
use Rattle.feature.specs.declared.bond_kind.BondKind.TheVariants.{Elided, Single, Double, Triple, Quadruple, Aromatic, Up, Down}
use Rattle.std.specs.Prelude as std
use Rattle.std.specs.Prelude.{None, Some}
use Rattle.opensmiles_laws.specs.Molecule.{agreed}

unfoldable pub ends : Option BondKind → std.Option (BondKind × BondKind)
ends none = None
ends (some k) = Some (k, reverse_of k)

pub reconciled : (k l : BondKind) → reconcile_of k l ≡ ends (agreed k l)
unfolding reconcile_of agreed ends code_of reverse_of is_directional
reconciled Elided Elided = refl
reconciled Elided Single = refl
reconciled Elided Double = refl
reconciled Elided Triple = refl
reconciled Elided Quadruple = refl
reconciled Elided Aromatic = refl
reconciled Elided Up = refl
reconciled Elided Down = refl
reconciled Single Elided = refl
reconciled Single Single = refl
reconciled Single Double = refl
reconciled Single Triple = refl
reconciled Single Quadruple = refl
reconciled Single Aromatic = refl
reconciled Single Up = refl
reconciled Single Down = refl
reconciled Double Elided = refl
reconciled Double Single = refl
reconciled Double Double = refl
reconciled Double Triple = refl
reconciled Double Quadruple = refl
reconciled Double Aromatic = refl
reconciled Double Up = refl
reconciled Double Down = refl
reconciled Triple Elided = refl
reconciled Triple Single = refl
reconciled Triple Double = refl
reconciled Triple Triple = refl
reconciled Triple Quadruple = refl
reconciled Triple Aromatic = refl
reconciled Triple Up = refl
reconciled Triple Down = refl
reconciled Quadruple Elided = refl
reconciled Quadruple Single = refl
reconciled Quadruple Double = refl
reconciled Quadruple Triple = refl
reconciled Quadruple Quadruple = refl
reconciled Quadruple Aromatic = refl
reconciled Quadruple Up = refl
reconciled Quadruple Down = refl
reconciled Aromatic Elided = refl
reconciled Aromatic Single = refl
reconciled Aromatic Double = refl
reconciled Aromatic Triple = refl
reconciled Aromatic Quadruple = refl
reconciled Aromatic Aromatic = refl
reconciled Aromatic Up = refl
reconciled Aromatic Down = refl
reconciled Up Elided = refl
reconciled Up Single = refl
reconciled Up Double = refl
reconciled Up Triple = refl
reconciled Up Quadruple = refl
reconciled Up Aromatic = refl
reconciled Up Up = refl
reconciled Up Down = refl
reconciled Down Elided = refl
reconciled Down Single = refl
reconciled Down Double = refl
reconciled Down Triple = refl
reconciled Down Quadruple = refl
reconciled Down Aromatic = refl
reconciled Down Up = refl
reconciled Down Down = refl
