-- An entry by its kind and its target. Assumes nothing.
use Prim.Native.Nat.{ℕ, ◌+◌, ◌*◌}
use mathlib.Core.Path.{◌≡◌, ◌∙◌, ap}
use mathlib.Core.List.{List}
use lib.ListN.{get_or}
use Rattle.feature.specs.Bonds.{kind_of, sure_kind}
use Rattle.feature.specs.declared.bond_kind.BondKind.{BondKind}
use Rattle.table.specs.Records.{bond_words}
use Rattle.walk_entry.specs.Graph.{entry_to, bond_in}

module _ (bonds first : List ℕ) (a i e : ℕ) (there : e ≡ (get_or first a 0 + i) * bond_words) where
  pub kind_told_lem : (code : ℕ) (k : BondKind) → code ≡ get_or bonds e 0 → k ≡ sure_kind (kind_of code) → k ≡ (bond_in bonds first a i).kind
  unfolding bond_in
  kind_told_lem code k told h = simp (← there, ← told) h

  pub target_told : (t : ℕ) → t ≡ get_or bonds (e + 1) 0 → t ≡ (bond_in bonds first a i).to
  unfolding bond_in
  target_told t h = simp (← there) h

  pub entry_told : (code : ℕ) (k : BondKind) (t : ℕ) → code ≡ get_or bonds e 0 → k ≡ sure_kind (kind_of code) → t ≡ get_or bonds (e + 1) 0 → entry_to k t ≡ bond_in bonds first a i
  entry_told code k t told g h =
      ap (λ (x : BondKind). entry_to x t) (kind_told_lem code k told g) ∙ ap (entry_to (bond_in bonds first a i).kind) (target_told t h)
