-- What a call does with words that stand for an atom or a bond, and with words that stand for none.
use Rattle.feature.specs.declared.atom_kind.AtomKind.{AtomKind}
use Rattle.feature.specs.declared.bond_kind.BondKind.{BondKind}
use Rattle.std.specs.Prelude.{None, Option, Some}

unfoldable pub on_atom : {A : Type 0} → Option AtomKind → A → (AtomKind → A) → A
on_atom (Some k) none some = some k
on_atom None none some = none

unfoldable pub on_bond : {A : Type 0} → Option BondKind → A → (BondKind → A) → A
on_bond (Some k) none some = some k
on_bond None none some = none
