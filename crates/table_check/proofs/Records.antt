-- Records judged one at a time. Assumes nothing.
use Prim.Native.Nat.{ℕ, suc, ◌+◌, ◌-◌, ◌<◌, ◌≤◌}
use mathlib.Core.Path.{◌≡◌, refl}
use mathlib.Core.List.{List}
use mathlib.Core.Bool.{true, false}
use native.Mathlib.Omega.{arith}
use borrow.Author.Tests.{lt-ltb, le-ltb, le-leb, lt-leb}
use Rattle.std.specs.Prelude.{Err, None, Ok, Some}
use Rattle.packing.specs.Words.{is_atom}
use Rattle.table_check.specs.Judge.{bond_stands, atoms_from, first_bad_bond}
use Rattle.table.specs.Records.{degree_in}

-- ---- atoms: one that stands for nothing, one that does, and their end
pub atom_over : (t : List ℕ) (n m a held : ℕ) → a < n → m - held < degree_in t a → atoms_from t m (n - a) a held ≡ Err a
unfolding atoms_from
atom_over t n m a held l h =
    let e : n - a ≡ suc (n - (a + 1)) = omega arith in
    rw e (simp (lt-ltb _ _ h))

pub atom_bad : (t : List ℕ) (n m a held : ℕ) → a < n → degree_in t a ≤ m - held → is_atom t a ≡ false → atoms_from t m (n - a) a held ≡ Err a
unfolding atoms_from
atom_bad t n m a held l h s =
    let e : n - a ≡ suc (n - (a + 1)) = omega arith in
    rw e (simp (le-ltb _ _ h, s))

pub atom_good : (t : List ℕ) (n m a held : ℕ) → a < n → degree_in t a ≤ m - held → is_atom t a ≡ true → atoms_from t m (n - a) a held ≡ atoms_from t m (n - (a + 1)) (a + 1) (held + degree_in t a)
unfolding atoms_from
atom_good t n m a held l h s =
    let e : n - a ≡ suc (n - (a + 1)) = omega arith in
    rw e (simp (le-ltb _ _ h, s))

pub atoms_end : (t : List ℕ) (n m a held : ℕ) → n ≤ a → Ok held ≡ atoms_from t m (n - a) a held
unfolding atoms_from
atoms_end t n m a held h = let z : n - a ≡ 0 = omega arith in rw z refl

-- ---- entries likewise
pub bond_unheld : (t : List ℕ) (m held e : ℕ) → e < m → held ≤ e → first_bad_bond t held (m - e) e ≡ Some e
unfolding first_bad_bond
bond_unheld t m held e l h =
    let d : m - e ≡ suc (m - (e + 1)) = omega arith in
    rw d (simp (le-leb _ _ h))

pub bond_bad : (t : List ℕ) (m held e : ℕ) → e < m → e < held → bond_stands t e ≡ false → first_bad_bond t held (m - e) e ≡ Some e
unfolding first_bad_bond
bond_bad t m held e l h s =
    let d : m - e ≡ suc (m - (e + 1)) = omega arith in
    rw d (simp (lt-leb _ _ h, s))

pub bond_good : (t : List ℕ) (m held e : ℕ) → e < m → e < held → bond_stands t e ≡ true → first_bad_bond t held (m - e) e ≡ first_bad_bond t held (m - (e + 1)) (e + 1)
unfolding first_bad_bond
bond_good t m held e l h s =
    let d : m - e ≡ suc (m - (e + 1)) = omega arith in
    rw d (simp (lt-leb _ _ h, s))

pub bonds_end : (t : List ℕ) (m held e : ℕ) → m ≤ e → None ≡ first_bad_bond t held (m - e) e
unfolding first_bad_bond
bonds_end t m held e h = let z : m - e ≡ 0 = omega arith in rw z refl
