-- Kinds with no configuration but TH1 or TH2, what comes back of an atom's kind once it is written and read, and what is asked of
-- the rule by which a walk says kinds. Another rule for marks is another `back_kind`, and a proof of `MarksServe` for it.
use Rattle.std.specs.Prelude.{ℕ, ◌-◌, ◌≤◌, ◌≡◌, ◌≢◌, Bool, true, false, eqb}
use Rattle.feature.specs.Pick.{pick, both, neither}
use Rattle.feature.specs.Kinds.{no_hydrogens, th1, th2, with_configuration, in_range, invert_of}
use Rattle.feature.specs.declared.atom_kind.AtomKind.{AtomKind}
use Rattle.feature.specs.declared.atom_kind.AtomKind.TheVariants.{Star, Aliphatic, Aromatic, Bracket}
use Rattle.std.specs.Prelude.{Some}
use Rattle.survive.specs.Survive.{survives}
use Rattle.walk_entry.specs.Ways.{is_fixed, even, said_as}

-- no configuration but TH1 or TH2
abbrev pub Tetrahedral : AtomKind → Type 0
Tetrahedral Star = Unit {0}
Tetrahedral (Aliphatic n) = Unit {0}
Tetrahedral (Aromatic n) = Unit {0}
Tetrahedral (Bracket b) = b.configuration ≤ th2

-- whether a bracket says one hydrogen or more
unfoldable pub bears_hydrogen : AtomKind → Bool
bears_hydrogen Star = false
bears_hydrogen (Aliphatic n) = false
bears_hydrogen (Aromatic n) = false
bears_hydrogen (Bracket b) = pick (eqb b.hydrogens no_hydrogens) false (neither (eqb b.hydrogens 0))

-- TH1 and TH2 are each other's
unfoldable pub other_mark : ℕ → ℕ
other_mark c = pick (eqb c th1) th2 (pick (eqb c th2) th1 c)

unfoldable pub toggled : AtomKind → AtomKind
toggled Star = Star
toggled (Aliphatic n) = Aliphatic n
toggled (Aromatic n) = Aromatic n
toggled (Bracket b) = Bracket (with_configuration b (other_mark b.configuration))

-- whether the parent's entry was at an odd index: b is its place from 1, and 0 for a root
unfoldable pub odd_index : ℕ → Bool
odd_index b = pick (eqb b 0) false (neither (even (b - 1)))

-- An atom's kind once it is written and read back, where its parent's entry was at the place b from 1, and b is 0 for a root: its
-- mark is toggled exactly if it bears hydrogen and its parent's entry was at an odd index.
unfoldable pub back_kind : AtomKind → ℕ → AtomKind
back_kind k b = pick (both (bears_hydrogen k) (odd_index b)) (toggled k) k

-- ---- what is asked of the rule for marks
-- A root is said as it comes back. An atom reached by its entry at place b is said so that the builder, which inverts it once more,
-- makes what comes back; its mark can be turned. What comes back can be held in words; a kind that survives is said as one that does.
pub record MarksServe : Type 0 where
  pub root : (k : AtomKind) → said_as k 0 ≡ back_kind k 0
  pub free : (k : AtomKind) → Tetrahedral k → is_fixed k ≡ false
  pub built : (k : AtomKind) (b : ℕ) → Tetrahedral k → b ≢ 0 → invert_of (said_as k b) ≡ Some (back_kind k b)
  pub held : (k : AtomKind) (b : ℕ) → Tetrahedral k → in_range k ≡ true → in_range (back_kind k b) ≡ true
  pub kept : (k : AtomKind) (b : ℕ) → survives k ≡ true → survives (said_as k b) ≡ true
