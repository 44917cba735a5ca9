-- A scan of a new atom's entries, one entry at a time. Assumes nothing.
use Prim.Native.Nat.{ℕ, zero, suc, ◌-◌, ◌<◌}
use mathlib.Core.Path.{◌≡◌, refl, ◌∙◌, sym}
use mathlib.Core.Logic.{◌≢◌}
use mathlib.Core.List.{List}
use mathlib.Core.Bool.{Bool, true, false}
use native.Mathlib.Omega.{arith}
use lib.Dec.{eqb}
use borrow.Author.Tests.{eq-eqb, ne_eqb}
use Rattle.feature.specs.Pick.{pick, both}
use Rattle.walk_entry.specs.declared.entry.Back.{Back}
use Rattle.walk_entry.specs.declared.entry.Back.TheVariants.{Found, Twice, Fixed}
use Rattle.walk_entry.specs.Graph.{bond_in}
use Rattle.walk_entry.specs.Ways.{even, scan_in}

-- the entry at hand, by whether it leads back and whether it turns a mark that can't be turned
abbrev one : List ℕ → List ℕ → ℕ → ℕ → Bool → ℕ → ℕ → ℕ → Bool → Bool → Back
one b f t s x i n back here stuck =
    pick here (pick stuck Fixed (pick (eqb back 0) (scan_in b f t s x i n) Twice)) (scan_in b f t s x i back)

step_at : (b f : List ℕ) (t s : ℕ) (x : Bool) (i m back : ℕ) (e : ℕ) (here stuck : Bool) → i ≡ m → e ≡ (bond_in b f t m).to → eqb e s ≡ here → both x (even m) ≡ stuck → scan_in b f t s x (suc i) back ≡ one b f t s x m (suc i) back here stuck
unfolding scan_in
step_at b f t s x i m back e here stuck d w h q = rw d (simp (← w, h, q))

step : (b f : List ℕ) (t s : ℕ) (x : Bool) (n back : ℕ) (e : ℕ) (here stuck : Bool) → 0 < n → e ≡ (bond_in b f t (n - 1)).to → eqb e s ≡ here → both x (even (n - 1)) ≡ stuck → scan_in b f t s x n back ≡ one b f t s x (n - 1) n back here stuck
step b f t s x zero back e here stuck p w h q = absurd (omega arith)
step b f t s x (suc i) back e here stuck p w h q = step_at b f t s x i (suc i - 1) back e here stuck (omega arith) w h q

pub fixed_here : (b f : List ℕ) (t s : ℕ) (x : Bool) (n back : ℕ) (e : ℕ) (q : Bool) → 0 < n → e ≡ (bond_in b f t (n - 1)).to → e ≡ s → q ≡ both x (even (n - 1)) → q ≡ true → scan_in b f t s x n back ≡ Fixed
fixed_here b f t s x n back e q p w h r y = step b f t s x n back e true true p w (eq-eqb _ _ h) (sym r ∙ y)

pub twice_here : (b f : List ℕ) (t s : ℕ) (x : Bool) (n back : ℕ) (e : ℕ) (q : Bool) → 0 < n → e ≡ (bond_in b f t (n - 1)).to → e ≡ s → q ≡ both x (even (n - 1)) → q ≡ false → back ≢ 0 → scan_in b f t s x n back ≡ Twice
twice_here b f t s x n back e q p w h r y z =
    step b f t s x n back e true false p w (eq-eqb _ _ h) (sym r ∙ y) ∙ simp (ne_eqb back 0 z)

pub found_here : (b f : List ℕ) (t s : ℕ) (x : Bool) (n back : ℕ) (e : ℕ) (q : Bool) → 0 < n → e ≡ (bond_in b f t (n - 1)).to → e ≡ s → q ≡ both x (even (n - 1)) → q ≡ false → back ≡ 0 → scan_in b f t s x n back ≡ scan_in b f t s x (n - 1) n
found_here b f t s x n back e q p w h r y z =
    step b f t s x n back e true false p w (eq-eqb _ _ h) (sym r ∙ y) ∙ simp (eq-eqb back 0 z)

pub later : (b f : List ℕ) (t s : ℕ) (x : Bool) (n back : ℕ) (e : ℕ) → 0 < n → e ≡ (bond_in b f t (n - 1)).to → e ≢ s → scan_in b f t s x n back ≡ scan_in b f t s x (n - 1) back
later b f t s x n back e p w h = step b f t s x n back e false (both x (even (n - 1))) p w (ne_eqb _ _ h) refl

pub at_end_lem : (b f : List ℕ) (t s : ℕ) (x : Bool) (n back : ℕ) → n ≡ 0 → Found back ≡ scan_in b f t s x n back
unfolding scan_in
at_end_lem b f t s x n back z = rw z refl
