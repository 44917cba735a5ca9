-- Tests and choices: what a test says, and what holds of the outcome that it picks. Assumes nothing.
use Prim.Native.Nat.{ℕ}
use mathlib.Core.Path.{◌≡◌, refl, sym, ◌∙◌, ap}
use Rattle.std.specs.Prelude.{Option, Some, Result, Ok}
use mathlib.Core.Logic.{◌≢◌}
use mathlib.Core.Bool.{Bool, true, false, true≢false, false≢true}
use native.Mathlib.Decide.{ℕ_discrete}
use native.Mathlib.Omega.{arith}
use lib.Dec.{T}
use Rattle.feature.specs.Pick.{pick, both}

-- ---- choices
-- what holds of both outcomes of a test, each with what the test says, holds of the one picked
pub by_test : {A : Type 0} (P : A → Type 0) (b : Bool) {x y : A} → (b ≡ true → P x) → (b ≡ false → P y) → P (pick b x y)
by_test P true f g = f refl
by_test P false f g = g refl

-- the same where the test does not matter
pub by_either : {A : Type 0} (P : A → Type 0) (b : Bool) {x y : A} → P x → P y → P (pick b x y)
by_either P true p q = p
by_either P false p q = q

-- two numbers are equal or not
pub by_eq {ℓ} : {X : Type ℓ} (a b : ℕ) → (a ≡ b → X) → (a ≢ b → X) → X
by_eq a b f g = elim (ℕ_discrete a b) [ yes e ↦ f e | no h ↦ g h ]

-- ---- tests
-- Two values that begin with different constructors are not equal: with such an equation at hand, `impossible cc`.
pub impossible {ℓ} : {X : Type ℓ} → ◌≡◌ {A = ℕ} 0 1 → X
impossible e = absurd (omega arith)

-- no test passes and fails
pub clash {ℓ} : {X : Type ℓ} {b : Bool} → b ≡ true → b ≡ false → X
clash p q = absurd (true≢false (sym p ∙ q))

pub true_of : (b : Bool) → T b → b ≡ true
true_of true t = refl
true_of false t = absurd t

pub false_of : (b : Bool) → (T b → ⊥) → b ≡ false
false_of true f = absurd (f tt)
false_of false f = refl

-- where two tests both pass, each of them does, and the other way round
pub both_first : (a b : Bool) → both a b ≡ true → a ≡ true
both_first true b h = refl
both_first false b h = absurd (false≢true h)

pub both_second : (a b : Bool) → both a b ≡ true → b ≡ true
both_second true b h = h
both_second false b h = absurd (false≢true h)

pub both_true : (a b : Bool) → both a b ≡ true → (a ≡ true) × (b ≡ true)
both_true a b h = (both_first a b h, both_second a b h)

pub both_pass : {a b : Bool} → a ≡ true → b ≡ true → both a b ≡ true
both_pass e f = rw e f

-- ---- pairs
-- equal pairs have equal parts
pub parts : {A B : Type 0} {a c : A} {b d : B} → ◌≡◌ {A = A × B} (a, b) (c, d) → (a ≡ c) × (b ≡ d)
parts e = (ap (λ p. p.0) e, ap (λ p. p.1) e)

-- and so have those of which there is some
pub some_parts : {A B : Type 0} {a c : A} {b d : B} → ◌≡◌ {A = Option (A × B)} (Some (a, b)) (Some (c, d)) → (a ≡ c) × (b ≡ d)
some_parts e = parts cc

-- and those that a reader answers
pub ok_parts : {A B E : Type 0} {a c : A} {b d : B} → ◌≡◌ {A = Result (A × B) E} (Ok (a, b)) (Ok (c, d)) → (a ≡ c) × (b ≡ d)
ok_parts e = parts cc

pub found_parts : {A B E : Type 0} {a c : A} {b d : B} → ◌≡◌ {A = Result (Option (A × B)) E} (Ok (Some (a, b))) (Ok (Some (c, d))) → (a ≡ c) × (b ≡ d)
found_parts e = parts cc
