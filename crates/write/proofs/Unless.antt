-- What stops a call, and what it makes where nothing does, by cases. Assumes nothing.
use mathlib.Core.Path.{◌≡◌, refl, ap}
use Rattle.std.specs.Prelude.{Option, Some, None, Result, Ok, Err, IsErrAnd}
use Rattle.write.specs.Write.{unless}

pub by_unless : {A B : Type 0} (P : B → Type 0) (o : Option A) {f : A → B} {b : B} → ((a : A) → o ≡ Some a → P (f a)) → (o ≡ None → P b) → P (unless o f b)
by_unless P (Some a) h k = h a refl
by_unless P None h k = k refl

-- two that differ only where nothing stops them
pub same_unless : {A B : Type 0} (o : Option A) (f : A → B) {x y : B} → (o ≡ None → x ≡ y) → unless o f x ≡ unless o f y
same_unless (Some a) f h = refl
same_unless None f h = h refl

-- what a `?` hands on
pub err_is : {A E : Type 0} (r : Result A E) (why : E) → IsErrAnd r (λ x. x ≡ why) → r ≡ Err why
err_is (Err x) why h = ap Err h
err_is (Ok a) why h = absurd h
