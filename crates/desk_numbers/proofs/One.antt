-- Two results that meet one promise are equal. A promise is an equation of a result, or of what is said of it, with a
-- definition; where what is said leads back to the result, the promise settles all of it. Each call cites this once.
-- Assumes nothing.
use mathlib.Core.Path.{◌≡◌, sym, ap, ◌∙◌}

module _ {A B : Type 0} (said : A → B) (meant : B → A) (back : (x : A) → meant (said x) ≡ x) where
  -- what is said of a result settles it
  pub same_result : (x y : A) → said x ≡ said y → x ≡ y
  same_result x y e = sym (back x) ∙ ap meant e ∙ back y

  pub one_result : (claim : B) (x y : A) → said x ≡ claim → said y ≡ claim → x ≡ y
  one_result claim x y p q = same_result x y (p ∙ sym q)

-- the same where the promise is of the result itself
pub one_equal : {A : Type 0} (claim x y : A) → x ≡ claim → y ≡ claim → x ≡ y
one_equal claim x y p q = p ∙ sym q
