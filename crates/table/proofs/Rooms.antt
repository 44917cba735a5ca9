-- The lesser of two numbers, as room in a table is. Assumes nothing.
use Rattle.std.proofs.Common.{◌≡◌, ℕ, ◌<◌, ◌≤◌, Bool, true, false, ltb, refl, ◌∙◌, arith, ltb-false, ltb-true, le-ltb}
use Rattle.table.specs.Limits.{lesser_of}

-- it is one of them
pub lesser_cases : {C : Type 0} (a b r : ℕ) → r ≡ lesser_of a b → (b < a → r ≡ b → C) → (a ≤ b → r ≡ a → C) → C
unfolding lesser_of
lesser_cases {C} a b r e f g = go (ltb b a) refl
  where
    go : (t : Bool) → ltb b a ≡ t → C
    go true h = f (ltb-true b a h) (e ∙ simp h)
    go false h = g (ltb-false b a h) (e ∙ simp h)

pub lesser_first : (m l : ℕ) → m ≤ l → lesser_of m l ≡ m
unfolding lesser_of
lesser_first m l h = simp (le-ltb l m h)

-- it is within both
pub lesser_most : (limit n : ℕ) → lesser_of limit n ≤ limit
lesser_most limit n =
    lesser_cases limit n (lesser_of limit n) refl (λ h e. omega arith) (λ h e. omega arith)

pub lesser_held : (limit n : ℕ) → lesser_of limit n ≤ n
lesser_held limit n =
    lesser_cases limit n (lesser_of limit n) refl (λ h e. omega arith) (λ h e. omega arith)

-- what it has room for, both have
pub lesser_both : (r l n : ℕ) → ltb (lesser_of r l) n ≡ false → (n ≤ r) × (n ≤ l)
lesser_both r l n h =
    let k : n ≤ lesser_of r l = ltb-false (lesser_of r l) n h in
    (omega (arith, k, lesser_most r l), omega (arith, k, lesser_held r l))
