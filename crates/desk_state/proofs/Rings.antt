-- What is asked of the ring numbers: in the words of a slice, and as the definitions say it. Assumes nothing.
use Rattle.std.proofs.Common.{◌≡◌, ℕ, zero, suc, ◌+◌, ◌<◌, Bool, true, false, List, [], ◌∷◌, length, get_or, take, arith, refl, sym, ◌∙◌, ap, not, nat_eq, count_by, cond, filter}
use Rattle.std.proofs.Math.Seq.{take-suc}
use Rattle.std.proofs.lemmas.List.{get_or-take, get_or_past, length-take-le, take_all}
use Rattle.std.proofs.lemmas.List.Sums.{sum_by-append, length-filter}
use Rattle.std.specs.List.{IsAnyAnswer}
use lib.Dec.{ltb}
use borrow.Author.Tests.{ltb-true, ltb-false}
use Rattle.feature.specs.Pick.{neither, pick}
use Rattle.feature.specs.Every.{every}
use Rattle.feature.proofs.Every.{every_all, every_fails}
use Rattle.desk_state.specs.Standing.{is_apart, open_rings}

-- none of those before n leads where n does
pub alone : (r : List ℕ) (n : ℕ) (q : Bool) → n < length r → IsAnyAnswer (λ y b. nat_eq y (get_or r n 0) ≡ b) (take n r) q → not q ≡ every (is_apart r n) n
unfolding is_apart
alone r n true l h =
    let i : h.0 < n = omega (arith, length-take-le n r, h.1) in
    sym (every_fails (is_apart r n) n h.0 i (ap neither (ap (λ y. nat_eq y (get_or r n 0)) (sym (get_or-take n r h.0 0 i)) ∙ h.2 0)))
alone r n false l h =
    sym (every_all (is_apart r n) n (λ k i. ap neither (ap (λ y. nat_eq y (get_or r n 0)) (sym (get_or-take n r k 0 i)) ∙ h k 0 (omega arith) (omega (arith, length-take-le n r)))))

-- a ring number is open
abbrev pub is_open : ℕ → Bool
is_open x = not (nat_eq x 0)

one : (x : ℕ) → cond {A = ℕ} (is_open x) 1 0 ≡ pick {A = ℕ} (nat_eq x 0) 0 1
one x = go (nat_eq x 0) where
  go : (q : Bool) → cond {A = ℕ} (not q) 1 0 ≡ pick {A = ℕ} q 0 1
  go true = refl
  go false = refl

counted : (r : List ℕ) (n : ℕ) → count_by is_open (take n r) ≡ open_rings r n
unfolding open_rings
counted r zero = refl
counted r (suc n) = go (ltb n (length r)) refl (counted r n) where
  go : (q : Bool) → ltb n (length r) ≡ q → count_by is_open (take n r) ≡ open_rings r n → count_by is_open (take (suc n) r) ≡ open_rings r n + pick (nat_eq (get_or r n 0) 0) 0 1
  go true is ih =
      ap (count_by is_open) (take-suc r n 0 (ltb-true _ _ is))
      ∙ sum_by-append (λ x. cond (is_open x) 1 0) (take n r) (get_or r n 0 ∷ [])
      ∙ omega (arith, ih, one (get_or r n 0))
  go false is ih =
      let past = ltb-false n (length r) is in
      let none : pick {A = ℕ} (nat_eq (get_or r n 0) 0) 0 1 ≡ 0 = ap (λ x. pick {A = ℕ} (nat_eq x 0) 0 1) (get_or_past r n 0 past) in
      ap (count_by is_open) (take_all (suc n) r (omega arith) ∙ sym (take_all n r past))
      ∙ omega (arith, ih, none)

-- the open ones among the first n words
pub open_counted : (r : List ℕ) (n : ℕ) → length (filter is_open (take n r)) ≡ open_rings r n
open_counted r n = length-filter is_open (take n r) ∙ counted r n
