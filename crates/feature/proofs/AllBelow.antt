-- What `all` over the numbers below n answers, where its closure answers as a test does. Assumes nothing.
use Rattle.std.proofs.Common.{◌≡◌, ℕ, Bool, true, false, ◌<◌, length, get_or, List, sym, arith, subst}
use Rattle.std.proofs.iter.Yields.{nat_range_steps}
use Rattle.std.proofs.lemmas.Iterator.{cases_from_all, YieldsList-from_range}
use Rattle.std.proofs.lemmas.List.FromFn.{length-range_with_len, get_or-range_with_len}
use Rattle.std.specs.Bool.{MatchBool}
use Rattle.std.specs.Fn.{Called}
use Rattle.std.specs.Iterator.{YieldsThen}
use Rattle.std.specs.List.{range_with_len, AllWithin, HoldsAt, FoldsTo}
use Rattle.std.specs.Option.{MatchOption}
use Rattle.std.specs.Prelude.{Option}
use Rattle.std.specs.declared.ops.Range.{Range}
use denote.Param.Members.{Mut}
use Rattle.feature.specs.Every.{every}
use Rattle.feature.proofs.Every.{every_all, every_fails}

-- the number at a place is that place
at : (n k : ℕ) → k < n → get_or (range_with_len 0 n) k 0 ≡ k
at n k h = omega (arith, get_or-range_with_len 0 n k 0 h)

-- all of them pass, or there is one that fails
by_cases : (t : ℕ → Bool) (n : ℕ) (r : Bool) → MatchBool r (AllWithin (λ x. t x ≡ true) (range_with_len 0 n) 0 (length (range_with_len 0 n))) ((k : ℕ) × (k < length (range_with_len 0 n)) × HoldsAt (λ x. t x ≡ false) (range_with_len 0 n) k) → r ≡ every t n
by_cases t n true h =
    sym (every_all t n (λ k l. subst (λ (x : ℕ). t x ≡ true) (at n k l) (h k 0 (omega arith) (omega (arith, length-range_with_len 0 n)))))
by_cases t n false h =
    let l : h.0 < n = omega (arith, length-range_with_len 0 n, h.1) in
    sym (every_fails t n h.0 l (subst (λ (x : ℕ). t x ≡ false) (at n h.0 l) (h.2 0)))

pub all_below : {F : Type 0} {g : Mut F (ℕ × Unit {0}) Bool} {s : Range ℕ} (u : Range ℕ) (f : F) (r : Bool) (t : ℕ → Bool) (n : ℕ)
    → s ≡ record { start = 0; end = n }
    → (xs : List ℕ) × (o : Option ℕ) × (j : F) × YieldsThen nat_range_steps s xs o u × FoldsTo (λ p x q. Called g p (x, tt) true q) f xs j × MatchOption o (r ≡ true) (λ x. (r ≡ false) × ((h : F) × Called g j (x, tt) false h))
    → ((x : ℕ) (b : Bool) (q : F) → Called g f (x, tt) b q → (q ≡ f) × (b ≡ t x))
    → r ≡ every t n
all_below u f r t n e ran answers =
    by_cases t n r
    (cases_from_all u f r (λ x. t x ≡ true) (λ x. t x ≡ false) ran (YieldsList-from_range 0 n n e (omega arith))
    (λ x q k. let p = answers x true q k in (p.0, sym p.1))
    (λ x q k. sym (answers x false q k).1))
