-- Joins that rise: in the words of an iterator's `is_sorted_by`, and as the definitions say it. Assumes nothing.
use Rattle.std.proofs.Common.{◌≡◌, ℕ, zero, suc, ◌+◌, ◌<◌, ◌≤◌, Bool, true, false, List, [], ◌∷◌, ◌++◌, length, get_or, take, arith, refl, sym, ◌∙◌, ap, subst, filter, map, cond}
use Rattle.std.proofs.Math.Seq.{take-suc}
use Rattle.std.proofs.lemmas.List.{take_all, append-nil, map-id}
use Rattle.std.proofs.lemmas.List.Elements.{filter-append}
use Rattle.std.proofs.lemmas.List.FromFn.{length-map-range_with_len, get_or-map-range_with_len}
use Rattle.std.specs.List.{range_with_len}
use Rattle.std.specs.Iterator.Order.{IsSortedAnswer}
use Rattle.std.specs.Prelude.{Option, None}
use Rattle.std.specs.Bool.{OnTrue, IsTrue}
use Rattle.std.specs.Iterator.{DrainsIf}
use Rattle.std.specs.Iterator.Runs.{Run, YieldsRun}
use Rattle.std.proofs.lemmas.Iterator.{YieldsList}
use Rattle.std.proofs.lemmas.Iterator.Consumers.{YieldsList-so_far, YieldsList-end}
use lib.Dec.{ltb, leb}
use borrow.Author.Tests.{ltb-true, ltb-false, lt-leb, le-leb, leb-true}
use Rattle.feature.specs.Pick.{pick}
use Rattle.feature.proofs.Cases.{clash}
use Rattle.feature.specs.Every.{every}
use Rattle.builder.specs.State.{unclosed}
use Rattle.desk_state.specs.Standing.{target_at, least_open, is_later}

-- the numbers rise from l on
abbrev rises : ℕ → List ℕ → Bool
rises l [] = true
rises l (x ∷ xs) = pick (leb l x) (rises (x + 1) xs) false

-- the least that may come after them
abbrev after : ℕ → List ℕ → ℕ
after l [] = l
after l (x ∷ xs) = after (x + 1) xs

fails : (q : Bool) → pick q false false ≡ false
fails true = refl
fails false = refl

-- ---- what `is_sorted_by` tells
rise_if : (l : ℕ) (xs : List ℕ) → l ≤ get_or xs 0 l → ((k d : ℕ) → k + 1 < length xs → ltb (get_or xs k d) (get_or xs (k + 1) d) ≡ true) → rises l xs ≡ true
rise_if l [] low h = refl
rise_if l (x ∷ []) low h = ap (λ q. pick q true false) (le-leb l x low)
rise_if l (x ∷ y ∷ ys) low h =
    ap (λ q. pick q (rises (x + 1) (y ∷ ys)) false) (le-leb l x low)
    ∙ rise_if (x + 1) (y ∷ ys) (omega (arith, ltb-true x y (h 0 0 (omega arith))))
    (λ k d m. let e : suc k + 1 ≡ suc (k + 1) = omega arith in subst (λ (j : ℕ). ltb (get_or (y ∷ ys) k d) (get_or (x ∷ y ∷ ys) j d) ≡ true) e (h (suc k) d (omega arith)))

fall_if : (l : ℕ) (xs : List ℕ) (k : ℕ) → k + 1 < length xs → ((d : ℕ) → ltb (get_or xs k d) (get_or xs (k + 1) d) ≡ false) → rises l xs ≡ false
fall_if l [] k m h = absurd (omega arith)
fall_if l (x ∷ []) k m h = absurd (omega arith)
fall_if l (x ∷ y ∷ ys) zero m h =
    ap (λ q. pick (leb l x) (pick q (rises (y + 1) ys) false) false) (lt-leb (x + 1) y (omega (arith, ltb-false x y (h 0)))) ∙ fails (leb l x)
fall_if l (x ∷ y ∷ ys) (suc k) m h =
    ap (λ q. pick (leb l x) q false)
    (fall_if (x + 1) (y ∷ ys) k (omega arith) (λ d. let e : suc k + 1 ≡ suc (k + 1) = omega arith in subst (λ (j : ℕ). ltb (get_or (y ∷ ys) k d) (get_or (x ∷ y ∷ ys) j d) ≡ false) e (h d)))
    ∙ fails (leb l x)

passes_on : (q : Bool) {a b : Bool} → (a ≡ false → b ≡ false) → pick q a false ≡ false → pick q b false ≡ false
passes_on true f h = f h
passes_on false f h = refl

fall_on : (l k : ℕ) (xs : List ℕ) → rises l (take k xs) ≡ false → rises l xs ≡ false
fall_on l zero [] h = h
fall_on l zero (x ∷ xs) h = clash refl h
fall_on l (suc k) [] h = h
fall_on l (suc k) (x ∷ xs) h = passes_on (leb l x) (fall_on (x + 1) k xs) h

-- ---- one number more
swap : (q r s : Bool) → pick q (pick r s false) false ≡ pick r (pick q s false) false
swap true true s = refl
swap true false s = refl
swap false true s = refl
swap false false s = refl

one_more : (l : ℕ) (xs : List ℕ) (x : ℕ) → rises l (xs ++ x ∷ []) ≡ pick (leb (after l xs) x) (rises l xs) false
one_more l [] x = refl
one_more l (y ∷ ys) x = ap (λ q. pick (leb l y) q false) (one_more (y + 1) ys x) ∙ swap (leb l y) (leb (after (y + 1) ys) x) (rises (y + 1) ys)

after_more : (l : ℕ) (xs : List ℕ) (x : ℕ) → after l (xs ++ x ∷ []) ≡ x + 1
after_more l [] x = refl
after_more l (y ∷ ys) x = after_more (y + 1) ys x

none : (xs : List ℕ) → take 0 xs ≡ []
none [] = refl
none (x ∷ xs) = refl

first_open : (xs : List ℕ) → unclosed ≤ get_or (filter (leb unclosed) xs) 0 unclosed
first_open [] = omega arith
first_open (x ∷ xs) = go (leb unclosed x) refl (first_open xs) where
  go : (q : Bool) → leb unclosed x ≡ q → unclosed ≤ get_or (filter (leb unclosed) xs) 0 unclosed → unclosed ≤ get_or (cond q (x ∷ filter (leb unclosed) xs) (filter (leb unclosed) xs)) 0 unclosed
  go true is ih = leb-true unclosed x is
  go false is ih = ih

to_whole : (r q : Bool) → OnTrue r (q ≡ true) → r ≡ true → q ≡ true
to_whole true q h e = h
to_whole false q h e = clash e refl

-- ---- the joins of the open ones among the first k of n entries
module _ (e : List ℕ) (n : ℕ) where
  abbrev pub targets : List ℕ
  targets = map (target_at e) (range_with_len 0 n)

  abbrev so_far : ℕ → List ℕ
  so_far k = filter (leb unclosed) (take k targets)

  turn : (k : ℕ) → k < n → so_far (suc k) ≡ so_far k ++ cond (leb unclosed (target_at e k)) (target_at e k ∷ []) []
  turn k l =
      ap (filter (leb unclosed)) (take-suc targets k 0 (omega (arith, length-map-range_with_len (target_at e) 0 n)))
      ∙ filter-append (leb unclosed) (take k targets) (get_or targets k 0 ∷ [])
      ∙ ap (λ (t : ℕ). so_far k ++ filter (leb unclosed) (t ∷ [])) (get_or-map-range_with_len (target_at e) 0 n k k 0 l (omega arith))

  record Told (k : ℕ) : Type 0 where
    pub least : least_open e k ≡ after unclosed (so_far k)
    pub late : every (is_later e) k ≡ rises unclosed (so_far k)

  told : (k : ℕ) → k ≤ n → Told k
  unfolding every least_open is_later
  told zero l =
      record {
        least = ap (λ (xs : List ℕ). after unclosed (filter (leb unclosed) xs)) (sym (none targets));
        late = ap (λ (xs : List ℕ). rises unclosed (filter (leb unclosed) xs)) (sym (none targets));
      }
  told (suc k) l = go (leb unclosed (target_at e k)) refl (told k (omega arith)) where
    go : (q : Bool) → leb unclosed (target_at e k) ≡ q → Told k → Told (suc k)
    go true is h =
        let t = target_at e k in
        let more : so_far (suc k) ≡ so_far k ++ t ∷ [] = turn k l ∙ ap (λ (q : Bool). so_far k ++ cond q (t ∷ []) []) is in
        record {
          least = ap (λ (q : Bool). pick q (t + 1) (least_open e k)) is ∙ sym (after_more unclosed (so_far k) t) ∙ ap (after unclosed) (sym more);
          late =
              ap (λ (q : Bool). pick (pick q (leb (least_open e k) t) true) (every (is_later e) k) false) is
              ∙ ap (λ (x : ℕ). pick (leb x t) (every (is_later e) k) false) h.least
              ∙ ap (λ (q : Bool). pick (leb (after unclosed (so_far k)) t) q false) h.late
              ∙ sym (one_more unclosed (so_far k) t)
              ∙ ap (rises unclosed) (sym more);
        }
    go false is h =
        let t = target_at e k in
        let same : so_far (suc k) ≡ so_far k = turn k l ∙ ap (λ (q : Bool). so_far k ++ cond q (t ∷ []) []) is ∙ append-nil (so_far k) in
        record {
          least = ap (λ (q : Bool). pick q (t + 1) (least_open e k)) is ∙ h.least ∙ ap (after unclosed) (sym same);
          late = ap (λ (q : Bool). pick (pick q (leb (least_open e k) t) true) (every (is_later e) k) false) is ∙ h.late ∙ ap (rises unclosed) (sym same);
        }

  abbrev pub joins : List ℕ
  joins = filter (leb unclosed) targets

  all_told : every (is_later e) n ≡ rises unclosed joins
  all_told =
      (told n (omega arith)).late
      ∙ ap (λ (xs : List ℕ). rises unclosed (filter (leb unclosed) xs)) (take_all n targets (omega (arith, length-map-range_with_len (target_at e) 0 n)))

  module _ {S : Type 0} {steps : S → Option ℕ → S → Type 0} {s : S} (yields : YieldsList steps (λ x. x) s joins) where
    by_answer : (r : Bool) (xs : List ℕ) → DrainsIf steps (r ≡ true) s xs → IsSortedAnswer ltb xs r → r ≡ rises unclosed joins
    by_answer true xs run h =
        let end = run.2 refl in
        let all : xs ≡ joins = sym (map-id xs) ∙ (YieldsList-end yields xs run.0 run.1 None end.0 refl end.1).0 in
        sym (ap (rises unclosed) (sym all) ∙ rise_if unclosed xs (subst (λ (ys : List ℕ). unclosed ≤ get_or ys 0 unclosed) (sym all) (first_open targets)) h.0)
    by_answer false xs run h =
        let front : xs ≡ take (length xs) joins = sym (map-id xs) ∙ YieldsList-so_far yields xs run.0 run.1 in
        sym (fall_on unclosed (length xs) joins (ap (rises unclosed) (sym front) ∙ fall_if unclosed xs h.0.0 h.0.1 h.0.2))

    pub sorted : (r : Bool) (p : Run steps) → p.from ≡ s → OnTrue r (IsTrue p.whole) → IsSortedAnswer ltb p.items r → r ≡ every (is_later e) n
    unfolding YieldsRun
    sorted r p from whole h =
        by_answer r p.items
        (subst (λ (x : S). DrainsIf steps (r ≡ true) x p.items) from (p.gave.0.0, p.gave.0.1, λ w. p.gave.0.2 (to_whole r p.whole whole w)))
        h
        ∙ sym all_told
