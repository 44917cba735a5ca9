-- Entries in chains: each chain goes over the entries of its atom, from the last to the first, and leaves out none. Assumes
-- nothing.
use Prim.{⊥}
use Prim.Native.Nat.{ℕ, zero, suc, ◌+◌, ◌*◌, ◌<◌, ◌≤◌}
use mathlib.Core.Path.{◌≡◌, refl, sym, ap, ◌∙◌}
use mathlib.Core.Logic.{◌≢◌}
use mathlib.Core.List.{List}
use mathlib.Core.Bool.{Bool, true, false, false≢true}
use native.Mathlib.Omega.{arith}
use native.Mathlib.Numerals.{add-one}
use lib.ListN.{length, get_or, set, length-set}
use lib.Seq.{get_or-set_same, get_or-set_other}
use lib.Dec.{eqb, ltb}
use borrow.Author.Tests.{eqb-true, eq-eqb, ne_eqb, ltb-true, ltb-false, lt-ltb}
use Rattle.feature.specs.Pick.{pick}
use Rattle.feature.proofs.Cases.{by_eq, both_first, both_second}
use Rattle.builder.specs.State.{unclosed, entry_words}
use Rattle.desk_state.specs.Standing.{source_at, entry_kind_at, target_at, is_entry_to, bonds_counted}
use Rattle.desk_state.specs.Steps.{word_at, is_of, last_at, Linked, Loose, head_with, next_with}

-- ---- the last of an atom
module _ (e : List ℕ) (column a : ℕ) where
  pub last_le : (m : ℕ) → last_at e column a m ≤ m
  unfolding last_at
  last_le zero = omega arith
  last_le (suc m) = go (is_of e column a m) (last_le m) where
    go : (q : Bool) → last_at e column a m ≤ m → pick q (suc m) (last_at e column a m) ≤ suc m
    go true ih = omega arith
    go false ih = omega (arith, ih)

  last_here : (m : ℕ) → is_of e column a m ≡ true → last_at e column a (suc m) ≡ suc m
  unfolding last_at
  last_here m is = rw is refl

  last_not : (m : ℕ) → is_of e column a m ≡ false → last_at e column a (suc m) ≡ last_at e column a m
  unfolding last_at
  last_not m is = rw is refl

  -- it is the last of those up to itself
  pub last_same : (m : ℕ) → last_at e column a (last_at e column a m) ≡ last_at e column a m
  last_same zero = last_none where
    last_none : last_at e column a (last_at e column a zero) ≡ last_at e column a zero
    last_none = ap (last_at e column a) {x = last_at e column a zero} {y = zero} (omega (arith, last_le zero))
  last_same (suc m) = go (is_of e column a m) refl (last_same m) where
    go : (q : Bool) → is_of e column a m ≡ q → last_at e column a (last_at e column a m) ≡ last_at e column a m → last_at e column a (last_at e column a (suc m)) ≡ last_at e column a (suc m)
    go true is ih = ap (last_at e column a) (last_here m is)
    go false is ih = ap (last_at e column a) (last_not m is) ∙ ih ∙ sym (last_not m is)

  pub last_is : (i : ℕ) → last_at e column a (suc i) ≡ suc i → is_of e column a i ≡ true
  last_is i h = go (is_of e column a i) refl where
    go : (q : Bool) → is_of e column a i ≡ q → is_of e column a i ≡ true
    go true is = is
    go false is = absurd (omega (arith, h, last_not i is, last_le i))

  -- a count to which only such entries add is the same from the last of them on
  pub count_last : (f h : ℕ → ℕ) → ((m : ℕ) → f (suc m) ≡ f m + h m) → ((m : ℕ) → is_of e column a m ≡ false → h m ≡ 0) → (m : ℕ) → f (last_at e column a m) ≡ f m
  count_last f h step none zero = ap f {x = last_at e column a zero} {y = zero} (omega (arith, last_le zero))
  count_last f h step none (suc m) = go (is_of e column a m) refl (count_last f h step none m) where
    go : (q : Bool) → is_of e column a m ≡ q → f (last_at e column a m) ≡ f m → f (last_at e column a (suc m)) ≡ f (suc m)
    go true is ih = ap f (last_here m is)
    go false is ih = ap f (last_not m is) ∙ ih ∙ omega (arith, step m, none m is)

-- ---- what a column holds
pub word_source : (e : List ℕ) (i : ℕ) → word_at e 0 i ≡ source_at e i
word_source e i = ap (λ (x : ℕ). get_or e x 0) {x = i * entry_words + 0} {y = i * entry_words} (omega arith)

pub of_closed : (e : List ℕ) (column a i : ℕ) → is_of e column a i ≡ true → (target_at e i < unclosed) × (word_at e column i ≡ a)
of_closed e column a i h =
    (ltb-true _ _ (both_first (ltb (target_at e i) unclosed) _ h), eqb-true _ _ (both_second (ltb (target_at e i) unclosed) _ h))

to_of : (e : List ℕ) (column a i : ℕ) → target_at e i < unclosed → word_at e column i ≡ a → is_of e column a i ≡ true
to_of e column a i l w = rw (lt-ltb (target_at e i) unclosed l) (eq-eqb (word_at e column i) a w)

-- ---- bonds counted along a chain
pub record IsBond (e : List ℕ) (a k t i : ℕ) : Type 0 where
  pub source : source_at e i ≡ a
  pub kind : entry_kind_at e i ≡ k
  pub target : target_at e i ≡ t

pub bond_is : (e : List ℕ) (a k t i : ℕ) → is_entry_to e a k t i ≡ true → IsBond e a k t i
unfolding is_entry_to
bond_is e a k t i h =
    let rest = both_second (eqb (source_at e i) a) _ h in
    record {
      source = eqb-true _ _ (both_first (eqb (source_at e i) a) _ h);
      kind = eqb-true _ _ (both_first (eqb (entry_kind_at e i) k) _ rest);
      target = eqb-true _ _ (both_second (eqb (entry_kind_at e i) k) _ rest);
    }

pub is_bond : (e : List ℕ) (a k t i : ℕ) → IsBond e a k t i → is_entry_to e a k t i ≡ true
unfolding is_entry_to
is_bond e a k t i h =
    rw (eq-eqb (source_at e i) a h.source, eq-eqb (entry_kind_at e i) k h.kind) (eq-eqb (target_at e i) t h.target)

-- what an entry adds
abbrev pub adds : List ℕ → ℕ → ℕ → ℕ → ℕ → ℕ
adds e a k t i = pick (is_entry_to e a k t i) 1 0

pub adds_one : (e : List ℕ) (a k t i : ℕ) → IsBond e a k t i → adds e a k t i ≡ 1
adds_one e a k t i h = ap (λ (q : Bool). pick q 1 0) (is_bond e a k t i h)

pub adds_none : (e : List ℕ) (a k t i : ℕ) → (IsBond e a k t i → ⊥) → adds e a k t i ≡ 0
adds_none e a k t i h = go (is_entry_to e a k t i) refl where
  go : (q : Bool) → is_entry_to e a k t i ≡ q → adds e a k t i ≡ 0
  go true is = absurd (h (bond_is e a k t i is))
  go false is = ap (λ (q : Bool). pick q 1 0) is

pub count_suc : (e : List ℕ) (a k t m : ℕ) → bonds_counted e a k t (suc m) ≡ bonds_counted e a k t m + adds e a k t m
unfolding bonds_counted
count_suc e a k t m = refl

pub count_zero : (e : List ℕ) (a k t : ℕ) → bonds_counted e a k t 0 ≡ 0
unfolding bonds_counted
count_zero e a k t = refl

pub count_most : (e : List ℕ) (a k t m : ℕ) → bonds_counted e a k t m ≤ m
count_most e a k t zero = omega (arith, count_zero e a k t)
count_most e a k t (suc m) = go (is_entry_to e a k t m) refl (count_most e a k t m) where
  go : (q : Bool) → is_entry_to e a k t m ≡ q → bonds_counted e a k t m ≤ m → bonds_counted e a k t (suc m) ≤ suc m
  go true is ih = omega (arith, ih, count_suc e a k t m, ap (λ (q : Bool). pick {A = ℕ} q 1 0) is)
  go false is ih = omega (arith, ih, count_suc e a k t m, ap (λ (q : Bool). pick {A = ℕ} q 1 0) is)

-- those from a, and those to a
pub out_last : (e : List ℕ) (a k t m : ℕ) → t < unclosed → bonds_counted e a k t (last_at e 0 a m) ≡ bonds_counted e a k t m
out_last e a k t m l =
    count_last e 0 a (bonds_counted e a k t) (adds e a k t) (count_suc e a k t)
    (λ i not. adds_none e a k t i (λ h. false≢true (sym not ∙ to_of e 0 a i (omega (arith, l, h.target)) (word_source e i ∙ h.source)))) m

pub back_last : (e : List ℕ) (a k t m : ℕ) → a < unclosed → bonds_counted e t k a (last_at e 2 a m) ≡ bonds_counted e t k a m
back_last e a k t m l =
    count_last e 2 a (bonds_counted e t k a) (adds e t k a) (count_suc e t k a)
    (λ i not. adds_none e t k a i (λ h. false≢true (sym not ∙ to_of e 2 a i (omega (arith, l, h.target)) h.target))) m

-- ---- one entry more in its chain
more_is : (e : List ℕ) (column a m : ℕ) → is_of e column a m ≡ true → last_at e column a (m + 1) ≡ m + 1
more_is e column a m is = ap (last_at e column a) (add-one m) ∙ last_here e column a m is ∙ sym (add-one m)

more_not : (e : List ℕ) (column a m : ℕ) → is_of e column a m ≡ false → last_at e column a (m + 1) ≡ last_at e column a m
more_not e column a m is = ap (last_at e column a) (add-one m) ∙ last_not e column a m is

not_closed : (e : List ℕ) (column a m : ℕ) → ltb (target_at e m) unclosed ≡ false → is_of e column a m ≡ false
not_closed e column a m is = rw is refl

not_key : (e : List ℕ) (column a m : ℕ) → ltb (target_at e m) unclosed ≡ true → word_at e column m ≢ a → is_of e column a m ≡ false
not_key e column a m is n = rw is (ne_eqb (word_at e column m) a n)

module _ (e : List ℕ) (column m : ℕ) (head next : List ℕ) (room : m < length next) (key : target_at e m < unclosed → word_at e column m < length head) (h : Linked e column m head next) where
  closed_step : ltb (target_at e m) unclosed ≡ true → Linked e column (m + 1) (set head (word_at e column m) (m + 1)) (set next m (get_or head (word_at e column m) 0))
  closed_step is =
      let w = word_at e column m in
      let c = ltb-true (target_at e m) unclosed is in
      record {
        heads = λ a l. by_eq a w
            (λ q. ap (λ (x : ℕ). get_or (set head w (m + 1)) x 0) q ∙ get_or-set_same head w (m + 1) 0 (key c) ∙ sym (more_is e column a m (to_of e column a m c (sym q))))
            (λ q. get_or-set_other head w a (m + 1) 0 q ∙ h.heads a (omega (arith, l, length-set head w (m + 1))) ∙ sym (more_not e column a m (not_key e column a m is (λ z. q (sym z)))));
        nexts = λ i l u. by_eq i m
            (λ q. ap (λ (x : ℕ). get_or (set next m (get_or head w 0)) x 0) q ∙ get_or-set_same next m (get_or head w 0) 0 room ∙ h.heads w (key c) ∙ ap (λ (x : ℕ). last_at e column (word_at e column x) x) (sym q))
            (λ q. get_or-set_other next m i (get_or head w 0) 0 q ∙ h.nexts i (omega (arith, l, q)) u);
        descends = λ i. by_eq i m
            (λ q. omega (arith, q, ap (λ (x : ℕ). get_or (set next m (get_or head w 0)) x 0) q, get_or-set_same next m (get_or head w 0) 0 room, h.heads w (key c), last_le e column w m))
            (λ q. omega (arith, get_or-set_other next m i (get_or head w 0) 0 q, h.descends i));
      }

  open_step : ltb (target_at e m) unclosed ≡ false → Linked e column (m + 1) head next
  open_step is =
      record {
        heads = λ a l. h.heads a l ∙ sym (more_not e column a m (not_closed e column a m is));
        nexts = λ i l u. by_eq i m
            (λ q. let z : target_at e i ≡ target_at e m = ap (target_at e) q in absurd (omega (arith, u, z, ltb-false (target_at e m) unclosed is)))
            (λ q. h.nexts i (omega (arith, l, q)) u);
        descends = h.descends;
      }

  pub linked_step : Linked e column (m + 1) (head_with e column m head) (next_with e column m head next)
  unfolding head_with next_with
  linked_step = go (ltb (target_at e m) unclosed) refl where
    go : (q : Bool) → ltb (target_at e m) unclosed ≡ q → Linked e column (m + 1) (pick q (set head (word_at e column m) (m + 1)) head) (pick q (set next m (get_or head (word_at e column m) 0)) next)
    go true is = closed_step is
    go false is = open_step is

pub linked_next : (e : List ℕ) (column m : ℕ) {head next head' next' : List ℕ} → m < length next → (target_at e m < unclosed → word_at e column m < length head) → Linked e column m head next → head' ≡ head_with e column m head → next' ≡ next_with e column m head next → Linked e column (m + 1) head' next'
linked_next e column m {head} {next} room key h x y = rw (x, y) (linked_step e column m head next room key h)

pub linked_none : (e : List ℕ) (column n : ℕ) (head next : List ℕ) → Loose e column n head next → Linked e column 0 head next
unfolding last_at
linked_none e column n head next h = record { heads = λ a l. h.blank a; nexts = λ i l. absurd (omega arith); descends = λ i. omega (arith, h.unlinked i) }
