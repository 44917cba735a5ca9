-- Entries that grow by one, or of which an open one is filled: what they keep to. Assumes nothing.
use Prim.Native.Nat.{ℕ, zero, suc, ◌+◌, ◌*◌, ◌%◌, ◌<◌, ◌≤◌}
use mathlib.Core.Path.{◌≡◌, refl, sym, ap, ◌∙◌, subst}
use mathlib.Core.Logic.{◌≢◌, inl, inr}
use mathlib.Core.List.{List, [], ◌∷◌}
use mathlib.Core.Bool.{Bool, true, false}
use native.Mathlib.Omega.{arith}
use lib.ListN.{length, get_or}
use lib.Seq.{sets}
use lib.Dec.{eqb, ltb, leb, lit<}
use borrow.Author.Tests.{ne_eqb, ltb-true, ltb-false, leb-true, le-leb, lt-leb}
use Rattle.feature.specs.Pick.{pick, both}
use Rattle.feature.specs.Bonds.{code_of, reverse_of}
use Rattle.feature.specs.declared.bond_kind.BondKind.{BondKind}
use Rattle.feature.proofs.Cases.{by_eq}
use Rattle.feature.proofs.Bonds.{reverse_twice, same_reverse}
use Rattle.table.proofs.Stores.{sets_beside, sets_in, sets_first}
use Rattle.builder.specs.State.{unclosed, entry_words, entry_list}
use Rattle.desk_state.specs.Standing.{source_at, entry_kind_at, target_at, is_entry_to, bonds_counted, least_open}
use Rattle.desk_state.proofs.Ends.{count_step}

-- ---- kinds
-- ---- what an entry adds to a count
unfoldable pub hit : ℕ → ℕ → ℕ → ℕ → ℕ → ℕ → ℕ
hit s c x a k t = pick (both (eqb s a) (both (eqb c k) (eqb x t))) 1 0

-- seen from its other end
hit_back : (s : ℕ) (c : BondKind) (x a : ℕ) (k : BondKind) (t : ℕ) → hit s (code_of c) x a (code_of k) t ≡ hit x (code_of (reverse_of c)) s t (code_of (reverse_of k)) a
unfolding hit
hit_back s c x a k t = rw (same_reverse c k) (turn (eqb s a) (eqb (code_of c) (code_of k)) (eqb x t)) where
  turn : (p q r : Bool) → pick {A = ℕ} (both p (both q r)) 1 0 ≡ pick (both r (both q p)) 1 0
  turn true true true = refl
  turn true true false = refl
  turn true false true = refl
  turn true false false = refl
  turn false true true = refl
  turn false true false = refl
  turn false false true = refl
  turn false false false = refl

-- an open one adds nothing
pub hit_open : (s c x a k t : ℕ) → unclosed ≤ x → t < unclosed → hit s c x a k t ≡ 0
unfolding hit
hit_open s c x a k t h l = rw (ne_eqb x t (λ e. omega arith)) (none (eqb s a) (eqb c k)) where
  none : (p q : Bool) → pick {A = ℕ} (both p (both q false)) 1 0 ≡ 0
  none true true = refl
  none true false = refl
  none false q = refl

-- ---- tables that agree
pub record Agree (e g : List ℕ) (i : ℕ) : Type 0 where
  pub source : source_at g i ≡ source_at e i
  pub kind : entry_kind_at g i ≡ entry_kind_at e i
  pub target : target_at g i ≡ target_at e i

bond_hit : (e : List ℕ) (a k t i : ℕ) → pick {A = ℕ} (is_entry_to e a k t i) 1 0 ≡ hit (source_at e i) (entry_kind_at e i) (target_at e i) a k t
unfolding hit is_entry_to
bond_hit e a k t i = refl

hit_is : {s c x s' c' x' : ℕ} (a k t : ℕ) → s' ≡ s → c' ≡ c → x' ≡ x → hit s' c' x' a k t ≡ hit s c x a k t
hit_is a k t e f g = rw (e, f, g) refl

pub count_more : (e : List ℕ) (a k t m : ℕ) → bonds_counted e a k t (m + 1) ≡ bonds_counted e a k t m + hit (source_at e m) (entry_kind_at e m) (target_at e m) a k t
count_more e a k t m = count_step e a k t m ∙ ap (λ (n : ℕ). bonds_counted e a k t m + n) (bond_hit e a k t m)

pub count_same : (e g : List ℕ) (a k t m : ℕ) → ((i : ℕ) → i < m → Agree e g i) → bonds_counted g a k t m ≡ bonds_counted e a k t m
unfolding bonds_counted
count_same e g a k t zero h = refl
count_same e g a k t (suc m) h =
    let w = h m (omega arith) in
    omega (arith, count_same e g a k t m (λ i l. h i (omega arith)), bond_hit e a k t m, bond_hit g a k t m, hit_is a k t w.source w.kind w.target)

-- but for one entry
pub count_but : (e g : List ℕ) (a k t p m : ℕ) → p < m → ((i : ℕ) → i ≢ p → Agree e g i) → bonds_counted g a k t m + hit (source_at e p) (entry_kind_at e p) (target_at e p) a k t ≡ bonds_counted e a k t m + hit (source_at g p) (entry_kind_at g p) (target_at g p) a k t
unfolding bonds_counted
count_but e g a k t p zero l h = absurd (omega arith)
count_but e g a k t p (suc m) l h =
    by_eq m p
    (λ q. let low = count_same e g a k t m (λ i r. h i (λ z. omega arith)) in
    let x = ap (λ (n : ℕ). hit (source_at e n) (entry_kind_at e n) (target_at e n) a k t) q in
    let y = ap (λ (n : ℕ). hit (source_at g n) (entry_kind_at g n) (target_at g n) a k t) q in
    omega (arith, low, x, y, bond_hit e a k t m, bond_hit g a k t m))
    (λ n. let w = h m n in
    let ih = count_but e g a k t p m (omega (arith, n)) h in
    omega (arith, ih, bond_hit e a k t m, bond_hit g a k t m, hit_is a k t w.source w.kind w.target))

pub least_same : (e g : List ℕ) (m : ℕ) → ((i : ℕ) → i < m → target_at g i ≡ target_at e i) → least_open g m ≡ least_open e m
unfolding least_open
least_same e g zero h = refl
least_same e g (suc m) h = rw (h m (omega arith), least_same e g m (λ i l. h i (omega arith))) refl

-- ---- what entries keep to: n atoms, j joins, m entries
pub record Plain (n j : ℕ) (e : List ℕ) (m : ℕ) : Type 0 where
  pub source : (i : ℕ) → i < m → source_at e i < n
  pub kind : (i : ℕ) → i < m → (k : BondKind) × (entry_kind_at e i ≡ code_of k)
  pub target : (i : ℕ) → i < m → target_at e i < unclosed → target_at e i < n
  pub waits : (i : ℕ) → i < m → unclosed ≤ target_at e i → target_at e i < unclosed + j
  pub later : (i : ℕ) → i < m → unclosed ≤ target_at e i → least_open e i ≤ target_at e i

pub record Pairs (e : List ℕ) (m : ℕ) : Type 0 where
  pub ends : (a t : ℕ) (k : BondKind) → a < unclosed → t < unclosed → bonds_counted e a (code_of k) t m ≡ bonds_counted e t (code_of (reverse_of k)) a m
  pub even : (a : ℕ) (k : BondKind) → a < unclosed → reverse_of k ≡ k → bonds_counted e a (code_of k) a m % 2 ≡ 0

-- all open targets are below the next
pub least_below : (n j : ℕ) (e : List ℕ) (m i : ℕ) → Plain n j e m → i ≤ m → least_open e i ≤ unclosed + j
unfolding least_open
least_below n j e m zero h l = omega arith
least_below n j e m (suc i) h l = go (leb unclosed (target_at e i)) refl (least_below n j e m i h (omega arith)) where
  go : (q : Bool) → leb unclosed (target_at e i) ≡ q → least_open e i ≤ unclosed + j → pick q (target_at e i + 1) (least_open e i) ≤ unclosed + j
  go true is ih = omega (arith, h.waits i (omega arith) (leb-true _ _ is))
  go false is ih = ih

-- an open target is below all that come after it, so no two open entries wait for one join
least_after : (e : List ℕ) (i k : ℕ) → unclosed ≤ target_at e i → i < k → ((x : ℕ) → x < k → unclosed ≤ target_at e x → least_open e x ≤ target_at e x) → target_at e i < least_open e k
unfolding least_open
least_after e i zero u l rise = absurd (omega arith)
least_after e i (suc k) u l rise =
    by_eq k i
    (λ q. subst (λ (x : ℕ). target_at e i < pick (leb unclosed (target_at e x)) (target_at e x + 1) (least_open e x)) (sym q) (rw (le-leb unclosed (target_at e i) u) (omega arith)))
    (λ q. go (leb unclosed (target_at e k)) refl (least_after e i k u (omega (arith, l, q)) (λ x b. rise x (omega arith))))
  where
    go : (q : Bool) → leb unclosed (target_at e k) ≡ q → target_at e i < least_open e k → target_at e i < pick q (target_at e k + 1) (least_open e k)
    go true is ih = omega (arith, ih, rise k (omega arith) (leb-true _ _ is))
    go false is ih = ih

pub joins_differ : (n j : ℕ) (e : List ℕ) (m i k : ℕ) → Plain n j e m → i < k → k < m → unclosed ≤ target_at e i → unclosed ≤ target_at e k → target_at e i < target_at e k
joins_differ n j e m i k h l b u v =
    omega (arith, least_after e i k u l (λ x y. h.later x (omega arith)), h.later k b v)

-- more atoms, more joins
pub plain_more : (n j n' j' : ℕ) (e : List ℕ) (m : ℕ) → n ≤ n' → j ≤ j' → Plain n j e m → Plain n' j' e m
plain_more n j n' j' e m hn hj h =
    record {
      source = λ i l. omega (arith, h.source i l);
      kind = h.kind;
      target = λ i l u. omega (arith, h.target i l u);
      waits = λ i l u. omega (arith, h.waits i l u);
      later = h.later;
    }

-- ---- one entry more
abbrev pub push : List ℕ → ℕ → ℕ → ℕ → ℕ → List ℕ
push e m s c x = sets e (m * entry_words) (entry_list s c x)

module _ (e : List ℕ) (m s c x : ℕ) (room : (m + 1) * entry_words ≤ length e) where
  push_source : source_at (push e m s c x) m ≡ s
  push_source = sets_first e (entry_list s c x) (m * entry_words) (omega arith) (lit< tt)

  push_kind : entry_kind_at (push e m s c x) m ≡ c
  push_kind = sets_in e (entry_list s c x) (m * entry_words) 1 (omega arith) (lit< tt)

  pub push_target : target_at (push e m s c x) m ≡ x
  push_target = sets_in e (entry_list s c x) (m * entry_words) 2 (omega arith) (lit< tt)

  pub push_before : (i : ℕ) → i < m → Agree e (push e m s c x) i
  push_before i l =
      record {
        source = sets_beside e (entry_list s c x) (m * entry_words) (i * entry_words) (inl (omega arith));
        kind = sets_beside e (entry_list s c x) (m * entry_words) (i * entry_words + 1) (inl (omega arith));
        target = sets_beside e (entry_list s c x) (m * entry_words) (i * entry_words + 2) (inl (omega arith));
      }

  pub push_count : (a k t : ℕ) → bonds_counted (push e m s c x) a k t (m + 1) ≡ bonds_counted e a k t m + hit s c x a k t
  push_count a k t =
      omega (arith, count_more (push e m s c x) a k t m, count_same e (push e m s c x) a k t m push_before, hit_is a k t push_source push_kind push_target)

  pub push_plain : (n j : ℕ) (k : BondKind) → Plain n j e m → s < n → c ≡ code_of k → (x < unclosed → x < n) → (unclosed ≤ x → (x < unclosed + j) × (least_open e m ≤ x)) → Plain n j (push e m s c x) (m + 1)
  push_plain n j k h hs hc near far =
      record {
        source = λ i l. by_eq i m (λ q. rw q (omega (arith, hs, push_source))) (λ q. let r : i < m = omega (arith, q, l) in omega (arith, (push_before i r).source, h.source i r));
        kind = λ i l. by_eq i m (λ q. rw q (k, push_kind ∙ hc)) (λ q. let r : i < m = omega (arith, q, l) in ((h.kind i r).0, (push_before i r).kind ∙ (h.kind i r).1));
        target = λ i l u. by_eq i m
            (λ q. let v : target_at (push e m s c x) i ≡ x = rw q push_target in omega (arith, v, near (omega (arith, v, u))))
            (λ q. let r : i < m = omega (arith, q, l) in let w = (push_before i r).target in omega (arith, w, h.target i r (omega (arith, w, u))));
        waits = λ i l u. by_eq i m
            (λ q. let v : target_at (push e m s c x) i ≡ x = rw q push_target in omega (arith, v, (far (omega (arith, v, u))).0))
            (λ q. let r : i < m = omega (arith, q, l) in let w = (push_before i r).target in omega (arith, w, h.waits i r (omega (arith, w, u))));
        later = λ i l u. by_eq i m
            (λ q. let v : target_at (push e m s c x) i ≡ x = rw q push_target in
            let w : least_open (push e m s c x) i ≡ least_open e m = rw q (least_same e (push e m s c x) m (λ y r. (push_before y r).target)) in
            omega (arith, v, w, (far (omega (arith, v, u))).1))
            (λ q. let r : i < m = omega (arith, q, l) in let w = (push_before i r).target in
            let z = least_same e (push e m s c x) i (λ y b. (push_before y (omega (arith, b, r))).target) in
            omega (arith, w, z, h.later i r (omega (arith, w, u))));
      }

-- ---- an open entry filled
abbrev pub fill : List ℕ → ℕ → ℕ → ℕ → List ℕ
fill e p c x = sets e (p * entry_words + 1) (c ∷ x ∷ [])

module _ (e : List ℕ) (p c x : ℕ) (room : (p + 1) * entry_words ≤ length e) where
  fill_source : source_at (fill e p c x) p ≡ source_at e p
  fill_source = sets_beside e (c ∷ x ∷ []) (p * entry_words + 1) (p * entry_words) (inl (omega arith))

  fill_kind : entry_kind_at (fill e p c x) p ≡ c
  fill_kind = sets_first e (c ∷ x ∷ []) (p * entry_words + 1) (omega arith) (lit< tt)

  fill_target : target_at (fill e p c x) p ≡ x
  fill_target =
      ap (λ (i : ℕ). get_or (fill e p c x) i 0) {x = p * entry_words + 2} {y = p * entry_words + 1 + 1} (omega arith)
      ∙ sets_in e (c ∷ x ∷ []) (p * entry_words + 1) 1 (omega arith) (lit< tt)

  beside : (i d : ℕ) → i ≢ p → d < entry_words → get_or (fill e p c x) (i * entry_words + d) 0 ≡ get_or e (i * entry_words + d) 0
  beside i d n h = go (ltb i p) refl where
    go : (q : Bool) → ltb i p ≡ q → get_or (fill e p c x) (i * entry_words + d) 0 ≡ get_or e (i * entry_words + d) 0
    go true is = let z = ltb-true i p is in sets_beside e (c ∷ x ∷ []) (p * entry_words + 1) (i * entry_words + d) (inl (omega arith))
    go false is = let z = ltb-false i p is in sets_beside e (c ∷ x ∷ []) (p * entry_words + 1) (i * entry_words + d) (inr (omega (arith, n)))

  pub fill_beside : (i : ℕ) → i ≢ p → Agree e (fill e p c x) i
  fill_beside i n =
      record {
        source = ap (λ (y : ℕ). get_or (fill e p c x) y 0) {x = i * entry_words} {y = i * entry_words + 0} (omega arith) ∙ beside i 0 n (lit< tt) ∙ ap (λ (y : ℕ). get_or e y 0) {x = i * entry_words + 0} {y = i * entry_words} (omega arith);
        kind = beside i 1 n (lit< tt);
        target = beside i 2 n (lit< tt);
      }

  module _ (m : ℕ) (within : p < m) (was : unclosed ≤ target_at e p) (low : x < unclosed) where
    pub fill_count : (a k t : ℕ) → t < unclosed → bonds_counted (fill e p c x) a k t m ≡ bonds_counted e a k t m + hit (source_at e p) c x a k t
    fill_count a k t h =
        omega (arith, count_but e (fill e p c x) a k t p m within fill_beside, hit_open (source_at e p) (entry_kind_at e p) (target_at e p) a k t was h, hit_is a k t fill_source fill_kind fill_target)

    -- what is open after it is no less late
    least_less : (n j : ℕ) → Plain n j e m → (i : ℕ) → i ≤ m → least_open (fill e p c x) i ≤ least_open e i
    unfolding least_open
    least_less n j h zero l = omega arith
    least_less n j h (suc i) l =
        by_eq i p
        (λ q. let ih = least_less n j h i (omega arith) in
        let v : target_at (fill e p c x) i ≡ x = rw q fill_target in
        let u : unclosed ≤ target_at e i = rw q was in
        rw (lt-leb unclosed (target_at (fill e p c x) i) (omega (arith, v, low)), le-leb unclosed (target_at e i) u) (omega (arith, ih, h.later i (omega arith) u)))
        (λ q. let ih = least_less n j h i (omega arith) in
        let w = (fill_beside i q).target in
        rw w (go (leb unclosed (target_at e i)) (target_at e i + 1) _ _ ih))
      where
        go : (q : Bool) (z y r : ℕ) → y ≤ r → pick q z y ≤ pick q z r
        go true z y r h = omega arith
        go false z y r h = h

    pub fill_plain : (n j : ℕ) (k : BondKind) → Plain n j e m → c ≡ code_of k → x < n → Plain n j (fill e p c x) m
    fill_plain n j k h hc hx =
        record {
          source = λ i l. by_eq i p (λ q. rw q (omega (arith, fill_source, h.source p within))) (λ q. omega (arith, (fill_beside i q).source, h.source i l));
          kind = λ i l. by_eq i p (λ q. rw q (k, fill_kind ∙ hc)) (λ q. ((h.kind i l).0, (fill_beside i q).kind ∙ (h.kind i l).1));
          target = λ i l u. by_eq i p
              (λ q. let v : target_at (fill e p c x) i ≡ x = rw q fill_target in omega (arith, v, hx))
              (λ q. let w = (fill_beside i q).target in omega (arith, w, h.target i l (omega (arith, w, u))));
          waits = λ i l u. by_eq i p
              (λ q. let v : target_at (fill e p c x) i ≡ x = rw q fill_target in absurd (omega (arith, v, u, low)))
              (λ q. let w = (fill_beside i q).target in omega (arith, w, h.waits i l (omega (arith, w, u))));
          later = λ i l u. by_eq i p
              (λ q. let v : target_at (fill e p c x) i ≡ x = rw q fill_target in absurd (omega (arith, v, u, low)))
              (λ q. let w = (fill_beside i q).target in omega (arith, w, least_less n j h i (omega arith), h.later i l (omega (arith, w, u))));
        }

-- ---- pairs
-- a bond's two entries
pub pairs_two : (e g : List ℕ) (m w s x : ℕ) (c d : BondKind) → d ≡ reverse_of c → ((a t : ℕ) (k : BondKind) → t < unclosed → bonds_counted g a (code_of k) t w ≡ bonds_counted e a (code_of k) t m + hit s (code_of c) x a (code_of k) t + hit x (code_of d) s a (code_of k) t) → Pairs e m → Pairs g w
pairs_two e g m w s x c d back more h =
    record {
      ends = λ a t k ha ht.
          omega (arith, h.ends a t k ha ht, more a t k ht, more t a (reverse_of k) ha, one a t k, two a t k);
      even = λ a k ha own.
          let o : hit s (code_of c) x a (code_of k) a ≡ hit x (code_of d) s a (code_of k) a = one a a k ∙ ap (λ (y : BondKind). hit x (code_of d) s a (code_of y) a) own in
          omega (arith, h.even a k ha own, more a a k ha, o);
    }
  where
    one : (a t : ℕ) (k : BondKind) → hit s (code_of c) x a (code_of k) t ≡ hit x (code_of d) s t (code_of (reverse_of k)) a
    one a t k = hit_back s c x a k t ∙ ap (λ (y : BondKind). hit x (code_of y) s t (code_of (reverse_of k)) a) (sym back)

    two : (a t : ℕ) (k : BondKind) → hit x (code_of d) s a (code_of k) t ≡ hit s (code_of c) x t (code_of (reverse_of k)) a
    two a t k = hit_back x d s a k t ∙ ap (λ (y : BondKind). hit s (code_of y) x t (code_of (reverse_of k)) a) (ap reverse_of back ∙ reverse_twice c)

-- an open one
pub pairs_open : (e g : List ℕ) (m w s c x : ℕ) → unclosed ≤ x → ((a k t : ℕ) → bonds_counted g a k t w ≡ bonds_counted e a k t m + hit s c x a k t) → Pairs e m → Pairs g w
pairs_open e g m w s c x h more p =
    record {
      ends = λ a t k ha ht. omega (arith, p.ends a t k ha ht, more a (code_of k) t, more t (code_of (reverse_of k)) a, hit_open s c x a (code_of k) t h ht, hit_open s c x t (code_of (reverse_of k)) a h ha);
      even = λ a k ha own. omega (arith, p.even a k ha own, more a (code_of k) a, hit_open s c x a (code_of k) a h ha);
    }
