-- The entries of an atom in their new order: which places they have, that no two lead to one atom, and how many there are.
use mathlib.Core.Path.{◌≡◌, refl, sym, ap, ◌∙◌, subst}
use mathlib.Core.Logic.{◌≢◌}
use mathlib.Core.List.{List, [], ◌∷◌, ◌++◌, append_assoc, append-nil}
use mathlib.Core.Bool.{true, false}
use Prim.Native.Nat.{ℕ, zero, suc, ◌-◌, ◌≤◌, ◌<◌}
use native.Mathlib.Omega.{arith}
use lib.ListN.{length, length-append}
use lib.Dec.{leb}
use borrow.Author.Tests.{eq-eqb, ne_eqb, leb-true, leb-false}
use Rattle.feature.specs.Bonds.{reverse_of}
use Rattle.feature.proofs.Cases.{by_eq, clash}
use Rattle.walk_entry.specs.Graph.{BondEntry, Graph, degree_at, bond_of}
use Rattle.trip_graph.specs.Renumber.{Backed, Simple}
use Rattle.trip_graph.specs.Renumbered.{others_of, parent_entry, done_of}
use Rattle.trip_graph.proofs.Lists.{same_refl, by_bool, or_true, or_true_left}
use Rattle.trip_graph.proofs.View.{has_t, kind_t, NodupB, bnil, bcons}
use Rattle.trip_graph.proofs.Opens.{has_t_app}

-- ---- lists of entries
pub data All (Q : BondEntry → Type 0) : List BondEntry → Type 0 where
  anil : All Q []
  acons : {e : BondEntry} {l : List BondEntry} → Q e → All Q l → All Q (e ∷ l)

all_app : {Q : BondEntry → Type 0} {l m : List BondEntry} → All Q l → All Q m → All Q (l ++ m)
all_app anil b = b
all_app (acons q a) b = acons q (all_app a b)

all_map : {Q R : BondEntry → Type 0} {l : List BondEntry} → ((e : BondEntry) → Q e → R e) → All Q l → All R l
all_map f anil = anil
all_map f (acons {e} q a) = acons (f e q) (all_map f a)

-- the first entry towards an atom
pub record First (Q : BondEntry → Type 0) (x : ℕ) (l : List BondEntry) : Type 0 where
  pub entry : BondEntry
  pub fact : Q entry
  pub leads : entry.to ≡ x
  pub kind : kind_t x l ≡ entry.kind

pub first : {Q : BondEntry → Type 0} (x : ℕ) (l : List BondEntry) → All Q l → has_t x l ≡ true → First Q x l
unfolding has_t kind_t
first x [] anil h = clash h refl
first {Q = Q} x (e ∷ l) (acons q a) h =
    by_eq x e.to
    (λ p. record { entry = e; fact = q; leads = sym p; kind = rw (eq-eqb _ _ p) })
    (λ p. let f = first {Q = Q} x l a (rw (ne_eqb x e.to p) at h) in
    record { entry = f.entry; fact = f.fact; leads = f.leads; kind = rw (ne_eqb x e.to p) f.kind })

nodup_snoc : (l : List BondEntry) (e : BondEntry) → NodupB l → has_t e.to l ≡ false → NodupB (l ++ (e ∷ []))
unfolding has_t
nodup_snoc [] e bnil h = bcons refl bnil
nodup_snoc (x ∷ l) e (bcons k n) h =
    by_eq e.to x.to
    (λ q. clash (or_true_left _ (eq-eqb _ _ q)) h)
    (λ q. bcons (has_t_app x.to l (e ∷ []) ∙ rw (k, ne_eqb x.to e.to (λ z. q (sym z)))) (nodup_snoc l e n (rw (ne_eqb e.to x.to q) at h)))

has_last : (l : List BondEntry) (e : BondEntry) → has_t e.to (l ++ (e ∷ [])) ≡ true
unfolding has_t
has_last l e = has_t_app e.to l (e ∷ []) ∙ or_true (has_t e.to l) (or_true_left false (same_refl e.to))

has_left : (x : ℕ) (l m : List BondEntry) → has_t x l ≡ true → has_t x (l ++ m) ≡ true
has_left x l m h = has_t_app x l m ∙ or_true_left _ h

has_right : (x : ℕ) (l m : List BondEntry) → has_t x m ≡ true → has_t x (l ++ m) ≡ true
has_right x l m h = has_t_app x l m ∙ or_true (has_t x l) h

-- ---- one entry more
module _ (g : Graph) (v b : ℕ) where
  others_step : (n : ℕ) → b ≢ suc n → others_of g v b (suc n) ≡ others_of g v b n ++ (bond_of g v n ∷ [])
  unfolding others_of
  others_step n h = rw (ne_eqb b (suc n) h)

  others_pass : (n : ℕ) → b ≡ suc n → others_of g v b (suc n) ≡ others_of g v b n
  unfolding others_of
  others_pass n h = rw (eq-eqb b (suc n) h) (append-nil (others_of g v b n))

  pub done_step : (n : ℕ) → b ≢ suc n → done_of g v b (suc n) ≡ done_of g v b n ++ (bond_of g v n ∷ [])
  unfolding done_of
  done_step n h = rw (others_step n h) (sym (append_assoc (parent_entry g v b) (others_of g v b n) (bond_of g v n ∷ [])))

  pub done_pass : (n : ℕ) → b ≡ suc n → done_of g v b (suc n) ≡ done_of g v b n
  unfolding done_of
  done_pass n h = ap (λ (l : List BondEntry). parent_entry g v b ++ l) (others_pass n h)

  parent_root : b ≡ 0 → parent_entry g v b ≡ []
  unfolding parent_entry
  parent_root h = rw (eq-eqb b 0 h)

  parent_some : b ≢ 0 → parent_entry g v b ≡ bond_of g v (b - 1) ∷ []
  unfolding parent_entry
  parent_some h = rw (ne_eqb b 0 h)

  -- ---- where they are
  pub record Behind (n : ℕ) (e : BondEntry) : Type 0 where
    pub place : ℕ
    pub is : e ≡ bond_of g v place
    pub within : place < degree_at g v
    pub off : b ≢ suc n → place ≢ n

  record Other (n : ℕ) (e : BondEntry) : Type 0 where
    place : ℕ
    is : e ≡ bond_of g v place
    before : place < n

  others_all : (n : ℕ) → All (Other n) (others_of g v b n)
  unfolding others_of
  others_all zero = anil
  others_all (suc n) =
      let old : All (Other (suc n)) (others_of g v b n) =
      all_map {Q = Other n} {R = Other (suc n)} (λ e o. record { place = o.place; is = o.is; before = omega (arith, o.before) }) (others_all n) in
      by_eq b (suc n) (λ q. rw (eq-eqb b (suc n) q, append-nil) old)
      (λ q. rw (ne_eqb b (suc n) q) (all_app old (acons (record { place = n; is = refl; before = omega arith }) anil)))

  pub done_all : (n : ℕ) → n ≤ degree_at g v → b ≤ degree_at g v → All (Behind n) (done_of g v b n)
  unfolding done_of
  done_all n hn hb =
      let rest : All (Behind n) (others_of g v b n) =
      all_map {Q = Other n} {R = Behind n}
      (λ e o. let l : o.place < n = o.before in record { place = o.place; is = o.is; within = omega arith; off = λ q z. omega arith }) (others_all n) in
      by_eq b 0 (λ q. rw (parent_root q) rest)
      (λ q. rw (parent_some q) (acons (record { place = b - 1; is = refl; within = omega arith; off = λ p z. p (omega arith) }) rest))

  -- ---- which are there
  others_has : (n j : ℕ) → j < n → b ≢ suc j → has_t (bond_of g v j).to (others_of g v b n) ≡ true
  others_has zero j h q = absurd (omega arith)
  others_has (suc n) j h q =
      by_eq j n (λ e. rw (e, others_step n (λ z. q (z ∙ ap suc (sym e)))) (has_last (others_of g v b n) (bond_of g v n)))
      (λ ne. let old : has_t (bond_of g v j).to (others_of g v b n) ≡ true = others_has n j (omega arith) q in
      by_eq b (suc n) (λ z. rw (others_pass n z) old) (λ z. rw (others_step n z) (has_left (bond_of g v j).to (others_of g v b n) (bond_of g v n ∷ []) old)))

  pub done_has : (n j : ℕ) → j < n → has_t (bond_of g v j).to (done_of g v b n) ≡ true
  unfolding done_of has_t
  done_has n j h =
      by_eq b (suc j)
      (λ q. let e : b - 1 ≡ j = omega arith in
      has_left (bond_of g v j).to (parent_entry g v b) (others_of g v b n)
      (rw (parent_some (λ z. omega arith), e, same_refl)))
      (λ q. has_right (bond_of g v j).to (parent_entry g v b) (others_of g v b n) (others_has n j h q))

  -- ---- how many there are
  others_length : (n : ℕ) → length (others_of g v b n) ≤ n
  unfolding others_of
  others_length zero = omega arith
  others_length (suc n) =
      by_eq b (suc n) (λ q. rw (eq-eqb b (suc n) q, append-nil) (omega (arith, others_length n)))
      (λ q. rw (ne_eqb b (suc n) q, length-append) (omega (arith, others_length n)))

  others_less : (n : ℕ) → 1 ≤ b → b ≤ n → length (others_of g v b n) < n
  unfolding others_of
  others_less zero l h = absurd (omega arith)
  others_less (suc n) l h =
      by_eq b (suc n) (λ q. rw (eq-eqb b (suc n) q, append-nil) (omega (arith, others_length n)))
      (λ q. rw (ne_eqb b (suc n) q, length-append) (omega (arith, others_less n l (omega arith))))

  pub done_length : (n : ℕ) → n ≤ degree_at g v → b ≤ degree_at g v → length (done_of g v b n) ≤ degree_at g v
  unfolding done_of
  done_length n hn hb =
      by_eq b 0 (λ q. rw (parent_root q) (omega (arith, others_length n)))
      (λ q. rw (parent_some q) (by_bool (leb b n)
      (λ z. omega (arith, others_less n (omega arith) (leb-true b n z)))
      (λ z. omega (arith, others_length n, leb-false b n z))))

  -- all but the parent's, where it is among them
  others_out : (n : ℕ) → ((j : ℕ) → j < n → b ≢ suc j) → length (others_of g v b n) ≡ n
  unfolding others_of
  others_out zero h = refl
  others_out (suc n) h = rw (ne_eqb b (suc n) (h n (omega arith)), length-append) (omega (arith, others_out n (λ j l. h j (omega arith))))

  others_in : (n : ℕ) → 1 ≤ b → b ≤ n → suc (length (others_of g v b n)) ≡ n
  unfolding others_of
  others_in zero l h = absurd (omega arith)
  others_in (suc n) l h =
      by_eq b (suc n) (λ q. rw (eq-eqb b (suc n) q, append-nil) (ap suc (others_out n (λ j k z. omega arith))))
      (λ q. rw (ne_eqb b (suc n) q, length-append) (omega (arith, others_in n l (omega arith))))

  -- an atom has as many entries as before
  pub entries_length : b ≤ degree_at g v → length (done_of g v b (degree_at g v)) ≡ degree_at g v
  unfolding done_of
  entries_length hb =
      by_eq b 0 (λ q. rw (parent_root q) (others_out (degree_at g v) (λ j l z. omega arith)))
      (λ q. rw (parent_some q) (others_in (degree_at g v) (omega arith) hb))

-- nothing yet
pub done_nothing : (g : Graph) (v : ℕ) → done_of g v 0 0 ≡ []
unfolding done_of others_of
done_nothing g v = rw (parent_root g v 0 refl)

-- a new atom has its parent's entry
pub done_parent : (g : Graph) (v b : ℕ) → b ≢ 0 → done_of g v b 0 ≡ bond_of g v (b - 1) ∷ []
unfolding done_of others_of
done_parent g v b h = rw (parent_some g v b h)

-- ---- in a simple graph
module _ (g : Graph) (S : Simple g) (v b : ℕ) (small : v < g.size) (hb : b ≤ degree_at g v) where
  -- the entry at hand leads to an atom that none before it leads to
  pub done_fresh : (n : ℕ) → n < degree_at g v → b ≢ suc n → has_t (bond_of g v n).to (done_of g v b n) ≡ false
  done_fresh n h q =
      by_bool (has_t (bond_of g v n).to (done_of g v b n))
      (λ z. let f = first {Q = Behind g v b n} (bond_of g v n).to (done_of g v b n) (done_all g v b n (omega arith) hb) z in
      let e : (bond_of g v f.fact.place).to ≡ (bond_of g v n).to = ap (λ (x : BondEntry). x.to) (sym f.fact.is) ∙ f.leads in
      absurd (f.fact.off q (S.once v f.fact.place n small f.fact.within h e)))
      (λ z. z)

  pub done_nodup : (n : ℕ) → n ≤ degree_at g v → NodupB (done_of g v b n)
  unfolding done_of others_of has_t
  done_nodup zero h =
      by_eq b 0 (λ q. rw (parent_root g v b q) bnil) (λ q. rw (parent_some g v b q) (bcons refl bnil))
  done_nodup (suc n) h =
      by_eq b (suc n) (λ q. rw (done_pass g v b n q) (done_nodup n (omega arith)))
      (λ q. rw (done_step g v b n q) (nodup_snoc (done_of g v b n) (bond_of g v n) (done_nodup n (omega arith)) (done_fresh n h q)))

-- the entry of t towards s has the reverse of the kind of the entry of s towards t
pub reverse_kind : (g : Graph) → Simple g → (s i t b n : ℕ) → s < g.size → i < degree_at g s → (bond_of g s i).to ≡ t → t < g.size → n ≤ degree_at g t → b ≤ degree_at g t
    → has_t s (done_of g t b n) ≡ true → kind_t s (done_of g t b n) ≡ reverse_of (bond_of g s i).kind
reverse_kind g S s i t b n hs hi e ht hn hb h =
    let k : Backed g s t (bond_of g s i) = subst (λ (x : ℕ). Backed g s x (bond_of g s i)) e (S.backed s i hs hi) in
    let f = first {Q = Behind g t b n} s (done_of g t b n) (done_all g t b n hn hb) h in
    let p : f.fact.place ≡ k.place = S.once t f.fact.place k.place ht f.fact.within k.within (ap (λ (x : BondEntry). x.to) (sym f.fact.is) ∙ f.leads ∙ sym k.leads) in
    f.kind ∙ ap (λ (x : BondEntry). x.kind) f.fact.is ∙ ap (λ (j : ℕ). (bond_of g t j).kind) p ∙ k.reversed
