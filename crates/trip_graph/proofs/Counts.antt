-- How many entries the builder holds: no more than the graph has.
use mathlib.Core.Path.{◌≡◌, refl, sym, ap, ap₂, ◌∙◌}
use mathlib.Core.Logic.{◌≢◌}
use mathlib.Core.List.{List, [], ◌∷◌, map}
use mathlib.Core.Bool.{true, false}
use Prim.Native.Nat.{ℕ, zero, suc, ◌+◌, ◌≤◌, ◌<◌}
use native.Mathlib.Omega.{arith}
use lib.ListN.{length, length-map}
use lib.Dec.{eqb}
use borrow.Author.Tests.{eq-eqb, ne_eqb}
use Rattle.feature.specs.Pick.{pick}
use Rattle.feature.specs.declared.atom_kind.AtomKind.{AtomKind}
use Rattle.feature.proofs.Cases.{by_eq, clash}
use Rattle.walk_entry.specs.Graph.{BondEntry, Graph, degree_at}
use Rattle.walk_laws.specs.Trek.{degrees}
use Rattle.builder_meaning.specs.Sketch.{count_of}
use Rattle.trip_graph.specs.Opened.{Pair}
use Rattle.trip_graph.proofs.Lists.{memb, Nodup, nil, cons, or_true_left, memb_here, memb_there}
use Rattle.trip_graph.proofs.View.{view}

-- ---- sums over a list with no atom twice
sum_over : (ℕ → ℕ) → List ℕ → ℕ
sum_over f [] = 0
sum_over f (x ∷ l) = f x + sum_over f l

-- the term of n left out
zap : (ℕ → ℕ) → ℕ → ℕ → ℕ
zap f n v = pick (eqb v n) 0 (f v)

zap_here : (f : ℕ → ℕ) (n v : ℕ) → v ≡ n → zap f n v ≡ 0
unfolding zap
zap_here f n v e = rw (eq-eqb v n e)

zap_other : (f : ℕ → ℕ) (n v : ℕ) → v ≢ n → zap f n v ≡ f v
unfolding zap
zap_other f n v e = rw (ne_eqb v n e)

zap_none : (f : ℕ → ℕ) (n : ℕ) (l : List ℕ) → memb n l ≡ false → sum_over (zap f n) l ≡ sum_over f l
unfolding sum_over memb
zap_none f n [] h = refl
zap_none f n (x ∷ l) h =
    by_eq n x (λ e. clash (or_true_left _ (eq-eqb _ _ e)) h)
    (λ e. ap₂ (λ (a b : ℕ). a + b) (zap_other f n x (λ z. e (sym z))) (zap_none f n l (rw (ne_eqb n x e) at h)))

zap_most : (f : ℕ → ℕ) (n : ℕ) {l : List ℕ} → Nodup l → sum_over f l ≤ sum_over (zap f n) l + f n
unfolding sum_over
zap_most f n nil = omega arith
zap_most f n (cons {x} {l} k d) =
    by_eq x n
    (λ e. let a : f x ≡ f n = ap f e in omega (arith, zap_here f n x e, zap_none f n l (rw e at k)))
    (λ e. omega (arith, zap_other f n x e, zap_most f n d))

sum_zero : (f : ℕ → ℕ) (l : List ℕ) → ((v : ℕ) → memb v l ≡ true → f v ≡ 0) → sum_over f l ≡ 0
unfolding sum_over
sum_zero f [] h = refl
sum_zero f (x ∷ l) h = omega (arith, h x (memb_here l refl), sum_zero f l (λ v m. h v (memb_there v x l m)))

sum_most : (g : Graph) (n : ℕ) (f : ℕ → ℕ) (l : List ℕ) → Nodup l → ((v : ℕ) → memb v l ≡ true → n ≤ v → f v ≡ 0) → ((v : ℕ) → f v ≤ degree_at g v) → sum_over f l ≤ degrees g n
unfolding degrees
sum_most g zero f l d z h = omega (arith, sum_zero f l (λ v m. z v m (omega arith)))
sum_most g (suc n) f l d z h =
    omega (
      arith,
      zap_most f n d,
      h n,
      sum_most g n (zap f n) l d
          (λ v m q. by_eq v n (λ e. zap_here f n v e) (λ e. zap_other f n v e ∙ z v m (omega arith)))
          (λ v. by_eq v n (λ e. rw (zap_here f n v e) (omega arith)) (λ e. rw (zap_other f n v e) (h v))),
    )

-- ---- the count of a view
count_view : (κ : ℕ → AtomKind) (o : List ℕ) (P : List Pair) (d : ℕ → List BondEntry) (l : List ℕ) → count_of (map (view κ o P d) l) ≡ sum_over (λ v. length (d v)) l
unfolding count_of sum_over view
count_view κ o P d [] = refl
count_view κ o P d (x ∷ l) = ap₂ (λ (a b : ℕ). a + b) (length-map (d x) _) (count_view κ o P d l)

pub view_count : (g : Graph) (κ : ℕ → AtomKind) (o : List ℕ) (P : List Pair) (d : ℕ → List BondEntry) → Nodup o → ((v : ℕ) → memb v o ≡ true → v < g.size)
    → ((v : ℕ) → length (d v) ≤ degree_at g v) → count_of (map (view κ o P d) o) ≤ degrees g g.size
view_count g κ o P d n s h =
    rw (count_view κ o P d o) (sum_most g g.size (λ v. length (d v)) o n (λ v m q. absurd (omega (arith, s v m))) h)

-- ---- and where every atom was met, and has all its entries, as many as the graph has
zap_below : (f : ℕ → ℕ) (n : ℕ) (l : List ℕ) → sum_over (zap f n) l ≤ sum_over f l
unfolding sum_over
zap_below f n [] = omega arith
zap_below f n (x ∷ l) =
    by_eq x n (λ e. omega (arith, zap_here f n x e, zap_below f n l)) (λ e. omega (arith, zap_other f n x e, zap_below f n l))

zap_least : (f : ℕ → ℕ) (n : ℕ) (l : List ℕ) → memb n l ≡ true → sum_over (zap f n) l + f n ≤ sum_over f l
unfolding sum_over memb
zap_least f n [] h = clash h refl
zap_least f n (x ∷ l) h =
    by_eq n x
    (λ e. let a : f n ≡ f x = ap f e in omega (arith, zap_here f n x (sym e), zap_below f n l))
    (λ e. omega (arith, zap_other f n x (λ z. e (sym z)), zap_least f n l (rw (ne_eqb n x e) at h)))

sum_least : (g : Graph) (n : ℕ) (f : ℕ → ℕ) (l : List ℕ) → ((v : ℕ) → v < n → memb v l ≡ true) → ((v : ℕ) → v < n → f v ≡ degree_at g v) → degrees g n ≤ sum_over f l
unfolding degrees
sum_least g zero f l m h = omega arith
sum_least g (suc n) f l m h =
    omega (
      arith,
      zap_least f n l (m n (omega arith)),
      h n (omega arith),
      sum_least g n (zap f n) l (λ v q. m v (omega arith))
          (λ v q. zap_other f n v (λ z. omega arith) ∙ h v (omega arith)),
    )

pub view_count_all : (g : Graph) (κ : ℕ → AtomKind) (o : List ℕ) (P : List Pair) (d : ℕ → List BondEntry) → Nodup o → ((v : ℕ) → memb v o ≡ true → v < g.size)
    → ((v : ℕ) → v < g.size → memb v o ≡ true) → ((v : ℕ) → length (d v) ≤ degree_at g v) → ((v : ℕ) → v < g.size → length (d v) ≡ degree_at g v)
    → count_of (map (view κ o P d) o) ≡ degrees g g.size
view_count_all g κ o P d n s m h e =
    omega (arith, view_count g κ o P d n s h, count_view κ o P d o, sum_least g g.size (λ v. length (d v)) o m e)
