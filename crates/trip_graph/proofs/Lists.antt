-- Lists of numbers: membership and first index by a Boolean test, no element twice, update in place.
use borrow.Author.Tests.{ne_eqb, eq-eqb}
use mathlib.Core.Path.{◌≡◌, refl, sym, ap, ap₂, ◌∙◌}
use mathlib.Core.Logic.{◌≢◌}
use mathlib.Core.List.{List, [], ◌∷◌, ◌++◌, map}
use mathlib.Core.Bool.{Bool, true, false, ◌&&◌, ◌||◌, or-false, or_assoc}
use Prim.Native.Nat.{ℕ, zero, suc, ◌<◌}
use native.Mathlib.Omega.{arith}
use lib.Dec.{eqb}
use lib.ListN.{length}
use Rattle.feature.specs.Pick.{pick}
use Rattle.feature.proofs.Cases.{by_eq, clash}
use Rattle.builder_meaning.specs.Sketch.{Node, upd}

pub same_refl : (a : ℕ) → eqb a a ≡ true
same_refl a = eq-eqb a a refl

-- ---- membership, index, no element twice
unfoldable pub memb : ℕ → List ℕ → Bool
memb v [] = false
memb v (x ∷ l) = eqb v x || memb v l

unfoldable pub idx : ℕ → List ℕ → ℕ
idx v [] = zero
idx v (x ∷ l) = pick (eqb v x) zero (suc (idx v l))

pub data Nodup : List ℕ → Type 0 where
  nil : Nodup []
  cons : {x : ℕ} {l : List ℕ} → memb x l ≡ false → Nodup l → Nodup (x ∷ l)

pub idx_app : (v : ℕ) (l m : List ℕ) → memb v l ≡ true → idx v (l ++ m) ≡ idx v l
unfolding memb idx
idx_app v [] m h = clash h refl
idx_app v (x ∷ l) m h =
    by_eq v x (λ e. rw (eq-eqb _ _ e) refl) (λ n. let k : memb v l ≡ true = rw (ne_eqb v x n) at h in rw (idx_app v l m k))

pub idx_new : (v : ℕ) (l : List ℕ) → memb v l ≡ false → idx v (l ++ (v ∷ [])) ≡ length l
unfolding memb idx
idx_new v [] h = rw same_refl
idx_new v (x ∷ l) h =
    by_eq v x (λ e. clash (rw (eq-eqb _ _ e)) h) (λ n. let k : memb v l ≡ false = rw (ne_eqb v x n) at h in rw (ne_eqb v x n) (ap suc (idx_new v l k)))

pub memb_app : (v : ℕ) (l m : List ℕ) → memb v (l ++ m) ≡ memb v l || memb v m
unfolding memb
memb_app v [] m = refl
memb_app v (x ∷ l) m = rw (memb_app v l m) (sym (or_assoc (eqb v x) (memb v l) (memb v m)))

pub nodup_snoc : {l : List ℕ} (v : ℕ) → Nodup l → memb v l ≡ false → Nodup (l ++ (v ∷ []))
unfolding memb
nodup_snoc v nil h = cons refl nil
nodup_snoc v (cons {x} {l} k n) h =
    by_eq v x (λ e. clash (rw (eq-eqb _ _ e)) h)
    (λ d. cons (rw (memb_app x l (v ∷ []), k) (rw (ne_eqb x v (λ e. d (sym e))))) (nodup_snoc v n (rw (ne_eqb v x d) at h)))

-- ---- update in place
pub or_true : (a : Bool) {b : Bool} → b ≡ true → a || b ≡ true
or_true true k = refl
or_true false k = k

pub or_true_left : {a : Bool} (b : Bool) → a ≡ true → a || b ≡ true
or_true_left {a} b k = rw k

pub map_same : {A : Type 0} (F G : ℕ → A) (l : List ℕ) → ((v : ℕ) → memb v l ≡ true → G v ≡ F v) → map G l ≡ map F l
unfolding memb
map_same F G [] h = refl
map_same F G (x ∷ l) h = ap₂ (λ a b. a ∷ b) (h x (rw same_refl)) (map_same F G l (λ v k. h v (or_true (eqb v x) k)))

-- a table listed in the order l, where the entry of s alone has changed, is the table updated at s's index
pub map_upd : (F G : ℕ → Node) (f : Node → Node) (s : ℕ) (l : List ℕ) → Nodup l → memb s l ≡ true
    → G s ≡ f (F s) → ((v : ℕ) → v ≢ s → memb v l ≡ true → G v ≡ F v) → map G l ≡ upd (idx s l) f (map F l)
unfolding memb idx upd
map_upd F G f s [] n m hs ho = refl
map_upd F G f s (x ∷ l) (cons k n) m hs ho =
    by_eq s x
    (λ e. rw (eq-eqb _ _ e) (ap₂ (λ a b. a ∷ b) (rw (← e) hs) (map_same F G l (λ v q. ho v (λ w. clash q (rw (w, e) k)) (or_true (eqb v x) q)))))
    (λ d. let z : memb s l ≡ true = rw (ne_eqb s x d) at m in rw (ne_eqb s x d) (ap₂ (λ a b. a ∷ b) (ho x (λ e. d (sym e)) (rw same_refl)) (map_upd F G f s l n z hs (λ v w q. ho v w (or_true (eqb v x) q)))))

-- ---- small facts
pub by_bool {ℓ} : {X : Type ℓ} (b : Bool) → (b ≡ true → X) → (b ≡ false → X) → X
by_bool true f g = f refl
by_bool false f g = g refl

pub or_elim {ℓ} : {X : Type ℓ} (a b : Bool) → a || b ≡ true → (a ≡ true → X) → (b ≡ true → X) → X
or_elim true b h f g = f refl
or_elim false b h f g = g h

pub and_left : (a b : Bool) → a && b ≡ true → a ≡ true
and_left a b h = by_bool a (λ q. q) (λ q. clash h (rw q))

pub and_right : (a b : Bool) → a && b ≡ true → b ≡ true
and_right a b h = by_bool a (λ q. rw q at h) (λ q. clash h (rw q))

pub memb_left : (x t : ℕ) (o : List ℕ) → memb x o ≡ true → memb x (o ++ (t ∷ [])) ≡ true
memb_left x t o h = memb_app x o (t ∷ []) ∙ or_true_left _ h

pub memb_new : (t : ℕ) (o : List ℕ) → memb t (o ++ (t ∷ [])) ≡ true
unfolding memb
memb_new t o = memb_app t o (t ∷ []) ∙ or_true (memb t o) (or_true_left false (same_refl t))

pub memb_old : (x t : ℕ) (o : List ℕ) → x ≢ t → memb x (o ++ (t ∷ [])) ≡ memb x o
unfolding memb
memb_old x t o h = memb_app x o (t ∷ []) ∙ rw (ne_eqb x t h) (or-false (memb x o))

-- a new element is not the one that was there
pub ne_of_memb : {x t : ℕ} (o : List ℕ) → memb x o ≡ true → memb t o ≡ false → x ≢ t
ne_of_memb o a b q = clash (rw q at a) b

pub not_new : (x t : ℕ) (o : List ℕ) → memb x (o ++ (t ∷ [])) ≡ false → x ≢ t
not_new x t o h q = clash (memb_new t o) (rw q at h)

pub memb_cons : (v x : ℕ) (l : List ℕ) → memb v (x ∷ l) ≡ true → v ≢ x → memb v l ≡ true
unfolding memb
memb_cons v x l h q = rw (ne_eqb v x q) at h

pub memb_there : (v x : ℕ) (l : List ℕ) → memb v l ≡ true → memb v (x ∷ l) ≡ true
unfolding memb
memb_there v x l h = or_true (eqb v x) h

pub memb_here : {v x : ℕ} (l : List ℕ) → v ≡ x → memb v (x ∷ l) ≡ true
unfolding memb
memb_here l q = or_true_left _ (eq-eqb _ _ q)

pub idx_lt : (v : ℕ) (l : List ℕ) → memb v l ≡ true → idx v l < length l
unfolding memb idx
idx_lt v [] h = clash h refl
idx_lt v (x ∷ l) h =
    by_eq v x (λ e. rw (eq-eqb _ _ e) (omega arith))
    (λ n. let k : memb v l ≡ true = rw (ne_eqb v x n) at h in rw (ne_eqb v x n) (omega (arith, idx_lt v l k)))
