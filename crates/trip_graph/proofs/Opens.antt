-- The open pairs: what taking one out keeps, how the builder holds them, and that a pair is open where one of its two entries is
-- behind the walk and the other is not.
use lib.Dec.{eqb}
use mathlib.Core.Path.{◌≡◌, refl, sym, ap, ap₂, ◌∙◌, subst}
use mathlib.Core.Logic.{◌≢◌}
use mathlib.Core.List.{List, [], ◌∷◌, ◌++◌, map}
use mathlib.Core.Option.{Option, none, some}
use mathlib.Core.Bool.{Bool, true, false, not, ◌&&◌, ◌||◌, or-false, and-false, or_assoc}
use Prim.Native.Nat.{ℕ}
use borrow.Author.Tests.{eq-eqb, ne_eqb, eqb-true}
use Rattle.feature.proofs.Cases.{by_eq, clash}
use Rattle.walk_entry.specs.Graph.{BondEntry}
use Rattle.builder_meaning.specs.Sketch.{Held, held, lookup, ring_freed}
use Rattle.trip_graph.specs.Opened.{Pair, ring_pair, pair_is, look, del, num_in, join_in, Distinct, dnil, dcons}
use Rattle.trip_graph.proofs.Lists.{memb, idx, same_refl, by_bool, and_left, idx_app, or_true, or_true_left, memb_left}
use Rattle.trip_graph.proofs.View.{has_t, push, push_same, push_other, look_skip, look_here, look_del, look_gone, look_del_from, pair_from, pair_this, pair_a, pair_b, none≢some, some_inj}

-- ---- members
pub data In (x : Pair) : List Pair → Type 0 where
  here : {P : List Pair} → In x (x ∷ P)
  there : {y : Pair} {P : List Pair} → In x P → In x (y ∷ P)

-- a pair that is found is a member
pub record Found (P : List Pair) (a b : ℕ) (x : Pair) : Type 0 where
  pub member : In x P
  pub from : a ≡ x.from
  pub onto : b ≡ x.onto

pub look_in : (P : List Pair) (a b : ℕ) (x : Pair) → look P a b ≡ some x → Found P a b x
unfolding look
look_in [] a b x h = absurd (none≢some h)
look_in (y ∷ P) a b x h =
    by_bool (pair_is a b y)
    (λ q. let e : y ≡ x = some_inj (rw q at h) in subst (λ (z : Pair). Found (y ∷ P) a b z) e (record { member = here; from = pair_a a b y q; onto = pair_b a b y q }))
    (λ q. let f = look_in P a b x (rw q at h) in record { member = there f.member; from = f.from; onto = f.onto })

pub in_num : (x : Pair) (P : List Pair) → In x P → num_in x.num P ≡ true
unfolding num_in
in_num x P (here {P = Q}) = or_true_left _ (same_refl x.num)
in_num x P (there {y = y} {P = Q} i) = or_true (eqb x.num y.num) (in_num x Q i)

pub in_join : (x : Pair) (P : List Pair) → In x P → join_in x.join P ≡ true
unfolding join_in
in_join x P (here {P = Q}) = or_true_left _ (same_refl x.join)
in_join x P (there {y = y} {P = Q} i) = or_true (eqb x.join y.join) (in_join x Q i)

-- a number that is open is the number of a member
pub num_find : (P : List Pair) (r : ℕ) → num_in r P ≡ true → (x : Pair) × In x P × (x.num ≡ r)
unfolding num_in
num_find [] r h = clash h refl
num_find (y ∷ P) r h =
    by_bool (eqb r y.num) (λ q. (y, here, sym (eqb-true r y.num q)))
    (λ q. let f = num_find P r (rw q at h) in (f.0, there f.1, f.2))

pub in_case {ℓ} : {X : Type ℓ} {x y : Pair} {P : List Pair} → In x (y ∷ P) → (x ≡ y → X) → (In x P → X) → X
in_case here f h = f refl
in_case (there k) f h = h k

look_none_in : (P : List Pair) (a b : ℕ) (x : Pair) → look P a b ≡ none → In x P → pair_is a b x ≡ false
unfolding look
look_none_in [] a b x h i = elim i [ ]
look_none_in (y ∷ P) a b x h i =
    by_bool (pair_is a b y)
    (λ q. absurd (none≢some (sym (rw q at h))))
    (λ q. in_case i (λ e. rw e q) (λ k. look_none_in P a b x (rw q at h) k))

pub no_member : (P : List Pair) (a b : ℕ) (x : Pair) → look P a b ≡ none → In x P → a ≡ x.from → b ≡ x.onto → ⊥
no_member P a b x h i p q = clash (pair_this a b x p q) (look_none_in P a b x h i)

-- a member is found at its pair
pub in_look : (P : List Pair) (x : Pair) (a b : ℕ) → Distinct P → In x P → a ≡ x.from → b ≡ x.onto → look P a b ≡ some x
unfolding look
in_look _ x a b dnil i p q = elim i [ ]
in_look P x a b (dcons {P = Q} n u j g) here p q = rw (pair_this a b x p q)
in_look P x a b (dcons {x = y} {P = Q} n u j g) (there i) p q =
    by_bool (pair_is a b y)
    (λ z. absurd (no_member Q y.from y.onto x u i (sym (pair_a a b y z) ∙ p) (sym (pair_b a b y z) ∙ q)))
    (λ z. rw z (in_look Q x a b g i p q))

pub look_num : (P : List Pair) (a b : ℕ) (x : Pair) → look P a b ≡ some x → num_in x.num P ≡ true
look_num P a b x h = in_num x P (look_in P a b x h).member

pub look_join : (P : List Pair) (a b : ℕ) (x : Pair) → look P a b ≡ some x → join_in x.join P ≡ true
look_join P a b x h = in_join x P (look_in P a b x h).member

-- two pairs of one join are one
pub look_one : (P : List Pair) (a b c : ℕ) (x y : Pair) → Distinct P → look P a b ≡ some x → look P a c ≡ some y → y.join ≡ x.join → c ≡ b
unfolding look
look_one [] a b c x y g h k e = absurd (none≢some h)
look_one (z ∷ P) a b c x y (dcons n u j g) h k e =
    by_bool (pair_is a b z)
    (λ q. by_bool (pair_is a c z) (λ w. pair_b a c z w ∙ sym (pair_b a b z q))
    (λ w. let zx : z ≡ x = some_inj (rw q at h) in
    clash (look_join P a c y (rw w at k)) (rw (e, ← ap (λ (v : Pair). v.join) zx) j)))
    (λ q. by_bool (pair_is a c z)
    (λ w. let zy : z ≡ y = some_inj (rw w at k) in
    clash (look_join P a b x (rw q at h)) (rw (← e, ← ap (λ (v : Pair). v.join) zy) j))
    (λ w. look_one P a b c x y g (rw q at h) (rw w at k) e))

-- ---- how the builder holds an open pair
unfoldable pub held_of : List ℕ → Pair → Held
held_of o x = held x.num (idx x.from o) x.join

pub lookup_none : (o : List ℕ) (P : List Pair) (r : ℕ) → num_in r P ≡ false → lookup r (map (held_of o) P) ≡ none
unfolding num_in lookup held_of
lookup_none o [] r h = refl
lookup_none o (x ∷ P) r h =
    by_eq r x.num (λ q. clash (or_true_left _ (eq-eqb _ _ q)) h)
    (λ q. rw (ne_eqb x.num r (λ z. q (sym z))) (lookup_none o P r (rw (ne_eqb r x.num q) at h)))

pub lookup_some : (o : List ℕ) (P : List Pair) (a b : ℕ) (x : Pair) → Distinct P → look P a b ≡ some x → lookup x.num (map (held_of o) P) ≡ some (held_of o x)
unfolding look lookup held_of
lookup_some o [] a b x g h = absurd (none≢some h)
lookup_some o (y ∷ P) a b x (dcons n u j g) h =
    by_bool (pair_is a b y)
    (λ q. let e : y ≡ x = some_inj (rw q at h) in
    rw (eq-eqb y.num x.num (ap (λ (v : Pair). v.num) e)) (ap (λ (v : Pair). some (held v.num (idx v.from o) v.join)) e))
    (λ q. let m : look P a b ≡ some x = rw q at h in
    rw (ne_eqb y.num x.num (λ w. clash (look_num P a b x m) (rw (← w) n))) (lookup_some o P a b x g m))

del_none : (P : List Pair) (a b : ℕ) → look P a b ≡ none → del a b P ≡ P
unfolding look del
del_none [] a b h = refl
del_none (x ∷ P) a b h = by_bool (pair_is a b x) (λ q. absurd (none≢some (sym (rw q at h)))) (λ q. rw q (ap (λ (l : List Pair). x ∷ l) (del_none P a b (rw q at h))))

without_none : (o : List ℕ) (P : List Pair) (r : ℕ) → num_in r P ≡ false → ring_freed r (map (held_of o) P) ≡ map (held_of o) P
unfolding num_in ring_freed held_of
without_none o [] r h = refl
without_none o (x ∷ P) r h =
    by_eq r x.num (λ q. clash (or_true_left _ (eq-eqb _ _ q)) h)
    (λ q. rw (ne_eqb x.num r (λ z. q (sym z))) (ap (λ (l : List Held). held_of o x ∷ l) (without_none o P r (rw (ne_eqb r x.num q) at h))))

pub without_map : (o : List ℕ) (P : List Pair) (a b : ℕ) (x : Pair) → Distinct P → look P a b ≡ some x → ring_freed x.num (map (held_of o) P) ≡ map (held_of o) (del a b P)
unfolding look ring_freed del held_of
without_map o [] a b x g h = refl
without_map o (y ∷ P) a b x (dcons n u j g) h =
    by_bool (pair_is a b y)
    (λ q. let rx : y.num ≡ x.num = ap (λ (v : Pair). v.num) (some_inj (rw q at h)) in
    rw (q, eq-eqb y.num x.num rx) (without_none o P x.num (rw (← rx) n) ∙ ap (map (held_of o)) (sym (del_none P a b (rw (pair_a a b y q, pair_b a b y q) u)))))
    (λ q. let m : look P a b ≡ some x = rw q at h in
    rw (q, ne_eqb y.num x.num (λ w. clash (look_num P a b x m) (rw (← w) n))) (ap (λ (l : List Held). held_of o y ∷ l) (without_map o P a b x g m)))

-- ---- what taking a pair out keeps
pub num_del : (P : List Pair) (a b r : ℕ) → num_in r P ≡ false → num_in r (del a b P) ≡ false
unfolding num_in del
num_del [] a b r h = refl
num_del (x ∷ P) a b r h =
    by_bool (eqb r x.num) (λ q. clash (or_true_left _ q) h)
    (λ q. let m : num_in r P ≡ false = rw q at h in by_bool (pair_is a b x) (λ w. rw w (num_del P a b r m)) (λ w. rw (w, q) (num_del P a b r m)))

pub join_del : (P : List Pair) (a b r : ℕ) → join_in r P ≡ false → join_in r (del a b P) ≡ false
unfolding join_in del
join_del [] a b r h = refl
join_del (x ∷ P) a b r h =
    by_bool (eqb r x.join) (λ q. clash (or_true_left _ q) h)
    (λ q. let m : join_in r P ≡ false = rw q at h in by_bool (pair_is a b x) (λ w. rw w (join_del P a b r m)) (λ w. rw (w, q) (join_del P a b r m)))

look_del_none : (P : List Pair) (a b c d : ℕ) → look P c d ≡ none → look (del a b P) c d ≡ none
unfolding look del
look_del_none [] a b c d h = refl
look_del_none (x ∷ P) a b c d h =
    by_bool (pair_is c d x) (λ q. absurd (none≢some (sym (rw q at h))))
    (λ q. let m : look P c d ≡ none = rw q at h in by_bool (pair_is a b x) (λ w. rw w (look_del_none P a b c d m)) (λ w. rw (w, q) (look_del_none P a b c d m)))

pub distinct_del : (P : List Pair) (a b : ℕ) → Distinct P → Distinct (del a b P)
unfolding del
distinct_del [] a b dnil = dnil
distinct_del (x ∷ P) a b (dcons n u j g) =
    by_bool (pair_is a b x) (λ q. rw q (distinct_del P a b g))
    (λ q. rw q (dcons (num_del P a b x.num n) (look_del_none P a b x.from x.onto u) (join_del P a b x.join j) (distinct_del P a b g)))

-- the number of the pair taken out is free
pub num_gone : (P : List Pair) (a b : ℕ) (x : Pair) → Distinct P → look P a b ≡ some x → num_in x.num (del a b P) ≡ false
unfolding num_in look del
num_gone [] a b x g h = refl
num_gone (y ∷ P) a b x (dcons n u j g) h =
    by_bool (pair_is a b y)
    (λ q. rw q (num_del P a b x.num (rw (← ap (λ (v : Pair). v.num) (some_inj (rw q at h))) n)))
    (λ q. let m : look P a b ≡ some x = rw q at h in
    rw (q, ne_eqb x.num y.num (λ w. clash (look_num P a b x m) (rw w n))) (num_gone P a b x g m))

pub num_del_true : (P : List Pair) (a b r : ℕ) → num_in r (del a b P) ≡ true → num_in r P ≡ true
num_del_true P a b r h = by_bool (num_in r P) (λ q. q) (λ q. clash h (num_del P a b r q))

pub join_del_true : (P : List Pair) (a b r : ℕ) → join_in r (del a b P) ≡ true → join_in r P ≡ true
join_del_true P a b r h = by_bool (join_in r P) (λ q. q) (λ q. clash h (join_del P a b r q))

in_cons : {x y : Pair} {P Q : List Pair} → (In x P → In x Q) → In x (y ∷ P) → In x (y ∷ Q)
in_cons f here = here
in_cons f (there k) = there (f k)

pub in_del : (P : List Pair) (a b : ℕ) (x : Pair) → In x (del a b P) → In x P
unfolding del
in_del [] a b x i = i
in_del (y ∷ P) a b x i =
    by_bool (pair_is a b y) (λ q. there (in_del P a b x (rw q at i))) (λ q. let k : In x (y ∷ del a b P) = rw q at i in in_cons (in_del P a b x) k)

-- a member that is another pair stays
pub in_kept : (P : List Pair) (a b : ℕ) (x : Pair) → In x P → pair_is a b x ≡ false → In x (del a b P)
unfolding del
in_kept [] a b x i h = elim i [ ]
in_kept (y ∷ P) a b x i h =
    by_bool (pair_is a b y)
    (λ q. in_case i (λ e. clash (ap (pair_is a b) e ∙ q) h) (λ k. rw q (in_kept P a b x k h)))
    (λ q. rw q (in_case i (λ e. rw e here) (λ k. there (in_kept P a b x k h))))

-- every opener was met
pub data Froms (o : List ℕ) : List Pair → Type 0 where
  fnil : Froms o []
  fcons : {x : Pair} {P : List Pair} → memb x.from o ≡ true → Froms o P → Froms o (x ∷ P)

pub from_first : {o : List ℕ} {x : Pair} {P : List Pair} → Froms o (x ∷ P) → memb x.from o ≡ true
from_first (fcons m f) = m

pub froms_del : (o : List ℕ) (P : List Pair) (a b : ℕ) → Froms o P → Froms o (del a b P)
unfolding del
froms_del o [] a b fnil = fnil
froms_del o (x ∷ P) a b (fcons m f) = by_bool (pair_is a b x) (λ q. rw q (froms_del o P a b f)) (λ q. rw q (fcons m (froms_del o P a b f)))

pub froms_snoc : (o : List ℕ) (t : ℕ) {P : List Pair} → Froms o P → Froms (o ++ (t ∷ [])) P
froms_snoc o t fnil = fnil
froms_snoc o t (fcons {x} m f) = fcons (memb_left x.from t o m) (froms_snoc o t f)

pub held_snoc : (o : List ℕ) (t : ℕ) {P : List Pair} → Froms o P → map (held_of (o ++ (t ∷ []))) P ≡ map (held_of o) P
unfolding held_of
held_snoc o t fnil = refl
held_snoc o t (fcons {x} {P} m f) = ap₂ (λ (i : ℕ) (l : List Held). held x.num i x.join ∷ l) (idx_app x.from o (t ∷ []) m) (held_snoc o t f)

-- ---- the open pairs and the walk
unfoldable pub is_some : Option Pair → Bool
is_some none = false
is_some (some r) = true

pub record Pol (o : List ℕ) (d : ℕ → List BondEntry) (P : List Pair) : Type 0 where
  pub opn : (a b : ℕ) → is_some (look P a b) ≡ has_t b (d a) && not (has_t a (d b))
  pub good : Distinct P
  pub froms : Froms o P

pub is_none : (q : Option Pair) → is_some q ≡ false → q ≡ none
unfolding is_some
is_none none h = refl
is_none (some r) h = clash refl h

-- an entry that is ahead opens nothing
pub shut : {o : List ℕ} {d : ℕ → List BondEntry} {P : List Pair} → Pol o d P → (a b : ℕ) → has_t b (d a) ≡ false → look P a b ≡ none
shut {P = P} K a b h = is_none (look P a b) (K.opn a b ∙ rw h)

-- an open pair's entry is behind
pub opened_has : {o : List ℕ} {d : ℕ → List BondEntry} {P : List Pair} → Pol o d P → (a b : ℕ) (x : Pair) → look P a b ≡ some x → has_t b (d a) ≡ true
unfolding is_some
opened_has {d = d} K a b x h = and_left (has_t b (d a)) _ (sym (K.opn a b) ∙ rw h)

-- an entry that is ahead, towards an atom that opened nothing: the other entry is ahead too
pub both_ahead : {o : List ℕ} {d : ℕ → List BondEntry} {P : List Pair} → Pol o d P → (a b : ℕ) → has_t b (d a) ≡ false → look P b a ≡ none → has_t a (d b) ≡ false
unfolding is_some
both_ahead {d = d} K a b h l =
    by_bool (has_t a (d b)) (λ q. clash {b = true} refl (let z = K.opn b a in let y : false ≡ true && not false = rw (l, q, h) at z in sym y)) (λ q. q)

pub has_t_app : (x : ℕ) (l m : List BondEntry) → has_t x (l ++ m) ≡ has_t x l || has_t x m
unfolding has_t
has_t_app x [] m = refl
has_t_app x (e ∷ l) m = rw (has_t_app x l m) (sym (or_assoc (eqb x e.to) (has_t x l) (has_t x m)))

pub has_t_push : (s : ℕ) (e : BondEntry) (d : ℕ → List BondEntry) (x : ℕ) → has_t x (push s e d s) ≡ has_t x (d s) || eqb x e.to
unfolding has_t
has_t_push s e d x = rw (push_same s e d) (has_t_app x (d s) (e ∷ []) ∙ ap (λ (b : Bool). has_t x (d s) || b) (or-false (eqb x e.to)))

module _ (s : ℕ) (e : BondEntry) (d : ℕ → List BondEntry) where
  pub push_has : has_t e.to (push s e d s) ≡ true
  push_has = has_t_push s e d e.to ∙ or_true (has_t e.to (d s)) (same_refl e.to)

  pub push_skip : (v x : ℕ) → (v ≡ s → x ≡ e.to → ⊥) → has_t x (push s e d v) ≡ has_t x (d v)
  push_skip v x h = by_eq v s
      (λ q. rw q (has_t_push s e d x ∙ rw (ne_eqb x e.to (h q)) (or-false (has_t x (d s)))))
      (λ q. rw (push_other s e d v q))

pair_no : (a b : ℕ) (x : Pair) → (a ≡ x.from → b ≡ x.onto → ⊥) → pair_is a b x ≡ false
pair_no a b x h = by_bool (pair_is a b x) (λ q. absurd (h (pair_a a b x q) (pair_b a b x q))) (λ q. q)

by_pair {ℓ} : {X : Type ℓ} (a b s t : ℕ) → (a ≡ s → b ≡ t → X) → (a ≡ t → b ≡ s → X) → ((a ≡ s → b ≡ t → ⊥) → (a ≡ t → b ≡ s → ⊥) → X) → X
by_pair a b s t f g h =
    by_eq a s
    (λ p. by_eq b t (λ q. f p q) (λ q. by_eq a t (λ u. by_eq b s (λ w. g u w) (λ w. h (λ x y. q y) (λ x y. w y))) (λ u. h (λ x y. q y) (λ x y. u x))))
    (λ p. by_eq a t (λ u. by_eq b s (λ w. g u w) (λ w. h (λ x y. p x) (λ x y. w y))) (λ u. h (λ x y. p x) (λ x y. u x)))

module _ (s : ℕ) (e : BondEntry) (o : List ℕ) (d : ℕ → List BondEntry) (P : List Pair) (K : Pol o d P) (fresh : has_t e.to (d s) ≡ false) (apart : s ≢ e.to) where
  -- a new atom
  pub pol_extend : (back : BondEntry) → back.to ≡ s → d e.to ≡ [] → Pol (o ++ (e.to ∷ [])) (push e.to back (push s e d)) P
  unfolding is_some has_t
  pol_extend back bs u =
      let t : ℕ = e.to in
      let d1 : ℕ → List BondEntry = push s e d in
      let hst : has_t s (push t back d1 t) ≡ true = subst (λ (z : ℕ). has_t z (push t back d1 t) ≡ true) bs (push_has t back d1) in
      let hts : has_t t (push t back d1 s) ≡ true = rw (push_other t back d1 s apart) (push_has s e d) in
      record {
        good = K.good;
        froms = froms_snoc o t K.froms;
        opn = λ a b. by_pair a b s t
            (λ p q. rw (p, q) (rw (shut K s t fresh, hst, and-false)))
            (λ p q. rw (p, q) (rw (shut K t s (rw u), hts, and-false)))
            (λ p q. rw (push_skip t back d1 a b (λ x y. q x (y ∙ bs)), push_skip s e d a b p, push_skip t back d1 b a (λ x y. p (y ∙ bs) x), push_skip s e d b a (λ x y. q y x)) (K.opn a b));
      }

  -- a number for a new pair
  open_opn : (r j : ℕ) → look P e.to s ≡ none → (a b : ℕ)
      → is_some (look (ring_pair s e.to r j ∷ P) a b) ≡ has_t b (push s e d a) && not (has_t a (push s e d b))
  unfolding is_some
  open_opn r j l a b =
      let t : ℕ = e.to in
      let n : Pair = ring_pair s t r j in
      let ts : has_t s (push s e d t) ≡ false = push_skip s e d t s (λ x y. apart y) ∙ both_ahead K s t fresh l in
      by_pair a b s t
      (λ p q. rw (p, q) (rw (look_here n P s t (pair_this s t n refl refl), push_has s e d, ts)))
      (λ p q. rw (p, q) (rw (look_skip n P t s (pair_from t s n (λ x. apart (sym x))), l, ts)))
      (λ p q. rw (look_skip n P a b (pair_no a b n p), push_skip s e d a b p, push_skip s e d b a (λ x y. q y x)) (K.opn a b))

  pub pol_open : (r j : ℕ) → memb s o ≡ true → look P e.to s ≡ none → num_in r P ≡ false → join_in j P ≡ false
      → Pol o (push s e d) (ring_pair s e.to r j ∷ P)
  pol_open r j ms l nr nj =
      record {
        opn = open_opn r j l;
        good = dcons nr (shut K s e.to fresh) nj K.good;
        froms = fcons ms K.froms;
      }

  -- the number of an open pair
  pub pol_close : (x : Pair) → look P e.to s ≡ some x → Pol o (push s e d) (del e.to s P)
  unfolding is_some
  pol_close x l =
      let t : ℕ = e.to in
      let has : has_t s (d t) ≡ true = opened_has K t s x l in
      let ts : has_t s (push s e d t) ≡ true = push_skip s e d t s (λ x y. apart y) ∙ has in
      record {
        good = distinct_del P t s K.good;
        froms = froms_del o P t s K.froms;
        opn = λ a b. by_pair a b s t
            (λ p q. rw (p, q) (rw (look_del_from P t s s t apart, shut K s t fresh, ts, and-false)))
            (λ p q. rw (p, q) (rw (look_gone P t s, push_has s e d, and-false)))
            (λ p q. rw (look_del P t s a b (λ z h. pair_no a b z (λ x y. q (x ∙ sym (pair_a t s z h)) (y ∙ sym (pair_b t s z h)))), push_skip s e d a b p, push_skip s e d b a (λ x y. q y x)) (K.opn a b));
      }
