-- What the builder holds, as a view of the walk's state, and the changes of the one as changes of the other.
use borrow.Author.Tests.{ne_eqb, eqb-true, eq-eqb}
use mathlib.Core.Path.{◌≡◌, refl, sym, ap, ap₂, ◌∙◌}
use mathlib.Core.Logic.{◌≢◌}
use mathlib.Core.List.{List, [], ◌∷◌, ◌++◌, map, map-append}
use mathlib.Core.Option.{Option, none, some}
use mathlib.Core.Bool.{Bool, true, false, ◌||◌, and-false}
use Prim.Native.Nat.{ℕ}
use lib.ListN.{length}
use lib.Dec.{eqb}
use Rattle.feature.specs.Pick.{pick}
use Rattle.feature.specs.Bonds.{reverse_of}
use Rattle.feature.specs.declared.atom_kind.AtomKind.{AtomKind}
use Rattle.feature.specs.declared.bond_kind.BondKind.{BondKind}
use Rattle.feature.specs.declared.bond_kind.BondKind.TheVariants.{Elided}
use Rattle.feature.proofs.Cases.{by_eq, clash, impossible}
use Rattle.builder_meaning.specs.Sketch.{Target, To, Open, Edge, Node, edge, node, upd, edges_at, add_edge, waits, open_kind, fill_edges, fill}
use Rattle.walk_entry.specs.Graph.{BondEntry, entry_to}
use Rattle.trip_graph.specs.Opened.{Pair, ring_pair, pair_is, look, del}
use Rattle.trip_graph.proofs.Lists.{memb, idx, Nodup, same_refl, by_bool, and_left, and_right, idx_app, idx_new, map_same, map_upd, or_true}

unfoldable pub has_t : ℕ → List BondEntry → Bool
has_t x [] = false
has_t x (e ∷ l) = eqb x e.to || has_t x l

unfoldable pub tgt : Option Pair → ℕ → Target
tgt none i = To i
tgt (some x) i = Open x.join

unfoldable pub enc_t : (ℕ → Target) → BondEntry → Edge
enc_t τ e = edge e.kind (τ e.to)

-- where the entry of v towards x points: to the join of an open pair, or to x's place in the order
unfoldable pub aim : List ℕ → List Pair → ℕ → ℕ → Target
aim o P v x = tgt (look P v x) (idx x o)

unfoldable pub view : (ℕ → AtomKind) → List ℕ → List Pair → (ℕ → List BondEntry) → ℕ → Node
view κ o P d v = node (κ v) (map (enc_t (aim o P v)) (d v))

-- one entry more of s
unfoldable pub push : ℕ → BondEntry → (ℕ → List BondEntry) → ℕ → List BondEntry
push s e d v = pick (eqb v s) (d v ++ (e ∷ [])) (d v)

-- ---- small laws
pub enc_same : (τ σ : ℕ → Target) (l : List BondEntry) → ((x : ℕ) → has_t x l ≡ true → τ x ≡ σ x) → map (enc_t τ) l ≡ map (enc_t σ) l
unfolding has_t enc_t
enc_same τ σ [] h = refl
enc_same τ σ (e ∷ l) h =
    ap₂ (λ (a : Target) (b : List Edge). edge e.kind a ∷ b) (h e.to (rw same_refl)) (enc_same τ σ l (λ x k. h x (or_true (eqb x e.to) k)))

pub push_same : (s : ℕ) (e : BondEntry) (d : ℕ → List BondEntry) → push s e d s ≡ d s ++ (e ∷ [])
unfolding push
push_same s e d = rw same_refl

pub push_other : (s : ℕ) (e : BondEntry) (d : ℕ → List BondEntry) (v : ℕ) → v ≢ s → push s e d v ≡ d v
unfolding push
push_other s e d v h = rw (ne_eqb v s h)

-- an atom whose entries stay, and whose entries' aims stay, stays
view_same : (κ κ' : ℕ → AtomKind) (o o' : List ℕ) (P P' : List Pair) (d d' : ℕ → List BondEntry) (v : ℕ) → κ' v ≡ κ v → d' v ≡ d v
    → ((x : ℕ) → has_t x (d v) ≡ true → aim o' P' v x ≡ aim o P v x) → view κ' o' P' d' v ≡ view κ o P d v
unfolding view
view_same κ κ' o o' P P' d d' v kq e h =
    rw e (ap₂ (λ (k : AtomKind) (l : List Edge). node k l) kq (enc_same (aim o' P' v) (aim o P v) (d v) h))

-- an atom that gets one entry more, whose other entries' aims stay
view_add : (κ κ' : ℕ → AtomKind) (o o' : List ℕ) (P P' : List Pair) (d d' : ℕ → List BondEntry) (v : ℕ) (e : BondEntry) (g : Target) → κ' v ≡ κ v → d' v ≡ d v ++ (e ∷ [])
    → ((x : ℕ) → has_t x (d v) ≡ true → aim o' P' v x ≡ aim o P v x) → aim o' P' v e.to ≡ g
    → view κ' o' P' d' v ≡ add_edge (edge e.kind g) (view κ o P d v)
unfolding view add_edge enc_t
view_add κ κ' o o' P P' d d' v e g kq q h k =
    rw (q, map-append, kq) (ap₂ (λ (l : List Edge) (t : Target). node (κ v) (l ++ (edge e.kind t ∷ []))) (enc_same (aim o' P' v) (aim o P v) (d v) h) k)

pub pair_from : (a b : ℕ) (x : Pair) → a ≢ x.from → pair_is a b x ≡ false
unfolding pair_is
pair_from a b x h = rw (ne_eqb a x.from h)

pub pair_onto : (a b : ℕ) (x : Pair) → b ≢ x.onto → pair_is a b x ≡ false
unfolding pair_is
pair_onto a b x h = rw (ne_eqb b x.onto h) (and-false (eqb a x.from))

pub pair_this : (a b : ℕ) (x : Pair) → a ≡ x.from → b ≡ x.onto → pair_is a b x ≡ true
unfolding pair_is
pair_this a b x p q = rw (eq-eqb _ _ p, eq-eqb _ _ q)

pub look_skip : (x : Pair) (P : List Pair) (a b : ℕ) → pair_is a b x ≡ false → look (x ∷ P) a b ≡ look P a b
unfolding look
look_skip x P a b h = rw h

pub look_here : (x : Pair) (P : List Pair) (a b : ℕ) → pair_is a b x ≡ true → look (x ∷ P) a b ≡ some x
unfolding look
look_here x P a b h = rw h

aim_eq : (o o' : List ℕ) (P P' : List Pair) (v x : ℕ) → look P' v x ≡ look P v x → idx x o' ≡ idx x o → aim o' P' v x ≡ aim o P v x
unfolding aim
aim_eq o o' P P' v x p q = ap₂ (λ (r : Option Pair) (i : ℕ). tgt r i) p q

view_one : (κ : ℕ → AtomKind) (o : List ℕ) (P : List Pair) (d : ℕ → List BondEntry) (v : ℕ) (e : BondEntry) (g : Target) → d v ≡ e ∷ [] → aim o P v e.to ≡ g
    → view κ o P d v ≡ node (κ v) (edge e.kind g ∷ [])
unfolding view enc_t
view_one κ o P d v e g q h = rw q (ap (λ (t : Target). node (κ v) (edge e.kind t ∷ [])) h)

-- ---- a pair taken out
pub look_del : (P : List Pair) (t s a b : ℕ) → ((z : Pair) → pair_is t s z ≡ true → pair_is a b z ≡ false) → look (del t s P) a b ≡ look P a b
unfolding look del
look_del [] t s a b h = refl
look_del (z ∷ P) t s a b h =
    by_bool (pair_is t s z) (λ q. rw (q, h z q) (look_del P t s a b h))
    (λ q. rw q (ap (λ (r : Option Pair). pick (pair_is a b z) (some z) r) (look_del P t s a b h)))

pub look_gone : (P : List Pair) (t s : ℕ) → look (del t s P) t s ≡ none
unfolding look del
look_gone [] t s = refl
look_gone (z ∷ P) t s = by_bool (pair_is t s z) (λ q. rw q (look_gone P t s)) (λ q. rw (q, q) (look_gone P t s))

pub pair_a : (a b : ℕ) (z : Pair) → pair_is a b z ≡ true → a ≡ z.from
unfolding pair_is
pair_a a b z h = eqb-true a z.from (and_left _ _ h)

pub pair_b : (a b : ℕ) (z : Pair) → pair_is a b z ≡ true → b ≡ z.onto
unfolding pair_is
pair_b a b z h = eqb-true b z.onto (and_right (eqb a z.from) _ h)

pub look_del_from : (P : List Pair) (t s a b : ℕ) → a ≢ t → look (del t s P) a b ≡ look P a b
look_del_from P t s a b h = look_del P t s a b (λ z q. pair_from a b z (λ p. h (p ∙ sym (pair_a t s z q))))

pub look_del_onto : (P : List Pair) (t s a b : ℕ) → b ≢ s → look (del t s P) a b ≡ look P a b
look_del_onto P t s a b h = look_del P t s a b (λ z q. pair_onto a b z (λ p. h (p ∙ sym (pair_b t s z q))))

-- ---- the edge that waits for a join
pub data NodupB : List BondEntry → Type 0 where
  bnil : NodupB []
  bcons : {e : BondEntry} {l : List BondEntry} → has_t e.to l ≡ false → NodupB l → NodupB (e ∷ l)

unfoldable pub kind_t : ℕ → List BondEntry → BondKind
kind_t x [] = Elided
kind_t x (e ∷ l) = pick (eqb x e.to) e.kind (kind_t x l)

edge_eq : {a b : BondKind} {t u : Target} → a ≡ b → t ≡ u → edge a t ≡ edge b u
edge_eq p q = λ i. record { kind = p i; target = q i }

module _ (τ τ' : ℕ → Target) (r : ℕ) (k : BondKind) (s i : ℕ) (here : waits r (τ s) ≡ true) (others : (x : ℕ) → x ≢ s → waits r (τ x) ≡ false)
    (set : τ' s ≡ To i) (keep : (x : ℕ) → x ≢ s → τ' x ≡ τ x) where
  fill_enc : (l : List BondEntry) → NodupB l → has_t s l ≡ true → kind_t s l ≡ k → fill_edges r k i (map (enc_t τ) l) ≡ map (enc_t τ') l
  unfolding fill_edges enc_t has_t kind_t
  fill_enc [] n h q = refl
  fill_enc (e ∷ l) (bcons f n) h q = by_eq s e.to
      (λ p.
      let z : waits r (τ e.to) ≡ true = rw p at here in
      let kq : e.kind ≡ k = rw (eq-eqb _ _ p) at q in
      let g : τ' e.to ≡ To i = rw p at set in
      rw z (ap₂ (λ (a : Edge) (b : List Edge). a ∷ b) (edge_eq (sym kq) (sym g))
      (enc_same τ τ' l (λ x m. sym (keep x (λ w. clash (rw (w, p) at m) f))))))
      (λ p. rw (others e.to (λ w. p (sym w))) (ap₂ (λ (a : Edge) (b : List Edge). a ∷ b) (edge_eq refl (sym (keep e.to (λ w. p (sym w)))))
      (fill_enc l n (rw (ne_eqb s e.to p) at h) (rw (ne_eqb s e.to p) at q))))

  kind_enc : (l : List BondEntry) → has_t s l ≡ true → open_kind r (map (enc_t τ) l) ≡ kind_t s l
  unfolding open_kind enc_t has_t kind_t
  kind_enc [] h = refl
  kind_enc (e ∷ l) h = by_eq s e.to
      (λ p. rw (eq-eqb _ _ p) (let z : waits r (τ e.to) ≡ true = rw p at here in rw z))
      (λ p. rw (ne_eqb s e.to p, others e.to (λ w. p (sym w))) (kind_enc l (rw (ne_eqb s e.to p) at h)))

-- ---- the three steps
module _ (κ : ℕ → AtomKind) (o : List ℕ) (P : List Pair) (d : ℕ → List BondEntry) (s : ℕ) (e : BondEntry)
    (nod : Nodup o) (ms : memb s o ≡ true)
    (seen : (v x : ℕ) → has_t x (d v) ≡ true → memb x o ≡ true)
    (fresh : has_t e.to (d s) ≡ false) where
  -- opening a pair
  pub view_open : (r j : ℕ)
      → map (view κ o (ring_pair s e.to r j ∷ P) (push s e d)) o
      ≡ upd (idx s o) (add_edge (edge e.kind (Open j))) (map (view κ o P d) o)
  unfolding tgt aim
  view_open r j =
      let n : Pair = ring_pair s e.to r j in
      map_upd (view κ o P d) (view κ o (n ∷ P) (push s e d)) _ s o nod ms
      (view_add κ κ o o P (n ∷ P) d (push s e d) s e (Open j) refl (push_same s e d)
      (λ x k. aim_eq o o P (n ∷ P) s x (look_skip n P s x (pair_onto s x n (λ q. clash k (rw q fresh)))) refl)
      (rw (look_here n P s e.to (pair_this s e.to n refl refl))))
      (λ v h m. view_same κ κ o o P (n ∷ P) d (push s e d) v refl (push_other s e d v h)
      (λ x k. aim_eq o o P (n ∷ P) v x (look_skip n P v x (pair_from v x n h)) refl))

  -- a new atom
  pub view_extend : (κ' : ℕ → AtomKind) → ((v : ℕ) → v ≢ e.to → κ' v ≡ κ v) → memb e.to o ≡ false → d e.to ≡ [] → look P s e.to ≡ none → look P e.to s ≡ none
      → map (view κ' (o ++ (e.to ∷ [])) P (push e.to (entry_to (reverse_of e.kind) s) (push s e d))) (o ++ (e.to ∷ []))
      ≡ upd (idx s o) (add_edge (edge e.kind (To (length o)))) (map (view κ o P d) o)
      ++ (node (κ' e.to) (edge (reverse_of e.kind) (To (idx s o)) ∷ []) ∷ [])
  unfolding tgt aim
  view_extend κ' kq mt ut l1 l2 =
      let t : ℕ = e.to in
      let o' : List ℕ = o ++ (t ∷ []) in
      let back : BondEntry = entry_to (reverse_of e.kind) s in
      let d1 : ℕ → List BondEntry = push s e d in
      let d2 : ℕ → List BondEntry = push t back d1 in
      let s≢t : s ≢ t = λ q. clash (rw q at ms) mt in
      let old : (v x : ℕ) → has_t x (d v) ≡ true → aim o' P v x ≡ aim o P v x = λ v x k. aim_eq o o' P P v x refl (idx_app x o (t ∷ []) (seen v x k)) in
      let here : view κ' o' P d2 s ≡ add_edge (edge e.kind (To (length o))) (view κ o P d s) =
      view_add κ κ' o o' P P d d2 s e (To (length o)) (kq s s≢t) (push_other t back d1 s s≢t ∙ push_same s e d) (old s) (rw (l1, idx_new t o mt)) in
      let others : (v : ℕ) → v ≢ s → memb v o ≡ true → view κ' o' P d2 v ≡ view κ o P d v =
      λ v h m. let vt : v ≢ t = λ q. clash (rw q at m) mt in view_same κ κ' o o' P P d d2 v (kq v vt) (push_other t back d1 v vt ∙ push_other s e d v h) (old v) in
      let last : view κ' o' P d2 t ≡ node (κ' t) (edge (reverse_of e.kind) (To (idx s o)) ∷ []) =
      view_one κ' o' P d2 t back (To (idx s o)) (push_same t back d1 ∙ ap (λ (l : List BondEntry). l ++ (back ∷ [])) (push_other s e d t (λ q. s≢t (sym q)) ∙ ut)) (rw (l2, idx_app s o (t ∷ []) ms)) in
      map-append (view κ' o' P d2) o (t ∷ []) ∙ ap₂ (λ (a : List Node) (b : Node). a ++ (b ∷ [])) (map_upd (view κ o P d) (view κ' o' P d2) _ s o nod ms here others) last

edges_map : (t : ℕ) (F : ℕ → Node) (o : List ℕ) → memb t o ≡ true → edges_at (idx t o) (map F o) ≡ (F t).edges
unfolding edges_at idx memb
edges_map t F [] m = clash m refl
edges_map t F (x ∷ o) m = by_eq t x (λ p. rw (eq-eqb _ _ p) (rw p refl)) (λ p. rw (ne_eqb t x p) (edges_map t F o (rw (ne_eqb t x p) at m)))

pub none≢some : {a : Pair} → ◌≡◌ {A = Option Pair} none (some a) → ⊥
none≢some h = impossible cc

pub some_inj : {a b : Pair} → some a ≡ some b → a ≡ b
some_inj h = cc

-- closing the pair that was opened at t, from s
module _ (κ : ℕ → AtomKind) (o : List ℕ) (P : List Pair) (d : ℕ → List BondEntry) (s : ℕ) (e : BondEntry) (r : Pair)
    (nod : Nodup o) (ms : memb s o ≡ true) (mt : memb e.to o ≡ true) (s≢t : s ≢ e.to)
    (open-t : look P e.to s ≡ some r) (shut-s : look P s e.to ≡ none)
    (one : (x : ℕ) (y : Pair) → look P e.to x ≡ some y → y.join ≡ r.join → x ≡ s)
    (nodt : NodupB (d e.to)) (has : has_t s (d e.to) ≡ true) (back : kind_t s (d e.to) ≡ reverse_of e.kind) where
  waits_one : (x : ℕ) (q : Option Pair) (i : ℕ) → look P e.to x ≡ q → waits r.join (tgt q i) ≡ true → x ≡ s
  unfolding waits tgt
  waits_one x none i l h = clash h refl
  waits_one x (some a) i l h = one x a l (eqb-true a.join r.join (unfold eqb in h))

  waits_here : waits r.join (aim o P e.to s) ≡ true
  unfolding aim tgt waits
  waits_here = rw open-t (unfold eqb in same_refl r.join)

  waits_others : (x : ℕ) → x ≢ s → waits r.join (aim o P e.to x) ≡ false
  unfolding aim
  waits_others x n = by_bool (waits r.join (aim o P e.to x)) (λ q. absurd (n (waits_one x (look P e.to x) (idx x o) refl q))) (λ q. q)

  aim_gone : aim o (del e.to s P) e.to s ≡ To (idx s o)
  unfolding aim tgt
  aim_gone = rw (look_gone P e.to s)

  aim_kept : (x : ℕ) → x ≢ s → aim o (del e.to s P) e.to x ≡ aim o P e.to x
  aim_kept x n = aim_eq o o P (del e.to s P) e.to x (look_del_onto P e.to s e.to x n) refl

  view_fill : view κ o (del e.to s P) d e.to ≡ fill r.join (reverse_of e.kind) (idx s o) (view κ o P d e.to)
  unfolding view fill
  view_fill =
      let t : ℕ = e.to in
      ap (λ (l : List Edge). node (κ t) l)
      (sym (fill_enc (aim o P t) (aim o (del t s P) t) r.join (reverse_of e.kind) s (idx s o) waits_here waits_others aim_gone aim_kept (d t) nodt has back))

  pub view_close : map (view κ o (del e.to s P) (push s e d)) o
      ≡ upd (idx s o) (add_edge (edge e.kind (To (idx e.to o)))) (upd (idx e.to o) (fill r.join (reverse_of e.kind) (idx s o)) (map (view κ o P d) o))
  unfolding tgt aim
  view_close =
      let t : ℕ = e.to in
      let P' : List Pair = del t s P in
      map_upd (view κ o P' d) (view κ o P' (push s e d)) _ s o nod ms
      (view_add κ κ o o P' P' d (push s e d) s e (To (idx t o)) refl (push_same s e d) (λ x k. refl) (rw (look_del_from P t s s t s≢t, shut-s)))
      (λ v h m. view_same κ κ o o P' P' d (push s e d) v refl (push_other s e d v h) (λ x k. refl))
      ∙ ap (λ (g : List Node). upd (idx s o) (add_edge (edge e.kind (To (idx t o)))) g)
      (map_upd (view κ o P d) (view κ o P' d) _ t o nod mt view_fill
      (λ v h m. view_same κ κ o o P P' d d v refl refl (λ x k. aim_eq o o P P' v x (look_del_from P t s v x h) refl)))

  -- the kind that the builder finds at the edge it fills
  pub close_kind : open_kind r.join (edges_at (idx e.to o) (map (view κ o P d) o)) ≡ reverse_of e.kind
  unfolding view
  close_kind =
      let t : ℕ = e.to in
      ap (open_kind r.join) (edges_map t (view κ o P d) o mt)
      ∙ kind_enc (aim o P t) (aim o (del t s P) t) r.join (reverse_of e.kind) s (idx s o) waits_here waits_others aim_gone aim_kept (d t) has
      ∙ back

-- a root
pub view_root : (κ κ' : ℕ → AtomKind) (o : List ℕ) (P : List Pair) (d : ℕ → List BondEntry) (i : ℕ) → ((v : ℕ) → v ≢ i → κ' v ≡ κ v) → memb i o ≡ false
    → ((v x : ℕ) → has_t x (d v) ≡ true → memb x o ≡ true) → d i ≡ []
    → map (view κ' (o ++ (i ∷ [])) P d) (o ++ (i ∷ [])) ≡ map (view κ o P d) o ++ (node (κ' i) [] ∷ [])
unfolding view
view_root κ κ' o P d i kq mi seen u =
    let o' : List ℕ = o ++ (i ∷ []) in
    map-append (view κ' o' P d) o (i ∷ [])
    ∙ ap₂ (λ (a : List Node) (b : Node). a ++ (b ∷ []))
    (map_same (view κ o P d) (view κ' o' P d) o (λ v m. view_same κ κ' o o' P P d d v (kq v (λ q. clash (rw q at m) mi)) refl (λ x k. aim_eq o o' P P v x refl (idx_app x o (i ∷ []) (seen v x k)))))
    (rw u)
