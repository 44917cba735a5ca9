-- The entries in the order in which they came, and what they make of the atoms. Assumes nothing.
use Prim.Native.Nat.{ℕ, zero, suc, ◌+◌, ◌*◌, ◌<◌}
use mathlib.Core.Path.{◌≡◌, refl, ◌∙◌, ap, ap₂, sym}
use mathlib.Core.Logic.{◌≢◌}
use mathlib.Core.List.{List, [], ◌∷◌, ◌++◌, append-nil}
use mathlib.Core.Bool.{Bool, true, false}
use native.Mathlib.Omega.{arith}
use lib.ListN.{length, get_or, set, length-append}
use lib.Seq.{sets}
use lib.Dec.{eqb}
use borrow.Author.Tests.{eq-eqb, ne_eqb}
use Rattle.feature.specs.Pick.{pick}
use Rattle.feature.specs.Bonds.{code_of}
use Rattle.feature.specs.declared.atom_kind.AtomKind.{AtomKind}
use Rattle.feature.specs.declared.bond_kind.BondKind.{BondKind}
use Rattle.feature.specs.declared.bond_kind.BondKind.TheVariants.{Elided}
use Rattle.builder.specs.State.{entry_words}
use Rattle.builder_meaning.specs.Sketch.{Target, To, Open, Edge, Node, edge, node, count_of, upd, edges_at, add_edge, waits, open_kind, fill_edges, fill, target_of}

-- an entry with the atom that it is at
pub record Row : Type 0 where
  pub source : ℕ
  pub kind : BondKind
  pub target : Target

abbrev pub row : ℕ → BondKind → Target → Row
row s k t = record { source = s; kind = k; target = t }

-- what is read past the end
abbrev pub no_row : Row
no_row = row 0 Elided (To 0)

-- the entries of atom a
unfoldable pub edges_of : List Row → ℕ → List Edge
edges_of [] a = []
edges_of (r ∷ rs) a = pick (eqb r.source a) (edge r.kind r.target ∷ edges_of rs a) (edges_of rs a)

-- their words
unfoldable pub flat : List Row → List ℕ
flat [] = []
flat (r ∷ rs) = r.source ∷ code_of r.kind ∷ target_of r.target ∷ flat rs

-- atoms by their kinds, with the entries that each number has
unfoldable pub nodes_of : List AtomKind → (ℕ → List Edge) → List Node
nodes_of [] f = []
nodes_of (k ∷ ks) f = node k (f 0) ∷ nodes_of ks (λ i. f (suc i))

-- ---- atoms
pub nodes_length : (ks : List AtomKind) (f : ℕ → List Edge) → length (nodes_of ks f) ≡ length ks
unfolding nodes_of
nodes_length [] f = refl
nodes_length (k ∷ ks) f = ap suc (nodes_length ks (λ i. f (suc i)))

pub nodes_snoc : (ks : List AtomKind) (k : AtomKind) (f : ℕ → List Edge) → nodes_of (ks ++ (k ∷ [])) f ≡ nodes_of ks f ++ (node k (f (length ks)) ∷ [])
unfolding nodes_of
nodes_snoc [] k f = refl
nodes_snoc (x ∷ ks) k f = ap (λ (l : List Node). node x (f 0) ∷ l) (nodes_snoc ks k (λ i. f (suc i)))

-- the entries of one number changed, as the change of that atom
pub nodes_upd : (ks : List AtomKind) (f g : ℕ → List Edge) (F : Node → Node) (s : ℕ) → ((k : AtomKind) → node k (g s) ≡ F (node k (f s))) → ((i : ℕ) → i ≢ s → g i ≡ f i) → nodes_of ks g ≡ upd s F (nodes_of ks f)
unfolding nodes_of upd
nodes_upd [] f g F s here other = refl
nodes_upd (k ∷ ks) f g F zero here other =
    ap₂ (λ (n : Node) (l : List Node). n ∷ l) (here k) (rest ks (λ i. f (suc i)) (λ i. g (suc i)) (λ i. other (suc i) (λ e. omega arith)))
  where
    rest : (ks : List AtomKind) (f g : ℕ → List Edge) → ((i : ℕ) → g i ≡ f i) → nodes_of ks g ≡ nodes_of ks f
    rest [] f g e = refl
    rest (k ∷ ks) f g e =
        ap₂ (λ (es : List Edge) (l : List Node). node k es ∷ l) (e 0) (rest ks (λ i. f (suc i)) (λ i. g (suc i)) (λ i. e (suc i)))
nodes_upd (k ∷ ks) f g F (suc s) here other =
    ap₂ (λ (es : List Edge) (l : List Node). node k es ∷ l) (other 0 (λ e. omega arith))
    (nodes_upd ks (λ i. f (suc i)) (λ i. g (suc i)) F s here (λ i n. other (suc i) (λ e. n (omega arith))))

-- an atom's entries are those of its number
pub edges_at_lem : (ks : List AtomKind) (f : ℕ → List Edge) (i : ℕ) → i < length ks → edges_at i (nodes_of ks f) ≡ f i
unfolding nodes_of edges_at
edges_at_lem [] f i h = absurd (omega arith)
edges_at_lem (k ∷ ks) f zero h = refl
edges_at_lem (k ∷ ks) f (suc i) h = edges_at_lem ks (λ j. f (suc j)) i (omega arith)

pub upd_length : (s : ℕ) (F : Node → Node) (ns : List Node) → length (upd s F ns) ≡ length ns
unfolding upd
upd_length s F [] = refl
upd_length zero F (n ∷ ns) = refl
upd_length (suc s) F (n ∷ ns) = ap suc (upd_length s F ns)

pub upd_front : (s : ℕ) (F : Node → Node) (ns ms : List Node) → s < length ns → upd s F (ns ++ ms) ≡ upd s F ns ++ ms
unfolding upd
upd_front s F [] ms h = absurd (omega arith)
upd_front zero F (n ∷ ns) ms h = refl
upd_front (suc s) F (n ∷ ns) ms h = ap (λ (l : List Node). n ∷ l) (upd_front s F ns ms (omega arith))

pub upd_last : (F : Node → Node) (ns : List Node) (m : Node) → upd (length ns) F (ns ++ (m ∷ [])) ≡ ns ++ (F m ∷ [])
unfolding upd
upd_last F [] m = refl
upd_last F (n ∷ ns) m = ap (λ (l : List Node). n ∷ l) (upd_last F ns m)

-- ---- how many entries
pub count_append : (ns ms : List Node) → count_of (ns ++ ms) ≡ count_of ns + count_of ms
unfolding count_of
count_append [] ms = omega arith
count_append (n ∷ ns) ms = omega (arith, count_append ns ms)

pub count_add : (s : ℕ) (e : Edge) (ns : List Node) → s < length ns → count_of (upd s (add_edge e) ns) ≡ count_of ns + 1
unfolding count_of upd add_edge
count_add s e [] h = absurd (omega arith)
count_add zero e (n ∷ ns) h = rw length-append (omega arith)
count_add (suc s) e (n ∷ ns) h = omega (arith, count_add s e ns (omega arith))

fill_length : (j : ℕ) (k : BondKind) (t : ℕ) (es : List Edge) → length (fill_edges j k t es) ≡ length es
unfolding fill_edges
fill_length j k t [] = refl
fill_length j k t (e ∷ es) = split (waits j e.target) (fill_length j k t es) where
  split : (b : Bool) → length (fill_edges j k t es) ≡ length es → length (pick b (edge k (To t) ∷ es) (e ∷ fill_edges j k t es)) ≡ suc (length es)
  split true h = refl
  split false h = ap suc h

pub count_fill : (s j : ℕ) (k : BondKind) (t : ℕ) (ns : List Node) → count_of (upd s (fill j k t) ns) ≡ count_of ns
unfolding count_of upd fill
count_fill s j k t [] = refl
count_fill zero j k t (n ∷ ns) = ap (λ (m : ℕ). m + count_of ns) (fill_length j k t n.edges)
count_fill (suc s) j k t (n ∷ ns) = ap (λ (m : ℕ). length n.edges + m) (count_fill s j k t ns)

-- ---- entries
pub edges_append : (rs qs : List Row) (a : ℕ) → edges_of (rs ++ qs) a ≡ edges_of rs a ++ edges_of qs a
unfolding edges_of
edges_append [] qs a = refl
edges_append (r ∷ rs) qs a = split (eqb r.source a) (edges_append rs qs a) where
  split : (b : Bool) → edges_of (rs ++ qs) a ≡ edges_of rs a ++ edges_of qs a → pick b (edge r.kind r.target ∷ edges_of (rs ++ qs) a) (edges_of (rs ++ qs) a) ≡ pick b (edge r.kind r.target ∷ edges_of rs a) (edges_of rs a) ++ edges_of qs a
  split true h = ap (λ (l : List Edge). edge r.kind r.target ∷ l) h
  split false h = h

edges_one : (s : ℕ) (k : BondKind) (t : Target) → edges_of (row s k t ∷ []) s ≡ edge k t ∷ []
unfolding edges_of
edges_one s k t = simp (eq-eqb s s refl)

edges_no : (s a : ℕ) (k : BondKind) (t : Target) → s ≢ a → edges_of (row s k t ∷ []) a ≡ []
unfolding edges_of
edges_no s a k t n = simp (ne_eqb s a n)

-- an entry more is one at its atom
pub nodes_push : (ks : List AtomKind) (rs : List Row) (s : ℕ) (k : BondKind) (t : Target) → nodes_of ks (edges_of (rs ++ (row s k t ∷ []))) ≡ upd s (add_edge (edge k t)) (nodes_of ks (edges_of rs))
unfolding add_edge
nodes_push ks rs s k t =
    nodes_upd ks (edges_of rs) (edges_of (rs ++ (row s k t ∷ []))) (add_edge (edge k t)) s
    (λ q. ap (λ (l : List Edge). node q l) (edges_append rs (row s k t ∷ []) s ∙ ap (λ (l : List Edge). edges_of rs s ++ l) (edges_one s k t)))
    (λ i n. edges_append rs (row s k t ∷ []) i ∙ ap (λ (l : List Edge). edges_of rs i ++ l) (edges_no s i k t (λ e. n (sym e))) ∙ append-nil (edges_of rs i))

-- an atom that no entry is at has none
pub edges_none : (rs : List Row) (n : ℕ) → ((p : ℕ) → p < length rs → (get_or rs p no_row).source < n) → edges_of rs n ≡ []
unfolding edges_of
edges_none [] n h = refl
edges_none (r ∷ rs) n h =
    let d : r.source ≢ n = λ e. omega (arith, h 0 (omega arith)) in
    rw (ne_eqb r.source n d) (edges_none rs n (λ p l. h (suc p) (omega arith)))

-- ---- the entry that a join opened
waits_own : (j : ℕ) → waits j (Open j) ≡ true
unfolding waits
waits_own j = eq-eqb j j refl

waits_not : (j : ℕ) (t : Target) → t ≢ Open j → waits j t ≡ false
unfolding waits
waits_not j (To t) n = refl
waits_not j (Open i) n = ne_eqb i j (λ e. n (ap Open e))

-- the row at p, opened by the join j, which opened none before it
pub record Opened (rs : List Row) (p a : ℕ) (k : BondKind) (j : ℕ) : Type 0 where
  pub within : p < length rs
  pub is : get_or rs p no_row ≡ row a k (Open j)
  pub first : (q : ℕ) → q < p → (get_or rs q no_row).target ≢ Open j

opened_rest : {r : Row} {rs : List Row} {p a : ℕ} {k : BondKind} {j : ℕ} → Opened (r ∷ rs) (suc p) a k j → Opened rs p a k j
opened_rest o = record { within = omega (arith, o.within); is = o.is; first = λ q h. o.first (suc q) (omega arith) }

-- its kind is found
pub opened_kind : (rs : List Row) (p a : ℕ) (k : BondKind) (j : ℕ) → Opened rs p a k j → open_kind j (edges_of rs a) ≡ k
unfolding open_kind edges_of
opened_kind [] p a k j o = absurd (omega (arith, o.within))
opened_kind (r ∷ rs) zero a k j o = rw (o.is, eq-eqb a a refl, waits_own j)
opened_kind (r ∷ rs) (suc p) a k j o = split (eqb r.source a) (opened_kind rs p a k j (opened_rest o)) where
  split : (b : Bool) → open_kind j (edges_of rs a) ≡ k → open_kind j (pick b (edge r.kind r.target ∷ edges_of rs a) (edges_of rs a)) ≡ k
  split true h = rw (waits_not j r.target (o.first 0 (omega arith))) h
  split false h = h

-- it is filled
edges_filled : (rs : List Row) (p a : ℕ) (k : BondKind) (j : ℕ) (l : BondKind) (t : ℕ) → Opened rs p a k j → edges_of (set rs p (row a l (To t))) a ≡ fill_edges j l t (edges_of rs a)
unfolding fill_edges edges_of
edges_filled [] p a k j l t o = absurd (omega (arith, o.within))
edges_filled (r ∷ rs) zero a k j l t o = rw (o.is, eq-eqb a a refl, waits_own j)
edges_filled (r ∷ rs) (suc p) a k j l t o = split (eqb r.source a) (edges_filled rs p a k j l t (opened_rest o)) where
  split : (b : Bool) → edges_of (set rs p (row a l (To t))) a ≡ fill_edges j l t (edges_of rs a) → pick b (edge r.kind r.target ∷ edges_of (set rs p (row a l (To t))) a) (edges_of (set rs p (row a l (To t))) a) ≡ fill_edges j l t (pick b (edge r.kind r.target ∷ edges_of rs a) (edges_of rs a))
  split true h = rw (waits_not j r.target (o.first 0 (omega arith))) (ap (λ (m : List Edge). edge r.kind r.target ∷ m) h)
  split false h = h

-- and no other atom is touched
edges_beside : (rs : List Row) (p a : ℕ) (l : BondKind) (x : Target) (i : ℕ) → p < length rs → (get_or rs p no_row).source ≡ a → i ≢ a → edges_of (set rs p (row a l x)) i ≡ edges_of rs i
unfolding edges_of
edges_beside [] p a l x i h e n = absurd (omega arith)
edges_beside (r ∷ rs) zero a l x i h e n =
    let d : r.source ≢ i = λ q. n (sym q ∙ e) in
    rw (ne_eqb a i (λ q. n (sym q)), ne_eqb r.source i d)
edges_beside (r ∷ rs) (suc p) a l x i h e n =
    ap (λ (m : List Edge). pick (eqb r.source i) (edge r.kind r.target ∷ m) m) (edges_beside rs p a l x i (omega arith) e n)

pub nodes_fill : (ks : List AtomKind) (rs : List Row) (p a : ℕ) (k : BondKind) (j : ℕ) (l : BondKind) (t : ℕ) → Opened rs p a k j → nodes_of ks (edges_of (set rs p (row a l (To t)))) ≡ upd a (fill j l t) (nodes_of ks (edges_of rs))
unfolding fill
nodes_fill ks rs p a k j l t o =
    nodes_upd ks (edges_of rs) (edges_of (set rs p (row a l (To t)))) (fill j l t) a
    (λ q. ap (λ (m : List Edge). node q m) (edges_filled rs p a k j l t o))
    (λ i n. edges_beside rs p a l (To t) i o.within (ap (λ (r : Row). r.source) o.is) n)

-- ---- words
pub flat_append : (rs qs : List Row) → flat (rs ++ qs) ≡ flat rs ++ flat qs
unfolding flat
flat_append [] qs = refl
flat_append (r ∷ rs) qs = ap (λ (l : List ℕ). r.source ∷ code_of r.kind ∷ target_of r.target ∷ l) (flat_append rs qs)

pub flat_length : (rs : List Row) → length (flat rs) ≡ length rs * entry_words
unfolding flat
flat_length [] = refl
flat_length (r ∷ rs) = omega (arith, flat_length rs)

-- past the first three words are those of the rest
pub three_more : (x y z i j : ℕ) (l : List ℕ) → i ≡ j + 3 → get_or (x ∷ y ∷ z ∷ l) i 0 ≡ get_or l j 0
three_more x y z i j l e =
    let d : i ≡ suc (suc (suc j)) = omega arith in
    ap (λ (n : ℕ). get_or (x ∷ y ∷ z ∷ l) n 0) d

pub flat_source : (rs : List Row) (p : ℕ) → p < length rs → get_or (flat rs) (p * entry_words) 0 ≡ (get_or rs p no_row).source
unfolding flat
flat_source [] p h = absurd (omega arith)
flat_source (r ∷ rs) zero h = refl
flat_source (r ∷ rs) (suc p) h =
    three_more _ _ _ (suc p * entry_words) (p * entry_words) (flat rs) (omega arith) ∙ flat_source rs p (omega arith)

pub flat_kind : (rs : List Row) (p : ℕ) → p < length rs → get_or (flat rs) (p * entry_words + 1) 0 ≡ code_of (get_or rs p no_row).kind
unfolding flat
flat_kind [] p h = absurd (omega arith)
flat_kind (r ∷ rs) zero h = refl
flat_kind (r ∷ rs) (suc p) h =
    three_more _ _ _ (suc p * entry_words + 1) (p * entry_words + 1) (flat rs) (omega arith) ∙ flat_kind rs p (omega arith)

pub flat_set : (rs : List Row) (p a : ℕ) (l : BondKind) (x : Target) → p < length rs → (get_or rs p no_row).source ≡ a → sets (flat rs) (p * entry_words + 1) (code_of l ∷ target_of x ∷ []) ≡ flat (set rs p (row a l x))
unfolding flat
flat_set [] p a l x h e = absurd (omega arith)
flat_set (r ∷ rs) zero a l x h e = rw e
flat_set (r ∷ rs) (suc p) a l x h e =
    let d : suc p * entry_words + 1 ≡ suc (suc (suc (p * entry_words + 1))) = omega arith in
    ap (λ (n : ℕ). sets (flat (r ∷ rs)) n (code_of l ∷ target_of x ∷ [])) d
    ∙ ap (λ (m : List ℕ). r.source ∷ code_of r.kind ∷ target_of r.target ∷ m) (flat_set rs p a l x (omega arith) e)
