-- Atoms, entries and the path: how each of them grows with its sketch. Assumes nothing.
use Prim.Native.Nat.{ℕ, zero, suc, ◌+◌, ◌*◌, ◌-◌, ◌<◌, ◌≤◌}
use mathlib.Core.Path.{◌≡◌, refl, ◌∙◌, ap, ap₂, sym, subst}
use mathlib.Core.Logic.{◌≢◌, inl, inr}
use mathlib.Core.List.{List, [], ◌∷◌, ◌++◌}
use native.Mathlib.Omega.{arith}
use native.Mathlib.Numerals.{add-one}
use lib.ListN.{length, get_or, set, take, drop, length-append, length-set, get_or-append}
use lib.Seq.{sets, sets-eq, length-take-le, take_at, take-set-lt, get_or_at, get_or-set_same, get_or-set_other}
use lib.Dec.{lit<}
use Rattle.feature.specs.Bonds.{code_of}
use Rattle.feature.specs.declared.atom_kind.AtomKind.{AtomKind}
use Rattle.feature.specs.declared.atom_kind.AtomKind.TheVariants.{Star}
use Rattle.feature.specs.declared.bond_kind.BondKind.{BondKind}
use Rattle.feature.proofs.Cases.{by_eq, impossible}
use Rattle.table.specs.Records.{atom_words}
use Rattle.packing.specs.Words.{words_of, list_of}
use Rattle.table.proofs.Stores.{sets_beside, sets_in, sets_first}
use Rattle.builder.specs.State.{entry_words, entry_list}
use Rattle.builder_meaning.specs.Sketch.{Target, To, Edge, Node, edge, node, count_of, upd, add_edge, fill, target_of}
use Rattle.builder_meaning.proofs.Rows.{Row, row, no_row, edges_of, flat, nodes_length, nodes_snoc, count_append, count_add, count_fill, nodes_push, edges_none, Opened, nodes_fill, flat_append, flat_set}
use Rattle.builder_meaning.proofs.Same.{Atoms, Entries, lastly, Way}

-- a list with one more
pub snoc_length : {A : Type 0} (l : List A) (x : A) → length (l ++ (x ∷ [])) ≡ length l + 1
snoc_length l x = length-append l (x ∷ [])

-- what holds of each of a list and of one more holds of each of the two together
pub snoc_each : {A : Type 0} (P : A → Type 0) (l : List A) (x d : A) → ((i : ℕ) → i < length l → P (get_or l i d)) → P x → (i : ℕ) → i < length (l ++ (x ∷ [])) → P (get_or (l ++ (x ∷ [])) i d)
snoc_each P l x d f g i h =
    by_eq i (length l) (λ e. subst P (sym (get_or_at l x [] d i (sym e))) g)
    (λ n. let k : i < length l = omega (arith, n, snoc_length l x) in subst P (sym (get_or-append l (x ∷ []) d i k)) (f i k))

-- ---- atoms
pub atoms_more : (ks : List AtomKind) (t : List ℕ) (k : AtomKind) (at : ℕ) → Atoms ks t → at ≡ length ks → at * atom_words + 2 ≤ length t → Atoms (ks ++ (k ∷ [])) (sets t (at * atom_words) (list_of k))
unfolding list_of
atoms_more ks t k at a e room =
    record {
      first = λ i h.
          by_eq i at
          (λ q. subst (λ (m : ℕ). get_or (sets t (at * atom_words) (list_of k)) (m * atom_words) 0 ≡ (words_of (get_or (ks ++ (k ∷ [])) m Star)).first) (sym q)
          (sets_first t (list_of k) (at * atom_words) room (lit< tt) ∙ ap (λ (x : AtomKind). (words_of x).first) (sym here)))
          (λ n. let l : i < length ks = omega (arith, n, snoc_length ks k) in
          sets_beside t (list_of k) (at * atom_words) (i * atom_words) (inl (omega arith))
          ∙ a.first i l ∙ ap (λ (x : AtomKind). (words_of x).first) (sym (get_or-append ks (k ∷ []) Star i l)));
      second = λ i h.
          by_eq i at
          (λ q. subst (λ (m : ℕ). get_or (sets t (at * atom_words) (list_of k)) (m * atom_words + 1) 0 ≡ (words_of (get_or (ks ++ (k ∷ [])) m Star)).second) (sym q)
          (sets_in t (list_of k) (at * atom_words) 1 room (lit< tt) ∙ ap (λ (x : AtomKind). (words_of x).second) (sym here)))
          (λ n. let l : i < length ks = omega (arith, n, snoc_length ks k) in
          sets_beside t (list_of k) (at * atom_words) (i * atom_words + 1) (inl (omega arith))
          ∙ a.second i l ∙ ap (λ (x : AtomKind). (words_of x).second) (sym (get_or-append ks (k ∷ []) Star i l)));
      past = λ i h.
          sets_beside t (list_of k) (at * atom_words) i (inr (omega (arith, snoc_length ks k)))
          ∙ a.past i (omega (arith, snoc_length ks k));
    }
  where
    here : get_or (ks ++ (k ∷ [])) at Star ≡ k
    here = get_or_at ks k [] Star at (sym e)

-- ---- entries
-- a run of stores behind the first n words
take_push : (t vs : List ℕ) (n : ℕ) → n + length vs ≤ length t → take (n + length vs) (sets t n vs) ≡ take n t ++ vs
take_push t vs n h =
    rw (sets-eq vs t n h)
    (take_at (take n t ++ vs) (drop (n + length vs) t) (n + length vs) (rw length-append (ap (λ (m : ℕ). m + length vs) (length-take-le n t (omega arith)))))

-- and within them
take_sets : (n : ℕ) (t vs : List ℕ) (i : ℕ) → i + length vs ≤ n → take n (sets t i vs) ≡ sets (take n t) i vs
take_sets n t [] i h = refl
take_sets n t (v ∷ vs) i h =
    take_sets n (set t i v) vs (suc i) (omega arith) ∙ ap (λ (l : List ℕ). sets l (suc i) vs) (take-set-lt n t i v (omega arith))

pub entries_root : (ks : List AtomKind) (rs : List Row) (t : List ℕ) (ns : List Node) (k : AtomKind) → Entries ks rs t ns → Entries (ks ++ (k ∷ [])) rs t (ns ++ (node k [] ∷ []))
unfolding count_of
entries_root ks rs t ns k g =
    record {
      nodes = ap₂ (λ (l : List Node) (es : List Edge). l ++ (node k es ∷ [])) g.nodes (sym (edges_none rs (length ks) g.sources)) ∙ sym (nodes_snoc ks k (edges_of rs));
      count = omega (arith, count_append ns (node k [] ∷ []), g.count);
      words = g.words;
      sources = λ p h. omega (arith, snoc_length ks k, g.sources p h);
      ends = λ p x h e. omega (arith, snoc_length ks k, g.ends p x h e);
    }

module _ (ks : List AtomKind) (rs : List Row) (t : List ℕ) (ns : List Node) (g : Entries ks rs t ns) where
  pub same_length : length ns ≡ length ks
  same_length = ap length g.nodes ∙ nodes_length ks (edges_of rs)

  pub entries_push : (s : ℕ) (k : BondKind) (x : Target) (at s' w : ℕ) → s < length ks → ((y : ℕ) → x ≡ To y → y < length ks) → at ≡ length rs → s' ≡ s → w ≡ target_of x → at * entry_words + 3 ≤ length t → Entries ks (rs ++ (row s k x ∷ [])) (sets t (at * entry_words) (entry_list s' (code_of k) w)) (upd s (add_edge (edge k x)) ns)
  unfolding flat
  entries_push s k x at s' w here there e es ew room =
      record {
        nodes = ap (upd s (add_edge (edge k x))) g.nodes ∙ sym (nodes_push ks rs s k x);
        count = omega (arith, count_add s (edge k x) ns (omega (arith, same_length)), g.count, snoc_length rs (row s k x));
        words =
            let size : length (rs ++ (row s k x ∷ [])) * entry_words ≡ at * entry_words + 3 = omega (arith, snoc_length rs (row s k x)) in
            ap (λ (n : ℕ). take n (sets t (at * entry_words) (entry_list s' (code_of k) w))) size
            ∙ take_push t (entry_list s' (code_of k) w) (at * entry_words) room
            ∙ ap (λ (n : ℕ). take (n * entry_words) t ++ entry_list s' (code_of k) w) e
            ∙ ap₂ (λ (l : List ℕ) (m : ℕ). l ++ entry_list m (code_of k) w) g.words es
            ∙ ap (λ (m : ℕ). flat rs ++ entry_list s (code_of k) m) ew
            ∙ sym (flat_append rs (row s k x ∷ []));
        sources = snoc_each (λ (r : Row). r.source < length ks) rs (row s k x) no_row g.sources here;
        ends = λ p y h. snoc_each (λ (r : Row). r.target ≡ To y → y < length ks) rs (row s k x) no_row (λ i l. g.ends i y l) (there y) p h;
      }

  pub entries_fill : (p a : ℕ) (k : BondKind) (j : ℕ) (l : BondKind) (x at w : ℕ) → Opened rs p a k j → x < length ks → at ≡ p * entry_words → w ≡ x → length rs * entry_words ≤ length t → Entries ks (set rs p (row a l (To x))) (sets t (at + 1) (code_of l ∷ w ∷ [])) (upd a (fill j l x) ns)
  unfolding target_of
  entries_fill p a k j l x at w o here e ew room =
      record {
        nodes = ap (upd a (fill j l x)) g.nodes ∙ sym (nodes_fill ks rs p a k j l x o);
        count = rw (length-set, count_fill) g.count;
        words =
            rw (length-set, e, ew)
            (take_sets (length rs * entry_words) t (code_of l ∷ x ∷ []) (p * entry_words + 1) (omega (arith, o.within))
            ∙ ap (λ (m : List ℕ). sets m (p * entry_words + 1) (code_of l ∷ x ∷ [])) g.words
            ∙ flat_set rs p a l (To x) o.within source);
        sources = λ q h.
            by_eq q p (λ i. subst (λ (r : Row). r.source < length ks) (sym (here_is q i)) (subst (λ (m : ℕ). m < length ks) source (g.sources p o.within)))
            (λ n. subst (λ (r : Row). r.source < length ks) (sym (get_or-set_other rs p q (row a l (To x)) no_row n)) (g.sources q (before q h)));
        ends = λ q y h.
            by_eq q p (λ i. subst (λ (r : Row). r.target ≡ To y → y < length ks) (sym (here_is q i)) (λ z. let d : x ≡ y = cc in omega arith))
            (λ n. subst (λ (r : Row). r.target ≡ To y → y < length ks) (sym (get_or-set_other rs p q (row a l (To x)) no_row n)) (g.ends q y (before q h)));
      }
    where
      source : (get_or rs p no_row).source ≡ a
      source = ap (λ (r : Row). r.source) o.is

      here_is : (q : ℕ) → q ≡ p → get_or (set rs p (row a l (To x))) q no_row ≡ row a l (To x)
      here_is q i = rw i (get_or-set_same rs p (row a l (To x)) no_row o.within)

      before : (q : ℕ) → q < length (set rs p (row a l (To x))) → q < length rs
      before q h = omega (arith, length-set rs p (row a l (To x)))

-- ---- the path
lastly_beside : (n : ℕ) (ws : List ℕ) (i v : ℕ) → n ≤ i → lastly n (set ws i v) ≡ lastly n ws
unfolding lastly
lastly_beside zero ws i v h = refl
lastly_beside (suc n) ws i v h =
    ap₂ (λ (x : ℕ) (l : List ℕ). x ∷ l) (get_or-set_other ws i n v 0 (λ e. omega arith)) (lastly_beside n ws i v (omega arith))

lastly_drop : (n m : ℕ) (ws : List ℕ) → drop m (lastly n ws) ≡ lastly (n - m) ws
unfolding lastly
lastly_drop zero zero ws = refl
lastly_drop zero (suc m) ws =
    let e : 0 ≡ 0 - suc m = omega arith in
    ap (λ (i : ℕ). lastly i ws) e
lastly_drop (suc n) zero ws =
    let e : suc n ≡ suc n - 0 = omega arith in
    ap (λ (i : ℕ). lastly i ws) e
lastly_drop (suc n) (suc m) ws =
    let e : n - m ≡ suc n - suc m = omega arith in
    lastly_drop n m ws ∙ ap (λ (i : ℕ). lastly i ws) e

pub way_enter : (n more top : ℕ) (ws path : List ℕ) (v u : ℕ) → Way n top ws path → v ≡ n → u ≡ n → more ≡ n + 1 → top < length ws → Way more (top + 1) (set ws top v) (u ∷ path)
unfolding lastly
way_enter n more top ws path v u w ev eu em h =
    record {
      is = rw add-one (ap₂ (λ (x : ℕ) (l : List ℕ). x ∷ l) (eu ∙ sym ev ∙ sym (get_or-set_same ws top v 0 h)) (w.is ∙ sym (lastly_beside top ws top v (omega arith))));
      below = λ i l.
          by_eq i top (λ q. rw (q, get_or-set_same ws top v 0 h) (omega arith))
          (λ d. rw (get_or-set_other ws top i v 0 d) (omega (arith, w.below i (omega (arith, d)))));
      short = omega (arith, w.short);
    }

pub way_pop : (n top : ℕ) (ws path : List ℕ) (m : ℕ) → Way n top ws path → Way n (top - m) ws (drop m path)
way_pop n top ws path m w =
    record {
      is = ap (drop m) w.is ∙ lastly_drop top m ws;
      below = λ i l. w.below i (omega arith);
      short = omega (arith, w.short);
    }

pub way_none : (n top : ℕ) (ws : List ℕ) → Way n top ws [] → top ≡ 0
unfolding lastly
way_none n zero ws w = refl
way_none n (suc top) ws w = impossible (cc w.is)

-- the current atom
pub record Current (n top : ℕ) (ws : List ℕ) (s : ℕ) : Type 0 where
  pub some : top ≢ 0
  pub is : get_or ws (top - 1) 0 ≡ s
  pub below : s < n

pub way_some : (n top : ℕ) (ws : List ℕ) (s : ℕ) (rest : List ℕ) → Way n top ws (s ∷ rest) → Current n top ws s
unfolding lastly
way_some n zero ws s rest w = impossible (cc w.is)
way_some n (suc top) ws s rest w =
    let e : s ≡ get_or ws top 0 = cc w.is in
    let i : suc top - 1 ≡ top = omega arith in
    record {
      some = λ z. omega arith;
      is = ap (λ (m : ℕ). get_or ws m 0) i ∙ sym e;
      below = omega (arith, w.below top (omega arith), e);
    }
