-- The open ring numbers: how they go with the entries. Assumes nothing.
use Prim.Native.Nat.{ℕ, suc, ◌<◌, ◌≤◌}
use mathlib.Core.Path.{◌≡◌, refl, ◌∙◌, ap, sym, subst}
use mathlib.Core.Logic.{◌≢◌}
use mathlib.Core.List.{List, [], ◌∷◌, ◌++◌}
use mathlib.Core.Option.{Option, none, some}
use native.Mathlib.Omega.{arith}
use lib.ListN.{length, get_or, set, length-set, get_or-append}
use lib.Seq.{get_or_at, get_or-set_same, get_or-set_other}
use lib.Dec.{eqb}
use borrow.Author.Tests.{eq-eqb, ne_eqb}
use Rattle.feature.specs.Pick.{pick}
use Rattle.feature.specs.declared.bond_kind.BondKind.{BondKind}
use Rattle.feature.proofs.Cases.{by_eq, impossible}
use Rattle.table.specs.Limits.{ring_number_count}
use Rattle.builder_meaning.specs.Sketch.{Target, To, Open, Held, lookup, ring_freed}
use Rattle.builder_meaning.proofs.Rows.{Row, row, no_row, Opened}
use Rattle.builder_meaning.proofs.Same.{At, Ring, Rings}
use Rattle.builder_meaning.proofs.Parts.{snoc_length, snoc_each}

-- ---- what is held under a number
lookup_here : (n : ℕ) (h : Held) (hs : List Held) → h.number ≡ n → lookup n (h ∷ hs) ≡ some h
unfolding lookup
lookup_here n h hs e = simp (eq-eqb h.number n e)

lookup_past : (n : ℕ) (h : Held) (hs : List Held) → h.number ≢ n → lookup n (h ∷ hs) ≡ lookup n hs
unfolding lookup
lookup_past n h hs d = simp (ne_eqb h.number n d)

lookup_freed : (n : ℕ) (hs : List Held) → lookup n (ring_freed n hs) ≡ none
unfolding lookup ring_freed
lookup_freed n [] = refl
lookup_freed n (h ∷ hs) =
    by_eq h.number n (λ e. rw (eq-eqb h.number n e) (lookup_freed n hs))
    (λ d. rw (ne_eqb h.number n d, ne_eqb h.number n d) (lookup_freed n hs))

lookup_kept : (n m : ℕ) (hs : List Held) → m ≢ n → lookup m (ring_freed n hs) ≡ lookup m hs
unfolding lookup ring_freed
lookup_kept n m [] d = refl
lookup_kept n m (h ∷ hs) d =
    by_eq h.number n
    (λ e. rw (eq-eqb h.number n e, ne_eqb h.number m (λ q. d (sym q ∙ e))) (lookup_kept n m hs d))
    (λ f. rw (ne_eqb h.number n f) (ap (λ (o : Option Held). pick (eqb h.number m) (some h) o) (lookup_kept n m hs d)))

-- a word that some number has is the place of an entry
pub ring_within : (rs : List Row) (w : ℕ) (o : Option Held) → Ring rs w o → w ≤ length rs
ring_within rs w none r = omega arith
ring_within rs w (some h) r = omega (arith, r.word, r.within)

-- what is held goes on where the entries that are held do
ring_along : (rs qs : List Row) (w : ℕ) (o : Option Held) → length rs ≤ length qs → ((p : ℕ) → p < length rs → w ≡ suc p → get_or qs p no_row ≡ get_or rs p no_row) → Ring rs w o → Ring qs w o
ring_along rs qs w none l f r = r
ring_along rs qs w (some h) l f r =
    record {
      place = r.place;
      kind = r.kind;
      word = r.word;
      within = omega (arith, r.within);
      is = f r.place r.within r.word ∙ r.is;
    }

module _ (rs : List Row) (ws : List ℕ) (hs : List Held) (j : ℕ) (g : Rings rs ws hs j) where
  -- more joins
  pub rings_later : (i : ℕ) → j ≤ i → Rings rs ws hs i
  rings_later i h =
      record { each = g.each; apart = g.apart; once = g.once; older = λ p k l e. omega (arith, g.older p k l e) }

  -- an entry more, opened by a new join or by none
  pub rings_push : (s : ℕ) (k : BondKind) (x : Target) (i : ℕ) → j ≤ i → ((y : ℕ) → x ≡ Open y → (j ≤ y) × (y < i)) → Rings (rs ++ (row s k x ∷ [])) ws hs i
  rings_push s k x i h new =
      record {
        each = λ n l. ring_along rs (rs ++ (row s k x ∷ [])) (get_or ws n 0) (lookup n hs) (omega (arith, snoc_length rs (row s k x)))
            (λ p q e. get_or-append rs (row s k x ∷ []) no_row p q) (g.each n l);
        apart = g.apart;
        once = λ p q y l m a b.
            by_eq p (length rs)
            (λ e. by_eq q (length rs) (λ f. e ∙ sym f)
            (λ f. let q' : q < length rs = omega (arith, f, snoc_length rs (row s k x)) in
            absurd (clash y (last p y e a) q q' (first q y q' b))))
            (λ e. let p' : p < length rs = omega (arith, e, snoc_length rs (row s k x)) in
            by_eq q (length rs) (λ f. absurd (clash y (last q y f b) p p' (first p y p' a)))
            (λ f. let q' : q < length rs = omega (arith, f, snoc_length rs (row s k x)) in
            g.once p q y p' q' (first p y p' a) (first q y q' b)));
        older = λ p y l. snoc_each (λ (r : Row). r.target ≡ Open y → y < i) rs (row s k x) no_row (λ q m e. omega (arith, g.older q y m e)) (λ e. (new y e).1) p l;
      }
    where
      first : (p y : ℕ) → p < length rs → (get_or (rs ++ (row s k x ∷ [])) p no_row).target ≡ Open y → (get_or rs p no_row).target ≡ Open y
      first p y h e = ap (λ (r : Row). r.target) (sym (get_or-append rs (row s k x ∷ []) no_row p h)) ∙ e

      last : (p y : ℕ) → p ≡ length rs → (get_or (rs ++ (row s k x ∷ [])) p no_row).target ≡ Open y → x ≡ Open y
      last p y h e = ap (λ (r : Row). r.target) (sym (get_or_at rs (row s k x) [] no_row p (sym h))) ∙ e

      clash : (y : ℕ) → x ≡ Open y → (p : ℕ) → p < length rs → (get_or rs p no_row).target ≡ Open y → ⊥
      clash y e p h f = omega (arith, (new y e).0, g.older p y h f)

  -- a free number holds an entry that no other holds
  pub rings_hold : (n v : ℕ) (h : Held) → n < ring_number_count → ring_number_count ≤ length ws → h.number ≡ n → At rs v h → ((m : ℕ) → m < ring_number_count → get_or ws m 0 ≢ v) → Rings rs (set ws n v) (h ∷ hs) j
  rings_hold n v h here room e at new =
      record {
        each = λ m l.
            by_eq m n
            (λ q. subst (λ (i : ℕ). Ring rs (get_or (set ws n v) i 0) (lookup i (h ∷ hs))) (sym q)
            (subst (λ (w : ℕ). Ring rs w (lookup n (h ∷ hs))) (sym (get_or-set_same ws n v 0 (omega arith)))
            (subst (λ (o : Option Held). Ring rs v o) (sym (lookup_here n h hs e)) at)))
            (λ d. subst (λ (w : ℕ). Ring rs w (lookup m (h ∷ hs))) (sym (get_or-set_other ws n m v 0 d))
            (subst (λ (o : Option Held). Ring rs (get_or ws m 0) o) (sym (lookup_past m h hs (λ q. d (sym q ∙ e)))) (g.each m l)));
        apart = λ m k l o nz same.
            by_eq m n
            (λ q. by_eq k n (λ f. q ∙ sym f)
            (λ f. absurd (new k o (sym (get_or-set_other ws n k v 0 f) ∙ sym same ∙ ap (λ (i : ℕ). get_or (set ws n v) i 0) q ∙ get_or-set_same ws n v 0 (omega arith)))))
            (λ d. by_eq k n
            (λ f. absurd (new m l (sym (get_or-set_other ws n m v 0 d) ∙ same ∙ ap (λ (i : ℕ). get_or (set ws n v) i 0) f ∙ get_or-set_same ws n v 0 (omega arith))))
            (λ f. g.apart m k l o (λ z. nz (get_or-set_other ws n m v 0 d ∙ z)) (sym (get_or-set_other ws n m v 0 d) ∙ same ∙ get_or-set_other ws n k v 0 f)));
        once = g.once;
        older = g.older;
      }

  -- a number is free again
  pub rings_free : (n : ℕ) → n < ring_number_count → ring_number_count ≤ length ws → Rings rs (set ws n 0) (ring_freed n hs) j
  rings_free n here room =
      record {
        each = λ m l.
            by_eq m n
            (λ q. subst (λ (i : ℕ). Ring rs (get_or (set ws n 0) i 0) (lookup i (ring_freed n hs))) (sym q)
            (subst (λ (o : Option Held). Ring rs (get_or (set ws n 0) n 0) o) (sym (lookup_freed n hs)) (get_or-set_same ws n 0 0 (omega arith))))
            (λ d. subst (λ (w : ℕ). Ring rs w (lookup m (ring_freed n hs))) (sym (get_or-set_other ws n m 0 0 d))
            (subst (λ (o : Option Held). Ring rs (get_or ws m 0) o) (sym (lookup_kept n m hs d)) (g.each m l)));
        apart = λ m k l o nz same.
            by_eq m n (λ q. absurd (nz (ap (λ (i : ℕ). get_or (set ws n 0) i 0) q ∙ get_or-set_same ws n 0 0 (omega arith))))
            (λ d. by_eq k n
            (λ f. absurd (nz (same ∙ ap (λ (i : ℕ). get_or (set ws n 0) i 0) f ∙ get_or-set_same ws n 0 0 (omega arith))))
            (λ f. g.apart m k l o (λ z. nz (get_or-set_other ws n m 0 0 d ∙ z)) (sym (get_or-set_other ws n m 0 0 d) ∙ same ∙ get_or-set_other ws n k 0 0 f)));
        once = g.once;
        older = g.older;
      }

  -- an entry that no number holds is closed
  pub rings_fill : (p a : ℕ) (l : BondKind) (x : ℕ) → ((m : ℕ) → m < ring_number_count → get_or ws m 0 ≢ suc p) → p < length rs → Rings (set rs p (row a l (To x))) ws hs j
  rings_fill p a l x free within =
      record {
        each = λ n h. ring_along rs (set rs p (row a l (To x))) (get_or ws n 0) (lookup n hs) (omega (arith, length-set rs p (row a l (To x))))
            (λ q i e. get_or-set_other rs p q (row a l (To x)) no_row (λ f. free n h (e ∙ ap suc f))) (g.each n h);
        apart = g.apart;
        once = λ q m y h i e f. g.once q m y (before q h) (before m i) (was q y e) (was m y f);
        older = λ q y h e. g.older q y (before q h) (was q y e);
      }
    where
      before : (q : ℕ) → q < length (set rs p (row a l (To x))) → q < length rs
      before q h = omega (arith, length-set rs p (row a l (To x)))

      -- an entry open after it was open before
      was : (q y : ℕ) → (get_or (set rs p (row a l (To x))) q no_row).target ≡ Open y → (get_or rs q no_row).target ≡ Open y
      was q y e =
          by_eq q p
          (λ i. absurd (let s : To x ≡ Open y = ap (λ (r : Row). r.target) (sym (ap (λ (n : ℕ). get_or (set rs p (row a l (To x))) n no_row) i ∙ get_or-set_same rs p (row a l (To x)) no_row within)) ∙ e in impossible cc))
          (λ d. ap (λ (r : Row). r.target) (sym (get_or-set_other rs p q (row a l (To x)) no_row d)) ∙ e)

  -- the entry that a number holds is the only one of its join
  pub rings_opened : (n : ℕ) (h : Held) → (at : At rs (get_or ws n 0) h) → Opened rs at.place h.atom at.kind h.join
  rings_opened n h at =
      record {
        within = at.within;
        is = at.is;
        first = λ q l e. omega (arith, g.once q at.place h.join (omega (arith, at.within)) at.within e (ap (λ (r : Row). r.target) at.is));
      }

  -- no other number holds it
  pub rings_alone : (n : ℕ) (h : Held) → n < ring_number_count → ring_number_count ≤ length ws → (at : At rs (get_or ws n 0) h) → (m : ℕ) → m < ring_number_count → get_or (set ws n 0) m 0 ≢ suc at.place
  rings_alone n h here room at m l e =
      by_eq m n (λ q. omega (arith, sym e ∙ ap (λ (i : ℕ). get_or (set ws n 0) i 0) q ∙ get_or-set_same ws n 0 0 (omega arith)))
      (λ d. d (g.apart m n l here (λ z. omega (arith, sym e ∙ get_or-set_other ws n m 0 0 d ∙ z)) (sym (get_or-set_other ws n m 0 0 d) ∙ e ∙ sym at.word)))
