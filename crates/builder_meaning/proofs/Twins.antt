-- Each entry has its reverse at the other end. Assumes nothing.
use Prim.Native.Nat.{ℕ, zero, suc, ◌+◌, ◌%◌, ◌<◌, ◌≤◌}
use mathlib.Core.Path.{◌≡◌, refl, ◌∙◌, ap, sym}
use mathlib.Core.List.{List, [], ◌∷◌, ◌++◌}
use mathlib.Core.Bool.{Bool, true, false}
use native.Mathlib.Omega.{arith}
use lib.ListN.{length, get_or, set}
use lib.Dec.{ltb, eqb}
use borrow.Author.Tests.{ltb-true, ltb-false}
use Rattle.feature.specs.Pick.{pick, both}
use Rattle.feature.specs.Bonds.{same_kind, reverse_of}
use Rattle.feature.specs.declared.atom_kind.AtomKind.{AtomKind}
use Rattle.feature.specs.declared.bond_kind.BondKind.{BondKind}
use Rattle.feature.proofs.Bonds.{reverse_twice, same_reverse}
use Rattle.builder_meaning.specs.Sketch.{To, Open, Edge, edge, edges_at, leads, is_edge_to, bonds_to, BothEnds}
use Rattle.builder_meaning.proofs.Rows.{Row, row, no_row, edges_of, nodes_of, edges_at_lem, edges_none, Opened}

-- ---- kinds
-- ---- rows
-- as many of each sort at one end as of the reverse at the other, and an even number where both are the same
pub record Twins (rs : List Row) : Type 0 where
  pub ends : (a t : ℕ) (k : BondKind) → bonds_to k t (edges_of rs a) ≡ bonds_to (reverse_of k) a (edges_of rs t)
  pub even : (a : ℕ) (k : BondKind) → reverse_of k ≡ k → bonds_to k a (edges_of rs a) % 2 ≡ 0

-- what a row adds to them
unfoldable hits : ℕ → BondKind → ℕ → Row → ℕ
hits a k t r = pick (eqb r.source a) (pick (is_edge_to k t (edge r.kind r.target)) 1 0) 0

-- a row seen from its other end
hits_back : (a : ℕ) (k : BondKind) (t s : ℕ) (e : BondKind) (x : ℕ) → hits a k t (row s e (To x)) ≡ hits t (reverse_of k) a (row x (reverse_of e) (To s))
unfolding hits is_edge_to leads
hits_back a k t s e x = rw (same_reverse e k) (turn (eqb s a) (same_kind e k) (eqb x t)) where
  turn : (p q r : Bool) → pick {A = ℕ} p (pick (both q r) 1 0) 0 ≡ pick r (pick (both q p) 1 0) 0
  turn true true true = refl
  turn true true false = refl
  turn true false true = refl
  turn true false false = refl
  turn false true true = refl
  turn false true false = refl
  turn false false true = refl
  turn false false false = refl

-- an open one adds nothing
hits_open : (a : ℕ) (k : BondKind) (t : ℕ) (r : Row) (j : ℕ) → r.target ≡ Open j → hits a k t r ≡ 0
unfolding hits is_edge_to leads
hits_open a k t r j e = rw e (none (eqb r.source a) (same_kind r.kind k)) where
  none : (p q : Bool) → pick {A = ℕ} p (pick (both q false) 1 0) 0 ≡ 0
  none true true = refl
  none true false = refl
  none false q = refl

bonds_cons : (a : ℕ) (k : BondKind) (t : ℕ) (r : Row) (rs : List Row) → bonds_to k t (edges_of (r ∷ rs) a) ≡ hits a k t r + bonds_to k t (edges_of rs a)
unfolding edges_of bonds_to hits
bonds_cons a k t r rs = split (eqb r.source a) where
  split : (q : Bool) → bonds_to k t (pick q (edge r.kind r.target ∷ edges_of rs a) (edges_of rs a)) ≡ pick q (pick (is_edge_to k t (edge r.kind r.target)) 1 0) 0 + bonds_to k t (edges_of rs a)
  split true = refl
  split false = omega arith

-- a row more
bonds_more : (a : ℕ) (k : BondKind) (t : ℕ) (rs : List Row) (r : Row) → bonds_to k t (edges_of (rs ++ (r ∷ [])) a) ≡ bonds_to k t (edges_of rs a) + hits a k t r
bonds_more a k t [] r = omega (arith, bonds_cons a k t r [])
bonds_more a k t (q ∷ rs) r =
    omega (arith, bonds_cons a k t q rs, bonds_cons a k t q (rs ++ (r ∷ [])), bonds_more a k t rs r)

-- an open one filled
bonds_set : (a : ℕ) (k : BondKind) (t : ℕ) (rs : List Row) (p j : ℕ) (r : Row) → p < length rs → (get_or rs p no_row).target ≡ Open j → bonds_to k t (edges_of (set rs p r) a) ≡ bonds_to k t (edges_of rs a) + hits a k t r
bonds_set a k t [] p j r h e = absurd (omega arith)
bonds_set a k t (q ∷ rs) zero j r h e =
    omega (arith, bonds_cons a k t r rs, bonds_cons a k t q rs, hits_open a k t q j e)
bonds_set a k t (q ∷ rs) (suc p) j r h e =
    omega (arith, bonds_cons a k t q rs, bonds_cons a k t q (set rs p r), bonds_set a k t rs p j r (omega arith) e)

-- an entry opened
pub twins_open : (rs : List Row) (s : ℕ) (e : BondKind) (j : ℕ) → Twins rs → Twins (rs ++ (row s e (Open j) ∷ []))
twins_open rs s e j w =
    let r = row s e (Open j) in
    record {
      ends = λ a t k.
          omega (arith, w.ends a t k, bonds_more a k t rs r, bonds_more t (reverse_of k) a rs r, hits_open a k t r j refl, hits_open t (reverse_of k) a r j refl);
      even = λ a k own. omega (arith, w.even a k own, bonds_more a k a rs r, hits_open a k a r j refl);
    }

-- a bond's two entries, one behind all and one before it that adds what it is
twins_pair : (rs qs : List Row) (s x : ℕ) (e f : BondKind) → f ≡ reverse_of e → ((a : ℕ) (k : BondKind) (t : ℕ) → bonds_to k t (edges_of qs a) ≡ bonds_to k t (edges_of rs a) + hits a k t (row s e (To x))) → Twins rs → Twins (qs ++ (row x f (To s) ∷ []))
twins_pair rs qs s x e f back more w =
    record {
      ends = λ a t k.
          omega (arith, w.ends a t k, more a k t, more t (reverse_of k) a, bonds_more a k t qs here, bonds_more t (reverse_of k) a qs here, one a t k, two a t k);
      even = λ a k own.
          let o : hits a k a there ≡ hits a k a here = one a a k ∙ ap (λ (y : BondKind). hits a y a here) own in
          omega (arith, w.even a k own, more a k a, bonds_more a k a qs here, o);
    }
  where
    there : Row
    there = row s e (To x)

    here : Row
    here = row x f (To s)

    one : (a t : ℕ) (k : BondKind) → hits a k t there ≡ hits t (reverse_of k) a here
    one a t k = hits_back a k t s e x ∙ ap (λ (g : BondKind). hits t (reverse_of k) a (row x g (To s))) (sym back)

    two : (a t : ℕ) (k : BondKind) → hits a k t here ≡ hits t (reverse_of k) a there
    two a t k = hits_back a k t x f s ∙ ap (λ (g : BondKind). hits t (reverse_of k) a (row s g (To x))) (ap reverse_of back ∙ reverse_twice e)

-- a bond to a new atom
pub twins_extend : (rs : List Row) (s t : ℕ) (e : BondKind) → Twins rs → Twins ((rs ++ (row s e (To t) ∷ [])) ++ (row t (reverse_of e) (To s) ∷ []))
twins_extend rs s t e =
    twins_pair rs (rs ++ (row s e (To t) ∷ [])) s t e (reverse_of e) refl (λ a k x. bonds_more a k x rs (row s e (To t)))

-- a ring number closed
pub twins_close : (rs : List Row) (p a : ℕ) (k : BondKind) (j : ℕ) (l r : BondKind) (s : ℕ) → Opened rs p a k j → r ≡ reverse_of l → Twins rs → Twins (set rs p (row a l (To s)) ++ (row s r (To a) ∷ []))
twins_close rs p a k j l r s o back =
    twins_pair rs (set rs p (row a l (To s))) a s l r back
    (λ b m x. bonds_set b m x rs p j (row a l (To s)) o.within (ap (λ (q : Row). q.target) o.is))

-- ---- atoms
-- beyond the atoms there are no entries
edges_past : (ks : List AtomKind) (f : ℕ → List Edge) (i : ℕ) → length ks ≤ i → edges_at i (nodes_of ks f) ≡ []
unfolding edges_at nodes_of
edges_past [] f i h = refl
edges_past (k ∷ ks) f zero h = absurd (omega arith)
edges_past (k ∷ ks) f (suc i) h = edges_past ks (λ j. f (suc j)) i (omega arith)

-- so each number has its rows
edges_all : (ks : List AtomKind) (rs : List Row) → ((p : ℕ) → p < length rs → (get_or rs p no_row).source < length ks) → (a : ℕ) → edges_at a (nodes_of ks (edges_of rs)) ≡ edges_of rs a
edges_all ks rs h a = split (ltb a (length ks)) refl where
  split : (q : Bool) → ltb a (length ks) ≡ q → edges_at a (nodes_of ks (edges_of rs)) ≡ edges_of rs a
  split true e = edges_at_lem ks (edges_of rs) a (ltb-true a (length ks) e)
  split false e =
      let l = ltb-false a (length ks) e in
      edges_past ks (edges_of rs) a l ∙ sym (edges_none rs a (λ p i. omega (arith, l, h p i)))

pub twins_ends : (ks : List AtomKind) (rs : List Row) → Twins rs → ((p : ℕ) → p < length rs → (get_or rs p no_row).source < length ks) → BothEnds (nodes_of ks (edges_of rs))
twins_ends ks rs w h =
    record {
      ends = λ a t k.
          ap (bonds_to k t) (edges_all ks rs h a) ∙ w.ends a t k ∙ ap (bonds_to (reverse_of k) a) (sym (edges_all ks rs h t));
      even = λ a k own. ap (λ (l : List Edge). bonds_to k a l % 2) (edges_all ks rs h a) ∙ w.even a k own;
    }
