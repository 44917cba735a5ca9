-- Counts along the chains of an atom: what is put, what is taken off, and that nothing is left where all bonds are held at both
-- ends. Assumes nothing.
use Prim.Native.Nat.{ℕ, suc, ◌+◌, ◌-◌, ◌%◌, ◌<◌, ◌≤◌}
use mathlib.Core.Path.{◌≡◌, refl, sym, ap, ◌∙◌, subst}
use mathlib.Core.Logic.{◌≢◌}
use mathlib.Core.List.{List}
use mathlib.Core.Bool.{Bool, true, false, false≢true}
use native.Mathlib.Omega.{arith}
use lib.ListN.{length, get_or, set, length-set}
use lib.Seq.{get_or-set_same, get_or-set_other}
use lib.Dec.{eqb, ltb}
use borrow.Author.Tests.{eqb-true, eqb-false, eq-eqb, ne_eqb, ltb-true, ltb-false, lt-leb, le-leb}
use Rattle.feature.specs.Pick.{pick, neither, both}
use Rattle.feature.specs.Every.{every}
use Rattle.feature.proofs.Every.{every_fails, every_all}
use Rattle.feature.specs.Bonds.{code_of, kind_of, reverse_of}
use Rattle.feature.specs.declared.bond_kind.BondKind.{BondKind}
use Rattle.feature.specs.declared.bond_kind.BondKind.TheVariants as bonds
use Rattle.feature.proofs.Cases.{by_eq, both_first, both_second}
use Rattle.feature.proofs.Bonds.{reverse_twice, same_code}
use Rattle.table.specs.Limits.{atom_limit, bond_limit}
use Rattle.builder.specs.State.{unclosed}
use Rattle.desk_state.specs.Standing.{source_at, entry_kind_at, target_at, bonds_counted, turned_of, is_own, is_matched, is_paired}
use Rattle.desk_state.specs.Steps.{is_of, last_at, Linked, bond_kind_count, cell_of, HasCount, Sound, own_at, out_cell, back_cell, more_of, put_of, can_take, take_of, val_at, CountedAfter, Taken, NoneCounted, BondsMatch}
use Rattle.desk_state.proofs.Ends.{turned_code, to_matched}
use Rattle.desk_state.proofs.Links.{last_le, last_same, last_is, word_source, of_closed, IsBond, adds, adds_one, adds_none, count_suc, count_zero, count_most, out_last, back_last}

-- ---- cells
pub code_most : (k : BondKind) → (1 ≤ code_of k) × (code_of k ≤ bond_kind_count)
unfolding code_of
code_most bonds.Elided = (omega arith, omega arith)
code_most bonds.Single = (omega arith, omega arith)
code_most bonds.Double = (omega arith, omega arith)
code_most bonds.Triple = (omega arith, omega arith)
code_most bonds.Quadruple = (omega arith, omega arith)
code_most bonds.Aromatic = (omega arith, omega arith)
code_most bonds.Up = (omega arith, omega arith)
code_most bonds.Down = (omega arith, omega arith)

cells_differ : (t u x y : ℕ) → 1 ≤ x → x ≤ bond_kind_count → 1 ≤ y → y ≤ bond_kind_count → cell_of t x ≡ cell_of u y → (t ≡ u) × (x ≡ y)
cells_differ t u x y a b c d e = (omega arith, omega arith)

same_cell : (t u : ℕ) (j k : BondKind) → cell_of t (code_of j) ≡ cell_of u (code_of k) → (t ≡ u) × (j ≡ k)
same_cell t u j k e =
    let z = cells_differ t u (code_of j) (code_of k) (code_most j).0 (code_most j).1 (code_most k).0 (code_most k).1 e in
    (z.0, same_code j k z.1)

in_room : (size t : ℕ) (k : BondKind) → HasCount size t → cell_of t (code_of k) < size
in_room size t k w = omega (arith, w.1, (code_most k).1)

-- ---- bonds that are their own reverse
own_parts : (a t : ℕ) (k : BondKind) → is_own a (code_of k) t ≡ true → (a ≡ t) × (reverse_of k ≡ k)
unfolding is_own
own_parts a t k h =
    (eqb-true _ _ (both_first (eqb a t) _ h), same_code (reverse_of k) k (sym (eqb-true _ _ (both_second (eqb a t) _ h) ∙ turned_code k)))

own_from : (a t : ℕ) (k : BondKind) → a ≡ t → reverse_of k ≡ k → is_own a (code_of k) t ≡ true
unfolding is_own
own_from a t k e f = rw (eq-eqb a t e) (eq-eqb (code_of k) (turned_of (kind_of (code_of k))) (ap code_of (sym f) ∙ sym (turned_code k)))

-- seen from the other end
own_back : (a t : ℕ) (k : BondKind) → is_own a (code_of k) t ≡ false → is_own t (code_of (reverse_of k)) a ≡ false
own_back a t k not = go (is_own t (code_of (reverse_of k)) a) refl where
  go : (q : Bool) → is_own t (code_of (reverse_of k)) a ≡ q → is_own t (code_of (reverse_of k)) a ≡ false
  go true is =
      let z = own_parts t a (reverse_of k) is in
      absurd (false≢true (sym not ∙ own_from a t k (sym z.0) (sym z.1 ∙ reverse_twice k)))
  go false is = is

-- ---- entries that are not paired
module _ (e : List ℕ) (n i : ℕ) (below : i < n) (closed : target_at e i < unclosed) where
  abbrev here : ℕ
  here = bonds_counted e (source_at e i) (entry_kind_at e i) (target_at e i) n

  abbrev there : ℕ
  there = bonds_counted e (target_at e i) (turned_of (kind_of (entry_kind_at e i))) (source_at e i) n

  unpaired : here ≢ there → is_paired e n i ≡ false
  unfolding is_paired is_matched
  unpaired ne = rw (lt-leb unclosed (target_at e i) closed, ne_eqb here there ne) refl

  pub differ_fails : here ≢ there → every (is_paired e n) n ≡ false
  differ_fails ne = every_fails (is_paired e n) n i below (unpaired ne)

  odd : own_at e i ≡ true → here % 2 ≢ 0 → is_paired e n i ≡ false
  unfolding is_paired is_matched
  odd own ne = rw (lt-leb unclosed (target_at e i) closed, own, ne_eqb (here % 2) 0 ne) (go (eqb here there)) where
    go : (q : Bool) → both q false ≡ false
    go true = refl
    go false = refl

  pub odd_fails : own_at e i ≡ true → here % 2 ≢ 0 → every (is_paired e n) n ≡ false
  odd_fails own ne = every_fails (is_paired e n) n i below (odd own ne)

paired_open : (e : List ℕ) (n i : ℕ) → unclosed ≤ target_at e i → is_paired e n i ≡ true
unfolding is_paired
paired_open e n i u = rw (le-leb unclosed (target_at e i) u) refl

paired_closed : (e : List ℕ) (n i : ℕ) → target_at e i < unclosed → is_matched (is_own (source_at e i) (entry_kind_at e i) (target_at e i)) (bonds_counted e (source_at e i) (entry_kind_at e i) (target_at e i) n) (bonds_counted e (target_at e i) (turned_of (kind_of (entry_kind_at e i))) (source_at e i) n) ≡ true → is_paired e n i ≡ true
unfolding is_paired
paired_closed e n i l m = rw (lt-leb unclosed (target_at e i) l) m

-- nothing is left of the entries from a but of the first p
abbrev pub Level : List ℕ → ℕ → ℕ → ℕ → List ℕ → Type 0
Level e n a p d =
    (t : ℕ) (k : BondKind) → HasCount (length d) t → bonds_counted e a (code_of k) t p < bonds_counted e a (code_of k) t n → val_at d t k ≡ 0

-- ---- along a chain
-- where a walk has come to: the last entry of its atom among the first p
pub record Stands (e : List ℕ) (column a n p : ℕ) : Type 0 where
  pub within : p ≤ n
  pub last : last_at e column a p ≡ p

pub stands_head : (e : List ℕ) (column a n : ℕ) (head next : List ℕ) {p : ℕ} → Linked e column n head next → a < length head → p ≡ get_or head a 0 → Stands e column a n p
stands_head e column a n head next h l is =
    let z = is ∙ h.heads a l in
    record { within = omega (arith, z, last_le e column a n); last = ap (last_at e column a) z ∙ last_same e column a n ∙ sym z }

-- the entry there, and where the walk goes on
pub record Entry (e : List ℕ) (column a n i : ℕ) : Type 0 where
  pub below : i < n
  pub closed : target_at e i < unclosed
  pub key : is_of e column a i ≡ true

pub entry_at_lem : (e : List ℕ) (column a n i : ℕ) → Stands e column a n (suc i) → Entry e column a n i
entry_at_lem e column a n i s =
    let z = last_is e column a i s.last in
    record { below = omega (arith, s.within); closed = (of_closed e column a i z).0; key = z }

pub stands_next : (e : List ℕ) (column a n i : ℕ) (head next : List ℕ) {p : ℕ} → Linked e column n head next → Stands e column a n (suc i) → p ≡ get_or next i 0 → (p ≡ last_at e column a i) × Stands e column a n p × (p < suc i)
stands_next e column a n i head next {p} h s is =
    let w = entry_at_lem e column a n i s in
    let z : p ≡ last_at e column a i = is ∙ h.nexts i w.below w.closed ∙ ap (λ (x : ℕ). last_at e column x i) (of_closed e column a i w.key).1 in
    let l = last_le e column a i in
    (z, record { within = omega (arith, z, l, s.within); last = ap (last_at e column a) z ∙ last_same e column a i ∙ sym z }, omega (arith, z, l))

-- ---- the entries from a
module _ (e : List ℕ) (n a : ℕ) (d : List ℕ) (sound : Sound e n (length d)) where
  pub laid_first : (p : ℕ) → p ≡ last_at e 0 a n → NoneCounted d → CountedAfter e n a p d
  laid_first p is blank =
      record {
        own = λ t k w o. let z = start t k w.0 in omega (arith, blank t k w, z);
        other = λ t k w o. omega (arith, blank t k w, start t k w.0);
      }
    where
      start : (t : ℕ) (k : BondKind) → t < atom_limit → bonds_counted e a (code_of k) t p ≡ bonds_counted e a (code_of k) t n
      start t k l = ap (bonds_counted e a (code_of k) t) is ∙ out_last e a (code_of k) t n (omega arith)

  module _ (i : ℕ) (entry : Entry e 0 a n i) where
    source_is : source_at e i ≡ a
    source_is = sym (word_source e i) ∙ (of_closed e 0 a i entry.key).1

    abbrev k : BondKind
    k = (sound.kind i entry.below).0

    kind_is : entry_kind_at e i ≡ code_of k
    kind_is = (sound.kind i entry.below).1

    abbrev t : ℕ
    t = target_at e i

    target_in : HasCount (length d) t
    target_in = (sound.ends i entry.below entry.closed).1

    cell_is : out_cell e i ≡ cell_of t (code_of k)
    cell_is = ap (cell_of t) kind_is

    bond : IsBond e a (code_of k) t i
    bond = record { source = source_is; kind = kind_is; target = refl }

    own_is : own_at e i ≡ is_own a (code_of k) t
    own_is = ap (λ (s : ℕ). is_own s (entry_kind_at e i) t) source_is ∙ ap (λ (c : ℕ). is_own a c t) kind_is

    here_is : bonds_counted e (source_at e i) (entry_kind_at e i) (target_at e i) n ≡ bonds_counted e a (code_of k) t n
    here_is = ap (λ (s : ℕ). bonds_counted e s (entry_kind_at e i) t n) source_is ∙ ap (λ (c : ℕ). bonds_counted e a c t n) kind_is

    there_is : bonds_counted e (target_at e i) (turned_of (kind_of (entry_kind_at e i))) (source_at e i) n ≡ bonds_counted e t (code_of (reverse_of k)) a n
    there_is =
        ap (λ (s : ℕ). bonds_counted e t (turned_of (kind_of (entry_kind_at e i))) s n) source_is
        ∙ ap (λ (c : ℕ). bonds_counted e t c a n) (ap (λ (c : ℕ). turned_of (kind_of c)) kind_is ∙ turned_code k)

    -- another cell is not its
    other_cell : (u : ℕ) (j : BondKind) → cell_of u (code_of j) ≢ out_cell e i → adds e a (code_of j) u i ≡ 0
    other_cell u j ne =
        adds_none e a (code_of j) u i (λ b. ne (ap (λ (x : ℕ). cell_of x (code_of j)) (sym b.target) ∙ ap (cell_of t) (sym b.kind)))

    -- the counts before it, and after it
    step : (u : ℕ) (j : BondKind) (p : ℕ) → u < atom_limit → p ≡ last_at e 0 a i → bonds_counted e a (code_of j) u (suc i) ≡ bonds_counted e a (code_of j) u p + adds e a (code_of j) u i
    step u j p l is =
        count_suc e a (code_of j) u i
        ∙ ap (λ (x : ℕ). x + adds e a (code_of j) u i) (sym (ap (bonds_counted e a (code_of j) u) is ∙ out_last e a (code_of j) u i (omega arith)))

    pub put_fits : CountedAfter e n a (suc i) d → get_or d (out_cell e i) 0 < bond_limit
    put_fits h = go (is_own a (code_of k) t) refl where
      v : get_or d (out_cell e i) 0 ≡ val_at d t k
      v = ap (λ (x : ℕ). get_or d x 0) cell_is

      go : (q : Bool) → is_own a (code_of k) t ≡ q → get_or d (out_cell e i) 0 < bond_limit
      go true o = omega (arith, v, h.own t k target_in o)
      go false o =
          omega (arith, v, h.other t k target_in o, count_suc e a (code_of k) t i, adds_one e a (code_of k) t i bond, count_most e a (code_of k) t n, sound.few)

    more_own : (v x y : ℕ) → v ≡ (x + (y + 1)) % 2 → more_of true v ≡ (x + y) % 2
    unfolding more_of
    more_own v x y h = go (eqb v 0) refl where
      go : (q : Bool) → eqb v 0 ≡ q → pick q 1 0 ≡ (x + y) % 2
      go true is = let z = eqb-true v 0 is in omega (arith, z, h)
      go false is = let z = eqb-false v 0 is in omega (arith, z, h)

    more_other : (v : ℕ) → more_of false v ≡ v + 1
    unfolding more_of
    more_other v = refl

    module _ (h : CountedAfter e n a (suc i) d) (p : ℕ) (next : p ≡ last_at e 0 a i) where
      abbrev after : ℕ
      after = more_of (own_at e i) (get_or d (out_cell e i) 0)

      abbrev d' : List ℕ
      d' = set d (out_cell e i) after

      size : length d' ≡ length d
      size = length-set d (out_cell e i) after

      in_d : (u : ℕ) → HasCount (length d') u → HasCount (length d) u
      in_d u w = (w.0, omega (arith, w.1, size))

      there_val : val_at d' t k ≡ more_of (is_own a (code_of k) t) (val_at d t k)
      there_val =
          ap (λ (x : ℕ). get_or d' x 0) (sym cell_is)
          ∙ get_or-set_same d (out_cell e i) after 0 (omega (arith, cell_is, in_room (length d) t k target_in))
          ∙ ap (λ (q : Bool). more_of q (get_or d (out_cell e i) 0)) own_is
          ∙ ap (λ (x : ℕ). more_of (is_own a (code_of k) t) (get_or d x 0)) cell_is

      else_val : (u : ℕ) (j : BondKind) → cell_of u (code_of j) ≢ out_cell e i → val_at d' u j ≡ val_at d u j
      else_val u j ne = get_or-set_other d (out_cell e i) (cell_of u (code_of j)) after 0 ne

      laid_own : (u : ℕ) (j : BondKind) → HasCount (length d) u → is_own a (code_of j) u ≡ true → val_at d' u j ≡ (bonds_counted e a (code_of j) u n + bonds_counted e a (code_of j) u p) % 2
      laid_own u j w o =
          by_eq (cell_of u (code_of j)) (out_cell e i)
          (λ c. let z = same_cell u t j k (c ∙ cell_is) in
          let o' : is_own a (code_of k) t ≡ true = ap (λ (x : ℕ). is_own a (code_of k) x) (sym z.0) ∙ ap (λ (x : BondKind). is_own a (code_of x) u) (sym z.1) ∙ o in
          let s : bonds_counted e a (code_of k) t (suc i) ≡ bonds_counted e a (code_of k) t p + 1 = step t k p target_in.0 next ∙ ap (λ (x : ℕ). bonds_counted e a (code_of k) t p + x) (adds_one e a (code_of k) t i bond) in
          let r : val_at d' t k ≡ (bonds_counted e a (code_of k) t n + bonds_counted e a (code_of k) t p) % 2 = there_val ∙ ap (λ (q : Bool). more_of q (val_at d t k)) o' ∙ more_own (val_at d t k) (bonds_counted e a (code_of k) t n) (bonds_counted e a (code_of k) t p) (h.own t k target_in o' ∙ ap (λ (x : ℕ). (bonds_counted e a (code_of k) t n + x) % 2) s) in
          subst (λ (x : ℕ). val_at d' x j ≡ (bonds_counted e a (code_of j) x n + bonds_counted e a (code_of j) x p) % 2) (sym z.0)
          (subst (λ (x : BondKind). val_at d' t x ≡ (bonds_counted e a (code_of x) t n + bonds_counted e a (code_of x) t p) % 2) (sym z.1) r))
          (λ c. else_val u j c ∙ h.own u j w o ∙ ap (λ (x : ℕ). (bonds_counted e a (code_of j) u n + x) % 2) (step u j p w.0 next ∙ plus_none (bonds_counted e a (code_of j) u p) _ (other_cell u j c)))
        where
          plus_none : (x y : ℕ) → y ≡ 0 → x + y ≡ x
          plus_none x y z = omega arith

      laid_other : (u : ℕ) (j : BondKind) → HasCount (length d) u → is_own a (code_of j) u ≡ false → val_at d' u j + bonds_counted e a (code_of j) u p ≡ bonds_counted e a (code_of j) u n
      laid_other u j w o =
          by_eq (cell_of u (code_of j)) (out_cell e i)
          (λ c. let z = same_cell u t j k (c ∙ cell_is) in
          let o' : is_own a (code_of k) t ≡ false = ap (λ (x : ℕ). is_own a (code_of k) x) (sym z.0) ∙ ap (λ (x : BondKind). is_own a (code_of x) u) (sym z.1) ∙ o in
          let v : val_at d' t k ≡ val_at d t k + 1 = there_val ∙ ap (λ (q : Bool). more_of q (val_at d t k)) o' ∙ more_other (val_at d t k) in
          let r : val_at d' t k + bonds_counted e a (code_of k) t p ≡ bonds_counted e a (code_of k) t n = omega (arith, v, h.other t k target_in o', step t k p target_in.0 next, adds_one e a (code_of k) t i bond) in
          subst (λ (x : ℕ). val_at d' x j + bonds_counted e a (code_of j) x p ≡ bonds_counted e a (code_of j) x n) (sym z.0)
          (subst (λ (x : BondKind). val_at d' t x + bonds_counted e a (code_of x) t p ≡ bonds_counted e a (code_of x) t n) (sym z.1) r))
          (λ c. omega (arith, else_val u j c, h.other u j w o, step u j p w.0 next, other_cell u j c))

      pub laid_next : CountedAfter e n a p (put_of e i d)
      unfolding put_of
      laid_next = record { own = λ u j w o. laid_own u j (in_d u w) o; other = λ u j w o. laid_other u j (in_d u w) o }

    -- ---- nothing left
    pub level_fails : Taken e n a 0 d → get_or d (out_cell e i) 0 ≢ 0 → every (is_paired e n) n ≡ false
    level_fails h some = go (is_own a (code_of k) t) refl where
      v : get_or d (out_cell e i) 0 ≡ val_at d t k
      v = ap (λ (x : ℕ). get_or d x 0) cell_is

      go : (q : Bool) → is_own a (code_of k) t ≡ q → every (is_paired e n) n ≡ false
      go true o =
          odd_fails e n i entry.below entry.closed (own_is ∙ o)
          (λ z. some (v ∙ h.own t k target_in o ∙ ap (λ (x : ℕ). x % 2) (sym here_is) ∙ z))
      go false o =
          differ_fails e n i entry.below entry.closed
          (λ z. some (omega (arith, v, h.other t k target_in o, z, here_is, there_is, count_zero e t (code_of (reverse_of k)) a)))

    pub level_next : Level e n a (suc i) d → get_or d (out_cell e i) 0 ≡ 0 → {p : ℕ} → p ≡ last_at e 0 a i → Level e n a p d
    level_next h none {p} next u j w l =
        by_eq (cell_of u (code_of j)) (out_cell e i)
        (λ c. ap (λ (x : ℕ). get_or d x 0) c ∙ none)
        (λ c. h u j w (omega (arith, l, step u j p w.0 next, other_cell u j c)))

  pub level_first : {p : ℕ} → p ≡ last_at e 0 a n → Level e n a p d
  level_first is u j w l =
      absurd (omega (arith, l, ap (bonds_counted e a (code_of j) u) is, out_last e a (code_of j) u n (omega (arith, w.0))))

  pub level_end : Level e n a 0 d → Taken e n a 0 d → NoneCounted d
  level_end h taken u j w = some (ltb 0 (bonds_counted e a (code_of j) u n)) refl where
    none : bonds_counted e a (code_of j) u n ≤ 0 → (q : Bool) → is_own a (code_of j) u ≡ q → val_at d u j ≡ 0
    none z true o = taken.own u j w o ∙ ap (λ (x : ℕ). x % 2) {x = bonds_counted e a (code_of j) u n} {y = 0} (omega arith)
    none z false o = omega (arith, z, taken.other u j w o, count_zero e u (code_of (reverse_of j)) a)

    some : (q : Bool) → ltb 0 (bonds_counted e a (code_of j) u n) ≡ q → val_at d u j ≡ 0
    some true is = h u j w (omega (arith, ltb-true 0 (bonds_counted e a (code_of j) u n) is, count_zero e a (code_of j) u))
    some false is = none (ltb-false _ _ is) (is_own a (code_of j) u) refl

  pub good_from : Taken e n a 0 d → NoneCounted d → BondsMatch e n a (length d)
  good_from taken blank =
      record {
        own = λ t k w o. sym (taken.own t k w o) ∙ blank t k w;
        other = λ t k w o. omega (arith, taken.other t k w o, blank t k w, count_zero e t (code_of (reverse_of k)) a);
      }

-- ---- the entries to a
module _ (e : List ℕ) (n a : ℕ) (d : List ℕ) (sound : Sound e n (length d)) (low : a < atom_limit) where
  pub taken_first : {p : ℕ} → p ≡ last_at e 2 a n → CountedAfter e n a 0 d → Taken e n a p d
  taken_first {p} is h =
      record {
        own = λ t k w o. h.own t k w o ∙ ap (λ (x : ℕ). x % 2) {x = bonds_counted e a (code_of k) t n + bonds_counted e a (code_of k) t 0} {y = bonds_counted e a (code_of k) t n} (omega (arith, count_zero e a (code_of k) t));
        other = λ t k w o. omega (arith, h.other t k w o, count_zero e a (code_of k) t, ap (bonds_counted e t (code_of (reverse_of k)) a) is, back_last e a (code_of (reverse_of k)) t n (omega (arith, low)));
      }

  module _ (i : ℕ) (entry : Entry e 2 a n i) where
    target_is : target_at e i ≡ a
    target_is = (of_closed e 2 a i entry.key).1

    abbrev s : ℕ
    s = source_at e i

    abbrev c : BondKind
    c = (sound.kind i entry.below).0

    code_is : entry_kind_at e i ≡ code_of c
    code_is = (sound.kind i entry.below).1

    source_in : HasCount (length d) s
    source_in = (sound.ends i entry.below entry.closed).0

    turned_is : turned_of (kind_of (entry_kind_at e i)) ≡ code_of (reverse_of c)
    turned_is = ap (λ (x : ℕ). turned_of (kind_of x)) code_is ∙ turned_code c

    place_is : back_cell e i ≡ cell_of s (code_of (reverse_of c))
    place_is = ap (cell_of s) turned_is

    self_is : own_at e i ≡ is_own s (code_of c) a
    self_is = ap (λ (x : ℕ). is_own s (entry_kind_at e i) x) target_is ∙ ap (λ (x : ℕ). is_own s x a) code_is

    like : IsBond e s (code_of c) a i
    like = record { source = refl; kind = code_is; target = target_is }

    like_is : bonds_counted e (source_at e i) (entry_kind_at e i) (target_at e i) n ≡ bonds_counted e s (code_of c) a n
    like_is = ap (λ (x : ℕ). bonds_counted e s (entry_kind_at e i) x n) target_is ∙ ap (λ (x : ℕ). bonds_counted e s x a n) code_is

    unlike_is : bonds_counted e (target_at e i) (turned_of (kind_of (entry_kind_at e i))) (source_at e i) n ≡ bonds_counted e a (code_of (reverse_of c)) s n
    unlike_is = ap (λ (x : ℕ). bonds_counted e x (turned_of (kind_of (entry_kind_at e i))) s n) target_is ∙ ap (λ (x : ℕ). bonds_counted e a x s n) turned_is

    -- another place is not its
    other_place : (u : ℕ) (j : BondKind) → cell_of u (code_of j) ≢ back_cell e i → adds e u (code_of (reverse_of j)) a i ≡ 0
    other_place u j ne =
        adds_none e u (code_of (reverse_of j)) a i
        (λ b. ne (ap (λ (x : ℕ). cell_of x (code_of j)) (sym b.source) ∙ ap (cell_of s) (sym (ap (λ (x : ℕ). turned_of (kind_of x)) b.kind ∙ turned_code (reverse_of j) ∙ ap code_of (reverse_twice j)))))

    back_step : (u : ℕ) (j : BondKind) (p : ℕ) → p ≡ last_at e 2 a i → bonds_counted e u (code_of (reverse_of j)) a (suc i) ≡ bonds_counted e u (code_of (reverse_of j)) a p + adds e u (code_of (reverse_of j)) a i
    back_step u j p is =
        count_suc e u (code_of (reverse_of j)) a i
        ∙ ap (λ (x : ℕ). x + adds e u (code_of (reverse_of j)) a i) (sym (ap (bonds_counted e u (code_of (reverse_of j)) a) is ∙ back_last e a (code_of (reverse_of j)) u i (omega (arith, low))))

    other_own : own_at e i ≡ false → is_own a (code_of (reverse_of c)) s ≡ false
    other_own not = own_back s a c (sym self_is ∙ not)

    pub take_fails : Taken e n a (suc i) d → own_at e i ≡ false → get_or d (back_cell e i) 0 ≡ 0 → every (is_paired e n) n ≡ false
    take_fails h not none =
        let v : val_at d s (reverse_of c) ≡ 0 = ap (λ (x : ℕ). get_or d x 0) (sym place_is) ∙ none in
        let twice : (m : ℕ) → bonds_counted e s (code_of (reverse_of (reverse_of c))) a m ≡ bonds_counted e s (code_of c) a m = λ m. ap (λ (x : BondKind). bonds_counted e s (code_of x) a m) (reverse_twice c) in
        differ_fails e n i entry.below entry.closed
        (λ z. omega (arith, v, h.other s (reverse_of c) source_in (other_own not), twice n, twice (suc i), count_suc e s (code_of c) a i, adds_one e s (code_of c) a i like, z, like_is, unlike_is))

    module _ (h : Taken e n a (suc i) d) {p : ℕ} (next : p ≡ last_at e 2 a i) where
      -- an entry that is its own reverse
      taken_own : own_at e i ≡ true → Taken e n a p d
      taken_own self =
          record {
            own = h.own;
            other = λ u j w o. omega (arith, h.other u j w o, back_step u j p next, adds_none e u (code_of (reverse_of j)) a i (λ b. false≢true (sym o ∙ is_own_lem u j b)));
          }
        where
          is_own_lem : (u : ℕ) (j : BondKind) → IsBond e u (code_of (reverse_of j)) a i → is_own a (code_of j) u ≡ true
          is_own_lem u j b =
              let z = own_parts s a c (sym self_is ∙ self) in
              let y : c ≡ reverse_of j = same_code c (reverse_of j) (sym code_is ∙ b.kind) in
              own_from a u j (sym z.0 ∙ b.source) (sym y ∙ sym z.1 ∙ ap reverse_of y ∙ reverse_twice j)

      module _ (not : own_at e i ≡ false) (some : get_or d (back_cell e i) 0 ≢ 0) where
        abbrev less : List ℕ
        less = set d (back_cell e i) (get_or d (back_cell e i) 0 - 1)

        less_size : length less ≡ length d
        less_size = length-set d (back_cell e i) (get_or d (back_cell e i) 0 - 1)

        in_less : (u : ℕ) → HasCount (length less) u → HasCount (length d) u
        in_less u w = (w.0, omega (arith, w.1, less_size))

        less_else : (u : ℕ) (j : BondKind) → cell_of u (code_of j) ≢ back_cell e i → val_at less u j ≡ val_at d u j
        less_else u j ne = get_or-set_other d (back_cell e i) (cell_of u (code_of j)) (get_or d (back_cell e i) 0 - 1) 0 ne

        less_there : (u : ℕ) (j : BondKind) → cell_of u (code_of j) ≡ back_cell e i → val_at less u j + 1 ≡ val_at d u j
        less_there u j q =
            let x : val_at less u j ≡ get_or d (back_cell e i) 0 - 1 =
            ap (λ (x : ℕ). get_or less x 0) q ∙ get_or-set_same d (back_cell e i) (get_or d (back_cell e i) 0 - 1) 0 (omega (arith, place_is, in_room (length d) s (reverse_of c) source_in)) in
            let y : val_at d u j ≡ get_or d (back_cell e i) 0 = ap (λ (x : ℕ). get_or d x 0) q in
            omega (arith, x, y, some)

        taken_less : Taken e n a p less
        taken_less =
            record {
              own = λ u j w o. by_eq (cell_of u (code_of j)) (back_cell e i)
                  (λ q. let z = same_cell u s j (reverse_of c) (q ∙ place_is) in
                  absurd (false≢true (sym (other_own not) ∙ ap (λ (x : ℕ). is_own a (code_of (reverse_of c)) x) (sym z.0) ∙ ap (λ (x : BondKind). is_own a (code_of x) u) (sym z.1) ∙ o)))
                  (λ q. less_else u j q ∙ h.own u j (in_less u w) o);
              other = λ u j w o. by_eq (cell_of u (code_of j)) (back_cell e i)
                  (λ q. let z = same_cell u s j (reverse_of c) (q ∙ place_is) in
                  let one : adds e u (code_of (reverse_of j)) a i ≡ 1 = adds_one e u (code_of (reverse_of j)) a i (record { source = sym z.0; kind = code_is ∙ ap code_of (sym (reverse_twice c) ∙ ap reverse_of (sym z.1)); target = target_is }) in
                  omega (arith, less_there u j q, h.other u j (in_less u w) o, back_step u j p next, one))
                  (λ q. omega (arith, less_else u j q, h.other u j (in_less u w) o, back_step u j p next, other_place u j q));
            }

      pub taken_next : can_take e i d ≡ true → Taken e n a p (take_of e i d)
      unfolding can_take take_of
      taken_next can = go (own_at e i) refl can where
        by_held : own_at e i ≡ false → (q : Bool) → eqb (get_or d (back_cell e i) 0) 0 ≡ q → neither q ≡ true → Taken e n a p (pick q d (set d (back_cell e i) (get_or d (back_cell e i) 0 - 1)))
        by_held not true is z = absurd (false≢true z)
        by_held not false is z = taken_less not (eqb-false _ _ is)

        go : (q : Bool) → own_at e i ≡ q → pick q true (neither (eqb (get_or d (back_cell e i) 0) 0)) ≡ true → Taken e n a p (pick q d (pick (eqb (get_or d (back_cell e i) 0) 0) d (set d (back_cell e i) (get_or d (back_cell e i) 0 - 1))))
        go true is z = taken_own is
        go false is z = by_held is (eqb (get_or d (back_cell e i) 0) 0) refl z

    pub cannot_take : Taken e n a (suc i) d → can_take e i d ≡ false → every (is_paired e n) n ≡ false
    unfolding can_take
    cannot_take h can = go (own_at e i) refl can where
      by_held : own_at e i ≡ false → (q : Bool) → eqb (get_or d (back_cell e i) 0) 0 ≡ q → neither q ≡ false → every (is_paired e n) n ≡ false
      by_held not true is z = take_fails h not (eqb-true _ _ is)
      by_held not false is z = absurd (false≢true (sym z))

      go : (q : Bool) → own_at e i ≡ q → pick q true (neither (eqb (get_or d (back_cell e i) 0) 0)) ≡ false → every (is_paired e n) n ≡ false
      go true is z = absurd (false≢true (sym z))
      go false is z = by_held is (eqb (get_or d (back_cell e i) 0) 0) refl z

-- ---- all atoms
pub all_good : (e : List ℕ) (n size : ℕ) → Sound e n size → ((i : ℕ) → i < n → target_at e i < unclosed → BondsMatch e n (source_at e i) size) → every (is_paired e n) n ≡ true
all_good e n size sound good = every_all (is_paired e n) n (λ i l. paired i l (ltb (target_at e i) unclosed) refl) where
  matched : (i : ℕ) → i < n → target_at e i < unclosed → is_matched (is_own (source_at e i) (entry_kind_at e i) (target_at e i)) (bonds_counted e (source_at e i) (entry_kind_at e i) (target_at e i) n) (bonds_counted e (target_at e i) (turned_of (kind_of (entry_kind_at e i))) (source_at e i) n) ≡ true
  matched i l closed =
      let a = source_at e i in
      let t = target_at e i in
      let k = (sound.kind i l).0 in
      let w = (sound.ends i l closed).1 in
      subst (λ (x : ℕ). is_matched (is_own a x t) (bonds_counted e a x t n) (bonds_counted e t (turned_of (kind_of x)) a n) ≡ true) (sym (sound.kind i l).1)
      (subst (λ (x : ℕ). is_matched (is_own a (code_of k) t) (bonds_counted e a (code_of k) t n) (bonds_counted e t x a n) ≡ true) (sym (turned_code k))
      (by_own a t k w (good i l closed) (is_own a (code_of k) t) refl))
    where
      by_own : (a t : ℕ) (k : BondKind) → HasCount size t → BondsMatch e n a size → (q : Bool) → is_own a (code_of k) t ≡ q → is_matched (is_own a (code_of k) t) (bonds_counted e a (code_of k) t n) (bonds_counted e t (code_of (reverse_of k)) a n) ≡ true
      by_own a t k w g true o =
          let z = own_parts a t k o in
          to_matched (is_own a (code_of k) t) (bonds_counted e a (code_of k) t n) (bonds_counted e t (code_of (reverse_of k)) a n)
          (ap (λ (x : BondKind). bonds_counted e a (code_of x) t n) (sym z.1) ∙ ap (λ (x : ℕ). bonds_counted e x (code_of (reverse_of k)) t n) z.0 ∙ ap (λ (x : ℕ). bonds_counted e t (code_of (reverse_of k)) x n) (sym z.0))
          (λ y. g.own t k w o)
      by_own a t k w g false o =
          to_matched (is_own a (code_of k) t) (bonds_counted e a (code_of k) t n) (bonds_counted e t (code_of (reverse_of k)) a n) (g.other t k w o) (λ y. absurd (false≢true (sym o ∙ y)))

  paired : (i : ℕ) → i < n → (q : Bool) → ltb (target_at e i) unclosed ≡ q → is_paired e n i ≡ true
  paired i l true is = paired_closed e n i (ltb-true _ _ is) (matched i l (ltb-true _ _ is))
  paired i l false is = paired_open e n i (ltb-false _ _ is)
