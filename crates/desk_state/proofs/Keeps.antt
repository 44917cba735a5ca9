-- What a builder's tables keep to, and that each event keeps it. Assumes nothing.
use Prim.{⊥}
use Prim.Native.Nat.{ℕ, zero, suc, ◌+◌, ◌*◌, ◌-◌, ◌<◌, ◌≤◌}
use mathlib.Core.Path.{◌≡◌, refl, sym, ap, ◌∙◌, subst}
use mathlib.Core.Logic.{◌≢◌, inl}
use mathlib.Core.List.{List, [], ◌∷◌}
use mathlib.Core.Bool.{Bool, true, false}
use native.Mathlib.Omega.{arith}
use lib.ListN.{length, get_or, set, length-set}
use lib.Seq.{sets, length-sets, get_or-set_same, get_or-set_other}
use lib.Dec.{eqb, ltb}
use borrow.Author.Tests.{ne_eqb, ltb-true, ltb-false}
use Rattle.feature.specs.Pick.{pick}
use Rattle.feature.specs.Kinds.{in_range}
use Rattle.feature.specs.Bonds.{code_of, reverse_of}
use Rattle.feature.specs.declared.atom_kind.AtomKind.{AtomKind}
use Rattle.feature.specs.declared.bond_kind.BondKind.{BondKind}
use Rattle.feature.proofs.Cases.{by_eq}
use Rattle.table.specs.Records.{atom_words}
use Rattle.packing.specs.Words.{list_of, load_at, is_held, is_atom}
use Rattle.packing.proofs.Laws.{load_stored, load_beside}
use Rattle.table.specs.Limits.{atom_limit, bond_limit, ring_number_count, places_in}
use Rattle.builder.specs.State.{unclosed, entry_words, entry_list}
use Rattle.desk_state.specs.Standing.{source_at, target_at, open_rings, entry_slots_in}
use Rattle.desk_state.proofs.Grown.{Plain, Pairs, least_below, plain_more, push, push_count, push_plain, push_before, push_target, fill, fill_count, fill_plain, fill_beside, pairs_two, pairs_open}

-- ---- how many ring numbers are open
unfoldable one : ℕ → ℕ
one w = pick (eqb w 0) 0 1

open_past : (r : List ℕ) (n v m : ℕ) → m ≤ n → open_rings (set r n v) m ≡ open_rings r m
unfolding open_rings
open_past r n v zero l = refl
open_past r n v (suc m) l = rw (get_or-set_other r n m v 0 (λ e. omega arith), open_past r n v m (omega arith)) refl

open_set : (r : List ℕ) (n v m : ℕ) → n < length r → n < m → open_rings (set r n v) m + one (get_or r n 0) ≡ open_rings r m + one v
unfolding open_rings one
open_set r n v zero h l = absurd (omega arith)
open_set r n v (suc m) h l =
    by_eq m n
    (λ q. let w : get_or (set r n v) m 0 ≡ v = ap (λ (i : ℕ). get_or (set r n v) i 0) q ∙ get_or-set_same r n v 0 h in
    let u : get_or r n 0 ≡ get_or r m 0 = ap (λ (i : ℕ). get_or r i 0) (sym q) in
    let z = open_past r n v m (omega arith) in
    rw (w, u) (omega (arith, z)))
    (λ q. let ih = open_set r n v m h (omega (arith, q, l)) in
    rw (get_or-set_other r n m v 0 q) (omega (arith, ih)))

one_none : one 0 ≡ 0
unfolding one
one_none = refl

one_some : (w : ℕ) → w ≢ 0 → one w ≡ 1
unfolding one
one_some w h = rw (ne_eqb w 0 h) refl

pred_same : (x y : ℕ) → x ≢ 0 → y ≢ 0 → x - 1 ≡ y - 1 → x ≡ y
pred_same x y h k e = omega arith

pred_below : (x m : ℕ) → x ≢ 0 → x ≤ m → x - 1 < m
pred_below x m h l = omega arith

-- ---- what is kept to: rooms, atoms, entries, path and joins
pub record Keeps (places slots n m top j : ℕ) (a e p r : List ℕ) : Type 0 where
  pub places_is : places ≡ places_in (length a)
  pub slots_is : slots ≡ entry_slots_in (length e)
  pub most_places : places ≤ atom_limit
  pub most_slots : slots ≤ bond_limit
  pub atom_room : places * atom_words ≤ length a
  pub entry_room : slots * entry_words ≤ length e
  pub path_room : places ≤ length p
  pub ring_room : ring_number_count ≤ length r
  pub within : n ≤ places
  pub listed : m ≤ slots
  pub short : top ≤ n
  pub atoms : (i : ℕ) → i < n → is_atom a i ≡ true
  pub plain : Plain n j e m
  pub pairs : Pairs e m
  pub steps : (i : ℕ) → i < top → get_or p i 0 < n
  pub each : (i : ℕ) → i < ring_number_count → get_or r i 0 ≢ 0 → (get_or r i 0 ≤ m) × (unclosed ≤ target_at e (get_or r i 0 - 1))
  pub apart : (i k : ℕ) → i < k → k < ring_number_count → get_or r k 0 ≢ 0 → get_or r i 0 ≢ get_or r k 0
  pub few : j + open_rings r ring_number_count ≤ m * 2

module _ (places slots n m top j : ℕ) (a e p r : List ℕ) (h : Keeps places slots n m top j a e p r) where
  -- an atom more, with what entries it brings
  pub keeps_enter : (k : AtomKind) (w : ℕ) (g : List ℕ) → in_range k ≡ true → n < places → length g ≡ length e → m ≤ w → w ≤ slots → Plain (n + 1) j g w → Pairs g w → ((i : ℕ) → i < m → target_at g i ≡ target_at e i) → Keeps places slots (n + 1) w (top + 1) j (sets a (n * atom_words) (list_of k)) g (set p top n) r
  unfolding is_atom is_held
  keeps_enter k w g ok room size more fits plain pairs same =
      record {
        places_is = h.places_is ∙ ap (λ (x : ℕ). places_in x) (sym (length-sets a (n * atom_words) (list_of k)));
        slots_is = h.slots_is ∙ ap (λ (x : ℕ). entry_slots_in x) (sym size);
        most_places = h.most_places;
        most_slots = h.most_slots;
        atom_room = omega (arith, h.atom_room, length-sets a (n * atom_words) (list_of k));
        entry_room = omega (arith, h.entry_room, size);
        path_room = omega (arith, h.path_room, length-set p top n);
        ring_room = h.ring_room;
        within = omega arith;
        listed = fits;
        short = omega (arith, h.short);
        atoms = λ i l. by_eq i n
            (λ q. ap (λ (x : ℕ). is_held (load_at (sets a (n * atom_words) (list_of k)) (x * atom_words))) q ∙ ap is_held (load_stored a (n * atom_words) k ok (omega (arith, h.atom_room))))
            (λ q. ap is_held (load_beside a (list_of k) (n * atom_words) (i * atom_words) (inl (omega (arith, q, l)))) ∙ h.atoms i (omega (arith, q, l)));
        plain = plain;
        pairs = pairs;
        steps = λ i l. by_eq i top
            (λ q. let z : get_or (set p top n) i 0 ≡ n = ap (λ (x : ℕ). get_or (set p top n) x 0) q ∙ get_or-set_same p top n 0 (omega (arith, h.path_room, h.short)) in omega (arith, z))
            (λ q. omega (arith, get_or-set_other p top i n 0 q, h.steps i (omega (arith, q, l))));
        each = λ i l z. let y = h.each i l z in
            (omega (arith, y.0), omega (arith, y.1, same (get_or r i 0 - 1) (omega (arith, y.0, z))));
        apart = h.apart;
        few = omega (arith, h.few);
      }

  pub keeps_root : (k : AtomKind) → in_range k ≡ true → n < places → Keeps places slots (n + 1) m (top + 1) j (sets a (n * atom_words) (list_of k)) e (set p top n) r
  keeps_root k ok room =
      keeps_enter k m e ok room refl (omega arith) h.listed (plain_more n j (n + 1) j e m (omega arith) (omega arith) h.plain) h.pairs (λ i l. refl)

  -- so few atoms that none is taken for an open target
  low : n < unclosed
  low = omega (arith, h.within, h.most_places)

  pub keeps_extend : (k : AtomKind) (c : BondKind) (s : ℕ) → in_range k ≡ true → n < places → m + 2 ≤ slots → s < n → Keeps places slots (n + 1) (m + 2) (top + 1) j (sets a (n * atom_words) (list_of k)) (push (push e m s (code_of c) n) (m + 1) n (code_of (reverse_of c)) s) (set p top n) r
  keeps_extend k c s ok room fits hs =
      let f = push e m s (code_of c) n in
      let g = push f (m + 1) n (code_of (reverse_of c)) s in
      let sf : length f ≡ length e = length-sets e (m * entry_words) (entry_list s (code_of c) n) in
      let sg : length g ≡ length f = length-sets f ((m + 1) * entry_words) (entry_list n (code_of (reverse_of c)) s) in
      let r1 : (m + 1) * entry_words ≤ length e = omega (arith, h.entry_room) in
      let r2 : (m + 1 + 1) * entry_words ≤ length f = omega (arith, h.entry_room, sf) in
      let p1 : Plain (n + 1) j f (m + 1) = push_plain e m s (code_of c) n r1 (n + 1) j c (plain_more n j (n + 1) j e m (omega arith) (omega arith) h.plain) (omega arith) refl (λ u. omega arith) (λ u. absurd (omega (arith, low))) in
      let p2 : Plain (n + 1) j g (m + 1 + 1) = push_plain f (m + 1) n (code_of (reverse_of c)) s r2 (n + 1) j (reverse_of c) p1 (omega arith) refl (λ u. omega arith) (λ u. absurd (omega (arith, low, hs))) in
      let two : m + 1 + 1 ≡ m + 2 = omega arith in
      let q2 : Pairs g (m + 1 + 1) = pairs_two e g m (m + 1 + 1) s n c (reverse_of c) refl (λ x t y l. omega (arith, push_count e m s (code_of c) n r1 x (code_of y) t, push_count f (m + 1) n (code_of (reverse_of c)) s r2 x (code_of y) t)) h.pairs in
      keeps_enter k (m + 2) g ok room (sg ∙ sf) (omega arith) fits
      (subst (λ (x : ℕ). Plain (n + 1) j g x) two p2) (subst (λ (x : ℕ). Pairs g x) two q2)
      (λ i l. (push_before f (m + 1) n (code_of (reverse_of c)) s r2 i (omega arith)).target ∙ (push_before e m s (code_of c) n r1 i l).target)

  -- a ring number set: the entries may be others
  module _ (q v : ℕ) (below : q < ring_number_count) where
    long : q < length r
    long = omega (arith, h.ring_room)

    there : get_or (set r q v) q 0 ≡ v
    there = get_or-set_same r q v 0 long

    beside : (i : ℕ) → i ≢ q → get_or (set r q v) i 0 ≡ get_or r i 0
    beside i d = get_or-set_other r q i v 0 d

    -- no two of them alike, if none was v
    apart_set : (v ≢ 0 → (i : ℕ) → i < ring_number_count → get_or r i 0 ≢ v) → (i k : ℕ) → i < k → k < ring_number_count → get_or (set r q v) k 0 ≢ 0 → get_or (set r q v) i 0 ≢ get_or (set r q v) k 0
    apart_set new i k l b z y =
        by_eq k q
        (λ d. let u : get_or (set r q v) k 0 ≡ v = ap (λ (x : ℕ). get_or (set r q v) x 0) d ∙ there in
        new (λ o. z (u ∙ o)) i (omega arith) (sym (beside i (λ o. omega arith)) ∙ y ∙ u))
        (λ d. by_eq i q
        (λ o. let u : get_or (set r q v) i 0 ≡ v = ap (λ (x : ℕ). get_or (set r q v) x 0) o ∙ there in
        let t = beside k d in
        new (λ y0. z (sym y ∙ u ∙ y0)) k b (sym t ∙ sym y ∙ u))
        (λ o. h.apart i k l b (λ y0. z (beside k d ∙ y0)) (sym (beside i o) ∙ y ∙ beside k d)))

    keeps_join : (w : ℕ) (g : List ℕ) → length g ≡ length e → w ≤ slots → Plain n (j + 1) g w → Pairs g w → ((i : ℕ) → i < ring_number_count → get_or (set r q v) i 0 ≢ 0 → (get_or (set r q v) i 0 ≤ w) × (unclosed ≤ target_at g (get_or (set r q v) i 0 - 1))) → (v ≢ 0 → (i : ℕ) → i < ring_number_count → get_or r i 0 ≢ v) → j + 1 + open_rings (set r q v) ring_number_count ≤ w * 2 → Keeps places slots n w top (j + 1) a g p (set r q v)
    keeps_join w g size fits plain pairs each new few =
        record {
          places_is = h.places_is;
          slots_is = h.slots_is ∙ ap (λ (x : ℕ). entry_slots_in x) (sym size);
          most_places = h.most_places;
          most_slots = h.most_slots;
          atom_room = h.atom_room;
          entry_room = omega (arith, h.entry_room, size);
          path_room = h.path_room;
          ring_room = omega (arith, h.ring_room, length-set r q v);
          within = h.within;
          listed = fits;
          short = h.short;
          atoms = h.atoms;
          plain = plain;
          pairs = pairs;
          steps = h.steps;
          each = each;
          apart = apart_set new;
          few = few;
        }

  -- a free number opened
  pub keeps_open : (q : ℕ) (c : BondKind) (s : ℕ) → q < ring_number_count → get_or r q 0 ≡ 0 → m + 1 ≤ slots → s < n → Keeps places slots n (m + 1) top (j + 1) a (push e m s (code_of c) (unclosed + j)) p (set r q (m + 1))
  keeps_open q c s below free fits hs =
      let g = push e m s (code_of c) (unclosed + j) in
      let room : (m + 1) * entry_words ≤ length e = omega (arith, h.entry_room) in
      let count = open_set r q (m + 1) ring_number_count (long q (m + 1) below) below in
      let o : one (m + 1) ≡ 1 = one_some (m + 1) (λ z. omega arith) in
      keeps_join q (m + 1) below (m + 1) g (length-sets e (m * entry_words) (entry_list s (code_of c) (unclosed + j))) fits
      (push_plain e m s (code_of c) (unclosed + j) room n (j + 1) c (plain_more n j n (j + 1) e m (omega arith) (omega arith) h.plain) hs refl (λ u. absurd (omega arith)) (λ u. (omega arith, least_below n j e m m h.plain (omega arith))))
      (pairs_open e g m (m + 1) s (code_of c) (unclosed + j) (omega arith) (push_count e m s (code_of c) (unclosed + j) room) h.pairs)
      (λ i l z. by_eq i q
      (λ d. let u : get_or (set r q (m + 1)) i 0 ≡ m + 1 = ap (λ (x : ℕ). get_or (set r q (m + 1)) x 0) d ∙ there q (m + 1) below in
      let t : target_at g (get_or (set r q (m + 1)) i 0 - 1) ≡ unclosed + j = ap (target_at g) {x = get_or (set r q (m + 1)) i 0 - 1} {y = m} (omega (arith, u)) ∙ push_target e m s (code_of c) (unclosed + j) room in
      (omega (arith, u), omega (arith, t)))
      (λ d. let u = beside q (m + 1) below i d in
      let y = h.each i l (λ o. z (u ∙ o)) in
      let t : target_at g (get_or (set r q (m + 1)) i 0 - 1) ≡ target_at e (get_or r i 0 - 1) = ap (λ (x : ℕ). target_at g (x - 1)) u ∙ (push_before e m s (code_of c) (unclosed + j) room (get_or r i 0 - 1) (omega (arith, y.0, z, u))).target in
      (omega (arith, u, y.0), omega (arith, t, y.1))))
      (λ z i l y. by_eq (get_or r i 0) 0 (λ d. omega (arith, d, y)) (λ d. omega (arith, y, (h.each i l d).0)))
      (omega (arith, count, o, h.few, ap one free, one_none))

  -- one closed: its kinds agree, or fail
  module _ (q : ℕ) (below : q < ring_number_count) (held : get_or r q 0 ≢ 0) where
    freed : open_rings (set r q 0) ring_number_count + 1 ≡ open_rings r ring_number_count
    freed = omega (arith, open_set r q 0 ring_number_count (long q 0 below) below, one_some (get_or r q 0) held, one_none)

    pub keeps_fail : Keeps places slots n m top (j + 1) a e p (set r q 0)
    keeps_fail =
        keeps_join q 0 below m e refl h.listed (plain_more n j n (j + 1) e m (omega arith) (omega arith) h.plain) h.pairs
        (λ i l z. by_eq i q
        (λ d. absurd (z (ap (λ (x : ℕ). get_or (set r q 0) x 0) d ∙ there q 0 below)))
        (λ d. let u = beside q 0 below i d in
        let y = h.each i l (λ o. z (u ∙ o)) in
        rw u y))
        (λ z. absurd (z refl))
        (omega (arith, freed, h.few))

    pub keeps_close : (c d : BondKind) (s : ℕ) → d ≡ reverse_of c → m + 1 ≤ slots → s < n → Keeps places slots n (m + 1) top (j + 1) a (push (fill e (get_or r q 0 - 1) (code_of c) s) m s (code_of d) (source_at e (get_or r q 0 - 1))) p (set r q 0)
    keeps_close c d s back fits hs =
        let w = get_or r q 0 - 1 in
        let o = source_at e w in
        let y = h.each q below held in
        let in_m : w < m = pred_below (get_or r q 0) m held y.0 in
        let f = fill e w (code_of c) s in
        let g = push f m s (code_of d) o in
        let sf : length f ≡ length e = length-sets e (w * entry_words + 1) (code_of c ∷ s ∷ []) in
        let sg : length g ≡ length f = length-sets f (m * entry_words) (entry_list s (code_of d) o) in
        let r1 : (w + 1) * entry_words ≤ length e = omega (arith, h.entry_room, in_m) in
        let r2 : (m + 1) * entry_words ≤ length f = omega (arith, h.entry_room, sf) in
        let s_low : s < unclosed = omega (arith, low, hs) in
        let ho : o < n = h.plain.source w in_m in
        let p1 : Plain n (j + 1) f m = fill_plain e w (code_of c) s r1 m in_m y.1 s_low n (j + 1) c (plain_more n j n (j + 1) e m (omega arith) (omega arith) h.plain) refl hs in
        let p2 : Plain n (j + 1) g (m + 1) = push_plain f m s (code_of d) o r2 n (j + 1) d p1 hs refl (λ u. ho) (λ u. absurd (omega (arith, low, ho))) in
        let q2 : Pairs g (m + 1) = pairs_two e g m (m + 1) o s c d back (λ x t z l. omega (arith, fill_count e w (code_of c) s r1 m in_m y.1 s_low x (code_of z) t l, push_count f m s (code_of d) o r2 x (code_of z) t)) h.pairs in
        keeps_join q 0 below (m + 1) g (sg ∙ sf) fits p2 q2
        (λ i l z. by_eq i q
        (λ v. absurd (z (ap (λ (x : ℕ). get_or (set r q 0) x 0) v ∙ there q 0 below)))
        (λ v. let u = beside q 0 below i v in
        let nz : get_or r i 0 ≢ 0 = λ x. z (u ∙ x) in
        let t = h.each i l nz in
        let other : get_or r i 0 - 1 ≢ w = λ x. distinct i l v nz (pred_same (get_or r i 0) (get_or r q 0) nz held x) in
        let k : target_at g (get_or (set r q 0) i 0 - 1) ≡ target_at e (get_or r i 0 - 1) =
        ap (λ (x : ℕ). target_at g (x - 1)) u
        ∙ (push_before f m s (code_of d) o r2 (get_or r i 0 - 1) (pred_below (get_or r i 0) m nz t.0)).target
        ∙ (fill_beside e w (code_of c) s r1 (get_or r i 0 - 1) other).target in
        (omega (arith, u, t.0), omega (arith, k, t.1))))
        (λ z. absurd (z refl))
        (omega (arith, freed, h.few))
      where
        distinct : (i : ℕ) → i < ring_number_count → i ≢ q → get_or r i 0 ≢ 0 → get_or r i 0 ≢ get_or r q 0
        distinct i l v nz x = go (ltb i q) refl where
          go : (t : Bool) → ltb i q ≡ t → ⊥
          go true is = h.apart i q (ltb-true i q is) below held x
          go false is = h.apart q i (let z = ltb-false i q is in omega (arith, z, v)) l nz (sym x)

  pub keeps_pop : (x : ℕ) → Keeps places slots n m (top - x) j a e p r
  keeps_pop x =
      record {
        places_is = h.places_is;
        slots_is = h.slots_is;
        most_places = h.most_places;
        most_slots = h.most_slots;
        atom_room = h.atom_room;
        entry_room = h.entry_room;
        path_room = h.path_room;
        ring_room = h.ring_room;
        within = h.within;
        listed = h.listed;
        short = omega (arith, h.short);
        atoms = h.atoms;
        plain = h.plain;
        pairs = h.pairs;
        steps = λ i l. h.steps i (omega arith);
        each = h.each;
        apart = h.apart;
        few = h.few;
      }
