-- Each event keeps tables and sketch the same. Assumes nothing.
use Prim.Native.Nat.{ℕ, ◌+◌, ◌*◌, ◌<◌, ◌≤◌}
use mathlib.Core.Path.{◌≡◌, refl, ◌∙◌, ap, ap₂, sym, subst}
use mathlib.Core.List.{List, [], ◌∷◌, ◌++◌}
use mathlib.Core.Bool.{Bool, true, false}
use native.Mathlib.Omega.{arith}
use lib.ListN.{length, length-set}
use lib.Seq.{sets, length-sets}
use lib.Dec.{ltb, leb}
use borrow.Author.Tests.{leb-false, ltb-false, eq-eqb, ne_eqb}
use Rattle.feature.specs.Pick.{pick}
use Rattle.feature.specs.Kinds.{invert_of}
use Rattle.feature.specs.Bonds.{code_of, reverse_of}
use Rattle.feature.specs.declared.atom_kind.AtomKind.{AtomKind}
use Rattle.std.specs.Prelude.{None, Option, Some}
use Rattle.feature.specs.declared.bond_kind.BondKind.{BondKind}
use Rattle.desk_numbers.specs.Numbers.{atom_room, inversion, no_atom, bond_room}
use Rattle.feature.proofs.Cases.{impossible}
use Rattle.table.specs.Records.{atom_words}
use Rattle.packing.specs.Words.{list_of}
use Rattle.builder.specs.State.{Bld, bld, entry_words, entry_list, refuse, last_of, entered, root_of, bonded, extended_by, extend_of, pop_of}
use Rattle.builder_meaning.specs.Sketch.{To, Node, Sketch, edge, node, refused, popped, atom_added, next_number, count_of, upd, add_edge, root_s, bonded_s, extend_s, target_of}
use Rattle.builder_meaning.proofs.Rows.{Row, row, upd_length, upd_front, upd_last}
use Rattle.builder_meaning.proofs.Twins.{Twins, twins_extend}
use Rattle.builder_meaning.proofs.Same.{Way, Rings, Entries, Room, Same}
use Rattle.builder_meaning.proofs.Parts.{snoc_length, atoms_more, entries_root, same_length, entries_push, way_enter, way_pop, way_none, way_some, Current}
use Rattle.builder_meaning.proofs.RingNumbers.{rings_push}

-- two choices by tests that agree
pub both_ways : {A B : Type 0} (R : A → B → Type 0) (t u : Bool) {x y : A} {x' y' : B} → t ≡ u → (t ≡ true → R x x') → (t ≡ false → R y y') → R (pick t x y) (pick u x' y')
both_ways R true true e f g = f refl
both_ways R true false e f g = impossible cc
both_ways R false true e f g = impossible cc
both_ways R false false e f g = g refl

-- tables of the same lengths have the same room
pub room_kept : (p l : ℕ) (a e w r a' e' w' r' : List ℕ) → Room p l a e w r → length a' ≡ length a → length e' ≡ length e → length w' ≡ length w → length r' ≡ length r → Room p l a' e' w' r'
room_kept p l a e w r a' e' w' r' m h i j k =
    record {
      atoms = omega (arith, m.atoms);
      entries = omega (arith, m.entries);
      path = omega (arith, m.path);
      rings = omega (arith, m.rings);
      few = m.few;
      small = m.small;
    }

module _ (b : Bld) (d : Sketch) (same : Same b d) where
  -- the next atom's number
  pub number_is : b.st.atoms ≡ next_number d
  unfolding next_number
  number_is =
      same.state.atoms
      ∙ ap (λ (n : ℕ). n + d.unseen) (sym (same_length same.kinds same.rows b.entries d.nodes same.entries))

  -- a refusal
  pub same_refuse : (r c c' : ℕ) → c ≡ c' → Same (refuse b r c) (refused d r c')
  unfolding refuse
  same_refuse r c c' e =
      let s = same.state in
      record {
        kinds = same.kinds;
        rows = same.rows;
        state = record {
          refusal = refl;
          carried = e;
          places = s.places;
          slots = s.slots;
          atoms = s.atoms;
          entries = s.entries;
          joins = s.joins;
          failed = s.failed;
          seen = s.seen;
          fits = s.fits;
          holds = s.holds;
        };
        atoms = same.atoms;
        entries = same.entries;
        way = same.way;
        rings = same.rings;
        twins = same.twins;
        room = same.room;
      }

  -- so many atoms off the path
  pub same_pop : (n : ℕ) → Same (pop_of b n) (popped d n)
  unfolding pop_of
  same_pop n =
      let s = same.state in
      record {
        kinds = same.kinds;
        rows = same.rows;
        state = record {
          refusal = s.refusal;
          carried = s.carried;
          places = s.places;
          slots = s.slots;
          atoms = s.atoms;
          entries = s.entries;
          joins = s.joins;
          failed = s.failed;
          seen = s.seen;
          fits = s.fits;
          holds = s.holds;
        };
        atoms = same.atoms;
        entries = same.entries;
        way = way_pop (length same.kinds) b.st.top b.path d.path n same.way;
        rings = same.rings;
        twins = same.twins;
        room = same.room;
      }

  module _ (whole : d.unseen ≡ 0) where
    pub held_all : b.st.atoms ≡ length same.kinds
    held_all = omega (arith, same.state.atoms, whole)

    number_held : next_number d ≡ length same.kinds
    number_held = sym number_is ∙ held_all

    -- an atom more, with other entries
    entered_same : (k : AtomKind) (es : List ℕ) (ns : List Node) (rs : List Row) (e : ℕ) → b.st.atoms < b.st.places → e ≡ length rs → length rs ≤ d.slots → length es ≡ length b.entries → Entries (same.kinds ++ (k ∷ [])) rs es ns → Rings rs b.rings d.opens d.joins → Twins rs → Same (entered (bld b.atoms es b.path b.rings b.st) k e) (atom_added d ns (next_number d))
    unfolding entered
    entered_same k es ns rs e free count few size g r w =
        let s = same.state in
        let m = same.room in
        let grew = snoc_length same.kinds k in
        record {
          kinds = same.kinds ++ (k ∷ []);
          rows = rs;
          state = record {
            refusal = s.refusal;
            carried = s.carried;
            places = s.places;
            slots = s.slots;
            joins = s.joins;
            failed = s.failed;
            seen = s.seen;
            atoms = omega (arith, s.atoms, grew);
            entries = count;
            fits = omega (arith, grew, held_all, s.places);
            holds = few;
          };
          atoms = atoms_more same.kinds b.atoms k b.st.atoms same.atoms held_all (omega (arith, m.atoms, s.places));
          entries = g;
          way = way_enter (length same.kinds) (length (same.kinds ++ (k ∷ []))) b.st.top b.path d.path b.st.atoms (next_number d) same.way held_all number_held grew (omega (arith, same.way.short, held_all, m.path, s.places));
          rings = r;
          twins = w;
          room = room_kept d.places d.slots b.atoms b.entries b.path b.rings _ _ _ _ m (length-sets b.atoms (b.st.atoms * atom_words) (list_of k)) size (length-set b.path b.st.top b.st.atoms) refl;
        }

    full_same : leb b.st.places b.st.atoms ≡ leb d.places (next_number d)
    full_same = ap₂ (λ (m n : ℕ). leb m n) same.state.places number_is

    pub tight_same : (n : ℕ) → ltb b.st.slots (b.st.entries + n) ≡ ltb d.slots (count_of d.nodes + n)
    tight_same n = ap₂ (λ (l m : ℕ). ltb l (m + n)) same.state.slots (same.state.entries ∙ sym same.entries.count)

    -- a root
    pub same_root : (k : AtomKind) (place : ℕ) → Same (root_of b k place) (root_s d k place)
    unfolding root_of root_s
    same_root k place =
        both_ways Same (leb b.st.places b.st.atoms) (leb d.places (next_number d)) full_same
        (λ t. same_refuse atom_room place place refl)
        (λ t. entered_same k b.entries (d.nodes ++ (node k [] ∷ [])) same.rows b.st.entries (leb-false b.st.places b.st.atoms t) same.state.entries same.state.holds refl (entries_root same.kinds same.rows b.entries d.nodes k same.entries) same.rings same.twins)

    -- a current atom
    module _ (s : ℕ) (current : Current (length same.kinds) b.st.top b.path s) where
      pub last_is : last_of b ≡ s
      unfolding last_of
      last_is = current.is

      below_more : (k : AtomKind) → s < length (same.kinds ++ (k ∷ []))
      below_more k = omega (arith, snoc_length same.kinds k, current.below)

      pub same_bonded : (e : BondKind) (t : Option AtomKind) → b.st.atoms < b.st.places → b.st.entries + 2 ≤ b.st.slots → Same (extended_by b e t) (bonded_s d e s t)
      unfolding extended_by bonded_s bonded add_edge target_of
      same_bonded e None free room = same_refuse inversion b.st.atoms (next_number d) number_is
      same_bonded e (Some k) free room =
          let there = row s e (To (next_number d)) in
          let back = row (next_number d) (reverse_of e) (To s) in
          let ks = same.kinds ++ (k ∷ []) in
          let rs = same.rows ++ (there ∷ []) in
          let t1 = sets b.entries (b.st.entries * entry_words) (entry_list (last_of b) (code_of e) b.st.atoms) in
          let wide : (b.st.entries + 2) * entry_words ≤ length b.entries = omega (arith, same.room.entries, same.state.slots) in
          let grew = snoc_length same.kinds k in
          let more = snoc_length same.rows there in
          let g0 = entries_root same.kinds same.rows b.entries d.nodes k same.entries in
          let g1 = entries_push ks same.rows b.entries (d.nodes ++ (node k [] ∷ [])) g0 s e (To (next_number d)) b.st.entries (last_of b) b.st.atoms (below_more k) (λ y q. let z : next_number d ≡ y = cc in omega (arith, z, number_held, grew)) same.state.entries last_is number_is (omega arith) in
          let g2 = entries_push ks rs t1 (upd s (add_edge (edge e (To (next_number d)))) (d.nodes ++ (node k [] ∷ []))) g1 (next_number d) (reverse_of e) (To s) (b.st.entries + 1) b.st.atoms (last_of b) (omega (arith, number_held, grew)) (λ y q. let z : s ≡ y = cc in omega (arith, z, below_more k)) (omega (arith, more, same.state.entries)) number_is last_is (rw length-sets (omega arith)) in
          let r1 = rings_push same.rows b.rings d.opens d.joins same.rings s e (To (next_number d)) d.joins (omega arith) (λ y q. impossible cc) in
          let r2 = rings_push rs b.rings d.opens d.joins r1 (next_number d) (reverse_of e) (To s) d.joins (omega arith) (λ y q. impossible cc) in
          entered_same k (sets t1 ((b.st.entries + 1) * entry_words) (entry_list b.st.atoms (code_of (reverse_of e)) (last_of b)))
          (upd s (add_edge (edge e (To (next_number d)))) d.nodes ++ (node k (edge (reverse_of e) (To s) ∷ []) ∷ []))
          (rs ++ (back ∷ [])) (b.st.entries + 2) free
          (omega (arith, more, snoc_length rs back, same.state.entries)) (omega (arith, more, snoc_length rs back, same.state.entries, same.state.slots))
          (rw (length-sets, length-sets) refl)
          (subst (λ (ns : List Node). Entries ks (rs ++ (back ∷ [])) (sets t1 ((b.st.entries + 1) * entry_words) (entry_list b.st.atoms (code_of (reverse_of e)) (last_of b))) ns) (laid k e) g2)
          r2 (twins_extend same.rows s (next_number d) e same.twins)
        where
          laid : (k : AtomKind) (e : BondKind) → upd (next_number d) (add_edge (edge (reverse_of e) (To s))) (upd s (add_edge (edge e (To (next_number d)))) (d.nodes ++ (node k [] ∷ []))) ≡ upd s (add_edge (edge e (To (next_number d)))) d.nodes ++ (node k (edge (reverse_of e) (To s) ∷ []) ∷ [])
          laid k e =
              let size = same_length same.kinds same.rows b.entries d.nodes same.entries in
              let len = upd_length s (add_edge (edge e (To (next_number d)))) d.nodes in
              let i : next_number d ≡ length (upd s (add_edge (edge e (To (next_number d)))) d.nodes) = omega (arith, size, len, number_held) in
              ap (upd (next_number d) (add_edge (edge (reverse_of e) (To s)))) (upd_front s (add_edge (edge e (To (next_number d)))) d.nodes (node k [] ∷ []) (omega (arith, size, current.below)))
              ∙ ap (λ (n : ℕ). upd n (add_edge (edge (reverse_of e) (To s))) (upd s (add_edge (edge e (To (next_number d)))) d.nodes ++ (node k [] ∷ []))) i
              ∙ upd_last (add_edge (edge (reverse_of e) (To s))) (upd s (add_edge (edge e (To (next_number d)))) d.nodes) (node k [])

    -- an extend
    pub same_extend : (e : BondKind) (k : AtomKind) (place : ℕ) (path : List ℕ) → d.path ≡ path → Same (extend_of b e k place) (extend_s d e k place path)
    unfolding extend_of extend_s
    same_extend e k place [] p =
        let w = subst (Way (length same.kinds) b.st.top b.path) p same.way in
        rw (eq-eqb b.st.top 0 (way_none (length same.kinds) b.st.top b.path w))
        (same_refuse no_atom 0 0 refl)
    same_extend e k place (s ∷ rest) p =
        let w = subst (Way (length same.kinds) b.st.top b.path) p same.way in
        let current = way_some (length same.kinds) b.st.top b.path s rest w in
        rw (ne_eqb b.st.top 0 current.some)
        (both_ways Same (leb b.st.places b.st.atoms) (leb d.places (next_number d)) full_same
        (λ t. same_refuse atom_room place place refl)
        (λ t. both_ways Same (ltb b.st.slots (b.st.entries + 2)) (ltb d.slots (count_of d.nodes + 2)) (tight_same 2)
        (λ u. same_refuse bond_room place place refl)
        (λ u. same_bonded s current e (invert_of k) (leb-false b.st.places b.st.atoms t) (ltb-false b.st.slots (b.st.entries + 2) u))))
