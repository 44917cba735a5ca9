-- A ring number keeps tables and sketch the same. Assumes nothing.
use Prim.Native.Nat.{ℕ, ◌+◌, ◌*◌, ◌<◌, ◌≤◌}
use Rattle.std.specs.Prelude as std
use Rattle.builder.specs.declared.builder.FailedJoin.{FailedJoin}
use mathlib.Core.Path.{◌≡◌, refl, ◌∙◌, ap, sym, subst, ap₂}
use mathlib.Core.List.{List, [], ◌∷◌, ◌++◌}
use mathlib.Core.Option.{Option, none, some}
use native.Mathlib.Omega.{arith}
use lib.ListN.{length, get_or, set, length-set}
use lib.Seq.{sets, length-sets, get_or_at, get_or-take}
use lib.Dec.{ltb, eqb}
use borrow.Author.Tests.{ltb-false, eq-eqb, ne_eqb}
use Rattle.feature.specs.Pick.{pick}
use Rattle.feature.specs.Bonds.{code_of, kind_of, reconcile_of, sure_kind}
use Rattle.feature.specs.declared.bond_kind.BondKind.{BondKind}
use Rattle.std.specs.Prelude.{Some}
use Rattle.desk_numbers.specs.Numbers.{bond_room, no_atom}
use Rattle.feature.proofs.Bonds.{sure_code, Reversed, reconciled}
use Rattle.feature.proofs.Cases.{impossible}
use Rattle.table.specs.Limits.{ring_number_count}
use Rattle.builder.specs.State.{Bld, bld, failed_join, broken_st, unclosed, entry_words, entry_list, refuse, joined_st, failed_st, last_of, opened_of, opened_at, opening_of, opening_kind, closed_by, join_of}
use Rattle.builder.specs.declared.builder.Builder.{Builder}
use Rattle.builder.proofs.Joins.{first_failed, again_failed}
use Rattle.builder_meaning.specs.Sketch.{To, Open, Node, Held, Failure, None, Failed, Sketch, edge, held, joined, first_of, broken, count_of, upd, edges_at, add_edge, open_kind, fill, lookup, ring_freed, opened_s, closed_s, ring_s, join_s, target_of}
use Rattle.builder_meaning.proofs.Rows.{Row, row, no_row, edges_of, flat, edges_at_lem, Opened, opened_kind, flat_source, flat_kind}
use Rattle.builder_meaning.proofs.Twins.{Twins, twins_open, twins_close}
use Rattle.builder_meaning.proofs.Same.{Way, At, Ring, Rings, Entries, failure_in, Same}
use Rattle.builder_meaning.proofs.Parts.{snoc_length, entries_push, entries_fill, way_none, way_some, Current}
use Rattle.builder_meaning.proofs.RingNumbers.{ring_within, rings_later, rings_push, rings_hold, rings_free, rings_fill, rings_opened, rings_alone}
use Rattle.builder_meaning.proofs.Steps.{both_ways, room_kept, same_refuse, tight_same, last_is}

module _ (b : Bld) (d : Sketch) (same : Same b d) (whole : d.unseen ≡ 0) where
  -- one join more, and one entry
  joined_same : (es rings : List ℕ) (ns : List Node) (rs : List Row) (hs : List Held) → length rs ≡ length same.rows + 1 → length rs ≤ d.slots → length es ≡ length b.entries → length rings ≡ length b.rings → Entries same.kinds rs es ns → Rings rs rings hs (d.joins + 1) → Twins rs → Same (bld b.atoms es b.path rings (joined_st b.st)) (joined d ns hs)
  joined_same es rings ns rs hs count few size round g r w =
      let s = same.state in
      record {
        kinds = same.kinds;
        rows = rs;
        state = record {
          refusal = s.refusal;
          carried = s.carried;
          places = s.places;
          slots = s.slots;
          atoms = s.atoms;
          failed = s.failed;
          seen = s.seen;
          fits = s.fits;
          entries = omega (arith, s.entries);
          joins = omega (arith, s.joins);
          holds = few;
        };
        atoms = same.atoms;
        entries = g;
        way = same.way;
        rings = r;
        twins = w;
        room = room_kept d.places d.slots b.atoms b.entries b.path b.rings _ _ _ _ same.room refl size refl round;
      }

  module _ (n place s : ℕ) (low : n < ring_number_count) (current : Current (length same.kinds) b.st.top b.path s) where
    current_is : last_of b ≡ s
    current_is = last_is b d same whole s current

    -- a free number
    same_opened : (e : BondKind) → get_or b.rings n 0 ≡ 0 → b.st.entries + 1 ≤ b.st.slots → Same (opened_of b e n) (opened_s d e n s)
    unfolding opened_of opened_s target_of
    same_opened e free room =
        let new = row s e (Open d.joins) in
        let rs = same.rows ++ (new ∷ []) in
        let more = snoc_length same.rows new in
        let at : At rs (b.st.entries + 1) (held n s d.joins) = record { place = length same.rows; kind = e; word = omega (arith, same.state.entries); within = omega (arith, more); is = get_or_at same.rows new [] no_row (length same.rows) refl } in
        let r1 = rings_push same.rows b.rings d.opens d.joins same.rings s e (Open d.joins) (d.joins + 1) (omega arith) (λ y q. let z : d.joins ≡ y = cc in (omega arith, omega arith)) in
        joined_same (sets b.entries (b.st.entries * entry_words) (entry_list (last_of b) (code_of e) (unclosed + b.st.joins)))
        (set b.rings n (b.st.entries + 1)) (upd s (add_edge (edge e (Open d.joins))) d.nodes) rs (held n s d.joins ∷ d.opens)
        more (omega (arith, more, same.state.entries, same.state.slots))
        (rw length-sets) (length-set b.rings n (b.st.entries + 1))
        (entries_push same.kinds same.rows b.entries d.nodes same.entries s e (Open d.joins) b.st.entries (last_of b) (unclosed + b.st.joins) current.below (λ y q. impossible cc) same.state.entries current_is (ap (λ (j : ℕ). unclosed + j) same.state.joins) (omega (arith, same.room.entries, same.state.slots)))
        (rings_hold rs b.rings d.opens (d.joins + 1) r1 n (b.st.entries + 1) (held n s d.joins) low same.room.rings refl at
        (λ m l e. omega (arith, e, ring_within same.rows (get_or b.rings m 0) (lookup m d.opens) (same.rings.each m l), same.state.entries)))
        (twins_open same.rows s e d.joins same.twins)

    -- an open one
    module _ (h : Held) (at : At same.rows (get_or b.rings n 0) h) where
      opened : Opened same.rows at.place h.atom at.kind h.join
      opened = rings_opened same.rows b.rings d.opens d.joins same.rings n h at

      place_is : opened_at b n ≡ at.place * entry_words
      unfolding opened_at
      place_is = omega (arith, at.word)

      -- a word of the entries is one of the rows'
      word_is : (i : ℕ) → i < length same.rows * entry_words → get_or b.entries i 0 ≡ get_or (flat same.rows) i 0
      word_is i l =
          sym (get_or-take (length same.rows * entry_words) b.entries i 0 l)
          ∙ ap (λ (t : List ℕ). get_or t i 0) same.entries.words

      opening_is : opening_of b n ≡ h.atom
      unfolding opening_of
      opening_is =
          ap (λ (i : ℕ). get_or b.entries i 0) place_is
          ∙ word_is (at.place * entry_words) (omega (arith, at.within))
          ∙ flat_source same.rows at.place at.within
          ∙ ap (λ (r : Row). r.source) at.is

      kind_is : opening_kind b n ≡ at.kind
      unfolding opening_kind
      kind_is =
          ap (λ (i : ℕ). sure_kind (kind_of (get_or b.entries (i + 1) 0))) place_is
          ∙ ap (λ (c : ℕ). sure_kind (kind_of c))
          (word_is (at.place * entry_words + 1) (omega (arith, at.within))
          ∙ flat_kind same.rows at.place at.within
          ∙ ap (λ (r : Row). code_of r.kind) at.is)
          ∙ sure_code at.kind

      opener_below : h.atom < length same.kinds
      opener_below =
          subst (λ (r : Row). r.source < length same.kinds) at.is (same.entries.sources at.place at.within)

      held_kind : open_kind h.join (edges_at h.atom d.nodes) ≡ at.kind
      held_kind =
          ap (λ (ns : List Node). open_kind h.join (edges_at h.atom ns)) same.entries.nodes
          ∙ ap (open_kind h.join) (edges_at_lem same.kinds (edges_of same.rows) h.atom opener_below)
          ∙ opened_kind same.rows at.place h.atom at.kind h.join opened

      freed : Rings same.rows (set b.rings n 0) (ring_freed n d.opens) d.joins
      freed = rings_free same.rows b.rings d.opens d.joins same.rings n low same.room.rings

      broken_same : (f : std.Option FailedJoin) → f ≡ failure_in (first_of d.failure s h.atom) → Same (bld b.atoms b.entries b.path (set b.rings n 0) (broken_st b.st f)) (broken d (ring_freed n d.opens) s h.atom)
      broken_same f is =
          let st = same.state in
          record {
            kinds = same.kinds;
            rows = same.rows;
            state = record {
              refusal = st.refusal;
              carried = st.carried;
              places = st.places;
              slots = st.slots;
              atoms = st.atoms;
              entries = st.entries;
              fits = st.fits;
              holds = st.holds;
              joins = omega (arith, st.joins);
              failed = is;
              seen = λ e. whole;
            };
            atoms = same.atoms;
            entries = same.entries;
            way = same.way;
            rings = rings_later same.rows (set b.rings n 0) (ring_freed n d.opens) d.joins freed (d.joins + 1) (omega arith);
            twins = same.twins;
            room = room_kept d.places d.slots b.atoms b.entries b.path b.rings _ _ _ _ same.room refl refl refl (length-set b.rings n 0);
          }

      same_broken : (f : Failure) → d.failure ≡ f → Same (bld b.atoms b.entries b.path (set b.rings n 0) (failed_st b.st (last_of b) (opening_of b n))) (broken d (ring_freed n d.opens) s h.atom)
      unfolding failure_in first_of
      same_broken None e =
          let now : first_of d.failure s h.atom ≡ Failed s h.atom = ap (λ (g : Failure). first_of g s h.atom) e in
          subst (λ (x : Builder). Same (bld b.atoms b.entries b.path (set b.rings n 0) x) (broken d (ring_freed n d.opens) s h.atom))
          (first_failed b.st (last_of b) (opening_of b n) (ap std.is_some (same.state.failed ∙ ap failure_in e)))
          (broken_same (std.Some (failed_join (last_of b) (opening_of b n))) (ap₂ (λ (x y : ℕ). std.Some (failed_join x y)) current_is opening_is ∙ sym (ap failure_in now)))
      same_broken (Failed v w) e =
          let kept : d.failure ≡ first_of d.failure s h.atom = e ∙ sym (ap (λ (g : Failure). first_of g s h.atom) e) in
          subst (λ (x : Builder). Same (bld b.atoms b.entries b.path (set b.rings n 0) x) (broken d (ring_freed n d.opens) s h.atom))
          (again_failed b.st (last_of b) (opening_of b n) (ap std.is_some (same.state.failed ∙ ap failure_in e)))
          (broken_same b.st.failed (same.state.failed ∙ ap failure_in kept))

      same_closed : (q : std.Option (BondKind × BondKind)) → Reversed q → Same (closed_by b n place q) (closed_s d n place s h q)
      unfolding closed_by closed_s target_of
      same_closed std.None back = same_broken d.failure refl
      same_closed (Some (l, r)) back =
          both_ways Same (ltb b.st.slots (b.st.entries + 1)) (ltb d.slots (count_of d.nodes + 1)) (tight_same b d same whole 1)
          (λ u. same_refuse b d same bond_room place place refl)
          (λ u.
          let room = ltb-false b.st.slots (b.st.entries + 1) u in
          let filled = row h.atom l (To s) in
          let rs = set same.rows at.place filled in
          let new = row s r (To h.atom) in
          let more = snoc_length rs new in
          let kept = length-set same.rows at.place filled in
          let t1 = sets b.entries (opened_at b n + 1) (code_of l ∷ last_of b ∷ []) in
          let g1 = entries_fill same.kinds same.rows b.entries d.nodes same.entries at.place h.atom at.kind h.join l s (opened_at b n) (last_of b) opened current.below place_is current_is (omega (arith, same.room.entries, same.state.holds)) in
          let r1 = rings_fill same.rows (set b.rings n 0) (ring_freed n d.opens) d.joins freed at.place h.atom l s (rings_alone same.rows b.rings d.opens d.joins same.rings n h low same.room.rings at) at.within in
          joined_same (sets t1 (b.st.entries * entry_words) (entry_list (last_of b) (code_of r) (opening_of b n))) (set b.rings n 0)
          (upd s (add_edge (edge r (To h.atom))) (upd h.atom (fill h.join l s) d.nodes)) (rs ++ (new ∷ [])) (ring_freed n d.opens)
          (omega (arith, more, kept)) (omega (arith, more, kept, room, same.state.entries, same.state.slots))
          (simp length-sets) (length-set b.rings n 0)
          (entries_push same.kinds rs t1 (upd h.atom (fill h.join l s) d.nodes) g1 s r (To h.atom) b.st.entries (last_of b) (opening_of b n) current.below (λ y q. let z : h.atom ≡ y = cc in omega (arith, z, opener_below)) (same.state.entries ∙ sym kept) current_is opening_is (rw length-sets (omega (arith, room, same.room.entries, same.state.slots))))
          (rings_push rs (set b.rings n 0) (ring_freed n d.opens) d.joins r1 s r (To h.atom) (d.joins + 1) (omega arith) (λ y q. impossible cc))
          (twins_close same.rows at.place h.atom at.kind h.join l r s opened back same.twins))

    same_ring : (e : BondKind) (o : Option Held) → Ring same.rows (get_or b.rings n 0) o → Same (pick (eqb (get_or b.rings n 0) 0) (pick (ltb b.st.slots (b.st.entries + 1)) (refuse b bond_room place) (opened_of b e n)) (closed_by b n place (reconcile_of (opening_kind b n) e))) (ring_s d e n place s o)
    unfolding ring_s
    same_ring e none w =
        rw (eq-eqb (get_or b.rings n 0) 0 w)
        (both_ways Same (ltb b.st.slots (b.st.entries + 1)) (ltb d.slots (count_of d.nodes + 1)) (tight_same b d same whole 1)
        (λ u. same_refuse b d same bond_room place place refl)
        (λ u. same_opened e w (ltb-false b.st.slots (b.st.entries + 1) u)))
    same_ring e (some h) at =
        rw (ne_eqb (get_or b.rings n 0) 0 (λ z. omega (arith, z, at.word)))
        (subst (λ (k : BondKind). Same (closed_by b n place (reconcile_of (opening_kind b n) e)) (closed_s d n place s h (reconcile_of k e))) (kind_is h at ∙ sym (held_kind h at))
        (same_closed h at (reconcile_of (opening_kind b n) e) (reconciled (opening_kind b n) e)))

  -- a join
  pub same_join : (e : BondKind) (n place : ℕ) (path : List ℕ) → n < ring_number_count → d.path ≡ path → Same (join_of b e n place) (join_s d e n place path)
  unfolding join_of join_s
  same_join e n place [] low p =
      let w = subst (Way (length same.kinds) b.st.top b.path) p same.way in
      rw (eq-eqb b.st.top 0 (way_none (length same.kinds) b.st.top b.path w))
      (same_refuse b d same no_atom 0 0 refl)
  same_join e n place (s ∷ rest) low p =
      let w = subst (Way (length same.kinds) b.st.top b.path) p same.way in
      let current = way_some (length same.kinds) b.st.top b.path s rest w in
      rw (ne_eqb b.st.top 0 current.some)
      (same_ring n place s low current e (lookup n d.opens) (same.rings.each n low))
