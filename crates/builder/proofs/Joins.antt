-- What the second use of a ring number makes of a state, from what the code has read. Assumes nothing.
use Rattle.std.proofs.Common.{◌≡◌, ℕ, ◌+◌, ◌-◌, ◌*◌, ◌<◌, ◌≤◌, true, false, Some, is_some, List, [], ◌∷◌, get_or, set, sym, ap, ◌∙◌, le-ltb, lt-ltb}
use lib.Seq.{sets}
use Rattle.feature.specs.Bonds.{code_of, kind_of, reconcile_of, sure_kind}
use Rattle.feature.specs.declared.bond_kind.BondKind.{BondKind}
use Rattle.std.specs.Prelude.{None, Option}
use Rattle.desk_numbers.specs.Numbers.{bond_room}
use Rattle.builder.specs.declared.builder.Builder.{Builder}
use Rattle.builder.specs.State.{Bld, bld, failed_join, broken_st, entry_words, entry_list, failed_st, joined_st, refused_st, last_of, opened_at, opening_of, opening_kind, refuse, closed_by}

pub again_failed : (s : Builder) (x y : ℕ) → is_some s.failed ≡ true → broken_st s s.failed ≡ failed_st s x y
unfolding failed_st
again_failed s x y e = rw e

pub first_failed : (s : Builder) (x y : ℕ) → is_some s.failed ≡ false → broken_st s (Some (failed_join x y)) ≡ failed_st s x y
unfolding failed_st
first_failed s x y e = rw e

module _ (b : Bld) (k left : BondKind) (n place held opening closing : ℕ) (is_held_lem : held ≡ get_or b.rings n 0) (is-opening : opening ≡ get_or b.entries ((held - 1) * entry_words) 0) (is-left : left ≡ sure_kind (kind_of (get_or b.entries ((held - 1) * entry_words + 1) 0))) (is-closing : closing ≡ get_or b.path (b.st.top - 1) 0) where
  place_is : (held - 1) * entry_words ≡ opened_at b n
  unfolding opened_at
  place_is = rw is_held_lem

  kind_is : left ≡ opening_kind b n
  unfolding opening_kind
  kind_is = is-left ∙ ap (λ (w : ℕ). sure_kind (kind_of (get_or b.entries (w + 1) 0))) place_is

  opening_is : opening ≡ opening_of b n
  unfolding opening_of
  opening_is = is-opening ∙ ap (λ (w : ℕ). get_or b.entries w 0) place_is

  closing_is : closing ≡ last_of b
  unfolding last_of
  closing_is = is-closing

  step : (q : Option (BondKind × BondKind)) → q ≡ reconcile_of left k → closed_by b n place (reconcile_of (opening_kind b n) k) ≡ closed_by b n place q
  step q e = ap (λ (x : BondKind). closed_by b n place (reconcile_of x k)) (sym kind_is) ∙ ap (λ (x : Option (BondKind × BondKind)). closed_by b n place x) (sym e)

  pub closed_fails : None ≡ reconcile_of left k → bld b.atoms b.entries b.path (set b.rings n 0) (failed_st b.st closing opening) ≡ closed_by b n place (reconcile_of (opening_kind b n) k)
  unfolding closed_by
  closed_fails e =
      ap (λ (x : ℕ). bld b.atoms b.entries b.path (set b.rings n 0) (failed_st b.st x opening)) closing_is
      ∙ ap (λ (y : ℕ). bld b.atoms b.entries b.path (set b.rings n 0) (failed_st b.st (last_of b) y)) opening_is
      ∙ sym (step None e)

  pub closed_full : (l r : BondKind) → Some (l, r) ≡ reconcile_of left k → b.st.slots < b.st.entries + 1 → bld b.atoms b.entries b.path b.rings (refused_st b.st bond_room place) ≡ closed_by b n place (reconcile_of (opening_kind b n) k)
  unfolding closed_by refuse
  closed_full l r e h = sym (step (Some (l, r)) e ∙ rw (lt-ltb _ _ h))

  pub closed_both : (l r : BondKind) → Some (l, r) ≡ reconcile_of left k → b.st.entries + 1 ≤ b.st.slots → bld b.atoms (sets (sets b.entries ((held - 1) * entry_words + 1) (code_of l ∷ closing ∷ [])) (b.st.entries * entry_words) (entry_list closing (code_of r) opening)) b.path (set b.rings n 0) (joined_st b.st) ≡ closed_by b n place (reconcile_of (opening_kind b n) k)
  unfolding closed_by
  closed_both l r e h =
      ap (λ (w : ℕ). done (sets (sets b.entries (w + 1) (code_of l ∷ closing ∷ [])) (b.st.entries * entry_words) (entry_list closing (code_of r) opening))) place_is
      ∙ ap (λ (x : ℕ). done (sets (sets b.entries (opened_at b n + 1) (code_of l ∷ x ∷ [])) (b.st.entries * entry_words) (entry_list x (code_of r) opening))) closing_is
      ∙ ap (λ (y : ℕ). done (sets (sets b.entries (opened_at b n + 1) (code_of l ∷ last_of b ∷ [])) (b.st.entries * entry_words) (entry_list (last_of b) (code_of r) y))) opening_is
      ∙ sym (step (Some (l, r)) e ∙ rw (le-ltb _ _ h))
    where
      done : List ℕ → Bld
      done m = bld b.atoms m b.path (set b.rings n 0) (joined_st b.st)
