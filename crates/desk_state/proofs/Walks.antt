-- A walk along a chain that asks at each entry whether nothing is left: what `all` answers. Assumes nothing.
use Rattle.std.proofs.Common.{◌≡◌, ℕ, Bool, true, false, List, [], ◌∷◌, length, get_or, sym, ◌∙◌, ap, subst}
use Rattle.std.specs.Prelude.{Option, Some, None, MatchOption}
use Rattle.std.specs.Fn.{Called}
use Rattle.std.specs.Iterator.{Yields, YieldsThen}
use Rattle.std.specs.List.{FoldsTo}
use denote.Param.Members.{Mut}
use lib.Dec.{eqb}
use borrow.Author.Tests.{eqb-true, eqb-false}
use Rattle.desk_state.specs.declared.chains.Chain.{Chain}
use Rattle.desk_state.specs.Steps.{Sound, Linked, Taken, NoneCounted, Judged, out_cell, goes_along}
use Rattle.desk_state.proofs.Levels.{Stands, Level, level_end}
use Rattle.desk_state.proofs.Ways.{says_yes, goes_on, level_turn, level_stops}

module _ (e : List ℕ) (n a : ℕ) (d head next : List ℕ) (sound : Sound e n (length d)) (link : Linked e 0 n head next) where
  -- where the walk has come to, with nothing left behind it
  record At (s : Chain) : Type 0 where
    pub links : s.next.now ≡ next
    pub stands : Stands e 0 a n s.ahead
    pub level : Level e n a s.ahead d

  module _ {F : Type 0} {g : Mut F (ℕ × Unit {0}) Bool} (f : F) (answers : (x : ℕ) (b : Bool) (q : F) → Called g f (x, tt) b q → (q ≡ f) × (b ≡ eqb (get_or d (out_cell e x) 0) 0)) where
    walk : (xs : List ℕ) (s t : Chain) (j : F) → At s → Yields goes_along s xs t → FoldsTo (λ p x q. Called g p (x, tt) true q) f xs j → (j ≡ f) × At t
    walk [] s t j h y c = (sym c, subst At y h)
    walk (x ∷ xs) s t j h y c =
        let told = answers x true c.0 c.1 in
        let goes : y.0.ahead ≡ get_or next x 0 = y.1.1 ∙ ap (λ (z : List ℕ). get_or z x 0) h.links in
        walk xs y.0 t j
        (record {
          links = y.1.2 ∙ h.links;
          stands = goes_on e n a x y.1.0 0 link h.stands goes;
          level = level_turn e n a x y.1.0 d sound link h.stands h.level (eqb-true _ _ (sym told.1)) goes;
        })
        y.2
        (subst (λ (p : F). FoldsTo (λ p x q. Called g p (x, tt) true q) p xs j) told.0 c.2)

    pub level_told : Taken e n a 0 d → (r : Bool) (s u : Chain) → s.next.now ≡ next → Stands e 0 a n s.ahead → Level e n a s.ahead d
        → (xs : List ℕ) × (o : Option ℕ) × (j : F) × YieldsThen goes_along s xs o u × FoldsTo (λ p x q. Called g p (x, tt) true q) f xs j × MatchOption o (r ≡ true) (λ x. (r ≡ false) × ((h : F) × Called g j (x, tt) false h))
        → Judged r e n (NoneCounted d)
    level_told taken r s u links stands level ran = go ran.1 ran.3.2 ran.5 where
      come : (ran.2 ≡ f) × At ran.3.0
      come = walk ran.0 s ran.3.0 ran.2 (record { links = links; stands = stands; level = level }) ran.3.1 ran.4

      go : (o : Option ℕ) → goes_along ran.3.0 o u → MatchOption o (r ≡ true) (λ x. (r ≡ false) × ((h : F) × Called g ran.2 (x, tt) false h)) → Judged r e n (NoneCounted d)
      go None step is =
          subst (λ (q : Bool). Judged q e n (NoneCounted d)) (sym is)
          (says_yes e n (level_end e n a d sound (subst (λ (p : ℕ). Level e n a p d) step come.1.level) taken))
      go (Some x) step is =
          let told = answers x false is.1.0 (subst (λ (p : F). Called g p (x, tt) false is.1.0) come.0 is.1.1) in
          subst (λ (q : Bool). Judged q e n (NoneCounted d)) (sym is.0)
          (level_stops e n a x step.0 d sound come.1.stands taken (eqb-false _ _ (sym told.1)))
