-- Which of two things that are wrong with a text comes first: what goes too deep comes before what is refused, and a line
-- within the limit is read up to what is after it. Assumes nothing.
use Prim.Native.Nat.{ℕ, ◌<◌, ◌≤◌}
use mathlib.Core.Path.{◌≡◌, refl, sym, ap, ap₂, ◌∙◌, subst}
use mathlib.Core.List.{List, [], ◌∷◌, ◌++◌}
use mathlib.Core.Logic.{◌⊎◌, inl, inr}
use mathlib.Core.Bool.{Bool, true, false}
use native.Mathlib.Omega.{arith}
use lib.ListN.{length}
use lib.Dec.{leb}
use borrow.Author.Tests.{leb-true, leb-false}
use Rattle.read_token.specs.declared.scanner.Missing.TheVariants.{Character}
use Rattle.table.specs.Limits.{branch_limit}
use Rattle.read_line.specs.Events.{Miss}
use Rattle.read_line.specs.Parse.{parse}
use Rattle.grammar.specs.Grammar.{Line, spell}
use Rattle.grammar.specs.Lines.{Bytes, Fits, Viable, WrongAt, Late, TooDeep, Ends, Nests}
use Rattle.grammar.proofs.Reading.{viable_cut}
use Rattle.grammar.proofs.Verdict.{refused_is}

-- the earlier of two parts of a text is a part of the later
earlier : (q p : List ℕ) (b a : ℕ) (v u : List ℕ) → q ++ (b ∷ v) ≡ p ++ (a ∷ u) → length q ≤ length p → (w : List ℕ) × (p ++ (a ∷ []) ≡ (q ++ (b ∷ [])) ++ w)
earlier [] [] b a v u e h = let g : a ≡ b = cc in ([], ap (λ (x : ℕ). x ∷ []) g)
earlier [] (x ∷ p) b a v u e h = let g : x ≡ b = cc in (p ++ (a ∷ []), ap (λ (y : ℕ). y ∷ (p ++ (a ∷ []))) g)
earlier (y ∷ q) [] b a v u e h = absurd (omega arith)
earlier (y ∷ q) (x ∷ p) b a v u e h =
    let g : x ≡ y = cc in let f : q ++ (b ∷ v) ≡ p ++ (a ∷ u) = cc in let r = earlier q p b a v u f (omega arith) in
    (r.0, ap₂ (λ (i : ℕ) (l : List ℕ). i ∷ l) g r.1)

within : (p t : List ℕ) (a x : ℕ) (u v : List ℕ) → p ++ (a ∷ u) ≡ t ++ (x ∷ v) → length p < length t → (w : List ℕ) × (t ≡ p ++ (a ∷ w))
within p [] a x u v e h = absurd (omega arith)
within [] (y ∷ t) a x u v e h = let g : y ≡ a = cc in (t, ap (λ (i : ℕ). i ∷ t) g)
within (z ∷ p) (y ∷ t) a x u v e h =
    let g : y ≡ z = cc in let f : p ++ (a ∷ u) ≡ t ++ (x ∷ v) = cc in let r = within p t a x u v f (omega arith) in
    (r.0, ap₂ (λ (i : ℕ) (l : List ℕ). i ∷ l) g r.1)

-- a text goes too deep only before it is wrong
pub nest_first : (s : List ℕ) (m n : ℕ) → TooDeep s m → WrongAt s n → m < n
nest_first s m n d r = by (leb n m) refl
  where
    by : (t : Bool) → leb n m ≡ t → m < n
    by true e =
        let c = earlier r.before d.before r.byte d.byte r.behind d.behind (sym r.is ∙ d.is) (omega (arith, leb-true n m e, r.place, d.place)) in
        absurd (r.dead (viable_cut (r.before ++ (r.byte ∷ [])) c.0 (subst Viable c.1 d.alive)))
    by false e = leb-false n m e

-- a line within the limit is read, up to what is wrong after it
pub after_line : (t : Line) (x : ℕ) (behind : List ℕ) → Bytes (spell t ++ (x ∷ behind)) → Fits branch_limit t → (r : WrongAt (spell t ++ (x ∷ behind)) (length (spell t))) → ¬ Late r
    → Ends (parse (spell t ++ (x ∷ behind))) (Miss (Character (length (spell t))))
after_line t x behind h f r timely = by (refused_is (spell t ++ (x ∷ behind)) h (length (spell t)) r timely)
  where
    shallow : ¬ Nests (spell t ++ (x ∷ behind))
    shallow n = no (unfold Nests in n.0) (unfold Nests in n.1)
      where
        no : (m : ℕ) → TooDeep (spell t ++ (x ∷ behind)) m → ⊥
        no m d =
            let c = within d.before (spell t) d.byte x d.behind behind (sym d.is) (omega (arith, d.place, nest_first (spell t ++ (x ∷ behind)) m (length (spell t)) d r)) in
            d.deep t c.0 c.1 f

    by : (Ends (parse (spell t ++ (x ∷ behind))) (Miss (Character (length (spell t)))) ⊎ Nests (spell t ++ (x ∷ behind))) → Ends (parse (spell t ++ (x ∷ behind))) (Miss (Character (length (spell t))))
    by (inl e) = e
    by (inr n) = absurd (shallow n)
