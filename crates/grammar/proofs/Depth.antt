-- How many branches are open: a state's tree in the making stays within the limit as long as no state is too deep, and a
-- tree within the limit is never read through a state that is. Assumes nothing.
use Prim.Native.Nat.{ℕ, ◌+◌, ◌-◌, ◌≤◌}
use mathlib.Core.Path.{◌≡◌, sym, subst}
use mathlib.Core.List.{List, [], ◌∷◌}
use mathlib.Core.Option.{Option, none, some}
use mathlib.Core.Bool.{true, false}
use mathlib.Core.Logic.{◌⊎◌, inl, inr}
use native.Mathlib.Omega.{arith}
use borrow.Author.Tests.{ltb-true, ltb-false}
use Rattle.feature.specs.Text.{byte}
use Rattle.feature.proofs.Cases.{impossible}
use Rattle.table.specs.Limits.{branch_limit}
use Rattle.grammar.specs.Grammar.{Atom, elided, bond, dot, Line, start, link, ring, branch}
use Rattle.grammar.specs.Lines.{Fits}
use Rattle.grammar.proofs.Machine.{digit_of, bond_of, Part, begins, part_step, part_end, Around, top, inside, Where, begin, after, around, put, State, want, in_atom, body, percent, percent1, from_part, shut, body_step, want_step, atom_step, step, topmost, atom_end, ending}
use Rattle.grammar.proofs.Sound.{guard, guard_on}
use Rattle.grammar.proofs.Complete.{chain, steps, now}
use Rattle.grammar.proofs.Link.{height, deep}

unfoldable pub room_of : Around → ℕ
room_of k = branch_limit - height k

unfoldable pub FitA : Around → Type 0
FitA top = Unit {0}
FitA (inside k c l) = FitA k × Fits (room_of k) c × (height k + 1 ≤ branch_limit)

unfoldable pub FitW : Where → Type 0
FitW (begin k) = FitA k
FitW (after k c l) = FitA k × Fits (room_of k) c

-- the tree in the making is within the limit
unfoldable pub Fit : State → Type 0
Fit (want w) = FitW w
Fit (in_atom w q) = FitW w
Fit (body k c) = FitA k × Fits (room_of k) c
Fit (percent k c x) = FitA k × Fits (room_of k) c
Fit (percent1 k c x d) = FitA k × Fits (room_of k) c

-- before a step as after it, unless the step goes too deep
unfoldable pub Kept : ℕ → State → Option State → Type 0
Kept b s none = Unit {0}
Kept b s (some t) = (Fit t → Fit s) × (deep t ≡ false → Fit s → Fit t) × ((b ≡ byte "(") ⊎ (Fit s → Fit t))

start_kept : (b : ℕ) (w : Where) (o : Option Part) → Kept b (want w) (from_part w o)
unfolding Kept from_part Fit
start_kept b w none = tt
start_kept b w (some q) = (λ h. h, λ e h. h, inr (λ h. h))

shut_kept : (b : ℕ) (k : Around) (c : Line) → Kept b (body k c) (shut k c)
unfolding Kept shut Fit FitA Fits room_of height
shut_kept b top d = tt
shut_kept b (inside k c l) d =
    (λ h. ((h.0, h.1.0, omega (arith, h.1.1)), subst (λ (r : ℕ). Fits r d) fewer h.1.2), λ e h. (h.0.0, (h.0.1, omega (arith, h.0.2), subst (λ (r : ℕ). Fits r d) (sym fewer) h.1)), inr (λ h. (h.0.0, (h.0.1, omega (arith, h.0.2), subst (λ (r : ℕ). Fits r d) (sym fewer) h.1))))
  where
    fewer : branch_limit - height k - 1 ≡ branch_limit - (height k + 1)
    fewer = omega arith

body_kept : (k : Around) (c : Line) (b : ℕ) → Kept b (body k c) (body_step k c b)
unfolding Kept body_step Fit FitW FitA Fits deep height
body_kept k c b =
    let P : Option State → Type 0 = Kept b (body k c) in
    guard_on P (digit_of b) _ _ (λ d e. (λ h. h, λ z h. h, inr (λ h. h)))
    (guard P b (byte "%") _ _ (λ e. (λ h. h, λ z h. h, inr (λ h. h)))
    (guard_on P (bond_of b) _ _ (λ x e. (λ h. h, λ z h. h, inr (λ h. h)))
    (guard P b (byte ".") _ _ (λ e. (λ h. h, λ z h. h, inr (λ h. h)))
    (guard P b (byte "(") _ _ (λ e. (λ h. (h.0, h.1), λ z h. (h.0, h.1, ltb-false branch_limit (height k + 1) z), inl e))
    (guard_on P (begins b) _ _ (λ q e. (λ h. h, λ z h. h, inr (λ h. h)))
    (guard P b (byte ")") _ _ (λ e. shut_kept b k c) tt))))))

want_kept : (w : Where) (b : ℕ) → Kept b (want w) (want_step w b)
unfolding Kept want_step Fit FitW FitA Fits
want_kept (begin top) b = start_kept b (begin top) (begins b)
want_kept (begin (inside k c elided)) b =
    let P : Option State → Type 0 = Kept b (want (begin (inside k c elided))) in
    guard_on P (bond_of b) _ _ (λ x e. (λ h. h, λ z h. h, inr (λ h. h))) (guard P b (byte ".") _ _ (λ e. (λ h. h, λ z h. h, inr (λ h. h))) (start_kept b (begin (inside k c elided)) (begins b)))
want_kept (begin (inside k c (bond x))) b = start_kept b (begin (inside k c (bond x))) (begins b)
want_kept (begin (inside k c dot)) b = start_kept b (begin (inside k c dot)) (begins b)
want_kept (after k c elided) b = start_kept b (after k c elided) (begins b)
want_kept (after k c dot) b = start_kept b (after k c dot) (begins b)
want_kept (after k c (bond x)) b =
    let P : Option State → Type 0 = Kept b (want (after k c (bond x))) in
    guard_on P (digit_of b) _ _ (λ d e. (λ h. h, λ z h. h, inr (λ h. h))) (guard P b (byte "%") _ _ (λ e. (λ h. h, λ z h. h, inr (λ h. h))) (start_kept b (after k c (bond x)) (begins b)))

-- an atom is no branch
pub put_fit : (w : Where) (a : Atom) → FitW w → FitA (around w) × Fits (room_of (around w)) (put w a)
unfolding FitW around put Fits
put_fit (begin k) a h = (h, tt)
put_fit (after k c l) a h = h

fit_put : (w : Where) (a : Atom) → FitA (around w) × Fits (room_of (around w)) (put w a) → FitW w
unfolding FitW around put Fits
fit_put (begin k) a h = h.0
fit_put (after k c l) a h = h

put_kept : (b : ℕ) (w : Where) (q : Part) (a : Atom) (o : Option State) → Kept b (body (around w) (put w a)) o → Kept b (in_atom w q) o
unfolding Kept Fit
put_kept b w q a none h = tt
put_kept b w q a (some t) h = (λ f. fit_put w a (h.0 f), λ z f. h.1 z (put_fit w a f), by h.2)
  where
    by : ((b ≡ byte "(") ⊎ (FitA (around w) × Fits (room_of (around w)) (put w a) → Fit t)) → (b ≡ byte "(") ⊎ (FitW w → Fit t)
    by (inl e) = inl e
    by (inr f) = inr (λ g. f (put_fit w a g))

kept : (s : State) (b : ℕ) → Kept b s (step s b)
unfolding Kept step Fit Fits
kept (want w) b = want_kept w b
kept (in_atom w q) b = by (part_step q b) (part_end q)
  where
    by : (o : Option Part) (i : Option Atom) → Kept b (in_atom w q) (atom_step w o i b)
    by (some r) i = unfold atom_step in (λ h. h, λ z h. h, inr (λ h. h))
    by none (some a) = unfold atom_step in put_kept b w q a (body_step (around w) (put w a) b) (body_kept (around w) (put w a) b)
    by none none = unfold atom_step in tt
kept (body k c) b = body_kept k c b
kept (percent k c x) b = guard_on (Kept b (percent k c x)) (digit_of b) _ _ (λ d e. (λ h. h, λ z h. h, inr (λ h. h))) tt
kept (percent1 k c x d) b = guard_on (Kept b (percent1 k c x d)) (digit_of b) _ _ (λ f e. (λ h. h, λ z h. h, inr (λ h. h))) tt

pub fit_next : (s t : State) (b : ℕ) → step s b ≡ some t → deep t ≡ false → Fit s → Fit t
unfolding Kept
fit_next s t b e = (subst (Kept b s) e (kept s b)).1

-- a tree within the limit is read through states within it
pub fit_steps : (xs : List ℕ) (s t : State) → steps s xs ≡ some t → Fit t → Fit s
unfolding steps chain Kept
fit_steps [] s t e h = let g : s ≡ t = cc in rw g h
fit_steps (x ∷ xs) s t e h = by (step s x) (kept s x) (λ r. fit_steps xs r t) e
  where
    by : (o : Option State) → Kept x s o → ((r : State) → steps r xs ≡ some t → Fit t → Fit r) → chain o (λ r. steps r xs) ≡ some t → Fit s
    by none k f g = impossible cc
    by (some r) k f g = k.0 (f r g h)

fit_height : (k : Around) → FitA k → height k ≤ branch_limit
unfolding FitA height
fit_height top h = omega arith
fit_height (inside k c l) h = h.2

pub fit_shallow : (s : State) → Fit s → deep s ≡ true → ⊥
unfolding Fit FitW deep
fit_shallow (want (begin k)) h e = omega (arith, ltb-true branch_limit (height k) e, fit_height k h)
fit_shallow (want (after k c l)) h e = impossible cc
fit_shallow (in_atom w q) h e = impossible cc
fit_shallow (body k c) h e = impossible cc
fit_shallow (percent k c x) h e = impossible cc
fit_shallow (percent1 k c x d) h e = impossible cc

pub fit_first : Fit (want (begin top))
unfolding Fit FitW FitA
fit_first = tt

pub fit_now : (t : Line) → Fits branch_limit t → Fit (now top t)
unfolding Fit FitW FitA Fits now room_of height
fit_now (start a) h = tt
fit_now (link c l a) h = (tt, h)
fit_now (ring c x r) h = (tt, h)
fit_now (branch c l d) h = (tt, h)

top_fit : (k : Around) (c t : Line) → topmost k c ≡ some t → FitA k × Fits (room_of k) c → Fits branch_limit t
unfolding topmost FitA room_of height
top_fit top c t e h = let g : c ≡ t = cc in subst (Fits branch_limit) g h.1
top_fit (inside k d l) c t e h = impossible cc

pub fit_end : (s : State) (t : Line) → ending s ≡ some t → Fit s → Fits branch_limit t
unfolding ending atom_end Fit
fit_end (want w) t e h = impossible cc
fit_end (in_atom w q) t e h = by (part_end q) e
  where
    by : (o : Option Atom) → atom_end w o ≡ some t → Fits branch_limit t
    by none g = impossible cc
    by (some a) g = top_fit (around w) (put w a) t g (put_fit w a h)
fit_end (body k c) t e h = top_fit k c t e h
fit_end (percent k c x) t e h = impossible cc
fit_end (percent1 k c x d) t e h = impossible cc

-- what goes too deep is "("
pub fit_opens : (s t : State) (b : ℕ) → step s b ≡ some t → deep t ≡ true → Fit s → b ≡ byte "("
unfolding Kept
fit_opens s t b e d h = by (subst (Kept b s) e (kept s b)).2
  where
    by : ((b ≡ byte "(") ⊎ (Fit s → Fit t)) → b ≡ byte "("
    by (inl g) = g
    by (inr f) = absurd (fit_shallow t (f h) d)
