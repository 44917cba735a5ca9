-- A text that goes too deep is refused for the first place where it does; and a text's events hold a refusal only as their last.
-- Assumes nothing.
use Prim.Native.Nat.{ℕ, ◌+◌, ◌-◌, ◌<◌, ◌≤◌}
use mathlib.Core.Path.{◌≡◌, refl, sym, ap, ap₂, ◌∙◌, subst}
use mathlib.Core.List.{List, [], ◌∷◌, ◌++◌, append_assoc}
use mathlib.Core.Option.{Option, none, some}
use mathlib.Core.Bool.{Bool, true, false}
use mathlib.Core.Logic.{◌⊎◌, inl, inr}
use native.Mathlib.Omega.{arith}
use lib.ListN.{length, length-append}
use Rattle.feature.specs.Pick.{pick}
use Rattle.feature.specs.Text.{byte}
use Rattle.feature.proofs.Cases.{impossible}
use Rattle.read_token.specs.declared.scanner.Missing.{Missing}
use Rattle.table.specs.Limits.{branch_limit}
use Rattle.read_line.specs.Events.{ReadEvent, Enter, Join, Pop, Miss, Nest}
use Rattle.read_line.specs.Parse.{parse}
use Rattle.grammar.specs.Names.{has1}
use Rattle.grammar.specs.Grammar.{d0, organics, bare1, Atom, organic, Line, ring, ring2, branch, spell, atom_s, rnum_s, digit_s}
use Rattle.grammar.specs.Lines.{Bytes, Fits, TooDeep, Clean, Ends}
use Rattle.grammar.proofs.Machine.{Around, top, inside, Where, begin, after, around, put, State, want, in_atom, body, percent, percent1, step, ending, part_end}
use Rattle.grammar.proofs.Sound.{sofar, where_s, around_s, put_ok}
use Rattle.grammar.proofs.Complete.{chain, steps}
use Rattle.grammar.proofs.Reading.{zero_state, reached, viable_through, closing, closers, closing_ok, made}
use Rattle.grammar.proofs.Link.{entry, told_around, told_line, told_where, told_atom, told, halt, height, deep, onward, refusal, full, parse_full}
use Rattle.grammar.proofs.Depth.{room_of, FitA, FitW, Fit, fit_next, fit_first, put_fit}
use Rattle.grammar.proofs.Verdict.{clean_append, clean_tells}

-- ---- a state within the limit goes on to a line within it
unfoldable pub Fitting : List ℕ → Type 0
Fitting p = (t : Line) × (w : List ℕ) × (spell t ≡ p ++ w) × Fits branch_limit t

fitting_cut : (p q : List ℕ) → Fitting (p ++ q) → Fitting p
unfolding Fitting
fitting_cut p q v = (v.0, q ++ v.1, simp append_assoc at v.2, v.3)

closing_fit : (k : Around) (c : Line) → FitA k → Fits (room_of k) c → Fits branch_limit (closing k c)
unfolding closing FitA Fits room_of height
closing_fit top c h f = f
closing_fit (inside k c l) d h f =
    let fewer : branch_limit - height k - 1 ≡ branch_limit - (height k + 1) = omega arith in
    closing_fit k (branch c l d) h.0 (h.1, omega (arith, h.2), subst (λ (r : ℕ). Fits r d) (sym fewer) f)

fitting_body : (k : Around) (c : Line) → FitA k → Fits (room_of k) c → Fitting (around_s k ++ spell c)
unfolding Fitting
fitting_body k c h f = (closing k c, closers k, simp append_assoc (closing_ok k c), closing_fit k c h f)

fitting_atom : (w : Where) (a : Atom) → FitW w → Fitting (where_s w ++ atom_s a)
fitting_atom w a h = let f = put_fit w a h in rw put_ok at (fitting_body (around w) (put w a) f.0 f.1)

pub fitting : (u : State) → Fit u → Fitting (sofar u)
unfolding sofar rnum_s has1 organics Fit spell Fits
fitting (want w) h = fitting_cut _ _ (fitting_atom w (organic (bare1 (byte "O") tt)) h)
fitting (in_atom w q) h = let m = made q in fitting_cut _ m.more (rw append_assoc (rw m.is at (fitting_atom w m.atom h)))
fitting (body k c) h = fitting_body k c h.0 h.1
fitting (percent k c x) h = fitting_cut _ (digit_s d0 ∷ digit_s d0 ∷ []) (simp append_assoc (fitting_body k (ring c x (ring2 d0 d0)) h.0 h.1))
fitting (percent1 k c x d) h = fitting_cut _ (digit_s d0 ∷ []) (simp append_assoc (fitting_body k (ring c x (ring2 d d0)) h.0 h.1))

-- ---- as far as a text is read it is within the limit, or it is refused before
unfoldable pub Nested : List ReadEvent → ℕ → Type 0
Nested es n = (told : List ReadEvent) × (m : ℕ) × (es ≡ told ++ (Nest m ∷ [])) × (m < n)

pub fit_full : (q bs : List ℕ) (u v : State) (n : ℕ) → steps u q ≡ some v → Fit u → Nested (full u n (q ++ bs)) (n + length q) ⊎ (Fit v × (full u n (q ++ bs) ≡ full v (n + length q) bs))
unfolding steps chain full Nested
fit_full [] bs u v n e h = let g : u ≡ v = cc in inr (subst Fit g h, ap₂ (λ (x : State) (i : ℕ). full x i bs) g (omega arith))
fit_full (b ∷ q) bs u v n e h = by (step u b) refl e (λ t g f. fit_full q bs t v (n + 1) g f)
  where
    Rest : List ReadEvent → Type 0
    Rest es = ((told : List ReadEvent) × (m : ℕ) × (es ≡ told ++ (Nest m ∷ [])) × (m < n + length (b ∷ q))) ⊎ (Fit v × (es ≡ full v (n + length (b ∷ q)) bs))

    by : (o : Option State) → step u b ≡ o → chain o (λ t. steps t q) ≡ some v
        → ((t : State) → steps t q ≡ some v → Fit t → ((told : List ReadEvent) × (m : ℕ) × (full t (n + 1) (q ++ bs) ≡ told ++ (Nest m ∷ [])) × (m < n + 1 + length q)) ⊎ (Fit v × (full t (n + 1) (q ++ bs) ≡ full v (n + 1 + length q) bs)))
        → Rest (onward o (told u ++ (Miss (refusal u n b (q ++ bs)) ∷ [])) (told u ++ (Nest n ∷ [])) (λ t. full t (n + 1) (q ++ bs)))
    by none i g go = impossible cc
    by (some t) i g go = unfold onward in deeper (deep t) refl
      where
        deeper : (x : Bool) → deep t ≡ x → Rest (pick x (told u ++ (Nest n ∷ [])) (full t (n + 1) (q ++ bs)))
        deeper true d = inl (told u, n, refl, omega arith)
        deeper false d = later (go t g (fit_next u t b i d h))
          where
            later : ((told : List ReadEvent) × (m : ℕ) × (full t (n + 1) (q ++ bs) ≡ told ++ (Nest m ∷ [])) × (m < n + 1 + length q)) ⊎ (Fit v × (full t (n + 1) (q ++ bs) ≡ full v (n + 1 + length q) bs)) → Rest (full t (n + 1) (q ++ bs))
            later (inl y) = inl (y.0, y.1, y.2, omega (arith, y.3))
            later (inr y) = inr (y.0, y.1 ∙ ap (λ (i : ℕ). full v i bs) (omega arith))

-- A TEXT THAT GOES TOO DEEP SOMEWHERE is refused for it, there or before
pub deep_nests : (s : List ℕ) → Bytes s → (n : ℕ) → TooDeep s n → (m : ℕ) × Ends (parse s) (Nest m) × (m ≤ n)
unfolding Nested Ends
deep_nests s h n d = by (fit_full q d.behind zero_state v 0 e (unfold zero_state in fit_first))
  where
    q : List ℕ
    q = d.before ++ (d.byte ∷ [])

    v : State
    v = (viable_through q d.alive).0

    e : steps zero_state q ≡ some v
    e = (viable_through q d.alive).1

    cut : s ≡ q ++ d.behind
    cut = d.is ∙ sym (append_assoc d.before (d.byte ∷ []) d.behind)

    parsed : parse s ≡ full zero_state 0 (q ++ d.behind)
    parsed = parse_full s h ∙ (unfold zero_state in ap (full (want (begin top)) 0) cut)

    no : Fit v → ⊥
    no f = let w = fitting v f in unfold Fitting in d.deep w.0 w.1 (w.2 ∙ ap (λ (x : List ℕ). x ++ w.1) (reached q v e) ∙ append_assoc d.before (d.byte ∷ []) w.1) w.3

    by : ((told : List ReadEvent) × (m : ℕ) × (full zero_state 0 (q ++ d.behind) ≡ told ++ (Nest m ∷ [])) × (m < 0 + length q)) ⊎ (Fit v × (full zero_state 0 (q ++ d.behind) ≡ full v (0 + length q) d.behind)) → (m : ℕ) × ((told : List ReadEvent) × (parse s ≡ told ++ (Nest m ∷ []))) × (m ≤ n)
    by (inl y) = (y.1, (y.0, parsed ∙ y.2), omega (arith, y.3, length-append d.before (d.byte ∷ []), d.place))
    by (inr f) = absurd (no f.0)

-- ---- a refusal is the last event
unfoldable pub Tidy : List ReadEvent → Type 0
Tidy [] = Unit {0}
Tidy (Enter l k at ∷ es) = Tidy es
Tidy (Join e r at ∷ es) = Tidy es
Tidy (Pop i ∷ es) = Tidy es
Tidy (Miss x ∷ es) = es ≡ []
Tidy (Nest at ∷ es) = es ≡ []

tidy_append : (xs ys : List ReadEvent) → Clean xs → Tidy ys → Tidy (xs ++ ys)
unfolding Tidy Clean
tidy_append [] ys c t = t
tidy_append (Enter l k at ∷ xs) ys c t = tidy_append xs ys c t
tidy_append (Join e r at ∷ xs) ys c t = tidy_append xs ys c t
tidy_append (Pop i ∷ xs) ys c t = tidy_append xs ys c t
tidy_append (Miss x ∷ xs) ys c t = absurd c
tidy_append (Nest at ∷ xs) ys c t = absurd c

clean_around : (k : Around) → Clean (told_around k)
unfolding told_around Clean
clean_around top = tt
clean_around (inside k c l) = clean_append (told_around k) _ (clean_around k) (clean_tells c (around_s k) (entry k))

clean_line : (k : Around) (c : Line) → Clean (told_line k c)
unfolding told_line
clean_line k c = clean_append (told_around k) _ (clean_around k) (clean_tells c (around_s k) (entry k))

clean_where : (w : Where) → Clean (told_where w)
unfolding told_where
clean_where (begin k) = clean_around k
clean_where (after k c l) = clean_line k c

clean_told : (u : State) → Clean (told u)
unfolding told told_atom
clean_told (want w) = clean_where w
clean_told (in_atom w q) = by (part_end q)
  where
    by : (o : Option Atom) → Clean (told_atom w o)
    by none = clean_where w
    by (some a) = clean_line (around w) (put w a)
clean_told (body k c) = clean_line k c
clean_told (percent k c x) = clean_line k c
clean_told (percent1 k c x d) = clean_line k c

tidy_full : (bs : List ℕ) (u : State) (n : ℕ) → Tidy (full u n bs)
unfolding full
tidy_full [] u n = tidy_append (told u) _ (clean_told u) (by (ending u))
  where
    by : (o : Option Line) → Tidy (halt o)
    by none = unfold halt Tidy in refl
    by (some t) = unfold halt Tidy in tt
tidy_full (b ∷ bs) u n = by (step u b) (λ t. tidy_full bs t (n + 1))
  where
    by : (o : Option State) → ((t : State) → Tidy (full t (n + 1) bs)) → Tidy (onward o (told u ++ (Miss (refusal u n b bs) ∷ [])) (told u ++ (Nest n ∷ [])) (λ t. full t (n + 1) bs))
    by none f = unfold onward in tidy_append (told u) _ (clean_told u) (unfold Tidy in refl)
    by (some t) f = unfold onward in deeper (deep t)
      where
        deeper : (x : Bool) → Tidy (pick x (told u ++ (Nest n ∷ [])) (full t (n + 1) bs))
        deeper true = tidy_append (told u) _ (clean_told u) (unfold Tidy in refl)
        deeper false = f t

pub tidy_parse : (s : List ℕ) → Bytes s → Tidy (parse s)
tidy_parse s h = rw (parse_full s h) (tidy_full s (want (begin top)) 0)

-- what a tidy list of events holds after a refusal
module _ (x : Missing) (after : List ReadEvent) where
  pub tidy_miss : (before : List ReadEvent) → Tidy (before ++ (Miss x ∷ after)) → after ≡ []
  unfolding Tidy
  tidy_miss [] t = t
  tidy_miss (Enter l k at ∷ es) t = tidy_miss es t
  tidy_miss (Join e r at ∷ es) t = tidy_miss es t
  tidy_miss (Pop i ∷ es) t = tidy_miss es t
  tidy_miss (Miss y ∷ []) t = impossible cc
  tidy_miss (Miss y ∷ (e ∷ es)) t = impossible cc
  tidy_miss (Nest at ∷ []) t = impossible cc
  tidy_miss (Nest at ∷ (e ∷ es)) t = impossible cc

module _ (n : ℕ) (after : List ReadEvent) where
  pub tidy_nest : (before : List ReadEvent) → Tidy (before ++ (Nest n ∷ after)) → after ≡ []
  unfolding Tidy
  tidy_nest [] t = t
  tidy_nest (Enter l k at ∷ es) t = tidy_nest es t
  tidy_nest (Join e r at ∷ es) t = tidy_nest es t
  tidy_nest (Pop i ∷ es) t = tidy_nest es t
  tidy_nest (Miss y ∷ []) t = impossible cc
  tidy_nest (Miss y ∷ (e ∷ es)) t = impossible cc
  tidy_nest (Nest at ∷ []) t = impossible cc
  tidy_nest (Nest at ∷ (e ∷ es)) t = impossible cc
