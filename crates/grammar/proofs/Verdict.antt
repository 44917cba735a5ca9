-- THE READER AGAINST THE GRAMMAR, over all bytes: what a text's events are, by what the text is. Assumes nothing.
use Prim.Native.Nat.{ℕ, ◌+◌, ◌<◌}
use mathlib.Core.Path.{◌≡◌, refl, sym, ap, ap₂, ◌∙◌, subst}
use mathlib.Core.List.{List, [], ◌∷◌, ◌++◌, append_assoc, append-nil}
use mathlib.Core.Option.{Option, none, some}
use mathlib.Core.Bool.{Bool, true, false}
use mathlib.Core.Logic.{◌⊎◌, inl, inr}
use native.Mathlib.Omega.{arith}
use lib.ListN.{length, length-append}
use lib.Dec.{ltb}
use borrow.Author.Tests.{ltb-true, lt-ltb}
use Rattle.feature.specs.Pick.{pick, both}
use Rattle.feature.proofs.Cases.{both_true, clash, impossible}
use Rattle.read_token.specs.declared.scanner.Missing.{Missing}
use Rattle.read_token.specs.declared.scanner.Missing.TheVariants.{EndOfLine, Character}
use Rattle.table.specs.Limits.{branch_limit}
use Rattle.read_line.specs.Events.{ReadEvent, Enter, Join, Pop, Miss, Nest}
use Rattle.read_line.specs.Parse.{parse}
use Rattle.grammar.specs.Grammar.{Atom, Link, dot, Line, start, link, ring, branch, spell, enter, join_event, tells, meaning}
use Rattle.grammar.specs.Lines.{Bytes, Fits, Spelled, Viable, WrongAt, Eaten, Late, late_missing, TooDeep, Verdict, reads, ends, refuses, refuses_late, nests, Clean, Ends, Nests}
use Rattle.grammar.proofs.Machine.{Around, top, inside, begin, around, put, State, want, in_atom, body, percent, percent1, step, topmost, atom_end, ending, part_end, character, finished}
use Rattle.grammar.proofs.Sound.{sofar, around_s, Told, ending_ok}
use Rattle.grammar.proofs.Complete.{chain, steps, steps_then, now, read_line}
use Rattle.grammar.proofs.Reading.{zero_state, reached, through_viable, stuck_dead, read_through, viable_cut, end_refused, unique, refused_character}
use Rattle.grammar.proofs.Late.{late, late_text, eaten_late}
use Rattle.grammar.proofs.Spelling.{spelled_bytes}
use Rattle.grammar.proofs.Atoms.{lacked}
use Rattle.grammar.proofs.Link.{entry, told_around, told_line, told_atom, told, halt, deep, onward, refusal, full, parse_full}
use Rattle.grammar.proofs.Depth.{Fit, fit_next, fit_opens, fit_steps, fit_shallow, fit_first, fit_now, fit_end}

-- ---- what a last state has told is its tree's meaning
top_told : (k : Around) (c t : Line) → topmost k c ≡ some t → told_line k c ≡ meaning t
unfolding topmost told_line told_around meaning around_s entry
top_told top c t e = let g : c ≡ t = cc in rw g
top_told (inside k d l) c t e = impossible cc

ending_told : (s : State) (t : Line) → ending s ≡ some t → told s ≡ meaning t
unfolding ending told atom_end told_atom
ending_told (want w) t e = impossible cc
ending_told (in_atom w q) t e = by (part_end q) e
  where
    by : (o : Option Atom) → atom_end w o ≡ some t → told_atom w o ≡ meaning t
    by none g = impossible cc
    by (some a) g = top_told (around w) (put w a) t g
ending_told (body k c) t e = top_told k c t e
ending_told (percent k c x) t e = impossible cc
ending_told (percent1 k c x d) t e = impossible cc

-- ---- one place further
steps_on : (p : List ℕ) (b : ℕ) (u t : State) → steps zero_state p ≡ some u → step u b ≡ some t → steps zero_state (p ++ (b ∷ [])) ≡ some t
unfolding steps chain
steps_on p b u t e f = steps_then p (b ∷ []) zero_state u e ∙ rw f

late_is : (n : ℕ) (bs : List ℕ) → lacked true n bs ≡ late_missing n bs
unfolding lacked late_missing
late_is n [] = refl
late_is n (b ∷ bs) = refl

-- where the machine has gone too deep no line is within the limit
deep_trees : (p : List ℕ) (b : ℕ) (t : State) → steps zero_state (p ++ (b ∷ [])) ≡ some t → deep t ≡ true → (v : Line) (w : List ℕ) → spell v ≡ p ++ (b ∷ w) → ¬ Fits branch_limit v
deep_trees p b t e d v w g h =
    let r : steps zero_state (spell v) ≡ some (now top v) = unfold zero_state in read_line v top in
    let c : spell v ≡ (p ++ (b ∷ [])) ++ w = g ∙ sym (append_assoc p (b ∷ []) w) in
    let q : steps t w ≡ some (now top v) = sym (steps_then (p ++ (b ∷ [])) w zero_state t e) ∙ ap (λ (x : List ℕ). steps zero_state x) (sym c) ∙ r in
    fit_shallow t (fit_steps w t (now top v) q (fit_now v h)) d

verdict_go : (bs p : List ℕ) (u : State) (n : ℕ) → steps zero_state p ≡ some u → Fit u → length p ≡ n → Verdict (p ++ bs) (full u n bs)
unfolding full
verdict_go [] p u n e h q = subst (λ (x : List ℕ). Verdict x (told u ++ halt (ending u))) (sym (append-nil p)) (by (ending u) refl)
  where
    unread : ending u ≡ none → ¬ Spelled p
    unread g = (end_refused p (read_through p u e ∙ (unfold finished in rw g))).1

    by : (o : Option Line) → ending u ≡ o → Verdict p (told u ++ halt o)
    by none g = ends (told u) (unfold halt in refl) (through_viable p u e) (unread g)
    by (some t) g = reads t (unfold Told in subst (Told (sofar u)) g (ending_ok u) ∙ reached p u e) (fit_end u t g h) (unfold halt in append-nil (told u) ∙ ending_told u t g)
verdict_go (b ∷ bs) p u n e h q = by (step u b) refl (λ t f. verdict_go bs (p ++ (b ∷ [])) t (n + 1))
  where
    refused : step u b ≡ none → WrongAt (p ++ (b ∷ bs)) n
    refused f = record { before = p; byte = b; behind = bs; is = refl; place = q; alive = through_viable p u e; dead = stuck_dead p b u e f }

    judged : (f : step u b ≡ none) (x : Bool) → both (late u) (ltb b 128) ≡ x → Verdict (p ++ (b ∷ bs)) (told u ++ (Miss (lacked x n bs) ∷ []))
    judged f true g = let c = both_true (late u) (ltb b 128) g in
        refuses_late n (told u) (refused f) (ap (λ (m : Missing). told u ++ (Miss m ∷ [])) (late_is n bs)) (unfold Late in (subst Eaten (reached p u e) (late_text u c.0), ltb-true b 128 c.1))
    judged f false g = refuses n (told u) (unfold lacked in refl) (refused f) (unfold Late in λ z. clash (rw (eaten_late p u e z.0) (lt-ltb b 128 z.1)) g)

    by : (o : Option State) → step u b ≡ o
        → ((t : State) → step u b ≡ some t → steps zero_state (p ++ (b ∷ [])) ≡ some t → Fit t → length (p ++ (b ∷ [])) ≡ n + 1 → Verdict ((p ++ (b ∷ [])) ++ bs) (full t (n + 1) bs))
        → Verdict (p ++ (b ∷ bs)) (onward o (told u ++ (Miss (refusal u n b bs) ∷ [])) (told u ++ (Nest n ∷ [])) (λ t. full t (n + 1) bs))
    by none f go = unfold onward refusal in judged f (both (late u) (ltb b 128)) refl
    by (some t) f go = unfold onward in deeper (deep t) refl
      where
        on : steps zero_state (p ++ (b ∷ [])) ≡ some t
        on = steps_on p b u t e f

        deeper : (x : Bool) → deep t ≡ x → Verdict (p ++ (b ∷ bs)) (pick x (told u ++ (Nest n ∷ [])) (full t (n + 1) bs))
        deeper true d = nests n (told u) refl (record { before = p; byte = b; behind = bs; is = refl; place = q; alive = through_viable (p ++ (b ∷ [])) t on; deep = deep_trees p b t on d; opens = fit_opens u t b f d h })
        deeper false d = subst (λ (x : List ℕ). Verdict x (full t (n + 1) bs)) (append_assoc p (b ∷ []) bs) (go t f on (fit_next u t b f d h) (length-append p (b ∷ []) ∙ ap (λ (x : ℕ). x + 1) q))

-- EVERY TEXT HAS ITS VERDICT
pub verdict : (s : List ℕ) → Bytes s → Verdict s (parse s)
verdict s h = rw (parse_full s h) (unfold zero_state steps in verdict_go s [] (want (begin top)) 0 refl fit_first refl)

-- ---- a tree's meaning holds no refusal, and every refusal is one
pub clean_append : (xs ys : List ReadEvent) → Clean xs → Clean ys → Clean (xs ++ ys)
unfolding Clean
clean_append [] ys h k = k
clean_append (Enter l a n ∷ xs) ys h k = clean_append xs ys h k
clean_append (Join b r n ∷ xs) ys h k = clean_append xs ys h k
clean_append (Pop n ∷ xs) ys h k = clean_append xs ys h k
clean_append (Miss m ∷ xs) ys h k = h
clean_append (Nest n ∷ xs) ys h k = h

unclean : (xs ys : List ReadEvent) → Clean (xs ++ ys) → Clean ys
unfolding Clean
unclean [] ys h = h
unclean (Enter l a n ∷ xs) ys h = unclean xs ys h
unclean (Join b r n ∷ xs) ys h = unclean xs ys h
unclean (Pop n ∷ xs) ys h = unclean xs ys h
unclean (Miss m ∷ xs) ys h = absurd h
unclean (Nest n ∷ xs) ys h = absurd h

unmissed : (xs : List ReadEvent) (m : Missing) → ¬ Clean (xs ++ (Miss m ∷ []))
unmissed xs m h = unfold Clean in unclean xs (Miss m ∷ []) h

unnested : (xs : List ReadEvent) (n : ℕ) → ¬ Clean (xs ++ (Nest n ∷ []))
unnested xs n h = unfold Clean in unclean xs (Nest n ∷ []) h

pub clean_tells : (t : Line) (w : List ℕ) (l : Link) → Clean (tells w l t)
unfolding Clean tells enter join_event
clean_tells (start a) w l = tt
clean_tells (link c k a) w l = clean_append (tells w l c) _ (clean_tells c w l) tt
clean_tells (ring c b r) w l = clean_append (tells w l c) _ (clean_tells c w l) tt
clean_tells (branch c k d) w l = clean_append (tells w l c) _ (clean_tells c w l) (clean_append (tells _ k d) _ (clean_tells d _ k) tt)

pub clean_meaning : (t : Line) → Clean (meaning t)
unfolding meaning
clean_meaning t = clean_tells t [] dot

-- SOUND: a text that is read without a refusal is the spelling of a tree within the limit, and its events are the meaning
pub sound : (s : List ℕ) → Bytes s → Clean (parse s) → (t : Line) × (spell t ≡ s) × Fits branch_limit t × (parse s ≡ meaning t)
sound s h c = by (verdict s h)
  where
    by : Verdict s (parse s) → (t : Line) × (spell t ≡ s) × Fits branch_limit t × (parse s ≡ meaning t)
    by (reads t e f m) = (t, e, f, m)
    by (ends es e v u) = absurd (unmissed es EndOfLine (subst Clean e c))
    by (refuses n es e r u) = absurd (unmissed es (Character n) (subst Clean e c))
    by (refuses_late n es r e u) = absurd (unmissed es (late_missing n r.behind) (subst Clean e c))
    by (nests n es e r) = absurd (unnested es n (subst Clean e c))

-- a line is refused nowhere
unrefused : (s : List ℕ) (n : ℕ) → WrongAt s n → ¬ Spelled s
unfolding Spelled Viable
unrefused s n r v = r.dead (v.0, r.behind, v.1 ∙ r.is ∙ sym (append_assoc r.before (r.byte ∷ []) r.behind))

-- COMPLETE: a tree within the limit is read, and its events are its meaning
pub read_tree : (t : Line) → Fits branch_limit t → parse (spell t) ≡ meaning t
read_tree t f = by (verdict (spell t) (spelled_bytes t))
  where
    here : Spelled (spell t)
    here = unfold Spelled in (t, refl)

    by : Verdict (spell t) (parse (spell t)) → parse (spell t) ≡ meaning t
    by (reads u e g m) = m ∙ ap meaning (unique u t e)
    by (ends es e v u) = absurd (u here)
    by (refuses n es e r u) = absurd (unrefused (spell t) n r here)
    by (refuses_late n es r e u) = absurd (unrefused (spell t) n r here)
    by (nests n es e r) = absurd (r.deep t r.behind r.is f)

-- ---- REFUSALS, by the last event
pub snoc_last : (xs ys : List ReadEvent) (a b : ReadEvent) → xs ++ (a ∷ []) ≡ ys ++ (b ∷ []) → a ≡ b
snoc_last [] [] a b e = cc
snoc_last [] (y ∷ []) a b e = impossible cc
snoc_last [] (y ∷ (x ∷ ys)) a b e = impossible cc
snoc_last (x ∷ []) [] a b e = impossible cc
snoc_last (x ∷ (y ∷ xs)) [] a b e = impossible cc
snoc_last (x ∷ xs) (y ∷ ys) a b e = let g : xs ++ (a ∷ []) ≡ ys ++ (b ∷ []) = cc in snoc_last xs ys a b g

-- a text is wrong at one place
pub one_place : (s : List ℕ) (m n : ℕ) → WrongAt s m → WrongAt s n → m ≡ n
one_place s m n r q = let e : character m ≡ character n = sym (refused_character s m r) ∙ refused_character s n q in cc

-- the two parts of a text at a place
same_split : (p q : List ℕ) (a b : ℕ) (u v : List ℕ) → p ++ (a ∷ u) ≡ q ++ (b ∷ v) → length p ≡ length q → (p ≡ q) × (a ≡ b) × (u ≡ v)
same_split [] [] a b u v e h = (refl, cc, cc)
same_split [] (y ∷ q) a b u v e h = absurd (omega arith)
same_split (x ∷ p) [] a b u v e h = absurd (omega arith)
same_split (x ∷ p) (y ∷ q) a b u v e h =
    let g : x ≡ y = cc in let f : p ++ (a ∷ u) ≡ q ++ (b ∷ v) = cc in let k = same_split p q a b u v f (omega arith) in
    (ap₂ (λ (i : ℕ) (l : List ℕ). i ∷ l) g k.0, k.1, k.2)

module _ (s : List ℕ) (n : ℕ) (r q : WrongAt s n) where
  same_refused : (r.before ≡ q.before) × (r.byte ≡ q.byte) × (r.behind ≡ q.behind)
  same_refused = same_split r.before q.before r.byte q.byte r.behind q.behind (sym r.is ∙ q.is) (r.place ∙ sym q.place)

  same_late : Late r → Late q
  unfolding Late
  same_late h = (subst Eaten same_refused.0 h.0, subst (λ (b : ℕ). b < 128) same_refused.1 h.1)

module _ (s : List ℕ) (h : Bytes s) where
  -- CHARACTER: the bytes before the place begin a line, and with the byte there they don't; or the place is one late
  pub character_is : (n : ℕ) → Ends (parse s) (Miss (Character n))
      → ((r : WrongAt s n) × ¬ Late r) ⊎ ((m : ℕ) × (r : WrongAt s m) × Late r × (late_missing m r.behind ≡ Character n))
  unfolding Ends
  character_is n e = by (verdict s h)
    where
      by : Verdict s (parse s) → ((r : WrongAt s n) × ¬ Late r) ⊎ ((m : ℕ) × (r : WrongAt s m) × Late r × (late_missing m r.behind ≡ Character n))
      by (reads t i f m) = absurd (unmissed e.0 (Character n) (subst Clean (sym m ∙ e.1) (clean_meaning t)))
      by (ends es i v u) = let g : Miss EndOfLine ≡ Miss (Character n) = snoc_last es e.0 _ _ (sym i ∙ e.1) in impossible cc
      by (refuses m es i r u) = let g : Miss (Character m) ≡ Miss (Character n) = snoc_last es e.0 _ _ (sym i ∙ e.1) in let z : m ≡ n = cc in
          inl (subst (λ (k : ℕ). (r : WrongAt s k) × ¬ Late r) z (r, u))
      by (refuses_late m es r i u) = let g : Miss (late_missing m r.behind) ≡ Miss (Character n) = snoc_last es e.0 _ _ (sym i ∙ e.1) in inr (m, r, u, cc)
      by (nests m es i r) = let g : Nest m ≡ Miss (Character n) = snoc_last es e.0 _ _ (sym i ∙ e.1) in impossible cc

  pub refused_is : (n : ℕ) (r : WrongAt s n) → ¬ Late r → Ends (parse s) (Miss (Character n)) ⊎ Nests s
  unfolding Ends Nests
  refused_is n r timely = by (verdict s h)
    where
      by : Verdict s (parse s) → Ends (parse s) (Miss (Character n)) ⊎ Nests s
      by (reads t i f m) = absurd (unrefused s n r (unfold Spelled in (t, i)))
      by (ends es i v u) = absurd (unviable v)
        where
          unviable : ¬ Viable s
          unviable v = r.dead (viable_cut (r.before ++ (r.byte ∷ [])) r.behind (subst Viable (r.is ∙ sym (append_assoc r.before (r.byte ∷ []) r.behind)) v))
      by (refuses m es i q u) = inl (es, i ∙ ap (λ (k : ℕ). es ++ (Miss (Character k) ∷ [])) (one_place s m n q r))
      by (refuses_late m es q i u) = absurd (timely (moved m (one_place s m n q r) q u))
        where
          moved : (m : ℕ) → m ≡ n → (q : WrongAt s m) → Late q → Late r
          moved m z = subst (λ (k : ℕ). (q : WrongAt s k) → Late q → Late r) (sym z) (λ q u. same_late s n q r u)
      by (nests m es i t) = inr (m, t, (es, i))

  -- one late, after "@TB" and "@OH"
  pub late_told : (n : ℕ) (r : WrongAt s n) → Late r → Ends (parse s) (Miss (late_missing n r.behind)) ⊎ Nests s
  unfolding Ends Nests
  late_told n r late = by (verdict s h)
    where
      by : Verdict s (parse s) → Ends (parse s) (Miss (late_missing n r.behind)) ⊎ Nests s
      by (reads t i f m) = absurd (unrefused s n r (unfold Spelled in (t, i)))
      by (ends es i v u) = absurd (unviable v)
        where
          unviable : ¬ Viable s
          unviable v = r.dead (viable_cut (r.before ++ (r.byte ∷ [])) r.behind (subst Viable (r.is ∙ sym (append_assoc r.before (r.byte ∷ []) r.behind)) v))
      by (refuses m es i q u) = absurd (moved m (one_place s m n q r) q u)
        where
          moved : (m : ℕ) → m ≡ n → (q : WrongAt s m) → ¬ Late q → ⊥
          moved m z = subst (λ (k : ℕ). (q : WrongAt s k) → ¬ Late q → ⊥) (sym z) (λ q u. u (same_late s n r q late))
      by (refuses_late m es q i u) = inl (es, i ∙ ap (λ (x : Missing). es ++ (Miss x ∷ [])) (moved m (one_place s m n q r) q))
        where
          moved : (m : ℕ) → m ≡ n → (q : WrongAt s m) → late_missing m q.behind ≡ late_missing n r.behind
          moved m z = subst (λ (k : ℕ). (q : WrongAt s k) → late_missing k q.behind ≡ late_missing n r.behind) (sym z) (λ q. ap (late_missing n) (same_refused s n q r).2)
      by (nests m es i t) = inr (m, t, (es, i))

  -- END OF LINE: the whole text begins a line and is none; or the byte that is taken late is the last
  pub end_is : Ends (parse s) (Miss EndOfLine) → (Viable s × ¬ Spelled s) ⊎ ((m : ℕ) × (r : WrongAt s m) × Late r × (late_missing m r.behind ≡ EndOfLine))
  unfolding Ends
  end_is e = by (verdict s h)
    where
      by : Verdict s (parse s) → (Viable s × ¬ Spelled s) ⊎ ((m : ℕ) × (r : WrongAt s m) × Late r × (late_missing m r.behind ≡ EndOfLine))
      by (reads t i f m) = absurd (unmissed e.0 EndOfLine (subst Clean (sym m ∙ e.1) (clean_meaning t)))
      by (ends es i v u) = inl (v, u)
      by (refuses m es i r u) = let g : Miss (Character m) ≡ Miss EndOfLine = snoc_last es e.0 _ _ (sym i ∙ e.1) in impossible cc
      by (refuses_late m es r i u) = let g : Miss (late_missing m r.behind) ≡ Miss EndOfLine = snoc_last es e.0 _ _ (sym i ∙ e.1) in inr (m, r, u, cc)
      by (nests m es i r) = let g : Nest m ≡ Miss EndOfLine = snoc_last es e.0 _ _ (sym i ∙ e.1) in impossible cc

  pub ended_is : Viable s → ¬ Spelled s → Ends (parse s) (Miss EndOfLine) ⊎ Nests s
  unfolding Ends Nests
  ended_is v none_so = by (verdict s h)
    where
      unviable : (m : ℕ) → WrongAt s m → ⊥
      unviable m r = r.dead (viable_cut (r.before ++ (r.byte ∷ [])) r.behind (subst Viable (r.is ∙ sym (append_assoc r.before (r.byte ∷ []) r.behind)) v))

      by : Verdict s (parse s) → Ends (parse s) (Miss EndOfLine) ⊎ Nests s
      by (reads t i f m) = absurd (none_so (unfold Spelled in (t, i)))
      by (ends es i w u) = inl (es, i)
      by (refuses m es i r u) = absurd (unviable m r)
      by (refuses_late m es r i u) = absurd (unviable m r)
      by (nests m es i t) = inr (m, t, (es, i))

  -- NESTING: the text can go on from there, but to no line within the limit
  pub nest_is : (n : ℕ) → Ends (parse s) (Nest n) → TooDeep s n
  unfolding Ends
  nest_is n e = by (verdict s h)
    where
      by : Verdict s (parse s) → TooDeep s n
      by (reads t i f m) = absurd (unnested e.0 n (subst Clean (sym m ∙ e.1) (clean_meaning t)))
      by (ends es i v u) = let g : Miss EndOfLine ≡ Nest n = snoc_last es e.0 _ _ (sym i ∙ e.1) in impossible cc
      by (refuses m es i r u) = let g : Miss (Character m) ≡ Nest n = snoc_last es e.0 _ _ (sym i ∙ e.1) in impossible cc
      by (refuses_late m es r i u) = let g : Miss (late_missing m r.behind) ≡ Nest n = snoc_last es e.0 _ _ (sym i ∙ e.1) in impossible cc
      by (nests m es i t) = let g : Nest m ≡ Nest n = snoc_last es e.0 _ _ (sym i ∙ e.1) in let z : m ≡ n = cc in subst (TooDeep s) z t
