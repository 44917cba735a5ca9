-- THE READ CALL'S ANSWERS, each exactly when `When` says. Assumes nothing.
use Prim.Native.Nat.{ℕ, ◌<◌, ◌≤◌}
use mathlib.Core.Path.{◌≡◌, refl, sym, ap, ap₂, ◌∙◌, subst}
use mathlib.Core.List.{List, [], ◌∷◌, ◌++◌, append_assoc}
use mathlib.Core.Option.{Option}
use mathlib.Core.Logic.{◌⊎◌, inl, inr}
use native.Mathlib.Omega.{arith}
use lib.ListN.{length}
use Rattle.feature.proofs.Cases.{impossible}
use Rattle.table.specs.Limits.{text_limit, places_in, bond_slots_in}
use Rattle.read_token.specs.declared.scanner.Missing.{Missing}
use Rattle.read_token.specs.declared.scanner.Missing.TheVariants as missing
use Rattle.read_line.specs.Events.{ReadEvent, Enter, Join, Pop, Miss, Nest}
use Rattle.read_line.specs.Parse.{parse}
use Rattle.builder_meaning.specs.Sketch.{Node, count_of}
use Rattle.std.specs.Prelude.{Err, Ok}
use Rattle.read.specs.Read.{graph_size}
use Rattle.read.specs.Read.{Answer}
use Rattle.read.specs.declared.ReadError.TheVariants as answer
use Rattle.read.specs.Read.{Said}
use Rattle.read.specs.Line.{read_refusing, read_text}
use Rattle.grammar.specs.Lines.{Bytes, Spelled, Viable, WrongAt, Late, late_missing, Verdict, reads, refuses, refuses_late, nests, Clean, Ends, Nests}
use Rattle.grammar.specs.Lines as lines
use Rattle.grammar.specs.Grammar.{meaning}
use Rattle.opensmiles_laws.specs.Molecule.{Molecule, as_held, next}
use Rattle.grammar.proofs.Verdict.{verdict, clean_meaning, read_tree, snoc_last, character_is, refused_is, late_told, end_is, ended_is, nest_is}
use Rattle.opensmiles_laws.specs.Stops.{Meets, no_place, no_slots, not_turned, no_slot, not_turned_after, ends, wrong, deep, Passes, atoms_named, Runs, Stops, begun}
use Rattle.opensmiles_laws.specs.Telling.{HasTold, Shallow, FirstDeep, Tells, a_line, to_wrong, to_end, to_deep, MissesAt, wrong_here, wrong_late, MissesMore, ends_here, ends_late}
use Rattle.opensmiles_laws.specs.Answers.{Exactly, DoneAs, done_said, OpenAs, DisagreeAs, Free, WrongAs, EndsAs, NestsAs, StopsAs, When, AnsweredExactly, SaidAs, said_done, said_not, SaidExactly}
use Rattle.opensmiles_laws.proofs.Deep.{deep_nests, tidy_parse, tidy_miss, tidy_nest}
use Rattle.opensmiles_laws.proofs.Telling.{told_one}
use Rattle.opensmiles_laws.proofs.Spoken.{Final, Spoken, wrong_spoken, ends_spoken, deep_spoken, at_spoken, more_spoken}
use Rattle.opensmiles_laws.proofs.Trace.{stops_here, stops_later, stops_none, split}
use Rattle.opensmiles_laws.proofs.ReadsAs.{ReadsAs, long, halts, disagrees, opens, done, reads_as, reads_as_said}

-- ---- what an event meets says which event it is
unfoldable pub Kind : ReadEvent → Answer → Type 0
Kind e (Ok size) = ⊥
Kind e (Err answer.EndOfLine) = e ≡ Miss missing.EndOfLine
Kind e (Err (answer.Character n)) = e ≡ Miss (missing.Character n)
Kind e (Err (answer.Join x y)) = ⊥
Kind e (Err (answer.Rnum j)) = ⊥
Kind e (Err (answer.Inversion n)) = Unit {0}
Kind e (Err (answer.TextTooLong n)) = ⊥
Kind e (Err (answer.AtomRoom at)) = Unit {0}
Kind e (Err (answer.BondRoom at)) = Unit {0}
Kind e (Err (answer.Nesting n)) = e ≡ Nest n
Kind e (Err answer.NoAtom) = ⊥

meets_kind : (p l : ℕ) (o : Option Molecule) (n : ℕ) (e : ReadEvent) (a : Answer) → Meets p l o n e a → Kind e a
unfolding Kind
meets_kind p l _ _ _ _ (no_place m n k at c h) = tt
meets_kind p l _ _ _ _ (no_slots m n e k at g z) = tt
meets_kind p l _ _ _ _ (not_turned m n e k at g z u) = tt
meets_kind p l _ _ _ _ (no_slot m x n e r at h g) = tt
meets_kind p l _ _ _ _ (not_turned_after n e k at u) = tt
meets_kind p l _ _ _ _ (ends o n) = refl
meets_kind p l _ _ _ _ (wrong o n at) = refl
meets_kind p l _ _ _ _ (deep o n at) = refl

-- no place, no slot and no turning are met before the last event of a text that is refused
Early : Answer → Type 0
Early (Ok size) = ⊥
Early (Err answer.EndOfLine) = ⊥
Early (Err (answer.Character n)) = ⊥
Early (Err (answer.Join x y)) = ⊥
Early (Err (answer.Rnum j)) = ⊥
Early (Err (answer.Inversion n)) = Unit {0}
Early (Err (answer.TextTooLong n)) = ⊥
Early (Err (answer.AtomRoom at)) = Unit {0}
Early (Err (answer.BondRoom at)) = Unit {0}
Early (Err (answer.Nesting n)) = ⊥
Early (Err answer.NoAtom) = ⊥

final_early : (p l : ℕ) (o : Option Molecule) (n : ℕ) (e : ReadEvent) (a : Answer) → Meets p l o n e a → Final e → ¬ Early a
unfolding Final Early
final_early p l _ _ _ _ (no_place m n k at c h) f g = f
final_early p l _ _ _ _ (no_slots m n e k at g z) f y = f
final_early p l _ _ _ _ (not_turned m n e k at g z u) f y = f
final_early p l _ _ _ _ (no_slot m x n e r at h g) f y = f
final_early p l _ _ _ _ (not_turned_after n e k at u) f y = f
final_early p l _ _ _ _ (ends o n) f y = y
final_early p l _ _ _ _ (wrong o n at) f y = y
final_early p l _ _ _ _ (deep o n at) f y = y

stops_init : (p l : ℕ) (es : List ReadEvent) (x : ReadEvent) (o : Option Molecule) (n : ℕ) (a : Answer) → Final x → Early a → Stops p l o n (es ++ (x ∷ [])) a → Stops p l o n es a
stops_init p l [] x o n a f y s = by (split p l o n x [] a s)
  where
    by : Meets p l o n x a ⊎ (Passes p l o n x × Stops p l (next as_held o x) (atoms_named n x) [] a) → Stops p l o n [] a
    by (inl m) = absurd (final_early p l o n x a m f y)
    by (inr r) = absurd (stops_none p l _ _ a r.1)
stops_init p l (e ∷ es) x o n a f y s = by (split p l o n e (es ++ (x ∷ [])) a s) (stops_init p l es x (next as_held o e) (atoms_named n e) a f y)
  where
    by : Meets p l o n e a ⊎ (Passes p l o n e × Stops p l (next as_held o e) (atoms_named n e) (es ++ (x ∷ [])) a)
        → (Stops p l (next as_held o e) (atoms_named n e) (es ++ (x ∷ [])) a → Stops p l (next as_held o e) (atoms_named n e) es a) → Stops p l o n (e ∷ es) a
    by (inl m) k = stops_here p l o n e es a m
    by (inr r) k = stops_later p l o n e es a r.0 (k r.1)

-- events and one more stop before it or at it
pub stops_last_or : (p l : ℕ) (es : List ReadEvent) (x : ReadEvent) (o : Option Molecule) (n : ℕ) (a : Answer) → Stops p l o n (es ++ (x ∷ [])) a
    → Stops p l o n es a ⊎ ((q : Option Molecule) × (m : ℕ) × Meets p l q m x a)
stops_last_or p l [] x o n a s = by (split p l o n x [] a s)
  where
    by : Meets p l o n x a ⊎ (Passes p l o n x × Stops p l (next as_held o x) (atoms_named n x) [] a) → Stops p l o n [] a ⊎ ((q : Option Molecule) × (m : ℕ) × Meets p l q m x a)
    by (inl m) = inr (o, n, m)
    by (inr r) = absurd (stops_none p l _ _ a r.1)
stops_last_or p l (e ∷ es) x o n a s = by (split p l o n e (es ++ (x ∷ [])) a s) (stops_last_or p l es x (next as_held o e) (atoms_named n e) a)
  where
    later : Passes p l o n e → Stops p l (next as_held o e) (atoms_named n e) es a ⊎ ((q : Option Molecule) × (m : ℕ) × Meets p l q m x a) → Stops p l o n (e ∷ es) a ⊎ ((q : Option Molecule) × (m : ℕ) × Meets p l q m x a)
    later h (inl r) = inl (stops_later p l o n e es a h r)
    later h (inr r) = inr r

    by : Meets p l o n e a ⊎ (Passes p l o n e × Stops p l (next as_held o e) (atoms_named n e) (es ++ (x ∷ [])) a)
        → (Stops p l (next as_held o e) (atoms_named n e) (es ++ (x ∷ [])) a → Stops p l (next as_held o e) (atoms_named n e) es a ⊎ ((q : Option Molecule) × (m : ℕ) × Meets p l q m x a))
        → Stops p l o n (e ∷ es) a ⊎ ((q : Option Molecule) × (m : ℕ) × Meets p l q m x a)
    by (inl m) k = inl (stops_here p l o n e es a m)
    by (inr r) k = later r.0 (k r.1)

-- at a branch too many that is what is met
Nested : ReadEvent → Answer → Type 0
Nested (Enter l k at) a = Unit {0}
Nested (Join e r at) a = Unit {0}
Nested (Pop i) a = Unit {0}
Nested (Miss x) a = Unit {0}
Nested (Nest at) a = a ≡ Err (answer.Nesting at)

meets_nested : (p l : ℕ) (o : Option Molecule) (n : ℕ) (e : ReadEvent) (a : Answer) → Meets p l o n e a → Nested e a
unfolding Nested
meets_nested p l _ _ _ _ (no_place m n k at c h) = tt
meets_nested p l _ _ _ _ (no_slots m n e k at g z) = tt
meets_nested p l _ _ _ _ (not_turned m n e k at g z u) = tt
meets_nested p l _ _ _ _ (no_slot m x n e r at h g) = tt
meets_nested p l _ _ _ _ (not_turned_after n e k at u) = tt
meets_nested p l _ _ _ _ (ends o n) = tt
meets_nested p l _ _ _ _ (wrong o n at) = tt
meets_nested p l _ _ _ _ (deep o n at) = refl

pub nest_met : (p l : ℕ) (o : Option Molecule) (n at : ℕ) (a : Answer) → Meets p l o n (Nest at) a → a ≡ Err (answer.Nesting at)
unfolding Nested
nest_met p l o n at a m = meets_nested p l o n (Nest at) a m

pub stops_more : (p l : ℕ) (es ys : List ReadEvent) (o : Option Molecule) (n : ℕ) (a : Answer) → Stops p l o n es a → Stops p l o n (es ++ ys) a
stops_more p l es ys o n a s =
    record { before = s.before; event = s.event; after = s.after ++ ys; is = ap (λ (x : List ReadEvent). x ++ ys) s.is ∙ append_assoc s.before (s.event ∷ s.after) ys; free = s.free; meets = s.meets }

-- ---- lists that end in one event
pub snoc_init : (xs ys : List ReadEvent) (a b : ReadEvent) → xs ++ (a ∷ []) ≡ ys ++ (b ∷ []) → xs ≡ ys
snoc_init [] [] a b e = refl
snoc_init [] (y ∷ []) a b e = impossible cc
snoc_init [] (y ∷ (x ∷ ys)) a b e = impossible cc
snoc_init (x ∷ []) [] a b e = impossible cc
snoc_init (x ∷ (y ∷ xs)) [] a b e = impossible cc
snoc_init (x ∷ xs) (y ∷ ys) a b e =
    let g : xs ++ (a ∷ []) ≡ ys ++ (b ∷ []) = cc in let h : x ≡ y = cc in ap₂ (λ (i : ReadEvent) (l : List ReadEvent). i ∷ l) h (snoc_init xs ys a b g)

module _ (s : List ℕ) (h : Bytes s) (la lb : ℕ) where
  -- what a text has told before its last event
  free_from : (upto : List ℕ) → Spoken s upto → (x : ReadEvent) (before : List ReadEvent) → parse s ≡ before ++ (x ∷ []) → Runs (places_in la) (bond_slots_in lb) begun 0 before → Free upto la lb
  unfolding Free
  free_from upto sp x before i r es t =
      subst (Runs (places_in la) (bond_slots_in lb) begun 0) (snoc_init before sp.told x sp.last (sym i ∙ sp.is) ∙ told_one upto sp.told es sp.tells t) r

  -- where it stops at something missing or at a branch too many, that is its last event
  at_miss : (a : Answer) (x : Missing) (q : Stops (places_in la) (bond_slots_in lb) begun 0 (parse s) a) → q.event ≡ Miss x → parse s ≡ q.before ++ (Miss x ∷ [])
  at_miss a x q e =
      let i : parse s ≡ q.before ++ (Miss x ∷ q.after) = q.is ∙ ap (λ (y : ReadEvent). q.before ++ (y ∷ q.after)) e in
      i ∙ ap (λ (y : List ReadEvent). q.before ++ (Miss x ∷ y)) (tidy_miss x q.after q.before (rw i at (tidy_parse s h)))

  at_nest : (a : Answer) (n : ℕ) (q : Stops (places_in la) (bond_slots_in lb) begun 0 (parse s) a) → q.event ≡ Nest n → parse s ≡ q.before ++ (Nest n ∷ [])
  at_nest a n q e =
      let i : parse s ≡ q.before ++ (Nest n ∷ q.after) = q.is ∙ ap (λ (y : ReadEvent). q.before ++ (y ∷ q.after)) e in
      i ∙ ap (λ (y : List ReadEvent). q.before ++ (Nest n ∷ y)) (tidy_nest n q.after q.before (rw i at (tidy_parse s h)))

  -- a text whose last event is not a branch too many goes too deep nowhere
  shallow : (x : Missing) (before : List ReadEvent) → parse s ≡ before ++ (Miss x ∷ []) → Shallow s
  unfolding Ends Shallow
  shallow x before i m d =
      let v = deep_nests s h m d in
      let g : Miss x ≡ Nest v.0 = snoc_last before v.1.0 (Miss x) (Nest v.0) (sym i ∙ v.1.1) in
      impossible cc

  pub first_deep : (n : ℕ) (before : List ReadEvent) → parse s ≡ before ++ (Nest n ∷ []) → FirstDeep s n
  unfolding Ends FirstDeep
  first_deep n before i m d =
      let v = deep_nests s h m d in
      let g : Nest n ≡ Nest v.0 = snoc_last before v.1.0 (Nest n) (Nest v.0) (sym i ∙ v.1.1) in
      let e : n ≡ v.0 = cc in omega (arith, e, v.2)

  -- ---- from the answer
  ends_as : (upto : List ℕ) → MissesMore s upto → length s ≤ text_limit → (before : List ReadEvent) → parse s ≡ before ++ (Miss missing.EndOfLine ∷ []) → Runs (places_in la) (bond_slots_in lb) begun 0 before → EndsAs s la lb
  ends_as upto p short before i r =
      let f = shallow missing.EndOfLine before i in
      record { short = short; upto = upto; place = p; shallow = f; free = free_from upto (more_spoken s h upto p f) (Miss missing.EndOfLine) before i r }

  wrong_as : (n : ℕ) (upto : List ℕ) → MissesAt s n upto → length s ≤ text_limit → (before : List ReadEvent) → parse s ≡ before ++ (Miss (missing.Character n) ∷ []) → Runs (places_in la) (bond_slots_in lb) begun 0 before → WrongAs s la lb n
  wrong_as n upto p short before i r =
      let f = shallow (missing.Character n) before i in
      record { short = short; upto = upto; place = p; shallow = f; free = free_from upto (at_spoken s h n upto p f) (Miss (missing.Character n)) before i r }

  early : length s ≤ text_limit → (a : Answer) → Early a → Stops (places_in la) (bond_slots_in lb) begun 0 (parse s) a → StopsAs s la lb a
  early short a y q = by (verdict s h)
    where
      cut : (upto : List ℕ) (sp : Spoken s upto) → Stops (places_in la) (bond_slots_in lb) begun 0 sp.told a
      cut upto sp = stops_init (places_in la) (bond_slots_in lb) sp.told sp.last begun 0 a sp.final y (subst (λ (es : List ReadEvent). Stops (places_in la) (bond_slots_in lb) begun 0 es a) sp.is q)

      wrong_by : (n : ℕ) (r : WrongAt s n) → Shallow s → StopsAs s la lb a
      wrong_by n r f = let sp = wrong_spoken s h n r f in record { short = short; told = sp.told; tells = to_wrong n r f sp.tells; stops = cut r.before sp }

      by : Verdict s (parse s) → StopsAs s la lb a
      by (reads t e f m) = record { short = short; told = meaning t; tells = a_line t e f refl; stops = subst (λ (es : List ReadEvent). Stops (places_in la) (bond_slots_in lb) begun 0 es a) m q }
      by (lines.ends es i v u) =
          let f = shallow missing.EndOfLine es i in let sp = ends_spoken s h v u f in
          record { short = short; told = sp.told; tells = to_end v u f sp.tells; stops = cut s sp }
      by (refuses n es i r u) = wrong_by n r (shallow (missing.Character n) es i)
      by (refuses_late n es r i u) = wrong_by n r (shallow (late_missing n r.behind) es i)
      by (nests n es i d) =
          let f = first_deep n es i in let sp = deep_spoken s h n d f in
          record { short = short; told = sp.told; tells = to_deep n d f sp.tells; stops = cut d.before sp }

  stops_when : (short : length s ≤ text_limit) (a : Answer) (q : Stops (places_in la) (bond_slots_in lb) begun 0 (parse s) a) → Kind q.event a → When s la lb a
  unfolding When Kind Early
  stops_when short (Ok size) q k = absurd k
  stops_when short (Err answer.EndOfLine) q k = by (end_is s h (unfold Ends in (q.before, i)))
    where
      i : parse s ≡ q.before ++ (Miss missing.EndOfLine ∷ [])
      i = at_miss (Err answer.EndOfLine) missing.EndOfLine q k

      by : (Viable s × ¬ Spelled s) ⊎ ((m : ℕ) × (r : WrongAt s m) × Late r × (late_missing m r.behind ≡ missing.EndOfLine)) → EndsAs s la lb
      by (inl v) = ends_as s (ends_here v.0 v.1) short q.before i q.free
      by (inr v) = ends_as v.1.before (ends_late v.0 v.1 v.2 v.3) short q.before i q.free
  stops_when short (Err (answer.Character n)) q k = by (character_is s h n (unfold Ends in (q.before, i)))
    where
      i : parse s ≡ q.before ++ (Miss (missing.Character n) ∷ [])
      i = at_miss (Err (answer.Character n)) (missing.Character n) q k

      by : ((r : WrongAt s n) × ¬ Late r) ⊎ ((m : ℕ) × (r : WrongAt s m) × Late r × (late_missing m r.behind ≡ missing.Character n)) → WrongAs s la lb n
      by (inl v) = wrong_as n v.0.before (wrong_here v.0 v.1) short q.before i q.free
      by (inr v) = wrong_as n v.1.before (wrong_late v.0 v.1 v.2 v.3) short q.before i q.free
  stops_when short (Err (answer.Join x y)) q k = absurd k
  stops_when short (Err (answer.Rnum j)) q k = absurd k
  stops_when short (Err (answer.Inversion n)) q k = early short (Err (answer.Inversion n)) tt q
  stops_when short (Err (answer.TextTooLong n)) q k = absurd k
  stops_when short (Err (answer.AtomRoom at)) q k = early short (Err (answer.AtomRoom at)) tt q
  stops_when short (Err (answer.BondRoom at)) q k = early short (Err (answer.BondRoom at)) tt q
  stops_when short (Err (answer.Nesting n)) q k =
      let i = at_nest (Err (answer.Nesting n)) n q k in
      let d = nest_is s h n (unfold Ends in (q.before, i)) in
      let f = first_deep n q.before i in
      record { short = short; deep = d; first = f; free = free_from d.before (deep_spoken s h n d f) (Nest n) q.before i q.free }
  stops_when short (Err answer.NoAtom) q k = absurd k

  reads_as_when : (x : Said) → ReadsAs s la lb x → When s la lb x.answer
  unfolding When
  reads_as_when _ (long l) = (l, refl)
  reads_as_when _ (halts short a q) = stops_when short a q (meets_kind (places_in la) (bond_slots_in lb) _ _ q.event a q.meets)
  reads_as_when _ (disagrees x y w) = w
  reads_as_when _ (opens j w) = w
  reads_as_when _ (done ns w) = (ns, w, refl, refl)

  -- ---- to the answer
  Last : ReadEvent → Answer → Type 0
  Last x a = (o : Option Molecule) (n : ℕ) → Meets (places_in la) (bond_slots_in lb) o n x a

  stops_last : (upto : List ℕ) → Spoken s upto → (x : ReadEvent) (a : Answer) → Ends (parse s) x → Last x a → Free upto la lb → Stops (places_in la) (bond_slots_in lb) begun 0 (parse s) a
  unfolding Ends Last Free
  stops_last upto sp x a e m f =
      record { before = e.0; event = x; after = []; is = e.1; free = subst (Runs (places_in la) (bond_slots_in lb) begun 0) (snoc_init sp.told e.0 sp.last x (sym sp.is ∙ e.1)) (f sp.told sp.tells); meets = m _ _ }

  not_nested : Shallow s → ¬ Nests s
  unfolding Nests Shallow
  not_nested f v = f v.0 v.1

  or_nests : (x : ReadEvent) → Ends (parse s) x ⊎ Nests s → Shallow s → Ends (parse s) x
  or_nests x (inl e) f = e
  or_nests x (inr v) f = absurd (not_nested f v)

  wrong_ends : (n : ℕ) (upto : List ℕ) → MissesAt s n upto → Shallow s → Ends (parse s) (Miss (missing.Character n))
  wrong_ends n _ (wrong_here r l) f = or_nests (Miss (missing.Character n)) (refused_is s h n r l) f
  wrong_ends n _ (wrong_late m r l i) f = subst (λ (x : Missing). Ends (parse s) (Miss x)) i (or_nests (Miss (late_missing m r.behind)) (late_told s h m r l) f)

  end_ends : (upto : List ℕ) → MissesMore s upto → Shallow s → Ends (parse s) (Miss missing.EndOfLine)
  end_ends _ (ends_here v unspelled) f = or_nests (Miss missing.EndOfLine) (ended_is s h v unspelled) f
  end_ends _ (ends_late m r l i) f = subst (λ (x : Missing). Ends (parse s) (Miss x)) i (or_nests (Miss (late_missing m r.behind)) (late_told s h m r l) f)

  nest_ends : (n : ℕ) (w : NestsAs s la lb n) → Ends (parse s) (Nest n)
  unfolding FirstDeep
  nest_ends n w =
      let v = deep_nests s h n w.deep in
      let e : v.0 ≡ n = omega (arith, v.2, w.first v.0 (nest_is s h v.0 v.1)) in
      subst (λ (m : ℕ). Ends (parse s) (Nest m)) e v.1

  -- what a text tells are its events, but for the last that says what is wrong
  tells_stops : (a : Answer) (es : List ReadEvent) → Tells s es → Stops (places_in la) (bond_slots_in lb) begun 0 es a → Stops (places_in la) (bond_slots_in lb) begun 0 (parse s) a
  tells_stops a es t q = by t
    where
      more : (upto : List ℕ) → Spoken s upto → HasTold upto es → Stops (places_in la) (bond_slots_in lb) begun 0 (parse s) a
      more upto sp g =
          let i : parse s ≡ es ++ (sp.last ∷ []) = sp.is ∙ ap (λ (x : List ReadEvent). x ++ (sp.last ∷ [])) (told_one upto sp.told es sp.tells g) in
          subst (λ (x : List ReadEvent). Stops (places_in la) (bond_slots_in lb) begun 0 x a) (sym i) (stops_more (places_in la) (bond_slots_in lb) es (sp.last ∷ []) begun 0 a q)

      by : Tells s es → Stops (places_in la) (bond_slots_in lb) begun 0 (parse s) a
      by (a_line u e f m) = subst (λ (x : List ReadEvent). Stops (places_in la) (bond_slots_in lb) begun 0 x a) (m ∙ sym (read_tree u f) ∙ ap parse e) q
      by (to_wrong n r f g) = more r.before (wrong_spoken s h n r f) g
      by (to_end v u f g) = more s (ends_spoken s h v u f) g
      by (to_deep n d f g) = more d.before (deep_spoken s h n d f) g

  halted : (a : Answer) → length s ≤ text_limit → Stops (places_in la) (bond_slots_in lb) begun 0 (parse s) a → (read_text s la lb).answer ≡ a
  halted a short q = ap (λ (x : Said). x.answer) (reads_as_said s la lb (read_refusing a la lb) (halts short a q))

  when_said : (a : Answer) → When s la lb a → (read_text s la lb).answer ≡ a
  unfolding When Last
  when_said (Ok size) w =
      ap (λ (x : Said). x.answer) (reads_as_said s la lb (done_said la lb w.0) (done w.0 w.1)) ∙ ap₂ (λ (i j : ℕ). (Ok (graph_size i j))) (sym w.2) (sym w.3)
  when_said (Err answer.EndOfLine) w = halted (Err answer.EndOfLine) w.short (stops_last w.upto (more_spoken s h w.upto w.place w.shallow) (Miss missing.EndOfLine) (Err answer.EndOfLine) (end_ends w.upto w.place w.shallow) (λ o n. ends o n) w.free)
  when_said (Err (answer.Character n)) w = halted (Err (answer.Character n)) w.short (stops_last w.upto (at_spoken s h n w.upto w.place w.shallow) (Miss (missing.Character n)) (Err (answer.Character n)) (wrong_ends n w.upto w.place w.shallow) (λ o i. wrong o i n) w.free)
  when_said (Err (answer.Join x y)) w = ap (λ (z : Said). z.answer) (reads_as_said s la lb (read_refusing (Err (answer.Join x y)) la lb) (disagrees x y w))
  when_said (Err (answer.Rnum j)) w = ap (λ (z : Said). z.answer) (reads_as_said s la lb (read_refusing (Err (answer.Rnum j)) la lb) (opens j w))
  when_said (Err (answer.Inversion n)) w = halted (Err (answer.Inversion n)) w.short (tells_stops (Err (answer.Inversion n)) w.told w.tells w.stops)
  when_said (Err (answer.TextTooLong n)) w = ap (λ (z : Said). z.answer) (reads_as_said s la lb (read_refusing (Err (answer.TextTooLong (length s))) la lb) (long w.0)) ∙ ap (λ (i : ℕ). (Err (answer.TextTooLong i))) (sym w.1)
  when_said (Err (answer.AtomRoom at)) w = halted (Err (answer.AtomRoom at)) w.short (tells_stops (Err (answer.AtomRoom at)) w.told w.tells w.stops)
  when_said (Err (answer.BondRoom at)) w = halted (Err (answer.BondRoom at)) w.short (tells_stops (Err (answer.BondRoom at)) w.told w.tells w.stops)
  when_said (Err (answer.Nesting n)) w = halted (Err (answer.Nesting n)) w.short (stops_last w.deep.before (deep_spoken s h n w.deep w.first) (Nest n) (Err (answer.Nesting n)) (nest_ends n w) (λ o i. deep o i n) w.free)
  when_said (Err answer.NoAtom) w = absurd w

-- ---- THE LAWS
-- each answer is given exactly when it should be
pub answered_exactly : AnsweredExactly
answered_exactly s h la lb a = (λ e. subst (When s la lb) e (reads_as_when s h la lb (read_text s la lb) (reads_as s h la lb)), when_said s h la lb a)

-- with these tables
pub done_tables : (s : List ℕ) (la lb : ℕ) (ns : List Node) → DoneAs s la lb ns → read_text s la lb ≡ done_said la lb ns
done_tables s la lb ns w = reads_as_said s la lb (done_said la lb ns) (done ns w)

module _ (s : List ℕ) (h : Bytes s) (la lb : ℕ) where
  -- what is not done leaves zeros
  zeros : (x : Said) → ReadsAs s la lb x → ((n m : ℕ) → ¬ (x.answer ≡ Ok (graph_size n m))) → x ≡ read_refusing x.answer la lb
  zeros _ (long l) f = refl
  zeros _ (halts short b q) f = refl
  zeros _ (disagrees x y w) f = refl
  zeros _ (opens j w) f = refl
  zeros _ (done ns w) f = absurd (f (length ns) (count_of ns) refl)

  not_done : (a : Answer) → ((n m : ℕ) → ¬ (a ≡ Ok (graph_size n m))) → When s la lb a → read_text s la lb ≡ read_refusing a la lb
  not_done a f w =
      let e : (read_text s la lb).answer ≡ a = (answered_exactly s h la lb a).1 w in
      zeros (read_text s la lb) (reads_as s h la lb) (λ n m g. f n m (sym e ∙ g)) ∙ ap (λ (c : Answer). read_refusing c la lb) e

  stops_undone : (b : Answer) (n m : ℕ) → b ≡ Ok (graph_size n m) → ¬ Stops (places_in la) (bond_slots_in lb) begun 0 (parse s) b
  unfolding Kind
  stops_undone b n m e q = subst (Kind q.event) e (meets_kind (places_in la) (bond_slots_in lb) _ _ q.event b q.meets)

  as_said : (x : Said) → ReadsAs s la lb x → SaidAs s la lb x
  as_said _ (long l) = said_not (Err (answer.TextTooLong (length s))) (λ n m g. impossible cc) (reads_as_when s h la lb _ (long l))
  as_said _ (halts short b q) = said_not b (λ n m g. stops_undone b n m g q) (reads_as_when s h la lb _ (halts short b q))
  as_said _ (disagrees x y w) = said_not (Err (answer.Join x y)) (λ n m g. impossible cc) (reads_as_when s h la lb _ (disagrees x y w))
  as_said _ (opens j w) = said_not (Err (answer.Rnum j)) (λ n m g. impossible cc) (reads_as_when s h la lb _ (opens j w))
  as_said _ (done ns w) = said_done ns w

  said_by_lem : (x : Said) → SaidAs s la lb x → read_text s la lb ≡ x
  said_by_lem _ (said_done ns w) = done_tables s la lb ns w
  said_by_lem _ (said_not a f w) = not_done a f w

pub said_exactly : SaidExactly
said_exactly s h la lb x = (λ e. subst (SaidAs s la lb) e (as_said s h la lb (read_text s la lb) (reads_as s h la lb)), said_by_lem s h la lb x)

-- a text has one answer
pub when_one : (s : List ℕ) → Bytes s → (la lb : ℕ) (a b : Answer) → When s la lb a → When s la lb b → a ≡ b
when_one s h la lb a b v w = sym ((answered_exactly s h la lb a).1 v) ∙ (answered_exactly s h la lb b).1 w

-- ---- answer by answer
module _ (s : List ℕ) (h : Bytes s) (la lb : ℕ) where
  pub done_exactly : (n m : ℕ) → Exactly ((read_text s la lb).answer ≡ Ok (graph_size n m)) ((ns : List Node) × DoneAs s la lb ns × (n ≡ length ns) × (m ≡ count_of ns))
  unfolding When
  done_exactly n m = answered_exactly s h la lb (Ok (graph_size n m))

  pub end_exactly : Exactly ((read_text s la lb).answer ≡ Err answer.EndOfLine) (EndsAs s la lb)
  unfolding When
  end_exactly = answered_exactly s h la lb (Err answer.EndOfLine)

  pub character_exactly : (n : ℕ) → Exactly ((read_text s la lb).answer ≡ Err (answer.Character n)) (WrongAs s la lb n)
  unfolding When
  character_exactly n = answered_exactly s h la lb (Err (answer.Character n))

  pub nesting_exactly : (n : ℕ) → Exactly ((read_text s la lb).answer ≡ Err (answer.Nesting n)) (NestsAs s la lb n)
  unfolding When
  nesting_exactly n = answered_exactly s h la lb (Err (answer.Nesting n))

  pub long_exactly : (n : ℕ) → Exactly ((read_text s la lb).answer ≡ Err (answer.TextTooLong n)) ((text_limit < length s) × (n ≡ length s))
  unfolding When
  long_exactly n = answered_exactly s h la lb (Err (answer.TextTooLong n))

  pub place_exactly : (at : ℕ) → Exactly ((read_text s la lb).answer ≡ Err (answer.AtomRoom at)) (StopsAs s la lb (Err (answer.AtomRoom at)))
  unfolding When
  place_exactly at = answered_exactly s h la lb (Err (answer.AtomRoom at))

  pub slot_exactly : (at : ℕ) → Exactly ((read_text s la lb).answer ≡ Err (answer.BondRoom at)) (StopsAs s la lb (Err (answer.BondRoom at)))
  unfolding When
  slot_exactly at = answered_exactly s h la lb (Err (answer.BondRoom at))

  pub mark_exactly : (n : ℕ) → Exactly ((read_text s la lb).answer ≡ Err (answer.Inversion n)) (StopsAs s la lb (Err (answer.Inversion n)))
  unfolding When
  mark_exactly n = answered_exactly s h la lb (Err (answer.Inversion n))

  pub join_exactly : (x y : ℕ) → Exactly ((read_text s la lb).answer ≡ Err (answer.Join x y)) (DisagreeAs s la lb x y)
  unfolding When
  join_exactly x y = answered_exactly s h la lb (Err (answer.Join x y))

  pub ring_exactly : (j : ℕ) → Exactly ((read_text s la lb).answer ≡ Err (answer.Rnum j)) (OpenAs s la lb j)
  unfolding When
  ring_exactly j = answered_exactly s h la lb (Err (answer.Rnum j))

-- ---- a text tells one thing
pub clean_final : (es : List ReadEvent) (x : ReadEvent) → Clean (es ++ (x ∷ [])) → ¬ Final x
unfolding Clean Final
clean_final [] (Enter l k at) c f = f
clean_final [] (Join e r at) c f = f
clean_final [] (Pop i) c f = f
clean_final [] (Miss y) c f = c
clean_final [] (Nest at) c f = c
clean_final (Enter l k at ∷ es) x c f = clean_final es x c f
clean_final (Join e r at ∷ es) x c f = clean_final es x c f
clean_final (Pop i ∷ es) x c f = clean_final es x c f
clean_final (Miss y ∷ es) x c f = c
clean_final (Nest at ∷ es) x c f = c

module _ (s : List ℕ) (h : Bytes s) where
  data Parsed (es : List ReadEvent) : Type 0 where
    all_told : parse s ≡ es → Clean es → Parsed es
    and_wrong : (x : ReadEvent) → Final x → parse s ≡ es ++ (x ∷ []) → Parsed es

  tells_parsed : (es : List ReadEvent) → Tells s es → Parsed es
  tells_parsed es t = by t
    where
      more : (upto : List ℕ) → Spoken s upto → HasTold upto es → Parsed es
      more upto sp g = and_wrong sp.last sp.final (sp.is ∙ ap (λ (x : List ReadEvent). x ++ (sp.last ∷ [])) (told_one upto sp.told es sp.tells g))

      by : Tells s es → Parsed es
      by (a_line u e f m) = all_told (ap parse (sym e) ∙ read_tree u f ∙ sym m) (subst Clean (sym m) (clean_meaning u))
      by (to_wrong n r f g) = more r.before (wrong_spoken s h n r f) g
      by (to_end v u f g) = more s (ends_spoken s h v u f) g
      by (to_deep n d f g) = more d.before (deep_spoken s h n d f) g

  pub tells_one : (es ds : List ReadEvent) → Tells s es → Tells s ds → es ≡ ds
  tells_one es ds t u = by (tells_parsed es t) (tells_parsed ds u)
    where
      by : Parsed es → Parsed ds → es ≡ ds
      by (all_told e c) (all_told d k) = sym e ∙ d
      by (all_told e c) (and_wrong x f d) = absurd (clean_final ds x (subst Clean (sym e ∙ d) c) f)
      by (and_wrong x f d) (all_told e c) = absurd (clean_final es x (subst Clean (sym e ∙ d) c) f)
      by (and_wrong x f d) (and_wrong y g e) = snoc_init es ds x y (sym d ∙ e)

  pub tells_some : (es : List ReadEvent) × Tells s es
  tells_some = by (verdict s h)
    where
      by : Verdict s (parse s) → (es : List ReadEvent) × Tells s es
      by (reads t e f m) = (meaning t, a_line t e f refl)
      by (lines.ends es i v u) = let f = shallow s h 0 0 missing.EndOfLine es i in let sp = ends_spoken s h v u f in (sp.told, to_end v u f sp.tells)
      by (refuses n es i r u) = let f = shallow s h 0 0 (missing.Character n) es i in let sp = wrong_spoken s h n r f in (sp.told, to_wrong n r f sp.tells)
      by (refuses_late n es r i u) = let f = shallow s h 0 0 (late_missing n r.behind) es i in let sp = wrong_spoken s h n r f in (sp.told, to_wrong n r f sp.tells)
      by (nests n es i d) = let f = first_deep s h 0 0 n es i in let sp = deep_spoken s h n d f in (sp.told, to_deep n d f sp.tells)
