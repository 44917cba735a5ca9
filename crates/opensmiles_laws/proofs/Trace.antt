-- All events of a reading: the first that meets anything stops it; else it runs to its end, and its graph is the molecule, unless
-- the two ends of a ring bond don't agree. Assumes nothing.
use Prim.Native.Nat.{ℕ, ◌+◌, ◌-◌}
use mathlib.Core.Path.{◌≡◌, refl, sym, ap, ◌∙◌, subst}
use mathlib.Core.Bool.{Bool}
use mathlib.Core.List.{List, [], ◌∷◌, ◌++◌}
use mathlib.Core.Option.{Option, none, some}
use mathlib.Core.Logic.{◌⊎◌, inl, inr}
use borrow.Author.Tests.{eq-eqb, ne_eqb}
use Rattle.feature.specs.Pick.{pick}
use Rattle.feature.proofs.Cases.{impossible}
use Rattle.read_line.specs.declared.lead.Lead.TheVariants.{Dot, Bond}
use Rattle.read_line.specs.Events.{ReadEvent, Enter, Join, Pop, Miss, Nest}
use Rattle.read_line.specs.Parse.{parse}
use Rattle.builder_meaning.specs.Sketch.{None, Failed, Sketch, start_s, step_s, run_s, sketch_of}
use Rattle.read.specs.Read.{Answer}
use Rattle.read.proofs.Never.{Sound, parse_sound}
use Rattle.opensmiles_laws.specs.Molecule.{Molecule, as_held, molecule_told, next, tell_all}
use Rattle.table.specs.Limits.{places_in, bond_slots_in}
use Rattle.opensmiles_laws.specs.Stops.{Meets, Passes, atoms_named, count_all, Runs, Stops, Fails, fails, Disagree, begun}
use Rattle.opensmiles_laws.proofs.Marks.{meets_one}
use Rattle.opensmiles_laws.proofs.Steps.{molecule_in, Beside, Broken, Told, Stepped, halts, passes, breaks, Numb, dot_step, bond_step, number_step, pop_step, miss_step, nest_step, numb_step}
use Rattle.opensmiles_laws.proofs.Steps as numb

-- ---- the first event and the others
pub stops_here : (p l : ℕ) (o : Option Molecule) (n : ℕ) (e : ReadEvent) (es : List ReadEvent) (a : Answer) → Meets p l o n e a → Stops p l o n (e ∷ es) a
unfolding Runs tell_all count_all
stops_here p l o n e es a h = record { before = []; event = e; after = es; is = refl; free = tt; meets = h }

pub stops_later : (p l : ℕ) (o : Option Molecule) (n : ℕ) (e : ReadEvent) (es : List ReadEvent) (a : Answer) → Passes p l o n e → Stops p l (next as_held o e) (atoms_named n e) es a → Stops p l o n (e ∷ es) a
unfolding Runs tell_all count_all
stops_later p l o n e es a h s =
    record { before = e ∷ s.before; event = s.event; after = s.after; is = ap (λ (x : List ReadEvent). e ∷ x) s.is; free = (h, s.free); meets = s.meets }

disagree_here : (o : Option Molecule) (e : ReadEvent) (es : List ReadEvent) (x y : ℕ) → Fails o e x y → Disagree o (e ∷ es) x y
unfolding tell_all
disagree_here o e es x y h = record { before = []; event = e; after = es; is = refl; fails = h }

disagree_later : (o : Option Molecule) (e : ReadEvent) (es : List ReadEvent) (x y : ℕ) → Disagree (next as_held o e) es x y → Disagree o (e ∷ es) x y
unfolding tell_all
disagree_later o e es x y s =
    record { before = e ∷ s.before; event = s.event; after = s.after; is = ap (λ (x : List ReadEvent). e ∷ x) s.is; fails = s.fails }

-- where a list of events stops
pub split : (p l : ℕ) (o : Option Molecule) (n : ℕ) (e : ReadEvent) (es : List ReadEvent) (a : Answer) → Stops p l o n (e ∷ es) a
    → Meets p l o n e a ⊎ (Passes p l o n e × Stops p l (next as_held o e) (atoms_named n e) es a)
unfolding Runs tell_all count_all
split p l o n e es a s = by s.before s.is s.free s.meets
  where
    by : (before : List ReadEvent) → e ∷ es ≡ before ++ (s.event ∷ s.after) → Runs p l o n before → Meets p l (tell_all as_held o before) (count_all n before) s.event a
        → Meets p l o n e a ⊎ (Passes p l o n e × Stops p l (next as_held o e) (atoms_named n e) es a)
    by [] i f m = let g : s.event ≡ e = cc in inl (subst (λ (x : ReadEvent). Meets p l o n x a) g m)
    by (b ∷ before) i f m =
        let g : b ≡ e = cc in let h : es ≡ before ++ (s.event ∷ s.after) = cc in
        let f' = subst (λ (x : ReadEvent). Passes p l o n x × Runs p l (next as_held o x) (atoms_named n x) before) g f in
        inr (f'.0, record { before = before; event = s.event; after = s.after; is = h; free = f'.1; meets = subst (λ (x : ReadEvent). Meets p l (tell_all as_held (next as_held o x) before) (count_all (atoms_named n x) before) s.event a) g m })

pub stops_none : (p l : ℕ) (o : Option Molecule) (n : ℕ) (a : Answer) → ¬ Stops p l o n [] a
stops_none p l o n a s = by s.before s.is
  where
    by : (before : List ReadEvent) → [] ≡ before ++ (s.event ∷ s.after) → ⊥
    by [] i = impossible cc
    by (b ∷ before) i = impossible cc

-- events that run don't stop, and they stop in one way
pub runs_stops : (p l : ℕ) (es : List ReadEvent) (o : Option Molecule) (n : ℕ) (a : Answer) → Runs p l o n es → ¬ Stops p l o n es a
unfolding Runs Passes
runs_stops p l [] o n a h s = stops_none p l o n a s
runs_stops p l (e ∷ es) o n a h s = by (split p l o n e es a s) (runs_stops p l es (next as_held o e) (atoms_named n e) a h.1)
  where
    by : Meets p l o n e a ⊎ (Passes p l o n e × Stops p l (next as_held o e) (atoms_named n e) es a) → ¬ Stops p l (next as_held o e) (atoms_named n e) es a → ⊥
    by (inl m) f = h.0 a m
    by (inr r) f = f r.1

pub stops_one : (p l : ℕ) (es : List ReadEvent) (o : Option Molecule) (n : ℕ) (a b : Answer) → Stops p l o n es a → Stops p l o n es b → a ≡ b
unfolding Passes
stops_one p l [] o n a b s t = absurd (stops_none p l o n a s)
stops_one p l (e ∷ es) o n a b s t = by (split p l o n e es a s) (split p l o n e es b t) (stops_one p l es (next as_held o e) (atoms_named n e) a b)
  where
    by : Meets p l o n e a ⊎ (Passes p l o n e × Stops p l (next as_held o e) (atoms_named n e) es a)
        → Meets p l o n e b ⊎ (Passes p l o n e × Stops p l (next as_held o e) (atoms_named n e) es b)
        → (Stops p l (next as_held o e) (atoms_named n e) es a → Stops p l (next as_held o e) (atoms_named n e) es b → a ≡ b) → a ≡ b
    by (inl m) (inl k) f = meets_one p l o n e a b m k
    by (inl m) (inr r) f = absurd (r.0 a m)
    by (inr r) (inl k) f = absurd (r.0 b k)
    by (inr r) (inr q) f = f r.1 q.1

-- ---- all events
pub data Ran (p l : ℕ) (o : Option Molecule) (n : ℕ) (es : List ReadEvent) (d : Sketch) : Type 0 where
  stopped : (a : Answer) → Stops p l o n es a → Told d a → Ran p l o n es d
  ran : Runs p l o n es → d.refusal ≡ 0 → d.failure ≡ None → d.unseen ≡ 0 → tell_all as_held o es ≡ some (molecule_in d) → Ran p l o n es d
  broke : (x y : ℕ) → Runs p l o n es → d.refusal ≡ 0 → d.failure ≡ Failed x y → Disagree o es x y → tell_all as_held o es ≡ none → Ran p l o n es d

-- only a ring number fails
Ring : ReadEvent → Type 0
Ring (Enter l k at) = ⊥
Ring (Join e r at) = Unit {0}
Ring (Pop i) = ⊥
Ring (Miss x) = ⊥
Ring (Nest at) = ⊥

fails_join : (o : Option Molecule) (e : ReadEvent) (x y : ℕ) → Fails o e x y → Ring e
unfolding Ring
fails_join _ _ _ _ (fails m e r at x path h w f a) = tt

-- after a failed join
data Rest (p l n : ℕ) (es : List ReadEvent) (d : Sketch) (x y : ℕ) : Type 0 where
  stopped : (a : Answer) → Stops p l none n es a → Told d a → Rest p l n es d x y
  ran : Runs p l none n es → d.refusal ≡ 0 → d.failure ≡ Failed x y → Rest p l n es d x y

run_stuck : (d : Sketch) (es : List ReadEvent) → ¬ (d.refusal ≡ 0) → run_s d es ≡ d
unfolding run_s
run_stuck d [] h = refl
run_stuck d (e ∷ es) h = rw (ne_eqb d.refusal 0 h)

run_on : (d : Sketch) (e : ReadEvent) (es : List ReadEvent) → d.refusal ≡ 0 → run_s d (e ∷ es) ≡ run_s (step_s d e) es
unfolding run_s
run_on d e es h = ap (λ (t : Bool). pick t (run_s (step_s d e) es) d) (eq-eqb d.refusal 0 h)

told_on : (d : Sketch) (es : List ReadEvent) (a : Answer) → Told d a → Told (run_s d es) a
told_on d es a t = subst (λ (x : Sketch). Told x a) (sym (run_stuck d es t.refused)) t

pub none_told : (es : List ReadEvent) → tell_all as_held none es ≡ none
unfolding tell_all next
none_told [] = refl
none_told (e ∷ es) = none_told es

module _ (p l : ℕ) where
  rest_run : (es : List ReadEvent) (d : Sketch) (n x y : ℕ) → Broken d n x y → Rest p l n es (run_s d es) x y
  unfolding run_s Runs
  rest_run [] d n x y b = ran tt b.going b.failed
  rest_run (e ∷ es) d n x y b = subst (λ (z : Sketch). Rest p l n (e ∷ es) z x y) (sym (run_on d e es b.going)) (by (numb_step p l d n x y b e) (rest_run es (step_s d e) (atoms_named n e) x y))
    where
      later : Passes p l none n e → Rest p l (atoms_named n e) es (run_s (step_s d e) es) x y → Rest p l n (e ∷ es) (run_s (step_s d e) es) x y
      later h (stopped a s t) = stopped a (stops_later p l none n e es a h (unfold next in s)) t
      later h (ran r z f) = ran (h, unfold next in r) z f

      by : Numb p l n x y e (step_s d e) → (Broken (step_s d e) (atoms_named n e) x y → Rest p l (atoms_named n e) es (run_s (step_s d e) es) x y) → Rest p l n (e ∷ es) (run_s (step_s d e) es) x y
      by (numb.halts a m t) f = stopped a (stops_here p l none n e es a m) (told_on (step_s d e) es a t)
      by (numb.passes h c) f = later h (f c)

  unfoldable pub Going : List ReadEvent → Type 0
  Going es = (d : Sketch) (n depth : ℕ) → Beside p l d n depth → Sound depth es → Ran p l (some (molecule_in d)) n es (run_s d es)

  go : (d : Sketch) (n depth : ℕ) (e : ReadEvent) (es : List ReadEvent) → Stepped p l (molecule_in d) n e depth (step_s d e) → d.refusal ≡ 0 → Sound depth es → Going es → Ran p l (some (molecule_in d)) n (e ∷ es) (run_s d (e ∷ es))
  unfolding Runs tell_all next Going
  go d n depth e es s z f rest = subst (Ran p l (some (molecule_in d)) n (e ∷ es)) (sym (run_on d e es z)) (by s)
    where
      later : (o : Option Molecule) → next as_held (some (molecule_in d)) e ≡ o → Passes p l (some (molecule_in d)) n e → Ran p l o (atoms_named n e) es (run_s (step_s d e) es) → Ran p l (some (molecule_in d)) n (e ∷ es) (run_s (step_s d e) es)
      later o h q (stopped a s t) = stopped a (stops_later p l (some (molecule_in d)) n e es a q (subst (λ (w : Option Molecule). Stops p l w (atoms_named n e) es a) (sym h) s)) t
      later o h q (ran r z f u m) = ran (q, subst (λ (w : Option Molecule). Runs p l w (atoms_named n e) es) (sym h) r) z f u (ap (λ (w : Option Molecule). tell_all as_held w es) h ∙ m)
      later o h q (broke x y r z f g m) =
          broke x y (q, subst (λ (w : Option Molecule). Runs p l w (atoms_named n e) es) (sym h) r) z f
          (disagree_later (some (molecule_in d)) e es x y (subst (λ (w : Option Molecule). Disagree w es x y) (sym h) g)) (ap (λ (w : Option Molecule). tell_all as_held w es) h ∙ m)

      broken : (x y : ℕ) → next as_held (some (molecule_in d)) e ≡ none → Passes p l (some (molecule_in d)) n e → Fails (some (molecule_in d)) e x y → Rest p l (atoms_named n e) es (run_s (step_s d e) es) x y → Ran p l (some (molecule_in d)) n (e ∷ es) (run_s (step_s d e) es)
      broken x y h q g (stopped a s t) = stopped a (stops_later p l (some (molecule_in d)) n e es a q (subst (λ (w : Option Molecule). Stops p l w (atoms_named n e) es a) (sym h) s)) t
      broken x y h q g (ran r z f) =
          broke x y (q, subst (λ (w : Option Molecule). Runs p l w (atoms_named n e) es) (sym h) r) z f (disagree_here (some (molecule_in d)) e es x y g)
          (ap (λ (w : Option Molecule). tell_all as_held w es) h ∙ none_told es)

      by : Stepped p l (molecule_in d) n e depth (step_s d e) → Ran p l (some (molecule_in d)) n (e ∷ es) (run_s (step_s d e) es)
      by (halts a m t) = stopped a (stops_here p l (some (molecule_in d)) n e es a m) (told_on (step_s d e) es a t)
      by (passes q h c) = later (some (molecule_in (step_s d e))) h q (rest (step_s d e) (atoms_named n e) depth c f)
      by (breaks x y q g h c) = broken x y h q g (rest_run es (step_s d e) (atoms_named n e) x y c)

  -- a refusal ends it, whatever follows
  over : (d : Sketch) (n depth : ℕ) (e : ReadEvent) (es : List ReadEvent) (a : Answer) → Meets p l (some (molecule_in d)) n e a → Told (step_s d e) a → d.refusal ≡ 0 → Ran p l (some (molecule_in d)) n (e ∷ es) (run_s d (e ∷ es))
  over d n depth e es a m t z = subst (Ran p l (some (molecule_in d)) n (e ∷ es)) (sym (run_on d e es z)) (stopped a (stops_here p l (some (molecule_in d)) n e es a m) (told_on (step_s d e) es a t))

  pub all_run : (es : List ReadEvent) → Going es
  unfolding Going run_s Runs tell_all molecule_told Ring
  all_run [] d n depth b f = ran tt b.going b.sound b.seen refl
  all_run (Enter Dot k at ∷ es) d n depth b f = go d n (depth + 1) (Enter Dot k at) es (dot_step p l d n depth b k at) b.going f (all_run es)
  all_run (Enter (Bond e) k at ∷ es) d n depth b f = go d n (depth + 1) (Enter (Bond e) k at) es (bond_step p l d n depth b e k at f.0) b.going f.1 (all_run es)
  all_run (Join e r at ∷ es) d n depth b f = go d n depth (Join e r at) es (number_step p l d n depth b e r at f.0) b.going f.1 (all_run es)
  all_run (Pop i ∷ es) d n depth b f = go d n (depth - i) (Pop i) es (pop_step p l d n depth b i) b.going f.1 (all_run es)
  all_run (Miss x ∷ es) d n depth b f = by (miss_step p l d n depth b x)
    where
      by : Stepped p l (molecule_in d) n (Miss x) depth (step_s d (Miss x)) → Ran p l (some (molecule_in d)) n (Miss x ∷ es) (run_s d (Miss x ∷ es))
      by (halts a m t) = over d n depth (Miss x) es a m t b.going
      by (passes q h c) = impossible cc
      by (breaks u v q g h c) = absurd (fails_join (some (molecule_in d)) (Miss x) u v g)
  all_run (Nest at ∷ es) d n depth b f = by (nest_step p l d n depth b at)
    where
      by : Stepped p l (molecule_in d) n (Nest at) depth (step_s d (Nest at)) → Ran p l (some (molecule_in d)) n (Nest at ∷ es) (run_s d (Nest at ∷ es))
      by (halts a m t) = over d n depth (Nest at) es a m t b.going
      by (passes q h c) = impossible cc
      by (breaks u v q g h c) = absurd (fails_join (some (molecule_in d)) (Nest at) u v g)

-- THE READING OF A TEXT, event by event
pub text_ran : (s : List ℕ) (la lb : ℕ) → Ran (places_in la) (bond_slots_in lb) begun 0 (parse s) (sketch_of s la lb)
unfolding sketch_of Going
text_ran s la lb = all_run (places_in la) (bond_slots_in lb) (parse s) (start_s (places_in la) (bond_slots_in lb)) 0 0 (record { places = refl; slots = refl; going = refl; sound = refl; seen = refl; number = refl; level = refl }) (parse_sound s)
