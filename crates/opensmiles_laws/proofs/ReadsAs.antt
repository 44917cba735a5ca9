-- What a text's reading came to is what the read call says, and is said of no other reading. Assumes nothing.
use Prim.Native.Nat.{ℕ, ◌<◌, ◌≤◌}
use mathlib.Core.Path.{◌≡◌, refl, sym, ap, ◌∙◌, subst}
use mathlib.Core.Bool.{Bool, true, false}
use mathlib.Core.List.{List, [], ◌∷◌, ◌++◌}
use mathlib.Core.Option.{Option, none, some}
use mathlib.Core.Logic.{◌⊎◌, inl, inr}
use native.Mathlib.Omega.{arith}
use lib.Dec.{ltb}
use lib.ListN.{length}
use borrow.Author.Tests.{eq-eqb, ne_eqb, lt-ltb, le-ltb, ltb-true, ltb-false}
use Rattle.feature.specs.Pick.{pick}
use Rattle.feature.proofs.Cases.{impossible}
use Rattle.table.specs.Limits.{text_limit, places_in, bond_slots_in}
use Rattle.read_token.specs.declared.scanner.Missing.TheVariants as missing
use Rattle.read_line.specs.Events.{ReadEvent, Enter, Join, Pop, Miss, Nest}
use Rattle.read_line.specs.Parse.{parse}
use Rattle.builder_meaning.specs.Sketch.{Node, Held, Failure, None, Failed, Sketch, next_number, count_of, first_open_s, rings_say, says_s, finish_s, sketch_of, atom_table, bond_table, padded, left_s}
use Rattle.std.specs.Prelude.{Err, Ok}
use Rattle.read.specs.Read.{graph_size}
use Rattle.read.specs.Read.{Answer}
use Rattle.read.specs.declared.ReadError.TheVariants as answer
use Rattle.read.specs.Read.{Said, said, read_refusal, built_answer}
use Rattle.read.specs.Line.{read_refusing, whole_of, whole_or_refused, read_text}
use Rattle.grammar.specs.Grammar.{meaning}
use Rattle.grammar.specs.Lines.{Bytes, Clean}
use Rattle.opensmiles_laws.specs.Molecule.{Molecule, as_held, molecule_told, next, tell_all, molecule_of, numbered, molecule_ringed, closed}
use Rattle.grammar.proofs.Verdict.{sound, read_tree}
use Rattle.opensmiles_laws.proofs.Held.{atoms_in}
use Rattle.opensmiles_laws.specs.Stops.{Turnable, wrong, deep, Passes, Runs, Stops, Fails, fails, Disagree, begun}
use Rattle.opensmiles_laws.specs.Stops as stops
use Rattle.opensmiles_laws.specs.Answers.{Whole, Roomy, DoneAs, done_said, OpenAs, DisagreeAs}
use Rattle.opensmiles_laws.proofs.Steps.{molecule_in, Told}
use Rattle.opensmiles_laws.proofs.Trace.{Ran, stopped, ran, broke, none_told, runs_stops, stops_one, text_ran}
use Rattle.opensmiles_laws.proofs.Room.{roomy_runs, runs_roomy}

-- ---- what is said of a reading
module _ (s : List ℕ) (la lb : ℕ) where
  pub long_line : text_limit < length s → read_text s la lb ≡ read_refusing (Err (answer.TextTooLong (length s))) la lb
  unfolding read_text
  long_line h = rw (lt-ltb text_limit (length s) h)

  short_line : length s ≤ text_limit → read_text s la lb ≡ whole_or_refused (sketch_of s la lb) la lb
  unfolding read_text
  short_line h = rw (le-ltb text_limit (length s) h)

module _ (d : Sketch) (la lb : ℕ) where
  told_graph : (a : Answer) → Told d a → whole_or_refused d la lb ≡ read_refusing a la lb
  unfolding whole_or_refused
  told_graph a t =
      ap (λ (b : Bool). pick b (whole_of d la lb) (read_refusing (read_refusal d.refusal d.carried) la lb)) (ne_eqb d.refusal 0 t.refused)
      ∙ ap (λ (x : Answer). read_refusing x la lb) t.is

  whole_graph : d.refusal ≡ 0 → whole_or_refused d la lb ≡ whole_of d la lb
  unfolding whole_or_refused
  whole_graph h = ap (λ (b : Bool). pick b (whole_of d la lb) (read_refusing (read_refusal d.refusal d.carried) la lb)) (eq-eqb d.refusal 0 h)

  broken_graph : (x y : ℕ) → d.refusal ≡ 0 → d.failure ≡ Failed x y → whole_or_refused d la lb ≡ read_refusing (Err (answer.Join x y)) la lb
  unfolding whole_of finish_s
  broken_graph x y h f =
      whole_graph h
      ∙ ap (λ (g : Failure). said (built_answer (says_s g d.nodes) (next_number d) (count_of d.nodes)) (left_s (says_s g d.nodes) la (atom_table d.nodes)) (left_s (says_s g d.nodes) lb (bond_table d.nodes))) f
      ∙ (unfold says_s built_answer left_s in refl)

  ended : Option ℕ → Said
  ended o = said (built_answer (rings_say o) (next_number d) (count_of d.nodes)) (left_s (rings_say o) la (atom_table d.nodes)) (left_s (rings_say o) lb (bond_table d.nodes))

  ended_graph : d.refusal ≡ 0 → d.failure ≡ None → whole_or_refused d la lb ≡ ended (first_open_s d.nodes)
  unfolding whole_of finish_s ended
  ended_graph h f =
      whole_graph h
      ∙ ap (λ (g : Failure). said (built_answer (says_s g d.nodes) (next_number d) (count_of d.nodes)) (left_s (says_s g d.nodes) la (atom_table d.nodes)) (left_s (says_s g d.nodes) lb (bond_table d.nodes))) f
      ∙ (unfold says_s in refl)

  open_graph : (j : ℕ) → d.refusal ≡ 0 → d.failure ≡ None → first_open_s d.nodes ≡ some j → whole_or_refused d la lb ≡ read_refusing (Err (answer.Rnum j)) la lb
  open_graph j h f o = ended_graph h f ∙ ap ended o ∙ (unfold ended rings_say built_answer left_s in refl)

  done_graph : d.refusal ≡ 0 → d.failure ≡ None → d.unseen ≡ 0 → first_open_s d.nodes ≡ none → whole_or_refused d la lb ≡ done_said la lb d.nodes
  done_graph h f u o =
      ended_graph h f ∙ ap ended o
      ∙ (unfold ended rings_say built_answer left_s in ap (λ (n : ℕ). said (Ok (graph_size n (count_of d.nodes))) (padded la (atom_table d.nodes)) (padded lb (bond_table d.nodes))) numbers)
    where
      numbers : next_number d ≡ length d.nodes
      numbers = unfold next_number in omega (arith, u)

-- ---- ring bonds whose ends don't agree
fails_none : (o : Option Molecule) (e : ReadEvent) (x y : ℕ) → Fails o e x y → next as_held o e ≡ none
unfolding next molecule_told numbered molecule_ringed closed
fails_none _ _ _ _ (fails m e r at x path h w f a) = rw (w, f, a)

some_fails : (o : Option Molecule) (e : ReadEvent) (x y : ℕ) → Fails o e x y → ¬ (o ≡ none)
some_fails _ _ _ _ (fails m e r at x path h w f a) i = impossible cc

none_fails : (e : ReadEvent) (x y : ℕ) → ¬ Fails none e x y
none_fails e x y f = some_fails none e x y f refl

none_agrees : (es : List ReadEvent) (x y : ℕ) → ¬ Disagree none es x y
none_agrees es x y d = none_fails d.event x y (subst (λ (o : Option Molecule). Fails o d.event x y) (none_told d.before) d.fails)

fails_one : (o : Option Molecule) (e : ReadEvent) (x y v w : ℕ) → Fails o e x y → Fails o e v w → (x ≡ v) × (y ≡ w)
fails_one _ _ _ _ _ _ (fails m e r at x path h w f a) (fails _ _ _ _ v qath k z g b) =
    let i : x ≡ v = cc in let j : h ≡ k = cc in (i, ap (λ (q : Held). q.atom) j)

disagree_split : (o : Option Molecule) (e : ReadEvent) (es : List ReadEvent) (x y : ℕ) → Disagree o (e ∷ es) x y → Fails o e x y ⊎ Disagree (next as_held o e) es x y
unfolding tell_all
disagree_split o e es x y s = by s.before s.is s.fails
  where
    by : (before : List ReadEvent) → e ∷ es ≡ before ++ (s.event ∷ s.after) → Fails (tell_all as_held o before) s.event x y → Fails o e x y ⊎ Disagree (next as_held o e) es x y
    by [] i m = let g : s.event ≡ e = cc in inl (subst (λ (z : ReadEvent). Fails o z x y) g m)
    by (b ∷ before) i m =
        let g : b ≡ e = cc in let h : es ≡ before ++ (s.event ∷ s.after) = cc in
        inr (record { before = before; event = s.event; after = s.after; is = h; fails = subst (λ (z : ReadEvent). Fails (tell_all as_held (next as_held o z) before) s.event x y) g m })

disagree_none : (o : Option Molecule) (x y : ℕ) → ¬ Disagree o [] x y
disagree_none o x y s = by s.before s.is
  where
    by : (before : List ReadEvent) → [] ≡ before ++ (s.event ∷ s.after) → ⊥
    by [] i = impossible cc
    by (b ∷ before) i = impossible cc

disagree_one : (es : List ReadEvent) (o : Option Molecule) (x y v w : ℕ) → Disagree o es x y → Disagree o es v w → (x ≡ v) × (y ≡ w)
disagree_one [] o x y v w s t = absurd (disagree_none o x y s)
disagree_one (e ∷ es) o x y v w s t = by (disagree_split o e es x y s) (disagree_split o e es v w t) (disagree_one es (next as_held o e) x y v w)
  where
    over : (a b c d : ℕ) → Fails o e a b → ¬ Disagree (next as_held o e) es c d
    over a b c d f g = none_agrees es c d (subst (λ (q : Option Molecule). Disagree q es c d) (fails_none o e a b f) g)

    by : Fails o e x y ⊎ Disagree (next as_held o e) es x y → Fails o e v w ⊎ Disagree (next as_held o e) es v w
        → (Disagree (next as_held o e) es x y → Disagree (next as_held o e) es v w → (x ≡ v) × (y ≡ w)) → (x ≡ v) × (y ≡ w)
    by (inl f) (inl g) k = fails_one o e x y v w f g
    by (inl f) (inr g) k = absurd (over x y v w f g)
    by (inr f) (inl g) k = absurd (over v w x y g f)
    by (inr f) (inr g) k = k f g

-- there is no molecule then
disagree_told : (es : List ReadEvent) (o : Option Molecule) (x y : ℕ) → Disagree o es x y → tell_all as_held o es ≡ none
unfolding tell_all
disagree_told [] o x y s = absurd (disagree_none o x y s)
disagree_told (e ∷ es) o x y s = by (disagree_split o e es x y s) (disagree_told es (next as_held o e) x y)
  where
    by : Fails o e x y ⊎ Disagree (next as_held o e) es x y → (Disagree (next as_held o e) es x y → tell_all as_held (next as_held o e) es ≡ none) → tell_all as_held (next as_held o e) es ≡ none
    by (inl f) k = ap (λ (q : Option Molecule). tell_all as_held q es) (fails_none o e x y f) ∙ none_told es
    by (inr f) k = k f

-- ---- events that meet nothing hold no refusal
pub runs_clean : (p l : ℕ) (es : List ReadEvent) (o : Option Molecule) (n : ℕ) → Runs p l o n es → Clean es
unfolding Runs Clean Passes
runs_clean p l [] o n r = tt
runs_clean p l (Enter b k at ∷ es) o n r = runs_clean p l es _ _ r.1
runs_clean p l (Join e i at ∷ es) o n r = runs_clean p l es _ _ r.1
runs_clean p l (Pop i ∷ es) o n r = runs_clean p l es _ _ r.1
runs_clean p l (Miss missing.EndOfLine ∷ es) o n r = r.0 (Err answer.EndOfLine) (stops.ends o n)
runs_clean p l (Miss (missing.Character at) ∷ es) o n r = r.0 (Err (answer.Character at)) (wrong o n at)
runs_clean p l (Nest at ∷ es) o n r = r.0 (Err (answer.Nesting at)) (deep o n at)

-- ---- what a text's reading comes to
pub data ReadsAs (s : List ℕ) (la lb : ℕ) : Said → Type 0 where
  long : text_limit < length s → ReadsAs s la lb (read_refusing (Err (answer.TextTooLong (length s))) la lb)
  halts : length s ≤ text_limit → (a : Answer) → Stops (places_in la) (bond_slots_in lb) begun 0 (parse s) a → ReadsAs s la lb (read_refusing a la lb)
  disagrees : (x y : ℕ) → DisagreeAs s la lb x y → ReadsAs s la lb (read_refusing (Err (answer.Join x y)) la lb)
  opens : (j : ℕ) → OpenAs s la lb j → ReadsAs s la lb (read_refusing (Err (answer.Rnum j)) la lb)
  done : (ns : List Node) → DoneAs s la lb ns → ReadsAs s la lb (done_said la lb ns)

pub clash_some : {P : Type 0} (o : Option Molecule) (m : Molecule) → o ≡ none → o ≡ some m → P
clash_some o m h g = impossible cc

same_atoms : (o : Option Molecule) (m x : Molecule) → o ≡ some m → o ≡ some x → m.atoms ≡ x.atoms
same_atoms o m x h g = unfold atoms_in in (ap atoms_in (sym h) ∙ ap atoms_in g)

-- THE READ CALL SAYS SO
module _ (s : List ℕ) (h : Bytes s) (la lb : ℕ) (short : length s ≤ text_limit) where
  abbrev d : Sketch
  d = sketch_of s la lb

  line : Runs (places_in la) (bond_slots_in lb) begun 0 (parse s) → (w : Whole s) × (parse s ≡ meaning w.tree)
  line r = let t = sound s h (runs_clean (places_in la) (bond_slots_in lb) (parse s) begun 0 r) in
      (record { short = short; tree = t.0; spelled = t.1; shallow = t.2 }, t.3)

  ran_reads : Runs (places_in la) (bond_slots_in lb) begun 0 (parse s) → d.refusal ≡ 0 → d.failure ≡ None → d.unseen ≡ 0 → tell_all as_held begun (parse s) ≡ some (molecule_in d) → ReadsAs s la lb (whole_or_refused d la lb)
  ran_reads r z f u t = by (first_open_s d.nodes) refl
    where
      w : (w : Whole s) × (parse s ≡ meaning w.tree)
      w = line r

      i : molecule_of as_held (meaning w.0.tree) ≡ some (molecule_in d)
      i = unfold molecule_of in ap (tell_all as_held begun) (sym w.1) ∙ t

      fit : (length d.nodes ≤ places_in la) × (count_of d.nodes ≤ bond_slots_in lb) × Turnable (meaning w.0.tree)
      fit = runs_roomy (places_in la) (bond_slots_in lb) (meaning w.0.tree) (molecule_in d) i (subst (Runs (places_in la) (bond_slots_in lb) begun 0) w.1 r)

      room : Roomy w.0.tree la lb d.nodes
      room = record { whole = molecule_in d; is = i; atoms = refl; places = fit.0; slots = fit.1; marks = fit.2 }

      by : (o : Option ℕ) → first_open_s d.nodes ≡ o → ReadsAs s la lb (whole_or_refused d la lb)
      by none o = subst (ReadsAs s la lb) (sym (done_graph d la lb z f u o)) (done d.nodes (record { line = w.0; roomy = room; closed = o }))
      by (some j) o = subst (ReadsAs s la lb) (sym (open_graph d la lb j z f o)) (opens j (record { line = w.0; atoms = d.nodes; roomy = room; unclosed = o }))

  broke_reads : (x y : ℕ) → Runs (places_in la) (bond_slots_in lb) begun 0 (parse s) → d.refusal ≡ 0 → d.failure ≡ Failed x y → Disagree begun (parse s) x y → ReadsAs s la lb (whole_or_refused d la lb)
  broke_reads x y r z f g =
      let w = line r in
      subst (ReadsAs s la lb) (sym (broken_graph d la lb x y z f)) (disagrees x y (record { line = w.0; runs = subst (Runs (places_in la) (bond_slots_in lb) begun 0) w.1 r; first = subst (λ (es : List ReadEvent). Disagree begun es x y) w.1 g }))

  short_reads : Ran (places_in la) (bond_slots_in lb) begun 0 (parse s) d → ReadsAs s la lb (whole_or_refused d la lb)
  short_reads (stopped a q t) = subst (ReadsAs s la lb) (sym (told_graph d la lb a t)) (halts short a q)
  short_reads (ran r z f u t) = ran_reads r z f u t
  short_reads (broke x y r z f g t) = broke_reads x y r z f g

pub reads_as : (s : List ℕ) → Bytes s → (la lb : ℕ) → ReadsAs s la lb (read_text s la lb)
reads_as s h la lb = by (ltb text_limit (length s)) refl
  where
    by : (t : Bool) → ltb text_limit (length s) ≡ t → ReadsAs s la lb (read_text s la lb)
    by true q = let l = ltb-true text_limit (length s) q in subst (ReadsAs s la lb) (sym (long_line s la lb l)) (long l)
    by false q = let k = ltb-false text_limit (length s) q in subst (ReadsAs s la lb) (sym (short_line s la lb k)) (short_reads s h la lb k (text_ran s la lb))

-- AND OF NO OTHER READING
module _ (s : List ℕ) (la lb : ℕ) where
  line_parse : (w : Whole s) → parse s ≡ meaning w.tree
  line_parse w = ap parse (sym w.spelled) ∙ read_tree w.tree w.shallow

  -- a text whose events make a molecule that there is room for
  module _ (short : length s ≤ text_limit) (x : Molecule) (i : tell_all as_held begun (parse s) ≡ some x) (r : Runs (places_in la) (bond_slots_in lb) begun 0 (parse s)) where
    pub done_by : first_open_s x.atoms ≡ none → read_text s la lb ≡ done_said la lb x.atoms
    done_by c = short_line s la lb short ∙ by (text_ran s la lb)
      where
        by : Ran (places_in la) (bond_slots_in lb) begun 0 (parse s) (sketch_of s la lb) → whole_or_refused (sketch_of s la lb) la lb ≡ done_said la lb x.atoms
        by (stopped a q t) = absurd (runs_stops (places_in la) (bond_slots_in lb) (parse s) begun 0 a r q)
        by (ran q z f u t) = let e = same_atoms _ _ _ t i in done_graph (sketch_of s la lb) la lb z f u (ap first_open_s e ∙ c) ∙ ap (done_said la lb) e
        by (broke v w q z f g t) = clash_some _ x t i

    open_by : (j : ℕ) → first_open_s x.atoms ≡ some j → read_text s la lb ≡ read_refusing (Err (answer.Rnum j)) la lb
    open_by j c = short_line s la lb short ∙ by (text_ran s la lb)
      where
        by : Ran (places_in la) (bond_slots_in lb) begun 0 (parse s) (sketch_of s la lb) → whole_or_refused (sketch_of s la lb) la lb ≡ read_refusing (Err (answer.Rnum j)) la lb
        by (stopped a q t) = absurd (runs_stops (places_in la) (bond_slots_in lb) (parse s) begun 0 a r q)
        by (ran q z f u t) = let e = same_atoms _ _ _ t i in open_graph (sketch_of s la lb) la lb j z f (ap first_open_s e ∙ c)
        by (broke v w q z f g t) = clash_some _ x t i

  pub halts_by : length s ≤ text_limit → (a : Answer) → Stops (places_in la) (bond_slots_in lb) begun 0 (parse s) a → read_text s la lb ≡ read_refusing a la lb
  halts_by short a st = short_line s la lb short ∙ by (text_ran s la lb)
    where
      by : Ran (places_in la) (bond_slots_in lb) begun 0 (parse s) (sketch_of s la lb) → whole_or_refused (sketch_of s la lb) la lb ≡ read_refusing a la lb
      by (stopped b q t) = told_graph (sketch_of s la lb) la lb b t ∙ ap (λ (c : Answer). read_refusing c la lb) (stops_one (places_in la) (bond_slots_in lb) (parse s) begun 0 b a q st)
      by (ran q z f u t) = absurd (runs_stops (places_in la) (bond_slots_in lb) (parse s) begun 0 a q st)
      by (broke v w q z f g t) = absurd (runs_stops (places_in la) (bond_slots_in lb) (parse s) begun 0 a q st)

  disagrees_by : (x y : ℕ) → DisagreeAs s la lb x y → read_text s la lb ≡ read_refusing (Err (answer.Join x y)) la lb
  disagrees_by x y w = short_line s la lb w.line.short ∙ by (text_ran s la lb)
    where
      p : parse s ≡ meaning w.line.tree
      p = line_parse w.line

      first : Disagree begun (parse s) x y
      first = subst (λ (es : List ReadEvent). Disagree begun es x y) (sym p) w.first

      by : Ran (places_in la) (bond_slots_in lb) begun 0 (parse s) (sketch_of s la lb) → whole_or_refused (sketch_of s la lb) la lb ≡ read_refusing (Err (answer.Join x y)) la lb
      by (stopped b q t) = absurd (runs_stops (places_in la) (bond_slots_in lb) (parse s) begun 0 b (subst (Runs (places_in la) (bond_slots_in lb) begun 0) (sym p) w.runs) q)
      by (ran q z f u t) = clash_some _ _ (disagree_told (parse s) begun x y first) t
      by (broke v k q z f g t) =
          let e = disagree_one (parse s) begun v k x y g first in
          broken_graph (sketch_of s la lb) la lb v k z f ∙ ap (λ (i : ℕ). read_refusing (Err (answer.Join i k)) la lb) e.0 ∙ ap (λ (i : ℕ). read_refusing (Err (answer.Join x i)) la lb) e.1

  module _ (w : Whole s) (ns : List Node) (r : Roomy w.tree la lb ns) where
    made : tell_all as_held begun (parse s) ≡ some r.whole
    made = ap (tell_all as_held begun) (line_parse w) ∙ (unfold molecule_of in r.is)

    runs : Runs (places_in la) (bond_slots_in lb) begun 0 (parse s)
    runs = subst (Runs (places_in la) (bond_slots_in lb) begun 0) (sym (line_parse w))
        (roomy_runs (places_in la) (bond_slots_in lb) (meaning w.tree) r.whole r.is (subst (λ (x : List Node). length x ≤ places_in la) (sym r.atoms) r.places) (subst (λ (x : List Node). count_of x ≤ bond_slots_in lb) (sym r.atoms) r.slots) r.marks)

  pub reads_as_said : (x : Said) → ReadsAs s la lb x → read_text s la lb ≡ x
  reads_as_said _ (long h) = long_line s la lb h
  reads_as_said _ (halts short a q) = halts_by short a q
  reads_as_said _ (disagrees x y w) = disagrees_by x y w
  reads_as_said _ (opens j w) = open_by w.line.short w.roomy.whole (made w.line w.atoms w.roomy) (runs w.line w.atoms w.roomy) j (ap first_open_s w.roomy.atoms ∙ w.unclosed)
  reads_as_said _ (done ns w) = done_by w.line.short w.roomy.whole (made w.line ns w.roomy) (runs w.line ns w.roomy) (ap first_open_s w.roomy.atoms ∙ w.closed) ∙ ap (done_said la lb) w.roomy.atoms
