-- A text that is refused: the reader's events are what the text has told, and one more that says what is wrong. Assumes nothing.
use Prim.Native.Nat.{ℕ, ◌+◌, ◌<◌}
use mathlib.Core.Path.{◌≡◌, refl, sym, ap, ◌∙◌}
use mathlib.Core.List.{List, [], ◌∷◌, ◌++◌, append_assoc, append-nil}
use mathlib.Core.Option.{Option, none, some}
use mathlib.Core.Bool.{Bool, true, false}
use mathlib.Core.Logic.{◌⊎◌, inl, inr}
use native.Mathlib.Omega.{arith}
use lib.ListN.{length}
use Rattle.read_line.specs.Events.{ReadEvent, Enter, Join, Pop, Miss, Nest}
use Rattle.read_token.specs.declared.scanner.Missing.TheVariants as missing
use Rattle.read_line.specs.Parse.{parse}
use Rattle.grammar.specs.Grammar.{Line, spell}
use Rattle.table.specs.Limits.{branch_limit}
use Rattle.grammar.specs.Lines.{Bytes, Fits, Spelled, Viable, WrongAt, TooDeep, Ends}
use Rattle.grammar.proofs.Machine.{top, begin, State, want, step, ending}
use Rattle.grammar.proofs.Sound.{sofar, Told, ending_ok}
use Rattle.grammar.proofs.Complete.{chain, steps, steps_then}
use Rattle.grammar.proofs.Reading.{zero_state, reached, through_viable, viable_through, viable_cut}
use Rattle.grammar.proofs.Link.{told, halt, deep, onward, refusal, full, parse_full}
use Rattle.grammar.proofs.Depth.{Fit, fit_next, fit_first}
use Rattle.grammar.proofs.Verdict.{nest_is}
use Rattle.opensmiles_laws.specs.Telling.{HasTold, Shallow, FirstDeep, MissesAt, wrong_here, wrong_late, MissesMore, ends_here, ends_late}
use Rattle.opensmiles_laws.proofs.Deep.{Fitting, fitting, Nested, fit_full}
use Rattle.opensmiles_laws.proofs.Telling.{has_told}

-- an event that says what is wrong
unfoldable pub Final : ReadEvent → Type 0
Final (Enter l k at) = ⊥
Final (Join e r at) = ⊥
Final (Pop i) = ⊥
Final (Miss x) = Unit {0}
Final (Nest at) = Unit {0}

pub record Spoken (s upto : List ℕ) : Type 0 where
  pub told : List ReadEvent
  pub last : ReadEvent
  pub tells : HasTold upto told
  pub is : parse s ≡ told ++ (last ∷ [])
  pub final : Final last

module _ (s : List ℕ) (h : Bytes s) where
  through : (q bs : List ℕ) (v : State) → s ≡ q ++ bs → steps zero_state q ≡ some v → ((told : List ReadEvent) × (m : ℕ) × (parse s ≡ told ++ (Nest m ∷ [])) × (m < length q)) ⊎ (Fit v × (parse s ≡ full v (length q) bs))
  unfolding Nested
  through q bs v i e = by (fit_full q bs zero_state v 0 e (unfold zero_state in fit_first))
    where
      parsed : parse s ≡ full zero_state 0 (q ++ bs)
      parsed = parse_full s h ∙ (unfold zero_state in ap (full (want (begin top)) 0) i)

      by : ((told : List ReadEvent) × (m : ℕ) × (full zero_state 0 (q ++ bs) ≡ told ++ (Nest m ∷ [])) × (m < 0 + length q)) ⊎ (Fit v × (full zero_state 0 (q ++ bs) ≡ full v (0 + length q) bs))
          → ((told : List ReadEvent) × (m : ℕ) × (parse s ≡ told ++ (Nest m ∷ [])) × (m < length q)) ⊎ (Fit v × (parse s ≡ full v (length q) bs))
      by (inl y) = inl (y.0, y.1, parsed ∙ y.2, omega (arith, y.3))
      by (inr y) = inr (y.0, parsed ∙ y.1 ∙ ap (λ (n : ℕ). full v n bs) (omega arith))

  nested : (es : List ReadEvent) (m : ℕ) → parse s ≡ es ++ (Nest m ∷ []) → TooDeep s m
  nested es m i = nest_is s h m (unfold Ends in (es, i))

  pub wrong_spoken : (n : ℕ) (r : WrongAt s n) → Shallow s → Spoken s r.before
  unfolding Shallow
  wrong_spoken n r shallow = by (through r.before (r.byte ∷ r.behind) u r.is e)
    where
      u : State
      u = (viable_through r.before r.alive).0

      e : steps zero_state r.before ≡ some u
      e = (viable_through r.before r.alive).1

      step_on : (t : State) → step u r.byte ≡ some t → steps zero_state (r.before ++ (r.byte ∷ [])) ≡ some t
      step_on t f = steps_then r.before (r.byte ∷ []) zero_state u e ∙ (unfold steps chain in rw f)

      stuck : (o : Option State) → step u r.byte ≡ o → o ≡ none
      stuck none f = refl
      stuck (some t) f = absurd (r.dead (through_viable (r.before ++ (r.byte ∷ [])) t (step_on t f)))

      by : ((told : List ReadEvent) × (m : ℕ) × (parse s ≡ told ++ (Nest m ∷ [])) × (m < length r.before)) ⊎ (Fit u × (parse s ≡ full u (length r.before) (r.byte ∷ r.behind))) → Spoken s r.before
      by (inl y) = absurd (shallow y.1 (nested y.0 y.1 y.2))
      by (inr y) =
          record { told = told u; last = Miss (refusal u (length r.before) r.byte r.behind); tells = has_told r.before u e; is = y.1 ∙ (unfold full in rw (stuck (step u r.byte) refl) (unfold onward in refl)); final = unfold Final in tt }

  pub ends_spoken : Viable s → ¬ Spelled s → Shallow s → Spoken s s
  unfolding Shallow Spelled Told
  ends_spoken v unspelled shallow = by (through s [] u (sym (append-nil s)) e)
    where
      u : State
      u = (viable_through s v).0

      e : steps zero_state s ≡ some u
      e = (viable_through s v).1

      unended : (o : Option Line) → Told (sofar u) o → o ≡ none
      unended none g = refl
      unended (some t) g = absurd (unspelled (t, g ∙ reached s u e))

      by : ((told : List ReadEvent) × (m : ℕ) × (parse s ≡ told ++ (Nest m ∷ [])) × (m < length s)) ⊎ (Fit u × (parse s ≡ full u (length s) [])) → Spoken s s
      by (inl y) = absurd (shallow y.1 (nested y.0 y.1 y.2))
      by (inr y) =
          record { told = told u; last = Miss missing.EndOfLine; tells = has_told s u e; is = y.1 ∙ (unfold full in rw (unended (ending u) (ending_ok u)) (unfold halt in refl)); final = unfold Final in tt }

  pub deep_spoken : (n : ℕ) (d : TooDeep s n) → FirstDeep s n → Spoken s d.before
  unfolding FirstDeep
  deep_spoken n d first = by (through d.before (d.byte ∷ d.behind) u d.is e)
    where
      v : (u : State) × (steps zero_state d.before ≡ some u)
      v = viable_through d.before (viable_cut d.before (d.byte ∷ []) d.alive)

      u : State
      u = v.0

      e : steps zero_state d.before ≡ some u
      e = v.1

      no : (t : State) → step u d.byte ≡ some t → ¬ Fit t
      no t f g =
          let w : (x : Line) × (y : List ℕ) × (spell x ≡ sofar t ++ y) × Fits branch_limit x = unfold Fitting in fitting t g in
          let o : steps zero_state (d.before ++ (d.byte ∷ [])) ≡ some t = steps_then d.before (d.byte ∷ []) zero_state u e ∙ (unfold steps chain in rw f) in
          d.deep w.0 w.1 (w.2 ∙ ap (λ (x : List ℕ). x ++ w.1) (reached (d.before ++ (d.byte ∷ [])) t o) ∙ append_assoc d.before (d.byte ∷ []) w.1) w.3

      by : ((told : List ReadEvent) × (m : ℕ) × (parse s ≡ told ++ (Nest m ∷ [])) × (m < length d.before)) ⊎ (Fit u × (parse s ≡ full u (length d.before) (d.byte ∷ d.behind))) → Spoken s d.before
      by (inl y) = absurd (omega (arith, first y.1 (nested y.0 y.1 y.2), y.3, d.place))
      by (inr y) = go (step u d.byte) refl (y.1 ∙ (unfold full in refl))
        where
          go : (o : Option State) → step u d.byte ≡ o
              → parse s ≡ onward (step u d.byte) (told u ++ (Miss (refusal u (length d.before) d.byte d.behind) ∷ [])) (told u ++ (Nest (length d.before) ∷ [])) (λ t. full t (length d.before + 1) d.behind) → Spoken s d.before
          go none f i = record { told = told u; last = Miss (refusal u (length d.before) d.byte d.behind); tells = has_told d.before u e; is = i ∙ rw f (unfold onward in refl); final = unfold Final in tt }
          go (some t) f i = deeper (deep t) refl
            where
              deeper : (x : Bool) → deep t ≡ x → Spoken s d.before
              deeper true g = record { told = told u; last = Nest (length d.before); tells = has_told d.before u e; is = i ∙ rw f (unfold onward in rw g); final = unfold Final in tt }
              deeper false g = absurd (no t f (fit_next u t d.byte f g y.0))

  pub at_spoken : (n : ℕ) (upto : List ℕ) → MissesAt s n upto → Shallow s → Spoken s upto
  at_spoken n _ (wrong_here r l) f = wrong_spoken n r f
  at_spoken n _ (wrong_late m r l i) f = wrong_spoken m r f

  pub more_spoken : (upto : List ℕ) → MissesMore s upto → Shallow s → Spoken s upto
  more_spoken _ (ends_here v unspelled) f = ends_spoken v unspelled f
  more_spoken _ (ends_late m r l i) f = wrong_spoken m r f
