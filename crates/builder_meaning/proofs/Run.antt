-- A run of events keeps tables and sketch the same, from the start on. Assumes nothing.
use Prim.Native.Nat.{ℕ, ◌<◌}
use Rattle.std.specs.Prelude.{is_some}
use mathlib.Core.Path.{◌≡◌, refl, ◌∙◌, ap, sym, subst}
use mathlib.Core.List.{List, [], ◌∷◌}
use mathlib.Core.Bool.{Bool, true}
use native.Mathlib.Omega.{arith}
use lib.ListN.{get_or}
use lib.Dec.{eqb}
use Rattle.feature.specs.Pick.{pick}
use Rattle.feature.specs.Kinds.{invert_of}
use Rattle.feature.specs.declared.atom_kind.AtomKind.{AtomKind}
use Rattle.std.specs.Prelude as std
use Rattle.std.specs.Prelude.{Option, Some}
use Rattle.feature.specs.declared.bond_kind.BondKind.{BondKind}
use Rattle.desk_numbers.specs.Numbers.{inversion, end_of_line, character, nesting}
use Rattle.feature.proofs.Cases.{impossible}
use Rattle.read_token.specs.declared.scanner.Missing.{Missing}
use Rattle.read_token.specs.declared.scanner.Missing.TheVariants.{EndOfLine, Character}
use Rattle.table.specs.Limits.{ring_number_count}
use Rattle.builder.specs.State.{Bld, bld, fresh_builder, refuse, join_of}
use Rattle.read_line.specs.declared.lead.Lead.{Lead}
use Rattle.read_line.specs.declared.lead.Lead.TheVariants.{Dot, Bond}
use Rattle.read_line.specs.Events.{ReadEvent, Enter, Join, Pop, Miss, Nest, on, counted_st, mark_judged, unstored_of, led_of, enter_of, ring_of, missing_st, step, run}
use Rattle.builder_meaning.specs.Sketch.{Failure, None, Failed, Sketch, start_s, atom_passed, next_number, count_of, bonds_to, lookup, judged_s, enter_s, number_s, missed_s, step_s, run_s}
use Rattle.builder_meaning.proofs.Rows.{edges_of, flat, nodes_of}
use Rattle.builder_meaning.proofs.Same.{lastly, has_failed, failure_in, Room, Same}
use Rattle.builder_meaning.proofs.Steps.{both_ways, number_is, same_refuse, same_pop, same_root, same_extend}
use Rattle.builder_meaning.proofs.Joins.{same_join}

-- a ring number is below a hundred
abbrev pub Ok : ReadEvent → Type 0
Ok (Enter l k place) = Unit {0}
Ok (Join e n place) = n < ring_number_count
Ok (Pop n) = Unit {0}
Ok (Miss m) = Unit {0}
Ok (Nest place) = Unit {0}

abbrev pub AllOk : List ReadEvent → Type 0
AllOk [] = Unit {0}
AllOk (e ∷ es) = Ok e × AllOk es

fails : (f : Failure) → is_some (failure_in f) ≡ has_failed f
unfolding failure_in has_failed
fails None = refl
fails (Failed x y) = refl

module _ (b : Bld) (d : Sketch) (same : Same b d) where
  -- what has failed, at a known failure
  failed_is : (f : Failure) → d.failure ≡ f → is_some b.st.failed ≡ has_failed f
  failed_is f e = ap is_some (same.state.failed ∙ ap failure_in e) ∙ fails f

  -- after a failure an atom is only counted
  module _ (x y : ℕ) (broke : d.failure ≡ Failed x y) where
    same_passed : Same (on b (counted_st b.st)) (atom_passed d)
    unfolding has_failed
    same_passed =
        let s = same.state in
        record {
          kinds = same.kinds;
          rows = same.rows;
          state = record {
            refusal = s.refusal;
            carried = s.carried;
            places = s.places;
            slots = s.slots;
            entries = s.entries;
            joins = s.joins;
            failed = s.failed;
            fits = s.fits;
            holds = s.holds;
            atoms = omega (arith, s.atoms);
            seen = λ e. absurd (let q : has_failed d.failure ≡ true = ap has_failed broke in impossible cc);
          };
          atoms = same.atoms;
          entries = same.entries;
          way = same.way;
          rings = same.rings;
          twins = same.twins;
          room = same.room;
        }

    same_judged : (t : Option AtomKind) → Same (on b (mark_judged b.st t)) (judged_s d t)
    unfolding mark_judged judged_s refuse
    same_judged std.None = same_refuse b d same inversion b.st.atoms (next_number d) (number_is b d same)
    same_judged (Some k) = same_passed

    same_numb : (l : Lead) (k : AtomKind) (place : ℕ) → Same (on b (unstored_of b.st l k)) (enter_s d l k place (Failed x y))
    unfolding unstored_of enter_s
    same_numb Dot k place = same_passed
    same_numb (Bond e) k place = same_judged (invert_of k)

  -- before one
  same_led : d.failure ≡ None → (l : Lead) (k : AtomKind) (place : ℕ) → Same (led_of b l k place) (enter_s d l k place None)
  unfolding led_of enter_s has_failed
  same_led going Dot k place = same_root b d same (same.state.seen (ap has_failed going)) k place
  same_led going (Bond e) k place = same_extend b d same (same.state.seen (ap has_failed going)) e k place d.path refl

  same_enter : (l : Lead) (k : AtomKind) (place : ℕ) (f : Failure) → d.failure ≡ f → Same (enter_of b l k place) (enter_s d l k place f)
  unfolding enter_of has_failed
  same_enter l k place None e =
      subst (λ (t : Bool). Same (pick t (on b (unstored_of b.st l k)) (led_of b l k place)) (enter_s d l k place None)) (sym (failed_is None e))
      (same_led e l k place)
  same_enter l k place (Failed x y) e =
      subst (λ (t : Bool). Same (pick t (on b (unstored_of b.st l k)) (led_of b l k place)) (enter_s d l k place (Failed x y))) (sym (failed_is (Failed x y) e))
      (same_numb x y e l k place)

  same_number : (e : BondKind) (n place : ℕ) (f : Failure) → n < ring_number_count → d.failure ≡ f → Same (ring_of b e n place) (number_s d e n place f)
  unfolding ring_of number_s has_failed
  same_number e n place None low q =
      subst (λ (t : Bool). Same (pick t b (join_of b e n place)) (number_s d e n place None)) (sym (failed_is None q))
      (same_join b d same (same.state.seen (ap has_failed q)) e n place d.path low refl)
  same_number e n place (Failed x y) low q =
      subst (λ (t : Bool). Same (pick t b (join_of b e n place)) (number_s d e n place (Failed x y))) (sym (failed_is (Failed x y) q)) same

  same_missed : (m : Missing) → Same (on b (missing_st b.st m)) (missed_s d m)
  unfolding missing_st missed_s refuse
  same_missed EndOfLine = same_refuse b d same end_of_line 0 0 refl
  same_missed (Character place) = same_refuse b d same character place place refl

  -- an event
  pub same_step : (e : ReadEvent) → Ok e → Same (step b e) (step_s d e)
  unfolding step step_s refuse
  same_step (Enter l k place) ok = same_enter l k place d.failure refl
  same_step (Join e n place) ok = same_number e n place d.failure ok refl
  same_step (Pop n) ok = same_pop b d same n
  same_step (Miss m) ok = same_missed m
  same_step (Nest place) ok = same_refuse b d same nesting place place refl

-- the events in order, up to the first refusal
pub same_run : (b : Bld) (d : Sketch) (es : List ReadEvent) → Same b d → AllOk es → Same (run b es) (run_s d es)
unfolding run run_s
same_run b d [] same ok = same
same_run b d (e ∷ es) same ok =
    both_ways Same (eqb b.st.refusal 0) (eqb d.refusal 0) (ap (λ (r : ℕ). eqb r 0) same.state.refusal)
    (λ t. same_run (step b e) (step_s d e) es (same_step b d same e ok.0) ok.1)
    (λ t. same)

-- tables with room, the atoms and the ring numbers all zeros
pub same_start : (places slots : ℕ) (a e p r : List ℕ) → Room places slots a e p r → ((i : ℕ) → get_or a i 0 ≡ 0) → ((n : ℕ) → n < ring_number_count → get_or r n 0 ≡ 0) → Same (bld a e p r (fresh_builder places slots)) (start_s places slots)
unfolding nodes_of edges_of flat count_of bonds_to lookup lastly has_failed failure_in
same_start places slots a e p r room blank free =
    record {
      kinds = [];
      rows = [];
      state = record {
        refusal = refl;
        carried = refl;
        places = refl;
        slots = refl;
        atoms = refl;
        entries = refl;
        joins = refl;
        failed = refl;
        seen = λ q. refl;
        fits = omega arith;
        holds = omega arith;
      };
      atoms = record { first = λ i h. absurd (omega arith); second = λ i h. absurd (omega arith); past = λ i h. blank i };
      entries = record { nodes = refl; count = refl; words = refl; sources = λ q h. absurd (omega arith); ends = λ q x h z. absurd (omega arith) };
      way = record { is = refl; below = λ i h. absurd (omega arith); short = omega arith };
      rings = record {
        each = λ n h. free n h;
        apart = λ m n h l nz q. absurd (nz (free m h));
        once = λ q m i h l x y. absurd (omega arith);
        older = λ q i h x. absurd (omega arith);
      };
      twins = record { ends = λ x y k. refl; even = λ x k own. refl };
      room = room;
    }
