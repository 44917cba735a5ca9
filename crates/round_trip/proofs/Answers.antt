-- Rereading a written line, whatever room is lent: held beside a reading into room for all of it, which refuses nothing but a
-- branch too many. Assumes nothing.
use Prim.Native.Nat.{ℕ, ◌/◌, max}
use mathlib.Core.Path.{◌≡◌, refl, sym, ap, ◌∙◌, subst}
use mathlib.Core.Logic.{◌≢◌}
use mathlib.Core.List.{List}
use native.Mathlib.Omega.{arith}
use lib.ListN.{length, take}
use lib.Dec.{ltb}
use borrow.Author.Tests.{eq-eqb, ne_eqb, ltb-true}
use Rattle.table.specs.Records.{atom_words, bond_words}
use Rattle.table.specs.Limits.{text_limit, atom_limit, bond_limit, lesser_of}
use Rattle.desk_numbers.specs.Numbers.{atom_room, bond_room, nesting}
use Rattle.read_line.specs.Parse.{parse}
use Rattle.std.specs.Prelude.{Ok}
use Rattle.read.specs.Read.{graph_size}
use Rattle.builder.specs.declared.build.BuildError.TheVariants as built
use Rattle.builder_meaning.specs.Sketch.{Sketch, start_s, run_s, sketch_of, finish_s, next_number, count_of}
use Rattle.read.specs.declared.ReadError.TheVariants as answer
use Rattle.read.specs.Read.{Said, read_refusal, built_answer}
use Rattle.read.specs.Line as read
use Rattle.write.specs.Write.{graph_of, walk_events, line_said, write_leaves, write_of}
use Rattle.read_line.specs.Events.{has_nest}
use Rattle.read_line.specs.Steps.{unplaced}
use Rattle.feature.proofs.Cases.{by_test}
use Rattle.trip_graph.proofs.Lists.{by_bool}
use Rattle.trip_graph.proofs.Written.{done_simple}
use Rattle.trip_graph.proofs.ComesBack.{events_come_back}
use Rattle.round_trip.specs.RoundTrip.{Plain}
use Rattle.round_trip.specs.Answers.{Reread, whole, long, few_atoms, few_bonds, deep}
use Rattle.round_trip.proofs.Wider.{Kept, kept, few_places, few_slots, run_wide}
use Rattle.round_trip.proofs.Law.{line_is, line_says}
use Rattle.round_trip.proofs.Deep.{deep_refused}

done_is : (d : Sketch) (n m la lb : ℕ) → d.refusal ≡ 0 → finish_s d ≡ Ok tt → next_number d ≡ n → count_of d.nodes ≡ m → (read.whole_or_refused d la lb).answer ≡ Ok (graph_size n m)
unfolding read.whole_or_refused read.whole_of built_answer
done_is d n m la lb r f a b = rw (eq-eqb d.refusal 0 r, f, a, b)

refused_is : (d : Sketch) (r la lb : ℕ) → d.refusal ≡ r → r ≢ 0 → (read.whole_or_refused d la lb).answer ≡ read_refusal r d.carried
unfolding read.whole_or_refused
refused_is d r la lb e ne = rw (ne_eqb d.refusal 0 (λ z. ne (sym e ∙ z)), e)

module _ (room : ℕ) (atoms : List ℕ) (n : ℕ) (bonds : List ℕ) (m len : ℕ) (out : List ℕ)
    (P : Plain (graph_of n atoms bonds)) (e : write_of room atoms n bonds m ≡ write_leaves (Ok len) out) (la lb : ℕ) where
  abbrev line : List ℕ
  line = take len out

  abbrev places : ℕ
  places = lesser_of atom_limit (la / atom_words)

  abbrev slots : ℕ
  slots = lesser_of bond_limit (lb / bond_words)

  abbrev p : ℕ
  p = max places n

  abbrev l : ℕ
  l = max slots m

  -- a builder beside one with room for all
  kept_answers : (d : Sketch) → Kept places slots p l d (run_s (start_s p l) (parse line)) → Reread line n m la lb (read.whole_or_refused d la lb).answer
  unfolding finish_s next_number read_refusal
  kept_answers d (kept w hp hl) =
      let said : line ≡ line_said (walk_events atoms n bonds m) = line_is room atoms n bonds m len out e in
      by_bool (has_nest (parse line))
      (λ q. subst (Reread line n m la lb)
      (sym (refused_is d nesting la lb (sym (ap (λ (x : Sketch). x.refusal) w) ∙ deep_refused room atoms n bonds m len out P e q p l (omega arith) (omega arith)) (λ y. omega arith)))
      (deep d.carried q))
      (λ q. let c = events_come_back room atoms n bonds m len out (done_simple room atoms n bonds m len out P.some e) P.marks e p l (omega arith) (omega arith) (parse line)
      (ap (λ (x : List ℕ). unplaced (parse x)) said ∙ line_says room atoms n bonds m len out P e (ap (λ (x : List ℕ). has_nest (parse x)) (sym said) ∙ q)) in
      subst (Reread line n m la lb)
      (sym (done_is d n m la lb (sym (ap (λ (x : Sketch). x.refusal) w) ∙ c.built.refusal) (sym (ap finish_s w) ∙ c.built.says) (sym (ap next_number w) ∙ c.atoms) (sym (ap (λ (x : Sketch). count_of x.nodes) w) ∙ c.entries)))
      whole)
  kept_answers d (few_places r h) =
      subst (Reread line n m la lb) (sym (refused_is d atom_room la lb r (λ y. omega arith))) (few_atoms d.carried (omega arith))
  kept_answers d (few_slots r h) =
      subst (Reread line n m la lb) (sym (refused_is d bond_room la lb r (λ y. omega arith))) (few_bonds d.carried (omega arith))

  pub turns_reread : Reread line n m la lb (read.read_text line la lb).answer
  unfolding read.read_text sketch_of
  turns_reread =
      by_test (λ (x : Said). Reread line n m la lb x.answer) (ltb text_limit (length line)) (λ q. long (ltb-true text_limit (length line) q))
      (λ q. kept_answers (run_s (start_s places slots) (parse line))
      (run_wide places slots p l (omega arith) (omega arith) (parse line) (start_s places slots) refl refl))
