-- The write call and the walk order are what the plain walk makes of them, for whatever is handed in. Assumes nothing.
use Prim.Native.Nat.{ℕ, zero, suc, ◌+◌, ◌-◌, ◌/◌, ◌≤◌, ◌<◌}
use mathlib.Core.Path.{◌≡◌, refl, sym, ap, ap₂, ◌∙◌}
use mathlib.Core.List.{List, append-nil}
use mathlib.Core.Bool.{Bool, true, false}
use native.Mathlib.Omega.{arith}
use lib.ListN.{length, get_or, length-append, length-replicate}
use lib.Seq.{ext_get_or}
use lib.Dec.{ltb}
use Rattle.feature.specs.Pick.{pick}
use Rattle.table.specs.Records.{atom_words}
use Rattle.table.specs.Limits.{atom_limit}
use Rattle.table.specs.Starts.{entry_starts}
use Rattle.table_check.specs.Judge.{bad_record}
use Rattle.writer.specs.Line.{Event}
use Rattle.walk_entry.specs.Graph.{Graph, graph}
use Rattle.walk.specs.declared.walker.Walker.{Walker}
use Rattle.walk.specs.Walk.{Walk, walk_to, events_of, turns_of}
use Rattle.walk_laws.specs.Trek.{fresh, degrees, least_walk, least_said}
use Rattle.walk_laws.specs.Steps.{longer, longer_graph, longer_walk, Lengths, ExactWalk}
use Rattle.walk_laws.specs.Plain.{Outcome, Goes, Refused, number_in}
use Rattle.walk_laws.specs.OneWalk.{trail_of, refusal_in, OneWalk}
use Rattle.walk_laws.proofs.Judged.{judged_few}
use Rattle.walk_laws.proofs.Longer.{least_exact, any_length}
use Rattle.walk_laws.proofs.Plain.{one_walk, all_met}
use Rattle.std.specs.Prelude.{None, Ok}
use Rattle.write.specs.declared.answer.WriteError.TheVariants.{Stopped}
use Rattle.write.proofs.Unless.{same_unless}
use Rattle.table.specs.Zeros.{zeros}
use Rattle.table.proofs.Rooms.{lesser_both}
use Rattle.write.specs.Write.{pair_words, graph_of, walk_in, said_in, line_said, atom_places, bond_slots, put_line, line_concluded, graph_written, write_of}
use Rattle.write.specs.Order as made
use Rattle.write.specs.Plain.{outcome_of, outcome_written, write_plain, numbers_from, outcome_ordered, order_plain}
use Rattle.write.proofs.Tables.{length_lowered}
use Rattle.write.proofs.Lengths.{lowered_longer, look_lowered, has_room}

-- two choices by one test that differ only where it fails
same_but : {A : Type 0} (b : Bool) (x : A) {y z : A} → (b ≡ false → y ≡ z) → pick b x y ≡ pick b x z
same_but true x h = refl
same_but false x h = h refl

-- ---- ends
-- the end of a walk with that outcome
written_by_lem : (room : ℕ) (p : Outcome) (z : Walker) (es : List Event) → es ≡ (trail_of p).said → z.refusal ≡ refusal_in p → line_concluded room z (line_said es) ≡ outcome_written room p
unfolding line_concluded outcome_written
written_by_lem room (Goes s) z es e er = simp er (ap (λ (l : List Event). put_line room (line_said l)) e)
written_by_lem room (Refused why s) z es e er = simp er

-- ---- numbers
length_numbers : (order : List ℕ) (a n : ℕ) → length (numbers_from order a n) ≡ n
unfolding numbers_from
length_numbers order a zero = refl
length_numbers order a (suc n) = ap suc (length_numbers order (a + 1) n)

look_numbers : (order : List ℕ) (a n i : ℕ) → i < n → get_or (numbers_from order a n) i 0 ≡ number_in order (a + i) - 1
unfolding numbers_from
look_numbers order a zero i l = absurd (omega arith)
look_numbers order a (suc n) zero l =
    let z : a + 0 ≡ a = omega arith in
    rw z refl
look_numbers order a (suc n) (suc i) l =
    let z : a + suc i ≡ a + 1 + i = omega arith in
    rw z (look_numbers order (a + 1) n i (omega arith))

lowered_numbers : (n : ℕ) (met order : List ℕ) → length met ≡ n → ((a : ℕ) → get_or met a 0 ≡ number_in order a) → made.lowered met ≡ numbers_from order 0 n
lowered_numbers n met order e h =
    ext_get_or 0 (made.lowered met) (numbers_from order 0 n) (length_lowered met ∙ e ∙ sym (length_numbers order 0 n))
    (λ i l. let z : 0 + i ≡ i = omega arith in
    look_lowered met i ∙ ap (λ (x : ℕ). x - 1) (h i ∙ ap (number_in order) (sym z)) ∙ sym (look_numbers order 0 n i (omega (arith, l, length_lowered met, e))))

module _ (atoms : List ℕ) (n : ℕ) (bonds : List ℕ) (m : ℕ) where
  abbrev g : Graph
  g = graph_of n atoms bonds

  abbrev turns : ℕ
  turns = turns_of n m

  abbrev least : Walk
  least = least_walk g turns (zeros pair_words)

  abbrev outcome : Outcome
  outcome = outcome_of n atoms bonds

  same_graph : longer_graph 0 g ≡ g
  same_graph = ap (λ (x : List ℕ). graph n atoms bonds x) (append-nil _)

  module _ (few : n ≤ atom_limit) (entries : degrees g n ≤ m) where
    one : OneWalk outcome least (least_said g turns (zeros pair_words))
    one = one_walk g (zeros pair_words) m entries

    module _ (lm lw lb : ℕ) (hm : n ≤ lm) (hw : n ≤ lw) (hb : n ≤ lb) where
      long : Lengths g lm lw lb atom_limit
      long = record { met = hm; walked = hw; back = hb; taken = few }

      walk_least : walk_in lm lw lb atoms n bonds m ≡ longer_walk (lm - n) (lw - n) (lb - n) (atom_limit - n) least
      unfolding walk_in
      walk_least =
          ap (λ (h : Graph). walk_to h turns (fresh lm lw lb atom_limit (zeros pair_words))) (sym same_graph)
          ∙ (any_length g turns (zeros pair_words) 0 lm lw lb atom_limit long).left

      said_least : said_in lm lw lb atoms n bonds m ≡ least_said g turns (zeros pair_words)
      unfolding said_in
      said_least =
          ap (λ (h : Graph). events_of h turns (fresh lm lw lb atom_limit (zeros pair_words))) (sym same_graph)
          ∙ (any_length g turns (zeros pair_words) 0 lm lw lb atom_limit long).said

    -- ---- the write call
    graph_plain : (room : ℕ) → graph_written room atoms n bonds m ≡ outcome_written room outcome
    unfolding graph_written
    graph_plain room =
        ap₂ (λ (w : Walk) (es : List Event). line_concluded room w.at (line_said es)) (walk_least atom_limit atom_limit atom_limit few few few) (said_least atom_limit atom_limit atom_limit few few few)
        ∙ written_by_lem room outcome least.at (least_said g turns (zeros pair_words)) one.said one.refusal

    -- ---- the walk order
    module _ (lw ln lb : ℕ) (hw : n ≤ lw) (hn : n ≤ ln) (hb : n ≤ lb) where
      abbrev filled : Walk
      filled = longer_walk (ln - n) (lw - n) (lb - n) (atom_limit - n) least

      long_length : (l : ℕ) (x : List ℕ) → n ≤ l → length x ≡ n → length (longer (l - n) x) ≡ l
      long_length l x h e =
          length-append x (zeros (l - n)) ∙ omega (arith, h, e, length-replicate {A = ℕ} (l - n) 0)

      ordered_by_lem : (p : Outcome) → OneWalk p least (least_said g turns (zeros pair_words)) → (refusal_in p ≡ None → least.walked ≡ (trail_of p).order)
          → made.order_at_end n filled ≡ outcome_ordered lw ln lb n p
      unfolding made.order_concluded outcome_ordered
      ordered_by_lem (Goes s) o all =
          let x : ExactWalk g least = least_exact g turns (zeros pair_words) in
          let a : least.walked ≡ s.order = all refl in
          let b : made.lowered (longer (ln - n) least.met) ≡ longer (ln - n) (numbers_from s.order 0 n) =
          lowered_longer (ln - n) least.met ∙ ap (longer (ln - n)) (lowered_numbers n least.met s.order x.met o.tables.met) in
          simp o.refusal
          (ap (λ (l : List ℕ). made.order (Ok n) (longer (lw - n) l) (made.lowered (longer (ln - n) least.met)) (longer (lb - n) least.back)) a
          ∙ ap (λ (l : List ℕ). made.order (Ok n) (longer (lw - n) s.order) l (longer (lb - n) least.back)) b
          ∙ ap (λ (l : List ℕ). made.order (Ok n) (longer (lw - n) s.order) (longer (ln - n) (numbers_from s.order 0 n)) (longer (lb - n) l)) o.tables.back)
      ordered_by_lem (Refused why s) o all =
          let x : ExactWalk g least = least_exact g turns (zeros pair_words) in
          simp o.refusal
          (ap (λ (k : ℕ). made.order_refusing k (length (longer (ln - n) least.met)) (length (longer (lb - n) least.back)) (Stopped why)) (long_length lw least.walked hw x.walked)
          ∙ ap (λ (k : ℕ). made.order_refusing lw k (length (longer (lb - n) least.back)) (Stopped why)) (long_length ln least.met hn x.met)
          ∙ ap (λ (k : ℕ). made.order_refusing lw ln k (Stopped why)) (long_length lb least.back hb x.back))

      order_graph : made.graph_ordered lw ln lb atoms n bonds m ≡ outcome_ordered lw ln lb n outcome
      unfolding made.graph_ordered
      order_graph =
          ap (made.order_at_end n) (walk_least ln lw lb hn hw hb) ∙ ordered_by_lem outcome one (all_met g (zeros pair_words) m entries)

  -- ---- whole calls
  judged_entries : bad_record atoms n bonds m ≡ None → degrees g n ≤ m
  judged_entries = judged_few n m atoms bonds (entry_starts n atoms (zeros atom_limit))

  -- The write call writes what the plain walk says, or answers what refused it.
  pub write_plain_lem : (room : ℕ) → write_of room atoms n bonds m ≡ write_plain room atoms n bonds m
  unfolding write_of write_plain atom_places
  write_plain_lem room =
      same_but (ltb (atom_places atoms) n) _
      (λ a. same_but (ltb (bond_slots bonds) m) _
      (λ b. same_unless (bad_record atoms n bonds m) _
      (λ c. graph_plain (lesser_both atom_limit (length atoms / atom_words) n a).0 (judged_entries c) room)))

  -- The walk order hands out the plain walk's tables, zeros after them, or answers what refused it.
  pub order_plain_lem : (lw ln lb : ℕ) → made.order_of lw ln lb atoms n bonds m ≡ order_plain lw ln lb atoms n bonds m
  unfolding made.order_of order_plain
  order_plain_lem lw ln lb =
      same_but (ltb (made.order_room lw ln lb atoms) n) _
      (λ a. let r = has_room lw ln lb n atoms a in
      same_but (ltb (bond_slots bonds) m) _
      (λ b. same_unless (bad_record atoms n bonds m) _
      (λ c. order_graph r.few (judged_entries c) lw ln lb r.walked r.number r.back)))
