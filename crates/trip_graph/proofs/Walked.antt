-- What the write call and the walk order answer says of the bonds of the graph that was handed in, whatever the tables.
use mathlib.Core.Path.{◌≡◌, refl, sym, ap, ◌∙◌, subst}
use mathlib.Core.List.{List}
use mathlib.Core.Bool.{false}
use Prim.Native.Nat.{ℕ, ◌≤◌}
use native.Mathlib.Omega.{arith}
use lib.ListN.{length}
use lib.Dec.{ltb}
use Rattle.table.specs.Limits.{atom_limit}
use Rattle.table.specs.Zeros.{zeros}
use Rattle.table_check.specs.Judge.{bad_record}
use Rattle.walk_entry.specs.Graph.{Graph}
use Rattle.walk.specs.declared.walker.Walker.{Walker}
use Rattle.walk.specs.Walk.{turns_of}
use Rattle.walk_laws.specs.Trek.{Room, degrees}
use Rattle.walk_laws.proofs.Judged.{judged_degrees}
use Rattle.std.specs.Prelude.{Err, None, Option, Result, Some}
use Rattle.write.specs.declared.answer.WriteError.{WriteError}
use Rattle.write.specs.Write.{pair_words, graph_of, walk_in, walk_of, walk_events, line_said, atom_places, bond_slots, WriteLeft, put_line, line_concluded, graph_written, write_of}
use Rattle.write.specs.Order as made
use Rattle.write.specs.Plain.{write_plain, order_plain}
use Rattle.write.proofs.Said.{few_atoms_lem}
use Rattle.write.proofs.Lengths.{same_end, has_room}
use Rattle.write.proofs.Plain.{write_plain_lem, order_plain_lem}
use Rattle.feature.proofs.Cases.{by_test, by_either, clash, impossible}
use Rattle.walk_entry.specs.declared.WalkError.{WalkError}
use Rattle.walk_entry.specs.declared.WalkError.TheVariants.{UnknownTarget, Loop, HalfBond, DuplicateBond, IncompatibleBond, Inversion, RingNumbers}
use Rattle.write.specs.declared.answer.WriteError.TheVariants.{Stopped}
use Rattle.write.proofs.Unless.{by_unless}
use Rattle.trip_graph.specs.Renumber.{Known}
use Rattle.trip_graph.specs.Walked.{is_walked, blames_bond, SaysBonds}
use Rattle.trip_graph.proofs.Refusals.{Only, none, unknown, numbers, mark, only_refusals}
use Rattle.trip_graph.proofs.Fair.{written_simple, written_known}

-- ---- the refusals of a walk
-- none of them says that it came to its end
stop_unwalked : (why : WalkError) → is_walked (Err (Stopped why)) ≡ false
unfolding is_walked
stop_unwalked (UnknownTarget a b) = refl
stop_unwalked (Loop a) = refl
stop_unwalked (HalfBond a b) = refl
stop_unwalked (DuplicateBond a b) = refl
stop_unwalked (IncompatibleBond a b) = refl
stop_unwalked (Inversion a) = refl
stop_unwalked (RingNumbers a b) = refl

-- over a simple graph whose targets are atoms none of them is for a bond
refusal_fair : (g : Graph) (r : Option WalkError) (why : WalkError) → Known g → r ≡ Some why → Only g r → blames_bond (Err (Stopped why)) ≡ false
unfolding blames_bond
refusal_fair g r why K q (none e) = absurd (let y : Some why ≡ None = sym q ∙ e in impossible cc)
refusal_fair g r why K q (unknown a i e h l f) = absurd (omega (arith, f, K a i h l))
refusal_fair g r why K q (numbers s t e) =
    let y : Some why ≡ Some (RingNumbers s t) = sym q ∙ e in
    let z : why ≡ RingNumbers s t = cc in
    rw z refl
refusal_fair g r why K q (mark t e h f) =
    let y : Some why ≡ Some (Inversion t) = sym q ∙ e in
    let z : why ≡ Inversion t = cc in
    rw z refl

-- ---- the write call
module _ (atoms : List ℕ) (n : ℕ) (bonds : List ℕ) (m : ℕ) where
  abbrev g : Graph
  g = graph_of n atoms bonds

  module _ (few : n ≤ atom_limit) where
    walk_room : Room g atom_limit atom_limit atom_limit
    walk_room = record { met = few; back = few; taken = few }

    module _ (good : bad_record atoms n bonds m ≡ None) where
      entries : degrees g n ≤ m
      entries = omega (arith, judged_degrees n m atoms bonds g.first good)

      walked_says : (x : Result ℕ WriteError) → (walk_of atoms n bonds m).at.refusal ≡ None → blames_bond x ≡ false → SaysBonds g x
      unfolding walk_in
      walked_says x e f =
          record {
            simple = λ some w. written_simple g atom_limit atom_limit atom_limit atom_limit (zeros pair_words) walk_room few m entries some e;
            known = λ w. written_known g atom_limit atom_limit atom_limit atom_limit (zeros pair_words) walk_room few m entries e;
            fair = λ W K. f;
          }

    refused_says : (why : WalkError) → (walk_of atoms n bonds m).at.refusal ≡ Some why → SaysBonds g (Err (Stopped why))
    unfolding walk_in
    refused_says why q =
        record {
          simple = λ some w. clash w (stop_unwalked why);
          known = λ w. clash w (stop_unwalked why);
          fair = λ W K. refusal_fair g (walk_of atoms n bonds m).at.refusal why K q (only_refusals g W atom_limit atom_limit atom_limit atom_limit (zeros pair_words) walk_room (turns_of n m));
        }

  -- an answer that says nothing of a walk
  silent : (x : Result ℕ WriteError) → is_walked x ≡ false → blames_bond x ≡ false → SaysBonds g x
  silent x u f = record { simple = λ some w. clash w u; known = λ w. clash w u; fair = λ W K. f }

  turns_says : (room : ℕ) → SaysBonds g (write_of room atoms n bonds m).answer
  unfolding write_of graph_written line_concluded put_line is_walked blames_bond
  turns_says room =
      by_test S (ltb (atom_places atoms) n) (λ q. silent _ refl refl)
      (λ q1. by_test S (ltb (bond_slots bonds) m) (λ q. silent _ refl refl)
      (λ q2. by_unless S (bad_record atoms n bonds m) (λ bad q. silent _ refl refl)
      (λ good. let few : n ≤ atom_limit = few_atoms_lem atoms n q1 in
      by_unless S (walk_of atoms n bonds m).at.refusal (refused_says few)
      (λ q4. by_either S (ltb room (length (line_said (walk_events atoms n bonds m)))) (walked_says few good _ q4 refl) (walked_says few good _ q4 refl)))))
    where
      S : WriteLeft → Type 0
      S x = SaysBonds g x.answer

  -- What the write call promises says of the graph's bonds what they are.
  pub write_says : (room : ℕ) → SaysBonds g (write_plain room atoms n bonds m).answer
  write_says room =
      subst (λ (x : WriteLeft). SaysBonds g x.answer) (write_plain_lem atoms n bonds m room) (turns_says room)

  -- ---- the walk order
  turns_order_says : (lw ln lb : ℕ) → SaysBonds g (made.order_of lw ln lb atoms n bonds m).answer
  unfolding made.order_of made.graph_ordered made.order_concluded is_walked blames_bond
  turns_order_says lw ln lb =
      by_test S (ltb (made.order_room lw ln lb atoms) n) (λ q. silent _ refl refl)
      (λ q1. by_test S (ltb (bond_slots bonds) m) (λ q. silent _ refl refl)
      (λ q2. by_unless S (bad_record atoms n bonds m) (λ bad q. silent _ refl refl)
      (λ good. let r = has_room lw ln lb n atoms q1 in
      let e : (walk_in ln lw lb atoms n bonds m).at ≡ (walk_of atoms n bonds m).at = same_end atoms n bonds m r.few ln lw lb r.number r.walked r.back in
      by_unless S (walk_in ln lw lb atoms n bonds m).at.refusal (λ why q4. refused_says r.few why (ap (λ (z : Walker). z.refusal) (sym e) ∙ q4))
      (λ q4. walked_says r.few good _ (ap (λ (z : Walker). z.refusal) (sym e) ∙ q4) refl))))
    where
      S : made.Order → Type 0
      S x = SaysBonds g x.answer

  pub order_says : (lw ln lb : ℕ) → SaysBonds g (order_plain lw ln lb atoms n bonds m).answer
  order_says lw ln lb =
      subst (λ (x : made.Order). SaysBonds g x.answer) (order_plain_lem atoms n bonds m lw ln lb) (turns_order_says lw ln lb)
