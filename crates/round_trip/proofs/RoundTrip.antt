-- The round trip over what the public calls promise: the write call's line, the walk order's numbers and the read call's tables.
-- Each law is that of the walk by turns, carried over by `write_plain_lem` and `order_plain_lem`. Assumes nothing.
use Prim.Native.Nat.{ℕ, ◌*◌, ◌/◌, ◌≤◌}
use mathlib.Core.Path.{◌≡◌, sym, ap, ◌∙◌, subst}
use mathlib.Core.List.{List}
use mathlib.Core.Bool.{true, false}
use native.Mathlib.Omega.{arith}
use lib.ListN.{length, take}
use Rattle.table.specs.Records.{atom_words, bond_words}
use Rattle.table.specs.Limits.{text_limit, atom_limit, bond_limit, lesser_of}
use Rattle.read_line.specs.Parse.{parse}
use Rattle.std.specs.Prelude.{Err}
use Rattle.read.specs.declared.ReadError.TheVariants as answer
use Rattle.read.specs.Line.{read_text}
use Rattle.std.specs.Prelude.{Ok}
use Rattle.write.specs.Write.{graph_of, walk_of, write_leaves, write_of}
use Rattle.write.specs.Order.{Order}
use Rattle.write.specs.Plain.{write_plain, order_plain}
use Rattle.write.proofs.Plain.{write_plain_lem, order_plain_lem}
use Rattle.trip_graph.specs.Renumbered.{Numbers, by_walk, renumbered}
use Rattle.round_trip.specs.RoundTrip.{Plain, Readable, read_as, by_order, back_of, RoundTrip, OneLine, Same}
use Rattle.round_trip.specs.Answers.{Reread, blames_ring}
use Rattle.round_trip.specs.ByOrder.{Lent, TripByOrder}
use Rattle.round_trip.specs.Steps.{back_by_turns}
use Rattle.round_trip.proofs.Law.{turns_trip, turns_trip_wide, turns_same, turns_one_line, turns_one_count}
use Rattle.round_trip.proofs.ByOrder.{order_done, order_numbers}
use Rattle.round_trip.proofs.Deep.{turns_too_deep, turns_trip_answer}
use Rattle.round_trip.proofs.Answers.{turns_reread}
use Rattle.round_trip.proofs.AnyKinds.{turns_never_rings}
use Rattle.read_line.specs.Events.{has_nest}

-- ---- from turns to promises
module _ (room : ℕ) (atoms : List ℕ) (n : ℕ) (bonds : List ℕ) (m len : ℕ) (out : List ℕ) (e : write_plain room atoms n bonds m ≡ write_leaves (Ok len) out) where
  pub by_turns : write_of room atoms n bonds m ≡ write_leaves (Ok len) out
  by_turns = write_plain_lem atoms n bonds m room ∙ e

  -- the numbers of the walk are those of a walk order into any tables with room
  numbers_same : (lw ln lb : ℕ) → Lent n lw ln lb → by_walk (walk_of atoms n bonds m) ≡ by_order (order_plain lw ln lb atoms n bonds m)
  numbers_same lw ln lb r =
      order_numbers room atoms n bonds m len out lw ln lb by_turns r ∙ ap by_order (order_plain_lem atoms n bonds m lw ln lb)

  just : Lent n n n n
  just = record { walked = omega arith; number = omega arith; back = omega arith }

  back_same : back_by_turns atoms n bonds m ≡ back_of atoms n bonds m
  back_same = ap (renumbered (graph_of n atoms bonds)) (numbers_same n n n just)

-- ---- the laws
-- The round trip: what the reading says and both tables that it leaves, whole.
pub round_trip : (room : ℕ) (atoms : List ℕ) (n : ℕ) (bonds : List ℕ) (m len : ℕ) (out : List ℕ) (la lb : ℕ) → RoundTrip room atoms n bonds m len out la lb
round_trip room atoms n bonds m len out la lb P e r =
    turns_trip room atoms n bonds m len out la lb P (by_turns room atoms n bonds m len out e) r
    ∙ ap (read_as n m la lb) (back_same room atoms n bonds m len out e)

-- With room lent for the largest job, whatever was written, only the line's length and its branches are asked for.
pub round_trip_wide : (room : ℕ) (atoms : List ℕ) (n : ℕ) (bonds : List ℕ) (m len : ℕ) (out : List ℕ)
    → Plain (graph_of n atoms bonds) → write_plain room atoms n bonds m ≡ write_leaves (Ok len) out
    → length (take len out) ≤ text_limit → has_nest (parse (take len out)) ≡ false
    → read_text (take len out) (atom_limit * atom_words) (bond_limit * bond_words) ≡ read_as n m (atom_limit * atom_words) (bond_limit * bond_words) (back_of atoms n bonds m)
round_trip_wide room atoms n bonds m len out P e short shallow =
    turns_trip_wide room atoms n bonds m len out P (by_turns room atoms n bonds m len out e) short shallow
    ∙ ap (read_as n m (atom_limit * atom_words) (bond_limit * bond_words)) (back_same room atoms n bonds m len out e)

-- A line with a branch too many in it is refused for that, 15, and for nothing else.
pub too_deep : (room : ℕ) (atoms : List ℕ) (n : ℕ) (bonds : List ℕ) (m len : ℕ) (out : List ℕ) (la lb : ℕ)
    → Plain (graph_of n atoms bonds) → write_plain room atoms n bonds m ≡ write_leaves (Ok len) out
    → length (take len out) ≤ text_limit → has_nest (parse (take len out)) ≡ true → n ≤ lesser_of atom_limit (la / atom_words) → m ≤ lesser_of bond_limit (lb / bond_words)
    → (p : ℕ) × ((read_text (take len out) la lb).answer ≡ Err (answer.Nesting p))
too_deep room atoms n bonds m len out la lb P e =
    turns_too_deep room atoms n bonds m len out la lb P (by_turns room atoms n bonds m len out e)

-- So the round trip can be asked of the answer: a line that is not too long, with room lent for its atoms and entries, is read
-- back unless the answer is 15.
pub round_trip_answer : (room : ℕ) (atoms : List ℕ) (n : ℕ) (bonds : List ℕ) (m len : ℕ) (out : List ℕ) (la lb : ℕ)
    → Plain (graph_of n atoms bonds) → write_plain room atoms n bonds m ≡ write_leaves (Ok len) out
    → length (take len out) ≤ text_limit → n ≤ lesser_of atom_limit (la / atom_words) → m ≤ lesser_of bond_limit (lb / bond_words)
    → ((p : ℕ) → (read_text (take len out) la lb).answer ≡ Err (answer.Nesting p) → ⊥)
    → read_text (take len out) la lb ≡ read_as n m la lb (back_of atoms n bonds m)
round_trip_answer room atoms n bonds m len out la lb P e short ra rb never =
    turns_trip_answer room atoms n bonds m len out la lb P (by_turns room atoms n bonds m len out e) short ra rb never
    ∙ ap (read_as n m la lb) (back_same room atoms n bonds m len out e)

-- Whatever room is lent, such a line is reread with all its atoms and entries, or refused with 12, 13, 14 or 15, each for its reason.
pub reread_answers : (room : ℕ) (atoms : List ℕ) (n : ℕ) (bonds : List ℕ) (m len : ℕ) (out : List ℕ)
    → Plain (graph_of n atoms bonds) → write_plain room atoms n bonds m ≡ write_leaves (Ok len) out
    → (la lb : ℕ) → Reread (take len out) n m la lb (read_text (take len out) la lb).answer
reread_answers room atoms n bonds m len out P e =
    turns_reread room atoms n bonds m len out P (by_turns room atoms n bonds m len out e)

-- No line that was written, of whatever graph, is answered with 3 or 4: no ring number in it is left open, and the ends of each agree.
pub never_rings : (room : ℕ) (atoms : List ℕ) (n : ℕ) (bonds : List ℕ) (m len : ℕ) (out : List ℕ) → write_plain room atoms n bonds m ≡ write_leaves (Ok len) out
    → (la lb : ℕ) → blames_ring (read_text (take len out) la lb).answer ≡ false
never_rings room atoms n bonds m len out e =
    turns_never_rings room atoms n bonds m len out (by_turns room atoms n bonds m len out e)

-- Two such graphs with the same line have the same renumbering, and so as many atoms and as many entries.
pub one_line : (r1 : ℕ) (a1 : List ℕ) (n1 : ℕ) (b1 : List ℕ) (m1 l1 : ℕ) (o1 : List ℕ) (r2 : ℕ) (a2 : List ℕ) (n2 : ℕ) (b2 : List ℕ) (m2 l2 : ℕ) (o2 : List ℕ)
    → OneLine r1 a1 n1 b1 m1 l1 o1 r2 a2 n2 b2 m2 l2 o2
one_line r1 a1 n1 b1 m1 l1 o1 r2 a2 n2 b2 m2 l2 o2 P1 P2 e1 e2 q flat =
    sym (back_same r1 a1 n1 b1 m1 l1 o1 e1)
    ∙ turns_one_line r1 a1 n1 b1 m1 l1 o1 r2 a2 n2 b2 m2 l2 o2 P1 P2 (by_turns r1 a1 n1 b1 m1 l1 o1 e1) (by_turns r2 a2 n2 b2 m2 l2 o2 e2) q flat
    ∙ back_same r2 a2 n2 b2 m2 l2 o2 e2

pub one_count : (r1 : ℕ) (a1 : List ℕ) (n1 : ℕ) (b1 : List ℕ) (m1 l1 : ℕ) (o1 : List ℕ) (r2 : ℕ) (a2 : List ℕ) (n2 : ℕ) (b2 : List ℕ) (m2 l2 : ℕ) (o2 : List ℕ)
    → Plain (graph_of n1 a1 b1) → Plain (graph_of n2 a2 b2) → write_plain r1 a1 n1 b1 m1 ≡ write_leaves (Ok l1) o1 → write_plain r2 a2 n2 b2 m2 ≡ write_leaves (Ok l2) o2
    → take l1 o1 ≡ take l2 o2 → has_nest (parse (take l1 o1)) ≡ false
    → (n1 ≡ n2) × (m1 ≡ m2)
one_count r1 a1 n1 b1 m1 l1 o1 r2 a2 n2 b2 m2 l2 o2 P1 P2 e1 e2 =
    turns_one_count r1 a1 n1 b1 m1 l1 o1 r2 a2 n2 b2 m2 l2 o2 P1 P2 (by_turns r1 a1 n1 b1 m1 l1 o1 e1) (by_turns r2 a2 n2 b2 m2 l2 o2 e2)

-- ---- by the tables of a walk order, lent with any room
pub trip_by_order : (room : ℕ) (atoms : List ℕ) (n : ℕ) (bonds : List ℕ) (m len : ℕ) (out : List ℕ) (lw ln lb la le : ℕ) → TripByOrder room atoms n bonds m len out lw ln lb la le
trip_by_order room atoms n bonds m len out lw ln lb la le P e r h =
    record {
      ordered = ap (λ (o : Order). o.answer) (sym (order_plain_lem atoms n bonds m lw ln lb)) ∙ order_done room atoms n bonds m len out lw ln lb (by_turns room atoms n bonds m len out e) r;
      read = turns_trip room atoms n bonds m len out la le P (by_turns room atoms n bonds m len out e) h
          ∙ ap (λ (p : Numbers). read_as n m la le (renumbered (graph_of n atoms bonds) p)) (numbers_same room atoms n bonds m len out e lw ln lb r);
    }

-- Looked at as a walk looks at tables, what is read is the graph renumbered by the order.
pub same_by_order : (room : ℕ) (atoms : List ℕ) (n : ℕ) (bonds : List ℕ) (m len : ℕ) (out : List ℕ) (lw ln lb la le : ℕ)
    → Plain (graph_of n atoms bonds) → write_plain room atoms n bonds m ≡ write_leaves (Ok len) out → Lent n lw ln lb → Readable (take len out) n m la le
    → Same (graph_of n atoms bonds) (graph_of n (read_text (take len out) la le).atoms (read_text (take len out) la le).bonds) (by_order (order_plain lw ln lb atoms n bonds m))
same_by_order room atoms n bonds m len out lw ln lb la le P e r h =
    subst (λ (p : Numbers). Same (graph_of n atoms bonds) (graph_of n (read_text (take len out) la le).atoms (read_text (take len out) la le).bonds) p)
    (numbers_same room atoms n bonds m len out e lw ln lb r) (turns_same room atoms n bonds m len out la le P (by_turns room atoms n bonds m len out e) h)

-- Two graphs with the same line, in which no branch is too many: each renumbered by its own walk order is the same graph.
pub one_by_order : (r1 r2 : ℕ) (a1 : List ℕ) (n1 : ℕ) (b1 : List ℕ) (m1 l1 : ℕ) (o1 a2 : List ℕ) (n2 : ℕ) (b2 : List ℕ) (m2 l2 : ℕ) (o2 : List ℕ) (lw1 ln1 lb1 lw2 ln2 lb2 : ℕ)
    → Plain (graph_of n1 a1 b1) → Plain (graph_of n2 a2 b2) → write_plain r1 a1 n1 b1 m1 ≡ write_leaves (Ok l1) o1 → write_plain r2 a2 n2 b2 m2 ≡ write_leaves (Ok l2) o2
    → Lent n1 lw1 ln1 lb1 → Lent n2 lw2 ln2 lb2 → take l1 o1 ≡ take l2 o2 → has_nest (parse (take l1 o1)) ≡ false
    → renumbered (graph_of n1 a1 b1) (by_order (order_plain lw1 ln1 lb1 a1 n1 b1 m1)) ≡ renumbered (graph_of n2 a2 b2) (by_order (order_plain lw2 ln2 lb2 a2 n2 b2 m2))
one_by_order r1 r2 a1 n1 b1 m1 l1 o1 a2 n2 b2 m2 l2 o2 lw1 ln1 lb1 lw2 ln2 lb2 P1 P2 e1 e2 t1 t2 q h =
    ap (renumbered (graph_of n1 a1 b1)) (sym (numbers_same r1 a1 n1 b1 m1 l1 o1 e1 lw1 ln1 lb1 t1))
    ∙ turns_one_line r1 a1 n1 b1 m1 l1 o1 r2 a2 n2 b2 m2 l2 o2 P1 P2 (by_turns r1 a1 n1 b1 m1 l1 o1 e1) (by_turns r2 a2 n2 b2 m2 l2 o2 e2) q h
    ∙ ap (renumbered (graph_of n2 a2 b2)) (numbers_same r2 a2 n2 b2 m2 l2 o2 e2 lw2 ln2 lb2 t2)
