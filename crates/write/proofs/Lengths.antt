-- The walk order is the write call's walk, whatever lengths were lent; and smaller work tables write the same. Assumes nothing.
use Prim.Native.Nat.{ℕ, zero, suc, ◌-◌, ◌/◌, ◌≤◌}
use mathlib.Core.Path.{◌≡◌, refl, sym, ap, ap₂, ◌∙◌}
use mathlib.Core.List.{List, [], ◌∷◌, ◌++◌}
use mathlib.Core.Bool.{Bool, true, false}
use native.Mathlib.Omega.{arith}
use lib.ListN.{length, get_or, set, length-replicate}
use lib.Seq.{take_at}
use lib.Dec.{ltb}
use borrow.Author.Tests.{le-ltb, ltb-true}
use Rattle.feature.specs.Pick.{pick}
use Rattle.table.specs.Records.{atom_words}
use Rattle.table.specs.Limits.{atom_limit, lesser_of}
use Rattle.table.specs.Starts.{entry_starts, sum_of}
use Rattle.table_check.specs.Judge.{bad_record}
use Rattle.writer.specs.Line.{Event, line_of, write_events}
use Rattle.walk_entry.specs.Graph.{Graph, graph}
use Rattle.walk.specs.declared.walker.Walker.{Walker}
use Rattle.walk.specs.Walk.{Walk, walk_to, events_of, turns_of}
use Rattle.walk_laws.specs.Trek.{Room, fresh, least_walk, least_said}
use Rattle.walk_laws.specs.Steps.{longer, longer_graph, longer_walk, Lengths, ExactWalk}
use Rattle.feature.proofs.Cases.{by_test}
use Rattle.walk_laws.proofs.Accepted.{accepted}
use Rattle.walk_laws.proofs.Longer.{get_d_longer, set_longer, longer_zeros, least_exact, any_length, pieces_alike}
use Rattle.std.specs.Prelude.{None, Ok, Option, Result, Some}
use Rattle.write.specs.declared.answer.WriteError.{WriteError}
use Rattle.write.proofs.Unless.{by_unless}
use Rattle.table.specs.Zeros.{zeros}
use Rattle.table.proofs.EntryStarts.{entry_starts_length}
use Rattle.table.proofs.Rooms.{lesser_both}
use Rattle.write.specs.Write.{pair_words, graph_of, walk_in, walk_of, said_in, walk_events, line_said, unless, atom_places, bond_slots, WriteLeft, put_line, line_concluded, graph_written, write_of}
use Rattle.write.specs.Order as made
use Rattle.write.specs.Steps.{cut_to, Handed, Looks, as_order, graph_in, small_walk, small_said, small_written}
use Rattle.write.proofs.Tables.{length_lowered}

-- ---- the starts
starts_longer : (n : ℕ) (atoms c : List ℕ) (j : ℕ) → n ≤ length c → entry_starts n atoms (longer j c) ≡ longer j (entry_starts n atoms c)
unfolding entry_starts
starts_longer zero atoms c j h = refl
starts_longer (suc n) atoms c j h =
    ap (λ (x : List ℕ). set x n (sum_of n atoms)) (starts_longer n atoms c j (omega (arith, h)))
    ∙ set_longer j (entry_starts n atoms c) n (sum_of n atoms) (omega (arith, h, entry_starts_length n atoms c))

-- ---- numbers lowered
lowered_zeros : (j : ℕ) → made.lowered (zeros j) ≡ zeros j
unfolding made.lowered
lowered_zeros zero = refl
lowered_zeros (suc j) = ap (λ (x : List ℕ). 0 ∷ x) (lowered_zeros j)

pub lowered_longer : (j : ℕ) (l : List ℕ) → made.lowered (longer j l) ≡ longer j (made.lowered l)
unfolding made.lowered
lowered_longer j [] = lowered_zeros j
lowered_longer j (x ∷ l) = ap (λ (y : List ℕ). (x - 1) ∷ y) (lowered_longer j l)

pub look_lowered : (l : List ℕ) (i : ℕ) → get_or (made.lowered l) i 0 ≡ get_or l i 0 - 1
unfolding made.lowered
look_lowered [] i = refl
look_lowered (x ∷ l) zero = refl
look_lowered (x ∷ l) (suc i) = look_lowered l i

-- ---- the walk, by the one on the least tables
module _ (atoms : List ℕ) (n : ℕ) (bonds : List ℕ) (m : ℕ) where
  abbrev least_graph : Graph
  least_graph = graph_in n n atoms bonds

  abbrev least : Walk
  least = least_walk least_graph (turns_of n m) (zeros pair_words)

  graph_longer : (k : ℕ) → n ≤ k → graph_in k n atoms bonds ≡ longer_graph (k - n) least_graph
  graph_longer k h =
      ap (λ (x : List ℕ). graph n atoms bonds x)
      (ap (entry_starts n atoms) (sym (longer_zeros n k h)) ∙ starts_longer n atoms (zeros n) (k - n) (omega (arith, length-replicate {A = ℕ} n 0)))

  walk_longer : (k lm lw lb lt : ℕ) → n ≤ k → Lengths least_graph lm lw lb lt
      → walk_to (graph_in k n atoms bonds) (turns_of n m) (fresh lm lw lb lt (zeros pair_words)) ≡ longer_walk (lm - n) (lw - n) (lb - n) (lt - n) least
  walk_longer k lm lw lb lt h l =
      ap (λ (g : Graph). walk_to g (turns_of n m) (fresh lm lw lb lt (zeros pair_words))) (graph_longer k h)
      ∙ (any_length least_graph (turns_of n m) (zeros pair_words) (k - n) lm lw lb lt l).left

  said_longer : (k lm lw lb lt : ℕ) → n ≤ k → Lengths least_graph lm lw lb lt
      → events_of (graph_in k n atoms bonds) (turns_of n m) (fresh lm lw lb lt (zeros pair_words)) ≡ least_said least_graph (turns_of n m) (zeros pair_words)
  said_longer k lm lw lb lt h l =
      ap (λ (g : Graph). events_of g (turns_of n m) (fresh lm lw lb lt (zeros pair_words))) (graph_longer k h)
      ∙ (any_length least_graph (turns_of n m) (zeros pair_words) (k - n) lm lw lb lt l).said

  module _ (few : n ≤ atom_limit) where
    all_long : (lm lw lb : ℕ) → n ≤ lm → n ≤ lw → n ≤ lb → Lengths least_graph lm lw lb atom_limit
    all_long lm lw lb hm hw hb = record { met = hm; walked = hw; back = hb; taken = few }

    walk_in_lem : (lm lw lb : ℕ) → n ≤ lm → n ≤ lw → n ≤ lb → walk_in lm lw lb atoms n bonds m ≡ longer_walk (lm - n) (lw - n) (lb - n) (atom_limit - n) least
    unfolding walk_in
    walk_in_lem lm lw lb hm hw hb = walk_longer atom_limit lm lw lb atom_limit few (all_long lm lw lb hm hw hb)

    said_in_lem : (lm lw lb : ℕ) → n ≤ lm → n ≤ lw → n ≤ lb → said_in lm lw lb atoms n bonds m ≡ least_said least_graph (turns_of n m) (zeros pair_words)
    unfolding said_in
    said_in_lem lm lw lb hm hw hb = said_longer atom_limit lm lw lb atom_limit few (all_long lm lw lb hm hw hb)

    -- The lengths lent to the walk order do not matter: it says what the write call's walk says, and comes as far.
    pub same_said : (lm lw lb : ℕ) → n ≤ lm → n ≤ lw → n ≤ lb → said_in lm lw lb atoms n bonds m ≡ walk_events atoms n bonds m
    same_said lm lw lb hm hw hb = said_in_lem lm lw lb hm hw hb ∙ sym (said_in_lem atom_limit atom_limit atom_limit few few few)

    pub same_end : (lm lw lb : ℕ) → n ≤ lm → n ≤ lw → n ≤ lb → (walk_in lm lw lb atoms n bonds m).at ≡ (walk_of atoms n bonds m).at
    same_end lm lw lb hm hw hb =
        ap (λ (w : Walk). w.at) (walk_in_lem lm lw lb hm hw hb) ∙ sym (ap (λ (w : Walk). w.at) (walk_in_lem atom_limit atom_limit atom_limit few few few))

    -- ---- smaller work tables
    module _ (k : ℕ) (h : n ≤ k) where
      small_long : Lengths least_graph k k k k
      small_long = record { met = h; walked = h; back = h; taken = h }

      small_end : (small_walk k atoms n bonds m).at ≡ (walk_of atoms n bonds m).at
      unfolding small_walk
      small_end =
          ap (λ (w : Walk). w.at) (walk_longer k k k k k h small_long) ∙ sym (ap (λ (w : Walk). w.at) (walk_in_lem atom_limit atom_limit atom_limit few few few))

      small_said_lem : small_said k atoms n bonds m ≡ walk_events atoms n bonds m
      unfolding small_said
      small_said_lem = said_longer k k k k k h small_long ∙ sym (said_in_lem atom_limit atom_limit atom_limit few few few)

      small_line : line_of (write_events k (walk_events atoms n bonds m) []) ≡ line_said (walk_events atoms n bonds m)
      unfolding said_in
      small_line =
          let room : Room (graph_of n atoms bonds) atom_limit atom_limit atom_limit = record { met = few; back = few; taken = few } in
          ap line_of (pieces_alike k atom_limit (walk_events atoms n bonds m) []
          (accepted (graph_of n atoms bonds) atom_limit atom_limit atom_limit atom_limit (zeros pair_words) room k h (turns_of n m))
          (accepted (graph_of n atoms bonds) atom_limit atom_limit atom_limit atom_limit (zeros pair_words) room atom_limit few (turns_of n m)))

      -- A write on work tables of k words each, where there are no more atoms than that, leaves what one on the largest does.
      pub small_written_lem : (room : ℕ) → small_written k room atoms n bonds m ≡ graph_written room atoms n bonds m
      unfolding small_written graph_written
      small_written_lem room =
          ap₂ (line_concluded room) small_end (ap (λ (es : List Event). line_of (write_events k es [])) small_said_lem ∙ small_line)

    -- ---- the tables that the walk order fills
    cut_longer : (l j : ℕ) (x : List ℕ) → length x ≡ n → longer (l - n) x ≡ cut_to n l (longer j x)
    cut_longer l j x e = ap (λ (y : List ℕ). y ++ zeros (l - n)) (sym (take_at x (zeros j) n e))

    -- what a walk on tables of these lengths hands out when it is done
    abbrev handed : ℕ → ℕ → ℕ → made.Order
    handed lw ln lb =
        made.order (Ok n) (walk_in ln lw lb atoms n bonds m).walked (made.lowered (walk_in ln lw lb atoms n bonds m).met) (walk_in ln lw lb atoms n bonds m).back

    handed_is : (lw ln lb : ℕ) → n ≤ lw → n ≤ ln → n ≤ lb → Handed n lw ln lb (walk_of atoms n bonds m) (handed lw ln lb)
    handed_is lw ln lb hw hn hb =
        let x : ExactWalk least_graph least = least_exact least_graph (turns_of n m) (zeros pair_words) in
        let a = walk_in_lem ln lw lb hn hw hb in
        let b = walk_in_lem atom_limit atom_limit atom_limit few few few in
        record {
          done = refl;
          walked = ap (λ (w : Walk). w.walked) a ∙ cut_longer lw (atom_limit - n) least.walked x.walked ∙ sym (ap (λ (w : Walk). cut_to n lw w.walked) b);
          number =
              ap (λ (w : Walk). made.lowered w.met) a ∙ lowered_longer (ln - n) least.met
              ∙ cut_longer ln (atom_limit - n) (made.lowered least.met) (length_lowered least.met ∙ x.met)
              ∙ sym (ap (λ (w : Walk). cut_to n ln (made.lowered w.met)) b ∙ ap (cut_to n ln) (lowered_longer (atom_limit - n) least.met));
          back = ap (λ (w : Walk). w.back) a ∙ cut_longer lb (atom_limit - n) least.back x.back ∙ sym (ap (λ (w : Walk). cut_to n lb w.back) b);
        }

    handed_looks : (lw ln lb : ℕ) → n ≤ lw → n ≤ ln → n ≤ lb → Looks (walk_of atoms n bonds m) (handed lw ln lb)
    handed_looks lw ln lb hw hn hb =
        let a = walk_in_lem ln lw lb hn hw hb in
        let b = walk_in_lem atom_limit atom_limit atom_limit few few few in
        record {
          walked = λ i. ap (λ (w : Walk). get_or w.walked i 0) a ∙ get_d_longer (lw - n) least.walked i ∙ sym (ap (λ (w : Walk). get_or w.walked i 0) b ∙ get_d_longer (atom_limit - n) least.walked i);
          number =
              λ i. look_lowered (walk_in ln lw lb atoms n bonds m).met i
              ∙ ap (λ (x : ℕ). x - 1) (ap (λ (w : Walk). get_or w.met i 0) a ∙ get_d_longer (ln - n) least.met i ∙ sym (ap (λ (w : Walk). get_or w.met i 0) b ∙ get_d_longer (atom_limit - n) least.met i));
          back = λ i. ap (λ (w : Walk). get_or w.back i 0) a ∙ get_d_longer (lb - n) least.back i ∙ sym (ap (λ (w : Walk). get_or w.back i 0) b ∙ get_d_longer (atom_limit - n) least.back i);
        }

-- ---- the walk order
-- so many atoms have room in each of two
lesser_room : (r l n : ℕ) → n ≤ l → ltb (lesser_of r l) n ≡ ltb r n
unfolding lesser_of
lesser_room r l n h =
    by_test (λ (x : ℕ). ltb x n ≡ ltb r n) (ltb l r)
    (λ q. le-ltb l n h ∙ sym (le-ltb r n (omega (arith, h, ltb-true l r q))))
    (λ q. refl)

order_room_lem : (lw ln lb n : ℕ) (atoms : List ℕ) → n ≤ lw → n ≤ ln → n ≤ lb → ltb (made.order_room lw ln lb atoms) n ≡ ltb (atom_places atoms) n
unfolding made.order_room
order_room_lem lw ln lb n atoms hw hn hb =
    lesser_room (lesser_of (lesser_of (atom_places atoms) lw) ln) lb n hb ∙ lesser_room (lesser_of (atom_places atoms) lw) ln n hn ∙ lesser_room (atom_places atoms) lw n hw

-- room for so many atoms in each table
pub record HasRoom (lw ln lb n : ℕ) : Type 0 where
  pub few : n ≤ atom_limit
  pub walked : n ≤ lw
  pub number : n ≤ ln
  pub back : n ≤ lb

pub has_room : (lw ln lb n : ℕ) (atoms : List ℕ) → ltb (made.order_room lw ln lb atoms) n ≡ false → HasRoom lw ln lb n
unfolding made.order_room atom_places
has_room lw ln lb n atoms e =
    let b = lesser_both (lesser_of (lesser_of (atom_places atoms) lw) ln) lb n e in
    let c = lesser_both (lesser_of (atom_places atoms) lw) ln n (le-ltb (lesser_of (lesser_of (atom_places atoms) lw) ln) n b.0) in
    let d = lesser_both (atom_places atoms) lw n (le-ltb (lesser_of (atom_places atoms) lw) n c.0) in
    let f = lesser_both atom_limit (length atoms / atom_words) n (le-ltb (atom_places atoms) n d.0) in
    record { few = f.0; walked = d.1; number = c.1; back = b.1 }

-- a refusal but for the want of room in an output is not done
not_done : (r : Result ℕ WriteError) (k : ℕ) → as_order (suc k) r ≡ r → r ≡ Ok k → ⊥
unfolding as_order
not_done r k keeps e =
    let y : Ok (suc k) ≡ Ok k = ap (as_order (suc k)) (sym e) ∙ keeps ∙ e in
    let z : suc k ≡ k = cc in
    omega (arith, z)

module _ (lw ln lb : ℕ) (atoms : List ℕ) (n : ℕ) (bonds : List ℕ) (m : ℕ) where
  record Hands (k : ℕ) (o : made.Order) : Type 0 where
    tables : o.answer ≡ Ok k → Handed n lw ln lb (walk_of atoms n bonds m) o
    looks : o.answer ≡ Ok k → Looks (walk_of atoms n bonds m) o

  hands_no : (k : ℕ) (o : made.Order) → as_order (suc k) o.answer ≡ o.answer → Hands k o
  hands_no k o h = record { tables = λ e. absurd (not_done o.answer k h e); looks = λ e. absurd (not_done o.answer k h e) }

  order_hands : (k : ℕ) → Hands k (made.order_of lw ln lb atoms n bonds m)
  unfolding made.order_of made.graph_ordered made.order_concluded as_order
  order_hands k =
      by_test (Hands k) (ltb (made.order_room lw ln lb atoms) n) (λ q. hands_no k _ refl)
      (λ q. let r = has_room lw ln lb n atoms q in
      by_test (Hands k) (ltb (bond_slots bonds) m) (λ q. hands_no k _ refl)
      (λ q. by_unless (Hands k) (bad_record atoms n bonds m) (λ bad q. hands_no k _ refl)
      (λ q. by_unless (Hands k) (walk_in ln lw lb atoms n bonds m).at.refusal (λ why q. hands_no k _ refl)
      (λ q. record {
        tables = λ e. handed_is atoms n bonds m r.few lw ln lb r.walked r.number r.back;
        looks = λ e. handed_looks atoms n bonds m r.few lw ln lb r.walked r.number r.back;
      }))))

  -- A walk order that is done hands out the tables of the write call's walk, cut to the atoms, zeros after them.
  pub order_tables : (k : ℕ) → (made.order_of lw ln lb atoms n bonds m).answer ≡ Ok k → Handed n lw ln lb (walk_of atoms n bonds m) (made.order_of lw ln lb atoms n bonds m)
  order_tables k = (order_hands k).tables

  pub order_looks : (k : ℕ) → (made.order_of lw ln lb atoms n bonds m).answer ≡ Ok k → Looks (walk_of atoms n bonds m) (made.order_of lw ln lb atoms n bonds m)
  order_looks k = (order_hands k).looks

  -- ---- its answer
  record Answers (o : made.Order) (x : WriteLeft) : Type 0 where
    is : o.answer ≡ as_order n x.answer

  answered : (p q : Bool) {a b : made.Order} {x y : WriteLeft} → p ≡ q → (q ≡ true → Answers a x) → (q ≡ false → Answers b y) → Answers (pick p a b) (pick q x y)
  answered p true e f h = rw e (f refl)
  answered p false e f h = rw e (h refl)

  answered_by : {A : Type 0} (p q : Option A) {a : made.Order} {x : WriteLeft} {f : A → made.Order} {g : A → WriteLeft} → p ≡ q → ((z : A) → Answers (f z) (g z)) → (q ≡ None → Answers a x)
      → Answers (unless p f a) (unless q g x)
  answered_by p (Some z) e f h = rw e (f z)
  answered_by p None e f h = rw e (h refl)

  put_answers : (room : ℕ) (line w u v : List ℕ) → Answers (made.order (Ok n) w u v) (put_line room line)
  unfolding put_line as_order
  put_answers room line w u v =
      by_test (Answers (made.order (Ok n) w u v)) (ltb room (length line)) (λ q. record { is = refl }) (λ q. record { is = refl })

  module _ (hw : n ≤ lw) (hn : n ≤ ln) (hb : n ≤ lb) where
    graph_answers : (room : ℕ) → n ≤ atom_limit → Answers (made.graph_ordered lw ln lb atoms n bonds m) (graph_written room atoms n bonds m)
    unfolding made.graph_ordered made.order_concluded graph_written line_concluded as_order
    graph_answers room few =
        let e : (walk_in ln lw lb atoms n bonds m).at ≡ (walk_of atoms n bonds m).at = same_end atoms n bonds m few ln lw lb hn hw hb in
        answered_by (walk_in ln lw lb atoms n bonds m).at.refusal (walk_of atoms n bonds m).at.refusal (ap (λ (z : Walker). z.refusal) e)
        (λ why. record { is = refl })
        (λ q. put_answers room _ _ _ _)

    -- The walk order answers what the write call answers, whatever lengths with room for the atoms were lent, but that it is done
    -- where the write call is or has no room for the line.
    all_answer : (room : ℕ) → Answers (made.order_of lw ln lb atoms n bonds m) (write_of room atoms n bonds m)
    unfolding made.order_of write_of as_order
    all_answer room =
        answered (ltb (made.order_room lw ln lb atoms) n) (ltb (atom_places atoms) n) (order_room_lem lw ln lb n atoms hw hn hb) (λ q. record { is = refl })
        (λ q. answered (ltb (bond_slots bonds) m) (ltb (bond_slots bonds) m) refl (λ z. record { is = refl })
        (λ z. answered_by (bad_record atoms n bonds m) (bad_record atoms n bonds m) refl (λ bad. record { is = refl })
        (λ y. graph_answers room (has_room lw ln lb n atoms (order_room_lem lw ln lb n atoms hw hn hb ∙ q)).few)))

    pub order_answer : (room : ℕ) → (made.order_of lw ln lb atoms n bonds m).answer ≡ as_order n (write_of room atoms n bonds m).answer
    order_answer room = (all_answer room).is
