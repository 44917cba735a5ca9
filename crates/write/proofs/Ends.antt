-- The end of a walk: what the tables of its writer hold is the line that it said. Assumes nothing.
use Prim.Native.Nat.{ℕ, ◌+◌, ◌-◌, ◌≤◌, ◌<◌}
use mathlib.Core.Path.{◌≡◌, refl, ◌∙◌, ap, sym, subst}
use mathlib.Core.List.{List, [], ◌++◌}
use mathlib.Core.Bool.{Bool, true, false}
use native.Mathlib.Omega.{arith}
use native.Mathlib.Nat.{zero-add}
use lib.ListN.{length, drop, length-replicate}
use lib.Seq.{sets, sets-eq, length-sets}
use lib.Dec.{ltb}
use borrow.Author.Tests.{ltb-false}
use Rattle.feature.proofs.Lists.{drop_zeros}
use Rattle.feature.specs.Pick.{pick}
use Rattle.table.specs.Limits.{atom_limit, bond_limit, lesser_of}
use Rattle.table.specs.Starts.{entry_starts}
use Rattle.writer.specs.declared.Writer.{Writer}
use Rattle.writer.specs.Line.{Event, line_of, write_events}
use Rattle.writer.specs.Tables.{Spoken, spoken, writer, say_all, piece_room}
use Rattle.writer.specs.Pieces.{Holds}
use Rattle.writer.proofs.Pieces.{holds_all, holds_none}
use Rattle.walk_entry.specs.Graph.{Graph, graph}
use Rattle.walk.specs.declared.walker.Walker.{Walker}
use Rattle.walk.specs.Walk.{Walk, walk, start_walker, walk_to, events_of, turns_of}
use Rattle.walk_laws.specs.Trek.{fresh}
use Rattle.feature.proofs.Cases.{by_test}
use Rattle.std.specs.Prelude.{Ok, Result}
use Rattle.write.specs.declared.answer.WriteError.{WriteError}
use Rattle.write.specs.declared.answer.WriteError.TheVariants.{Stopped, OutRoom}
use Rattle.walk_entry.specs.declared.WalkError.{WalkError}
use Rattle.table.specs.Zeros.{zeros}
use Rattle.write.specs.Write.{pair_words, start_in, walk_in, unless, WriteLeft, write_leaves, line_refusing, put_line, output_ended, line_concluded, graph_written}
use Rattle.write.specs.Order as made
use Rattle.write.specs.Steps.{WorkCleared, graph_in, small_walk, small_said, small_written}
use Rattle.write.proofs.Lengths.{small_written_lem}

-- ---- each way out
pub left_zeros : (r : Result ℕ WriteError) (o : List ℕ) (n : ℕ) → o ≡ zeros n → write_leaves r o ≡ write_leaves r (zeros n)
left_zeros r o n e = ap (λ (x : List ℕ). write_leaves r x) e

pub few : (n m : ℕ) → n ≤ atom_limit → m ≤ bond_limit → turns_of n m < 1000000
unfolding turns_of
few n m h i = omega (arith, h, i)

-- ---- the line in the output
pub zeros_self : {o : List ℕ} (n : ℕ) → o ≡ zeros n → o ≡ zeros (length o)
zeros_self {o} n e =
    e ∙ ap zeros (sym (length-replicate {A = ℕ} n 0) ∙ ap length (sym e))

laid_out : (room : ℕ) (line : List ℕ) → length line ≤ room → sets (zeros room) 0 line ≡ line ++ zeros (room - length line)
laid_out room line h =
    let l : length (zeros room) ≡ room = length-replicate {A = ℕ} room 0 in
    let q : 0 + length line ≤ length (zeros room) = omega (arith, l, h) in
    sets-eq line (zeros room) 0 q
    ∙ ap (λ (k : ℕ). line ++ drop k (zeros room)) (zero-add (length line))
    ∙ ap (λ (x : List ℕ). line ++ x) (drop_zeros (length line) room)

module _ (room : ℕ) (out : List ℕ) (z : Walker) (w : Writer) (line : List ℕ) (has : w.len ≡ length line) (holds : out ≡ sets (zeros room) 0 line) where
  long : length out ≡ room
  long = ap length holds ∙ length-sets (zeros room) 0 line ∙ length-replicate {A = ℕ} room 0

  fits : (b : Bool) → ltb room (length line) ≡ b → pick b (line_refusing room (OutRoom (length line))) (write_leaves (Ok (length line)) out) ≡ put_line room line
  unfolding put_line
  fits true e = simp e
  fits false e =
      ap (λ (x : List ℕ). write_leaves (Ok (length line)) x) (holds ∙ laid_out room line (ltb-false room (length line) e)) ∙ simp e

  pub ended_is : output_ended out z w ≡ line_concluded room z line
  unfolding output_ended line_concluded
  ended_is =
      ap (λ (k : ℕ). unless z.refusal (λ (why : WalkError). line_refusing k (Stopped why)) (pick (ltb k w.len) (line_refusing k (OutRoom w.len)) (write_leaves (Ok w.len) out))) long
      ∙ ap (λ (k : ℕ). unless z.refusal (λ (why : WalkError). line_refusing room (Stopped why)) (pick (ltb room k) (line_refusing room (OutRoom k)) (write_leaves (Ok k) out))) has
      ∙ ap (λ (x : WriteLeft). unless z.refusal (λ (why : WalkError). line_refusing room (Stopped why)) x) (fits (ltb room (length line)) refl)

-- ---- a graph written, on work tables of k words each
full_room : (k : ℕ) → k ≤ atom_limit → piece_room (zeros k) ≡ k
unfolding piece_room lesser_of
full_room k h =
    let l : length (zeros k) ≡ k = length-replicate {A = ℕ} k 0 in
    by_test (λ (x : ℕ). x ≡ k) (ltb (length (zeros k)) atom_limit) (λ q. l) (λ q. omega (arith, h, l, ltb-false (length (zeros k)) atom_limit q))

said_holds : (k : ℕ) → k ≤ atom_limit → (o out starts : List ℕ) (w : Writer) (es : List Event) → spoken w out starts ≡ say_all (spoken (writer 0 0) o (zeros k)) es → Holds o (write_events k es []) (spoken w out starts)
said_holds k h o out starts w es e =
    subst (λ (s : Spoken). Holds o (write_events k es []) s) (sym e)
    (subst (λ (n : ℕ). Holds o (write_events n es []) (say_all (spoken (writer 0 0) o (zeros k)) es)) (full_room k h) (holds_all es (holds_none o (zeros k))))

module _ (k : ℕ) (atoms bonds first : List ℕ) (n m : ℕ) (fst : first ≡ entry_starts n atoms (zeros k)) where
  graph_is : graph n atoms bonds first ≡ graph_in k n atoms bonds
  graph_is = ap (λ (x : List ℕ). graph n atoms bonds x) fst

  walk_is : (u w : Walk) → w ≡ walk_to (graph n atoms bonds first) (turns_of n m) u → w ≡ walk_to (graph_in k n atoms bonds) (turns_of n m) u
  walk_is u w e = e ∙ ap (λ (g : Graph). walk_to g (turns_of n m) u) graph_is

  said_is : (s x : Spoken) → x ≡ say_all s (events_of (graph n atoms bonds first) (turns_of n m) (fresh k k k k (zeros pair_words))) → x ≡ say_all s (small_said k atoms n bonds m)
  unfolding small_said
  said_is s x e = e ∙ ap (λ (g : Graph). say_all s (events_of g (turns_of n m) (fresh k k k k (zeros pair_words)))) graph_is

  pub graph_written_lem : n ≤ k → k ≤ atom_limit → (room : ℕ) (o out starts met walked back taken pairs : List ℕ) (z : Walker) (line : Writer) (r : WriteLeft) → o ≡ zeros room → walk z met walked back taken pairs ≡ walk_to (graph n atoms bonds first) (turns_of n m) (fresh k k k k (zeros pair_words)) → spoken line out starts ≡ say_all (spoken (writer 0 0) o (zeros k)) (events_of (graph n atoms bonds first) (turns_of n m) (fresh k k k k (zeros pair_words))) → r ≡ output_ended out z line → r ≡ graph_written room atoms n bonds m
  unfolding small_written small_walk
  graph_written_lem low high room o out starts met walked back taken pairs z line r zo w s e =
      let x : List ℕ = line_of (write_events k (small_said k atoms n bonds m) []) in
      let h = said_holds k high o out starts line (small_said k atoms n bonds m) (said_is _ _ s) in
      e
      ∙ ended_is room out z line x h.len (h.line ∙ ap (λ (y : List ℕ). sets y 0 x) zo)
      ∙ ap (λ (y : Walk). line_concluded room y.at x) (walk_is _ _ w)
      ∙ small_written_lem atoms n bonds m (omega (arith, low, high)) k low room

-- work tables that are blank, whatever their length, are such
module _ (atoms bonds : List ℕ) (n m : ℕ) (first met walked back taken pairs starts laid : List ℕ) (b : WorkCleared n first met walked back taken pairs starts) (is : laid ≡ entry_starts n atoms first) where
  abbrev begun : Walk
  begun = walk start_walker met walked back taken (zeros (length pairs))

  abbrev wide : List ℕ
  wide = zeros (length first)

  start_blank : begun ≡ fresh (length first) (length first) (length first) (length first) (zeros pair_words)
  start_blank =
      ap (λ (x : List ℕ). walk start_walker x walked back taken (zeros (length pairs))) b.marks
      ∙ ap (λ (x : List ℕ). walk start_walker wide x back taken (zeros (length pairs))) b.order
      ∙ ap (λ (x : List ℕ). walk start_walker wide wide x taken (zeros (length pairs))) b.backs
      ∙ ap (λ (x : List ℕ). walk start_walker wide wide wide x (zeros (length pairs))) b.takes
      ∙ ap (λ (x : ℕ). walk start_walker wide wide wide wide (zeros x)) (ap length b.slots ∙ length-replicate {A = ℕ} pair_words 0)

  pub blank_written : (room : ℕ) (o out starts' met' walked' back' taken' pairs' : List ℕ) (z : Walker) (line : Writer) (r : WriteLeft) → o ≡ zeros room → walk z met' walked' back' taken' pairs' ≡ walk_to (graph n atoms bonds laid) (turns_of n m) begun → spoken line out starts' ≡ say_all (spoken (writer 0 0) o starts) (events_of (graph n atoms bonds laid) (turns_of n m) begun) → r ≡ output_ended out z line → r ≡ graph_written room atoms n bonds m
  blank_written room o out starts' met' walked' back' taken' pairs' z line r zo w s e =
      graph_written_lem (length first) atoms bonds laid n m (is ∙ ap (entry_starts n atoms) b.firsts) b.room b.most room o out starts' met' walked' back' taken' pairs' z line r zo
      (w ∙ ap (walk_to (graph n atoms bonds laid) (turns_of n m)) start_blank)
      (s
      ∙ ap (λ (x : List ℕ). say_all (spoken (writer 0 0) o x) (events_of (graph n atoms bonds laid) (turns_of n m) begun)) b.pieces
      ∙ ap (λ (x : Walk). say_all (spoken (writer 0 0) o wide) (events_of (graph n atoms bonds laid) (turns_of n m) x)) start_blank)
      e

-- ---- a walk order
pub tables_zero : (r : Result ℕ WriteError) (a b c : List ℕ) (k l n : ℕ) → a ≡ zeros k → b ≡ zeros l → c ≡ zeros n → made.order r a b c ≡ made.order r (zeros k) (zeros l) (zeros n)
tables_zero r a b c k l n e f g =
    ap (λ (x : List ℕ). made.order r x b c) e
    ∙ ap (λ (x : List ℕ). made.order r (zeros k) x c) f
    ∙ ap (λ (x : List ℕ). made.order r (zeros k) (zeros l) x) g

-- the tables that a walk starts with
start_is : (z : Walker) (lm lw lb : ℕ) (met walked back taken pairs : List ℕ) → met ≡ zeros lm → walked ≡ zeros lw → back ≡ zeros lb → walk z met walked back taken pairs ≡ walk z (zeros lm) (zeros lw) (zeros lb) taken pairs
start_is z lm lw lb met walked back taken pairs e f g =
    ap (λ (x : List ℕ). walk z x walked back taken pairs) e
    ∙ ap (λ (x : List ℕ). walk z (zeros lm) x back taken pairs) f
    ∙ ap (λ (x : List ℕ). walk z (zeros lm) (zeros lw) x taken pairs) g

pub graph_ordered_lem : (atoms bonds first : List ℕ) (n m lm lw lb : ℕ) (m₀ w₀ b₀ met walked back taken pairs : List ℕ) (z : Walker) (r : made.Order) → first ≡ entry_starts n atoms (zeros atom_limit) → m₀ ≡ zeros lm → w₀ ≡ zeros lw → b₀ ≡ zeros lb → walk z met walked back taken pairs ≡ walk_to (graph n atoms bonds first) (turns_of n m) (walk start_walker m₀ w₀ b₀ (zeros atom_limit) (zeros (length (zeros pair_words)))) → r ≡ made.order_concluded n z walked met back → r ≡ made.graph_ordered lw lm lb atoms n bonds m
unfolding made.graph_ordered walk_in
graph_ordered_lem atoms bonds first n m lm lw lb m₀ w₀ b₀ met walked back taken pairs z r f e1 e2 e3 w e =
    e
    ∙ ap (λ (x : Walk). made.order_concluded n x.at x.walked x.met x.back)
    (walk_is atom_limit atoms bonds first n m f (start_in lm lw lb) (walk z met walked back taken pairs)
    (w ∙ ap (λ (i : ℕ). walk_to (graph n atoms bonds first) (turns_of n m) (walk start_walker m₀ w₀ b₀ (zeros atom_limit) (zeros i))) (length-replicate {A = ℕ} pair_words 0)
    ∙ ap (λ (x : Walk). walk_to (graph n atoms bonds first) (turns_of n m) x) (start_is start_walker lm lw lb m₀ w₀ b₀ (zeros atom_limit) (zeros pair_words) e1 e2 e3)))

-- the same of tables that hold the same
pub concluded_as : (n : ℕ) (z : Walker) (walked met back w m b : List ℕ) (r : made.Order) → r ≡ made.order_concluded n z walked met back → walked ≡ w → met ≡ m → back ≡ b → r ≡ made.order_concluded n z w m b
concluded_as n z walked met back w m b r h e f g =
    h
    ∙ ap (λ (x : List ℕ). made.order_concluded n z x met back) e
    ∙ ap (λ (x : List ℕ). made.order_concluded n z w x back) f
    ∙ ap (λ (x : List ℕ). made.order_concluded n z w m x) g
