-- What stands for a state holds pieces, and an event on it is the event on those pieces: what it answers, and the output and the
-- starts that it leaves. After an event that is held the bytes after the line are zeros, if they were before it or no piece was
-- held. Assumes nothing.
use Prim.Native.Nat.{ℕ, zero, suc, ◌+◌, ◌-◌, ◌≤◌}
use mathlib.Core.Path.{◌≡◌, refl, sym, ap, ◌∙◌, subst}
use mathlib.Core.Bool.{Bool, true, false}
use mathlib.Core.List.{List, [], ◌∷◌, ◌++◌}
use native.Mathlib.Omega.{arith}
use native.Mathlib.Nat.{zero-add}
use lib.ListN.{length, get_or, take, drop, replicate, length-take, length-append, length-replicate, take-append-drop}
use lib.Seq.{sets, length-sets, sets-eq, take-suc, take-add, take-take, take_at, drop_at, drop-drop, get_or-take, get_or_at}
use lib.Dec.{ltb, leb, eqb}
use borrow.Author.Tests.{ltb-false, eqb-false}
use Rattle.feature.specs.Pick.{pick}
use Rattle.feature.proofs.Cases.{by_test, by_either}
use Rattle.feature.proofs.Lists.{drop_zeros}
use Rattle.desk_numbers.specs.Numbers as desk
use Rattle.std.specs.Prelude.{Err, Ok}
use Rattle.writer.specs.declared.WriterError.TheVariants.{AtomRoom, OutRoom, NoPiece, Overpop}
use Rattle.writer.specs.Line.{Event, Root, Extend, Join, Pop, line_of, write_event}
use Rattle.writer.specs.Tables.{Spoken, spoken, writer, piece_room, bytes_from, added, piece_t, lengthened, join_t, wrap_t, pop_t, say_t, EventTold, told_with, event_refusing, fitting, event_of}
use Rattle.writer.specs.Pieces.{piece_starts, Holds}
use Rattle.writer.proofs.Pieces.{length_starts, holds_step, room_held}
use Rattle.table.specs.Zeros.{cleared_from}
use Rattle.desk_writer.specs.Pieces.{is_writer, wrote_said, said_told, writer_words, tail_of, event_leaves, told_leaves, event_d}
use Rattle.desk_writer.specs.OnPieces.{pieces_to, pieces_in, fits_in, event_answer, ground_of, pieces_after, OnPieces, EventOnward}
use Rattle.desk_writer.proofs.WriterKept.{Laid, facts, laid_before, starts_within}

-- ---- the pieces of a state
piece_count : (out starts : List ℕ) (n end : ℕ) → length (pieces_to out starts n end) ≡ n
unfolding pieces_to
piece_count out starts zero end = refl
piece_count out starts (suc n) end = ap suc (piece_count out starts n (get_or starts n 0))

module _ (out starts : List ℕ) where
  piece_line : (n end : ℕ) → Laid starts (writer n end) → line_of (pieces_to out starts n end) ≡ take end out
  unfolding pieces_to line_of
  piece_line zero end h = ap (λ (i : ℕ). take i out) (sym (h.none refl))
  piece_line (suc n) end h =
      let l = starts_within starts (writer (suc n) end) h n (omega arith) in
      let e : get_or starts n 0 + (end - get_or starts n 0) ≡ end = omega arith in
      ap (λ (x : List ℕ). x ++ bytes_from (get_or starts n 0) (end - get_or starts n 0) out) (piece_line n (get_or starts n 0) (laid_before starts n end h))
      ∙ sym (take-add (get_or starts n 0) (end - get_or starts n 0) out)
      ∙ ap (λ (i : ℕ). take i out) e

  piece_starts_lem : (n end : ℕ) → Laid starts (writer n end) → end ≤ length out → n ≤ length starts → take n starts ≡ piece_starts (pieces_to out starts n end)
  unfolding pieces_to piece_starts
  piece_starts_lem zero end h l m = refl
  piece_starts_lem (suc n) end h l m =
      let within = starts_within starts (writer (suc n) end) h n (omega arith) in
      let before = laid_before starts n end h in
      let long : length (line_of (pieces_to out starts n (get_or starts n 0))) ≡ get_or starts n 0 = rw (piece_line n (get_or starts n 0) before) (simp length-take (omega arith)) in
      take-suc starts n 0 (omega arith)
      ∙ ap (λ (x : List ℕ). x ++ (get_or starts n 0 ∷ [])) (piece_starts_lem n (get_or starts n 0) before (omega arith) (omega arith))
      ∙ ap (λ (i : ℕ). piece_starts (pieces_to out starts n (get_or starts n 0)) ++ (i ∷ [])) (sym long)

-- a text laid at the front
front : (o x : List ℕ) → length x ≤ length o → sets o 0 x ≡ x ++ drop (length x) o
front o x h = sets-eq x o 0 (rw zero-add h) ∙ ap (λ (i : ℕ). x ++ drop i o) (zero-add (length x))

over_itself : (o : List ℕ) (n : ℕ) → n ≤ length o → sets o 0 (take n o) ≡ o
over_itself o n h =
    let long : length (take n o) ≡ n = simp length-take (omega arith) in
    front o (take n o) (omega arith) ∙ ap (λ (i : ℕ). take n o ++ drop i o) long ∙ take-append-drop n o

pub holds_pieces : (s : Spoken) → is_writer s ≡ true → Holds s.out (pieces_in s) s
unfolding pieces_in
holds_pieces s h =
    let w = facts s h in
    let line = piece_line s.out s.starts s.at.pieces s.at.len w.laid in
    let count = piece_count s.out s.starts s.at.pieces s.at.len in
    record {
      pieces = sym count;
      len = sym (ap length line ∙ simp length-take (omega (arith, w.line)));
      line = sym (ap (λ (x : List ℕ). sets s.out 0 x) line ∙ over_itself s.out s.at.len w.line);
      starts = ap (λ (i : ℕ). take i s.starts) count ∙ piece_starts_lem s.out s.starts s.at.pieces s.at.len w.laid w.line (omega (arith, w.pieces, room_held s.starts));
      room = rw count w.pieces;
    }

-- ---- what an event answers
abbrev told_by : EventTold → desk.Told
told_by t = said_told (wrote_said t.answer)

both_told : (q : Bool) (x y : EventTold) (a b : desk.Told) → told_by x ≡ a → told_by y ≡ b → told_by (pick q x y) ≡ pick q a b
both_told true x y a b e f = e
both_told false x y a b e f = f

fit_told : (s n : Spoken) (ps : List (List ℕ)) → n.at.len ≡ length (line_of ps) → told_by (fitting s n) ≡ fits_in (length s.out) ps
unfolding fitting fits_in wrote_said said_told
fit_told s n ps e =
    subst (λ (m : ℕ). told_by (fitting s n) ≡ pick (ltb (length s.out) m) (desk.told desk.out_room (m ∷ [])) (desk.told desk.done (m ∷ []))) e
    (both_told (ltb (length s.out) n.at.len) _ _ _ _ refl refl)

module _ (s : Spoken) (ps : List (List ℕ)) (h : Holds s.out ps s) where
  abbrev most : ℕ
  most = piece_room s.starts

  fits_told : (e : Event) → told_by (fitting s (say_t s e)) ≡ fits_in (length s.out) (write_event most e ps)
  fits_told e = fit_told s (say_t s e) (write_event most e ps) (holds_step e h).len

  answers : (e : Event) → told_by (event_of s e) ≡ event_answer most (length s.out) e ps
  unfolding event_of event_answer wrote_said said_told
  answers (Root k) =
      subst (λ (n : ℕ). told_by (event_of s (Root k)) ≡ pick (leb most n) (desk.told desk.atom_room (n ∷ [])) (fits_in (length s.out) (write_event most (Root k) ps))) h.pieces
      (both_told (leb most s.at.pieces) _ _ _ _ refl (fits_told (Root k)))
  answers (Extend b k) =
      subst (λ (n : ℕ). told_by (event_of s (Extend b k)) ≡ pick (leb most n) (desk.told desk.atom_room (n ∷ [])) (fits_in (length s.out) (write_event most (Extend b k) ps))) h.pieces
      (both_told (leb most s.at.pieces) _ _ _ _ refl (fits_told (Extend b k)))
  answers (Join b n) =
      subst (λ (m : ℕ). told_by (event_of s (Join b n)) ≡ pick (eqb m 0) (desk.told desk.no_atom []) (fits_in (length s.out) (write_event most (Join b n) ps))) h.pieces
      (both_told (eqb s.at.pieces 0) _ _ _ _ refl (fits_told (Join b n)))
  answers (Pop d) =
      subst (λ (m : ℕ). told_by (event_of s (Pop d)) ≡ pick (leb m d) (desk.told desk.overpop []) (fits_in (length s.out) (write_event most (Pop d) ps))) h.pieces
      (both_told (leb s.at.pieces d) _ _ _ _ refl (fits_told (Pop d)))

-- ---- how an event ends
data EventEnds (s n : Spoken) : EventTold → Type 0 where
  full : (m : ℕ) → EventEnds s n (event_refusing s (Err (AtomRoom m)))
  long : (m : ℕ) → EventEnds s n (event_refusing s (Err (OutRoom m)))
  bare : EventEnds s n (event_refusing s (Err NoPiece))
  over : EventEnds s n (event_refusing s (Err Overpop))
  held : n.at.len ≤ length s.out → EventEnds s n (told_with (Ok n.at) n.out n.starts)

fit_ends : (s n : Spoken) → EventEnds s n (fitting s n)
unfolding fitting
fit_ends s n =
    by_test (EventEnds s n) (ltb (length s.out) n.at.len) {x = event_refusing s (Err (OutRoom n.at.len))} {y = told_with (Ok n.at) n.out n.starts}
    (λ q. long n.at.len) (λ q. held (ltb-false (length s.out) n.at.len q))

event_ends : (s : Spoken) (e : Event) → EventEnds s (say_t s e) (event_of s e)
unfolding event_of
event_ends s (Root k) = by_either (EventEnds s (say_t s (Root k))) (leb (piece_room s.starts) s.at.pieces) (full s.at.pieces) (fit_ends s (say_t s (Root k)))
event_ends s (Extend b k) = by_either (EventEnds s (say_t s (Extend b k))) (leb (piece_room s.starts) s.at.pieces) (full s.at.pieces) (fit_ends s (say_t s (Extend b k)))
event_ends s (Join b n) = by_either (EventEnds s (say_t s (Join b n))) (eqb s.at.pieces 0) bare (fit_ends s (say_t s (Join b n)))
event_ends s (Pop d) = by_either (EventEnds s (say_t s (Pop d))) (leb s.at.pieces d) over (fit_ends s (say_t s (Pop d)))

-- ---- the output of an event that is held
-- a line laid over an output and zeros after it are the line laid over zeros
line_alone : (o x : List ℕ) → length x ≤ length o → cleared_from (length x) (sets o 0 x) ≡ sets (replicate (length o) 0) 0 x
unfolding cleared_from
line_alone o x h =
    let long : length x ≤ length (replicate {A = ℕ} (length o) 0) = rw (length-replicate {A = ℕ}) h in
    ap (λ (i : ℕ). take (length x) (sets o 0 x) ++ replicate (i - length x) 0) (length-sets o 0 x)
    ∙ ap (λ (l : List ℕ). take (length x) l ++ replicate (length o - length x) 0) (front o x h)
    ∙ ap (λ (l : List ℕ). l ++ replicate (length o - length x) 0) (take_at x (drop (length x) o) (length x) refl)
    ∙ ap (λ (l : List ℕ). x ++ l) (sym (drop_zeros (length x) (length o)))
    ∙ sym (front (replicate (length o) 0) x long)

laid_over : (q : Bool) (o p x : List ℕ) (n : ℕ) → n ≡ length x → n ≤ length o → p ≡ sets o 0 x → pick q (cleared_from n p) p ≡ sets (pick q (replicate (length o) 0) o) 0 x
laid_over true o p x n e l f =
    ap (λ (i : ℕ). cleared_from i p) e ∙ ap (cleared_from (length x)) f ∙ line_alone o x (omega arith)
laid_over false o p x n e l f = f

module _ (s : Spoken) (e : Event) (ps : List (List ℕ)) (h : Holds s.out ps s) where
  abbrev next : Spoken
  next = say_t s e

  abbrev qs : List (List ℕ)
  qs = write_event (piece_room s.starts) e ps

  abbrev last : List ℕ
  last = pick (eqb s.at.pieces 0) (cleared_from next.at.len next.out) next.out

  holds_last : next.at.len ≤ length s.out → Holds (ground_of s) qs (spoken next.at last next.starts)
  unfolding ground_of
  holds_last l =
      let n = holds_step e h in
      record {
        pieces = n.pieces;
        len = n.len;
        line = laid_over (eqb s.at.pieces 0) s.out next.out (line_of qs) next.at.len n.len l n.line;
        starts = n.starts;
        room = n.room;
      }

module _ (s : Spoken) (e : Event) (h : Holds s.out (pieces_in s) s) where
  on : (t : EventTold) → EventEnds s (say_t s e) t → told_by t ≡ event_answer (piece_room s.starts) (length s.out) e (pieces_in s) → OnPieces s e (told_leaves s.at t)
  unfolding told_leaves wrote_said said_told writer_words tail_of
  on t (full m) a = record { answers = a; refused = λ z. (refl, refl, refl); accepted = λ z. absurd (omega (arith, z)) }
  on t (long m) a = record { answers = a; refused = λ z. (refl, refl, refl); accepted = λ z. absurd (omega (arith, z)) }
  on t bare a = record { answers = a; refused = λ z. (refl, refl, refl); accepted = λ z. absurd (omega (arith, z)) }
  on t over a = record { answers = a; refused = λ z. (refl, refl, refl); accepted = λ z. absurd (omega (arith, z)) }
  on t (held l) a = record { answers = a; refused = λ z. absurd (z refl); accepted = λ z. holds_last s e (pieces_in s) h l }

-- an event on what stands for a state is the event on its pieces
pub on_pieces : (s : Spoken) (e : Event) → is_writer s ≡ true → OnPieces s e (event_d true s e)
unfolding event_d
on_pieces s e w =
    let h = holds_pieces s w in
    rw w (on s e h (event_of s e) (event_ends s e) (answers s (pieces_in s) h e))

-- ---- the bytes after the line
say_longer : (s : Spoken) (e : Event) → s.at.len ≤ (say_t s e).at.len
unfolding say_t piece_t added join_t lengthened pop_t wrap_t
say_longer s (Root k) = by_either (λ (z : Spoken). s.at.len ≤ z.at.len) (leb (piece_room s.starts) s.at.pieces) (omega arith) (omega arith)
say_longer s (Extend b k) = by_either (λ (z : Spoken). s.at.len ≤ z.at.len) (leb (piece_room s.starts) s.at.pieces) (omega arith) (omega arith)
say_longer s (Join b n) = by_either (λ (z : Spoken). s.at.len ≤ z.at.len) (eqb s.at.pieces 0) (omega arith) (omega arith)
say_longer s (Pop d) = by_either (λ (z : Spoken). s.at.len ≤ z.at.len) (leb s.at.pieces d) (omega arith) (omega arith)

-- what follows a line that is laid over an output which is zeros from a place within it on
rest_zeros : (g x : List ℕ) (n : ℕ) → n ≤ length x → length x ≤ length g → drop n g ≡ replicate (length g - n) 0 → drop (length x) (sets g 0 x) ≡ replicate (length (sets g 0 x) - length x) 0
rest_zeros g x n l h z =
    let k : n + (length x - n) ≡ length x = omega arith in
    let m : length g - n - (length x - n) ≡ length g - length x = omega arith in
    ap (drop (length x)) (front g x h)
    ∙ drop_at x (drop (length x) g) (length x) refl
    ∙ ap (λ (i : ℕ). drop i g) (sym k)
    ∙ sym (drop-drop (length x - n) n g)
    ∙ ap (drop (length x - n)) z
    ∙ drop_zeros (length x - n) (length g - n)
    ∙ ap (λ (i : ℕ). replicate i 0) m
    ∙ ap (λ (i : ℕ). replicate (i - length x) 0) (sym (length-sets g 0 x))

ground_long : (q : Bool) (o : List ℕ) → length (pick q (replicate (length o) 0) o) ≡ length o
ground_long true o = length-replicate {A = ℕ} (length o) 0
ground_long false o = refl

ground_blank : (q : Bool) (o : List ℕ) (n : ℕ) → (q ≡ false → drop n o ≡ replicate (length o - n) 0) → drop n (pick q (replicate (length o) 0) o) ≡ replicate (length (pick q (replicate (length o) 0) o) - n) 0
ground_blank true o n h = drop_zeros n (length o) ∙ ap (λ (i : ℕ). replicate (i - n) 0) (sym (length-replicate {A = ℕ} (length o) 0))
ground_blank false o n h = h refl

-- the pieces of tables that hold pieces are those
known : (out starts : List ℕ) (ps : List (List ℕ)) → take (length ps) starts ≡ piece_starts ps → take (length (line_of ps)) out ≡ line_of ps → pieces_to out starts (length ps) (length (line_of ps)) ≡ ps
unfolding pieces_to piece_starts line_of
known out starts [] e f = refl
known out starts (p ∷ ps) e f =
    let long : length (line_of ps ++ p) ≡ length (line_of ps) + length p = length-append (line_of ps) p in
    let start : get_or starts (length ps) 0 ≡ length (line_of ps) = sym (get_or-take (suc (length ps)) starts (length ps) 0 (omega arith)) ∙ ap (λ (l : List ℕ). get_or l (length ps) 0) e ∙ get_or_at (piece_starts ps) (length (line_of ps)) [] 0 (length ps) (length_starts ps) in
    let before : take (length ps) starts ≡ piece_starts ps = sym (take-take (length ps) (suc (length ps)) starts (omega arith)) ∙ ap (take (length ps)) e ∙ take_at (piece_starts ps) (length (line_of ps) ∷ []) (length ps) (length_starts ps) in
    let front_line : take (length (line_of ps)) out ≡ line_of ps = sym (take-take (length (line_of ps)) (length (line_of ps ++ p)) out (omega arith)) ∙ ap (take (length (line_of ps))) f ∙ take_at (line_of ps) p (length (line_of ps)) refl in
    let whole : line_of ps ++ take (length p) (drop (length (line_of ps)) out) ≡ line_of ps ++ p =
    ap (λ (l : List ℕ). l ++ take (length p) (drop (length (line_of ps)) out)) (sym front_line) ∙ sym (take-add (length (line_of ps)) (length p) out) ∙ ap (λ (i : ℕ). take i out) (sym long) ∙ f in
    let last : take (length p) (drop (length (line_of ps)) out) ≡ p =
    sym (drop_at (line_of ps) (take (length p) (drop (length (line_of ps)) out)) (length (line_of ps)) refl) ∙ ap (drop (length (line_of ps))) whole ∙ drop_at (line_of ps) p (length (line_of ps)) refl in
    let size : length (line_of ps ++ p) - length (line_of ps) ≡ length p = omega arith in
    ap (λ (i : ℕ). bytes_from i (length (line_of ps ++ p) - i) out ∷ pieces_to out starts (length ps) i) start
    ∙ ap (λ (i : ℕ). bytes_from (length (line_of ps)) i out ∷ pieces_to out starts (length ps) (length (line_of ps))) size
    ∙ ap (λ (x : List ℕ). x ∷ pieces_to out starts (length ps) (length (line_of ps))) last
    ∙ ap (λ (x : List (List ℕ)). p ∷ x) (known out starts ps before front_line)

pub held_known : {o : List ℕ} {ps : List (List ℕ)} {s : Spoken} → length (line_of ps) ≤ length o → Holds o ps s → pieces_in s ≡ ps
unfolding pieces_in
held_known {o} {ps} {s} l h =
    ap (λ (n : ℕ). pieces_to s.out s.starts n s.at.len) h.pieces
    ∙ ap (λ (n : ℕ). pieces_to s.out s.starts (length ps) n) h.len
    ∙ known s.out s.starts ps h.starts (ap (take (length (line_of ps))) (h.line ∙ front o (line_of ps) l) ∙ take_at (line_of ps) (drop (length (line_of ps)) o) (length (line_of ps)) refl)

-- what an event that is held leaves
module _ (s : Spoken) (e : Event) (h : Holds s.out (pieces_in s) s) where
  held_onward : (say_t s e).at.len ≤ length s.out → EventOnward s e (event_leaves (Ok (say_t s e).at) (pick (eqb s.at.pieces 0) (cleared_from (say_t s e).at.len (say_t s e).out) (say_t s e).out) (say_t s e).starts)
  unfolding ground_of writer_words
  held_onward l =
      let n = holds_last s e (pieces_in s) h l in
      let g = ground_long (eqb s.at.pieces 0) s.out in
      let fits : length (line_of (pieces_after s e)) ≤ length (ground_of s) = omega (arith, n.len) in
      record {
        pieces = held_known fits n;
        tail = λ b.
            subst (λ (i : ℕ). drop i (last s e (pieces_in s) h) ≡ replicate (length (last s e (pieces_in s) h) - i) 0) (sym n.len)
            (subst (λ (o : List ℕ). drop (length (line_of (pieces_after s e))) o ≡ replicate (length o - length (line_of (pieces_after s e))) 0) (sym n.line)
            (rest_zeros (ground_of s) (line_of (pieces_after s e)) s.at.len (omega (arith, n.len, say_longer s e)) fits
            (ground_blank (eqb s.at.pieces 0) s.out s.at.len (λ q. b (eqb-false s.at.pieces 0 q)))));
      }

  onward : (t : EventTold) → EventEnds s (say_t s e) t → (told_by t).number ≡ desk.done → EventOnward s e (told_leaves s.at t)
  unfolding told_leaves wrote_said said_told tail_of
  onward t (full m) z = absurd (omega (arith, z))
  onward t (long m) z = absurd (omega (arith, z))
  onward t bare z = absurd (omega (arith, z))
  onward t over z = absurd (omega (arith, z))
  onward t (held l) z = held_onward l

-- so what a run of accepted calls holds is what `write_events` makes, and with a first event on no piece the rest of the output
-- is zeros after each of them
pub accepted_onward : (s : Spoken) (e : Event) → is_writer s ≡ true → (event_d true s e).told.number ≡ desk.done → EventOnward s e (event_d true s e)
unfolding event_d told_leaves
accepted_onward s e w =
    rw w (λ z. onward s e (holds_pieces s w) (event_of s e) (event_ends s e) z)
