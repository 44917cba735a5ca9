-- What an event makes of the tables is what it makes of the pieces that they hold, whatever output was lent. Assumes nothing.
use Prim.Native.Nat.{ℕ, zero, suc, ◌+◌, ◌-◌, ◌≤◌, ◌<◌}
use mathlib.Core.Path.{◌≡◌, refl, sym, ap, ◌∙◌, subst}
use mathlib.Core.Bool.{Bool, true, false}
use mathlib.Core.List.{List, [], ◌∷◌, ◌++◌, append_assoc, append-nil}
use native.Mathlib.Nat.{zero-add, sub-zero, zero-sub, suc-sub-suc, not-suc-le-zero}
use native.Mathlib.Omega.{arith}
use lib.ListN.{length, take, drop, get_or, set, length-append, length-drop, length-set, get_or-append}
use lib.Seq.{sets, length-sets, take-take, take-suc-set, take_at, take-nil, get_or-take, get_or_at}
use lib.Dec.{leb, eqb}
use borrow.Author.Tests.{eq-eqb, ne_eqb, leb-false, lt-leb}
use Rattle.feature.specs.Pick.{pick}
use Rattle.feature.specs.Text.{byte, bytes}
use Rattle.feature.proofs.Lists.{sets_append, sets_nil, sets_cons}
use Rattle.feature.proofs.Cases.{by_either}
use Rattle.table.specs.Limits.{atom_limit, lesser_of}
use Rattle.spell.specs.Spell.{atom_text, bond_text, rnum_text}
use Rattle.table.proofs.Rooms.{lesser_cases, lesser_held}
use Rattle.writer.specs.Line.{Event, Root, Extend, Join, Pop, line_of, dot_text, add_piece, on_last, wrapped, pop_pieces, write_event, write_events}
use Rattle.writer.specs.Tables.{Spoken, spoken, writer, piece_room, added, piece_t, lengthened, join_t, last_start, bytes_from, wrap_t, pop_t, say_t, say_all}
use Rattle.writer.specs.Pieces.{piece_starts, Holds}
use Rattle.table.proofs.Stores.{sets_same, sets_over}

-- ---- the line of pieces
pub length_starts : (ps : List (List ℕ)) → length (piece_starts ps) ≡ length ps
unfolding piece_starts
length_starts [] = refl
length_starts (p ∷ ps) = length-append (piece_starts ps) _ ∙ simp (length_starts ps) (omega arith)

pub length_on_last : (x : List ℕ) (ps : List (List ℕ)) → length (on_last x ps) ≡ length ps
unfolding on_last
length_on_last x [] = refl
length_on_last x (p ∷ ps) = refl

pub starts_on_last : (x : List ℕ) (ps : List (List ℕ)) → piece_starts (on_last x ps) ≡ piece_starts ps
unfolding on_last piece_starts
starts_on_last x [] = refl
starts_on_last x (p ∷ ps) = refl

pub line_on_last : (x : List ℕ) (ps : List (List ℕ)) → 0 < length ps → line_of (on_last x ps) ≡ line_of ps ++ x
unfolding on_last line_of
line_on_last x [] h = absurd (not-suc-le-zero h)
line_on_last x (p ∷ ps) h = sym (append_assoc (line_of ps) p x)

-- the last d pieces and those before them
pub line_split : (d : ℕ) (ps : List (List ℕ)) → line_of ps ≡ line_of (drop d ps) ++ line_of (take d ps)
unfolding line_of
line_split zero ps = sym (append-nil (line_of ps))
line_split (suc d) [] = refl
line_split (suc d) (p ∷ ps) = rw (line_split d ps) (append_assoc (line_of (drop d ps)) _ _)

starts_split : (d : ℕ) (ps : List (List ℕ)) → (x : List ℕ) × (piece_starts ps ≡ piece_starts (drop d ps) ++ x)
unfolding piece_starts
starts_split zero ps = ([], sym (append-nil (piece_starts ps)))
starts_split (suc d) [] = ([], refl)
starts_split (suc d) (p ∷ ps) =
    let r = starts_split d ps in
    (r.0 ++ (length (line_of ps) ∷ []), ap (λ (z : List ℕ). z ++ (length (line_of ps) ∷ [])) r.1 ∙ append_assoc (piece_starts (drop d ps)) _ _)

start_at : (d : ℕ) (ps : List (List ℕ)) → suc d ≤ length ps → get_or (piece_starts ps) (length ps - suc d) 0 ≡ length (line_of (drop (suc d) ps))
unfolding piece_starts
start_at d [] h = absurd (not-suc-le-zero h)
start_at zero (p ∷ ps) h = get_or_at (piece_starts ps) _ [] 0 _ (length_starts ps ∙ omega arith)
start_at (suc d) (p ∷ ps) h =
    let e : suc (length ps) - suc (suc d) ≡ length ps - suc d = omega arith in
    rw e (get_or-append (piece_starts ps) _ 0 _ (omega (arith, length_starts ps)) ∙ start_at d ps (omega arith))

-- ---- what is in an output that may be too short
-- the line's end, as far as there is room for it
stands_end : (o M : List ℕ) → take (length M) (sets o 0 M) ≡ take (length o) M
stands_end o [] = sym (take-nil (length o))
stands_end [] (v ∷ M) = ap (λ (z : List ℕ). take (suc (length M)) z) (sets_nil 0 (v ∷ M))
stands_end (x ∷ o) (v ∷ M) =
    ap (λ (z : List ℕ). take (suc (length M)) z) (sets_cons v o 0 M) ∙ ap (λ (z : List ℕ). v ∷ z) (stands_end o M)

stands_part : (o L M : List ℕ) → take (length M) (drop (length L) (sets o 0 (L ++ M))) ≡ take (length o - length L) M
stands_part o [] M = stands_end o M ∙ ap (λ (n : ℕ). take n M) (sym (sub-zero (length o)))
stands_part [] (l ∷ L) M =
    ap (λ (z : List ℕ). take (length M) (drop (suc (length L)) z)) (sets_nil 0 (l ∷ (L ++ M)))
    ∙ take-nil (length M)
    ∙ ap (λ (n : ℕ). take n M) (sym (zero-sub (suc (length L))))
stands_part (x ∷ o) (l ∷ L) M =
    ap (λ (z : List ℕ). take (length M) (drop (suc (length L)) z)) (sets_cons l o 0 (L ++ M))
    ∙ stands_part o L M
    ∙ ap (λ (n : ℕ). take n M) (sym (suc-sub-suc (length o) (length L)))

-- what is cut off has no room in brackets either
cut_end : (j : ℕ) (M c : List ℕ) → take j (take (suc j) M ++ c) ≡ take j (M ++ c)
cut_end zero M c = refl
cut_end (suc j) [] c = refl
cut_end (suc j) (x ∷ M) c = ap (λ (z : List ℕ). x ∷ z) (cut_end j M c)

cut_wrapped : (k : ℕ) (M : List ℕ) → take k (wrapped (take k M)) ≡ take k (wrapped M)
unfolding wrapped
cut_wrapped zero M = refl
cut_wrapped (suc k) M = ap (λ (z : List ℕ). byte "(" ∷ z) (cut_end k M (bytes ")"))

pub long_wrapped : (M : List ℕ) → length (wrapped M) ≡ length M + 2
unfolding wrapped
long_wrapped M = ap (λ (n : ℕ). suc n) (length-append M (bytes ")")) ∙ omega arith

-- the end of a line put in brackets
pub wrap_line : (o L M : List ℕ) (at n : ℕ) → at ≡ length L → n ≡ length M
    → sets (sets o 0 (L ++ M)) at (wrapped (bytes_from at n (sets o 0 (L ++ M)))) ≡ sets o 0 (L ++ wrapped M)
wrap_line o L M at n e f =
    let k : length (sets o 0 (L ++ M)) ≡ length o = length-sets o 0 (L ++ M) in
    let z : 0 + length L ≡ length L = zero-add (length L) in
    ap (λ (i : ℕ). sets (sets o 0 (L ++ M)) i (wrapped (bytes_from i n (sets o 0 (L ++ M))))) e
    ∙ ap (λ (j : ℕ). sets (sets o 0 (L ++ M)) (length L) (wrapped (bytes_from (length L) j (sets o 0 (L ++ M))))) f
    ∙ ap (λ (t : List ℕ). sets (sets o 0 (L ++ M)) (length L) (wrapped t)) (stands_part o L M)
    ∙ sets_same (sets o 0 (L ++ M)) (length L) (wrapped (take (length o - length L) M)) (wrapped M)
    (rw k (cut_wrapped (length o - length L) M))
    ∙ ap (λ (t : List ℕ). sets t (length L) (wrapped M))
    (sets_append o 0 L M ∙ ap (λ (i : ℕ). sets (sets o 0 L) i M) z)
    ∙ sets_over (sets o 0 L) (length L) M (wrapped M) (omega (arith, long_wrapped M))
    ∙ ap (λ (i : ℕ). sets (sets o 0 L) i (wrapped M)) (sym z)
    ∙ sym (sets_append o 0 L (wrapped M))

-- ---- one event
-- a piece more, where there is room
pub piece_added : (most : ℕ) (text : List ℕ) (ps : List (List ℕ)) → length ps < most → add_piece most text ps ≡ text ∷ ps
unfolding add_piece
piece_added most text ps h = simp (lt-leb most (length ps) h)

-- there is no room for more pieces than starts
pub room_held : (starts : List ℕ) → piece_room starts ≤ length starts
unfolding piece_room
room_held starts = lesser_held atom_limit (length starts)

-- the room goes by the table's length alone
room_same : (l m : List ℕ) → length l ≡ length m → piece_room l ≡ piece_room m
unfolding piece_room
room_same l m e = ap (λ (n : ℕ). lesser_of atom_limit n) e

module _ {o : List ℕ} {ps : List (List ℕ)} {s : Spoken} (h : Holds o ps s) where
  more_piece : (text : List ℕ) → length ps < piece_room s.starts → Holds o (text ∷ ps) (added s text)
  unfolding added line_of piece_starts
  more_piece text g =
      record {
        pieces = omega (arith, h.pieces);
        len = omega (arith, h.len, length-append (line_of ps) text);
        line =
            ap (λ (z : List ℕ). sets z s.at.len text) h.line
            ∙ ap (λ (i : ℕ). sets (sets o 0 (line_of ps)) i text) (h.len ∙ sym (zero-add (length (line_of ps))))
            ∙ sym (sets_append o 0 (line_of ps) text);
        starts =
            ap (λ (i : ℕ). take (suc (length ps)) (set s.starts i s.at.len)) h.pieces
            ∙ take-suc-set s.starts (length ps) s.at.len (omega (arith, room_held s.starts))
            ∙ ap (λ (z : List ℕ). z ++ (s.at.len ∷ [])) h.starts
            ∙ ap (λ (k : ℕ). piece_starts ps ++ (k ∷ [])) h.len;
        room = omega (arith, room_same (set s.starts s.at.pieces s.at.len) s.starts (length-set s.starts s.at.pieces s.at.len));
      }

  holds_piece : (text : List ℕ) → Holds o (add_piece (piece_room s.starts) text ps) (piece_t s text)
  unfolding add_piece piece_t
  holds_piece text = go (leb (piece_room s.starts) (length ps)) refl
    where
      same : leb (piece_room s.starts) s.at.pieces ≡ leb (piece_room s.starts) (length ps)
      same = ap (λ (n : ℕ). leb (piece_room s.starts) n) h.pieces

      go : (t : Bool) → leb (piece_room s.starts) (length ps) ≡ t
          → Holds o (pick (leb (piece_room s.starts) (length ps)) ps (text ∷ ps))
          (pick (leb (piece_room s.starts) s.at.pieces) s (added s text))
      go true e = simp (same, e) h
      go false e = simp (same, e) (more_piece text (leb-false (piece_room s.starts) (length ps) e))

  longer_piece : (text : List ℕ) → 0 < length ps → Holds o (on_last text ps) (lengthened s text)
  unfolding lengthened
  longer_piece text g =
      record {
        pieces = h.pieces ∙ sym (length_on_last text ps);
        len = rw (line_on_last text ps g) (omega (arith, h.len, length-append (line_of ps) text));
        line =
            ap (λ (z : List ℕ). sets z s.at.len text) h.line
            ∙ ap (λ (i : ℕ). sets (sets o 0 (line_of ps)) i text) (h.len ∙ sym (zero-add (length (line_of ps))))
            ∙ sym (sets_append o 0 (line_of ps) text)
            ∙ ap (λ (z : List ℕ). sets o 0 z) (sym (line_on_last text ps g));
        starts = rw (length_on_last text ps, starts_on_last text ps) h.starts;
        room = rw (length_on_last text ps) h.room;
      }

  start_is : (d : ℕ) → d < length ps → last_start s.starts s.at d ≡ length (line_of (drop d ps))
  unfolding last_start
  start_is zero g = h.len
  start_is (suc d) g =
      let x : get_or s.starts (s.at.pieces - suc d) 0 ≡ length (line_of (drop (suc d) ps)) =
      ap (λ (i : ℕ). get_or s.starts (i - suc d) 0) h.pieces
      ∙ sym (get_or-take (length ps) s.starts (length ps - suc d) 0 (omega arith))
      ∙ ap (λ (z : List ℕ). get_or z (length ps - suc d) 0) h.starts
      ∙ start_at d ps (omega arith) in
      let y : length (line_of ps) ≡ length (line_of (drop (suc d) ps)) + length (line_of (take (suc d) ps)) =
      ap length (line_split (suc d) ps) ∙ length-append (line_of (drop (suc d) ps)) _ in
      simp (ne_eqb (suc d) 0 (λ z. omega arith))
      (lesser_cases s.at.len (get_or s.starts (s.at.pieces - suc d) 0) (lesser_of s.at.len (get_or s.starts (s.at.pieces - suc d) 0)) refl
      (λ l e. e ∙ x)
      (λ l e. e ∙ omega (arith, h.len)))

  less_pieces : (d : ℕ) → d < length ps
      → Holds o (on_last (wrapped (line_of (take d ps))) (drop d ps)) (wrap_t s (last_start s.starts s.at d) (s.at.pieces - d))
  unfolding wrap_t
  less_pieces d g =
      let a : last_start s.starts s.at d ≡ length (line_of (drop d ps)) = start_is d g in
      let y : length (line_of ps) ≡ length (line_of (drop d ps)) + length (line_of (take d ps)) =
      ap length (line_split d ps) ∙ length-append (line_of (drop d ps)) _ in
      let k : length (drop d ps) ≡ length ps - d = length-drop d ps in
      let t : List ℕ = wrapped (line_of (take d ps)) in
      let q : line_of (on_last t (drop d ps)) ≡ line_of (drop d ps) ++ t = line_on_last t (drop d ps) (omega arith) in
      record {
        pieces = omega (arith, h.pieces, length_on_last t (drop d ps));
        len = rw q (omega (arith, h.len, length-append (line_of (drop d ps)) t, long_wrapped (line_of (take d ps))));
        line =
            ap (λ (z : List ℕ). sets z (last_start s.starts s.at d) (wrapped (bytes_from (last_start s.starts s.at d) (s.at.len - last_start s.starts s.at d) z)))
            (h.line ∙ ap (λ (z : List ℕ). sets o 0 z) (line_split d ps))
            ∙ wrap_line o (line_of (drop d ps)) (line_of (take d ps)) (last_start s.starts s.at d) (s.at.len - last_start s.starts s.at d) a (omega (arith, h.len))
            ∙ ap (λ (z : List ℕ). sets o 0 z) (sym q);
        starts =
            ap (λ (n : ℕ). take n s.starts) (length_on_last t (drop d ps))
            ∙ sym (take-take (length (drop d ps)) (length ps) s.starts (omega arith))
            ∙ ap (λ (z : List ℕ). take (length (drop d ps)) z) (h.starts ∙ (starts_split d ps).1)
            ∙ take_at (piece_starts (drop d ps)) _ (length (drop d ps)) (length_starts (drop d ps))
            ∙ sym (starts_on_last t (drop d ps));
        room = omega (arith, h.room, length_on_last t (drop d ps));
      }

  holds_pop : (d : ℕ) → Holds o (pop_pieces d ps) (pop_t s d)
  unfolding pop_pieces pop_t
  holds_pop d = go (leb (length ps) d) refl
    where
      same : leb s.at.pieces d ≡ leb (length ps) d
      same = ap (λ (n : ℕ). leb n d) h.pieces

      go : (t : Bool) → leb (length ps) d ≡ t
          → Holds o (pick (leb (length ps) d) ps (on_last (wrapped (line_of (take d ps))) (drop d ps)))
          (pick (leb s.at.pieces d) s (wrap_t s (last_start s.starts s.at d) (s.at.pieces - d)))
      go true e = simp (same, e) h
      go false e = simp (same, e) (less_pieces d (leb-false (length ps) d e))

holds_join : (o : List ℕ) (ps : List (List ℕ)) (s : Spoken) → Holds o ps s → (text : List ℕ) → Holds o (on_last text ps) (join_t s text)
unfolding join_t on_last
holds_join o [] s h text = simp (eq-eqb s.at.pieces 0 h.pieces) h
holds_join o (p ∷ ps) s h text = simp (ne_eqb s.at.pieces 0 (λ e. omega (arith, h.pieces))) (longer_piece h text (omega arith))

pub holds_step : {o : List ℕ} {ps : List (List ℕ)} {s : Spoken} (e : Event) → Holds o ps s → Holds o (write_event (piece_room s.starts) e ps) (say_t s e)
unfolding write_event say_t
holds_step {o} {ps} {s} (Root k) h =
    subst (λ (n : ℕ). Holds o (add_piece (piece_room s.starts) (dot_text (length ps) ++ atom_text k) ps) (piece_t s (dot_text n ++ atom_text k)))
    (sym h.pieces)
    (holds_piece h (dot_text (length ps) ++ atom_text k))
holds_step (Extend b k) h = holds_piece h (bond_text b ++ atom_text k)
holds_step {o} {ps} {s} (Join b n) h = holds_join o ps s h (bond_text b ++ rnum_text n)
holds_step (Pop d) h = holds_pop h d

-- ---- the table's length
pub say_starts : (s : Spoken) (e : Event) → length (say_t s e).starts ≡ length s.starts
unfolding say_t piece_t added join_t lengthened pop_t wrap_t
say_starts s (Root k) = by_either (λ (z : Spoken). length z.starts ≡ length s.starts) (leb (piece_room s.starts) s.at.pieces) refl (length-set s.starts s.at.pieces s.at.len)
say_starts s (Extend b k) = by_either (λ (z : Spoken). length z.starts ≡ length s.starts) (leb (piece_room s.starts) s.at.pieces) refl (length-set s.starts s.at.pieces s.at.len)
say_starts s (Join b n) = by_either (λ (z : Spoken). length z.starts ≡ length s.starts) (eqb s.at.pieces 0) refl refl
say_starts s (Pop d) = by_either (λ (z : Spoken). length z.starts ≡ length s.starts) (leb s.at.pieces d) refl refl

pub say_room : (s : Spoken) (e : Event) → piece_room (say_t s e).starts ≡ piece_room s.starts
say_room s e = room_same (say_t s e).starts s.starts (say_starts s e)

pub say_all_room : (s : Spoken) (es : List Event) → piece_room (say_all s es).starts ≡ piece_room s.starts
unfolding say_all
say_all_room s [] = refl
say_all_room s (e ∷ es) = say_all_room (say_t s e) es ∙ say_room s e

-- ---- events in order
pub holds_all : {o : List ℕ} {ps : List (List ℕ)} {s : Spoken} (es : List Event) → Holds o ps s
    → Holds o (write_events (piece_room s.starts) es ps) (say_all s es)
unfolding write_events say_all
holds_all {ps = ps} [] h = h
holds_all {o} {ps} {s} (e ∷ es) h =
    subst (λ (n : ℕ). Holds o (write_events n es (write_event (piece_room s.starts) e ps)) (say_all (say_t s e) es)) (say_room s e)
    (holds_all {ps = write_event (piece_room s.starts) e ps} es (holds_step e h))

-- nothing said holds no pieces
pub holds_none : (o starts : List ℕ) → Holds o [] (spoken (writer 0 0) o starts)
unfolding line_of piece_starts
holds_none o starts = record { pieces = refl; len = refl; line = refl; starts = refl; room = omega arith }
