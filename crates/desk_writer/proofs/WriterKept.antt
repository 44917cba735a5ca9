-- What stands for a writer's state still does after an event that is held, so that the answer can be handed in again, as long as
-- its line is below 2^31. A writer that holds nothing has a state, whatever was lent. Assumes nothing.
use Prim.{⊥}
use Prim.Native.Nat.{ℕ, zero, suc, ◌+◌, ◌-◌, ◌≤◌, ◌<◌}
use mathlib.Core.Path.{◌≡◌, refl, sym, ap, ◌∙◌}
use mathlib.Core.Bool.{Bool, true, false}
use mathlib.Core.List.{List, ◌++◌}
use native.Mathlib.Omega.{arith}
use native.Mathlib.Nat.{pos_of_ne-zero}
use lib.ListN.{length, get_or, set, length-set}
use lib.Seq.{sets, length-sets, get_or-set_same, get_or-set_other}
use lib.Dec.{ltb, leb, eqb}
use borrow.Author.Tests.{lt-ltb, le-ltb, le-leb, lt-leb, eq-eqb, ne_eqb, ltb-true, ltb-false, leb-true, leb-false, eqb-true, eqb-false}
use Rattle.feature.specs.Pick.{pick, both}
use Rattle.spell.specs.Spell.{atom_text, bond_text, rnum_text}
use Rattle.writer.specs.declared.Writer.{Writer}
use Rattle.std.specs.Prelude.{Err, Ok, Result}
use Rattle.writer.specs.declared.WriterError.TheVariants.{AtomRoom, OutRoom, NoPiece, Overpop}
use Rattle.writer.specs.declared.WriterError.{WriterError}
use Rattle.writer.specs.Line.{Event, Root, Extend, Join, Pop, dot_text, wrapped}
use Rattle.writer.specs.Tables.{Spoken, spoken, writer, piece_room, added, piece_t, lengthened, join_t, last_start, bytes_from, wrap_t, pop_t, say_t, EventTold, told_with, event_refusing, fitting, event_of, far}
use Rattle.writer.proofs.Pieces.{room_held}
use Rattle.feature.specs.Every.{every}
use Rattle.desk_writer.specs.Pieces.{piece_end, is_piece, pieces_stand, is_writer}
use Rattle.feature.proofs.Every.{every_at, every_all}
use Rattle.feature.proofs.Cases.{by_test, both_first, both_second, both_pass}

-- ---- where a piece ends
end_inner : (starts : List ℕ) (w : Writer) (i : ℕ) → i + 1 < w.pieces → piece_end starts w i ≡ get_or starts (i + 1) 0
unfolding piece_end
end_inner starts w i h = rw (lt-ltb _ _ h)

end_last : (starts : List ℕ) (w : Writer) (i : ℕ) → w.pieces ≤ i + 1 → piece_end starts w i ≡ w.len
unfolding piece_end
end_last starts w i h = rw (le-ltb _ _ h)

-- ---- the test of pieces as facts
pub record Laid (starts : List ℕ) (w : Writer) : Type 0 where
  pub none : w.pieces ≡ 0 → w.len ≡ 0
  pub nought : 0 < w.pieces → get_or starts 0 0 ≡ 0
  pub each : (i : ℕ) → i < w.pieces → get_or starts i 0 ≤ piece_end starts w i

laid : (starts : List ℕ) (w : Writer) → pieces_stand starts w ≡ true → Laid starts w
unfolding pieces_stand is_piece
laid starts w h = go (eqb w.pieces 0) refl h where
  go : (q : Bool) → eqb w.pieces 0 ≡ q → pick q (eqb w.len 0) (both (eqb (get_or starts 0 0) 0) (every (is_piece starts w) w.pieces)) ≡ true → Laid starts w
  go true q k =
      let e = eqb-true w.pieces 0 q in
      record {
        none = λ z. eqb-true w.len 0 k;
        nought = λ z. absurd (omega arith);
        each = λ (i : ℕ) (l : i < w.pieces). absurd (omega arith);
      }
  go false q k =
      record {
        none = λ z. absurd (eqb-false w.pieces 0 q z);
        nought = λ z. eqb-true (get_or starts 0 0) 0 (both_first (eqb (get_or starts 0 0) 0) _ k);
        each = λ (i : ℕ) (l : i < w.pieces). leb-true (get_or starts i 0) (piece_end starts w i) (every_at (is_piece starts w) w.pieces i (both_second (eqb (get_or starts 0 0) 0) _ k) l);
      }

lies : (starts : List ℕ) (w : Writer) → Laid starts w → pieces_stand starts w ≡ true
unfolding pieces_stand is_piece
lies starts w h =
    by_test (λ (z : Bool). z ≡ true) (eqb w.pieces 0) {x = eqb w.len 0} {y = both (eqb (get_or starts 0 0) 0) (every (is_piece starts w) w.pieces)}
    (λ q. eq-eqb w.len 0 (h.none (eqb-true w.pieces 0 q)))
    (λ q. both_pass (eq-eqb (get_or starts 0 0) 0 (h.nought (pos_of_ne-zero (eqb-false w.pieces 0 q)))) (every_all (is_piece starts w) w.pieces (λ (i : ℕ) (l : i < w.pieces). le-leb (get_or starts i 0) (piece_end starts w i) (h.each i l))))

-- a piece starts within the line
within : (starts : List ℕ) (w : Writer) → Laid starts w → (k i : ℕ) → i + k + 1 ≡ w.pieces → get_or starts i 0 ≤ w.len
within starts w h zero i e =
    let a = h.each i (omega arith) in
    let b = end_last starts w i (omega arith) in
    omega (arith, a, b)
within starts w h (suc k) i e =
    let a = h.each i (omega arith) in
    let b = end_inner starts w i (omega arith) in
    let c = within starts w h k (i + 1) (omega arith) in
    omega (arith, a, b, c)

pub starts_within : (starts : List ℕ) (w : Writer) → Laid starts w → (i : ℕ) → i < w.pieces → get_or starts i 0 ≤ w.len
starts_within starts w h i l = within starts w h (w.pieces - i - 1) i (omega arith)

-- the pieces before the last one, which end where that one starts
pub laid_before : (starts : List ℕ) (n end : ℕ) → Laid starts (writer (suc n) end) → Laid starts (writer n (get_or starts n 0))
laid_before starts n end h =
    record {
      none = λ z. ap (λ (i : ℕ). get_or starts i 0) z ∙ h.nought (omega arith);
      nought = λ z. h.nought (omega arith);
      each = λ (i : ℕ) (l : i < n). go i l (ltb (i + 1) n) refl;
    }
  where
    go : (i : ℕ) → i < n → (q : Bool) → ltb (i + 1) n ≡ q → get_or starts i 0 ≤ piece_end starts (writer n (get_or starts n 0)) i
    go i l true q =
        let j = ltb-true (i + 1) n q in
        let a = h.each i (omega arith) in
        let b = end_inner starts (writer (suc n) end) i (omega arith) in
        let c = end_inner starts (writer n (get_or starts n 0)) i j in
        omega (arith, a, b, c)
    go i l false q =
        let j = ltb-false (i + 1) n q in
        let a = h.each i (omega arith) in
        let b = end_inner starts (writer (suc n) end) i (omega arith) in
        let c = end_last starts (writer n (get_or starts n 0)) i j in
        let e : i + 1 ≡ n = omega arith in
        let d : get_or starts (i + 1) 0 ≡ get_or starts n 0 = ap (λ (k : ℕ). get_or starts k 0) e in
        omega (arith, a, b, c, d)

-- ---- a piece more, which starts where the line ends
module _ (starts : List ℕ) (w : Writer) (h : Laid starts w) (n : ℕ) (room : w.pieces < length starts) where
  abbrev more : List ℕ
  more = set starts w.pieces w.len

  abbrev grown : Writer
  grown = writer (w.pieces + 1) (w.len + n)

  new : (i : ℕ) → i ≡ w.pieces → get_or more i 0 ≡ w.len
  new i e = rw e (get_or-set_same starts w.pieces w.len 0 room)

  old : (i : ℕ) → i < w.pieces → get_or more i 0 ≡ get_or starts i 0
  old i l = get_or-set_other starts w.pieces i w.len 0 (λ e. omega arith)

  more_nought : get_or more 0 0 ≡ 0
  more_nought = go (eqb w.pieces 0) refl where
    go : (q : Bool) → eqb w.pieces 0 ≡ q → get_or more 0 0 ≡ 0
    go true q = let e = eqb-true w.pieces 0 q in new 0 (sym e) ∙ h.none e
    go false q = let l = pos_of_ne-zero (eqb-false w.pieces 0 q) in old 0 l ∙ h.nought l

  more_each : (i : ℕ) → i < w.pieces + 1 → get_or more i 0 ≤ piece_end more grown i
  more_each i l = go (ltb i w.pieces) (ltb (i + 1) w.pieces) refl refl where
    go : (q r : Bool) → ltb i w.pieces ≡ q → ltb (i + 1) w.pieces ≡ r → get_or more i 0 ≤ piece_end more grown i
    go false r q s =
        let k = ltb-false i w.pieces q in
        let a = new i (omega arith) in
        let b = end_last more grown i (omega arith) in
        omega (arith, a, b)
    go true true q s =
        let j = ltb-true (i + 1) w.pieces s in
        let a = old i (omega arith) in
        let b = end_inner more grown i (omega arith) in
        let c = old (i + 1) j in
        let d = h.each i (omega arith) in
        let e = end_inner starts w i j in
        omega (arith, a, b, c, d, e)
    go true false q s =
        let k = ltb-true i w.pieces q in
        let j = ltb-false (i + 1) w.pieces s in
        let a = old i k in
        let b = end_inner more grown i (omega arith) in
        let c = new (i + 1) (omega arith) in
        let d = h.each i k in
        let e = end_last starts w i j in
        omega (arith, a, b, c, d, e)

  more_laid : Laid more grown
  more_laid =
      record {
        none = λ z. absurd (omega arith);
        nought = λ z. more_nought;
        each = more_each;
      }

-- ---- no more pieces, and a line that is no shorter
fewer_laid : (starts : List ℕ) (w : Writer) → Laid starts w → (n m : ℕ) → 0 < n → n ≤ w.pieces → w.len ≤ m → Laid starts (writer n m)
fewer_laid starts w h n m pos less long =
    record {
      none = λ z. absurd (omega arith);
      nought = λ z. h.nought (omega arith);
      each = λ (i : ℕ) (l : i < n). go i l (ltb (i + 1) n) refl;
    }
  where
    go : (i : ℕ) → i < n → (q : Bool) → ltb (i + 1) n ≡ q → get_or starts i 0 ≤ piece_end starts (writer n m) i
    go i l true q =
        let j = ltb-true (i + 1) n q in
        let a = h.each i (omega arith) in
        let b = end_inner starts w i (omega arith) in
        let c = end_inner starts (writer n m) i j in
        omega (arith, a, b, c)
    go i l false q =
        let j = ltb-false (i + 1) n q in
        let a = end_last starts (writer n m) i j in
        let b = within starts w h (w.pieces - i - 1) i (omega arith) in
        omega (arith, a, b)

-- ---- the test of a writer as facts
pub record Writes (s : Spoken) : Type 0 where
  pub pieces : s.at.pieces ≤ piece_room s.starts
  pub line : s.at.len ≤ length s.out
  pub near : s.at.len < far
  pub laid : Laid s.starts s.at

pub facts : (s : Spoken) → is_writer s ≡ true → Writes s
unfolding is_writer
facts s h1 =
    let h2 = both_second (leb s.at.pieces (piece_room s.starts)) _ h1 in
    let h3 = both_second (leb s.at.len (length s.out)) _ h2 in
    record {
      pieces = leb-true _ _ (both_first (leb s.at.pieces (piece_room s.starts)) _ h1);
      line = leb-true _ _ (both_first (leb s.at.len (length s.out)) _ h2);
      near = ltb-true _ _ (both_first (ltb s.at.len far) _ h3);
      laid = laid s.starts s.at (both_second (ltb s.at.len far) _ h3);
    }

pub stands : (s : Spoken) → Writes s → is_writer s ≡ true
unfolding is_writer
stands s h =
    both_pass (le-leb _ _ h.pieces)
    (both_pass (le-leb _ _ h.line)
    (both_pass (lt-ltb _ _ h.near)
    (lies s.starts s.at h.laid)))

-- ---- what an event leaves
abbrev pub KeepsBy : Spoken → List ℕ → List ℕ → Result Writer WriterError → Type 0
KeepsBy s out starts (Ok w) = w.len < far → is_writer (spoken w out starts) ≡ true
KeepsBy s out starts (Err why) = (out ≡ s.out) × (starts ≡ s.starts)

abbrev pub Keeps : Spoken → EventTold → Type 0
Keeps s t = KeepsBy s t.out t.starts t.answer

fitting_kept : (s n : Spoken) → (n.at.len ≤ length s.out → n.at.len < far → Writes n) → Keeps s (fitting s n)
unfolding fitting
fitting_kept s n h =
    by_test (λ (t : EventTold). Keeps s t) (ltb (length s.out) n.at.len) {x = event_refusing s (Err (OutRoom n.at.len))} {y = told_with (Ok n.at) n.out n.starts}
    (λ q. (refl, refl))
    (λ q l. stands (spoken n.at n.out n.starts) (h (ltb-false (length s.out) n.at.len q) l))

room_set : (starts : List ℕ) (i v : ℕ) → piece_room (set starts i v) ≡ piece_room starts
unfolding piece_room
room_set starts i v = rw (length-set starts i v)

module _ (s : Spoken) (h : Writes s) where
  piece_kept : (text : List ℕ) → s.at.pieces < piece_room s.starts → Keeps s (fitting s (piece_t s text))
  unfolding piece_t added
  piece_kept text l =
      rw (lt-leb _ _ l)
      (fitting_kept s (spoken (writer (s.at.pieces + 1) (s.at.len + length text)) (sets s.out s.at.len text) (set s.starts s.at.pieces s.at.len))
      (λ fits near. record {
        pieces = rw room_set (omega arith);
        line = rw length-sets fits;
        near = near;
        laid = more_laid s.starts s.at h.laid (length text) (omega (arith, room_held s.starts));
      }))

  join_kept : (text : List ℕ) → (s.at.pieces ≡ 0 → ⊥) → Keeps s (fitting s (join_t s text))
  unfolding join_t lengthened
  join_kept text z =
      rw (ne_eqb _ _ z)
      (fitting_kept s (spoken (writer s.at.pieces (s.at.len + length text)) (sets s.out s.at.len text) s.starts)
      (λ fits near. record {
        pieces = h.pieces;
        line = rw length-sets fits;
        near = near;
        laid = fewer_laid s.starts s.at h.laid s.at.pieces (s.at.len + length text) (pos_of_ne-zero z) (omega arith) (omega arith);
      }))

  pop_kept : (d : ℕ) → d < s.at.pieces → Keeps s (fitting s (pop_t s d))
  unfolding pop_t wrap_t
  pop_kept d l =
      rw (lt-leb _ _ l)
      (fitting_kept s (spoken (writer (s.at.pieces - d) (s.at.len + 2)) (sets s.out (last_start s.starts s.at d) (wrapped (bytes_from (last_start s.starts s.at d) (s.at.len - last_start s.starts s.at d) s.out))) s.starts)
      (λ fits near. record {
        pieces = omega (arith, h.pieces);
        line = rw length-sets fits;
        near = near;
        laid = fewer_laid s.starts s.at h.laid (s.at.pieces - d) (s.at.len + 2) (omega arith) (omega arith) (omega arith);
      }))

  kept : (e : Event) → Keeps s (event_of s e)
  unfolding event_of say_t
  kept (Root k) =
      by_test (λ (t : EventTold). Keeps s t) (leb (piece_room s.starts) s.at.pieces) {x = event_refusing s (Err (AtomRoom s.at.pieces))} {y = fitting s (piece_t s (dot_text s.at.pieces ++ atom_text k))}
      (λ q. (refl, refl))
      (λ q. piece_kept (dot_text s.at.pieces ++ atom_text k) (leb-false _ _ q))
  kept (Extend b k) =
      by_test (λ (t : EventTold). Keeps s t) (leb (piece_room s.starts) s.at.pieces) {x = event_refusing s (Err (AtomRoom s.at.pieces))} {y = fitting s (piece_t s (bond_text b ++ atom_text k))}
      (λ q. (refl, refl))
      (λ q. piece_kept (bond_text b ++ atom_text k) (leb-false _ _ q))
  kept (Join b n) =
      by_test (λ (t : EventTold). Keeps s t) (eqb s.at.pieces 0) {x = event_refusing s (Err NoPiece)} {y = fitting s (join_t s (bond_text b ++ rnum_text n))}
      (λ q. (refl, refl))
      (λ q. join_kept (bond_text b ++ rnum_text n) (eqb-false _ _ q))
  kept (Pop d) =
      by_test (λ (t : EventTold). Keeps s t) (leb s.at.pieces d) {x = event_refusing s (Err Overpop)} {y = fitting s (pop_t s d)}
      (λ q. (refl, refl))
      (λ q. pop_kept d (leb-false _ _ q))

pub event_kept : (s : Spoken) (e : Event) → is_writer s ≡ true → Keeps s (event_of s e)
event_kept s e h = kept s (facts s h) e

-- ---- a writer that holds nothing
pub empty_stands : (out starts : List ℕ) → is_writer (spoken (writer 0 0) out starts) ≡ true
empty_stands out starts =
    stands (spoken (writer 0 0) out starts)
    (record {
      pieces = omega arith;
      line = omega arith;
      near = omega arith;
      laid = record { none = λ z. refl; nought = λ z. absurd (omega arith); each = λ (i : ℕ) (l : i < 0). absurd (omega arith) };
    })
