-- A line in the making on a lent output and a lent table of the pieces' starts. A byte that finds no room
-- in the output is not written and still counted, so the length is the line's whatever was lent.
use Rattle.std.specs.Prelude.{ℕ, ◌+◌, ◌-◌, ◌^◌, List, [], ◌∷◌, ◌++◌, length, take, drop, get_or, set, leb, ltb, eqb}
use Rattle.std.proofs.lemmas.List.Edits.{sets}
use Rattle.feature.specs.Pick.{pick}
use Rattle.spell.specs.Spell.{atom_text, bond_text, rnum_text}
use Rattle.table.specs.Limits.{atom_limit, lesser_of}
use Rattle.writer.specs.declared.Writer.{Writer}
use Rattle.std.specs.Prelude.{Err, Ok, Result}
use Rattle.writer.specs.declared.WriterError.TheVariants.{NoPiece}
use Rattle.writer.specs.declared.WriterError.TheVariants.{AtomRoom}
use Rattle.writer.specs.declared.WriterError.{WriterError}
use Rattle.writer.specs.declared.WriterError.TheVariants.{OutRoom}
use Rattle.writer.specs.declared.WriterError.TheVariants.{Overpop}
use Rattle.writer.specs.Line.{Event, Root, Extend, Join, Pop, dot_text, wrapped}

-- how many pieces are held and how long their line is; the output, and where each piece starts in it
pub record Spoken : Type 0 where
  pub at : Writer
  pub out : List ℕ
  pub starts : List ℕ

abbrev pub spoken : Writer → List ℕ → List ℕ → Spoken
spoken w out starts = record { at = w; out = out; starts = starts }

abbrev pub writer : ℕ → ℕ → Writer
writer n m = record { pieces = n; len = m }

-- how many pieces there is room for
unfoldable pub piece_room : List ℕ → ℕ
piece_room starts = lesser_of atom_limit (length starts)

-- a piece more, which starts where the line ends
unfoldable pub added : Spoken → List ℕ → Spoken
added s text =
    spoken (writer (s.at.pieces + 1) (s.at.len + length text))
    (sets s.out s.at.len text)
    (set s.starts s.at.pieces s.at.len)

unfoldable pub piece_t : Spoken → List ℕ → Spoken
piece_t s text = pick (leb (piece_room s.starts) s.at.pieces) s (added s text)

-- text after the last piece
unfoldable pub lengthened : Spoken → List ℕ → Spoken
lengthened s text =
    spoken (writer s.at.pieces (s.at.len + length text)) (sets s.out s.at.len text) s.starts

unfoldable pub join_t : Spoken → List ℕ → Spoken
join_t s text = pick (eqb s.at.pieces 0) s (lengthened s text)

-- where the last d pieces start
unfoldable pub last_start : List ℕ → Writer → ℕ → ℕ
last_start starts w d = pick (eqb d 0) w.len (lesser_of w.len (get_or starts (w.pieces - d) 0))

-- the n bytes from a place on
abbrev pub bytes_from : ℕ → ℕ → List ℕ → List ℕ
bytes_from at n out = take n (drop at out)

-- the bytes from a place on put in brackets, with n pieces left
unfoldable pub wrap_t : Spoken → ℕ → ℕ → Spoken
wrap_t s at n =
    spoken (writer n (s.at.len + 2)) (sets s.out at (wrapped (bytes_from at (s.at.len - at) s.out))) s.starts

unfoldable pub pop_t : Spoken → ℕ → Spoken
pop_t s d = pick (leb s.at.pieces d) s (wrap_t s (last_start s.starts s.at d) (s.at.pieces - d))

-- an event
unfoldable pub say_t : Spoken → Event → Spoken
say_t s (Root k) = piece_t s (dot_text s.at.pieces ++ atom_text k)
say_t s (Extend b k) = piece_t s (bond_text b ++ atom_text k)
say_t s (Join b n) = join_t s (bond_text b ++ rnum_text n)
say_t s (Pop d) = pop_t s d

-- events in order
unfoldable pub say_all : Spoken → List Event → Spoken
say_all s [] = s
say_all s (e ∷ es) = say_all (say_t s e) es

-- ---- a single event with its answer
pub record EventTold : Type 0 where
  pub answer : Result Writer WriterError
  pub out : List ℕ
  pub starts : List ℕ

abbrev pub told_with : Result Writer WriterError → List ℕ → List ℕ → EventTold
told_with r out starts = record { answer = r; out = out; starts = starts }

-- a refused event changes nothing
abbrev pub event_refusing : Spoken → Result Writer WriterError → EventTold
event_refusing s r = told_with r s.out s.starts

-- what an event comes to, where the output has room for it
unfoldable pub fitting : Spoken → Spoken → EventTold
fitting s n =
    pick (ltb (length s.out) n.at.len) (event_refusing s (Err (OutRoom n.at.len)))
    (told_with (Ok n.at) n.out n.starts)

-- 18, 19, 13, then 16
unfoldable pub event_of : Spoken → Event → EventTold
event_of s (Root k) =
    pick (leb (piece_room s.starts) s.at.pieces) (event_refusing s (Err (AtomRoom s.at.pieces))) (fitting s (say_t s (Root k)))
event_of s (Extend b k) =
    pick (leb (piece_room s.starts) s.at.pieces) (event_refusing s (Err (AtomRoom s.at.pieces)))
    (fitting s (say_t s (Extend b k)))
event_of s (Join b n) = pick (eqb s.at.pieces 0) (event_refusing s (Err NoPiece)) (fitting s (say_t s (Join b n)))
event_of s (Pop d) = pick (leb s.at.pieces d) (event_refusing s (Err Overpop)) (fitting s (say_t s (Pop d)))

-- ---- how far an event goes
-- so far below 2^32 that no sum here wraps
abbrev pub far : ℕ
far = 2 ^ 31
