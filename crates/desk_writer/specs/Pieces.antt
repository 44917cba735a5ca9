-- The events of a writer as single calls, for any output, any starts and any numbers. Where those handed in stand for no
-- writer's state, no atom or no ring number, the answer is 17 and carries 0, and nothing changes; else the event gives its own
-- answer, 18, 19, 13 or 16, or is held. The first event that is held leaves zeros after its line. A bond's kind is one of eight names, so it always stands for a bond.
--
-- Numbers stand for a writer's state if there is room for the pieces, their line is within the output and below 2^31, so that
-- a start fits a word of a table, and the pieces make up that line: the first starts at 0 and each ends no sooner than it
-- starts, which is where the next one starts, or where the line ends; with no piece the line is empty.
use Rattle.std.specs.Prelude.{ℕ, ◌+◌, List, [], ◌∷◌, Bool, length, get_or, ltb, leb, eqb, Result, Ok, Err}
use Rattle.feature.specs.Pick.{pick, both}
use Rattle.writer.specs.declared.Writer.{Writer}
use Rattle.writer.specs.declared.WriterError.{WriterError}
use Rattle.writer.specs.declared.WriterError.TheVariants as writer
use Rattle.writer.specs.Line.{Event}
use Rattle.writer.specs.Tables.{Spoken, EventTold, piece_room, event_of, far}
use Rattle.desk_writer.specs.declared.Refusal.TheVariants.{AtomRoom, OutRoom, NoPiece, Overpop, BadTable}
use Rattle.desk_writer.specs.declared.Refusal.{Refusal}
use Rattle.feature.specs.Every.{every}
use Rattle.desk_numbers.specs.Numbers as desk
use Rattle.table.specs.Zeros.{cleared_from}

-- ---- a writer's state
-- where piece i ends
unfoldable pub piece_end : List ℕ → Writer → ℕ → ℕ
piece_end starts w i = pick (ltb (i + 1) w.pieces) (get_or starts (i + 1) 0) w.len

unfoldable pub is_piece : List ℕ → Writer → ℕ → Bool
is_piece starts w i = leb (get_or starts i 0) (piece_end starts w i)

unfoldable pub pieces_stand : List ℕ → Writer → Bool
pieces_stand starts w =
    pick (eqb w.pieces 0) (eqb w.len 0)
    (both (eqb (get_or starts 0 0) 0) (every (is_piece starts w) w.pieces))

unfoldable pub is_writer : Spoken → Bool
is_writer s =
    both (leb s.at.pieces (piece_room s.starts))
    (both (leb s.at.len (length s.out))
    (both (ltb s.at.len far)
    (pieces_stand s.starts s.at)))

-- ---- the answers
-- a refusal of a writer, as one of the call
abbrev pub refused_as : WriterError → Refusal
refused_as (writer.AtomRoom n) = AtomRoom n
refused_as (writer.OutRoom n) = OutRoom n
refused_as writer.NoPiece = NoPiece
refused_as writer.Overpop = Overpop

unfoldable pub wrote_said : Result Writer WriterError → Result Writer Refusal
wrote_said (Ok w) = Ok w
wrote_said (Err why) = Err (refused_as why)

-- an answer in the scope's numbers
unfoldable pub said_told : Result Writer Refusal → desk.Told
said_told (Ok w) = desk.told desk.done (w.len ∷ [])
said_told (Err (AtomRoom n)) = desk.told desk.atom_room (n ∷ [])
said_told (Err (OutRoom n)) = desk.told desk.out_room (n ∷ [])
said_told (Err BadTable) = desk.told desk.bad_table (0 ∷ [])
said_told (Err NoPiece) = desk.told desk.no_atom []
said_told (Err Overpop) = desk.told desk.overpop []

-- the numbers of the state that it hands back; a refusal hands back none
unfoldable pub writer_words : Result Writer Refusal → List ℕ
writer_words (Ok w) = w.pieces ∷ w.len ∷ []
writer_words (Err why) = []

-- ---- what is left of the output
-- the output after an event of a writer: zeros after the line where it held no piece, else as the event leaves it
unfoldable pub tail_of : Writer → Result Writer WriterError → List ℕ → List ℕ
tail_of before (Ok w) out = pick (eqb before.pieces 0) (cleared_from w.len out) out
tail_of before (Err why) out = out

-- ---- the calls
-- what a call answers, the state that it hands back, the output and the starts that it leaves
pub record EventLeft : Type 0 where
  pub told : desk.Told
  pub state : List ℕ
  pub out : List ℕ
  pub starts : List ℕ

abbrev pub event_leaves : Result Writer Refusal → List ℕ → List ℕ → EventLeft
event_leaves r out starts = record { told = said_told r; state = writer_words r; out = out; starts = starts }

unfoldable pub told_leaves : Writer → EventTold → EventLeft
told_leaves before t = event_leaves (wrote_said t.answer) (tail_of before t.answer t.out) t.starts

-- an event, where the numbers of what it says stand for something
unfoldable pub event_d : Bool → Spoken → Event → EventLeft
event_d ok s e = pick (both ok (is_writer s)) (told_leaves s.at (event_of s e)) (event_leaves (Err BadTable) s.out s.starts)
