-- An event of a writer as a single call, in the words of pieces. What stands for a state holds pieces, the parts of its line
-- between their starts; an event answers 18, 19, 13 or 16 by them and changes nothing, or makes of them what `write_event`
-- says, and the output and the starts hold those.
use Rattle.std.specs.Prelude.{ℕ, zero, suc, ◌-◌, ◌≡◌, List, [], ◌∷◌, length, get_or, drop, replicate, ltb, leb, eqb}
use Rattle.feature.specs.Pick.{pick}
use Rattle.desk_numbers.specs.Numbers.{Told, told, done, atom_room, out_room, no_atom, overpop}
use Rattle.writer.specs.Line.{Event, Root, Extend, Join, Pop, line_of, write_event}
use Rattle.writer.specs.Tables.{Spoken, spoken, writer, piece_room, bytes_from}
use Rattle.writer.specs.Pieces.{Holds}
use Rattle.desk_writer.specs.Pieces.{EventLeft}

-- ---- the pieces of a state, the last one first
-- the first n of them, of which the last ends at a place
unfoldable pub pieces_to : List ℕ → List ℕ → ℕ → ℕ → List (List ℕ)
pieces_to out starts zero end = []
pieces_to out starts (suc n) end =
    bytes_from (get_or starts n 0) (end - get_or starts n 0) out ∷ pieces_to out starts n (get_or starts n 0)

unfoldable pub pieces_in : Spoken → List (List ℕ)
pieces_in s = pieces_to s.out s.starts s.at.pieces s.at.len

-- ---- what an event answers to pieces, with room for so many of them and so many bytes
-- 16 with the bytes of the whole line, or 0 with them
unfoldable pub fits_in : ℕ → List (List ℕ) → Told
fits_in room ps =
    pick (ltb room (length (line_of ps))) (told out_room (length (line_of ps) ∷ [])) (told done (length (line_of ps) ∷ []))

unfoldable pub event_answer : ℕ → ℕ → Event → List (List ℕ) → Told
event_answer most room (Root k) ps =
    pick (leb most (length ps)) (told atom_room (length ps ∷ [])) (fits_in room (write_event most (Root k) ps))
event_answer most room (Extend b k) ps =
    pick (leb most (length ps)) (told atom_room (length ps ∷ [])) (fits_in room (write_event most (Extend b k) ps))
event_answer most room (Join b n) ps =
    pick (eqb (length ps) 0) (told no_atom []) (fits_in room (write_event most (Join b n) ps))
event_answer most room (Pop d) ps =
    pick (leb (length ps) d) (told overpop []) (fits_in room (write_event most (Pop d) ps))

-- ---- an event on the pieces of a state
-- the output that its pieces are laid over: zeros where no piece is held
unfoldable pub ground_of : Spoken → List ℕ
ground_of s = pick (eqb s.at.pieces 0) (replicate (length s.out) 0) s.out

abbrev pub pieces_after : Spoken → Event → List (List ℕ)
pieces_after s e = write_event (piece_room s.starts) e (pieces_in s)

-- the state that a call hands back, over what it leaves
abbrev pub handed_back : EventLeft → Spoken
handed_back l = spoken (writer (get_or l.state 0 0) (get_or l.state 1 0)) l.out l.starts

pub record OnPieces (s : Spoken) (e : Event) (l : EventLeft) : Type 0 where
  pub answers : l.told ≡ event_answer (piece_room s.starts) (length s.out) e (pieces_in s)
  pub refused : (l.told.number ≡ done → ⊥) → (l.state ≡ []) × (l.out ≡ s.out) × (l.starts ≡ s.starts)
  pub accepted : l.told.number ≡ done → Holds (ground_of s) (pieces_after s e) (handed_back l)

-- ---- the bytes after the line
-- all zeros
abbrev pub ZerosAfter : Spoken → Type 0
ZerosAfter s = drop s.at.len s.out ≡ replicate (length s.out - s.at.len) 0

-- what an event that is held leaves: the pieces of the new state are those that the event made, so that the same holds of the
-- next event; and the bytes after the line are zeros, if they were before or no piece was held
pub record EventOnward (s : Spoken) (e : Event) (l : EventLeft) : Type 0 where
  pub pieces : pieces_in (handed_back l) ≡ pieces_after s e
  pub tail : ((s.at.pieces ≡ 0 → ⊥) → ZerosAfter s) → ZerosAfter (handed_back l)
