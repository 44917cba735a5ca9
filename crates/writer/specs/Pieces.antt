-- The tables hold pieces: the output has their line as far as there is room for it, and the table where each piece starts.
use Rattle.std.specs.Prelude.{ℕ, ◌≤◌, ◌≡◌, List, [], ◌∷◌, ◌++◌, length, take}
use Rattle.std.proofs.lemmas.List.Edits.{sets}
use Rattle.writer.specs.Line.{line_of}
use Rattle.writer.specs.Tables.{Spoken, piece_room}

-- where each piece starts, the first one first
unfoldable pub piece_starts : List (List ℕ) → List ℕ
piece_starts [] = []
piece_starts (p ∷ ps) = piece_starts ps ++ (length (line_of ps) ∷ [])

-- o is the output before anything was laid in it
pub record Holds (o : List ℕ) (ps : List (List ℕ)) (s : Spoken) : Type 0 where
  pub pieces : s.at.pieces ≡ length ps
  pub len : s.at.len ≡ length (line_of ps)
  pub line : s.out ≡ sets o 0 (line_of ps)
  pub starts : take (length ps) s.starts ≡ piece_starts ps
  pub room : length ps ≤ piece_room s.starts
