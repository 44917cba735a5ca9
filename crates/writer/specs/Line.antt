-- A line in the making: the pieces held, the last one first, and what each event makes of them.
--
-- Root adds a piece, led by "." unless none is held; an extend adds one, led by its bond, also where none is held. A join
-- adds its bond and ring number to the last piece. A pop of d wraps the last d pieces in brackets onto the piece before; a
-- pop of 0 writes "()". A refused event changes nothing: 18 is a join with no piece held, 19 a pop of as many pieces as are
-- held or more, 13 a piece more than there is room for, with the pieces held.
use Rattle.std.specs.Prelude.{ℕ, List, [], ◌∷◌, ◌++◌, length, take, drop, leb, eqb}
use Rattle.feature.specs.Pick.{pick}
use Rattle.feature.specs.Text.{byte, bytes}
use Rattle.feature.specs.declared.atom_kind.AtomKind.{AtomKind}
use Rattle.feature.specs.declared.bond_kind.BondKind.{BondKind}
use Rattle.spell.specs.Spell.{atom_text, bond_text, rnum_text}

pub data Event : Type 0 where
  Root : AtomKind → Event
  Extend : BondKind → AtomKind → Event
  Join : BondKind → ℕ → Event
  Pop : ℕ → Event

-- the line that pieces make
unfoldable pub line_of : List (List ℕ) → List ℕ
line_of [] = []
line_of (p ∷ ps) = line_of ps ++ p

-- what leads a root in, where n pieces are held
unfoldable pub dot_text : ℕ → List ℕ
dot_text n = pick (eqb n 0) [] (bytes ".")

-- a piece more, where there is room for it
unfoldable pub add_piece : ℕ → List ℕ → List (List ℕ) → List (List ℕ)
add_piece most text ps = pick (leb most (length ps)) ps (text ∷ ps)

-- text after the last piece
unfoldable pub on_last : List ℕ → List (List ℕ) → List (List ℕ)
on_last text [] = []
on_last text (p ∷ ps) = (p ++ text) ∷ ps

-- in brackets
unfoldable pub wrapped : List ℕ → List ℕ
wrapped text = byte "(" ∷ (text ++ bytes ")")

unfoldable pub pop_pieces : ℕ → List (List ℕ) → List (List ℕ)
pop_pieces d ps = pick (leb (length ps) d) ps (on_last (wrapped (line_of (take d ps))) (drop d ps))

-- what an event makes of pieces, where there is room for so many of them
unfoldable pub write_event : ℕ → Event → List (List ℕ) → List (List ℕ)
write_event most (Root k) ps = add_piece most (dot_text (length ps) ++ atom_text k) ps
write_event most (Extend b k) ps = add_piece most (bond_text b ++ atom_text k) ps
write_event most (Join b n) ps = on_last (bond_text b ++ rnum_text n) ps
write_event most (Pop d) ps = pop_pieces d ps

-- events in order
unfoldable pub write_events : ℕ → List Event → List (List ℕ) → List (List ℕ)
write_events most [] ps = ps
write_events most (e ∷ es) ps = write_events most es (write_event most e ps)
