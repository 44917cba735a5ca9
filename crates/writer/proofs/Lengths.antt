-- How long a line grows by an event, so that its length is bounded by the number of events. Assumes nothing.
use Prim.Native.Nat.{ℕ, ◌≤◌}
use native.Mathlib.Omega.{arith}
use lib.ListN.{length, length-append}
use lib.Dec.{leb, eqb}
use Rattle.feature.proofs.Cases.{by_either}
use Rattle.spell.proofs.Lengths.{either_short, atom_short, bond_short, rnum_short}
use Rattle.writer.specs.Line.{Event, Root, Extend, Join, Pop, dot_text}
use Rattle.writer.specs.Tables.{Spoken, piece_room, added, piece_t, lengthened, join_t, wrap_t, pop_t, say_t}
use Rattle.writer.specs.Steps.{LineGrows}

pub dot_short : (n : ℕ) → length (dot_text n) ≤ 1
unfolding dot_text
dot_short n = either_short 1 (eqb n 0) _ _ (omega arith) (omega arith)

-- ---- how far an event goes, of the definitions
pub say_grows : (s : Spoken) (e : Event) → LineGrows s.at (say_t s e).at
unfolding say_t piece_t added join_t lengthened pop_t wrap_t
say_grows s (Root k) =
    by_either (λ (z : Spoken). LineGrows s.at z.at) (leb (piece_room s.starts) s.at.pieces)
    (record { pieces = omega arith; len = omega arith })
    (record { pieces = omega arith; len = simp length-append (omega (arith, dot_short s.at.pieces, atom_short k)) })
say_grows s (Extend b k) =
    by_either (λ (z : Spoken). LineGrows s.at z.at) (leb (piece_room s.starts) s.at.pieces)
    (record { pieces = omega arith; len = omega arith })
    (record { pieces = omega arith; len = simp length-append (omega (arith, bond_short b, atom_short k)) })
say_grows s (Join b n) =
    by_either (λ (z : Spoken). LineGrows s.at z.at) (eqb s.at.pieces 0)
    (record { pieces = omega arith; len = omega arith })
    (record { pieces = omega arith; len = simp length-append (omega (arith, bond_short b, rnum_short n)) })
say_grows s (Pop d) =
    by_either (λ (z : Spoken). LineGrows s.at z.at) (leb s.at.pieces d)
    (record { pieces = omega arith; len = omega arith })
    (record { pieces = omega arith; len = omega arith })
