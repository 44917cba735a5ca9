-- No event of a walk is refused by a writer with room for as many pieces as there are atoms. Assumes nothing.
use Prim.Native.Nat.{ℕ, ◌≤◌}
use mathlib.Core.Path.{◌≡◌}
use mathlib.Core.List.{List, []}
use native.Mathlib.Omega.{arith}
use borrow.Author.Tests.{lt-leb, ne_eqb}
use Rattle.writer.specs.Line.{Event, Root, Extend, Join, Pop}
use Rattle.writer.specs.Tables.{Spoken, piece_room, say_t, fitting, event_of}
use Rattle.writer.specs.Pieces.{Holds}
use Rattle.walk_entry.specs.Graph.{Graph}
use Rattle.walk.specs.Walk.{events_of}
use Rattle.walk_laws.specs.Trek.{Room, fresh, Accepts, AllAccepted}
use Rattle.walk_laws.proofs.Fits.{walk_goes}

pub accepted : (g : Graph) (lm lw lb lt : ℕ) (pairs : List ℕ) → Room g lm lb lt
    → (most : ℕ) → g.size ≤ most → (t : ℕ) → AllAccepted most (events_of g t (fresh lm lw lb lt pairs)) []
accepted g lm lw lb lt pairs r most enough t = (walk_goes g lm lw lb lt pairs r most enough t).1.accepted

-- an event that is taken is one that the writer's tables refuse for nothing but the output's length
pub accepted_told : (o : List ℕ) (ps : List (List ℕ)) (s : Spoken) → Holds o ps s → (e : Event) → Accepts (piece_room s.starts) e ps
    → event_of s e ≡ fitting s (say_t s e)
unfolding event_of
accepted_told o ps s h (Root k) a = simp (lt-leb (piece_room s.starts) s.at.pieces (omega (arith, h.pieces)))
accepted_told o ps s h (Extend b k) a = simp (lt-leb (piece_room s.starts) s.at.pieces (omega (arith, h.pieces)))
accepted_told o ps s h (Join b n) a = simp (ne_eqb s.at.pieces 0 (λ z. omega (arith, h.pieces)))
accepted_told o ps s h (Pop d) a = simp (lt-leb s.at.pieces d (omega (arith, h.pieces)))
