-- The line of a walk has at most 24 bytes for each atom and 4 for each entry. Assumes nothing.
use Prim.Native.Nat.{ℕ, ◌+◌, ◌*◌, ◌≤◌}
use mathlib.Core.List.{List, []}
use native.Mathlib.Omega.{arith}
use lib.ListN.{length}
use Rattle.writer.specs.Line.{line_of, write_events}
use Rattle.walk_entry.specs.Graph.{Graph}
use Rattle.walk.specs.Walk.{events_of}
use Rattle.walk_laws.specs.Trek.{Room, fresh, degrees}
use Rattle.walk_laws.proofs.Fits.{walk_goes}

pub line_bound_lem : (g : Graph) (lm lw lb lt : ℕ) (pairs : List ℕ) → Room g lm lb lt
    → (most : ℕ) → g.size ≤ most → (m : ℕ) → degrees g g.size ≤ m → (t : ℕ)
    → length (line_of (write_events most (events_of g t (fresh lm lw lb lt pairs)) [])) ≤ 24 * g.size + 4 * m
line_bound_lem g lm lw lb lt pairs r most enough m few t =
    let w = (walk_goes g lm lw lb lt pairs r most enough t).1 in
    omega (arith, w.fits.short, w.sound.counted)
