-- What stands for a writer's state is what the writer's events ask for. Assumes nothing.
use Prim.Native.Nat.{ℕ, ◌≤◌}
use mathlib.Core.Path.{◌≡◌}
use mathlib.Core.Bool.{Bool, true}
use mathlib.Core.List.{List}
use native.Mathlib.Omega.{arith}
use lib.ListN.{length}
use lib.Dec.{ltb, leb}
use borrow.Author.Tests.{ltb-true, leb-true}
use Rattle.feature.specs.Pick.{both}
use Rattle.feature.proofs.Cases.{both_first, both_second}
use Rattle.table.specs.Limits.{atom_limit}
use Rattle.writer.specs.Tables.{Spoken, piece_room, far}
use Rattle.writer.specs.Steps.{LineNear}
use Rattle.table.proofs.Rooms.{lesser_most}
use Rattle.desk_writer.specs.Pieces.{is_writer}

room_most : (starts : List ℕ) → piece_room starts ≤ atom_limit
unfolding piece_room
room_most starts = lesser_most atom_limit (length starts)

-- what the writer's events ask
pub near : (s : Spoken) → is_writer s ≡ true → LineNear s.at
unfolding is_writer
near s h1 =
    let h2 = both_second (leb s.at.pieces (piece_room s.starts)) _ h1 in
    let h3 = both_second (leb s.at.len (length s.out)) _ h2 in
    let p = leb-true s.at.pieces (piece_room s.starts) (both_first (leb s.at.pieces (piece_room s.starts)) _ h1) in
    record {
      pieces = omega (arith, p, room_most s.starts);
      len = ltb-true s.at.len far (both_first (ltb s.at.len far) _ h3);
    }

pub near_both : (fit : Bool) (s : Spoken) → both fit (is_writer s) ≡ true → LineNear s.at
near_both fit s h = near s (both_second fit (is_writer s) h)
