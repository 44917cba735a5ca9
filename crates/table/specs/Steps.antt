-- Steps of the proofs: no public claim rests on these definitions.
-- Up to how much a call takes little work room.
use Rattle.std.specs.Prelude.{ℕ}

-- up to so many atoms the read call and the write call take less work room
abbrev pub few_atoms : ℕ
few_atoms = 128

-- up to so many bond entries the read call and the judge of a builder's bonds take less work room
abbrev pub few_bonds : ℕ
few_bonds = 256
