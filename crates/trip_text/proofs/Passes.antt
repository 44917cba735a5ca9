-- A kind that survives passes the test by which the proofs go on: numbers that stand for no atom have no text, and no atom is read of
-- none. Assumes nothing.
use Prim.Native.Nat.{ℕ}
use mathlib.Core.Path.{◌≡◌, refl, subst}
use mathlib.Core.List.{List, []}
use mathlib.Core.Bool.{Bool, true, false}
use lib.ListN.{length}
use Rattle.feature.specs.Kinds.{in_range}
use Rattle.feature.specs.declared.atom_kind.AtomKind.{AtomKind}
use Rattle.feature.proofs.Cases.{impossible}
use Rattle.spell.specs.Spell.{atom_text}
use Rattle.std.specs.Prelude.{Ok, Some}
use Rattle.read_token.specs.Scan.{peek_at, bracket_at, aromatic_of, aliphatic_of, organic_at, star_at, or_else, other_at, atom_at}
use Rattle.survive.specs.Survive.{survives, Survives}
use Rattle.survive.proofs.Exactly.{exactly}

-- nothing is read of no text
none_read : (k : AtomKind) → atom_at [] 0 ≡ Ok (Some (k, 0)) → ⊥
unfolding peek_at bracket_at aromatic_of aliphatic_of organic_at star_at or_else other_at atom_at
none_read k e = impossible cc

in_range_lem : (k : AtomKind) → Survives k → in_range k ≡ true
unfolding atom_text
in_range_lem k h = go (in_range k) refl
  where
    go : (q : Bool) → in_range k ≡ q → in_range k ≡ true
    go true e = e
    go false e = let t : atom_text k ≡ [] = rw e in absurd (none_read k (subst (λ (s : List ℕ). atom_at s 0 ≡ Ok (Some (k, length s))) t h))

pub passes : (k : AtomKind) → Survives k → survives k ≡ true
passes k h = exactly k (in_range_lem k h) h
