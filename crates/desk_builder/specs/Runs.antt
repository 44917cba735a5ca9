-- A run of the builder's single calls.
use Rattle.std.specs.Prelude.{ℕ, List, [], ◌∷◌, Bool, true, ltb}
use Rattle.feature.specs.Kinds.{in_range}
use Rattle.feature.specs.declared.atom_kind.AtomKind.{AtomKind}
use Rattle.feature.specs.declared.bond_kind.BondKind.{BondKind}
use Rattle.table.specs.Limits.{ring_number_count}
use Rattle.builder.specs.State.{Bld}
use Rattle.desk_builder.specs.Events.{root_d, extend_d, join_d, pop_d}

pub data Call : Type 0 where
  Root : AtomKind → Call
  Extend : BondKind → AtomKind → Call
  Join : BondKind → ℕ → Call
  Pop : ℕ → Call

unfoldable pub call_d : Bld → Call → Bld
call_d b (Root k) = root_d b k
call_d b (Extend e k) = extend_d b e k
call_d b (Join e n) = join_d b e n
call_d b (Pop n) = pop_d b n

-- an atom whose numbers are in range, a ring number below a hundred
unfoldable pub fits : Call → Bool
fits (Root k) = in_range k
fits (Extend e k) = in_range k
fits (Join e n) = ltb n ring_number_count
fits (Pop n) = true

unfoldable pub calls_d : Bld → List Call → Bld
calls_d b [] = b
calls_d b (c ∷ cs) = calls_d (call_d b c) cs
