-- The builder's start and its single calls, for any tables and any numbers. Where those handed in stand for no state, no atom
-- or no ring number, the answer is 17 and carries 0; else the event gives its own answer, 18, 13, 14 or 10, of which 13 and 14
-- carry the atoms then held. A bond's kind is one of eight names, so it always stands for a bond.
use Rattle.std.specs.Prelude.{ℕ, List, Bool, true, length, ltb}
use Rattle.desk_numbers.specs.Numbers.{bad_table}
use Rattle.feature.specs.Pick.{pick, both}
use Rattle.feature.specs.Kinds.{in_range}
use Rattle.feature.specs.declared.atom_kind.AtomKind.{AtomKind}
use Rattle.feature.specs.declared.bond_kind.BondKind.{BondKind}
use Rattle.table.specs.Limits.{ring_number_count, places_in}
use Rattle.builder.specs.State.{Bld, bld, fresh_builder, refuse, refused_st, root_of, extend_of, join_of, pop_of}
use Rattle.builder.specs.declared.builder.Builder.{Builder}
use Rattle.table.specs.Zeros.{zeroed}
use Rattle.desk_state.specs.Standing.{entry_slots_in, is_state}

-- ---- the start
-- no event yet, and room for as many atoms and entries as the tables hold, the limits at most
unfoldable pub rooms_of : List ℕ → List ℕ → Builder
rooms_of a e = fresh_builder (places_in (length a)) (entry_slots_in (length e))

-- and every ring number free
unfoldable pub fresh_of : List ℕ → List ℕ → List ℕ → List ℕ → Bld
fresh_of a e p r = bld a e p (zeroed r) (rooms_of a e)

-- 17 with no table changed where that is no state
unfoldable pub start_d : List ℕ → List ℕ → List ℕ → List ℕ → Bld
start_d a e p r =
    pick (is_state (fresh_of a e p r)) (fresh_of a e p r)
    (bld a e p r (refused_st (rooms_of a e) bad_table 0))

-- ---- the events
-- no refusal yet: what an earlier event was refused for is over
unfoldable pub anew : Bld → Bld
anew b = refuse b 0 0

-- an event on what is handed in, which is judged first
unfoldable pub judged : Bool → Bld → Bld → Bld
judged ok b done = pick (both ok (is_state b)) done (refuse b bad_table 0)

unfoldable pub root_d : Bld → AtomKind → Bld
root_d b k = judged (in_range k) b (root_of (anew b) k b.st.atoms)

unfoldable pub extend_d : Bld → BondKind → AtomKind → Bld
extend_d b e k = judged (in_range k) b (extend_of (anew b) e k b.st.atoms)

unfoldable pub join_d : Bld → BondKind → ℕ → Bld
join_d b e n = judged (ltb n ring_number_count) b (join_of (anew b) e n b.st.atoms)

unfoldable pub pop_d : Bld → ℕ → Bld
pop_d b n = judged true b (pop_of (anew b) n)
