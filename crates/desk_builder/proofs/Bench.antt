-- Small graphs made event by event from a start, and numbers that stand for no state, worked out from the definitions. So the
-- judge neither refuses everything nor nothing. Assumes nothing.
use Prim.Native.Nat.{ℕ}
use mathlib.Core.Path.{◌≡◌, refl}
use mathlib.Core.List.{List, [], ◌∷◌, map}
use mathlib.Core.Bool.{false}
use lib.ListN.{replicate}
use Rattle.std.specs.Prelude.{None}
use Rattle.feature.specs.Kinds.{in_range, invert_of}
use Rattle.feature.specs.Bonds.{code_of, kind_of, reverse_of, is_directional, reconcile_of, sure_kind}
use Rattle.feature.specs.declared.atom_kind.AtomKind.TheVariants.{Star}
use Rattle.feature.specs.declared.bond_kind.BondKind.{BondKind}
use Rattle.feature.specs.declared.bond_kind.BondKind.TheVariants.{Elided, Double, Triple}
use Rattle.packing.specs.Words.{pair_of, words_of, list_of, plain_of, bracket_of, load_of, load_at}
use Rattle.table.specs.Limits.{lesser_of}
use Rattle.builder.specs.State.{Bld, bld, state, failed_st, refuse, last_of, entered, root_of, bonded, extended_by, extend_of, opened_of, opened_at, opening_of, opening_kind, closed_by, join_of, pop_of}
use Rattle.table.specs.Starts.{sum_of, entry_starts}
use Rattle.builder.specs.Build.{blanked, degrees_counted, entries_placed, cursors_moved, first_open, gathered, atoms_of, entry_count, bonds_of, closed_of, build_of}
use Rattle.feature.specs.Every.{every}
use Rattle.packing.specs.Words.{is_held, is_atom}
use Rattle.desk_builder.specs.Events.{anew, judged, rooms_of, fresh_of, start_d, root_d, extend_d, join_d, pop_d}
use Rattle.desk_state.specs.Standing.{is_kind, is_target, is_builder_entry, is_entry_to, bonds_counted, turned_of, is_own, is_matched, is_paired, least_open, is_later, is_step, is_apart, is_ring, open_rings, joins_stand, counts_stand, failure_stands, is_state}
use Rattle.desk_builder.specs.Build.{build_leaves, answer_leaves, built_answered, left_of, trimmed, roomy, build_d}

-- ---- small graphs
-- room for three atoms and eight entries
abbrev start : Bld
start = start_d (replicate 9 7) (replicate 24 7) (replicate 3 7) (replicate 100 7)

-- two atoms after one that ring numbers may be at
abbrev chain : Bld → Bld
chain b = extend_d (extend_d b Elided Star) Elided Star

-- ring number 1 at the first and the last of three atoms
abbrev ring : BondKind → BondKind → Bld
ring j k = join_d (chain (join_d (root_d start Star) j 1)) k 1

-- number 2 at the first besides, which stays open
abbrev still_open : Bld
still_open = join_d (chain (join_d (join_d (root_d start Star) Elided 1) Elided 2)) Elided 1

-- two atoms and a bond that only the first holds
abbrev one_sided : Bld
one_sided =
    bld (1 ∷ 0 ∷ 0 ∷ 1 ∷ 0 ∷ 0 ∷ 0 ∷ 0 ∷ 0 ∷ []) (0 ∷ 1 ∷ 1 ∷ replicate 21 0) (replicate 3 0) (replicate 100 0) (state 0 0 3 8 2 1 0 0 None)

-- an atom with half a bond to itself
abbrev half : Bld
half =
    bld (1 ∷ 0 ∷ 0 ∷ replicate 6 0) (0 ∷ 2 ∷ 0 ∷ replicate 21 0) (replicate 3 0) (replicate 100 0) (state 0 0 3 8 1 1 0 0 None)

-- two ring numbers that lead to one open entry
abbrev shared : Bld
shared =
    bld (1 ∷ 0 ∷ 0 ∷ replicate 6 0) (0 ∷ 1 ∷ 0x8000_0000 ∷ replicate 21 0) (replicate 3 0) (1 ∷ 1 ∷ replicate 98 0) (state 0 0 3 8 1 1 1 1 None)

-- no event yet, and less room told than the tables have
abbrev less : Bld
less =
    bld (replicate 9 0) (replicate 24 0) (replicate 3 0) (replicate 100 0) (state 0 0 2 8 0 0 0 0 None)

-- what their builds answer and leave, whatever the bond table held: it has room for seven entries, as many as the third holds,
-- though each of them may come to hold eight
pub built : map (λ (b : Bld). build_d b (replicate 14 7)) (ring Elided Elided ∷ ring Double Triple ∷ still_open ∷ one_sided ∷ half ∷ [])
    ≡ build_leaves 0 (3 ∷ 6 ∷ []) (1 ∷ 0 ∷ 2 ∷ 1 ∷ 0 ∷ 2 ∷ 1 ∷ 0 ∷ 2 ∷ []) (1 ∷ 2 ∷ 1 ∷ 1 ∷ 1 ∷ 0 ∷ 1 ∷ 2 ∷ 1 ∷ 1 ∷ 1 ∷ 0 ∷ 0 ∷ 0 ∷ [])
    ∷ build_leaves 3 (2 ∷ 0 ∷ []) (replicate 9 0) (replicate 14 0)
    ∷ build_leaves 4 (1 ∷ []) (replicate 9 0) (replicate 14 0)
    ∷ build_leaves 17 (0 ∷ []) (replicate 9 0) (replicate 14 0)
    ∷ build_leaves 17 (0 ∷ []) (replicate 9 0) (replicate 14 0)
    ∷ []
unfolding every is_held is_kind is_atom is_target is_builder_entry is_entry_to bonds_counted turned_of is_own is_matched is_paired least_open is_later is_step is_apart is_ring open_rings joins_stand counts_stand failure_stands is_state anew judged rooms_of fresh_of start_d root_d extend_d join_d pop_d answer_leaves built_answered left_of trimmed roomy build_d blanked degrees_counted sum_of entry_starts entries_placed cursors_moved first_open gathered atoms_of entry_count bonds_of closed_of build_of lesser_of failed_st refuse last_of entered root_of bonded extended_by extend_of opened_of opened_at opening_of sure_kind opening_kind closed_by join_of pop_of in_range invert_of code_of kind_of reverse_of is_directional reconcile_of pair_of words_of list_of plain_of bracket_of load_of load_at
built = refl

-- an event's refusal and what it carries
abbrev said : Bld → List ℕ
said b = b.st.refusal ∷ b.st.carried ∷ []

-- what is lent holds no state: a path of two words for three atoms, and ninety-nine words for the ring numbers; no current atom;
-- the fourth atom has no room; ring number 100; a bond that one end holds; half a bond; an entry that two ring numbers lead to;
-- rooms that are others; a pop beyond the path
pub refused : map said (start_d (replicate 9 0) (replicate 24 0) (replicate 2 0) (replicate 100 0) ∷ start_d (replicate 9 0) (replicate 24 0) (replicate 3 0) (replicate 99 0) ∷ extend_d start Elided Star ∷ root_d (chain (root_d start Star)) Star ∷ join_d (root_d start Star) Elided 100 ∷ root_d one_sided Star ∷ root_d half Star ∷ join_d shared Elided 0 ∷ root_d less Star ∷ pop_d (root_d start Star) 5 ∷ [])
    ≡ (17 ∷ 0 ∷ []) ∷ (17 ∷ 0 ∷ []) ∷ (18 ∷ 0 ∷ []) ∷ (13 ∷ 3 ∷ []) ∷ (17 ∷ 0 ∷ []) ∷ (17 ∷ 0 ∷ []) ∷ (17 ∷ 0 ∷ []) ∷ (17 ∷ 0 ∷ []) ∷ (17 ∷ 0 ∷ []) ∷ (0 ∷ 0 ∷ []) ∷ []
unfolding every is_held is_kind is_atom is_target is_builder_entry is_entry_to bonds_counted turned_of is_own is_matched is_paired least_open is_later is_step is_apart is_ring open_rings joins_stand counts_stand failure_stands is_state anew judged rooms_of fresh_of start_d root_d extend_d join_d pop_d answer_leaves built_answered left_of trimmed roomy build_d blanked degrees_counted sum_of entry_starts entries_placed cursors_moved first_open gathered atoms_of entry_count bonds_of closed_of build_of lesser_of failed_st refuse last_of entered root_of bonded extended_by extend_of opened_of opened_at opening_of sure_kind opening_kind closed_by join_of pop_of in_range invert_of code_of kind_of reverse_of is_directional reconcile_of pair_of words_of list_of plain_of bracket_of load_of load_at
refused = refl
