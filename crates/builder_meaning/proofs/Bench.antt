-- Lines from the bench, worked out from the definitions, and that they say something: a bond held at one end only is none.
-- Assumes nothing.
use Prim.Native.Nat.{ℕ}
use mathlib.Core.Path.{◌≡◌, refl}
use mathlib.Core.List.{[], ◌∷◌}
use native.Mathlib.Omega.{arith}
use Rattle.feature.specs.Text.{bytes}
use Rattle.feature.specs.Kinds.{invert_of}
use Rattle.feature.specs.Bonds.{code_of, reverse_of, is_directional, reconcile_of}
use Rattle.feature.specs.declared.atom_kind.AtomKind.{AtomKind}
use Rattle.feature.specs.declared.atom_kind.AtomKind.TheVariants.{Aliphatic}
use Rattle.feature.specs.declared.bond_kind.BondKind.TheVariants.{Elided, Single, Double, Triple}
use Rattle.read_token.specs.Scan.{peek_at, digit_of, digit_at, missing_at, bracket_at, aromatic_of, aliphatic_of, wanted_at, optional_at, organic_at, star_at, or_else, other_at, atom_at, sign_kind, mark_width, bond_at, percent_at, rnum_at}
use Rattle.table.specs.Limits.{lesser_of}
use Rattle.read_line.specs.Parse.{led_at, body_of, body_at, miss_p, found_p, atom_p, ring_p, union_by, union_p, unit_by, unit_p, line_p, close_p, branch_p, bodies, end_p, parse}
use Rattle.std.specs.Prelude.{Err}
use Rattle.builder.specs.declared.build.BuildError.TheVariants as built
use Rattle.builder_meaning.specs.Sketch.{To, Failed, Sketch, edge, node, next_number, count_of, upd, edges_at, add_edge, waits, open_kind, fill_edges, fill, lookup, ring_freed, root_s, bonded_s, extend_s, opened_s, closed_s, first_of, ring_s, join_s, judged_s, enter_s, number_s, step_s, run_s, sketch_of, open_here, open_in, first_open_s, rings_say, says_s, finish_s, leads, is_edge_to, bonds_to, BothEnds}

abbrev carbon : AtomKind
carbon = Aliphatic 1

-- 3 with 2 and 0
kinds_fail : finish_s (sketch_of (bytes "C=1CC#1") 60 60) ≡ Err (built.Join 2 0)
unfolding peek_at digit_of digit_at missing_at bracket_at aromatic_of aliphatic_of wanted_at optional_at organic_at star_at or_else other_at atom_at sign_kind mark_width bond_at percent_at rnum_at lesser_of led_at body_of body_at miss_p found_p atom_p ring_p union_by union_p unit_by unit_p line_p close_p branch_p bodies end_p parse sketch_of run_s step_s enter_s number_s root_s extend_s bonded_s join_s ring_s opened_s closed_s first_of next_number count_of upd add_edge edges_at open_kind waits fill_edges fill lookup ring_freed invert_of reverse_of reconcile_of is_directional code_of open_here open_in first_open_s rings_say says_s finish_s
kinds_fail = refl

directions_fail : finish_s (sketch_of (bytes "C/1CC/1") 60 60) ≡ Err (built.Join 2 0)
unfolding peek_at digit_of digit_at missing_at bracket_at aromatic_of aliphatic_of wanted_at optional_at organic_at star_at or_else other_at atom_at sign_kind mark_width bond_at percent_at rnum_at lesser_of led_at body_of body_at miss_p found_p atom_p ring_p union_by union_p unit_by unit_p line_p close_p branch_p bodies end_p parse sketch_of run_s step_s enter_s number_s root_s extend_s bonded_s join_s ring_s opened_s closed_s first_of next_number count_of upd add_edge edges_at open_kind waits fill_edges fill lookup ring_freed invert_of reverse_of reconcile_of is_directional code_of open_here open_in first_open_s rings_say says_s finish_s
directions_fail = refl

-- after it atoms are counted, whatever the room
counted_on : next_number (sketch_of (bytes "C=1CC#1CC.C") 9 60) ≡ 6
unfolding peek_at digit_of digit_at missing_at bracket_at aromatic_of aliphatic_of wanted_at optional_at organic_at star_at or_else other_at atom_at sign_kind mark_width bond_at percent_at rnum_at lesser_of led_at body_of body_at miss_p found_p atom_p ring_p union_by union_p unit_by unit_p line_p close_p branch_p bodies end_p parse sketch_of run_s step_s enter_s number_s root_s extend_s bonded_s join_s judged_s ring_s opened_s closed_s first_of next_number count_of upd add_edge edges_at open_kind waits fill_edges fill lookup ring_freed invert_of reverse_of reconcile_of is_directional code_of
counted_on = refl

-- 4 with 1
left_open : finish_s (sketch_of (bytes "C12CC1") 60 60) ≡ Err (built.Rnum 1)
unfolding peek_at digit_of digit_at missing_at bracket_at aromatic_of aliphatic_of wanted_at optional_at organic_at star_at or_else other_at atom_at sign_kind mark_width bond_at percent_at rnum_at lesser_of led_at body_of body_at miss_p found_p atom_p ring_p union_by union_p unit_by unit_p line_p close_p branch_p bodies end_p parse sketch_of run_s step_s enter_s number_s root_s extend_s bonded_s join_s ring_s opened_s closed_s first_of next_number count_of upd add_edge edges_at open_kind waits fill_edges fill lookup ring_freed invert_of reverse_of reconcile_of is_directional code_of open_here open_in first_open_s rings_say says_s finish_s
left_open = refl

-- a ring, its closing bond filled in at the opening atom
ring_closed : (sketch_of (bytes "C1CC=1") 60 60).nodes ≡ node carbon (edge Double (To 2) ∷ edge Elided (To 1) ∷ []) ∷ node carbon (edge Elided (To 0) ∷ edge Elided (To 2) ∷ []) ∷ node carbon (edge Elided (To 1) ∷ edge Double (To 0) ∷ []) ∷ []
unfolding peek_at digit_of digit_at missing_at bracket_at aromatic_of aliphatic_of wanted_at optional_at organic_at star_at or_else other_at atom_at sign_kind mark_width bond_at percent_at rnum_at lesser_of led_at body_of body_at miss_p found_p atom_p ring_p union_by union_p unit_by unit_p line_p close_p branch_p bodies end_p parse sketch_of run_s step_s enter_s number_s root_s extend_s bonded_s join_s ring_s opened_s closed_s first_of next_number count_of upd add_edge edges_at open_kind waits fill_edges fill lookup ring_freed invert_of reverse_of reconcile_of is_directional code_of
ring_closed = refl

-- no room for a third atom, nor for a sixth entry: the place of the atom, and of the ring number
no_place : (sketch_of (bytes "C1CC=1") 8 60).refusal ≡ 13
unfolding peek_at digit_of digit_at missing_at bracket_at aromatic_of aliphatic_of wanted_at optional_at organic_at star_at or_else other_at atom_at sign_kind mark_width bond_at percent_at rnum_at lesser_of led_at body_of body_at miss_p found_p atom_p ring_p union_by union_p unit_by unit_p line_p close_p branch_p bodies end_p parse sketch_of run_s step_s enter_s number_s root_s extend_s bonded_s join_s ring_s opened_s closed_s first_of next_number count_of upd add_edge edges_at open_kind waits fill_edges fill lookup ring_freed invert_of reverse_of reconcile_of is_directional code_of
no_place = refl

place_carried : (sketch_of (bytes "C1CC=1") 8 60).carried ≡ 3
unfolding peek_at digit_of digit_at missing_at bracket_at aromatic_of aliphatic_of wanted_at optional_at organic_at star_at or_else other_at atom_at sign_kind mark_width bond_at percent_at rnum_at lesser_of led_at body_of body_at miss_p found_p atom_p ring_p union_by union_p unit_by unit_p line_p close_p branch_p bodies end_p parse sketch_of run_s step_s enter_s number_s root_s extend_s bonded_s join_s ring_s opened_s closed_s first_of next_number count_of upd add_edge edges_at open_kind waits fill_edges fill lookup ring_freed invert_of reverse_of reconcile_of is_directional code_of
place_carried = refl

no_slot : (sketch_of (bytes "C1CC=1") 60 11).refusal ≡ 14
unfolding peek_at digit_of digit_at missing_at bracket_at aromatic_of aliphatic_of wanted_at optional_at organic_at star_at or_else other_at atom_at sign_kind mark_width bond_at percent_at rnum_at lesser_of led_at body_of body_at miss_p found_p atom_p ring_p union_by union_p unit_by unit_p line_p close_p branch_p bodies end_p parse sketch_of run_s step_s enter_s number_s root_s extend_s bonded_s join_s ring_s opened_s closed_s first_of next_number count_of upd add_edge edges_at open_kind waits fill_edges fill lookup ring_freed invert_of reverse_of reconcile_of is_directional code_of
no_slot = refl

slot_carried : (sketch_of (bytes "C1CC=1") 60 11).carried ≡ 5
unfolding peek_at digit_of digit_at missing_at bracket_at aromatic_of aliphatic_of wanted_at optional_at organic_at star_at or_else other_at atom_at sign_kind mark_width bond_at percent_at rnum_at lesser_of led_at body_of body_at miss_p found_p atom_p ring_p union_by union_p unit_by unit_p line_p close_p branch_p bodies end_p parse sketch_of run_s step_s enter_s number_s root_s extend_s bonded_s join_s ring_s opened_s closed_s first_of next_number count_of upd add_edge edges_at open_kind waits fill_edges fill lookup ring_freed invert_of reverse_of reconcile_of is_directional code_of
slot_carried = refl

-- two joins more at the last atom, the second of which fails too: the first failure stays
abbrev fails_twice : Sketch
fails_twice = join_s (join_s (sketch_of (bytes "C=1CC#1") 60 60) Double 3 7 (2 ∷ [])) Triple 3 8 (2 ∷ [])

fails_twice_lem : fails_twice.failure ≡ Failed 2 0
unfolding peek_at digit_of digit_at missing_at bracket_at aromatic_of aliphatic_of wanted_at optional_at organic_at star_at or_else other_at atom_at sign_kind mark_width bond_at percent_at rnum_at lesser_of led_at body_of body_at miss_p found_p atom_p ring_p union_by union_p unit_by unit_p line_p close_p branch_p bodies end_p parse sketch_of run_s step_s enter_s number_s root_s extend_s bonded_s join_s ring_s opened_s closed_s first_of next_number count_of upd add_edge edges_at open_kind waits fill_edges fill lookup ring_freed invert_of reverse_of reconcile_of is_directional code_of
fails_twice_lem = refl

joins_counted : fails_twice.joins ≡ 4
unfolding peek_at digit_of digit_at missing_at bracket_at aromatic_of aliphatic_of wanted_at optional_at organic_at star_at or_else other_at atom_at sign_kind mark_width bond_at percent_at rnum_at lesser_of led_at body_of body_at miss_p found_p atom_p ring_p union_by union_p unit_by unit_p line_p close_p branch_p bodies end_p parse sketch_of run_s step_s enter_s number_s root_s extend_s bonded_s join_s ring_s opened_s closed_s first_of next_number count_of upd add_edge edges_at open_kind waits fill_edges fill lookup ring_freed invert_of reverse_of reconcile_of is_directional code_of
joins_counted = refl

one_sided : BothEnds (node carbon (edge Single (To 1) ∷ []) ∷ node carbon [] ∷ []) → ⊥
unfolding bonds_to is_edge_to leads edges_at reverse_of code_of
one_sided h =
    let z : ◌≡◌ {A = ℕ} 1 0 = h.ends 0 1 Single in
    omega arith

-- half a bond from an atom to itself
half : BothEnds (node carbon (edge Single (To 0) ∷ []) ∷ []) → ⊥
unfolding bonds_to is_edge_to leads edges_at reverse_of code_of
half h =
    let z : ◌≡◌ {A = ℕ} 1 0 = h.even 0 Single refl in
    omega arith
