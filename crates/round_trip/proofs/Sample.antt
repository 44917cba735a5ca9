-- A chain of three atoms for an example: all that the law asks can be met, and a mark is toggled. Assumes nothing.
use Prim.Native.Nat.{ℕ, zero, suc, ◌<◌}
use mathlib.Core.Path.{◌≡◌, refl, sym, ap, ◌∙◌}
use mathlib.Core.List.{List, [], ◌∷◌, ◌++◌}
use mathlib.Core.Bool.{false}
use native.Mathlib.Omega.{arith}
use Rattle.feature.specs.Text.{bytes}
use Rattle.feature.specs.Names.{names, place_of}
use Rattle.feature.specs.Kinds.{bracket_of_six, bracket_in_range, in_range, invert_bracket, invert_of, turned_or}
use Rattle.feature.specs.Bonds.{code_of, kind_of, sure_kind, reverse_of}
use Rattle.feature.specs.declared.atom_kind.AtomKind.{AtomKind}
use Rattle.feature.specs.declared.atom_kind.AtomKind.TheVariants.{Star, Aliphatic, Bracket}
use Rattle.feature.specs.declared.bond_kind.BondKind.TheVariants.{Single}
use Rattle.packing.specs.Words as words
use Rattle.spell.specs.Spell as spell
use Rattle.read_token.specs.Scan as scan
use Rattle.survive.specs.Survive as survive
use Rattle.survive.proofs.ReadBack.{alone}
use Rattle.table.specs.Limits.{lesser_of}
use Rattle.read_line.specs.Parse as parse
use Rattle.table.specs.Starts.{entry_starts, sum_of}
use Rattle.builder_meaning.specs.Sketch.{To, edge, node, atom_table, target_of, edge_table, bond_table, padded}
use Rattle.std.specs.Prelude.{Ok}
use Rattle.read.specs.Read.{graph_size}
use Rattle.read.specs.declared.ReadError.TheVariants as answer
use Rattle.read.specs.Read.{said}
use Rattle.read.specs.Line as read
use Rattle.writer.specs.Line as writer
use Rattle.walk_entry.specs.Graph.{Graph, kind_at, kind_or, kind_in, bond_in}
use Rattle.walk_entry.specs.Ways.{is_refused, is_fixed, even, said_as, scan_in, judged_back, way_of}
use Rattle.walk_entry.specs.Ties.{leading, last_leading, tie_of}
use Rattle.walk.specs.Walk.{pops_of, root_turn, left_in, numbered_of, ring_turn, tied_of, tie_turn, entered_of, enter_turn, bond_turn, entry_turn, atom_of, turn_of, step_of, walk_to, events_of, turns_of}
use Rattle.table_check.specs.Judge.{is_entry, bond_stands, atoms_from, first_bad_bond, after_atoms, bad_record}
use Rattle.write.specs.Write.{graph_of, walk_in, said_in, atom_places, bond_slots, write_leaves, put_line, line_concluded, graph_written, write_of}
use Rattle.write.specs.Plain.{order_plain}
use Rattle.write.proofs.Plain.{write_plain_lem}
use Rattle.trip_graph.specs.Renumber.{Simple}
use Rattle.trip_graph.proofs.Written.{done_simple}
use Rattle.trip_graph.specs.Renumbered.{others_of, parent_entry, done_of, edge_of, node_of, first_atoms, renumbered}
use Rattle.trip_graph.specs.Marks.{Tetrahedral, bears_hydrogen, other_mark, toggled, odd_index, back_kind}
use Rattle.trip_graph.proofs.Bench.{below_three}
use Rattle.round_trip.specs.RoundTrip.{Plain, Readable, read_as}
use Rattle.round_trip.specs.Steps.{back_by_turns}
use Rattle.round_trip.specs.ByOrder.{ReadByOrder}
use Rattle.round_trip.proofs.Law.{turns_trip, turns_one_line}
use Rattle.round_trip.proofs.RoundTrip.{trip_by_order}
use Rattle.read_line.specs.Events.{has_nest}

abbrev carbon : AtomKind
carbon = Aliphatic 1

-- a carbon with one hydrogen and a mark
abbrev marked : ℕ → AtomKind
marked c = Bracket (bracket_of_six 1000 16 c 1 31 1000)

-- atom 1 has its bond to atom 0 second, at the odd index 1
abbrev atoms : List ℕ
atoms = words.list_of carbon ++ (1 ∷ words.list_of (marked 1) ++ (2 ∷ words.list_of carbon ++ (1 ∷ [])))

abbrev bonds : List ℕ
bonds = 2 ∷ 1 ∷ 2 ∷ 2 ∷ 2 ∷ 0 ∷ 2 ∷ 1 ∷ []

abbrev line : List ℕ
line = bytes "C-[C@H]-C"

written : write_of 12 atoms 3 bonds 4 ≡ write_leaves (Ok 9) (line ++ (0 ∷ 0 ∷ 0 ∷ []))
unfolding words.list_of words.words_of words.pair_of words.bracket_pair words.load_at words.load_of words.plain_of words.bracket_of words.entry_stored words.entry_of_words words.entry_coded kind_of code_of reverse_of bracket_in_range in_range invert_bracket invert_of kind_or sure_kind kind_in bond_in is_refused is_fixed turned_or even said_as scan_in judged_back way_of leading last_leading tie_of pops_of root_turn left_in numbered_of ring_turn tied_of tie_turn entered_of enter_turn bond_turn entry_turn atom_of turn_of step_of walk_to events_of turns_of words.is_held is_entry words.is_atom bond_stands atoms_from first_bad_bond after_atoms bad_record entry_starts sum_of lesser_of walk_in said_in atom_places bond_slots put_line line_concluded graph_written write_of writer.line_of writer.dot_text writer.add_piece writer.on_last writer.wrapped writer.pop_pieces writer.write_event writer.write_events spell.atom_text spell.kind_text spell.name_text spell.symbol_text spell.organic_symbols spell.bracket_text spell.number_text spell.configuration_text spell.hydrogens_text spell.charge_text spell.map_text spell.bond_text spell.digits names
written = refl

-- ---- what is asked
below_one : (P : ℕ → Type 0) → P 0 → (a : ℕ) → a < 1 → P a
below_one P x zero h = x
below_one P x (suc a) h = absurd (omega arith)

abbrev chain : Graph
chain = graph_of 3 atoms bonds

chain_plain : Plain chain
unfolding words.list_of words.words_of words.pair_of words.bracket_pair words.load_at words.load_of words.plain_of words.bracket_of bracket_in_range in_range kind_or kind_in survive.symbol_survives survive.configuration_survives survive.hydrogens_survive survive.charge_survives survive.fields_survive survive.survives
chain_plain = record {
  some = omega arith;
  survive = below_three (λ (a : ℕ). survive.Survives (kind_at chain a)) (alone carbon refl) (alone (marked 1) refl) (alone carbon refl);
  marks = below_three (λ (a : ℕ). Tetrahedral (kind_at chain a)) tt (omega arith) tt;
}

line_flat : has_nest (parse.parse line) ≡ false
unfolding has_nest parse.parse parse.line_p parse.atom_p parse.found_p parse.bodies parse.body_at parse.body_of parse.unit_p parse.unit_by parse.union_p parse.union_by parse.ring_p parse.led_at parse.close_p parse.branch_p parse.end_p scan.peek_at scan.digit_of scan.digit_at scan.digit_step scan.number_at scan.missing_at scan.isotope_at scan.slip scan.symbol_of scan.symbol_at scan.short_at scan.late_at scan.long_at scan.allene_at scan.octahedral_at scan.square_at scan.trigonal_at scan.configuration_at scan.hydrogens_at scan.fifteen_at scan.signed_at scan.charge_at scan.map_at scan.close_at scan.after_map scan.after_charge scan.after_hydrogens scan.after_configuration scan.configured scan.after_symbol scan.after_isotope scan.inside_at scan.bracket_at scan.aromatic_of scan.aliphatic_of scan.wanted_at scan.optional_at scan.organic_at scan.star_at scan.or_else scan.other_at scan.atom_at scan.sign_kind scan.mark_width scan.bond_at scan.percent_at scan.rnum_at names place_of
line_flat = refl

-- room for one atom and one entry more, and a word that is no entry
readable : Readable line 3 4 12 11
unfolding lesser_of
readable = record { short = omega arith; shallow = line_flat; atoms = omega arith; bonds = omega arith }

-- ---- what is said
-- atom 1 comes back with its mark toggled and its bond to atom 0 first
chain_renumbered : back_by_turns atoms 3 bonds 4 ≡ node carbon (edge Single (To 1) ∷ []) ∷ node (marked 2) (edge Single (To 0) ∷ edge Single (To 2) ∷ []) ∷ node carbon (edge Single (To 1) ∷ []) ∷ []
unfolding words.list_of words.words_of words.pair_of words.bracket_pair words.load_at words.load_of words.plain_of words.bracket_of words.entry_stored words.entry_of_words words.entry_coded kind_of code_of reverse_of bracket_in_range in_range invert_bracket invert_of kind_or sure_kind kind_in bond_in is_refused is_fixed turned_or even said_as scan_in judged_back way_of leading last_leading tie_of pops_of root_turn left_in numbered_of ring_turn tied_of tie_turn entered_of enter_turn bond_turn entry_turn atom_of turn_of step_of walk_to turns_of entry_starts sum_of walk_in bears_hydrogen other_mark toggled odd_index back_kind others_of parent_entry done_of edge_of node_of first_atoms renumbered
chain_renumbered = refl

-- so the tables that the reading leaves are these, word for word
chain_back : read.read_text line 12 11 ≡ said (Ok (graph_size 3 4))
    (words.list_of carbon ++ (1 ∷ words.list_of (marked 2) ++ (2 ∷ words.list_of carbon ++ (1 ∷ 0 ∷ 0 ∷ 0 ∷ []))))
    (2 ∷ 1 ∷ 2 ∷ 0 ∷ 2 ∷ 2 ∷ 2 ∷ 1 ∷ 0 ∷ 0 ∷ 0 ∷ [])
unfolding padded atom_table bond_table edge_table target_of words.list_of code_of
chain_back =
    turns_trip 12 atoms 3 bonds 4 9 (line ++ (0 ∷ 0 ∷ 0 ∷ [])) 12 11 chain_plain written readable
    ∙ ap (read_as 3 4 12 11) chain_renumbered

-- and the same by a walk order into tables of 3, 5 and 4 words
chain_by_order : ReadByOrder atoms 3 bonds 4 (order_plain 3 5 4 atoms 3 bonds 4) 12 11 (read.read_text line 12 11)
chain_by_order =
    trip_by_order 12 atoms 3 bonds 4 9 (line ++ (0 ∷ 0 ∷ 0 ∷ [])) 3 5 4 12 11 chain_plain (sym (write_plain_lem atoms 3 bonds 4 12) ∙ written)
    (record { walked = omega arith; number = omega arith; back = omega arith }) readable

-- ---- another graph with this line
-- the one that came back
abbrev back_atoms : List ℕ
back_atoms = words.list_of carbon ++ (1 ∷ words.list_of (marked 2) ++ (2 ∷ words.list_of carbon ++ (1 ∷ [])))

abbrev back_bonds : List ℕ
back_bonds = 2 ∷ 1 ∷ 2 ∷ 0 ∷ 2 ∷ 2 ∷ 2 ∷ 1 ∷ []

abbrev back : Graph
back = graph_of 3 back_atoms back_bonds

back_written : write_of 9 back_atoms 3 back_bonds 4 ≡ write_leaves (Ok 9) line
unfolding words.list_of words.words_of words.pair_of words.bracket_pair words.load_at words.load_of words.plain_of words.bracket_of words.entry_stored words.entry_of_words words.entry_coded kind_of code_of reverse_of bracket_in_range in_range invert_bracket invert_of kind_or sure_kind kind_in bond_in is_refused is_fixed turned_or even said_as scan_in judged_back way_of leading last_leading tie_of pops_of root_turn left_in numbered_of ring_turn tied_of tie_turn entered_of enter_turn bond_turn entry_turn atom_of turn_of step_of walk_to events_of turns_of words.is_held is_entry words.is_atom bond_stands atoms_from first_bad_bond after_atoms bad_record entry_starts sum_of lesser_of walk_in said_in atom_places bond_slots put_line line_concluded graph_written write_of writer.line_of writer.dot_text writer.add_piece writer.on_last writer.wrapped writer.pop_pieces writer.write_event writer.write_events spell.atom_text spell.kind_text spell.name_text spell.symbol_text spell.organic_symbols spell.bracket_text spell.number_text spell.configuration_text spell.hydrogens_text spell.charge_text spell.map_text spell.bond_text spell.digits names
back_written = refl

back_plain : Plain back
unfolding words.list_of words.words_of words.pair_of words.bracket_pair words.load_at words.load_of words.plain_of words.bracket_of bracket_in_range in_range kind_or kind_in survive.symbol_survives survive.configuration_survives survive.hydrogens_survive survive.charge_survives survive.fields_survive survive.survives
back_plain = record {
  some = omega arith;
  survive = below_three (λ (a : ℕ). survive.Survives (kind_at back a)) (alone carbon refl) (alone (marked 2) refl) (alone carbon refl);
  marks = below_three (λ (a : ℕ). Tetrahedral (kind_at back a)) tt (omega arith) tt;
}

-- the two are not the same tables, and have the same renumbering
chain_one : back_by_turns atoms 3 bonds 4 ≡ back_by_turns back_atoms 3 back_bonds 4
chain_one =
    turns_one_line 12 atoms 3 bonds 4 9 (line ++ (0 ∷ 0 ∷ 0 ∷ [])) 9 back_atoms 3 back_bonds 4 9 line chain_plain back_plain written back_written refl line_flat

-- ---- a lone star
-- A record of zeros looks like a star too, but the star that is read back has a star's words.
abbrev star_atoms : List ℕ
star_atoms = words.list_of Star ++ (0 ∷ [])

star_written : write_of 1 star_atoms 1 [] 0 ≡ write_leaves (Ok 1) (bytes "*")
unfolding words.list_of words.words_of words.pair_of words.load_at words.load_of words.plain_of in_range kind_or kind_in even said_as root_turn left_in entry_turn atom_of turn_of step_of walk_to events_of turns_of words.is_held words.is_atom atoms_from first_bad_bond after_atoms bad_record entry_starts sum_of lesser_of walk_in said_in atom_places bond_slots put_line line_concluded graph_written write_of writer.line_of writer.dot_text writer.add_piece writer.write_event writer.write_events spell.atom_text spell.kind_text
star_written = refl

star_plain : Plain (graph_of 1 star_atoms [])
unfolding words.list_of words.words_of words.pair_of words.load_at words.load_of words.plain_of in_range kind_or kind_in survive.survives
star_plain = record {
  some = omega arith;
  survive = below_one (λ (a : ℕ). survive.Survives (kind_at (graph_of 1 star_atoms []) a)) (alone Star refl);
  marks = below_one (λ (a : ℕ). Tetrahedral (kind_at (graph_of 1 star_atoms []) a)) tt;
}

star_flat : has_nest (parse.parse (bytes "*")) ≡ false
unfolding has_nest parse.parse parse.line_p parse.atom_p parse.found_p parse.bodies parse.body_at parse.body_of parse.unit_p parse.unit_by parse.union_p parse.union_by parse.ring_p parse.led_at parse.close_p parse.branch_p parse.end_p scan.peek_at scan.bracket_at scan.aromatic_of scan.aliphatic_of scan.wanted_at scan.optional_at scan.organic_at scan.star_at scan.or_else scan.other_at scan.atom_at scan.sign_kind scan.mark_width scan.bond_at scan.percent_at scan.rnum_at scan.missing_at scan.digit_at scan.digit_of
star_flat = refl

star_back : read.read_text (bytes "*") 3 0 ≡ said (Ok (graph_size 1 0)) (1 ∷ 0 ∷ 0 ∷ []) []
unfolding lesser_of padded atom_table bond_table edge_table words.list_of words.words_of words.pair_of words.load_at words.load_of words.plain_of in_range kind_or kind_in even said_as root_turn left_in entry_turn atom_of turn_of step_of walk_to turns_of entry_starts sum_of walk_in bears_hydrogen odd_index back_kind others_of parent_entry done_of node_of first_atoms renumbered
star_back =
    turns_trip 1 star_atoms 1 [] 0 1 (bytes "*") 3 0 star_plain star_written
    (record { short = omega arith; shallow = star_flat; atoms = omega arith; bonds = omega arith })

-- so the chain is simple
chain_simple : Simple chain
chain_simple = done_simple 12 atoms 3 bonds 4 9 (line ++ (0 ∷ 0 ∷ 0 ∷ [])) (omega arith) written
