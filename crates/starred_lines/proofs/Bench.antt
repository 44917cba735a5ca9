-- The starred lines of the bench: what each is answered, worked out from the written meanings. Assumes nothing.
use mathlib.Core.Path.{◌≡◌, refl}
use mathlib.Core.List.{map}
use Rattle.feature.specs.Names.{place_of, names, begins}
use Rattle.feature.specs.Kinds.{invert_of, turned_or}
use Rattle.feature.specs.Bonds.{code_of, reverse_of, is_directional, reconcile_of}
use Rattle.read_token.specs.Scan.{peek_at, digit_of, digit_at, missing_at, bracket_at, aromatic_of, aliphatic_of, optional_at, organic_at, star_at, or_else, other_at, atom_at, sign_kind, mark_width, bond_at, rnum_at, after_charge, after_configuration, after_hydrogens, after_isotope, after_map, after_symbol, charge_at, close_at, configuration_at, configured, digit_step, hydrogens_at, inside_at, isotope_at, map_at, number_at, signed_at, slip, symbol_at, symbol_of, fifteen_at, short_at, long_at, late_at}
use Rattle.table.specs.Limits.{lesser_of}
use Rattle.read_line.specs.Parse.{led_at, body_of, body_at, miss_p, found_p, atom_p, ring_p, union_by, union_p, unit_by, unit_p, line_p, close_p, branch_p, bodies, end_p, parse}
use Rattle.builder_meaning.specs.Sketch.{next_number, count_of, upd, edges_at, add_edge, waits, open_kind, fill_edges, fill, lookup, ring_freed, root_s, bonded_s, extend_s, opened_s, closed_s, first_of, ring_s, join_s, enter_s, number_s, missed_s, step_s, run_s, sketch_of, open_here, open_in, first_open_s, rings_say, says_s, finish_s, left_s}
use Rattle.builder_meaning.specs.Sketch.{atom_table, bond_table, edge_table, target_of, padded}
use Rattle.feature.specs.Kinds.{in_range, bracket_in_range, invert_bracket}
use Rattle.feature.specs.Bonds.{kind_of, sure_kind}
use Rattle.packing.specs.Words as words
use Rattle.spell.specs.Spell as spell
use Rattle.table.specs.Starts.{sum_of, entry_starts}
use Rattle.join_pool.specs.Pairs as pool
use Rattle.writer.specs.Line.{line_of, dot_text, add_piece, on_last, wrapped, pop_pieces, write_event, write_events}
use Rattle.walk_entry.specs.Graph.{kind_or, kind_in, bond_in}
use Rattle.walk_entry.specs.Ways.{is_refused, is_fixed, even, said_as, scan_in, judged_back, way_of}
use Rattle.walk_entry.specs.Ties.{leading, last_leading, tie_of}
use Rattle.walk.specs.Walk as walk
use Rattle.table_check.specs.Judge as judge
use Rattle.walk_laws.specs.Plain as plain
use Rattle.write.specs.Write as write
use Rattle.write.specs.Plain as written
use Rattle.write.specs.Numbers as write-numbers
use Rattle.read.specs.Numbers as read-numbers
use Rattle.read.specs.Read.{read_refusal, built_answer}
use Rattle.read.specs.Line as line
use Rattle.desk_report.specs.Report.{of_read, of_written}
use Rattle.starred_lines.specs.Rows.{starred_rows}
use Rattle.starred_lines.specs.Asked.{Asked, Answered, read_answered, written_as, rewrite_of, number_given, pool_given, calls_from, answer_of}

-- EACH IS ANSWERED SO, and leaves this
pub rows_said : map (λ (r : Asked × Answered). answer_of r.0) starred_rows ≡ map (λ (r : Asked × Answered). r.1) starred_rows
unfolding place_of names begins peek_at digit_of digit_at missing_at bracket_at aromatic_of aliphatic_of optional_at organic_at star_at or_else other_at atom_at mark_width rnum_at after_charge after_configuration after_hydrogens after_isotope after_map after_symbol charge_at close_at configuration_at configured digit_step hydrogens_at inside_at isotope_at map_at number_at signed_at slip symbol_at symbol_of fifteen_at short_at long_at late_at lesser_of led_at body_of body_at miss_p found_p atom_p ring_p union_by union_p unit_by unit_p line_p close_p branch_p bodies end_p parse sketch_of run_s step_s enter_s number_s missed_s root_s extend_s bonded_s join_s ring_s opened_s closed_s first_of next_number count_of upd add_edge edges_at open_kind waits fill_edges fill lookup ring_freed invert_of reverse_of reconcile_of is_directional code_of open_here open_in first_open_s rings_say says_s finish_s left_s read_refusal built_answer atom_table bond_table edge_table target_of padded in_range bracket_in_range invert_bracket kind_of words.bracket_pair words.pair_of words.words_of words.list_of words.plain_of words.bracket_of words.load_of words.load_at words.entry_coded words.entry_of_words words.entry_stored sign_kind bond_at spell.digits spell.number_text spell.name_text spell.symbol_text spell.template_text spell.marked_text spell.configuration_text spell.hydrogens_text spell.charge_text spell.map_text spell.bracket_text spell.organic_symbols spell.kind_text spell.atom_text spell.bond_text spell.rnum_text sum_of entry_starts pool.opens pool.open_number pool.slot pool.counter_next pool.counter_of pool.next_of pool.open_of pool.close_of pool.open_or_close pool.hit_pair pool.hit_of line_of dot_text add_piece on_last wrapped pop_pieces write_event write_events kind_or sure_kind kind_in bond_in is_refused is_fixed turned_or even said_as scan_in judged_back way_of leading last_leading tie_of walk.pops_of plain.and_then plain.number_from plain.joins plain.rings plain.ties plain.enters plain.follows plain.entries_from plain.visit_of plain.roots_from plain.plain_walk words.is_held judge.is_entry words.is_atom judge.bond_stands judge.atoms_from judge.first_bad_bond judge.after_atoms judge.bad_record write.atom_places write.bond_slots write.put_line written.outcome_written written.write_plain read-numbers.read_told write-numbers.walk_told write-numbers.written_told line.whole_of line.whole_or_refused line.read_text of_read of_written read_answered written_as rewrite_of number_given pool_given calls_from answer_of
rows_said = refl
