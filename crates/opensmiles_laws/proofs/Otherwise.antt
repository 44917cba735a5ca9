-- The departures in reading: what the read call says to each line of the table, worked out from the written meanings; and of the
-- departures in meaning, what OpenSMILES forbids or means instead. Assumes nothing.
use Prim.Native.Nat.{ℕ, zero, suc, ◌+◌, ◌≤◌}
use mathlib.Core.Path.{◌≡◌, refl, sym, ap, ◌∙◌, subst}
use mathlib.Core.Bool.{Bool, true, false}
use mathlib.Core.List.{List, [], ◌∷◌, map}
use mathlib.Core.Option.{none, some}
use native.Mathlib.Omega.{arith}
use Rattle.feature.specs.Pick.{pick}
use Rattle.feature.specs.Text.{byte, bytes}
use Rattle.feature.specs.Names.{place_of, names, begins}
use Rattle.feature.specs.Kinds.{invert_of, invert_bracket, no_hydrogens, th1}
use Rattle.feature.specs.Bonds.{code_of, reverse_of, is_directional, reconcile_of}
use Rattle.feature.specs.declared.atom_kind.AtomKind.{AtomKind}
use Rattle.feature.specs.declared.atom_kind.AtomKind.TheVariants.{Star, Aliphatic, Aromatic, Bracket}
use Rattle.feature.specs.declared.bond_kind.BondKind.TheVariants.{Elided}
use Rattle.read_token.specs.Scan.{peek_at, digit_of, digit_at, missing_at, bracket_at, aromatic_of, aliphatic_of, wanted_at, optional_at, organic_at, star_at, or_else, other_at, atom_at, mark_width, rnum_at, after_charge, after_configuration, after_hydrogens, after_isotope, after_map, after_symbol, charge_at, close_at, configuration_at, configured, digit_step, hydrogens_at, inside_at, isotope_at, map_at, number_at, signed_at, slip, symbol_at, symbol_of, fifteen_at, short_at, long_at, late_at, square_at, trigonal_at, octahedral_at, allene_at, sign_kind, bond_at}
use Rattle.table.specs.Limits.{lesser_of}
use Rattle.read_line.specs.Parse.{led_at, body_of, body_at, miss_p, found_p, atom_p, ring_p, union_by, union_p, unit_by, unit_p, line_p, close_p, branch_p, bodies, end_p, parse}
use Rattle.builder_meaning.specs.Sketch.{To, Edge, Node, edge, node, leads, next_number, count_of, upd, edges_at, add_edge, waits, open_kind, fill_edges, fill, lookup, ring_freed, root_s, bonded_s, extend_s, opened_s, closed_s, first_of, ring_s, join_s, enter_s, number_s, judged_s, missed_s, step_s, run_s, sketch_of, open_here, open_in, first_open_s, rings_say, says_s, finish_s, left_s}
use Rattle.read.specs.Read.{Said, read_refusal, built_answer}
use Rattle.std.specs.Prelude.{Err}
use Rattle.read.specs.declared.ReadError.TheVariants as answer
use Rattle.read.specs.Line.{read_refusing, whole_of, whole_or_refused, read_text}
use Rattle.grammar.specs.Grammar.{d1, value, Atom, organic, bracket, bare1, organics, organic_s, organic_k, known, short, symbol_s, iso0, isotope_s, SP, most, valid1, class1, class2, code1, chiral_s, H, hcount_s, head, head_s, neutral, charge_s, nomap, map_s, atom_s, ring1, rnum_s, rnum_k, double, triple, bond_s, bond?s, bond?k, elided, link_s, link_k, digit_s, Line, start, link, ring, spell, join_event, aromatics, aliphatics}
use Rattle.grammar.specs.Grammar as grammar
use Rattle.grammar.specs.Names.{place1, has1}
use Rattle.grammar.specs.OpenSmiles.{open_organics, OpenOrganic, Atom', organic', no_rings, and_ring, Chain, first, then, branched, no_branches, atom_s', atom_k', rings_s, chain_s, rings_e, chain_e, says}
use Rattle.opensmiles_laws.specs.Molecule.{atom_placed, agreed, closed, molecule_ringed, numbered, as_written, molecule_told, next, tell_all, molecule_of, Meant, times_to, JoinedToItself, JoinedTwice, Allowed, allene_like}
use Rattle.opensmiles_laws.specs.Departures.{room, plain_carbon, one_letter_atom, marked_carbon, joined_to_itself, joined_twice, cumulene, departure_rows}
use Rattle.opensmiles_laws.proofs.Held.{atoms_in}

-- EACH LINE IS ANSWERED SO
pub departures_said : map (λ (r : List ℕ × Said). read_text r.0 room room) departure_rows ≡ map (λ (r : List ℕ × Said). r.1) departure_rows
unfolding place_of names begins peek_at digit_of digit_at missing_at bracket_at aromatic_of aliphatic_of optional_at organic_at star_at or_else other_at atom_at mark_width rnum_at after_charge after_configuration after_hydrogens after_isotope after_map after_symbol charge_at close_at configuration_at configured digit_step hydrogens_at inside_at isotope_at map_at number_at signed_at slip symbol_at symbol_of fifteen_at short_at long_at late_at square_at allene_at sign_kind bond_at lesser_of led_at body_of body_at miss_p found_p atom_p ring_p union_by union_p unit_by unit_p line_p close_p branch_p bodies end_p parse next_number count_of upd edges_at add_edge waits open_kind fill_edges fill lookup ring_freed root_s bonded_s extend_s opened_s closed_s first_of ring_s join_s enter_s number_s missed_s step_s run_s sketch_of open_here open_in first_open_s rings_say says_s finish_s invert_of invert_bracket code_of reverse_of is_directional reconcile_of wanted_at octahedral_at trigonal_at judged_s left_s read_refusal built_answer whole_of whole_or_refused read_text
departures_said = refl

-- SPELLINGS OF TREES THAT ARE NOT DONE: a ring that is open, two ends that don't agree, a mark that can't be turned
bare_c : Atom
unfolding has1 organics
bare_c = organic (bare1 (byte "C") tt)

pub open_ring : Line
open_ring = ring (start bare_c) none (ring1 d1)

pub unlike_ends : Line
unlike_ends = ring (link (link (ring (start bare_c) (some double) (ring1 d1)) elided bare_c) elided bare_c) (some triple) (ring1 d1)

pub square_h : Line
unfolding has1 grammar.symbol_names known valid1 value most
square_h = link (start bare_c) elided (bracket (head iso0 (short (byte "C") tt) (code1 SP d1 tt) H) neutral nomap)

pub trees_spelled : (spell open_ring ≡ bytes "C1") × (spell unlike_ends ≡ bytes "C=1CC#1") × (spell square_h ≡ bytes "C[C@SP1H]")
unfolding bare_c open_ring unlike_ends square_h spell atom_s organic_s head_s isotope_s symbol_s chiral_s class1 class2 hcount_s charge_s map_s digit_s rnum_s bond?s bond_s link_s
trees_spelled = (refl, refl, refl)

pub trees_answered : (read_text (bytes "C1") room room ≡ read_refusing (Err (answer.Rnum 0)) room room) × (read_text (bytes "C=1CC#1") room room ≡ read_refusing (Err (answer.Join 2 0)) room room) × (read_text (bytes "C[C@SP1H]") room room ≡ read_refusing (Err (answer.Inversion 1)) room room)
unfolding place_of names begins peek_at digit_of digit_at missing_at bracket_at aromatic_of aliphatic_of optional_at organic_at star_at or_else other_at atom_at mark_width rnum_at after_charge after_configuration after_hydrogens after_isotope after_map after_symbol charge_at close_at configuration_at configured digit_step hydrogens_at inside_at isotope_at map_at number_at signed_at slip symbol_at symbol_of fifteen_at short_at long_at late_at square_at allene_at sign_kind bond_at lesser_of led_at body_of body_at miss_p found_p atom_p ring_p union_by union_p unit_by unit_p line_p close_p branch_p bodies end_p parse next_number count_of upd edges_at add_edge waits open_kind fill_edges fill lookup ring_freed root_s bonded_s extend_s opened_s closed_s first_of ring_s join_s enter_s number_s missed_s step_s run_s sketch_of open_here open_in first_open_s rings_say says_s finish_s invert_of invert_bracket code_of reverse_of is_directional reconcile_of wanted_at octahedral_at trigonal_at judged_s left_s read_refusal built_answer whole_of whole_or_refused read_text
trees_answered = (refl, refl, refl)

-- a chain whose molecule is forbidden means nothing
unmeant : (u : Chain) (bad : List Node) → atoms_in (molecule_of as_written (says u)) ≡ bad → ¬ Allowed bad → (ns : List Node) → ¬ Meant u ns
unfolding atoms_in
unmeant u bad h f ns m = f (subst Allowed (sym m.atoms ∙ sym (ap atoms_in m.is) ∙ h) m.allowed)

unmarked : Atom'
unfolding has1 organics open_organics OpenOrganic
unmarked = organic' (bare1 (byte "C") tt) tt

-- "joined to itself": C11
pub loop_joined : JoinedToItself joined_to_itself
unfolding times_to edges_at leads
loop_joined = record { atom = 0; itself = omega arith }

pub loop_forbidden : ¬ Allowed joined_to_itself
loop_forbidden a = a.self_free loop_joined

pub loop_chain : Chain
unfolding unmarked
loop_chain = first (branched unmarked (and_ring (and_ring no_rings none (ring1 d1)) none (ring1 d1)) no_branches)

pub loop_spelled : chain_s loop_chain ≡ bytes "C11"
unfolding loop_chain unmarked chain_s atom_s' organic_s rings_s bond?s rnum_s digit_s
loop_spelled = refl

pub loop_unmeant : (ns : List Node) → ¬ Meant loop_chain ns
unfolding loop_chain unmarked atoms_in molecule_of tell_all next molecule_told as_written atom_placed numbered molecule_ringed closed agreed lookup open_kind waits edges_at add_edge upd fill fill_edges ring_freed reverse_of code_of says chain_e rings_e atom_k' organic_k link_k join_event bond?k rnum_k value place1 has1 aromatics aliphatics
loop_unmeant ns = unmeant loop_chain joined_to_itself refl loop_forbidden ns

-- "joined twice": C1C1
pub pair_joined : JoinedTwice joined_twice
unfolding times_to edges_at leads
pair_joined = record { atom = 0; other = 1; apart = λ h. absurd (omega (arith, h)); twice = omega arith }

pub pair_forbidden : ¬ Allowed joined_twice
pair_forbidden a = a.twice_free pair_joined

pub pair_chain : Chain
unfolding unmarked
pair_chain = then (first (branched unmarked (and_ring no_rings none (ring1 d1)) no_branches)) elided (branched unmarked (and_ring no_rings none (ring1 d1)) no_branches)

pub pair_spelled : chain_s pair_chain ≡ bytes "C1C1"
unfolding pair_chain unmarked chain_s atom_s' organic_s rings_s bond?s rnum_s digit_s link_s
pair_spelled = refl

pub pair_unmeant : (ns : List Node) → ¬ Meant pair_chain ns
unfolding pair_chain unmarked atoms_in molecule_of tell_all next molecule_told as_written atom_placed numbered molecule_ringed closed agreed lookup open_kind waits edges_at add_edge upd fill fill_edges ring_freed reverse_of code_of says chain_e rings_e atom_k' organic_k link_k join_event bond?k rnum_k value place1 has1 aromatics aliphatics
pair_unmeant ns = unmeant pair_chain joined_twice refl pair_forbidden ns

-- "allenes": "@" is there on an allene-like centre, and is held as TH1, not as AL1
pub allene_centre : allene_like (edges_at 1 (cumulene (marked_carbon th1 no_hydrogens))) ≡ true
unfolding allene_like edges_at code_of
allene_centre = refl

-- "H0": two kinds
hydrogens_of : AtomKind → ℕ
hydrogens_of Star = 0
hydrogens_of (Aliphatic n) = 0
hydrogens_of (Aromatic n) = 0
hydrogens_of (Bracket b) = b.hydrogens

pub h0_apart : ¬ (one_letter_atom (byte "C") 0 ≡ one_letter_atom (byte "C") no_hydrogens)
unfolding hydrogens_of
h0_apart e = let h : ◌≡◌ {A = ℕ} 0 no_hydrogens = ap hydrogens_of e in absurd (omega (arith, h))

-- A line that means something, so that the claims say something: CC
abbrev pub ethane : List Node
ethane = node plain_carbon (edge Elided (To 1) ∷ []) ∷ node plain_carbon (edge Elided (To 0) ∷ []) ∷ []

few_times : (t : ℕ) (e : Edge) → times_to t (e ∷ []) ≤ 1
unfolding times_to
few_times t e = by (leads t e.target)
  where
    by : (b : Bool) → pick b 1 0 + 0 ≤ 1
    by true = omega arith
    by false = omega arith

none_times : (t : ℕ) → times_to t [] ≡ 0
unfolding times_to
none_times t = refl

ethane_apart : (a : ℕ) → ¬ (1 ≤ times_to a (edges_at a ethane))
unfolding times_to edges_at leads
ethane_apart zero h = absurd (omega (arith, h))
ethane_apart (suc zero) h = absurd (omega (arith, h))
ethane_apart (suc (suc a)) h = absurd (omega (arith, h))

ethane_single : (a t : ℕ) → ¬ (2 ≤ times_to t (edges_at a ethane))
unfolding edges_at
ethane_single zero t h = absurd (omega (arith, h, few_times t (edge Elided (To 1))))
ethane_single (suc zero) t h = absurd (omega (arith, h, few_times t (edge Elided (To 0))))
ethane_single (suc (suc a)) t h = absurd (omega (arith, h, none_times t))

pub ethane_chain : Chain
unfolding unmarked
ethane_chain = then (first (branched unmarked no_rings no_branches)) elided (branched unmarked no_rings no_branches)

pub ethane_spelled : chain_s ethane_chain ≡ bytes "CC"
unfolding ethane_chain unmarked chain_s atom_s' organic_s rings_s link_s
ethane_spelled = refl

pub ethane_meant : Meant ethane_chain ethane
unfolding ethane_chain unmarked molecule_of tell_all next molecule_told as_written atom_placed numbered molecule_ringed closed agreed lookup open_kind waits edges_at add_edge upd fill fill_edges ring_freed reverse_of code_of says chain_e rings_e atom_k' organic_k link_k join_event bond?k rnum_k value place1 has1 aromatics aliphatics first_open_s open_in open_here
ethane_meant = record {
  whole = record { atoms = ethane; path = 1 ∷ 0 ∷ []; opens = []; joins = 0 };
  is = refl;
  atoms = refl;
  rings = refl;
  allowed = record { self_free = λ j. ethane_apart j.atom j.itself; twice_free = λ j. ethane_single j.atom j.other j.twice };
}
