-- A ring of three worked out from the definitions: the hypotheses of the laws can be met, and a mark is toggled. Assumes nothing.
use Prim.Native.Nat.{ℕ, zero, suc, ◌<◌}
use mathlib.Core.Path.{◌≡◌, refl, subst}
use mathlib.Core.List.{List, [], ◌∷◌, ◌++◌}
use native.Mathlib.Omega.{arith}
use lib.ListN.{replicate}
use Rattle.std.specs.Prelude.{None}
use Rattle.feature.specs.Kinds.{bracket_of_six, bracket_in_range, in_range, invert_bracket, invert_of, turned_or}
use Rattle.feature.specs.Bonds.{code_of, kind_of, sure_kind, reverse_of}
use Rattle.feature.specs.declared.atom_kind.AtomKind.{AtomKind}
use Rattle.feature.specs.declared.atom_kind.AtomKind.TheVariants.{Aliphatic, Bracket}
use Rattle.feature.specs.declared.bond_kind.BondKind.TheVariants.{Single, Up, Down}
use Rattle.packing.specs.Words as words
use Rattle.join_pool.specs.Pairs as pool
use Rattle.builder_meaning.specs.Sketch.{To, Node, edge, node, start_s, run_s}
use Rattle.walk_entry.specs.Graph.{Graph, graph, kind_at, degree_at, bond_of, kind_or, kind_in, bond_in}
use Rattle.walk_entry.specs.Ways.{is_refused, is_fixed, even, said_as, scan_in, judged_back, way_of}
use Rattle.walk_entry.specs.Ties.{leading, last_leading, tie_of}
use Rattle.walk.specs.Walk.{Walk, pops_of, root_turn, left_in, numbered_of, ring_turn, tied_of, tie_turn, entered_of, enter_turn, bond_turn, entry_turn, atom_of, turn_of, step_of, walk_to, events_of, turns_of}
use Rattle.write.specs.Write.{pair_words}
use Rattle.walk_laws.specs.Trek.{fresh, degrees}
use Rattle.trip_graph.specs.Renumber.{Backed, Simple}
use Rattle.trip_graph.specs.Steps.{Built}
use Rattle.trip_graph.specs.Renumbered.{others_of, parent_entry, done_of, edge_of, node_of, by_walk, first_atoms, renumbered}
use Rattle.trip_graph.specs.Marks.{Tetrahedral, bears_hydrogen, other_mark, toggled, odd_index, back_kind}
use Rattle.trip_graph.proofs.Fair.{written_simple}
use Rattle.trip_graph.proofs.Trip.{graph_trip}
use Rattle.trip_text.specs.Steps.{retold}

abbrev carbon : AtomKind
carbon = Aliphatic 1

-- a carbon with one hydrogen and a mark
abbrev marked : ℕ → AtomKind
marked c = Bracket (bracket_of_six 1000 5 c 1 15 1000)

-- atom 1 has its bond to atom 0 second, at the odd index 1, and so has atom 2 its bond to atom 1; the bond of 0 to 2 is directed
abbrev ring : Graph
ring =
    graph 3 (words.list_of carbon ++ (2 ∷ words.list_of (marked 1) ++ (2 ∷ words.list_of carbon ++ (2 ∷ []))))
    (2 ∷ 1 ∷ 7 ∷ 2 ∷ 2 ∷ 2 ∷ 2 ∷ 0 ∷ 8 ∷ 0 ∷ 2 ∷ 1 ∷ []) (0 ∷ 2 ∷ 4 ∷ [])

abbrev walked : Walk
walked = walk_to ring (turns_of 3 6) (fresh 3 3 3 3 (replicate pair_words 0))

not_refused : walked.at.refusal ≡ None
unfolding words.list_of words.words_of words.pair_of words.bracket_pair words.load_at words.load_of words.plain_of words.bracket_of words.entry_stored words.entry_of_words words.entry_coded kind_of code_of reverse_of bracket_in_range in_range invert_bracket invert_of pool.opens pool.open_number pool.slot pool.counter_next pool.counter_of pool.next_of pool.open_of pool.close_of pool.open_or_close pool.hit_pair pool.hit_of kind_or sure_kind kind_in bond_in is_refused is_fixed turned_or even said_as scan_in judged_back way_of leading last_leading tie_of pops_of root_turn left_in numbered_of ring_turn tied_of tie_turn entered_of enter_turn bond_turn entry_turn atom_of turn_of step_of walk_to turns_of
not_refused = refl

-- atom 1 comes back with its mark toggled and its bond to atom 0 first
ring_renumbered : renumbered ring (by_walk walked) ≡ node carbon (edge Single (To 1) ∷ edge Up (To 2) ∷ []) ∷ node (marked 2) (edge Single (To 0) ∷ edge Single (To 2) ∷ []) ∷ node carbon (edge Single (To 1) ∷ edge Down (To 0) ∷ []) ∷ []
unfolding words.list_of words.words_of words.pair_of words.bracket_pair words.load_at words.load_of words.plain_of words.bracket_of words.entry_stored words.entry_of_words words.entry_coded kind_of code_of reverse_of bracket_in_range in_range invert_bracket invert_of pool.opens pool.open_number pool.slot pool.counter_next pool.counter_of pool.next_of pool.open_of pool.close_of pool.open_or_close pool.hit_pair pool.hit_of kind_or sure_kind kind_in bond_in is_refused is_fixed turned_or even said_as scan_in judged_back way_of leading last_leading tie_of pops_of root_turn left_in numbered_of ring_turn tied_of tie_turn entered_of enter_turn bond_turn entry_turn atom_of turn_of step_of walk_to turns_of others_of parent_entry done_of bears_hydrogen other_mark toggled odd_index back_kind edge_of node_of first_atoms renumbered
ring_renumbered = refl

-- ---- the hypotheses
pub below_three : (P : ℕ → Type 0) → P 0 → P 1 → P 2 → (a : ℕ) → a < 3 → P a
below_three P x y z zero h = x
below_three P x y z (suc zero) h = y
below_three P x y z (suc (suc zero)) h = z
below_three P x y z (suc (suc (suc a))) h = absurd (omega arith)

pub below_two : (P : ℕ → Type 0) → P 0 → P 1 → (a : ℕ) → a < 2 → P a
below_two P x y zero h = x
below_two P x y (suc zero) h = y
below_two P x y (suc (suc a)) h = absurd (omega arith)

-- for each entry of the ring
each_entry : (P : ℕ → ℕ → Type 0) → P 0 0 → P 0 1 → P 1 0 → P 1 1 → P 2 0 → P 2 1 → (a i : ℕ) → a < 3 → i < degree_at ring a → P a i
unfolding words.list_of words.words_of words.pair_of words.bracket_pair
each_entry P p q r s t u a i ha =
    below_three (λ (a : ℕ). i < degree_at ring a → P a i) (below_two (P 0) p q i) (below_two (P 1) r s i) (below_two (P 2) t u i) a ha

ring_simple : Simple ring
unfolding words.list_of words.words_of words.pair_of words.bracket_pair words.entry_stored words.entry_of_words words.entry_coded kind_of reverse_of sure_kind bond_in
ring_simple = record {
  some = omega arith;
  apart = each_entry (λ (a i : ℕ). (bond_of ring a i).to ≡ a → ⊥) (λ z. omega arith) (λ z. omega arith) (λ z. omega arith) (λ z. omega arith) (λ z. omega arith) (λ z. omega arith);
  once = λ a i j ha hi hj. each_entry (λ (a i : ℕ). (j : ℕ) → j < degree_at ring a → (bond_of ring a i).to ≡ (bond_of ring a j).to → i ≡ j)
      (below_two (λ (j : ℕ). (bond_of ring 0 0).to ≡ (bond_of ring 0 j).to → 0 ≡ j) (λ z. refl) (λ z. absurd (omega arith)))
      (below_two (λ (j : ℕ). (bond_of ring 0 1).to ≡ (bond_of ring 0 j).to → 1 ≡ j) (λ z. absurd (omega arith)) (λ z. refl))
      (below_two (λ (j : ℕ). (bond_of ring 1 0).to ≡ (bond_of ring 1 j).to → 0 ≡ j) (λ z. refl) (λ z. absurd (omega arith)))
      (below_two (λ (j : ℕ). (bond_of ring 1 1).to ≡ (bond_of ring 1 j).to → 1 ≡ j) (λ z. absurd (omega arith)) (λ z. refl))
      (below_two (λ (j : ℕ). (bond_of ring 2 0).to ≡ (bond_of ring 2 j).to → 0 ≡ j) (λ z. refl) (λ z. absurd (omega arith)))
      (below_two (λ (j : ℕ). (bond_of ring 2 1).to ≡ (bond_of ring 2 j).to → 1 ≡ j) (λ z. absurd (omega arith)) (λ z. refl))
      a i ha hi j hj;
  backed = each_entry (λ (a i : ℕ). Backed ring a (bond_of ring a i).to (bond_of ring a i))
      (record { place = 1; within = omega arith; leads = refl; reversed = refl })
      (record { place = 0; within = omega arith; leads = refl; reversed = refl })
      (record { place = 1; within = omega arith; leads = refl; reversed = refl })
      (record { place = 0; within = omega arith; leads = refl; reversed = refl })
      (record { place = 1; within = omega arith; leads = refl; reversed = refl })
      (record { place = 0; within = omega arith; leads = refl; reversed = refl });
}

ring_tetrahedral : (a : ℕ) → a < 3 → Tetrahedral (kind_at ring a)
unfolding words.list_of words.words_of words.pair_of words.bracket_pair words.load_at words.load_of words.plain_of words.bracket_of bracket_in_range in_range kind_or kind_in
ring_tetrahedral = below_three (λ (a : ℕ). Tetrahedral (kind_at ring a)) tt (omega arith) tt

ring_degrees : degrees ring 3 ≡ 6
unfolding degrees words.list_of words.words_of words.pair_of words.bracket_pair
ring_degrees = refl

-- so what its walk says builds the ring as written above
ring_built : Built (run_s (start_s 3 6) (retold (events_of ring (turns_of 3 6) (fresh 3 3 3 3 (replicate pair_words 0)))))
    (node carbon (edge Single (To 1) ∷ edge Up (To 2) ∷ []) ∷ node (marked 2) (edge Single (To 0) ∷ edge Single (To 2) ∷ []) ∷ node carbon (edge Single (To 1) ∷ edge Down (To 0) ∷ []) ∷ [])
ring_built =
    subst (λ (ns : List Node). Built (run_s (start_s 3 6) (retold (events_of ring (turns_of 3 6) (fresh 3 3 3 3 (replicate pair_words 0))))) ns) ring_renumbered
    (graph_trip ring ring_simple ring_tetrahedral 3 3 3 3 (record { met = omega arith; back = omega arith; taken = omega arith }) (omega arith) 6 (omega (arith, ring_degrees)) not_refused 3 6 (omega arith) (omega (arith, ring_degrees)))

-- and its walk alone says that it is simple
ring_fair : Simple ring
ring_fair = written_simple ring 3 3 3 3 (replicate pair_words 0) (record { met = omega arith; back = omega arith; taken = omega arith }) (omega arith) 6 (omega (arith, ring_degrees)) (omega arith) not_refused
