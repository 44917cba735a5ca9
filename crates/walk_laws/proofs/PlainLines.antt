-- The plain walk of the scope's lines, as graphs: worked out. Assumes nothing.
use Prim.Native.Nat.{ℕ}
use mathlib.Core.Path.{◌≡◌, refl}
use mathlib.Core.List.{List, [], ◌∷◌, map}
use lib.ListN.{replicate}
use Rattle.feature.specs.Kinds.{bracket_of_six, in_range, bracket_in_range, invert_of, invert_bracket, turned_or}
use Rattle.feature.specs.Bonds.{kind_of, sure_kind, code_of, reverse_of, is_directional}
use Rattle.feature.specs.declared.atom_kind.AtomKind.TheVariants.{Aliphatic, Bracket}
use Rattle.feature.specs.declared.bond_kind.BondKind.TheVariants.{Elided}
use Rattle.packing.specs.Words as words
use Rattle.join_pool.specs.Pairs as pool
use Rattle.writer.specs.Line.{Event, Root, Extend, Join, Pop}
use Rattle.walk_entry.specs.Graph.{Graph, graph, kind_or, kind_in, bond_in}
use Rattle.walk_entry.specs.Ways.{is_refused, is_fixed, even, said_as, scan_in, judged_back, way_of}
use Rattle.walk_entry.specs.Ties.{leading, last_leading, tie_of}
use Rattle.walk.specs.Walk.{pops_of}
use Rattle.walk_laws.proofs.Numbers.{in_numbers}
use Rattle.walk_laws.specs.Plain.{Outcome, Goes, Refused, and_then, number_from, joins, rings, ties, enters, follows, entries_from, visit_of, roots_from, plain_walk}

-- what a walk comes to: the refusal's number and what it carries, or zeros; what was said; the walk order; the entries back
record Shown : Type 0 where
  refusal : List ℕ
  said : List Event
  order : List ℕ
  back : List ℕ

abbrev shown : List ℕ → List Event → List ℕ → List ℕ → Shown
shown r es order back = record { refusal = r; said = es; order = order; back = back }

shows : Outcome → Shown
shows (Goes s) = shown [] s.said s.order s.back
shows (Refused why s) = shown (in_numbers why) s.said s.order s.back

-- the pool's words, for numbers up to 3
abbrev lent : List ℕ
lent = replicate 12 0

abbrev rows : List (Graph × Shown)
rows =
    -- "C1CC1" is "C(CC1)1"
    (
      graph 3 (3 ∷ 0 ∷ 2 ∷ 3 ∷ 0 ∷ 2 ∷ 3 ∷ 0 ∷ 2 ∷ []) (1 ∷ 2 ∷ 1 ∷ 1 ∷ 1 ∷ 0 ∷ 1 ∷ 2 ∷ 1 ∷ 1 ∷ 1 ∷ 0 ∷ []) (0 ∷ 2 ∷ 4 ∷ []),
      shown [] (Root (Aliphatic 1) ∷ Extend Elided (Aliphatic 1) ∷ Extend Elided (Aliphatic 1) ∷ Join Elided 1 ∷ Pop 2 ∷ Join Elided 1 ∷ []) (0 ∷ 2 ∷ 1 ∷ []) (0 ∷ 2 ∷ 2 ∷ []),
    )
    -- "C(.O)N" is "CN.O"
    ∷ (
      graph 3 (3 ∷ 0 ∷ 1 ∷ 5 ∷ 0 ∷ 0 ∷ 4 ∷ 0 ∷ 1 ∷ []) (1 ∷ 2 ∷ 1 ∷ 0 ∷ []) (0 ∷ 1 ∷ 1 ∷ []),
      shown [] (Root (Aliphatic 1) ∷ Extend Elided (Aliphatic 2) ∷ Root (Aliphatic 3) ∷ []) (0 ∷ 2 ∷ 1 ∷ []) (0 ∷ 0 ∷ 1 ∷ []),
    )
    -- "C11" is 6 with 0
    ∷ (
      graph 1 (3 ∷ 0 ∷ 2 ∷ []) (1 ∷ 0 ∷ 1 ∷ 0 ∷ []) (0 ∷ []),
      shown (6 ∷ 0 ∷ 0 ∷ []) (Root (Aliphatic 1) ∷ []) (0 ∷ []) (0 ∷ []),
    )
    -- "C1C1" is 8 with 0, 1
    ∷ (
      graph 2 (3 ∷ 0 ∷ 2 ∷ 3 ∷ 0 ∷ 2 ∷ []) (1 ∷ 1 ∷ 1 ∷ 1 ∷ 1 ∷ 0 ∷ 1 ∷ 0 ∷ []) (0 ∷ 2 ∷ []),
      shown (8 ∷ 0 ∷ 1 ∷ []) (Root (Aliphatic 1) ∷ []) (0 ∷ []) (0 ∷ 0 ∷ []),
    )
    -- "F[C@H](Cl)Br" is unchanged: the mark is turned when the second atom is entered by its first entry
    ∷ (
      graph 4 (8 ∷ 0 ∷ 1 ∷ 15631396 ∷ 32031 ∷ 3 ∷ 9 ∷ 0 ∷ 1 ∷ 10 ∷ 0 ∷ 1 ∷ []) (1 ∷ 1 ∷ 1 ∷ 0 ∷ 1 ∷ 2 ∷ 1 ∷ 3 ∷ 1 ∷ 1 ∷ 1 ∷ 1 ∷ []) (0 ∷ 1 ∷ 4 ∷ 5 ∷ []),
      shown [] (Root (Aliphatic 6) ∷ Extend Elided (Bracket (bracket_of_six 1000 16 1 1 31 1000)) ∷ Extend Elided (Aliphatic 7) ∷ Pop 1 ∷ Extend Elided (Aliphatic 8) ∷ []) (0 ∷ 1 ∷ 2 ∷ 3 ∷ []) (0 ∷ 1 ∷ 1 ∷ 1 ∷ []),
    )
    -- 7 with 2, 0: a ring bond that only one of its atoms has
    ∷ (
      graph 3 (3 ∷ 0 ∷ 1 ∷ 3 ∷ 0 ∷ 2 ∷ 3 ∷ 0 ∷ 2 ∷ []) (1 ∷ 1 ∷ 1 ∷ 0 ∷ 1 ∷ 2 ∷ 1 ∷ 1 ∷ 1 ∷ 0 ∷ []) (0 ∷ 1 ∷ 3 ∷ []),
      shown (7 ∷ 2 ∷ 0 ∷ []) (Root (Aliphatic 1) ∷ Extend Elided (Aliphatic 1) ∷ Extend Elided (Aliphatic 1) ∷ []) (0 ∷ 1 ∷ 2 ∷ []) (0 ∷ 1 ∷ 1 ∷ []),
    )
    -- 7 with 0, 1: the new atom has no entry back; what was said before stays said
    ∷ (
      graph 2 (3 ∷ 0 ∷ 1 ∷ 3 ∷ 0 ∷ 0 ∷ []) (1 ∷ 1 ∷ []) (0 ∷ 1 ∷ []),
      shown (7 ∷ 0 ∷ 1 ∷ []) (Root (Aliphatic 1) ∷ []) (0 ∷ []) (0 ∷ 0 ∷ []),
    )
    -- 9 with 1, 0: Up on both sides
    ∷ (
      graph 2 (3 ∷ 0 ∷ 1 ∷ 3 ∷ 0 ∷ 1 ∷ []) (7 ∷ 1 ∷ 7 ∷ 0 ∷ []) (0 ∷ 1 ∷ []),
      shown (9 ∷ 1 ∷ 0 ∷ []) (Root (Aliphatic 1) ∷ []) (0 ∷ []) (0 ∷ 0 ∷ []),
    )
    -- 5 with 0, 7: no such atom
    ∷ (
      graph 1 (3 ∷ 0 ∷ 1 ∷ []) (1 ∷ 7 ∷ []) (0 ∷ []),
      shown (5 ∷ 0 ∷ 7 ∷ []) (Root (Aliphatic 1) ∷ []) (0 ∷ []) (0 ∷ []),
    )
    ∷ []

-- each comes to that
rows_shown : map (λ (r : Graph × Shown). shows (plain_walk r.0 lent)) rows ≡ map (λ (r : Graph × Shown). r.1) rows
unfolding shows and_then number_from joins rings ties enters follows entries_from visit_of roots_from plain_walk in_range bracket_in_range invert_of invert_bracket kind_of sure_kind code_of reverse_of is_directional words.plain_of words.bracket_of words.load_of words.load_at pool.opens pool.open_number pool.slot pool.counter_next pool.counter_of pool.next_of pool.open_of pool.close_of pool.open_or_close pool.hit_pair pool.hit_of kind_or kind_in bond_in is_refused is_fixed turned_or even said_as scan_in judged_back way_of leading last_leading tie_of pops_of
rows_shown = refl
