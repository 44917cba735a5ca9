-- The plain walk of graphs whose ring bonds have one end, are held twice or have ends that do not match, and of their like that are
-- sound: the refusal of each with what it carries, worked out. Assumes nothing.
use Prim.Native.Nat.{ℕ, ◌+◌}
use mathlib.Core.Path.{◌≡◌, refl}
use mathlib.Core.List.{List, [], ◌∷◌, ◌++◌, map}
use lib.ListN.{length, replicate}
use Rattle.feature.specs.Kinds.{in_range, bracket_in_range, invert_of, turned_or}
use Rattle.feature.specs.Bonds.{kind_of, sure_kind, code_of, reverse_of, is_directional}
use Rattle.feature.specs.declared.bond_kind.BondKind.{BondKind}
use Rattle.feature.specs.declared.bond_kind.BondKind.TheVariants.{Elided, Single, Double, Up, Down}
use Rattle.packing.specs.Words as words
use Rattle.join_pool.specs.Pairs as pool
use Rattle.walk_entry.specs.Graph.{Graph, graph, kind_or, kind_in, bond_in}
use Rattle.walk_entry.specs.Ways.{is_refused, is_fixed, even, said_as, scan_in, judged_back, way_of}
use Rattle.walk_entry.specs.Ties.{leading, last_leading, tie_of}
use Rattle.walk.specs.Walk.{pops_of}
use Rattle.walk_laws.proofs.Numbers.{in_numbers}
use Rattle.walk_laws.specs.Plain.{Outcome, Goes, Refused, and_then, number_from, joins, rings, ties, enters, follows, entries_from, visit_of, roots_from, plain_walk}

-- ---- graphs, as their atoms' entries: the first word of an atom, then the kind and the target of each of its entries
record Sketched : Type 0 where
  word : ℕ
  entries : List (BondKind × ℕ)

abbrev star : List (BondKind × ℕ) → Sketched
star es = record { word = 1; entries = es }

abbrev C : List (BondKind × ℕ) → Sketched
C es = record { word = 3; entries = es }

abbrev e : ℕ → BondKind × ℕ
e t = (Elided, t)

entry_table : List (BondKind × ℕ) → List ℕ
entry_table [] = []
entry_table (x ∷ es) = code_of x.0 ∷ x.1 ∷ entry_table es

atom_table : List Sketched → List ℕ
atom_table [] = []
atom_table (a ∷ rest) = a.word ∷ 0 ∷ length a.entries ∷ atom_table rest

bond_table : List Sketched → List ℕ
bond_table [] = []
bond_table (a ∷ rest) = entry_table a.entries ++ bond_table rest

starts_from : ℕ → List Sketched → List ℕ
starts_from n [] = []
starts_from n (a ∷ rest) = n ∷ starts_from (n + length a.entries) rest

graph_in : List Sketched → Graph
graph_in atoms = graph (length atoms) (atom_table atoms) (bond_table atoms) (starts_from 0 atoms)

-- ---- what a walk of each comes to: the number and what it carries, nothing where it is not refused
refusal_of : Outcome → List ℕ
refusal_of (Goes s) = []
refusal_of (Refused why s) = in_numbers why

-- the pool's words, for numbers up to 3
abbrev lent : List ℕ
lent = replicate 12 0

abbrev rows : List (List Sketched × List ℕ)
rows =
    -- 7, source and target: the atom met before has no entry back, be it the opening end or what would be the closing one
    (star [] ∷ star (e 0 ∷ []) ∷ [], 7 ∷ 1 ∷ 0 ∷ [])
    ∷ (C (e 1 ∷ e 2 ∷ []) ∷ C (e 0 ∷ e 2 ∷ []) ∷ C (e 1 ∷ []) ∷ [], 7 ∷ 0 ∷ 2 ∷ [])
    ∷ (C (e 1 ∷ []) ∷ C (e 0 ∷ e 2 ∷ []) ∷ C (e 1 ∷ e 0 ∷ []) ∷ [], 7 ∷ 2 ∷ 0 ∷ [])
    -- 7 and not 8, where the source holds two entries and the target none
    ∷ (C [] ∷ C (e 0 ∷ e 0 ∷ []) ∷ [], 7 ∷ 1 ∷ 0 ∷ [])
    ∷ (C (e 1 ∷ e 2 ∷ e 2 ∷ []) ∷ C (e 0 ∷ e 2 ∷ []) ∷ C (e 1 ∷ []) ∷ [], 7 ∷ 0 ∷ 2 ∷ [])
    -- 8, source and target: the source holds two entries, one of which led to the target when it was new
    ∷ (C (e 1 ∷ e 1 ∷ []) ∷ C (e 0 ∷ []) ∷ [], 8 ∷ 0 ∷ 1 ∷ [])
    ∷ (C (e 1 ∷ e 2 ∷ e 1 ∷ []) ∷ C (e 0 ∷ []) ∷ C (e 0 ∷ []) ∷ [], 8 ∷ 0 ∷ 1 ∷ [])
    -- 8 and not 9, where the target or the source holds two, of kinds that do not match
    ∷ (C (e 1 ∷ e 2 ∷ (Double, 2) ∷ []) ∷ C (e 0 ∷ e 2 ∷ []) ∷ C (e 1 ∷ e 0 ∷ []) ∷ [], 8 ∷ 2 ∷ 0 ∷ [])
    ∷ (C (e 1 ∷ e 2 ∷ []) ∷ C (e 0 ∷ e 2 ∷ []) ∷ C (e 1 ∷ e 0 ∷ (Double, 0) ∷ []) ∷ [], 8 ∷ 2 ∷ 0 ∷ [])
    -- 8, of the line "C(CC1=2)1=2", whose two rings are between the same atoms
    ∷ (C (e 1 ∷ e 2 ∷ (Double, 2) ∷ []) ∷ C (e 0 ∷ e 2 ∷ []) ∷ C (e 1 ∷ e 0 ∷ (Double, 0) ∷ []) ∷ [], 8 ∷ 2 ∷ 0 ∷ [])
    -- 9, target and source
    ∷ (C (e 1 ∷ (Double, 2) ∷ []) ∷ C (e 0 ∷ e 2 ∷ []) ∷ C ((Single, 0) ∷ e 1 ∷ []) ∷ [], 9 ∷ 0 ∷ 2 ∷ [])
    ∷ (C (e 1 ∷ (Up, 2) ∷ []) ∷ C (e 0 ∷ e 2 ∷ []) ∷ C ((Up, 0) ∷ e 1 ∷ []) ∷ [], 9 ∷ 0 ∷ 2 ∷ [])
    -- the reverse of Up is Down: not refused
    ∷ (C (e 1 ∷ (Up, 2) ∷ []) ∷ C (e 0 ∷ e 2 ∷ []) ∷ C ((Down, 0) ∷ e 1 ∷ []) ∷ [], [])
    -- 6 stays 6, also where the bond to the atom itself comes after another
    ∷ (C (e 0 ∷ []) ∷ [], 6 ∷ 0 ∷ 0 ∷ [])
    ∷ (C (e 1 ∷ e 0 ∷ []) ∷ C (e 0 ∷ []) ∷ [], 6 ∷ 0 ∷ 0 ∷ [])
    ∷ []

-- each comes to that
rings_refused : map (λ (r : List Sketched × List ℕ). refusal_of (plain_walk (graph_in r.0) lent)) rows ≡ map (λ (r : List Sketched × List ℕ). r.1) rows
unfolding and_then number_from joins rings ties enters follows entries_from visit_of roots_from plain_walk in_range bracket_in_range invert_of kind_of sure_kind code_of reverse_of is_directional words.plain_of words.bracket_of words.load_of words.load_at pool.opens pool.open_number pool.slot pool.counter_next pool.counter_of pool.next_of pool.open_of pool.close_of pool.open_or_close pool.hit_pair pool.hit_of kind_or kind_in bond_in is_refused is_fixed turned_or even said_as scan_in judged_back way_of leading last_leading tie_of pops_of refusal_of graph_in atom_table bond_table entry_table starts_from
rings_refused = refl
