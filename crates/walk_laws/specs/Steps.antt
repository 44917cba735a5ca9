-- Steps of the proofs: no public claim rests on these definitions.
-- Tables with more room: zeros follow what they hold. A look past a table is 0, so a walk cannot tell the one from the other.
use Rattle.std.specs.Prelude.{ℕ, ◌-◌, ◌≤◌, ◌≡◌, List, ◌++◌, length, get_or, replicate}
use Rattle.walk_entry.specs.Graph.{Graph, graph}
use Rattle.walk.specs.Walk.{Walk, walk, walk_to, events_of}
use Rattle.walk_laws.specs.Trek.{fresh, least_said, least_walk}

-- room for j words more
abbrev pub longer : ℕ → List ℕ → List ℕ
longer j l = l ++ replicate j 0

-- a graph whose table of starts is longer
abbrev pub longer_graph : ℕ → Graph → Graph
longer_graph first g = graph g.size g.atoms g.bonds (longer first g.first)

-- a walk whose tables are longer by so much; the words of the pool are as they were
abbrev pub longer_walk : ℕ → ℕ → ℕ → ℕ → Walk → Walk
longer_walk met walked back taken w =
    walk w.at (longer met w.met) (longer walked w.walked) (longer back w.back) (longer taken w.taken) w.pairs

-- Two walks in the same state, whose tables give the same answer to every look.
pub record Alike (x y : Walk) : Type 0 where
  pub at : x.at ≡ y.at
  pub met : (i : ℕ) → get_or x.met i 0 ≡ get_or y.met i 0
  pub walked : (i : ℕ) → get_or x.walked i 0 ≡ get_or y.walked i 0
  pub back : (i : ℕ) → get_or x.back i 0 ≡ get_or y.back i 0
  pub taken : (i : ℕ) → get_or x.taken i 0 ≡ get_or y.taken i 0
  pub pairs : x.pairs ≡ y.pairs

-- lengths with room for every atom
pub record Lengths (g : Graph) (lm lw lb lt : ℕ) : Type 0 where
  pub met : g.size ≤ lm
  pub walked : g.size ≤ lw
  pub back : g.size ≤ lb
  pub taken : g.size ≤ lt

-- So many turns on tables of these lengths leave what they leave on the least tables, with zeros after it, and say the same. The
-- table of where each atom's entries begin is longer too.
pub record AnyLength (g : Graph) (first met walked back taken turns : ℕ) (pairs : List ℕ) : Type 0 where
  pub left : walk_to (longer_graph first g) turns (fresh met walked back taken pairs) ≡ longer_walk (met - g.size) (walked - g.size) (back - g.size) (taken - g.size) (least_walk g turns pairs)
  pub said : events_of (longer_graph first g) turns (fresh met walked back taken pairs) ≡ least_said g turns pairs

-- three tables of n words
pub record Exact (n : ℕ) (m w b : List ℕ) : Type 0 where
  pub met : length m ≡ n
  pub walked : length w ≡ n
  pub back : length b ≡ n

abbrev pub ExactWalk : Graph → Walk → Type 0
ExactWalk g w = Exact g.size w.met w.walked w.back
