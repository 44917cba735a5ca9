-- Steps of the proofs: no public claim rests on these definitions.
-- What a builder has made at its end, and when that is the renumbered graph.
use Rattle.std.specs.Prelude.{ℕ, ◌≡◌, List, []}
use Rattle.builder_meaning.specs.Sketch.{Sketch, next_number, count_of, Node, None, finish_s}
use Rattle.walk_entry.specs.Graph.{Graph}
use Rattle.trip_graph.specs.Renumbered.{Numbers, renumbered}
use Rattle.std.specs.Prelude.{Ok}

-- a builder took every event, failed at no join, left no ring open, and made these atoms
pub record Built (d : Sketch) (ns : List Node) : Type 0 where
  pub refusal : d.refusal ≡ 0
  pub failure : d.failure ≡ None
  pub opens : d.opens ≡ []
  pub unseen : d.unseen ≡ 0
  pub nodes : d.nodes ≡ ns
  pub says : finish_s d ≡ Ok tt

-- What a builder d made of n atoms and m entries is the graph g renumbered: the builder is done, it made the renumbered atoms, and it
-- counted the atoms and entries.
pub record ComesBack (g : Graph) (p : Numbers) (d : Sketch) (n m : ℕ) : Type 0 where
  pub built : Built d (renumbered g p)
  pub atoms : next_number d ≡ n
  pub entries : count_of d.nodes ≡ m
