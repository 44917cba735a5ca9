-- What is said of a whole walk: whether the writer takes its events, how many entries there are to take, and when it is done.
use Rattle.std.specs.Prelude.{ℕ, zero, suc, ◌+◌, ◌≤◌, ◌<◌, ◌≡◌, ◌≢◌, List, [], ◌∷◌, None, length, get_or, replicate}
use Rattle.writer.specs.Line.{Event, Root, Extend, Join, Pop, write_event}
use Rattle.walk_entry.specs.Graph.{Graph, degree_at}
use Rattle.walk.specs.Walk.{Walk, walk, start_walker, walk_to, events_of}

-- A walk before its first turn, on lent tables of these lengths that hold zeros; what the pool was lent is any list.
abbrev pub fresh : ℕ → ℕ → ℕ → ℕ → List ℕ → Walk
fresh lm lw lb lt pairs =
    walk start_walker (replicate lm 0) (replicate lw 0) (replicate lb 0) (replicate lt 0) pairs

-- The lent tables have room for every atom: the marks of those met, their entries back, and how many entries were taken.
pub record Room (g : Graph) (lm lb lt : ℕ) : Type 0 where
  pub met : g.size ≤ lm
  pub back : g.size ≤ lb
  pub taken : g.size ≤ lt

-- The writer takes an event: there is room for one more piece, or a piece for the ring number, or a piece that a pop leaves.
abbrev pub Accepts : ℕ → Event → List (List ℕ) → Type 0
Accepts most (Root k) ps = length ps < most
Accepts most (Extend b k) ps = length ps < most
Accepts most (Join b n) ps = 0 < length ps
Accepts most (Pop d) ps = d < length ps

-- It takes events one after the other, each with the pieces that those before it leave.
abbrev pub AllAccepted : ℕ → List Event → List (List ℕ) → Type 0
AllAccepted most [] ps = Unit {0}
AllAccepted most (e ∷ es) ps = Accepts most e ps × AllAccepted most es (write_event most e ps)

-- How many bond entries the atoms below n have together.
unfoldable pub degrees : Graph → ℕ → ℕ
degrees g zero = 0
degrees g (suc n) = degrees g n + degree_at g n

-- The walk is done: there is no current atom, every atom was tried as a root, and every atom was met and counted.
pub record Finished (g : Graph) (w : Walk) : Type 0 where
  pub current : w.at.here ≡ None
  pub next : g.size ≤ w.at.next
  pub met : (a : ℕ) → a < g.size → get_or w.met a 0 ≢ 0
  pub count : w.at.count ≡ g.size

-- a walk on tables with no word more than there are atoms
abbrev pub least_walk : Graph → ℕ → List ℕ → Walk
least_walk g turns pairs = walk_to g turns (fresh g.size g.size g.size g.size pairs)

abbrev pub least_said : Graph → ℕ → List ℕ → List Event
least_said g turns pairs = events_of g turns (fresh g.size g.size g.size g.size pairs)
