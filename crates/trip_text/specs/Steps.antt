-- Steps of the proofs: no public claim rests on these definitions.
-- What a reader should say of a line that a writer made of events, and of which events that is said.
use Rattle.std.specs.Prelude.{ℕ, ◌+◌, ◌-◌, ◌≤◌, ◌<◌, max, ◌≡◌, List, [], ◌∷◌, ◌++◌, map, take, drop}
use Rattle.survive.specs.Survive.{Survives}
use Rattle.read_line.specs.declared.lead.Lead.TheVariants.{Dot, Bond}
use Rattle.read_line.specs.Events as reader
use Rattle.writer.specs.Line.{Event, Root, Extend, Join, Pop}
use Rattle.read_line.specs.Steps.{unplaced}

-- ---- the reader's events
-- What is said with room for so many open branches, where w are open at once: D, places aside, if there is room for them, and
-- else as much of D as comes before a branch too many, then that branch and nothing more.
pub data SaysWithin : ℕ → ℕ → List reader.ReadEvent → List reader.ReadEvent → Type 0 where
  all : {w room : ℕ} {D x : List reader.ReadEvent} → w ≤ room → unplaced x ≡ D → SaysWithin w room D x
  cut : {w room : ℕ} {D x : List reader.ReadEvent} (A B : List reader.ReadEvent) → room < w → D ≡ A ++ B → unplaced x ≡ A ++ (reader.Nest 0 ∷ []) → SaysWithin w room D x

-- what the reader should say of what the writer was told
unfoldable pub retold_one : Event → reader.ReadEvent
retold_one (Root k) = reader.Enter Dot k 0
retold_one (Extend b k) = reader.Enter (Bond b) k 0
retold_one (Join b n) = reader.Join b n 0
retold_one (Pop d) = reader.Pop d

unfoldable pub retold : List Event → List reader.ReadEvent
retold es = map retold_one es

-- ---- the writer's events
-- Told in an order that a line can say, with so many pieces since the last root: an atom or a ring number needs one before
-- it, and a branch leaves at least one, takes at least one and takes no root.
abbrev pub Sayable : ℕ → List Event → Type 0
Sayable n [] = Unit {0}
Sayable n (Root k ∷ es) = Sayable 1 es
Sayable n (Extend b k ∷ es) = (1 ≤ n) × Sayable (n + 1) es
Sayable n (Join b r ∷ es) = (1 ≤ n) × Sayable n es
Sayable n (Pop d ∷ es) = (1 ≤ d) × (d < n) × Sayable (n - d) es

-- Each atom's text, read alone, is the atom, and each ring number has a text.
abbrev pub Spellable : List Event → Type 0
Spellable [] = Unit {0}
Spellable (Root k ∷ es) = Survives k × Spellable es
Spellable (Extend b k ∷ es) = Survives k × Spellable es
Spellable (Join b r ∷ es) = (r ≤ 99) × Spellable es
Spellable (Pop d ∷ es) = Spellable es

-- ---- how many branches are open at once
-- the most of some numbers, 0 if there are none
unfoldable pub greatest : List ℕ → ℕ
greatest [] = 0
greatest (n ∷ ns) = max n (greatest ns)

-- the last piece, with brackets of this depth laid onto it
unfoldable pub deepened : ℕ → List ℕ → List ℕ
deepened w [] = []
deepened w (n ∷ ns) = max n w ∷ ns

-- how deep the brackets of each piece are, the last one first: a pop puts what it takes in brackets
unfoldable pub depths_one : Event → List ℕ → List ℕ
depths_one (Root k) ws = 0 ∷ ws
depths_one (Extend b k) ws = 0 ∷ ws
depths_one (Join b n) ws = ws
depths_one (Pop d) ws = deepened (greatest (take d ws) + 1) (drop d ws)

unfoldable pub depths : List Event → List ℕ → List ℕ
depths [] ws = ws
depths (e ∷ es) ws = depths es (depths_one e ws)

-- and how deep those of the line are
unfoldable pub depth : List Event → ℕ
depth es = greatest (depths es [])
