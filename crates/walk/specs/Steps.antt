-- Steps of the proofs: no public claim rests on these definitions.
-- What the functions of the walk ask of and promise each other.
use Rattle.std.specs.Prelude.{◌+◌, ◌≤◌, ◌<◌, ◌≡◌}
use Rattle.walk.specs.declared.walker.Walker.{Walker}
use Rattle.writer.specs.declared.Writer.{Writer}
use Rattle.writer.specs.Tables.{Spoken, say_all, far}
use Rattle.walk.specs.declared.tables.Tables.{Tables}
use Rattle.walk.specs.Walk.{Walk, walk, Turn}

-- the walk over the tables that code fills
abbrev pub held_in : Walker → Tables → Walk
held_in z t = walk z t.met.now t.walked.now t.back.now t.taken.now t.pairs.now

-- each is the one that was lent
pub record SameTables (t u : Tables) : Type 0 where
  pub met : u.met.ghost_name ≡ t.met.ghost_name
  pub walked : u.walked.ghost_name ≡ t.walked.ghost_name
  pub back : u.back.ghost_name ≡ t.back.ghost_name
  pub taken : u.taken.ghost_name ≡ t.taken.ghost_name
  pub pairs : u.pairs.ghost_name ≡ t.pairs.ghost_name

-- a function leaves the walk that a turn leaves, and the writer has said what the turn says
pub record Did (x : Turn) (w : Walk) (s n : Spoken) : Type 0 where
  pub after : w ≡ x.after
  pub said : n ≡ say_all s x.said

-- counts and lengths so small that none wraps in a turn
pub record TurnNear (z : Walker) (line : Writer) : Type 0 where
  pub next : z.next < far
  pub pend : z.pend < far
  pub count : z.count < far
  pub pieces : line.pieces + 10 < far
  pub len : line.len + 100 < far

-- a turn goes on by at most so much
pub record TurnOnward (y z : Walker) : Type 0 where
  pub next : z.next ≤ y.next + 1
  pub pend : z.pend ≤ y.pend + 1
  pub count : z.count ≤ y.count + 1

-- and the writer's line by at most so much
pub record TurnGrows (y z : Walker) (line said : Writer) : Type 0 where
  pub onward : TurnOnward y z
  pub pieces : said.pieces ≤ line.pieces + 2
  pub len : said.len ≤ line.len + 50
