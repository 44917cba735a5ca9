-- The walk by turns and the plain walk are one: what is said of both.
use Rattle.std.specs.Prelude.{ℕ, ◌≡◌, List, length, get_or, take, Option, Some, None}
use Rattle.walk_entry.specs.declared.WalkError.{WalkError}
use Rattle.writer.specs.Line.{Event}
use Rattle.walk.specs.Walk.{Walk}
use Rattle.walk_laws.specs.Plain.{Trail, Outcome, Goes, Refused, number_in}

-- what a walk had done at its end, and its refusal, if any
abbrev pub trail_of : Outcome → Trail
trail_of (Goes s) = s
trail_of (Refused why s) = s

abbrev pub refusal_in : Outcome → Option WalkError
refusal_in (Goes s) = None
refusal_in (Refused why s) = Some why

-- The tables of the turns hold what a trail has: the atoms met and how many, the number of each, its entry back, and the pool.
pub record HoldTrail (w : Walk) (s : Trail) : Type 0 where
  pub count : w.at.count ≡ length s.order
  pub walked : take w.at.count w.walked ≡ s.order
  pub met : (a : ℕ) → get_or w.met a 0 ≡ number_in s.order a
  pub back : w.back ≡ s.back
  pub pool : w.at.pool ≡ s.pool
  pub pairs : w.pairs ≡ s.pairs

-- Turns that left w and said these events have a plain walk's outcome: what was said, the refusal, and the tables.
pub record OneWalk (p : Outcome) (w : Walk) (es : List Event) : Type 0 where
  pub said : es ≡ (trail_of p).said
  pub refusal : w.at.refusal ≡ refusal_in p
  pub tables : HoldTrail w (trail_of p)
