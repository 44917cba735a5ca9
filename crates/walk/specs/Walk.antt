-- The walk: roots in number order, bonds in table order, depth first.
--
-- At a bond of the current atom: 5 if the target is none of the atoms, 6 if it is the source itself. If the target is
-- new, `Ways` says whether it can be entered: 10, 8, 7 and 9. If it was met before, `Ties` says whether each of the two holds
-- one entry for the other, of reversed kind: 7, 8 and 9; then a ring number is asked for, 11 if there is none left. Atoms that
-- were left since the last event are popped before the next one; those left at the end of a component never are.
use Rattle.std.specs.Prelude.{ℕ, zero, suc, ◌+◌, ◌-◌, ◌*◌, List, [], ◌∷◌, ◌++◌, get_or, set, leb, eqb, is_none, Option, Some, None, Result, Ok, Err}
use Rattle.feature.specs.Pick.{pick}
use Rattle.feature.specs.declared.bond_kind.BondKind.{BondKind}
use Rattle.join_pool.specs.declared.Pool.{Pool}
use Rattle.walk_entry.specs.declared.WalkError.{WalkError}
use Rattle.walk_entry.specs.declared.WalkError.TheVariants.{UnknownTarget, Loop, RingNumbers}
use Rattle.join_pool.specs.Pairs.{hit_of, empty_of}
use Rattle.writer.specs.Line.{Event, Root, Extend, Join, Pop}
use Rattle.walk_entry.specs.Graph.{BondEntry, Graph, kind_at, degree_at, bond_in, bond_of}
use Rattle.walk_entry.specs.Ways.{said_as, way_of}
use Rattle.walk_entry.specs.Ties.{tie_of}
use Rattle.walk.specs.declared.walker.Walker.{Walker}

-- ---- how far a walk has come
-- at: the next root to try, the current atom, if any, the atoms left since the last event, how many were met, the pool's numbers
-- and the refusal, if any. For each atom: its number in walk order plus 1, or 0; the place of its entry back, from 1; how many of its
-- entries were taken. For each number in walk order: the atom. And the words of the pool.
pub record Walk : Type 0 where
  pub at : Walker
  pub met : List ℕ
  pub walked : List ℕ
  pub back : List ℕ
  pub taken : List ℕ
  pub pairs : List ℕ

abbrev pub walk : Walker → List ℕ → List ℕ → List ℕ → List ℕ → List ℕ → Walk
walk z met walked back taken pairs =
    record { at = z; met = met; walked = walked; back = back; taken = taken; pairs = pairs }

abbrev pub walker : ℕ → Option ℕ → ℕ → ℕ → Pool → Option WalkError → Walker
walker next here pend count pool refusal =
    record { next = next; here = here; pend = pend; count = count; pool = pool; refusal = refusal }

-- nothing met
abbrev pub fresh_walker : Pool → Walker
fresh_walker p = walker 0 None 0 0 p None

-- and nothing handed out: a walk first empties its pool
abbrev pub start_walker : Walker
start_walker = fresh_walker empty_of

-- ---- what changes
abbrev pub refused_as : Walker → WalkError → Walker
refused_as z why = walker z.next z.here z.pend z.count z.pool (Some why)

-- the next root passed over
abbrev pub root_passed : Walker → Walker
root_passed z =
    walker (z.next + 1) z.here z.pend z.count z.pool z.refusal

-- another place: the current atom, if any, the atoms left since the last event, how many were met
abbrev pub placed_at : Walker → Option ℕ → ℕ → ℕ → Walker
placed_at z here pend count =
    walker z.next here pend count z.pool z.refusal

-- another pool, and so many atoms left since the last event
abbrev pub pool_put : Walker → ℕ → Pool → Walker
pool_put z pend pool =
    walker z.next z.here pend z.count pool z.refusal

-- the atom a met and current, so all pops were said
abbrev pub current_at : Walker → ℕ → Walker
current_at z a = placed_at z (Some a) 0 (z.count + 1)

-- the current atom left for the one before, or for none
abbrev pub back_at : Walker → ℕ → Walker
back_at z a = placed_at z (Some a) (z.pend + 1) z.count

abbrev pub at_end : Walker → Walker
at_end z = placed_at z None 0 z.count

-- a ring number said, so all pops were
abbrev pub ring_said : Walker → Pool → Walker
ring_said z p = pool_put z 0 p

abbrev pub with_walker : Walk → Walker → Walk
with_walker w z = walk z w.met w.walked w.back w.taken w.pairs

-- atom a met, its entry back at place b
abbrev pub met_at : Walk → Walker → ℕ → ℕ → Walk
met_at w z a b =
    walk (current_at z a)
    (set w.met a (z.count + 1))
    (set w.walked z.count a)
    (set w.back a b)
    w.taken w.pairs

-- one entry more of atom a taken
abbrev pub took_at : Walk → ℕ → ℕ → Walk
took_at w a i = walk w.at w.met w.walked w.back (set w.taken a (i + 1)) w.pairs

-- other words of the pool
abbrev pub pooled : Walk → List ℕ → Walk
pooled w pairs = walk w.at w.met w.walked w.back w.taken pairs

-- ---- a turn: what it leaves, and what it says
pub record Turn : Type 0 where
  pub after : Walk
  pub said : List Event

abbrev pub turn : Walk → List Event → Turn
turn w es = record { after = w; said = es }

abbrev pub quiet : Walk → Turn
quiet w = turn w []

abbrev pub refuse_turn : Walk → WalkError → Turn
refuse_turn w why = quiet (with_walker w (refused_as w.at why))

-- the atoms left since the last event popped, then an event
unfoldable pub pops_of : ℕ → List Event
pops_of n = pick (eqb n 0) [] (Pop n ∷ [])

abbrev pub pops_then : ℕ → Event → List Event
pops_then n e = pops_of n ++ (e ∷ [])

-- the next root
unfoldable pub root_turn : Graph → Walk → Turn
root_turn g w =
    pick (leb g.size w.at.next) (quiet w)
    (pick (eqb (get_or w.met w.at.next 0) 0)
    (turn (met_at w (root_passed w.at) w.at.next 0) (Root (said_as (kind_at g w.at.next) 0) ∷ []))
    (quiet (with_walker w (root_passed w.at))))

-- the current atom a has no entry left: back to the one that it was reached from
unfoldable pub left_in : List ℕ → List ℕ → List ℕ → Walker → ℕ → Walker
left_in bonds first back z a =
    pick (eqb (get_or back a 0) 0) (at_end z) (back_at z (bond_in bonds first a (get_or back a 0 - 1)).to)

abbrev pub leave_of : Graph → Walk → ℕ → Turn
leave_of g w a = quiet (with_walker w (left_in g.bonds g.first w.back w.at a))

-- a bond of kind k from s to an atom t met before
unfoldable pub numbered_of : Walk → BondKind → ℕ → ℕ → Option (Pool × ℕ) → List ℕ → Turn
numbered_of w k s t None pairs = refuse_turn (pooled w pairs) (RingNumbers s t)
numbered_of w k s t (Some (p, n)) pairs =
    turn (with_walker (pooled w pairs) (ring_said w.at p)) (pops_then w.at.pend (Join k n))

unfoldable pub ring_turn : Walk → BondKind → ℕ → ℕ → Turn
ring_turn w k s t =
    numbered_of w k s t (hit_of w.at.pool w.pairs s t).answer (hit_of w.at.pool w.pairs s t).left

-- once both ends were compared
unfoldable pub tied_of : Walk → BondKind → ℕ → ℕ → Result ℕ WalkError → Turn
tied_of w k s t (Err why) = refuse_turn w why
tied_of w k s t (Ok b) = ring_turn w k s t

unfoldable pub tie_turn : Graph → Walk → BondKind → ℕ → ℕ → Turn
tie_turn g w k s t = tied_of w k s t (tie_of g k s t)

unfoldable pub entered_of : Graph → Walk → BondKind → ℕ → Result ℕ WalkError → Turn
entered_of g w k t (Err why) = refuse_turn w why
entered_of g w k t (Ok b) =
    turn (met_at w w.at t b) (pops_then w.at.pend (Extend k (said_as (kind_at g t) b)))

-- a bond to a new atom t
unfoldable pub enter_turn : Graph → Walk → BondKind → ℕ → ℕ → Turn
enter_turn g w k s t = entered_of g w k t (way_of g k s t)

-- a bond of the atom s
unfoldable pub bond_turn : Graph → Walk → ℕ → BondEntry → Turn
bond_turn g w s b =
    pick (leb g.size b.to) (refuse_turn w (UnknownTarget s b.to))
    (pick (eqb b.to s) (refuse_turn w (Loop s))
    (pick (eqb (get_or w.met b.to 0) 0) (enter_turn g w b.kind s b.to) (tie_turn g w b.kind s b.to)))

-- the entry i of the atom a, but for the one by which a was reached
unfoldable pub entry_turn : Graph → Walk → ℕ → ℕ → Turn
entry_turn g w a i =
    pick (eqb (get_or w.back a 0) (i + 1)) (quiet (took_at w a i)) (bond_turn g (took_at w a i) a (bond_of g a i))

-- the current atom a
unfoldable pub atom_of : Graph → Walk → ℕ → Turn
atom_of g w a =
    pick (leb (degree_at g a) (get_or w.taken a 0)) (leave_of g w a) (entry_turn g w a (get_or w.taken a 0))

-- the current atom's turn, or where there is none the next root's
abbrev pub turn_at : Graph → Walk → Option ℕ → Turn
turn_at g w None = root_turn g w
turn_at g w (Some a) = atom_of g w a

unfoldable pub turn_of : Graph → Walk → Turn
turn_of g w = turn_at g w w.at.here

-- ---- turns
-- a refused walk stays as it is
unfoldable pub step_of : Graph → Walk → Turn
step_of g w = pick (is_none w.at.refusal) (turn_of g w) (quiet w)

-- what n turns leave, and what they say
unfoldable pub walk_to : Graph → ℕ → Walk → Walk
walk_to g zero w = w
walk_to g (suc n) w = walk_to g n (step_of g w).after

unfoldable pub events_of : Graph → ℕ → Walk → List Event
events_of g zero w = []
events_of g (suc n) w = (step_of g w).said ++ events_of g n (step_of g w).after

-- each atom is tried as a root and left once, and each entry is taken once: so many turns are a whole walk
unfoldable pub turns_of : ℕ → ℕ → ℕ
turns_of atoms entries = 2 * atoms + entries
