-- The walk, plainly: roots in number order, bonds in table order, depth first, as a recursion over atoms and their entries. To be
-- read beside the scope document. `Walk` in crates/walk has the same walk as turns, close to the code; the law `one_walk` in
-- proofs/Plain says that the two are one, for every graph.
use Rattle.std.specs.Prelude.{ℕ, zero, suc, ◌+◌, List, [], ◌∷◌, ◌++◌, set, replicate, leb, eqb}
use Rattle.feature.specs.Pick.{pick}
use Rattle.feature.specs.declared.bond_kind.BondKind.{BondKind}
use Rattle.join_pool.specs.declared.Pool.{Pool}
use Rattle.std.specs.Prelude.{Err, None, Ok, Option, Result, Some}
use Rattle.walk_entry.specs.declared.WalkError.{WalkError}
use Rattle.walk_entry.specs.declared.WalkError.TheVariants.{UnknownTarget, Loop, RingNumbers}
use Rattle.join_pool.specs.Pairs.{hit_of, empty_of}
use Rattle.writer.specs.Line.{Event, Root, Extend, Join}
use Rattle.walk_entry.specs.Graph.{BondEntry, Graph, kind_at, degree_at, bond_of}
use Rattle.walk_entry.specs.Ways.{said_as, way_of}
use Rattle.walk_entry.specs.Ties.{tie_of}
use Rattle.walk.specs.Walk.{pops_then}

-- What a walk has done: the atoms met, in walk order; for each atom the place, from 1, of its entry back to the atom that it was
-- reached from, 0 for a root; the pool and its words; how many atoms were left since the last event; and the events said.
pub record Trail : Type 0 where
  pub order : List ℕ
  pub back : List ℕ
  pub pool : Pool
  pub pairs : List ℕ
  pub left : ℕ
  pub said : List Event

-- It goes on, or was refused.
pub data Outcome : Type 0 where
  Goes : Trail → Outcome
  Refused : WalkError → Trail → Outcome

-- After a refusal nothing more is done.
unfoldable pub and_then : Outcome → (Trail → Outcome) → Outcome
and_then (Goes s) f = f s
and_then (Refused why s) f = Refused why s

-- the number of atom a in a walk order that is counted from i on, 0 if it was not met
unfoldable pub number_from : ℕ → List ℕ → ℕ → ℕ
number_from i [] a = 0
number_from i (x ∷ order) a = pick (eqb x a) i (number_from (i + 1) order a)

abbrev pub number_in : List ℕ → ℕ → ℕ
number_in order a = number_from 1 order a

-- An atom is met, with what is said of it. No pop is left to say then: those before a root, of another component, are never said.
abbrev pub meets : Trail → ℕ → ℕ → List Event → Trail
meets s a b es =
    record { order = s.order ++ (a ∷ []); back = set s.back a b; pool = s.pool; pairs = s.pairs; left = 0; said = s.said ++ es }

abbrev pub leaves : Trail → Trail
leaves s = record { order = s.order; back = s.back; pool = s.pool; pairs = s.pairs; left = s.left + 1; said = s.said }

-- A ring number for a bond of kind k from a to an atom t that was met before. It is said after the pops; 11 if there is none left.
unfoldable pub joins : Trail → BondKind → ℕ → ℕ → Option (Pool × ℕ) → List ℕ → Outcome
joins s k a t None pairs = Refused (RingNumbers a t) s
joins s k a t (Some (p, n)) pairs =
    Goes (record { order = s.order; back = s.back; pool = p; pairs = pairs; left = 0; said = s.said ++ pops_then s.left (Join k n) })

unfoldable pub rings : Trail → BondKind → ℕ → ℕ → Outcome
rings s k a t = joins s k a t (hit_of s.pool s.pairs a t).answer (hit_of s.pool s.pairs a t).left

-- A bond to an atom t that was met before: the entries of both for each other refuse it, by 7, 8 or 9, or a ring number is asked for.
unfoldable pub ties : Trail → BondKind → ℕ → ℕ → Result ℕ WalkError → Outcome
ties s k a t (Err why) = Refused why s
ties s k a t (Ok b) = rings s k a t

-- A bond to a new atom t: its entries back to the source refuse it, by 10, 8, 7 or 9, or name one, at place b. Then it is said
-- after the pops, its mark turned as that place asks, and visited before anything else.
abbrev pub Visit : Type 0
Visit = ℕ → ℕ → Trail → Outcome

unfoldable pub enters : Graph → Visit → Trail → BondKind → ℕ → Result ℕ WalkError → Outcome
enters g visit s k t (Err why) = Refused why s
enters g visit s k t (Ok b) = visit t b (meets s t b (pops_then s.left (Extend k (said_as (kind_at g t) b))))

-- A bond of the atom a: 5 if its target is no atom, 6 if it is a itself, then the target.
unfoldable pub follows : Graph → Visit → ℕ → BondEntry → Trail → Outcome
follows g visit a e s =
    pick (leb g.size e.to) (Refused (UnknownTarget a e.to) s)
    (pick (eqb e.to a) (Refused (Loop a) s)
    (pick (eqb (number_in s.order e.to) 0) (enters g visit s e.kind e.to (way_of g e.kind a e.to))
    (ties s e.kind a e.to (tie_of g e.kind a e.to))))

-- The n entries of the atom a from entry i on, in table order, but for its entry back at place b.
unfoldable pub entries_from : Graph → Visit → ℕ → ℕ → ℕ → ℕ → Trail → Outcome
entries_from g visit a b i zero s = Goes s
entries_from g visit a b i (suc n) s =
    and_then (pick (eqb b (i + 1)) (Goes s) (follows g visit a (bond_of g a i) s)) (entries_from g visit a b (i + 1) n)

-- An atom a that was met is visited: all its entries, then it is left. `most` bounds how many are on the way at once, so that the
-- recursion ends; each of them was met, and none twice, so the number of atoms is always enough.
unfoldable pub visit_of : Graph → ℕ → Visit
visit_of g zero a b s = Goes s
visit_of g (suc most) a b s = and_then (entries_from g (visit_of g most) a b 0 (degree_at g a) s) (λ z. Goes (leaves z))

-- The n atoms from i on, in number order: each that was not met yet is a root.
unfoldable pub roots_from : Graph → ℕ → ℕ → Trail → Outcome
roots_from g i zero s = Goes s
roots_from g i (suc n) s =
    and_then (pick (eqb (number_in s.order i) 0) (visit_of g g.size i 0 (meets s i 0 (Root (said_as (kind_at g i) 0) ∷ []))) (Goes s))
    (roots_from g (i + 1) n)

-- nothing met, and nothing handed out: a walk first empties its pool
abbrev pub start_trail : ℕ → List ℕ → Trail
start_trail n pairs =
    record { order = []; back = replicate n 0; pool = empty_of; pairs = pairs; left = 0; said = [] }

-- A whole walk; the words of the pool are lent.
unfoldable pub plain_walk : Graph → List ℕ → Outcome
plain_walk g pairs = roots_from g 0 g.size (start_trail g.size pairs)
