-- Steps of the proofs: no public claim rests on these definitions.
-- What the reading functions ensure, as records with named parts; and events without their places.
use Rattle.std.specs.Prelude.{◌≡◌, ℕ, ◌+◌, ◌*◌, ◌≤◌, ◌<◌, List, [], ◌∷◌, length, eqb}
use Rattle.feature.specs.Pick.{pick}
use Rattle.feature.specs.Text.{byte}
use Rattle.feature.specs.declared.bond_kind.BondKind.{BondKind}
use Rattle.read_token.specs.Scan.{peek_at, missing_at, rnum_at}
use Rattle.builder.specs.declared.builder.Builder.{Builder}
use Rattle.table.specs.Limits.{text_limit}
use Rattle.builder.specs.State.{Bld, popped_st}
use Rattle.read_line.specs.declared.lead.Lead.{Lead}
use Rattle.read_line.specs.declared.line.Reached.{Reached}
use Rattle.read_line.specs.Events.{ReadEvent, run, missing_st, Enter, Join, Pop, Miss, Nest}
use Rattle.read_line.specs.Parse.{Rest, atom_p, ring_p, union_p, unit_p, line_p, branch_p, bodies}

-- where a reading has come to
abbrev pub reached_at : ℕ → ℕ → Builder → Reached
reached_at at n b = record { at = at; n = n; builder = b }

-- something is missing at a place
unfoldable pub reached_missing : List ℕ → ℕ → ℕ → Builder → Reached
reached_missing s at n b = reached_at at n (missing_st b (missing_at s at))

-- the end of a branch whose line has n atoms
unfoldable pub reached_closed : List ℕ → ℕ → ℕ → Builder → Reached
reached_closed s at n b =
    pick (eqb (peek_at s at) (byte ")")) (reached_at (at + 1) 0 (popped_st b n)) (reached_missing s at 0 b)

-- each atom, each ring number and each entry has taken a byte, or half of one: so no count wraps
pub record Counted (s : Builder) (at : ℕ) : Type 0 where
  pub atoms : s.atoms ≤ at
  pub entries : s.entries ≤ 2 * at
  pub top : s.top ≤ at
  pub joins : s.joins ≤ at

-- a reading can begin at a place: nothing was refused yet
pub record ReadReady (s : List ℕ) (at : ℕ) (b : Builder) : Type 0 where
  pub going : b.refusal ≡ 0
  pub counted : Counted b at
  pub within : at ≤ length s
  pub short : length s ≤ text_limit

-- where a reading that began at a place ends
pub record Moved (s : List ℕ) (at : ℕ) (b' : Builder) (at' : ℕ) : Type 0 where
  pub within : at' ≤ length s
  pub on : b'.refusal ≡ 0 → at < at'
  pub counted : Counted b' at'

pub record AtomRead (s : List ℕ) (at : ℕ) (l : Lead) (n : ℕ) (b b' : Bld) (at' n' : ℕ) : Type 0 where
  pub same : (k : Rest) → run b (atom_p s at l n k) ≡ run b' (k at' n')
  pub moved : Moved s at b'.st at'
  pub count : n' ≤ at'

pub record RingRead (s : List ℕ) (at : ℕ) (bond : BondKind) (n : ℕ) (b b' : Bld) (at' n' : ℕ) : Type 0 where
  pub same : (k : Rest) → run b (ring_p s at bond n k (rnum_at s at)) ≡ run b' (k at' n')
  pub moved : Moved s at b'.st at'
  pub count : n' ≤ at'

pub record UnionRead (s : List ℕ) (at : ℕ) (bond : BondKind) (n : ℕ) (b b' : Bld) (at' n' : ℕ) : Type 0 where
  pub same : (k : Rest) → run b (union_p s at bond n k) ≡ run b' (k at' n')
  pub moved : Moved s at b'.st at'
  pub count : n' ≤ at'

pub record UnitRead (s : List ℕ) (at n : ℕ) (b b' : Bld) (at' n' : ℕ) : Type 0 where
  pub same : (k : Rest) → run b (unit_p s at n k) ≡ run b' (k at' n')
  pub moved : Moved s at b'.st at'
  pub count : n' ≤ at'

-- what is left of a line after some of it: bodies, or none. Here and below `f` is any number that is large enough to count them
pub record RestRead (s : List ℕ) (room : ℕ) (b : Bld) (at n : ℕ) (b' : Bld) (at' n' : ℕ) : Type 0 where
  pub same : (f : ℕ) (k : Rest) → length s < at + f → run b (bodies f s room at n k) ≡ run b' (k at' n')
  pub within : at' ≤ length s
  pub on : b'.st.refusal ≡ 0 → at ≤ at'
  pub counted : Counted b'.st at'

pub record LineRead (s : List ℕ) (at : ℕ) (l : Lead) (room : ℕ) (b b' : Bld) (at' n' : ℕ) : Type 0 where
  pub same : (f : ℕ) (k : Rest) → length s < at + f → run b (line_p (bodies f s room) s at l k) ≡ run b' (k at' n')
  pub moved : Moved s at b'.st at'

pub record BranchRead (s : List ℕ) (at room : ℕ) (b b' : Bld) (at' : ℕ) : Type 0 where
  pub same : (f : ℕ) (k : ℕ → List ReadEvent) → length s ≤ at + f → run b (branch_p (bodies f s) s at room k) ≡ run b' (k at')
  pub moved : Moved s at b'.st at'

-- an event with the place in it forgotten
unfoldable pub placeless : ReadEvent → ReadEvent
placeless (Enter l k p) = Enter l k 0
placeless (Join b n p) = Join b n 0
placeless (Pop n) = Pop n
placeless (Miss m) = Miss m
placeless (Nest p) = Nest 0

unfoldable pub unplaced : List ReadEvent → List ReadEvent
unplaced [] = []
unplaced (e ∷ es) = placeless e ∷ unplaced es
