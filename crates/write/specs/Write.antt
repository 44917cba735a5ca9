-- The write call. 13 and 14 if the counts handed in exceed the room, with the count; 17 with the first record that stands for
-- no atom or bond; then the walk's refusal as met, 5 to 11; then 16 with the bytes that the whole line needs. Else 0 with the
-- bytes written: the line, and zeros after it. After a refusal the whole output is zero. An empty graph writes an empty line.
use Rattle.std.specs.Prelude.{ℕ, ◌-◌, List, [], ◌++◌, length, ltb, Option, Some, None, Result, Ok, Err}
use Rattle.feature.specs.Pick.{pick}
use Rattle.table.specs.Limits.{atom_limit, places_in, bond_slots_in}
use Rattle.table.specs.Starts.{entry_starts}
use Rattle.table.specs.Zeros.{zeros}
use Rattle.writer.specs.declared.Writer.{Writer}
use Rattle.writer.specs.Line.{Event, line_of, write_events}
use Rattle.walk_entry.specs.Graph.{Graph, graph}
use Rattle.walk.specs.declared.walker.Walker.{Walker}
use Rattle.walk.specs.Walk.{Walk, walk, start_walker, walk_to, events_of, turns_of}
use Rattle.table_check.specs.Judge.{bad_record}
use Rattle.write.specs.declared.answer.WriteError.{WriteError}
use Rattle.write.specs.declared.answer.WriteError.TheVariants.{Stopped, AtomRoom, BondRoom, OutRoom, BadTable}

-- the graph of n atoms that tables hold
abbrev pub graph_of : ℕ → List ℕ → List ℕ → Graph
graph_of n atoms bonds = graph n atoms bonds (entry_starts n atoms (zeros atom_limit))

-- how many words a pool has: a slot for each number from 0 to 99
abbrev pub pair_words : ℕ
pair_words = 300

-- a walk before its first turn, with room for so many atoms in its three tables
abbrev pub start_in : ℕ → ℕ → ℕ → Walk
start_in met walked back =
    walk start_walker (zeros met) (zeros walked) (zeros back) (zeros atom_limit) (zeros pair_words)

-- a whole walk of n atoms and m entries: what it leaves, and what it says
unfoldable pub walk_in : ℕ → ℕ → ℕ → List ℕ → ℕ → List ℕ → ℕ → Walk
walk_in met walked back atoms n bonds m = walk_to (graph_of n atoms bonds) (turns_of n m) (start_in met walked back)

unfoldable pub said_in : ℕ → ℕ → ℕ → List ℕ → ℕ → List ℕ → ℕ → List Event
said_in met walked back atoms n bonds m =
    events_of (graph_of n atoms bonds) (turns_of n m) (start_in met walked back)

-- with room for the largest job
abbrev pub walk_of : List ℕ → ℕ → List ℕ → ℕ → Walk
walk_of = walk_in atom_limit atom_limit atom_limit

abbrev pub walk_events : List ℕ → ℕ → List ℕ → ℕ → List Event
walk_events = said_in atom_limit atom_limit atom_limit

-- the line that a walk says
abbrev pub line_said : List Event → List ℕ
line_said es = line_of (write_events atom_limit es [])

-- how many atoms and bond entries tables have room for
unfoldable pub atom_places : List ℕ → ℕ
atom_places atoms = places_in (length atoms)

unfoldable pub bond_slots : List ℕ → ℕ
bond_slots bonds = bond_slots_in (length bonds)

-- what is made of what stops a call, or of nothing
abbrev pub unless : {A B : Type 0} → Option A → (A → B) → B → B
unless (Some a) stopped made = stopped a
unless None stopped made = made

-- 13, 14 and 17 in their order, for room for so many atoms: a refusal, or what is made of the graph
abbrev pub admitted : {A : Type 0} → ℕ → List ℕ → ℕ → List ℕ → ℕ → (WriteError → A) → A → A
admitted room atoms n bonds m refused made =
    pick (ltb room n) (refused (AtomRoom n))
    (pick (ltb (bond_slots bonds) m) (refused (BondRoom m))
    (unless (bad_record atoms n bonds m) (λ bad. refused (BadTable bad)) made))

-- an answer, and an output of so many bytes
pub record WriteLeft : Type 0 where
  pub answer : Result ℕ WriteError
  pub out : List ℕ

abbrev pub write_leaves : Result ℕ WriteError → List ℕ → WriteLeft
write_leaves r out = record { answer = r; out = out }

abbrev pub line_refusing : ℕ → WriteError → WriteLeft
line_refusing room why = write_leaves (Err why) (zeros room)

-- a line put into an output, zeros after it
unfoldable pub put_line : ℕ → List ℕ → WriteLeft
put_line room line =
    pick (ltb room (length line)) (line_refusing room (OutRoom (length line)))
    (write_leaves (Ok (length line)) (line ++ zeros (room - length line)))

-- the end of a walk that was told to an output: out has what found room of a line of so many bytes
unfoldable pub output_ended : List ℕ → Walker → Writer → WriteLeft
output_ended out z line =
    unless z.refusal (λ why. line_refusing (length out) (Stopped why))
    (pick (ltb (length out) line.len) (line_refusing (length out) (OutRoom line.len)) (write_leaves (Ok line.len) out))

-- the end of a walk, with its line
unfoldable pub line_concluded : ℕ → Walker → List ℕ → WriteLeft
line_concluded room z line = unless z.refusal (λ why. line_refusing room (Stopped why)) (put_line room line)

unfoldable pub graph_written : ℕ → List ℕ → ℕ → List ℕ → ℕ → WriteLeft
graph_written room atoms n bonds m =
    line_concluded room (walk_of atoms n bonds m).at (line_said (walk_events atoms n bonds m))

-- a graph of n atoms and m entries written into an output of so many bytes
unfoldable pub write_of : ℕ → List ℕ → ℕ → List ℕ → ℕ → WriteLeft
write_of room atoms n bonds m =
    admitted (atom_places atoms) atoms n bonds m (line_refusing room) (graph_written room atoms n bonds m)
