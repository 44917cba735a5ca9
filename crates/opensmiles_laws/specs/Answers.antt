-- WHAT THE READ CALL ANSWERS to a text of bytes and to tables of la and lb words: each answer by when it is given, in the words
-- of the grammar and of OpenSMILES' molecule. The read call is proved to be what `read_text` says (crates/read), and `read_text` is held to
-- `When` and `SaidAs` here: exactly, so no answer is given at another time, and none is missing. `Bytes` is all that is asked of a
-- text, and a slice of bytes is one; a name of two letters is looked up by one number, which other words than bytes could make.
use Rattle.std.specs.Prelude.{ℕ, ◌<◌, ◌≤◌, ◌≡◌, List, length}
use Rattle.std.proofs.Math.Option.{none, some}
use Rattle.table.specs.Limits.{text_limit, branch_limit, places_in, bond_slots_in}
use Rattle.read_line.specs.Events.{ReadEvent}
use Rattle.builder_meaning.specs.Sketch.{Node, count_of, first_open_s, atom_table, bond_table, padded}
use Rattle.std.specs.Prelude.{Err, Ok}
use Rattle.read.specs.Read.{graph_size}
use Rattle.read.specs.Read.{Answer}
use Rattle.read.specs.declared.ReadError.TheVariants as answer
use Rattle.read.specs.Read.{Said, said}
use Rattle.read.specs.Line.{read_refusing, read_text}
use Rattle.grammar.specs.Grammar.{Line, spell, meaning}
use Rattle.grammar.specs.Lines.{Bytes, Fits, TooDeep}
use Rattle.grammar.specs.OpenSmiles.{Chain, chain_s, says, Small, FitsChain, Strict}
use Rattle.opensmiles_laws.specs.Molecule.{Molecule, as_held, molecule_of, Allowed, Meant, HeldFor}
use Rattle.opensmiles_laws.specs.Stops.{Turnable, Marked, Runs, Stops, Disagree, begun}
use Rattle.opensmiles_laws.specs.Telling.{HasTold, Shallow, FirstDeep, Tells, MissesAt, MissesMore}

-- each of two things implies the other
abbrev pub Exactly : Type 0 → Type 0 → Type 0
Exactly A B = (A → B) × (B → A)

-- ---- A WHOLE LINE
-- A text within the limit that a tree spells, with at most 128 branches open at once. No text is the spelling of two trees.
pub record Whole (s : List ℕ) : Type 0 where
  pub short : length s ≤ text_limit
  pub tree : Line
  pub spelled : spell tree ≡ s
  pub shallow : Fits branch_limit tree

-- Its tree has a molecule, so the two ends of each closed ring agree; these are its atoms, as they are held. There is room for them
-- and for their entries, and each mark that has to be turned can be.
pub record Roomy (t : Line) (la lb : ℕ) (ns : List Node) : Type 0 where
  pub whole : Molecule
  pub is : molecule_of as_held (meaning t) ≡ some whole
  pub atoms : whole.atoms ≡ ns
  pub places : length ns ≤ places_in la
  pub slots : count_of ns ≤ bond_slots_in lb
  pub marks : Turnable (meaning t)

-- 0: all this, and all rings are closed
pub record DoneAs (s : List ℕ) (la lb : ℕ) (ns : List Node) : Type 0 where
  pub line : Whole s
  pub roomy : Roomy line.tree la lb ns
  pub closed : first_open_s ns ≡ none

-- 4: all this, but a ring is open; of the open entries, atoms in order and entries in order, the first is that of the join j
pub record OpenAs (s : List ℕ) (la lb j : ℕ) : Type 0 where
  pub line : Whole s
  pub atoms : List Node
  pub roomy : Roomy line.tree la lb atoms
  pub unclosed : first_open_s atoms ≡ some j

-- 3: the two ends of a ring bond don't agree, for the first time at the atoms x and y; and nothing stops the reading, before it or
-- after it. Then there is no molecule, so 3 comes before 4.
pub record DisagreeAs (s : List ℕ) (la lb x y : ℕ) : Type 0 where
  pub line : Whole s
  pub runs : Runs (places_in la) (bond_slots_in lb) begun 0 (meaning line.tree)
  pub first : Disagree begun (meaning line.tree) x y

-- ---- A TEXT THAT STOPS
-- Nothing that this much of a text has told stops the reading.
unfoldable pub Free : List ℕ → ℕ → ℕ → Type 0
Free p la lb = (es : List ReadEvent) → HasTold p es → Runs (places_in la) (bond_slots_in lb) begun 0 es

-- 2: a character is missing at n; the text goes too deep nowhere, and nothing stops the reading before
pub record WrongAs (s : List ℕ) (la lb n : ℕ) : Type 0 where
  pub short : length s ≤ text_limit
  pub upto : List ℕ
  pub place : MissesAt s n upto
  pub shallow : Shallow s
  pub free : Free upto la lb

-- 1: the same, where the end came too soon
pub record EndsAs (s : List ℕ) (la lb : ℕ) : Type 0 where
  pub short : length s ≤ text_limit
  pub upto : List ℕ
  pub place : MissesMore s upto
  pub shallow : Shallow s
  pub free : Free upto la lb

-- 15: the text goes too deep at n, and nowhere before, and nothing stops the reading before
pub record NestsAs (s : List ℕ) (la lb n : ℕ) : Type 0 where
  pub short : length s ≤ text_limit
  pub deep : TooDeep s n
  pub first : FirstDeep s n
  pub free : Free deep.before la lb

-- 10, 13, 14: of all that the text tells, the first event that meets anything meets this
pub record StopsAs (s : List ℕ) (la lb : ℕ) (a : Answer) : Type 0 where
  pub short : length s ≤ text_limit
  pub told : List ReadEvent
  pub tells : Tells s told
  pub stops : Stops (places_in la) (bond_slots_in lb) begun 0 told a

-- ---- WHEN EACH ANSWER IS GIVEN
unfoldable pub When : List ℕ → ℕ → ℕ → Answer → Type 0
When s la lb (Ok size) = (ns : List Node) × DoneAs s la lb ns × (size.atoms ≡ length ns) × (size.entries ≡ count_of ns)
When s la lb (Err answer.EndOfLine) = EndsAs s la lb
When s la lb (Err (answer.Character n)) = WrongAs s la lb n
When s la lb (Err (answer.Join x y)) = DisagreeAs s la lb x y
When s la lb (Err (answer.Rnum j)) = OpenAs s la lb j
When s la lb (Err (answer.Inversion n)) = StopsAs s la lb (Err (answer.Inversion n))
When s la lb (Err (answer.TextTooLong n)) = (text_limit < length s) × (n ≡ length s)
When s la lb (Err (answer.AtomRoom at)) = StopsAs s la lb (Err (answer.AtomRoom at))
When s la lb (Err (answer.BondRoom at)) = StopsAs s la lb (Err (answer.BondRoom at))
When s la lb (Err (answer.Nesting n)) = NestsAs s la lb n
When s la lb (Err answer.NoAtom) = ⊥

-- the read call gives each answer exactly then
abbrev pub AnsweredExactly : Type 0
AnsweredExactly = (s : List ℕ) → Bytes s → (la lb : ℕ) (a : Answer) → Exactly ((read_text s la lb).answer ≡ a) (When s la lb a)

-- ---- WITH WHICH TABLES
-- Of a line that is done: how many atoms and entries there are, and their tables, with zeros after them.
abbrev pub done_said : ℕ → ℕ → List Node → Said
done_said la lb ns = said (Ok (graph_size (length ns) (count_of ns))) (padded la (atom_table ns)) (padded lb (bond_table ns))

-- Of any other: its answer, and nothing but zeros.
pub data SaidAs (s : List ℕ) (la lb : ℕ) : Said → Type 0 where
  said_done : (ns : List Node) → DoneAs s la lb ns → SaidAs s la lb (done_said la lb ns)
  said_not : (a : Answer) → ((n m : ℕ) → ¬ (a ≡ Ok (graph_size n m))) → When s la lb a → SaidAs s la lb (read_refusing a la lb)

-- the read call says this with these tables exactly then
abbrev pub SaidExactly : Type 0
SaidExactly = (s : List ℕ) → Bytes s → (la lb : ℕ) (x : Said) → Exactly (read_text s la lb ≡ x) (SaidAs s la lb x)

-- ---- WHAT OPENSMILES MEANS
-- What OpenSMILES means by a chain whose numbers the reader has is read, as it is held, if the chain is within the limits of text
-- and branches, there is room, and each mark that has to be turned can be.
abbrev pub MeantIsRead : Type 0
MeantIsRead = (u : Chain) → Small u → FitsChain branch_limit u → length (chain_s u) ≤ text_limit → (meant : List Node) → Meant u meant
    → (la lb : ℕ) → length meant ≤ places_in la → count_of meant ≤ bond_slots_in lb → Turnable (says u)
    → (ns : List Node) × HeldFor u meant ns × (read_text (chain_s u) la lb ≡ done_said la lb ns) × (length ns ≡ length meant) × (count_of ns ≡ count_of meant)

-- Whatever the limits, nothing else is answered but 12, 15, 13, 14 and 10, each only where the text is too long, more branches are
-- open than may be, the meant molecule has more atoms than there are places or more entries than there are slots, or its atom n is
-- bonded to one before it and has a mark that can't be turned.
pub data MeantSaid (u : Chain) (meant : List Node) (la lb : ℕ) : Said → Type 0 where
  done : (ns : List Node) → HeldFor u meant ns → MeantSaid u meant la lb (done_said la lb ns)
  too_long : text_limit < length (chain_s u) → MeantSaid u meant la lb (read_refusing (Err (answer.TextTooLong (length (chain_s u)))) la lb)
  too_deep : (at : ℕ) → ¬ FitsChain branch_limit u → MeantSaid u meant la lb (read_refusing (Err (answer.Nesting at)) la lb)
  no_place : (at : ℕ) → places_in la < length meant → MeantSaid u meant la lb (read_refusing (Err (answer.AtomRoom at)) la lb)
  no_slot : (at : ℕ) → bond_slots_in lb < count_of meant → MeantSaid u meant la lb (read_refusing (Err (answer.BondRoom at)) la lb)
  not_turned : (n : ℕ) → Marked (says u) n → MeantSaid u meant la lb (read_refusing (Err (answer.Inversion n)) la lb)

abbrev pub MeantIsAnswered : Type 0
MeantIsAnswered = (u : Chain) → Small u → (meant : List Node) → Meant u meant → (la lb : ℕ) → MeantSaid u meant la lb (read_text (chain_s u) la lb)

-- A chain with a number that the reader has not is never read.
abbrev pub BigIsRefused : Type 0
BigIsRefused = (u : Chain) → ¬ Small u → (la lb n m : ℕ) → ¬ ((read_text (chain_s u) la lb).answer ≡ Ok (graph_size n m))

-- What is read of a strict line is what OpenSMILES means by it, as it is held, unless OpenSMILES forbids the graph.
abbrev pub ReadIsMeant : Type 0
ReadIsMeant = (t : Line) → Strict t → (la lb n m : ℕ) → (read_text (spell t) la lb).answer ≡ Ok (graph_size n m)
    → (ns : List Node) × (read_text (spell t) la lb ≡ done_said la lb ns)
    × (Allowed ns → (u : Chain) × (chain_s u ≡ spell t) × ((meant : List Node) × Meant u meant × HeldFor u meant ns))
