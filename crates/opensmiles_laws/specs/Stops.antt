-- Where the reading of a line stops: what each event of a line meets after the events before it, in the words of OpenSMILES'
-- molecule. No reading here, and no table.
use Rattle.std.specs.Prelude.{ℕ, ◌+◌, ◌<◌, ◌≤◌, ◌≡◌, List, [], ◌∷◌, ◌++◌}
use Rattle.std.proofs.Math.Option.{Option, none, some}
use Rattle.feature.specs.Kinds.{no_configuration, no_hydrogens, th1, th2}
use Rattle.feature.specs.declared.atom_kind.AtomKind.{AtomKind}
use Rattle.feature.specs.declared.atom_kind.AtomKind.TheVariants.{Bracket}
use Rattle.feature.specs.declared.atom_kind.BracketAtom.{BracketAtom}
use Rattle.feature.specs.declared.bond_kind.BondKind.{BondKind}
use Rattle.read_token.specs.declared.scanner.Missing.TheVariants as missing
use Rattle.read_line.specs.declared.lead.Lead.{Lead}
use Rattle.read_line.specs.declared.lead.Lead.TheVariants.{Bond}
use Rattle.read_line.specs.Events.{ReadEvent, Enter, Join, Pop, Miss, Nest}
use Rattle.builder_meaning.specs.Sketch.{Held, count_of, lookup, open_kind, edges_at}
use Rattle.std.specs.Prelude.{Err}
use Rattle.read.specs.Read.{Answer}
use Rattle.read.specs.declared.ReadError.TheVariants as answer
use Rattle.opensmiles_laws.specs.Molecule.{Molecule, molecule, agreed, as_held, molecule_told, next, tell_all}

-- ---- MARKS
-- a mark other than TH1 and TH2 on an atom that bears hydrogen: it can't be turned
pub data Unturnable : AtomKind → Type 0 where
  unturnable : (b : BracketAtom) → ¬ (b.configuration ≡ no_configuration) → ¬ (b.configuration ≡ th1) → ¬ (b.configuration ≡ th2)
      → ¬ (b.hydrogens ≡ no_hydrogens) → ¬ (b.hydrogens ≡ 0) → Unturnable (Bracket b)

-- ---- WHAT AN EVENT MEETS
-- The events before it made a molecule, or none since the two ends of a ring bond didn't agree; and they named n atoms. At an
-- atom: no place (13), no slots for its bond's two entries (14), a mark that can't be turned (10), in this order. At a ring
-- number that opens a ring, or closes one whose ends agree: no slot (14). After two ends that don't agree only marks are judged.
-- A missing thing and a branch too many are met wherever they come up; in no line do they.
pub data Meets (places slots : ℕ) : Option Molecule → ℕ → ReadEvent → Answer → Type 0 where
  no_place : (m : Molecule) (n : ℕ) (l : Lead) (k : AtomKind) (at : ℕ) → places ≤ n → Meets places slots (some m) n (Enter l k at) (Err (answer.AtomRoom at))
  no_slots : (m : Molecule) (n : ℕ) (e : BondKind) (k : AtomKind) (at : ℕ) → n < places → slots < count_of m.atoms + 2 → Meets places slots (some m) n (Enter (Bond e) k at) (Err (answer.BondRoom at))
  not_turned : (m : Molecule) (n : ℕ) (e : BondKind) (k : AtomKind) (at : ℕ) → n < places → count_of m.atoms + 2 ≤ slots → Unturnable k → Meets places slots (some m) n (Enter (Bond e) k at) (Err (answer.Inversion n))
  no_slot : (m x : Molecule) (n : ℕ) (e : BondKind) (r at : ℕ) → molecule_told as_held m (Join e r at) ≡ some x → slots < count_of m.atoms + 1 → Meets places slots (some m) n (Join e r at) (Err (answer.BondRoom at))
  not_turned_after : (n : ℕ) (e : BondKind) (k : AtomKind) (at : ℕ) → Unturnable k → Meets places slots none n (Enter (Bond e) k at) (Err (answer.Inversion n))
  ends : (o : Option Molecule) (n : ℕ) → Meets places slots o n (Miss missing.EndOfLine) (Err answer.EndOfLine)
  wrong : (o : Option Molecule) (n at : ℕ) → Meets places slots o n (Miss (missing.Character at)) (Err (answer.Character at))
  deep : (o : Option Molecule) (n at : ℕ) → Meets places slots o n (Nest at) (Err (answer.Nesting at))

-- an event meets nothing
unfoldable pub Passes : ℕ → ℕ → Option Molecule → ℕ → ReadEvent → Type 0
Passes places slots o n e = (a : Answer) → ¬ Meets places slots o n e a

-- ---- ALL EVENTS, after others that made o and named n atoms
-- how many atoms are named with an event, and with all
unfoldable pub atoms_named : ℕ → ReadEvent → ℕ
atoms_named n (Enter l k at) = n + 1
atoms_named n (Join e r at) = n
atoms_named n (Pop i) = n
atoms_named n (Miss x) = n
atoms_named n (Nest at) = n

unfoldable pub count_all : ℕ → List ReadEvent → ℕ
count_all n [] = n
count_all n (e ∷ es) = count_all (atoms_named n e) es

-- The atom of this number is bonded to one before it and has a mark that can't be turned.
pub record Marked (es : List ReadEvent) (n : ℕ) : Type 0 where
  pub before : List ReadEvent
  pub bond : BondKind
  pub kind : AtomKind
  pub at : ℕ
  pub after : List ReadEvent
  pub is : es ≡ before ++ (Enter (Bond bond) kind at ∷ after)
  pub number : count_all 0 before ≡ n
  pub mark : Unturnable kind

-- Each mark that has to be turned can be.
unfoldable pub Turnable : List ReadEvent → Type 0
Turnable es = (n : ℕ) → ¬ Marked es n

-- none of them meets anything
unfoldable pub Runs : ℕ → ℕ → Option Molecule → ℕ → List ReadEvent → Type 0
Runs places slots o n [] = Unit {0}
Runs places slots o n (e ∷ es) = Passes places slots o n e × Runs places slots (next as_held o e) (atoms_named n e) es

-- the first that meets anything meets this
pub record Stops (places slots : ℕ) (o : Option Molecule) (n : ℕ) (es : List ReadEvent) (a : Answer) : Type 0 where
  pub before : List ReadEvent
  pub event : ReadEvent
  pub after : List ReadEvent
  pub is : es ≡ before ++ (event ∷ after)
  pub free : Runs places slots o n before
  pub meets : Meets places slots (tell_all as_held o before) (count_all n before) event a

-- the two ends of a ring bond don't agree: the ring number's second use at the atom x, its first at y
pub data Fails : Option Molecule → ReadEvent → ℕ → ℕ → Type 0 where
  fails : (m : Molecule) (e : BondKind) (r at x : ℕ) (path : List ℕ) (h : Held) → m.path ≡ x ∷ path → lookup r m.opens ≡ some h
      → agreed (open_kind h.join (edges_at h.atom m.atoms)) e ≡ none → Fails (some m) (Join e r at) x h.atom

-- the first such ring bond of all events; after it there is no molecule
pub record Disagree (o : Option Molecule) (es : List ReadEvent) (x y : ℕ) : Type 0 where
  pub before : List ReadEvent
  pub event : ReadEvent
  pub after : List ReadEvent
  pub is : es ≡ before ++ (event ∷ after)
  pub fails : Fails (tell_all as_held o before) event x y

-- before the first event
abbrev pub begun : Option Molecule
begun = some (molecule [] [] [] 0)
