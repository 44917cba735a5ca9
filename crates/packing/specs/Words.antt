-- How atoms and bonds are packed in numbers, as docs/PACKING.md tables it, and what numbers stand for. Zeros stand for nothing.
use Rattle.std.specs.Prelude.{ℕ, ◌+◌, ◌-◌, ◌*◌, ◌/◌, ◌%◌, Bool, true, false, List, [], ◌∷◌, get_or, ltb, leb}
use Rattle.feature.specs.Pick.{pick}
use Rattle.feature.specs.Kinds.{configurations, bracket_of_six, in_range}
use Rattle.feature.specs.Bonds.{code_of, kind_of}
use Rattle.feature.specs.declared.atom_kind.AtomKind.{AtomKind}
use Rattle.feature.specs.declared.atom_kind.AtomKind.TheVariants.{Star, Aliphatic, Aromatic, Bracket}
use Rattle.feature.specs.declared.atom_kind.BracketAtom.{BracketAtom}
use Rattle.feature.specs.declared.bond_kind.BondKind.{BondKind}
use Rattle.std.specs.Prelude.{None, Option, Some}
use Rattle.table.specs.Records.{atom_words}
use Rattle.packing.specs.declared.Pair.{Pair}

-- the first number of each sort of kind
abbrev pub star : ℕ
star = 1

abbrev pub aliphatic_from : ℕ
aliphatic_from = 2

abbrev pub aromatic_from : ℕ
aromatic_from = 14

abbrev pub bracketed : ℕ
bracketed = 20

-- the room of each number of a bracket atom, but for the last of a word
abbrev pub kind_room : ℕ
kind_room = 256

abbrev pub number_room : ℕ
number_room = 1001

abbrev pub charges : ℕ
charges = 32

abbrev pub pair : ℕ → ℕ → Pair
pair a b = record { first = a; second = b }

unfoldable pub bracket_pair : BracketAtom → Pair
bracket_pair b =
    pair
    (bracketed + b.symbol + kind_room * (b.isotope + number_room * (b.configuration + configurations * b.hydrogens)))
    (b.charge + charges * b.map)

-- the two words of a kind whose numbers are in range
unfoldable pub pair_of : AtomKind → Pair
pair_of Star = pair star 0
pair_of (Aliphatic n) = pair (aliphatic_from + n) 0
pair_of (Aromatic n) = pair (aromatic_from + n) 0
pair_of (Bracket b) = bracket_pair b

-- and of any kind
unfoldable pub words_of : AtomKind → Pair
words_of k = pick (in_range k) (pair_of k) (pair 0 0)

abbrev pub listed : Pair → List ℕ
listed w = w.first ∷ w.second ∷ []

unfoldable pub list_of : AtomKind → List ℕ
list_of k = listed (words_of k)

-- what two words stand for
unfoldable pub plain_of : ℕ → Option AtomKind
plain_of n =
    pick (ltb n star) None
    (pick (ltb n aliphatic_from) (Some Star)
    (pick (ltb n aromatic_from) (Some (Aliphatic (n - aliphatic_from)))
    (pick (ltb n bracketed) (Some (Aromatic (n - aromatic_from)))
    None)))

abbrev pub unpacked : ℕ → ℕ → BracketAtom
unpacked a b =
    bracket_of_six (a / kind_room % number_room) (a % kind_room - bracketed) (a / kind_room / number_room % configurations) (a / kind_room / number_room / configurations) (b % charges) (b / charges)

unfoldable pub bracket_of : ℕ → ℕ → Option AtomKind
bracket_of a b =
    pick (ltb (a % kind_room) bracketed) None
    (pick (in_range (Bracket (unpacked a b))) (Some (Bracket (unpacked a b)))
    None)

unfoldable pub load_of : ℕ → ℕ → Option AtomKind
load_of a b =
    pick (leb bracketed a) (bracket_of a b)
    (pick (ltb 0 b) None
    (plain_of a))

unfoldable pub load_at : List ℕ → ℕ → Option AtomKind
load_at t at = load_of (get_or t at 0) (get_or t (at + 1) 0)

unfoldable pub is_held : Option AtomKind → Bool
is_held (Some k) = true
is_held None = false

-- whether the record a of a table of atoms stands for one
unfoldable pub is_atom : List ℕ → ℕ → Bool
is_atom t a = is_held (load_at t (a * atom_words))

-- a bond entry: the number of its kind, and its target
unfoldable pub bond_list : BondKind → ℕ → List ℕ
bond_list k target = code_of k ∷ target ∷ []

unfoldable pub entry_coded : Option BondKind → ℕ → Option (BondKind × ℕ)
entry_coded (Some k) target = Some (k, target)
entry_coded None target = None

unfoldable pub entry_of_words : ℕ → ℕ → Option (BondKind × ℕ)
entry_of_words n target = entry_coded (kind_of n) target

unfoldable pub entry_stored : List ℕ → ℕ → Option (BondKind × ℕ)
entry_stored t at = entry_of_words (get_or t at 0) (get_or t (at + 1) 0)
