-- THE DEPARTURES IN READING, each by its name and its smallest lines, in the order of docs/DIFFERENCES.md: what the read call says to
-- each line. That the lines are OpenSMILES, or are not, or mean something else there, is proved beside it and in crates/grammar.
use Rattle.std.specs.Prelude.{ℕ, ◌+◌, List, [], ◌∷◌}
use Rattle.feature.specs.Text.{byte, bytes, one_letter, two_letters}
use Rattle.feature.specs.Names.{place_of, names}
use Rattle.feature.specs.Kinds.{no_number, no_configuration, no_hydrogens, no_charge, th1, th2, al, bracket_of_six}
use Rattle.feature.specs.declared.atom_kind.AtomKind.{AtomKind}
use Rattle.feature.specs.declared.atom_kind.AtomKind.TheVariants.{Aliphatic, Bracket}
use Rattle.feature.specs.declared.bond_kind.BondKind.TheVariants.{Elided, Double}
use Rattle.builder_meaning.specs.Sketch.{To, Node, edge, node}
use Rattle.std.specs.Prelude.{Err}
use Rattle.read.specs.Read.{Answer}
use Rattle.read.specs.declared.ReadError.TheVariants as answer
use Rattle.read.specs.Read.{Said}
use Rattle.read.specs.Line.{read_refusing}
use Rattle.opensmiles_laws.specs.Answers.{done_said}

-- the words that are lent for atoms and for bond entries
abbrev pub room : ℕ
room = 60

-- ---- what is said
-- a refusal, or these atoms
abbrev no : Answer → Said
no a = read_refusing a room room

abbrev wrong_byte : ℕ → Said
wrong_byte n = no (Err (answer.Character n))

abbrev yes : List Node → Said
yes ns = done_said room room ns

-- one atom
abbrev only : AtomKind → Said
only k = yes (node k [] ∷ [])

-- ---- kinds
-- atoms without brackets
abbrev pub plain_carbon : AtomKind
plain_carbon = Aliphatic 1

abbrev pub fluorine : AtomKind
fluorine = Aliphatic 6

abbrev pub astatine : AtomKind
astatine = Aliphatic 10

abbrev pub tennessine : AtomKind
tennessine = Aliphatic 11

-- in brackets: a symbol of one letter or two, and nothing else; a carbon with a mark and hydrogens
abbrev pub one_letter_atom : ℕ → ℕ → AtomKind
one_letter_atom a h = Bracket (bracket_of_six no_number (place_of (one_letter a) names) no_configuration h no_charge no_number)

abbrev pub letters : ℕ → ℕ → AtomKind
letters a b = Bracket (bracket_of_six no_number (place_of (two_letters a b) names) no_configuration no_hydrogens no_charge no_number)

abbrev pub marked_carbon : ℕ → ℕ → AtomKind
marked_carbon c h = Bracket (bracket_of_six no_number (place_of (one_letter (byte "C")) names) c h no_charge no_number)

-- ---- graphs
-- C11: an atom joined to itself
abbrev pub joined_to_itself : List Node
joined_to_itself = node plain_carbon (edge Elided (To 0) ∷ edge Elided (To 0) ∷ []) ∷ []

-- C1C1: two atoms joined twice
abbrev pub joined_twice : List Node
joined_twice = node plain_carbon (edge Elided (To 1) ∷ edge Elided (To 1) ∷ []) ∷ node plain_carbon (edge Elided (To 0) ∷ edge Elided (To 0) ∷ []) ∷ []

-- C(C)1CC1
abbrev pub tail : List Node
tail =
    node plain_carbon (edge Elided (To 1) ∷ edge Elided (To 3) ∷ edge Elided (To 2) ∷ [])
    ∷ node plain_carbon (edge Elided (To 0) ∷ [])
    ∷ node plain_carbon (edge Elided (To 0) ∷ edge Elided (To 3) ∷ [])
    ∷ node plain_carbon (edge Elided (To 2) ∷ edge Elided (To 0) ∷ [])
    ∷ []

-- a carbon, and an atom of this kind after it
abbrev pub after_carbon : AtomKind → List Node
after_carbon k = node plain_carbon (edge Elided (To 1) ∷ []) ∷ node k (edge Elided (To 0) ∷ []) ∷ []

-- the same, with a fluorine after that
abbrev pub between : AtomKind → List Node
between k = node plain_carbon (edge Elided (To 1) ∷ []) ∷ node k (edge Elided (To 0) ∷ edge Elided (To 2) ∷ []) ∷ node fluorine (edge Elided (To 1) ∷ []) ∷ []

-- an atom of this kind between two carbons and two double bonds
abbrev pub cumulene : AtomKind → List Node
cumulene k = node plain_carbon (edge Double (To 1) ∷ []) ∷ node k (edge Double (To 0) ∷ edge Double (To 2) ∷ []) ∷ node plain_carbon (edge Double (To 1) ∷ []) ∷ []

-- ---- THE TABLE
abbrev pub departure_rows : List (List ℕ × Said)
departure_rows =
    -- "slip"
    (bytes "[G]", only (one_letter_atom (byte "F") no_hydrogens))
    -- "charge zero", "charge ten", "charge above fifteen", "charge with a leading zero"
    ∷ (bytes "[C+0]", wrong_byte 3)
    ∷ (bytes "[C-0]", wrong_byte 3)
    ∷ (bytes "[C+10]", wrong_byte 4)
    ∷ (bytes "[C-10]", wrong_byte 4)
    ∷ (bytes "[C+16]", wrong_byte 4)
    ∷ (bytes "[C-16]", wrong_byte 4)
    ∷ (bytes "[C+01]", wrong_byte 3)
    ∷ (bytes "[C+02]", wrong_byte 3)
    ∷ (bytes "[C+03]", wrong_byte 3)
    ∷ (bytes "[C+04]", wrong_byte 3)
    ∷ (bytes "[C+05]", wrong_byte 3)
    ∷ (bytes "[C+06]", wrong_byte 3)
    ∷ (bytes "[C+07]", wrong_byte 3)
    ∷ (bytes "[C+08]", wrong_byte 3)
    ∷ (bytes "[C+09]", wrong_byte 3)
    ∷ (bytes "[C-01]", wrong_byte 3)
    ∷ (bytes "[C-02]", wrong_byte 3)
    ∷ (bytes "[C-03]", wrong_byte 3)
    ∷ (bytes "[C-04]", wrong_byte 3)
    ∷ (bytes "[C-05]", wrong_byte 3)
    ∷ (bytes "[C-06]", wrong_byte 3)
    ∷ (bytes "[C-07]", wrong_byte 3)
    ∷ (bytes "[C-08]", wrong_byte 3)
    ∷ (bytes "[C-09]", wrong_byte 3)
    -- "long isotope", "long map"
    ∷ (bytes "[1000C]", wrong_byte 4)
    ∷ (bytes "[C:1000]", wrong_byte 6)
    -- "bare At, Ts", "new elements", "counted hydrogen"
    ∷ (bytes "At", only astatine)
    ∷ (bytes "Ts", only tennessine)
    ∷ (bytes "[Nh]", only (letters (byte "N") (byte "h")))
    ∷ (bytes "[Mc]", only (letters (byte "M") (byte "c")))
    ∷ (bytes "[Ts]", only (letters (byte "T") (byte "s")))
    ∷ (bytes "[Og]", only (letters (byte "O") (byte "g")))
    ∷ (bytes "[HH]", only (one_letter_atom (byte "H") 1))
    -- "H0"
    ∷ (bytes "[CH0]", only (one_letter_atom (byte "C") 0))
    ∷ (bytes "[C]", only (one_letter_atom (byte "C") no_hydrogens))
    -- "late place", "late place, at the end", "leading zero", "no arrangement"
    ∷ (bytes "[C@TB0]", wrong_byte 6)
    ∷ (bytes "[C@OHx]", wrong_byte 6)
    ∷ (bytes "[C@TBx", no (Err answer.EndOfLine))
    ∷ (bytes "[C@TB01]", wrong_byte 6)
    ∷ (bytes "[C@OH01]", wrong_byte 6)
    ∷ (bytes "[C@TB00]", wrong_byte 6)
    ∷ (bytes "[C@TB21]", wrong_byte 6)
    ∷ (bytes "[C@OH31]", wrong_byte 6)
    -- "empty line", "terminator"
    ∷ ([], no (Err answer.EndOfLine))
    ∷ (byte "C" ∷ byte " " ∷ [], wrong_byte 1)
    ∷ (byte "C" ∷ 9 ∷ [], wrong_byte 1)
    ∷ (byte "C" ∷ 10 ∷ [], wrong_byte 1)
    ∷ (byte "C" ∷ 13 ∷ [], wrong_byte 1)
    -- "joined to itself", "joined twice", "ring after branch"
    ∷ (bytes "C11", yes joined_to_itself)
    ∷ (bytes "C1C1", yes joined_twice)
    ∷ (bytes "C(C)1CC1", yes tail)
    -- "single and direction"
    ∷ (bytes "C/1CC-1", no (Err (answer.Join 2 0)))
    ∷ (bytes "C-1CC/1", no (Err (answer.Join 2 0)))
    -- "TH marks", "TH marks, two hydrogens", "allenes", "mark not turned"
    ∷ (bytes "C[C@H]", yes (after_carbon (marked_carbon th2 1)))
    ∷ (bytes "[C@H]", only (marked_carbon th1 1))
    ∷ (bytes "C[C@]", yes (after_carbon (marked_carbon th1 no_hydrogens)))
    ∷ (bytes "C[C@H2]F", yes (between (marked_carbon th2 2)))
    ∷ (bytes "C=[C@]=C", yes (cumulene (marked_carbon th1 no_hydrogens)))
    ∷ (bytes "C=[C@AL1]=C", yes (cumulene (marked_carbon (al + 1) no_hydrogens)))
    ∷ (bytes "C[C@SP1H]", no (Err (answer.Inversion 1)))
    ∷ []
