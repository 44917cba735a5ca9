-- The grammar of the lines that are read: syntax as trees, how each tree is spelled, and what it says. No reading here.
-- Trees are left-recursive, as the rules of OpenSMILES are. Atoms hold what is written, so "H" and "H1" are different
-- trees of one meaning. What OpenSMILES itself has, and where these trees depart from it, is in OpenSmiles.
use Rattle.std.specs.Prelude.{ℕ, ◌+◌, ◌-◌, ◌*◌, List, [], ◌∷◌, ◌++◌, Bool, false, eqb, leb, T, length}
use Rattle.std.proofs.Math.Option.{Option, none, some}
use Rattle.feature.specs.Pick.{pick}
use Rattle.feature.specs.Text.{byte, one_letter, two_letters}
use Rattle.feature.specs.Names.{place_of}
use Rattle.feature.specs.Names as feature
use Rattle.feature.specs.Kinds.{no_number, no_hydrogens, no_charge, no_configuration, th1, th2, al, sp, tb, oh}
use Rattle.feature.specs.Kinds as kinds
use Rattle.feature.specs.declared.atom_kind.AtomKind.{AtomKind}
use Rattle.feature.specs.declared.atom_kind.AtomKind.TheVariants.{Star, Aliphatic, Aromatic, Bracket}
use Rattle.feature.specs.declared.bond_kind.BondKind.{BondKind}
use Rattle.feature.specs.declared.bond_kind.BondKind.TheVariants as kind
use Rattle.read_line.specs.declared.lead.Lead.{Lead}
use Rattle.read_line.specs.declared.lead.Lead.TheVariants as lead
use Rattle.read_line.specs.Events.{ReadEvent, Enter, Join, Pop}
use Rattle.grammar.specs.Names.{Name, one, table, has1, has2, place1, place2}

-- ---- SYNTAX
-- A digit, and what it is worth.
pub data Digit : Type 0 where
  d0 d1 d2 d3 d4 d5 d6 d7 d8 d9 : Digit

unfoldable pub value : Digit → ℕ
value d0 = 0
value d1 = 1
value d2 = 2
value d3 = 3
value d4 = 4
value d5 = 5
value d6 = 6
value d7 = 7
value d8 = 8
value d9 = 9

-- A bond is one of - = # $ : / \.
pub data BondSign : Type 0 where
  single double triple quadruple aromatic up down : BondSign

-- An atom without brackets, in the order of their kinds. At and Ts are a departure.
unfoldable pub aliphatics : List Name
aliphatics = table "B  C  N  O  S  P  F  Cl Br I  At Ts "

unfoldable pub aromatics : List Name
aromatics = table "b  c  n  o  p  s  "

unfoldable pub organics : List Name
organics = table "B  C  N  O  S  P  F  Cl Br I  At Ts b  c  n  o  p  s  *  "

pub data Organic : Type 0 where
  bare1 : (a : ℕ) → T (has1 a organics) → Organic
  bare2 : (a b : ℕ) → T (has2 a b organics) → Organic

-- A symbol in brackets: the star, the 118 elements and the aromatic as b c n o p s se; and G, a departure.
unfoldable pub known : List Name
known =
    table "*  Ac Ag Al Am Ar As At Au B  Ba Be Bh Bi Bk Br "
    ++ (table "C  Ca Cd Ce Cf Cl Cm Cn Co Cr Cs Cu Db Ds Dy Er Es Eu F  Fe Fl Fm Fr Ga Gd Ge "
    ++ (table "H  He Hf Hg Ho Hs I  In Ir K  Kr La Li Lr Lu Lv Mc Md Mg Mn Mo Mt "
    ++ (table "N  Na Nb Nd Ne Nh Ni No Np O  Og Os P  Pa Pb Pd Pm Po Pr Pt Pu "
    ++ (table "Ra Rb Re Rf Rg Rh Rn Ru S  Sb Sc Se Sg Si Sm Sn Sr Ta Tb Tc Te Th Ti Tl Tm Ts "
    ++ (table "U  V  W  Xe Y  Yb Zn Zr as b  c  n  o  p  s  se ")))))

unfoldable pub symbol_names : List Name
symbol_names = one (byte "G") ∷ known

pub data Symbol : Type 0 where
  short : (a : ℕ) → T (has1 a symbol_names) → Symbol
  long : (a b : ℕ) → T (has2 a b symbol_names) → Symbol

-- An isotope has at most three digits, or there is none.
pub data Isotope : Type 0 where
  iso0 : Isotope
  iso1 : Digit → Isotope
  iso2 : Digit → Digit → Isotope
  iso3 : Digit → Digit → Digit → Isotope

-- A mark is none, "@", "@@", or a template and its number: one digit from 1, or two from 10, up to the template's last.
pub data Class : Type 0 where
  Th AL SP TB OH : Class

unfoldable pub most : Class → ℕ
most Th = 2
most AL = 2
most SP = 3
most TB = 20
most OH = 30

unfoldable pub valid1 : Class → Digit → Bool
valid1 k d = pick (leb 1 (value d)) (leb (value d) (most k)) false

unfoldable pub valid2 : Class → Digit → Digit → Bool
valid2 k d e = pick (leb 1 (value d)) (leb (10 * value d + value e) (most k)) false

pub data Chiral : Type 0 where
  flat at atat : Chiral
  code1 : (k : Class) (d : Digit) → T (valid1 k d) → Chiral
  code2 : (k : Class) (d e : Digit) → T (valid2 k d e) → Chiral

-- Hydrogens are none, "H", or "H" and a digit.
pub data Hcount : Type 0 where
  bald : Hcount
  H : Hcount
  Hn : Digit → Hcount

-- What is in brackets before the charge.
pub data Head : Type 0 where
  head : Isotope → Symbol → Chiral → Hcount → Head

pub data Sign : Type 0 where
  plus minus : Sign

-- A charge's number is 1 to 9, or 11 to 15.
unfoldable pub okay1 : Digit → Bool
okay1 d = leb 1 (value d)

unfoldable pub okay2 : Digit → Digit → Bool
okay2 d e = pick (eqb (value d) 1) (pick (leb 1 (value e)) (leb (value e) 5) false) false

-- A charge is none, a sign, a sign twice, or a sign and a number.
pub data Charge : Type 0 where
  neutral : Charge
  sign : Sign → Charge
  twice : Sign → Charge
  num1 : Sign → (d : Digit) → T (okay1 d) → Charge
  num2 : Sign → (d e : Digit) → T (okay2 d e) → Charge

-- A map (OpenSMILES' class) is none, or a colon and one to three digits.
pub data Map : Type 0 where
  nomap : Map
  m1 : Digit → Map
  m2 : Digit → Digit → Map
  m3 : Digit → Digit → Digit → Map

-- An atom has no brackets, or has them around isotope, symbol, mark, hydrogens, charge and map.
pub data Atom : Type 0 where
  organic : Organic → Atom
  bracket : Head → Charge → Map → Atom

-- A ring number is a digit, or "%" and two.
pub data Rnum : Type 0 where
  ring1 : Digit → Rnum
  ring2 : Digit → Digit → Rnum

-- What comes before an atom is nothing, a bond, or a dot.
pub data Link : Type 0 where
  elided : Link
  bond : BondSign → Link
  dot : Link

-- A line is an atom; or a line and an atom by a link, a ring number with or without its bond, or a branch by a link.
pub data Line : Type 0 where
  start : Atom → Line
  link : Line → Link → Atom → Line
  ring : Line → Option BondSign → Rnum → Line
  branch : Line → Link → Line → Line

-- ---- SPELLING: the bytes of each part, one after another as its rule says
unfoldable pub digit_s : Digit → ℕ
digit_s d0 = byte "0"
digit_s d1 = byte "1"
digit_s d2 = byte "2"
digit_s d3 = byte "3"
digit_s d4 = byte "4"
digit_s d5 = byte "5"
digit_s d6 = byte "6"
digit_s d7 = byte "7"
digit_s d8 = byte "8"
digit_s d9 = byte "9"

unfoldable pub bond_s : BondSign → ℕ
bond_s single = byte "-"
bond_s double = byte "="
bond_s triple = byte "#"
bond_s quadruple = byte "$"
bond_s aromatic = byte ":"
bond_s up = byte "/"
bond_s down = byte "\\"

unfoldable pub organic_s : Organic → List ℕ
organic_s (bare1 a p) = a ∷ []
organic_s (bare2 a b p) = a ∷ b ∷ []

unfoldable pub symbol_s : Symbol → List ℕ
symbol_s (short a p) = a ∷ []
symbol_s (long a b p) = a ∷ b ∷ []

unfoldable pub isotope_s : Isotope → List ℕ
isotope_s iso0 = []
isotope_s (iso1 a) = digit_s a ∷ []
isotope_s (iso2 a b) = digit_s a ∷ digit_s b ∷ []
isotope_s (iso3 a b c) = digit_s a ∷ digit_s b ∷ digit_s c ∷ []

unfoldable pub class1 : Class → ℕ
class1 Th = byte "T"
class1 AL = byte "A"
class1 SP = byte "S"
class1 TB = byte "T"
class1 OH = byte "O"

unfoldable pub class2 : Class → ℕ
class2 Th = byte "H"
class2 AL = byte "L"
class2 SP = byte "P"
class2 TB = byte "B"
class2 OH = byte "H"

unfoldable pub chiral_s : Chiral → List ℕ
chiral_s flat = []
chiral_s at = byte "@" ∷ []
chiral_s atat = byte "@" ∷ byte "@" ∷ []
chiral_s (code1 k d p) = byte "@" ∷ class1 k ∷ class2 k ∷ digit_s d ∷ []
chiral_s (code2 k d e p) = byte "@" ∷ class1 k ∷ class2 k ∷ digit_s d ∷ digit_s e ∷ []

unfoldable pub hcount_s : Hcount → List ℕ
hcount_s bald = []
hcount_s H = byte "H" ∷ []
hcount_s (Hn d) = byte "H" ∷ digit_s d ∷ []

unfoldable pub head_s : Head → List ℕ
head_s (head i s c h) = isotope_s i ++ (symbol_s s ++ (chiral_s c ++ hcount_s h))

unfoldable pub sign_s : Sign → ℕ
sign_s plus = byte "+"
sign_s minus = byte "-"

unfoldable pub charge_s : Charge → List ℕ
charge_s neutral = []
charge_s (sign g) = sign_s g ∷ []
charge_s (twice g) = sign_s g ∷ sign_s g ∷ []
charge_s (num1 g d p) = sign_s g ∷ digit_s d ∷ []
charge_s (num2 g d e p) = sign_s g ∷ digit_s d ∷ digit_s e ∷ []

unfoldable pub map_s : Map → List ℕ
map_s nomap = []
map_s (m1 a) = byte ":" ∷ digit_s a ∷ []
map_s (m2 a b) = byte ":" ∷ digit_s a ∷ digit_s b ∷ []
map_s (m3 a b c) = byte ":" ∷ digit_s a ∷ digit_s b ∷ digit_s c ∷ []

unfoldable pub atom_s : Atom → List ℕ
atom_s (organic s) = organic_s s
atom_s (bracket x q m) = byte "[" ∷ (head_s x ++ (charge_s q ++ (map_s m ++ (byte "]" ∷ []))))

unfoldable pub rnum_s : Rnum → List ℕ
rnum_s (ring1 d) = digit_s d ∷ []
rnum_s (ring2 d e) = byte "%" ∷ digit_s d ∷ digit_s e ∷ []

unfoldable pub bond?s : Option BondSign → List ℕ
bond?s none = []
bond?s (some b) = bond_s b ∷ []

unfoldable pub link_s : Link → List ℕ
link_s elided = []
link_s (bond b) = bond_s b ∷ []
link_s dot = byte "." ∷ []

unfoldable pub spell : Line → List ℕ
spell (start a) = atom_s a
spell (link c l a) = spell c ++ (link_s l ++ atom_s a)
spell (ring c b r) = spell c ++ (bond?s b ++ rnum_s r)
spell (branch c l d) = spell c ++ (byte "(" ∷ (link_s l ++ (spell d ++ (byte ")" ∷ []))))

-- ---- MEANING: the kinds of atoms and bonds, and the reader's events
-- Digits after a number are worth ten times as much and the next one's value.
unfoldable pub worth : ℕ → List Digit → ℕ
worth n [] = n
worth n (d ∷ ds) = worth (n * 10 + value d) ds

-- A bond's kind; where no bond is written it is elided.
unfoldable pub bond_k : BondSign → BondKind
bond_k single = kind.Single
bond_k double = kind.Double
bond_k triple = kind.Triple
bond_k quadruple = kind.Quadruple
bond_k aromatic = kind.Aromatic
bond_k up = kind.Up
bond_k down = kind.Down

unfoldable pub bond?k : Option BondSign → BondKind
bond?k none = kind.Elided
bond?k (some b) = bond_k b

unfoldable pub link_k : Link → Lead
link_k elided = lead.Bond kind.Elided
link_k (bond b) = lead.Bond (bond_k b)
link_k dot = lead.Dot

-- A ring number's value: "%01" is 1.
unfoldable pub rnum_k : Rnum → ℕ
rnum_k (ring1 d) = value d
rnum_k (ring2 d e) = value d * 10 + value e

-- An atom without brackets is the star, or its name's place among the aromatic or the aliphatic ones.
unfoldable pub organic_k : Organic → AtomKind
organic_k (bare1 a p) =
    pick (eqb a (byte "*")) Star
    (pick (has1 a aromatics) (Aromatic (place1 a aromatics))
    (Aliphatic (place1 a aliphatics)))
organic_k (bare2 a b p) = Aliphatic (place2 a b aliphatics)

unfoldable pub isotope_k : Isotope → ℕ
isotope_k iso0 = no_number
isotope_k (iso1 a) = worth 0 (a ∷ [])
isotope_k (iso2 a b) = worth 0 (a ∷ b ∷ [])
isotope_k (iso3 a b c) = worth 0 (a ∷ b ∷ c ∷ [])

-- G is read as F: the departure "slip".
unfoldable pub symbol_k : Symbol → ℕ
symbol_k (short a p) = place_of (one_letter (pick (eqb a (byte "G")) (byte "F") a)) feature.names
symbol_k (long a b p) = place_of (two_letters a b) feature.names

-- A template's configurations are its base and their number, from 1.
unfoldable pub base : Class → ℕ
base Th = no_configuration
base AL = al
base SP = sp
base TB = tb
base OH = oh

-- "@" is TH1 and "@@" is TH2.
unfoldable pub chiral_k : Chiral → ℕ
chiral_k flat = no_configuration
chiral_k at = th1
chiral_k atat = th2
chiral_k (code1 k d p) = base k + value d
chiral_k (code2 k d e p) = base k + (value d * 10 + value e)

-- "H" is "H1".
unfoldable pub hcount_k : Hcount → ℕ
hcount_k bald = no_hydrogens
hcount_k H = 1
hcount_k (Hn d) = value d

-- A charge is held as so many above or below the number of no charge at all.
unfoldable pub signed : Sign → ℕ → ℕ
signed plus n = kinds.neutral_charge + n
signed minus n = kinds.neutral_charge - n

unfoldable pub charge_k : Charge → ℕ
charge_k neutral = no_charge
charge_k (sign g) = signed g 1
charge_k (twice g) = signed g 2
charge_k (num1 g d p) = signed g (value d)
charge_k (num2 g d e p) = signed g (10 * value d + value e)

unfoldable pub map_k : Map → ℕ
map_k nomap = no_number
map_k (m1 a) = worth 0 (a ∷ [])
map_k (m2 a b) = worth 0 (a ∷ b ∷ [])
map_k (m3 a b c) = worth 0 (a ∷ b ∷ c ∷ [])

unfoldable pub bracket_k : Head → Charge → Map → AtomKind
bracket_k (head i s c h) q m = Bracket (kinds.bracket_of_six (isotope_k i) (symbol_k s) (chiral_k c) (hcount_k h) (charge_k q) (map_k m))

unfoldable pub atom_k : Atom → AtomKind
atom_k (organic s) = organic_k s
atom_k (bracket x q m) = bracket_k x q m

-- An atom comes in by its link, at the place of its first byte.
unfoldable pub enter : Link → Atom → ℕ → ReadEvent
enter l a n = Enter (link_k l) (atom_k a) n

-- A ring number's place is its first byte, after its bond.
unfoldable pub join_event : Option BondSign → Rnum → ℕ → ReadEvent
join_event b r n = Join (bond?k b) (rnum_k r) n

-- The atoms along a line, its branches left out.
unfoldable pub atoms : Line → ℕ
atoms (start a) = 1
atoms (link c l a) = atoms c + 1
atoms (ring c b r) = atoms c
atoms (branch c l d) = atoms c

-- The events of a line that comes after a text and is entered by a link; a branch ends by leaving its atoms.
unfoldable pub tells : List ℕ → Link → Line → List ReadEvent
tells w l (start a) = enter l a (length w) ∷ []
tells w l (link c k a) = tells w l c ++ (enter k a (length (w ++ (spell c ++ link_s k))) ∷ [])
tells w l (ring c b r) = tells w l c ++ (join_event b r (length (w ++ (spell c ++ bond?s b))) ∷ [])
tells w l (branch c k d) = tells w l c ++ (tells (w ++ (spell c ++ (byte "(" ∷ link_s k))) k d ++ (Pop (atoms d) ∷ []))

-- A whole line begins as if after a dot.
unfoldable pub meaning : Line → List ReadEvent
meaning t = tells [] dot t
