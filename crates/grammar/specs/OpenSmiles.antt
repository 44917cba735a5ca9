-- OpenSMILES, rule by rule: its own tables, its own trees, their spelling and what they say; and where the lines that are
-- read depart from it, each departure by its name in the list of differences. Written from a summary of its rules. What both have
-- is in Grammar alone, and is taken from there: digits, bonds, links, ring numbers, hydrogen counts, signs, the letters of the
-- templates, how each of these is spelled, and which kind a name or a number stands for. The names, the templates' last numbers and
-- the digits of numbers and charges are its own.
use Rattle.std.specs.Prelude.{ℕ, ◌+◌, ◌-◌, ◌*◌, ◌≤◌, List, [], ◌∷◌, ◌++◌, Bool, true, false, T, eqb, leb, length}
use Rattle.std.proofs.Math.Option.{Option}
use Rattle.feature.specs.Pick.{pick, both}
use Rattle.feature.specs.Text.{byte}
use Rattle.feature.specs.Kinds.{no_number, no_charge, no_configuration, th1, th2}
use Rattle.feature.specs.Kinds as kinds
use Rattle.feature.specs.declared.atom_kind.AtomKind.{AtomKind}
use Rattle.feature.specs.declared.atom_kind.AtomKind.TheVariants.{Bracket}
use Rattle.read_line.specs.Events.{ReadEvent, Enter, Pop}
use Rattle.grammar.specs.Names.{Name, table, has1, has2}
use Rattle.grammar.specs.Grammar.{Digit, value, digit_s, worth, BondSign, bond?s, Organic, bare1, bare2, organic_s, organic_k, Symbol, short, long, symbol_s, symbol_k, Class, Th, AL, SP, TB, OH, class1, class2, valid1, valid2, base, Hcount, bald, H, Hn, hcount_s, hcount_k, head, Sign, sign_s, signed, okay1, okay2, Atom, organic, bracket, Rnum, rnum_s, Link, link_s, link_k, Line, start, link, ring, branch, join_event, dot}

-- ---- TABLES
-- Without brackets: aliphatic_organic, aromatic_organic, "*". Departure "bare At, Ts": the reader takes these two as well.
unfoldable pub open_organics : List Name
open_organics = table "B  C  N  O  S  P  F  Cl Br I  b  c  n  o  s  p  *  "

-- In brackets: the elements of the 1.0 text, the aromatic symbols, "*". Departures "new elements" (Nh Mc Ts Og) and "slip" (G):
-- the reader takes these as well.
unfoldable pub open_names : List Name
open_names =
    table "H  He Li Be B  C  N  O  F  Ne Na Mg Al Si P  S  Cl Ar K  Ca Sc Ti V  Cr Mn Fe Co Ni Cu Zn Ga Ge As Se Br Kr "
    ++ (table "Rb Sr Y  Zr Nb Mo Tc Ru Rh Pd Ag Cd In Sn Sb Te I  Xe Cs Ba La Ce Pr Nd Pm Sm Eu Gd Tb Dy Ho Er Tm Yb Lu "
    ++ (table "Hf Ta W  Re Os Ir Pt Au Hg Tl Pb Bi Po At Rn Fr Ra Ac Th Pa U  Np Pu Am Cm Bk Cf Es Fm Md No Lr "
    ++ (table "Rf Db Sg Bh Hs Mt Ds Rg Cn Fl Lv b  c  n  o  p  s  se as *  ")))

unfoldable pub OpenOrganic : Organic → Type 0
OpenOrganic (bare1 a p) = T (has1 a open_organics)
OpenOrganic (bare2 a b p) = T (has2 a b open_organics)

-- Departure "counted hydrogen": a hydrogen bears no hydrogen count (rests on our reading); the reader takes "[HH]".
unfoldable pub uncounted : Hcount → Bool
uncounted bald = true
uncounted H = false
uncounted (Hn d) = false

unfoldable pub OpenSymbol : Symbol → Hcount → Type 0
OpenSymbol (short a p) h = T (both (has1 a open_names) (pick (eqb a (byte "H")) (uncounted h) true))
OpenSymbol (long a b p) h = T (has2 a b open_names)

-- ---- SYNTAX
-- charge ::= '-' | '-' DIGIT? DIGIT | '+' | '+' DIGIT? DIGIT | '--' | '++', or nothing
pub data Charge' : Type 0 where
  neutral' : Charge'
  sign' : Sign → Charge'
  twice' : Sign → Charge'
  digit' : Sign → Digit → Charge'
  digits' : Sign → Digit → Digit → Charge'

-- chiral ::= '@' | '@@' | '@TH1' | .. | '@OH30', each template with the numbers of its arrangements; and '@TB' DIGIT DIGIT |
-- '@OH' DIGIT DIGIT, two digits as written, so that "@TB01" is one too (rests on our reading); or nothing
unfoldable pub arrangements : Class → ℕ
arrangements Th = 2
arrangements AL = 2
arrangements SP = 3
arrangements TB = 20
arrangements OH = 30

unfoldable pub named1 : Class → Digit → Bool
named1 k d = pick (leb 1 (value d)) (leb (value d) (arrangements k)) false

unfoldable pub named2 : Class → Digit → Digit → Bool
named2 k d e = pick (leb 1 (value d)) (leb (10 * value d + value e) (arrangements k)) false

unfoldable pub paired : Class → Bool
paired Th = false
paired AL = false
paired SP = false
paired TB = true
paired OH = true

pub data Chiral' : Type 0 where
  flat' at' atat' : Chiral'
  code1' : (k : Class) (d : Digit) → T (named1 k d) → Chiral'
  code2' : (k : Class) (d e : Digit) → T (named2 k d e) → Chiral'
  pair' : (k : Class) → T (paired k) → Digit → Digit → Chiral'

-- bracket_atom ::= '[' isotope? symbol chiral? hcount? charge? class? ']'; isotope and class have any number of digits.
pub data Atom' : Type 0 where
  organic' : (o : Organic) → OpenOrganic o → Atom'
  bracket' : List Digit → (s : Symbol) → Chiral' → (h : Hcount) → OpenSymbol s h → Charge' → List Digit → Atom'

-- ringbond*
pub data Rings : Type 0 where
  no_rings : Rings
  and_ring : Rings → Option BondSign → Rnum → Rings

mutual
  -- chain ::= branched_atom | chain branched_atom | chain bond branched_atom | chain dot branched_atom
  pub data Chain : Type 0 where
    first : Branched → Chain
    then : Chain → Link → Branched → Chain

  -- branched_atom ::= atom ringbond* branch*
  pub data Branched : Type 0 where
    branched : Atom' → Rings → Branches → Branched

  -- branch* with branch ::= '(' chain ')' | '(' bond chain ')' | '(' dot chain ')'
  pub data Branches : Type 0 where
    no_branches : Branches
    and_branch : Branches → Link → Chain → Branches

-- line ::= chain? terminator, and what comes after it is no part of the line. Departures "empty line" and "terminator": the
-- reader wants a chain, and nothing after it but the end.
pub data Terminator : Type 0 where
  space tab feed return : Terminator

unfoldable pub terminator_s : Terminator → ℕ
terminator_s space = byte " "
terminator_s tab = 9
terminator_s feed = 10
terminator_s return = 13

-- ---- SPELLING
unfoldable pub digits_s : List Digit → List ℕ
digits_s [] = []
digits_s (d ∷ ds) = digit_s d ∷ digits_s ds

unfoldable pub chiral_s' : Chiral' → List ℕ
chiral_s' flat' = []
chiral_s' at' = byte "@" ∷ []
chiral_s' atat' = byte "@" ∷ byte "@" ∷ []
chiral_s' (code1' k d p) = byte "@" ∷ class1 k ∷ class2 k ∷ digit_s d ∷ []
chiral_s' (code2' k d e p) = byte "@" ∷ class1 k ∷ class2 k ∷ digit_s d ∷ digit_s e ∷ []
chiral_s' (pair' k w d e) = byte "@" ∷ class1 k ∷ class2 k ∷ digit_s d ∷ digit_s e ∷ []

unfoldable pub charge_s' : Charge' → List ℕ
charge_s' neutral' = []
charge_s' (sign' g) = sign_s g ∷ []
charge_s' (twice' g) = sign_s g ∷ sign_s g ∷ []
charge_s' (digit' g d) = sign_s g ∷ digit_s d ∷ []
charge_s' (digits' g d e) = sign_s g ∷ digit_s d ∷ digit_s e ∷ []

unfoldable pub class_s' : List Digit → List ℕ
class_s' [] = []
class_s' (d ∷ ds) = byte ":" ∷ digits_s (d ∷ ds)

unfoldable pub atom_s' : Atom' → List ℕ
atom_s' (organic' o k) = organic_s o
atom_s' (bracket' i s c h k q m) = byte "[" ∷ (digits_s i ++ (symbol_s s ++ (chiral_s' c ++ (hcount_s h ++ (charge_s' q ++ (class_s' m ++ (byte "]" ∷ [])))))))

unfoldable pub rings_s : Rings → List ℕ
rings_s no_rings = []
rings_s (and_ring rs b r) = rings_s rs ++ (bond?s b ++ rnum_s r)

unfoldable mutual
  pub chain_s : Chain → List ℕ
  chain_s (first b) = branched_s b
  chain_s (then c l b) = chain_s c ++ (link_s l ++ branched_s b)

  pub branched_s : Branched → List ℕ
  branched_s (branched a rs bs) = atom_s' a ++ (rings_s rs ++ branches_s bs)

  pub branches_s : Branches → List ℕ
  branches_s no_branches = []
  branches_s (and_branch bs l c) = branches_s bs ++ (byte "(" ∷ (link_s l ++ (chain_s c ++ (byte ")" ∷ []))))

-- ---- MEANING
-- A number is worth its digits, so "@TB01" is "@TB1" and "+01" is "+1". "@" is TH1 and "@@" TH2: departure "allenes", where
-- OpenSMILES means AL1 and AL2 on an allene-like centre.
unfoldable pub number_k : List Digit → ℕ
number_k [] = no_number
number_k (d ∷ ds) = worth 0 (d ∷ ds)

unfoldable pub chiral_k' : Chiral' → ℕ
chiral_k' flat' = no_configuration
chiral_k' at' = th1
chiral_k' atat' = th2
chiral_k' (code1' k d p) = base k + value d
chiral_k' (code2' k d e p) = base k + (value d * 10 + value e)
chiral_k' (pair' k w d e) = base k + (value d * 10 + value e)

unfoldable pub charge_k' : Charge' → ℕ
charge_k' neutral' = no_charge
charge_k' (sign' g) = signed g 1
charge_k' (twice' g) = signed g 2
charge_k' (digit' g d) = signed g (value d)
charge_k' (digits' g d e) = signed g (10 * value d + value e)

unfoldable pub atom_k' : Atom' → AtomKind
atom_k' (organic' o k) = organic_k o
atom_k' (bracket' i s c h k q m) = Bracket (kinds.bracket_of_six (number_k i) (symbol_k s) (chiral_k' c) (hcount_k h) (charge_k' q) (number_k m))

-- The atoms along a chain, its branches left out.
unfoldable pub along : Chain → ℕ
along (first b) = 1
along (then c l b) = along c + 1

unfoldable pub rings_e : List ℕ → Rings → List ReadEvent
rings_e w no_rings = []
rings_e w (and_ring rs b r) = rings_e w rs ++ (join_event b r (length (w ++ (rings_s rs ++ bond?s b))) ∷ [])

-- An atom by its link, then its ring numbers, then its branches, then the atom that follows; each after the text before it.
unfoldable mutual
  pub chain_e : List ℕ → Link → Chain → List ReadEvent
  chain_e w l (first b) = branched_e w l b
  chain_e w l (then c k b) = chain_e w l c ++ branched_e (w ++ (chain_s c ++ link_s k)) k b

  pub branched_e : List ℕ → Link → Branched → List ReadEvent
  branched_e w l (branched a rs bs) = Enter (link_k l) (atom_k' a) (length w) ∷ (rings_e (w ++ atom_s' a) rs ++ branches_e (w ++ (atom_s' a ++ rings_s rs)) bs)

  pub branches_e : List ℕ → Branches → List ReadEvent
  branches_e w no_branches = []
  branches_e w (and_branch bs l c) = branches_e w bs ++ (chain_e (w ++ (branches_s bs ++ (byte "(" ∷ link_s l))) l c ++ (Pop (along c) ∷ []))

unfoldable pub says : Chain → List ReadEvent
says u = chain_e [] dot u

-- ---- WHAT OPENSMILES HAS AND THE READER REFUSES
-- Departures "charge zero", "charge ten", "charge above fifteen", "charge with a leading zero": these charges are not read.
unfoldable pub SmallCharge : Charge' → Type 0
SmallCharge neutral' = Unit {0}
SmallCharge (sign' g) = Unit {0}
SmallCharge (twice' g) = Unit {0}
SmallCharge (digit' g d) = T (okay1 d)
SmallCharge (digits' g d e) = T (okay2 d e)

-- Departures "leading zero" and "no arrangement": "@TB01" is not read, nor is a number that no arrangement has, as in "@TB00",
-- "@TB21" and "@OH31". The numbers of the arrangements are read, all of them.
unfoldable pub SmallChiral : Chiral' → Type 0
SmallChiral flat' = Unit {0}
SmallChiral at' = Unit {0}
SmallChiral atat' = Unit {0}
SmallChiral (code1' k d p) = T (valid1 k d)
SmallChiral (code2' k d e p) = T (valid2 k d e)
SmallChiral (pair' k w d e) = T (valid2 k d e)

-- Departures "long isotope" and "long map": at most three digits are read.
unfoldable pub SmallAtom : Atom' → Type 0
SmallAtom (organic' o k) = Unit {0}
SmallAtom (bracket' i s c h k q m) = (length i ≤ 3) × SmallCharge q × (length m ≤ 3) × SmallChiral c

-- A chain whose numbers are read.
unfoldable mutual
  pub Small : Chain → Type 0
  Small (first b) = SmallBranched b
  Small (then c l b) = Small c × SmallBranched b

  pub SmallBranched : Branched → Type 0
  SmallBranched (branched a rs bs) = SmallAtom a × SmallBranches bs

  pub SmallBranches : Branches → Type 0
  SmallBranches no_branches = Unit {0}
  SmallBranches (and_branch bs l c) = SmallBranches bs × Small c

-- At most so many of a chain's branches are open at once: OpenSMILES sets no limit, the reader's is added.
unfoldable mutual
  pub FitsChain : ℕ → Chain → Type 0
  FitsChain room (first b) = FitsBranched room b
  FitsChain room (then c l b) = FitsChain room c × FitsBranched room b

  pub FitsBranched : ℕ → Branched → Type 0
  FitsBranched room (branched a rs bs) = FitsBranches room bs

  pub FitsBranches : ℕ → Branches → Type 0
  FitsBranches room no_branches = Unit {0}
  FitsBranches room (and_branch bs l c) = FitsBranches room bs × (1 ≤ room) × FitsChain (room - 1) c

-- ---- WHAT THE READER HAS AND OPENSMILES LACKS
-- Departure "ring after branch": a ring number comes before an atom's branches.
unfoldable pub NoBranch : Line → Type 0
NoBranch (start a) = Unit {0}
NoBranch (link c l a) = Unit {0}
NoBranch (ring c b r) = Unit {0}
NoBranch (branch c l d) = ⊥

-- Departures "bare At, Ts", "new elements", "slip", "counted hydrogen": see the tables.
unfoldable pub StrictAtom : Atom → Type 0
StrictAtom (organic o) = OpenOrganic o
StrictAtom (bracket (head i s c h) q m) = OpenSymbol s h

-- A line that is OpenSMILES.
unfoldable pub Strict : Line → Type 0
Strict (start a) = StrictAtom a
Strict (link c l a) = Strict c × StrictAtom a
Strict (ring c b r) = Strict c × NoBranch c
Strict (branch c l d) = Strict c × Strict d
