-- Reading as a machine: a state is a tree in the making, and a byte moves it on or is refused. It is between the trees
-- and the reader's definition: what is proved of it by its trees carries over.
use mathlib.Core.List.{List, [], ◌∷◌}
use mathlib.Core.Option.{Option, none, some}
use mathlib.Core.Bool.{Bool, true, false}
use Prim.Native.Nat.{ℕ, suc}
use lib.Dec.{eqb, T}
use Rattle.feature.specs.Pick.{pick}
use Rattle.feature.specs.Text.{byte}
use Rattle.grammar.specs.Names.{Name, one, two, has1, has2}
use Rattle.grammar.specs.Grammar.{Digit, d0, d1, d2, d3, d4, d5, d6, d7, d8, d9, BondSign, single, double, triple, quadruple, aromatic, up, down, Organic, organics, bare1, bare2, symbol_names, Symbol, short, long, Isotope, iso0, iso1, iso2, iso3, Chiral, flat, at, atat, code1, code2, Class, Th, AL, SP, TB, OH, valid1, valid2, class1, bald, H, Hn, Head, head, Sign, plus, minus, sign_s, okay1, okay2, Charge, neutral, sign, twice, num1, num2, Map, nomap, m1, m2, m3, Atom, organic, bracket, ring1, ring2, Link, elided, bond, dot, Line, start, link, ring, branch}

-- a test that hands on its evidence
abbrev pub test : {X : Type 0} (t : Bool) → (T t → X) → X → X
test true f y = f tt
test false f y = y

-- some name begins so
unfoldable pub leads : ℕ → List Name → Bool
leads a [] = false
leads a (one x ∷ l) = pick (eqb a x) true (leads a l)
leads a (two x y ∷ l) = pick (eqb a x) true (leads a l)

abbrev pub on {ℓ} : {A : Type 0} {X : Type ℓ} → Option A → (A → X) → X → X
on none f y = y
on (some a) f y = f a

unfoldable pub digit_of : ℕ → Option Digit
digit_of b =
    pick (eqb b 48) (some d0) (pick (eqb b 49) (some d1) (pick (eqb b 50) (some d2) (pick (eqb b 51) (some d3) (pick (eqb b 52) (some d4)
    (pick (eqb b 53) (some d5) (pick (eqb b 54) (some d6) (pick (eqb b 55) (some d7) (pick (eqb b 56) (some d8) (pick (eqb b 57) (some d9) none)))))))))

unfoldable pub bond_of : ℕ → Option BondSign
bond_of b = pick (eqb b 45) (some single) (pick (eqb b (byte "=")) (some double) (pick (eqb b (byte "#")) (some triple) (pick (eqb b 36) (some quadruple) (pick (eqb b 58) (some aromatic) (pick (eqb b 47) (some up) (pick (eqb b 92) (some down) none))))))

unfoldable pub sign_of : ℕ → Option Sign
sign_of b = pick (eqb b 43) (some plus) (pick (eqb b 45) (some minus) none)

-- the class of two letters; a first letter of a class
unfoldable pub class_of : ℕ → ℕ → Option Class
class_of a b =
    pick (eqb a (byte "T")) (pick (eqb b (byte "B")) (some TB) (pick (eqb b (byte "H")) (some Th) none))
    (pick (eqb a (byte "A")) (pick (eqb b (byte "L")) (some AL) none)
    (pick (eqb a (byte "S")) (pick (eqb b (byte "P")) (some SP) none)
    (pick (eqb a (byte "O")) (pick (eqb b (byte "H")) (some OH) none) none)))

unfoldable pub fam_of : ℕ → Option Class
fam_of a = pick (eqb a (byte "A")) (some AL) (pick (eqb a (byte "O")) (some OH) (pick (eqb a (byte "S")) (some SP) (pick (eqb a (byte "T")) (some Th) none)))

-- an atom in the making
pub data Part : Type 0 where
  bare : (a : ℕ) → T (leads a organics) → Part  -- the first letter of an atom without brackets
  whole : Organic → Part  -- both letters
  isotope : Isotope → Part  -- (byte "[") isotope
  lead : Isotope → (a : ℕ) → T (leads a symbol_names) → Part  -- (byte "[") isotope and a symbol's first letter
  symbol : Isotope → Symbol → Part
  chiral1 : Isotope → Symbol → Part  -- .. '@'
  chiral2 : Isotope → Symbol → Part  -- .. '@@'
  family : Isotope → Symbol → Class → Part  -- .. '@' and the first letter of a class
  class : Isotope → Symbol → Class → Part  -- .. '@Th'
  coded1 : Isotope → Symbol → (k : Class) (d : Digit) → T (valid1 k d) → Part
  coded2 : Isotope → Symbol → (k : Class) (d e : Digit) → T (valid2 k d e) → Part
  hcount : Isotope → Symbol → Chiral → Part  -- .. (byte "H")
  hcount_n : Isotope → Symbol → Chiral → Digit → Part  -- .. (byte "H") DIGIT
  signed : Head → Sign → Part
  doubled : Head → Sign → Part
  charge1 : Head → Sign → (d : Digit) → T (okay1 d) → Part
  charge2 : Head → Sign → (d e : Digit) → T (okay2 d e) → Part
  colon : Head → Charge → Part
  map1 : Head → Charge → Digit → Part
  map2 : Head → Charge → Digit → Digit → Part
  map3 : Head → Charge → Digit → Digit → Digit → Part
  closed : Head → Charge → Map → Part

unfoldable pub begins : ℕ → Option Part
begins b = test (leads b organics) (λ p. some (bare b p)) (pick (eqb b (byte "[")) (some (isotope iso0)) none)

unfoldable pub grow : Isotope → Digit → Option Part
grow iso0 d = some (isotope (iso1 d))
grow (iso1 a) d = some (isotope (iso2 a d))
grow (iso2 a b) d = some (isotope (iso3 a b d))
grow (iso3 a b c) d = none

unfoldable pub to_close : Head → Charge → Map → ℕ → Option Part
to_close x q m b = pick (eqb b (byte "]")) (some (closed x q m)) none

unfoldable pub to_map : Head → Charge → ℕ → Option Part
to_map x q b = pick (eqb b (byte ":")) (some (colon x q)) (to_close x q nomap b)

unfoldable pub to_charge : Head → ℕ → Option Part
to_charge x b = on (sign_of b) (λ g. some (signed x g)) (to_map x neutral b)

unfoldable pub to_hcount : Isotope → Symbol → Chiral → ℕ → Option Part
to_hcount i s c b = pick (eqb b (byte "H")) (some (hcount i s c)) (to_charge (head i s c bald) b)

unfoldable pub to_chiral : Isotope → Symbol → ℕ → Option Part
to_chiral i s b = pick (eqb b (byte "@")) (some (chiral1 i s)) (to_hcount i s flat b)

unfoldable pub to_symbol : Isotope → ℕ → Option Part
to_symbol i b = test (leads b symbol_names) (λ p. some (lead i b p)) none

unfoldable pub part_step : Part → ℕ → Option Part
part_step (bare a p) b = test (has2 a b organics) (λ q. some (whole (bare2 a b q))) none
part_step (whole s) b = none
part_step (isotope i) b = on (digit_of b) (grow i) (to_symbol i b)
part_step (lead i a p) b = test (has2 a b symbol_names) (λ q. some (symbol i (long a b q))) (test (has1 a symbol_names) (λ q. to_chiral i (short a q) b) none)
part_step (symbol i s) b = to_chiral i s b
part_step (chiral1 i s) b = pick (eqb b (byte "@")) (some (chiral2 i s)) (on (fam_of b) (λ k. some (family i s k)) (to_hcount i s at b))
part_step (family i s k) b = on (class_of (class1 k) b) (λ c. some (class i s c)) none
part_step (class i s k) b = on (digit_of b) (λ d. test (valid1 k d) (λ p. some (coded1 i s k d p)) none) none
part_step (coded1 i s k d p) b = on (digit_of b) (λ e. test (valid2 k d e) (λ q. some (coded2 i s k d e q)) none) (to_hcount i s (code1 k d p) b)
part_step (coded2 i s k d e p) b = to_hcount i s (code2 k d e p) b
part_step (chiral2 i s) b = to_hcount i s atat b
part_step (hcount i s c) b = on (digit_of b) (λ d. some (hcount_n i s c d)) (to_charge (head i s c H) b)
part_step (hcount_n i s c d) b = to_charge (head i s c (Hn d)) b
part_step (signed x g) b = on (digit_of b) (λ d. test (okay1 d) (λ p. some (charge1 x g d p)) none) (pick (eqb b (sign_s g)) (some (doubled x g)) (to_map x (sign g) b))
part_step (doubled x g) b = to_map x (twice g) b
part_step (charge1 x g d p) b = on (digit_of b) (λ e. test (okay2 d e) (λ q. some (charge2 x g d e q)) none) (to_map x (num1 g d p) b)
part_step (charge2 x g d e p) b = to_map x (num2 g d e p) b
part_step (colon x q) b = on (digit_of b) (λ d. some (map1 x q d)) none
part_step (map1 x q a) b = on (digit_of b) (λ d. some (map2 x q a d)) (to_close x q (m1 a) b)
part_step (map2 x q a c) b = on (digit_of b) (λ d. some (map3 x q a c d)) (to_close x q (m2 a c) b)
part_step (map3 x q a c d) b = to_close x q (m3 a c d) b
part_step (closed x q m) b = none

unfoldable pub part_end : Part → Option Atom
part_end (bare a p) = test (has1 a organics) (λ q. some (organic (bare1 a q))) none
part_end (whole s) = some (organic s)
part_end (isotope i) = none
part_end (lead i a p) = none
part_end (symbol i s) = none
part_end (chiral1 i s) = none
part_end (chiral2 i s) = none
part_end (family i s k) = none
part_end (class i s k) = none
part_end (coded1 i s k d p) = none
part_end (coded2 i s k d e p) = none
part_end (hcount i s c) = none
part_end (hcount_n i s c d) = none
part_end (signed x g) = none
part_end (doubled x g) = none
part_end (charge1 x g d p) = none
part_end (charge2 x g d e p) = none
part_end (colon x q) = none
part_end (map1 x q a) = none
part_end (map2 x q a b) = none
part_end (map3 x q a b c) = none
part_end (closed x q m) = some (bracket x q m)

-- the lines that are open around this one: the line that bears the branch, and the branch's link
pub data Around : Type 0 where
  top : Around
  inside : Around → Line → Link → Around

-- where an atom is to come: it begins a line, or goes on with one
pub data Where : Type 0 where
  begin : Around → Where
  after : Around → Line → Link → Where

unfoldable pub around : Where → Around
around (begin k) = k
around (after k c l) = k

unfoldable pub put : Where → Atom → Line
put (begin k) a = start a
put (after k c l) a = link c l a

pub data State : Type 0 where
  want : Where → State  -- an atom must come here
  in_atom : Where → Part → State
  body : Around → Line → State  -- after an atom, a ring number or a branch
  percent : Around → Line → Option BondSign → State
  percent1 : Around → Line → Option BondSign → Digit → State

unfoldable pub from_part : Where → Option Part → Option State
from_part w none = none
from_part w (some q) = some (in_atom w q)

unfoldable pub shut : Around → Line → Option State
shut top d = none
shut (inside k c l) d = some (body k (branch c l d))

unfoldable pub body_step : Around → Line → ℕ → Option State
body_step k c b =
    on (digit_of b) (λ d. some (body k (ring c none (ring1 d))))
    (pick (eqb b (byte "%")) (some (percent k c none))
    (on (bond_of b) (λ x. some (want (after k c (bond x))))
    (pick (eqb b (byte ".")) (some (want (after k c dot)))
    (pick (eqb b (byte "(")) (some (want (begin (inside k c elided))))
    (on (begins b) (λ q. some (in_atom (after k c elided) q)) (pick (eqb b (byte ")")) (shut k c) none))))))

unfoldable pub want_step : Where → ℕ → Option State
want_step (begin top) b = from_part (begin top) (begins b)
want_step (begin (inside k c elided)) b =
    on (bond_of b) (λ x. some (want (begin (inside k c (bond x)))))
    (pick (eqb b (byte ".")) (some (want (begin (inside k c dot)))) (from_part (begin (inside k c elided)) (begins b)))
want_step (begin (inside k c (bond x))) b = from_part (begin (inside k c (bond x))) (begins b)
want_step (begin (inside k c dot)) b = from_part (begin (inside k c dot)) (begins b)
want_step (after k c elided) b = from_part (after k c elided) (begins b)
want_step (after k c dot) b = from_part (after k c dot) (begins b)
want_step (after k c (bond x)) b =
    on (digit_of b) (λ d. some (body k (ring c (some x) (ring1 d))))
    (pick (eqb b (byte "%")) (some (percent k c (some x))) (from_part (after k c (bond x)) (begins b)))

unfoldable pub atom_step : Where → Option Part → Option Atom → ℕ → Option State
atom_step w (some q) e b = some (in_atom w q)
atom_step w none (some a) b = body_step (around w) (put w a) b
atom_step w none none b = none

unfoldable pub step : State → ℕ → Option State
step (want w) b = want_step w b
step (in_atom w q) b = atom_step w (part_step q b) (part_end q) b
step (body k c) b = body_step k c b
step (percent k c x) b = on (digit_of b) (λ d. some (percent1 k c x d)) none
step (percent1 k c x d) b = on (digit_of b) (λ e. some (body k (ring c x (ring2 d e)))) none

unfoldable pub topmost : Around → Line → Option Line
topmost top c = some c
topmost (inside k d l) c = none

unfoldable pub atom_end : Where → Option Atom → Option Line
atom_end w none = none
atom_end w (some a) = topmost (around w) (put w a)

unfoldable pub ending : State → Option Line
ending (want w) = none
ending (in_atom w q) = atom_end w (part_end q)
ending (body k c) = topmost k c
ending (percent k c x) = none
ending (percent1 k c x d) = none

pub data Answer : Type 0 where
  done : Line → Answer
  end_of_line : Answer
  character : ℕ → Answer

unfoldable pub finished : Option Line → Answer
finished none = end_of_line
finished (some t) = done t

unfoldable pub next : Option State → ℕ → (State → Answer) → Answer
next none n f = character n
next (some s) n f = f s

unfoldable pub go : State → ℕ → List ℕ → Answer
go s n [] = finished (ending s)
go s n (b ∷ bs) = next (step s b) n (λ t. go t (suc n) bs)

unfoldable pub read : List ℕ → Answer
read bs = go (want (begin top)) 0 bs
