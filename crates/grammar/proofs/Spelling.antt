-- What a tree or a chain spells is bytes. Assumes nothing.
use Prim.Native.Nat.{ℕ, ◌<◌}
use mathlib.Core.Path.{◌≡◌, refl, sym, subst}
use mathlib.Core.List.{List, [], ◌∷◌, ◌++◌}
use mathlib.Core.Option.{Option, none, some}
use mathlib.Core.Bool.{Bool, true, false}
use native.Mathlib.Omega.{arith}
use lib.Dec.{T, eqb, ltb, ltb→lt}
use borrow.Author.Tests.{eqb-true}
use Rattle.feature.specs.Pick.{pick, both}
use Rattle.feature.proofs.Table.{both_left, both_right}
use Rattle.grammar.specs.Names.{Name, one, two, has1, has2}
use Rattle.grammar.specs.Grammar.{Digit, d0, d1, d2, d3, d4, d5, d6, d7, d8, d9, digit_s, BondSign, single, double, triple, quadruple, aromatic, up, down, bond_s, Organic, bare1, bare2, organics, organic_s, Symbol, short, long, symbol_names, known, symbol_s, Isotope, iso0, iso1, iso2, iso3, isotope_s, Chiral, flat, at, atat, code1, code2, Class, Th, AL, SP, TB, OH, class1, class2, chiral_s, Hcount, bald, H, Hn, hcount_s, Head, head, head_s, Sign, plus, minus, sign_s, Charge, neutral, sign, twice, num1, num2, charge_s, Map, nomap, m1, m2, m3, map_s, Atom, organic, bracket, atom_s, Rnum, ring1, ring2, rnum_s, bond?s, Link, elided, bond, dot, link_s, Line, start, link, ring, branch, spell}
use Rattle.grammar.specs.Lines.{Bytes}
use Rattle.grammar.specs.OpenSmiles.{Chiral', flat', at', atat', code1', code2', pair', chiral_s', Charge', neutral', sign', twice', digit', digits', Atom', organic', bracket', Rings, no_rings, and_ring, Chain, first, then, Branched, branched, Branches, no_branches, and_branch, digits_s, charge_s', class_s', atom_s', rings_s, chain_s, branched_s, branches_s}

bytes_append : (xs ys : List ℕ) → Bytes xs → Bytes ys → Bytes (xs ++ ys)
unfolding Bytes
bytes_append [] ys h k = k
bytes_append (x ∷ xs) ys h k = (h.0, bytes_append xs ys h.1 k)

-- ---- names: what holds of each letter of a table
unfoldable pub all_of : (ℕ → Bool) → List Name → Bool
all_of f [] = true
all_of f (one x ∷ l) = both (f x) (all_of f l)
all_of f (two x y ∷ l) = both (f x) (both (f y) (all_of f l))

module _ (f : ℕ → Bool) where
  pub has1_all : (l : List Name) → T (all_of f l) → (a : ℕ) → T (has1 a l) → T (f a)
  unfolding all_of has1
  has1_all [] t a p = absurd p
  has1_all (one x ∷ l) t a p = by (eqb a x) refl p (has1_all l (both_right (f x) (all_of f l) t) a)
    where
      by : (u : Bool) → eqb a x ≡ u → T (pick u true (has1 a l)) → (T (has1 a l) → T (f a)) → T (f a)
      by true e q g = subst (λ (y : ℕ). T (f y)) (sym (eqb-true a x e)) (both_left (f x) (all_of f l) t)
      by false e q g = g q
  has1_all (two x y ∷ l) t a p = has1_all l (both_right (f y) (all_of f l) (both_right (f x) (both (f y) (all_of f l)) t)) a p

  pub has2_all : (l : List Name) → T (all_of f l) → (a b : ℕ) → T (has2 a b l) → T (f a) × T (f b)
  unfolding all_of has2
  has2_all [] t a b p = absurd p
  has2_all (one x ∷ l) t a b p = has2_all l (both_right (f x) (all_of f l) t) a b p
  has2_all (two x y ∷ l) t a b p =
      by (eqb a x) (eqb b y) refl refl p (has2_all l (both_right (f y) (all_of f l) (both_right (f x) (both (f y) (all_of f l)) t)) a b)
    where
      by : (u v : Bool) → eqb a x ≡ u → eqb b y ≡ v → T (pick u (pick v true (has2 a b l)) (has2 a b l)) → (T (has2 a b l) → T (f a) × T (f b)) → T (f a) × T (f b)
      by true true e g q k = (
        subst (λ (z : ℕ). T (f z)) (sym (eqb-true a x e)) (both_left (f x) (both (f y) (all_of f l)) t),
        subst (λ (z : ℕ). T (f z)) (sym (eqb-true b y g)) (both_left (f y) (all_of f l) (both_right (f x) (both (f y) (all_of f l)) t)),
      )
      by true false e g q k = k q
      by false v e g q k = k q

is_byte : ℕ → Bool
is_byte x = ltb x 256

byte_small : (x : ℕ) → T (is_byte x) → x < 256
unfolding is_byte
byte_small x t = ltb→lt x 256 t

organic_bytes : (o : Organic) → Bytes (organic_s o)
unfolding Bytes organic_s all_of organics is_byte
organic_bytes (bare1 a p) = (byte_small a (has1_all is_byte organics tt a p), tt)
organic_bytes (bare2 a b p) = let h = has2_all is_byte organics tt a b p in (byte_small a h.0, (byte_small b h.1, tt))

symbol_bytes : (y : Symbol) → Bytes (symbol_s y)
unfolding Bytes symbol_s all_of symbol_names known is_byte
symbol_bytes (short a p) = (byte_small a (has1_all is_byte symbol_names tt a p), tt)
symbol_bytes (long a b p) = let h = has2_all is_byte symbol_names tt a b p in (byte_small a h.0, (byte_small b h.1, tt))

-- ---- single bytes
digit_byte : (d : Digit) → digit_s d < 256
unfolding digit_s
digit_byte d0 = omega arith
digit_byte d1 = omega arith
digit_byte d2 = omega arith
digit_byte d3 = omega arith
digit_byte d4 = omega arith
digit_byte d5 = omega arith
digit_byte d6 = omega arith
digit_byte d7 = omega arith
digit_byte d8 = omega arith
digit_byte d9 = omega arith

bond_byte : (x : BondSign) → bond_s x < 256
unfolding bond_s
bond_byte single = omega arith
bond_byte double = omega arith
bond_byte triple = omega arith
bond_byte quadruple = omega arith
bond_byte aromatic = omega arith
bond_byte up = omega arith
bond_byte down = omega arith

sign_byte : (g : Sign) → sign_s g < 256
unfolding sign_s
sign_byte plus = omega arith
sign_byte minus = omega arith

class1_byte : (k : Class) → class1 k < 256
unfolding class1
class1_byte Th = omega arith
class1_byte AL = omega arith
class1_byte SP = omega arith
class1_byte TB = omega arith
class1_byte OH = omega arith

class2_byte : (k : Class) → class2 k < 256
unfolding class2
class2_byte Th = omega arith
class2_byte AL = omega arith
class2_byte SP = omega arith
class2_byte TB = omega arith
class2_byte OH = omega arith

-- ---- parts
isotope_bytes : (i : Isotope) → Bytes (isotope_s i)
unfolding Bytes isotope_s
isotope_bytes iso0 = tt
isotope_bytes (iso1 a) = (digit_byte a, tt)
isotope_bytes (iso2 a b) = (digit_byte a, (digit_byte b, tt))
isotope_bytes (iso3 a b c) = (digit_byte a, (digit_byte b, (digit_byte c, tt)))

chiral_bytes : (c : Chiral) → Bytes (chiral_s c)
unfolding Bytes chiral_s
chiral_bytes flat = tt
chiral_bytes at = (omega arith, tt)
chiral_bytes atat = (omega arith, (omega arith, tt))
chiral_bytes (code1 k d p) = (omega arith, (class1_byte k, (class2_byte k, (digit_byte d, tt))))
chiral_bytes (code2 k d e p) = (omega arith, (class1_byte k, (class2_byte k, (digit_byte d, (digit_byte e, tt)))))

hcount_bytes : (h : Hcount) → Bytes (hcount_s h)
unfolding Bytes hcount_s
hcount_bytes bald = tt
hcount_bytes H = (omega arith, tt)
hcount_bytes (Hn d) = (omega arith, (digit_byte d, tt))

head_bytes : (x : Head) → Bytes (head_s x)
unfolding head_s
head_bytes (head i y c h) = bytes_append (isotope_s i) _ (isotope_bytes i) (bytes_append (symbol_s y) _ (symbol_bytes y) (bytes_append (chiral_s c) _ (chiral_bytes c) (hcount_bytes h)))

charge_bytes : (q : Charge) → Bytes (charge_s q)
unfolding Bytes charge_s
charge_bytes neutral = tt
charge_bytes (sign g) = (sign_byte g, tt)
charge_bytes (twice g) = (sign_byte g, (sign_byte g, tt))
charge_bytes (num1 g d p) = (sign_byte g, (digit_byte d, tt))
charge_bytes (num2 g d e p) = (sign_byte g, (digit_byte d, (digit_byte e, tt)))

map_bytes : (m : Map) → Bytes (map_s m)
unfolding Bytes map_s
map_bytes nomap = tt
map_bytes (m1 a) = (omega arith, (digit_byte a, tt))
map_bytes (m2 a b) = (omega arith, (digit_byte a, (digit_byte b, tt)))
map_bytes (m3 a b c) = (omega arith, (digit_byte a, (digit_byte b, (digit_byte c, tt))))

atom_bytes : (a : Atom) → Bytes (atom_s a)
unfolding Bytes atom_s
atom_bytes (organic o) = organic_bytes o
atom_bytes (bracket x q m) = (omega arith, bytes_append (head_s x) _ (head_bytes x) (bytes_append (charge_s q) _ (charge_bytes q) (bytes_append (map_s m) _ (map_bytes m) (omega arith, tt))))

rnum_bytes : (r : Rnum) → Bytes (rnum_s r)
unfolding Bytes rnum_s
rnum_bytes (ring1 d) = (digit_byte d, tt)
rnum_bytes (ring2 d e) = (omega arith, (digit_byte d, (digit_byte e, tt)))

bond?_bytes : (x : Option BondSign) → Bytes (bond?s x)
unfolding Bytes bond?s
bond?_bytes none = tt
bond?_bytes (some x) = (bond_byte x, tt)

link_bytes : (l : Link) → Bytes (link_s l)
unfolding Bytes link_s
link_bytes elided = tt
link_bytes (bond x) = (bond_byte x, tt)
link_bytes dot = (omega arith, tt)

pub spelled_bytes : (t : Line) → Bytes (spell t)
unfolding Bytes spell
spelled_bytes (start a) = atom_bytes a
spelled_bytes (link c l a) = bytes_append (spell c) _ (spelled_bytes c) (bytes_append (link_s l) _ (link_bytes l) (atom_bytes a))
spelled_bytes (ring c x r) = bytes_append (spell c) _ (spelled_bytes c) (bytes_append (bond?s x) _ (bond?_bytes x) (rnum_bytes r))
spelled_bytes (branch c l d) =
    bytes_append (spell c) _ (spelled_bytes c) (omega arith, bytes_append (link_s l) _ (link_bytes l) (bytes_append (spell d) _ (spelled_bytes d) (omega arith, tt)))

-- ---- and so for OpenSMILES chains
number_bytes : (ds : List Digit) → Bytes (digits_s ds)
unfolding Bytes digits_s
number_bytes [] = tt
number_bytes (d ∷ ds) = (digit_byte d, number_bytes ds)

class_bytes : (ds : List Digit) → Bytes (class_s' ds)
unfolding Bytes class_s'
class_bytes [] = tt
class_bytes (d ∷ ds) = (omega arith, number_bytes (d ∷ ds))

charge'_bytes : (q : Charge') → Bytes (charge_s' q)
unfolding Bytes charge_s'
charge'_bytes neutral' = tt
charge'_bytes (sign' g) = (sign_byte g, tt)
charge'_bytes (twice' g) = (sign_byte g, (sign_byte g, tt))
charge'_bytes (digit' g d) = (sign_byte g, (digit_byte d, tt))
charge'_bytes (digits' g d e) = (sign_byte g, (digit_byte d, (digit_byte e, tt)))

chiral'_bytes : (c : Chiral') → Bytes (chiral_s' c)
unfolding Bytes chiral_s'
chiral'_bytes flat' = tt
chiral'_bytes at' = (omega arith, tt)
chiral'_bytes atat' = (omega arith, (omega arith, tt))
chiral'_bytes (code1' k d p) = (omega arith, (class1_byte k, (class2_byte k, (digit_byte d, tt))))
chiral'_bytes (code2' k d e p) = (omega arith, (class1_byte k, (class2_byte k, (digit_byte d, (digit_byte e, tt)))))
chiral'_bytes (pair' k w d e) = (omega arith, (class1_byte k, (class2_byte k, (digit_byte d, (digit_byte e, tt)))))

atom'_bytes : (a : Atom') → Bytes (atom_s' a)
unfolding Bytes atom_s'
atom'_bytes (organic' o k) = organic_bytes o
atom'_bytes (bracket' i y c h k q m) = (
  omega arith,
  bytes_append (digits_s i) _ (number_bytes i) (bytes_append (symbol_s y) _ (symbol_bytes y) (bytes_append (chiral_s' c) _ (chiral'_bytes c)
      (bytes_append (hcount_s h) _ (hcount_bytes h) (bytes_append (charge_s' q) _ (charge'_bytes q) (bytes_append (class_s' m) _ (class_bytes m) (omega arith, tt)))))),
)

rings_bytes : (rs : Rings) → Bytes (rings_s rs)
unfolding Bytes rings_s
rings_bytes no_rings = tt
rings_bytes (and_ring rs x r) = bytes_append (rings_s rs) _ (rings_bytes rs) (bytes_append (bond?s x) _ (bond?_bytes x) (rnum_bytes r))

mutual
  unfolding Bytes chain_s

  pub chain_bytes : (c : Chain) → Bytes (chain_s c)
  chain_bytes (first b) = branched_bytes b
  chain_bytes (then c l b) = bytes_append (chain_s c) _ (chain_bytes c) (bytes_append (link_s l) _ (link_bytes l) (branched_bytes b))

  branched_bytes : (b : Branched) → Bytes (branched_s b)
  branched_bytes (branched a rs bs) = bytes_append (atom_s' a) _ (atom'_bytes a) (bytes_append (rings_s rs) _ (rings_bytes rs) (branches_bytes bs))

  branches_bytes : (bs : Branches) → Bytes (branches_s bs)
  branches_bytes no_branches = tt
  branches_bytes (and_branch bs l c) =
      bytes_append (branches_s bs) _ (branches_bytes bs) (omega arith, bytes_append (link_s l) _ (link_bytes l) (bytes_append (chain_s c) _ (chain_bytes c) (omega arith, tt)))
