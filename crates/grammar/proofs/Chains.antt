-- OpenSMILES chains as trees of the grammar: a chain within the reader's numbers is spelled as its tree, which is strict, and
-- each strict tree is such a chain. Assumes nothing.
use mathlib.Core.Path.{◌≡◌, refl, sym, ap, ◌∙◌, subst}
use mathlib.Core.Bool.{Bool}
use lib.Dec.{T}
use mathlib.Core.List.{List, [], ◌∷◌, ◌++◌, append_assoc, append-nil}
use mathlib.Core.Option.{Option}
use Prim.Native.Nat.{ℕ, ◌≤◌}
use lib.ListN.{length}
use native.Mathlib.Omega.{arith}
use Rattle.grammar.specs.OpenSmiles.{arrangements, named1, named2, Chiral', flat', at', atat', code1', code2', pair', chiral_s', SmallChiral, Charge', neutral', sign', twice', digit', digits', Atom', organic', bracket', Rings, no_rings, and_ring, Chain, first, then, Branched, branched, Branches, no_branches, and_branch, digits_s, charge_s', class_s', atom_s', rings_s, chain_s, branched_s, branches_s, SmallCharge, SmallAtom, Small, SmallBranched, SmallBranches, NoBranch, StrictAtom, Strict}
use Rattle.grammar.proofs.Table.{test_yes}
use Rattle.grammar.specs.Grammar.{Digit, BondSign, Isotope, iso0, iso1, iso2, iso3, Class, Th, AL, SP, TB, OH, most, valid1, valid2, Chiral, flat, at, atat, code1, code2, chiral_s, head, head_s, okay1, okay2, Charge, neutral, sign, twice, num1, num2, charge_s, Map, nomap, m1, m2, m3, map_s, Atom, organic, bracket, Rnum, Link, Line, start, link, ring, branch, isotope_s, atom_s, link_s, spell}
use Rattle.grammar.proofs.Machine.{test, done, read}
use Rattle.grammar.proofs.Reading.{sound, complete}

-- ---- OpenSMILES trees as trees of the grammar; a number that is too long is cut, which Small shuts out
unfoldable pub isotope_of : List Digit → Isotope
isotope_of [] = iso0
isotope_of (a ∷ []) = iso1 a
isotope_of (a ∷ b ∷ []) = iso2 a b
isotope_of (a ∷ b ∷ c ∷ r) = iso3 a b c

unfoldable pub map_of : List Digit → Map
map_of [] = nomap
map_of (a ∷ []) = m1 a
map_of (a ∷ b ∷ []) = m2 a b
map_of (a ∷ b ∷ c ∷ r) = m3 a b c

unfoldable pub chiral_of : Chiral' → Chiral
chiral_of flat' = flat
chiral_of at' = at
chiral_of atat' = atat
chiral_of (code1' k d p) = test (valid1 k d) (λ q. code1 k d q) flat
chiral_of (code2' k d e p) = test (valid2 k d e) (λ q. code2 k d e q) flat
chiral_of (pair' k w d e) = test (valid2 k d e) (λ p. code2 k d e p) flat

unfoldable pub charge_of : Charge' → Charge
charge_of neutral' = neutral
charge_of (sign' g) = sign g
charge_of (twice' g) = twice g
charge_of (digit' g d) = test (okay1 d) (λ p. num1 g d p) neutral
charge_of (digits' g d e) = test (okay2 d e) (λ p. num2 g d e p) neutral

-- ---- chains as trees
unfoldable pub atom_of : Atom' → Atom
atom_of (organic' o k) = organic o
atom_of (bracket' i s c h k q m) = bracket (head (isotope_of i) s (chiral_of c) h) (charge_of q) (map_of m)

unfoldable pub rings_of : Line → Rings → Line
rings_of t no_rings = t
rings_of t (and_ring rs b r) = ring (rings_of t rs) b r

unfoldable mutual
  pub line_of : Chain → Line
  line_of (first b) = branched_of b (λ a. start a)
  line_of (then c l b) = let t = line_of c in branched_of b (λ a. link t l a)

  pub branched_of : Branched → (Atom → Line) → Line
  branched_of (branched a rs bs) f = branches_of bs (rings_of (f (atom_of a)) rs)

  pub branches_of : Branches → Line → Line
  branches_of no_branches t = t
  branches_of (and_branch bs l c) t = branch (branches_of bs t) l (line_of c)

-- ---- small chains are spelled as their trees
pub number_ok : (i : List Digit) → length i ≤ 3 → isotope_s (isotope_of i) ≡ digits_s i
unfolding isotope_of isotope_s digits_s
number_ok [] h = refl
number_ok (a ∷ []) h = refl
number_ok (a ∷ b ∷ []) h = refl
number_ok (a ∷ b ∷ c ∷ []) h = refl
number_ok (a ∷ b ∷ c ∷ d ∷ r) h = absurd (omega arith)

pub map_ok : (m : List Digit) → length m ≤ 3 → map_s (map_of m) ≡ class_s' m
unfolding map_of map_s class_s' digits_s
map_ok [] h = refl
map_ok (a ∷ []) h = refl
map_ok (a ∷ b ∷ []) h = refl
map_ok (a ∷ b ∷ c ∷ []) h = refl
map_ok (a ∷ b ∷ c ∷ d ∷ r) h = absurd (omega arith)

pub chiral_ok : (c : Chiral') → SmallChiral c → chiral_s (chiral_of c) ≡ chiral_s' c
unfolding SmallChiral chiral_of chiral_s chiral_s'
chiral_ok flat' h = refl
chiral_ok at' h = refl
chiral_ok atat' h = refl
chiral_ok (code1' k d p) h = rw (test_yes (valid1 k d) h (λ p. code1 k d p) flat)
chiral_ok (code2' k d e p) h = rw (test_yes (valid2 k d e) h (λ p. code2 k d e p) flat)
chiral_ok (pair' k w d e) h = rw (test_yes (valid2 k d e) h (λ p. code2 k d e p) flat)

pub charge_ok : (q : Charge') → SmallCharge q → charge_s (charge_of q) ≡ charge_s' q
unfolding SmallCharge charge_of charge_s charge_s'
charge_ok neutral' h = refl
charge_ok (sign' g) h = refl
charge_ok (twice' g) h = refl
charge_ok (digit' g d) h = rw (test_yes (okay1 d) h (λ p. num1 g d p) neutral)
charge_ok (digits' g d e) h = rw (test_yes (okay2 d e) h (λ p. num2 g d e p) neutral)

pub atom_ok : (a : Atom') → SmallAtom a → atom_s (atom_of a) ≡ atom_s' a
unfolding SmallAtom atom_of atom_s atom_s' head_s
atom_ok (organic' o k) h = refl
atom_ok (bracket' i s c g k q m) h = rw (number_ok i h.0, chiral_ok c h.3, charge_ok q h.1, map_ok m h.2) (simp append_assoc)

strict_atom : (a : Atom') → StrictAtom (atom_of a)
unfolding StrictAtom atom_of
strict_atom (organic' o k) = k
strict_atom (bracket' i s c h k q m) = k

pub rings_ok : (rs : Rings) (t : Line) → spell (rings_of t rs) ≡ spell t ++ rings_s rs
unfolding rings_of rings_s spell
rings_ok no_rings t = simp append-nil
rings_ok (and_ring rs b r) t = rw (rings_ok rs t, append_assoc)

mutual
  unfolding Small line_of chain_s spell

  pub chain_ok : (c : Chain) → Small c → spell (line_of c) ≡ chain_s c
  chain_ok (first b) h = branched_ok b (λ a. start a) [] (λ a. refl) h
  chain_ok (then c l b) h = branched_ok b (λ a. link (line_of c) l a) (chain_s c ++ link_s l) (λ a. rw (chain_ok c h.0, append_assoc)) h.1 ∙ simp append_assoc

  pub branched_ok : (b : Branched) (f : Atom → Line) (w : List ℕ) → ((a : Atom) → spell (f a) ≡ w ++ atom_s a) → SmallBranched b → spell (branched_of b f) ≡ w ++ branched_s b
  branched_ok (branched a rs bs) f w g h = branches_ok bs (rings_of (f (atom_of a)) rs) h.1 ∙ rw (rings_ok, g, atom_ok a h.0) (simp append_assoc)

  pub branches_ok : (bs : Branches) (t : Line) → SmallBranches bs → spell (branches_of bs t) ≡ spell t ++ branches_s bs
  branches_ok no_branches t h = simp append-nil
  branches_ok (and_branch bs l c) t h = rw (branches_ok bs t h.0, chain_ok c h.1) (simp append_assoc)

-- ---- OpenSMILES lines are strict
rings_strict : (rs : Rings) (t : Line) → Strict t × NoBranch t → Strict (rings_of t rs) × NoBranch (rings_of t rs)
unfolding rings_of Strict NoBranch
rings_strict no_rings t h = h
rings_strict (and_ring rs b r) t h = (rings_strict rs t h, tt)

mutual
  unfolding line_of Strict NoBranch

  pub chain_strict : (c : Chain) → Strict (line_of c)
  chain_strict (first b) = branched_strict b (λ a. start a) (λ a h. (h, tt))
  chain_strict (then c l b) = branched_strict b (λ a. link (line_of c) l a) (λ a h. ((chain_strict c, h), tt))

  branched_strict : (b : Branched) (f : Atom → Line) → ((a : Atom) → StrictAtom a → Strict (f a) × NoBranch (f a)) → Strict (branched_of b f)
  branched_strict (branched a rs bs) f g = branches_strict bs (rings_of (f (atom_of a)) rs) (rings_strict rs (f (atom_of a)) (g (atom_of a) (strict_atom a))).0

  branches_strict : (bs : Branches) (t : Line) → Strict t → Strict (branches_of bs t)
  branches_strict no_branches t h = h
  branches_strict (and_branch bs l c) t h = (branches_strict bs t h, chain_strict c)

-- ---- and each strict line is an OpenSMILES line
number : Isotope → List Digit
number iso0 = []
number (iso1 a) = a ∷ []
number (iso2 a b) = a ∷ b ∷ []
number (iso3 a b c) = a ∷ b ∷ c ∷ []

charge : Charge → Charge'
charge neutral = neutral'
charge (sign g) = sign' g
charge (twice g) = twice' g
charge (num1 g d p) = digit' g d
charge (num2 g d e p) = digits' g d e

klass : Map → List Digit
klass nomap = []
klass (m1 a) = a ∷ []
klass (m2 a b) = a ∷ b ∷ []
klass (m3 a b c) = a ∷ b ∷ c ∷ []

-- the templates have the same numbers in both
pub same_arrangements : (k : Class) → arrangements k ≡ most k
unfolding arrangements most
same_arrangements Th = refl
same_arrangements AL = refl
same_arrangements SP = refl
same_arrangements TB = refl
same_arrangements OH = refl

pub same1 : (k : Class) (d : Digit) → named1 k d ≡ valid1 k d
unfolding named1 valid1
same1 k d = rw (same_arrangements k)

pub same2 : (k : Class) (d e : Digit) → named2 k d e ≡ valid2 k d e
unfolding named2 valid2
same2 k d e = rw (same_arrangements k)

chiral : Chiral → Chiral'
chiral flat = flat'
chiral at = at'
chiral atat = atat'
chiral (code1 k d p) = code1' k d (subst (λ (t : Bool). T t) (sym (same1 k d)) p)
chiral (code2 k d e p) = code2' k d e (subst (λ (t : Bool). T t) (sym (same2 k d e)) p)

atom : (a : Atom) → StrictAtom a → Atom'
unfolding number charge klass StrictAtom
atom (organic o) k = organic' o k
atom (bracket (head i s c h) q m) k = bracket' (number i) s (chiral c) h k (charge q) (klass m)

alone : (a : Atom) → StrictAtom a → Branched
unfolding atom
alone a k = branched (atom a k) no_rings no_branches

add_ring : Chain → Option BondSign → Rnum → Chain
add_ring (first (branched a rs bs)) b r = first (branched a (and_ring rs b r) bs)
add_ring (then c l (branched a rs bs)) b r = then c l (branched a (and_ring rs b r) bs)

add_branch : Chain → Link → Chain → Chain
add_branch (first (branched a rs bs)) l d = first (branched a rs (and_branch bs l d))
add_branch (then c k (branched a rs bs)) l d = then c k (branched a rs (and_branch bs l d))

pub chain_of : (t : Line) → Strict t → Chain
unfolding alone add_ring add_branch Strict
chain_of (start a) h = first (alone a h)
chain_of (link c l a) h = then (chain_of c h.0) l (alone a h.1)
chain_of (ring c b r) h = add_ring (chain_of c h.0) b r
chain_of (branch c l d) h = add_branch (chain_of c h.0) l (chain_of d h.1)

number_back : (i : Isotope) → isotope_of (number i) ≡ i
unfolding number isotope_of
number_back iso0 = refl
number_back (iso1 a) = refl
number_back (iso2 a b) = refl
number_back (iso3 a b c) = refl

klass_back : (m : Map) → map_of (klass m) ≡ m
unfolding klass map_of
klass_back nomap = refl
klass_back (m1 a) = refl
klass_back (m2 a b) = refl
klass_back (m3 a b c) = refl

charge_back : (q : Charge) → charge_of (charge q) ≡ q
unfolding charge charge_of
charge_back neutral = refl
charge_back (sign g) = refl
charge_back (twice g) = refl
charge_back (num1 g d p) = test_yes (okay1 d) p (λ p. num1 g d p) neutral
charge_back (num2 g d e p) = test_yes (okay2 d e) p (λ p. num2 g d e p) neutral

chiral_back : (c : Chiral) → chiral_of (chiral c) ≡ c
unfolding chiral chiral_of
chiral_back flat = refl
chiral_back at = refl
chiral_back atat = refl
chiral_back (code1 k d p) = test_yes (valid1 k d) p (λ q. code1 k d q) flat
chiral_back (code2 k d e p) = test_yes (valid2 k d e) p (λ q. code2 k d e q) flat

atom_back : (a : Atom) (k : StrictAtom a) → atom_of (atom a k) ≡ a
unfolding atom atom_of
atom_back (organic o) k = refl
atom_back (bracket (head i s c h) q m) k = rw (number_back, chiral_back, charge_back, klass_back)

ring_back : (u : Chain) (b : Option BondSign) (r : Rnum) → NoBranch (line_of u) → line_of (add_ring u b r) ≡ ring (line_of u) b r
unfolding line_of add_ring rings_of NoBranch
ring_back (first (branched a rs no_branches)) b r h = refl
ring_back (first (branched a rs (and_branch bs l c))) b r h = absurd h
ring_back (then d k (branched a rs no_branches)) b r h = refl
ring_back (then d k (branched a rs (and_branch bs l c))) b r h = absurd h

branch_back : (u : Chain) (l : Link) (d : Chain) → line_of (add_branch u l d) ≡ branch (line_of u) l (line_of d)
unfolding line_of add_branch
branch_back (first (branched a rs bs)) l d = refl
branch_back (then c k (branched a rs bs)) l d = refl

pub line_back : (t : Line) (h : Strict t) → line_of (chain_of t h) ≡ t
unfolding chain_of Strict line_of rings_of alone
line_back (start a) h = rw (atom_back a h)
line_back (link c l a) h = rw (line_back c h.0, atom_back a h.1)
line_back (ring c b r) h = ring_back (chain_of c h.0) b r (rw (line_back c h.0) h.1) ∙ rw (line_back c h.0)
line_back (branch c l d) h = branch_back (chain_of c h.0) l (chain_of d h.1) ∙ rw (line_back c h.0, line_back d h.1)

number_small : (i : Isotope) → length (number i) ≤ 3
unfolding number
number_small iso0 = omega arith
number_small (iso1 a) = omega arith
number_small (iso2 a b) = omega arith
number_small (iso3 a b c) = omega arith

klass_small : (m : Map) → length (klass m) ≤ 3
unfolding klass
klass_small nomap = omega arith
klass_small (m1 a) = omega arith
klass_small (m2 a b) = omega arith
klass_small (m3 a b c) = omega arith

charge_small : (q : Charge) → SmallCharge (charge q)
unfolding charge SmallCharge
charge_small neutral = tt
charge_small (sign g) = tt
charge_small (twice g) = tt
charge_small (num1 g d p) = p
charge_small (num2 g d e p) = p

chiral_small : (c : Chiral) → SmallChiral (chiral c)
unfolding chiral SmallChiral
chiral_small flat = tt
chiral_small at = tt
chiral_small atat = tt
chiral_small (code1 k d p) = p
chiral_small (code2 k d e p) = p

atom_small : (a : Atom) (k : StrictAtom a) → SmallAtom (atom a k)
unfolding atom SmallAtom
atom_small (organic o) k = tt
atom_small (bracket (head i s c h) q m) k = (number_small i, charge_small q, klass_small m, chiral_small c)

ring_small : (u : Chain) (b : Option BondSign) (r : Rnum) → Small u → Small (add_ring u b r)
unfolding add_ring Small
ring_small (first (branched a rs bs)) b r h = h
ring_small (then c k (branched a rs bs)) b r h = h

branch_small : (u : Chain) (l : Link) (d : Chain) → Small u → Small d → Small (add_branch u l d)
unfolding add_branch Small
branch_small (first (branched a rs bs)) l d h g = (h.0, (h.1, g))
branch_small (then c k (branched a rs bs)) l d h g = (h.0, (h.1.0, (h.1.1, g)))

pub line_small : (t : Line) (h : Strict t) → Small (chain_of t h)
unfolding chain_of Small alone Strict
line_small (start a) h = (atom_small a h, tt)
line_small (link c l a) h = (line_small c h.0, (atom_small a h.1, tt))
line_small (ring c b r) h = ring_small (chain_of c h.0) b r (line_small c h.0)
line_small (branch c l d) h = branch_small (chain_of c h.0) l (chain_of d h.1) (line_small c h.0) (line_small d h.1)

-- THE DEPARTURES, IN ONE CLAIM
pub small_read : (s : List ℕ) (u : Chain) → Small u → chain_s u ≡ s → (t : Line) × Strict t × (read s ≡ done t)
small_read s u h e = (line_of u, chain_strict u, ap read (sym e) ∙ rw (← chain_ok u h) (complete (line_of u)))

pub strict_small : (s : List ℕ) (t : Line) → Strict t → read s ≡ done t → (u : Chain) × Small u × (chain_s u ≡ s)
strict_small s t h e = (chain_of t h, line_small t h, sym (chain_ok (chain_of t h) (line_small t h)) ∙ ap spell (line_back t h) ∙ sound s t e)
