-- Where a "(" is in the spelling of a tree, the text before it is a line in the making, and what that tells the tree tells
-- first. Assumes nothing.
use Prim.Native.Nat.{ℕ}
use mathlib.Core.Path.{◌≡◌, refl, sym, ap, ◌∙◌}
use mathlib.Core.List.{List, [], ◌∷◌, ◌++◌, append_assoc, append-nil}
use mathlib.Core.Option.{Option, none, some}
use mathlib.Core.Bool.{Bool}
use mathlib.Core.Logic.{◌⊎◌, inl, inr}
use native.Mathlib.Omega.{arith}
use lib.Dec.{T, ltb, ltb→lt}
use lib.ListN.{length, length-append}
use Rattle.feature.specs.Text.{byte}
use Rattle.feature.proofs.Cases.{impossible}
use Rattle.read_line.specs.Events.{ReadEvent, Pop}
use Rattle.grammar.specs.Grammar.{Digit, d0, d1, d2, d3, d4, d5, d6, d7, d8, d9, digit_s, BondSign, single, double, triple, quadruple, aromatic, up, down, bond_s, Organic, bare1, bare2, organics, organic_s, Symbol, short, long, symbol_names, known, symbol_s, Isotope, iso0, iso1, iso2, iso3, isotope_s, Chiral, flat, at, atat, code1, code2, Class, Th, AL, SP, TB, OH, class1, class2, chiral_s, Hcount, bald, H, Hn, hcount_s, Head, head, head_s, Sign, plus, minus, sign_s, Charge, neutral, sign, twice, num1, num2, charge_s, Map, nomap, m1, m2, m3, map_s, Atom, organic, bracket, atom_s, Rnum, ring1, ring2, rnum_s, bond?s, Link, elided, bond, dot, link_s, Line, start, link, ring, branch, spell, enter, join_event, atoms, tells, meaning}
use Rattle.grammar.specs.Lines.{opening}
use Rattle.grammar.proofs.Spelling.{all_of, has1_all, has2_all}
use Rattle.opensmiles_laws.specs.Telling.{Making, whole, branching, making_s, making_e, HasTold, so_far}

-- ---- texts without "("
Plain : List ℕ → Type 0
Plain [] = Unit {0}
Plain (b ∷ bs) = ¬ (b ≡ opening) × Plain bs

plain_append : (xs ys : List ℕ) → Plain xs → Plain ys → Plain (xs ++ ys)
unfolding Plain
plain_append [] ys h k = k
plain_append (x ∷ xs) ys h k = (h.0, plain_append xs ys h.1 k)

plain_none : (xs before behind : List ℕ) → Plain xs → ¬ (xs ≡ before ++ (opening ∷ behind))
unfolding Plain
plain_none [] [] behind h e = impossible cc
plain_none [] (b ∷ before) behind h e = impossible cc
plain_none (x ∷ xs) [] behind h e = let g : x ≡ opening = cc in h.0 g
plain_none (x ∷ xs) (b ∷ before) behind h e = let g : xs ≡ before ++ (opening ∷ behind) = cc in plain_none xs before behind h.1 g

beyond : ℕ → Bool
beyond x = ltb opening x

beyond_plain : (x : ℕ) → T (beyond x) → ¬ (x ≡ opening)
unfolding beyond
beyond_plain x t e = omega (arith, ltb→lt opening x t, e)

digit_plain : (d : Digit) → ¬ (digit_s d ≡ opening)
unfolding digit_s
digit_plain d0 e = omega (arith, e)
digit_plain d1 e = omega (arith, e)
digit_plain d2 e = omega (arith, e)
digit_plain d3 e = omega (arith, e)
digit_plain d4 e = omega (arith, e)
digit_plain d5 e = omega (arith, e)
digit_plain d6 e = omega (arith, e)
digit_plain d7 e = omega (arith, e)
digit_plain d8 e = omega (arith, e)
digit_plain d9 e = omega (arith, e)

bond_plain : (x : BondSign) → ¬ (bond_s x ≡ opening)
unfolding bond_s
bond_plain single e = omega (arith, e)
bond_plain double e = omega (arith, e)
bond_plain triple e = omega (arith, e)
bond_plain quadruple e = omega (arith, e)
bond_plain aromatic e = omega (arith, e)
bond_plain up e = omega (arith, e)
bond_plain down e = omega (arith, e)

sign_plain : (g : Sign) → ¬ (sign_s g ≡ opening)
unfolding sign_s
sign_plain plus e = omega (arith, e)
sign_plain minus e = omega (arith, e)

class1_plain : (k : Class) → ¬ (class1 k ≡ opening)
unfolding class1
class1_plain Th e = omega (arith, e)
class1_plain AL e = omega (arith, e)
class1_plain SP e = omega (arith, e)
class1_plain TB e = omega (arith, e)
class1_plain OH e = omega (arith, e)

class2_plain : (k : Class) → ¬ (class2 k ≡ opening)
unfolding class2
class2_plain Th e = omega (arith, e)
class2_plain AL e = omega (arith, e)
class2_plain SP e = omega (arith, e)
class2_plain TB e = omega (arith, e)
class2_plain OH e = omega (arith, e)

organic_plain : (o : Organic) → Plain (organic_s o)
unfolding Plain organic_s all_of organics beyond
organic_plain (bare1 a p) = (beyond_plain a (has1_all beyond organics tt a p), tt)
organic_plain (bare2 a b p) = let h = has2_all beyond organics tt a b p in (beyond_plain a h.0, (beyond_plain b h.1, tt))

symbol_plain : (y : Symbol) → Plain (symbol_s y)
unfolding Plain symbol_s all_of symbol_names known beyond
symbol_plain (short a p) = (beyond_plain a (has1_all beyond symbol_names tt a p), tt)
symbol_plain (long a b p) = let h = has2_all beyond symbol_names tt a b p in (beyond_plain a h.0, (beyond_plain b h.1, tt))

isotope_plain : (i : Isotope) → Plain (isotope_s i)
unfolding Plain isotope_s
isotope_plain iso0 = tt
isotope_plain (iso1 a) = (digit_plain a, tt)
isotope_plain (iso2 a b) = (digit_plain a, (digit_plain b, tt))
isotope_plain (iso3 a b c) = (digit_plain a, (digit_plain b, (digit_plain c, tt)))

chiral_plain : (c : Chiral) → Plain (chiral_s c)
unfolding Plain chiral_s
chiral_plain flat = tt
chiral_plain at = (λ e. omega (arith, e), tt)
chiral_plain atat = (λ e. omega (arith, e), (λ e. omega (arith, e), tt))
chiral_plain (code1 k d p) = (λ e. omega (arith, e), (class1_plain k, (class2_plain k, (digit_plain d, tt))))
chiral_plain (code2 k d f p) = (λ e. omega (arith, e), (class1_plain k, (class2_plain k, (digit_plain d, (digit_plain f, tt)))))

hcount_plain : (h : Hcount) → Plain (hcount_s h)
unfolding Plain hcount_s
hcount_plain bald = tt
hcount_plain H = (λ e. omega (arith, e), tt)
hcount_plain (Hn d) = (λ e. omega (arith, e), (digit_plain d, tt))

head_plain : (x : Head) → Plain (head_s x)
unfolding head_s
head_plain (head i y c h) = plain_append (isotope_s i) _ (isotope_plain i) (plain_append (symbol_s y) _ (symbol_plain y) (plain_append (chiral_s c) _ (chiral_plain c) (hcount_plain h)))

charge_plain : (q : Charge) → Plain (charge_s q)
unfolding Plain charge_s
charge_plain neutral = tt
charge_plain (sign g) = (sign_plain g, tt)
charge_plain (twice g) = (sign_plain g, (sign_plain g, tt))
charge_plain (num1 g d p) = (sign_plain g, (digit_plain d, tt))
charge_plain (num2 g d f p) = (sign_plain g, (digit_plain d, (digit_plain f, tt)))

map_plain : (m : Map) → Plain (map_s m)
unfolding Plain map_s
map_plain nomap = tt
map_plain (m1 a) = (λ e. omega (arith, e), (digit_plain a, tt))
map_plain (m2 a b) = (λ e. omega (arith, e), (digit_plain a, (digit_plain b, tt)))
map_plain (m3 a b c) = (λ e. omega (arith, e), (digit_plain a, (digit_plain b, (digit_plain c, tt))))

atom_plain : (a : Atom) → Plain (atom_s a)
unfolding Plain atom_s
atom_plain (organic o) = organic_plain o
atom_plain (bracket x q m) = (λ e. omega (arith, e), plain_append (head_s x) _ (head_plain x) (plain_append (charge_s q) _ (charge_plain q) (plain_append (map_s m) _ (map_plain m) (λ e. omega (arith, e), tt))))

rnum_plain : (r : Rnum) → Plain (rnum_s r)
unfolding Plain rnum_s
rnum_plain (ring1 d) = (digit_plain d, tt)
rnum_plain (ring2 d f) = (λ e. omega (arith, e), (digit_plain d, (digit_plain f, tt)))

bond?_plain : (x : Option BondSign) → Plain (bond?s x)
unfolding Plain bond?s
bond?_plain none = tt
bond?_plain (some x) = (bond_plain x, tt)

link_plain : (l : Link) → Plain (link_s l)
unfolding Plain link_s
link_plain elided = tt
link_plain (bond x) = (bond_plain x, tt)
link_plain dot = (λ e. omega (arith, e), tt)

closing_plain : Plain (byte ")" ∷ [])
unfolding Plain
closing_plain = (λ e. omega (arith, e), tt)

-- ---- a byte in one text or in the other
split : (xs ys zs : List ℕ) (b : ℕ) (ws : List ℕ) → xs ++ ys ≡ zs ++ (b ∷ ws)
    → ((r : List ℕ) × (xs ≡ zs ++ (b ∷ r))) ⊎ ((q : List ℕ) × (zs ≡ xs ++ q) × (ys ≡ q ++ (b ∷ ws)))
split [] ys zs b ws e = inr (zs, refl, e)
split (x ∷ xs) ys [] b ws e = let g : x ≡ b = cc in inl (xs, ap (λ (i : ℕ). i ∷ xs) g)
split (x ∷ xs) ys (z ∷ zs) b ws e =
    let g : x ≡ z = cc in
    let h : xs ++ ys ≡ zs ++ (b ∷ ws) = cc in
    by g (split xs ys zs b ws h)
  where
    by : x ≡ z → ((r : List ℕ) × (xs ≡ zs ++ (b ∷ r))) ⊎ ((q : List ℕ) × (zs ≡ xs ++ q) × (ys ≡ q ++ (b ∷ ws)))
        → ((r : List ℕ) × (x ∷ xs ≡ z ∷ (zs ++ (b ∷ r)))) ⊎ ((q : List ℕ) × (z ∷ zs ≡ x ∷ (xs ++ q)) × (ys ≡ q ++ (b ∷ ws)))
    by g (inl r) = inl (r.0, rw (g, r.1))
    by g (inr q) = inr (q.0, rw (← g, q.1), q.2)

-- ---- the text before a "("
record Cut (w : List ℕ) (l : Link) (t : Line) (before : List ℕ) : Type 0 where
  making : Making
  spelled : making_s making ≡ before
  rest : List ReadEvent
  told : tells w l t ≡ making_e w l making ++ rest

-- of a line that goes on
longer : (w : List ℕ) (l : Link) (c t : Line) (before : List ℕ) (more : List ReadEvent) → tells w l t ≡ tells w l c ++ more → Cut w l c before → Cut w l t before
longer w l c t before more e k =
    record { making = k.making; spelled = k.spelled; rest = k.rest ++ more; told = e ∙ ap (λ (x : List ReadEvent). x ++ more) k.told ∙ append_assoc (making_e w l k.making) k.rest more }

-- at a branch
fresh : (w : List ℕ) (l : Link) (c : Line) (k : Link) (d : Line) → Cut w l (branch c k d) (spell c)
unfolding making_s making_e tells
fresh w l c k d = record { making = whole c; spelled = refl; rest = tells (w ++ (spell c ++ (byte "(" ∷ link_s k))) k d ++ (Pop (atoms d) ∷ []); told = refl }

-- in a branch
deeper : (w : List ℕ) (l : Link) (c : Line) (k : Link) (d : Line) (before : List ℕ) → Cut (w ++ (spell c ++ (byte "(" ∷ link_s k))) k d before
    → Cut w l (branch c k d) (spell c ++ (byte "(" ∷ (link_s k ++ before)))
unfolding making_s making_e tells
deeper w l c k d before x =
    record { making = branching c k x.making; spelled = rw x.spelled; rest = x.rest ++ (Pop (atoms d) ∷ []); told = rw x.told (simp append_assoc) }

cut : (t : Line) (w : List ℕ) (l : Link) (before behind : List ℕ) → spell t ≡ before ++ (opening ∷ behind) → Cut w l t before
unfolding spell
cut (start a) w l before behind e = absurd (plain_none (atom_s a) before behind (atom_plain a) e)
cut (link c k a) w l before behind e = by (split (spell c) (link_s k ++ atom_s a) before opening behind e) (λ r i. cut c w l before r i)
  where
    by : ((r : List ℕ) × (spell c ≡ before ++ (opening ∷ r))) ⊎ ((q : List ℕ) × (before ≡ spell c ++ q) × (link_s k ++ atom_s a ≡ q ++ (opening ∷ behind)))
        → ((r : List ℕ) → spell c ≡ before ++ (opening ∷ r) → Cut w l c before) → Cut w l (link c k a) before
    by (inl r) f = longer w l c (link c k a) before (enter k a (length (w ++ (spell c ++ link_s k))) ∷ []) (unfold tells in refl) (f r.0 r.1)
    by (inr q) f = absurd (plain_none (link_s k ++ atom_s a) q.0 behind (plain_append (link_s k) (atom_s a) (link_plain k) (atom_plain a)) q.2)
cut (ring c x n) w l before behind e = by (split (spell c) (bond?s x ++ rnum_s n) before opening behind e) (λ r i. cut c w l before r i)
  where
    by : ((r : List ℕ) × (spell c ≡ before ++ (opening ∷ r))) ⊎ ((q : List ℕ) × (before ≡ spell c ++ q) × (bond?s x ++ rnum_s n ≡ q ++ (opening ∷ behind)))
        → ((r : List ℕ) → spell c ≡ before ++ (opening ∷ r) → Cut w l c before) → Cut w l (ring c x n) before
    by (inl r) f = longer w l c (ring c x n) before (join_event x n (length (w ++ (spell c ++ bond?s x))) ∷ []) (unfold tells in refl) (f r.0 r.1)
    by (inr q) f = absurd (plain_none (bond?s x ++ rnum_s n) q.0 behind (plain_append (bond?s x) (rnum_s n) (bond?_plain x) (rnum_plain n)) q.2)
cut (branch c k d) w l before behind e =
    by (split (spell c) (opening ∷ (link_s k ++ (spell d ++ (byte ")" ∷ [])))) before opening behind e) (λ r i. cut c w l before r i) (λ q r i. cut d (w ++ (spell c ++ (byte "(" ∷ link_s k))) k q r i)
  where
    Inner : Type 0
    Inner = (q r : List ℕ) → spell d ≡ q ++ (opening ∷ r) → Cut (w ++ (spell c ++ (byte "(" ∷ link_s k))) k d q

    innermost : (q p : List ℕ) → before ≡ spell c ++ (opening ∷ q) → q ≡ link_s k ++ p → ((r : List ℕ) × (spell d ≡ p ++ (opening ∷ r))) ⊎ ((z : List ℕ) × (p ≡ spell d ++ z) × ((byte ")" ∷ []) ≡ z ++ (opening ∷ behind))) → Inner → Cut w l (branch c k d) before
    innermost q p i j (inl r) g = rw (i, j) (deeper w l c k d p (g p r.0 r.1))
    innermost q p i j (inr z) g = absurd (plain_none (byte ")" ∷ []) z.0 behind closing_plain z.2)

    inner : (q : List ℕ) → before ≡ spell c ++ (opening ∷ q) → ((r : List ℕ) × (link_s k ≡ q ++ (opening ∷ r))) ⊎ ((p : List ℕ) × (q ≡ link_s k ++ p) × (spell d ++ (byte ")" ∷ []) ≡ p ++ (opening ∷ behind))) → Inner → Cut w l (branch c k d) before
    inner q i (inl r) g = absurd (plain_none (link_s k) q r.0 (link_plain k) r.1)
    inner q i (inr p) g = innermost q p.0 i p.1 (split (spell d) (byte ")" ∷ []) p.0 opening behind p.2) g

    here : (q : List ℕ) → before ≡ spell c ++ q → opening ∷ (link_s k ++ (spell d ++ (byte ")" ∷ []))) ≡ q ++ (opening ∷ behind) → Inner → Cut w l (branch c k d) before
    here [] i j g = rw (i ∙ append-nil (spell c)) (fresh w l c k d)
    here (x ∷ q) i j g =
        let h : x ≡ opening = cc in
        let y : link_s k ++ (spell d ++ (byte ")" ∷ [])) ≡ q ++ (opening ∷ behind) = cc in
        inner q (i ∙ ap (λ (z : ℕ). spell c ++ (z ∷ q)) h) (split (link_s k) (spell d ++ (byte ")" ∷ [])) q opening behind y) g

    by : ((r : List ℕ) × (spell c ≡ before ++ (opening ∷ r))) ⊎ ((q : List ℕ) × (before ≡ spell c ++ q) × (opening ∷ (link_s k ++ (spell d ++ (byte ")" ∷ []))) ≡ q ++ (opening ∷ behind)))
        → ((r : List ℕ) → spell c ≡ before ++ (opening ∷ r) → Cut w l c before) → Inner → Cut w l (branch c k d) before
    by (inl r) f g = longer w l c (branch c k d) before (tells (w ++ (spell c ++ (byte "(" ∷ link_s k))) k d ++ (Pop (atoms d) ∷ [])) (unfold tells in refl) (f r.0 r.1)
    by (inr q) f g = here q.0 q.1 q.2 g

-- WHAT THE TEXT BEFORE A "(" HAS TOLD, the tree tells first
pub told_first : (t : Line) (before behind : List ℕ) → spell t ≡ before ++ (opening ∷ behind) → (es : List ReadEvent) × HasTold before es × ((rest : List ReadEvent) × (meaning t ≡ es ++ rest))
unfolding meaning
told_first t before behind e =
    let k = cut t [] dot before behind e in (
      making_e [] dot k.making,
      so_far k.making [] (sym k.spelled ∙ sym (append-nil (making_s k.making)))
          (λ n w i. omega (arith, ap length i, length-append (making_s n) w, ap length k.spelled)) refl,
      (k.rest, k.told),
    )
