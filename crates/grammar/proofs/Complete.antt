-- The machine reads each tree's spelling, and comes out with that tree. Assumes nothing.
use mathlib.Core.Path.{◌≡◌, refl, ap, ◌∙◌}
use mathlib.Core.List.{List, [], ◌∷◌, ◌++◌}
use mathlib.Core.Option.{Option, none, some}
use mathlib.Core.Bool.{Bool, true, false}
use Prim.Native.Nat.{ℕ, ◌+◌, ◌*◌}
use borrow.Author.Tests.{eqb-true}
use lib.Dec.{eqb, leb, T, le→leb, leb→le}
use native.Mathlib.Omega.{arith}
use Rattle.feature.specs.Pick.{pick}
use Rattle.feature.specs.Text.{byte}
use Rattle.feature.proofs.Cases.{impossible}
use Rattle.grammar.specs.Names.{has1, has2}
use Rattle.grammar.specs.Grammar.{Digit, d0, d1, d2, d3, d4, d5, d6, d7, d8, d9, BondSign, organics, bare1, bare2, symbol_names, Symbol, short, long, organic_s, Isotope, iso0, iso1, iso2, iso3, Chiral, flat, at, atat, code1, code2, Class, Th, AL, SP, TB, OH, valid1, valid2, value, most, class1, class2, Hcount, bald, H, Hn, Head, head, head_s, Sign, plus, minus, sign_s, okay1, okay2, Charge, neutral, sign, twice, num1, num2, charge_s, Map, nomap, m1, m2, m3, map_s, Atom, organic, bracket, Rnum, ring1, ring2, Link, elided, bond, dot, Line, start, link, ring, branch, digit_s, bond_s, symbol_s, isotope_s, chiral_s, hcount_s, atom_s, rnum_s, bond?s, link_s, spell}
use Rattle.grammar.proofs.Table.{Free, free_use, Apart, lead_apart, bracket_apart, bracket_lead, digit_free, bond_free, bond_of_lem, bond_undigit, bond_unpercent, Quiet, quiet_plus, quiet_minus, quiet_colon, quiet_close, free_point, free_percent, free_lp, free_rp, test_yes, test_not, has1_leads, has2_leads, seconds, no_second, name_undigit, at_second, H-second}
use Rattle.grammar.proofs.Machine.{leads, digit_of, bond_of, Part, bare, whole, isotope, lead, symbol, chiral1, chiral2, class, coded1, coded2, fam_of, class_of, hcount, hcount_n, signed, doubled, charge1, charge2, colon, map1, map2, map3, sign_of, to_map, to_charge, closed, begins, grow, to_close, to_hcount, to_chiral, to_symbol, part_step, part_end, Around, top, inside, Where, begin, after, around, put, State, want, in_atom, body, from_part, shut, body_step, want_step, atom_step, step, topmost, atom_end, ending}

-- A state after some bytes
unfoldable pub chain {ℓ} : {X Y : Type ℓ} → Option X → (X → Option Y) → Option Y
chain none f = none
chain (some x) f = f x

unfoldable pub steps : State → List ℕ → Option State
steps s [] = some s
steps s (b ∷ bs) = chain (step s b) (λ t. steps t bs)

unfoldable pub parts : Part → List ℕ → Option Part
parts q [] = some q
parts q (b ∷ bs) = chain (part_step q b) (λ p. parts p bs)

parts_app : (xs ys : List ℕ) (q : Part) → parts q (xs ++ ys) ≡ chain (parts q xs) (λ p. parts p ys)
unfolding parts chain
parts_app [] ys q = refl
parts_app (b ∷ xs) ys q = by (part_step q b) (λ p. parts_app xs ys p)
  where
    by : (o : Option Part) → ((p : Part) → parts p (xs ++ ys) ≡ chain (parts p xs) (λ r. parts r ys)) → chain o (λ p. parts p (xs ++ ys)) ≡ chain (chain o (λ p. parts p xs)) (λ p. parts p ys)
    by none f = refl
    by (some p) f = f p

pub steps_app : (xs ys : List ℕ) (q : State) → steps q (xs ++ ys) ≡ chain (steps q xs) (λ p. steps p ys)
unfolding steps chain
steps_app [] ys q = refl
steps_app (b ∷ xs) ys q = by (step q b) (λ p. steps_app xs ys p)
  where
    by : (o : Option State) → ((p : State) → steps p (xs ++ ys) ≡ chain (steps p xs) (λ r. steps r ys)) → chain o (λ p. steps p (xs ++ ys)) ≡ chain (chain o (λ p. steps p xs)) (λ p. steps p ys)
    by none f = refl
    by (some p) f = f p

pub parts_then : (xs ys : List ℕ) (q p : Part) → parts q xs ≡ some p → parts q (xs ++ ys) ≡ parts p ys
unfolding chain
parts_then xs ys q p e = rw (parts_app, e)

pub steps_then : (xs ys : List ℕ) (q p : State) → steps q xs ≡ some p → steps q (xs ++ ys) ≡ steps p ys
unfolding chain
steps_then xs ys q p e = rw (steps_app, e)

-- ---- atoms
pub digit_of_lem : (d : Digit) → digit_of (digit_s d) ≡ some d
unfolding digit_of digit_s
digit_of_lem d0 = refl
digit_of_lem d1 = refl
digit_of_lem d2 = refl
digit_of_lem d3 = refl
digit_of_lem d4 = refl
digit_of_lem d5 = refl
digit_of_lem d6 = refl
digit_of_lem d7 = refl
digit_of_lem d8 = refl
digit_of_lem d9 = refl

-- the machine's place after each part of a bracket
unfoldable pub after_symbol : Isotope → Symbol → Part
after_symbol i (short a p) = lead i a (has1_leads a symbol_names p)
after_symbol i (long a b p) = symbol i (long a b p)

unfoldable pub after_chiral : Isotope → Symbol → Chiral → Part
unfolding after_symbol
after_chiral i s flat = after_symbol i s
after_chiral i s at = chiral1 i s
after_chiral i s atat = chiral2 i s
after_chiral i s (code1 k d p) = coded1 i s k d p
after_chiral i s (code2 k d e p) = coded2 i s k d e p

unfoldable pub after_hcount : Isotope → Symbol → Chiral → Hcount → Part
unfolding after_chiral
after_hcount i s c bald = after_chiral i s c
after_hcount i s c H = hcount i s c
after_hcount i s c (Hn d) = hcount_n i s c d

unfoldable pub after_atom : Atom → Part
after_atom (organic (bare1 a p)) = bare a (has1_leads a organics p)
after_atom (organic (bare2 a b p)) = whole (bare2 a b p)
after_atom (bracket x q m) = closed x q m

pub read_isotope : (i : Isotope) → parts (isotope iso0) (isotope_s i) ≡ some (isotope i)
unfolding parts chain part_step grow isotope_s
read_isotope iso0 = refl
read_isotope (iso1 a) = simp digit_of_lem
read_isotope (iso2 a b) = simp digit_of_lem
read_isotope (iso3 a b c) = simp digit_of_lem

read_lead : (i : Isotope) (a : ℕ) (p : T (leads a symbol_names)) → part_step (isotope i) a ≡ some (lead i a p)
unfolding part_step to_symbol
read_lead i a p = rw (name_undigit a p) (test_yes (leads a symbol_names) p (λ p. some (lead i a p)) none)

pub read_symbol : (i : Isotope) (s : Symbol) → parts (isotope i) (symbol_s s) ≡ some (after_symbol i s)
unfolding parts chain symbol_s after_symbol
read_symbol i (short a p) = rw (read_lead i a (has1_leads a symbol_names p))
read_symbol i (long a b p) = rw (read_lead i a (has2_leads a b symbol_names p)) (unfold part_step in rw (test_yes (has2 a b symbol_names) p (λ q. some (symbol i (long a b q))) _))

-- a byte that is no second letter ends the symbol
pub past_symbol : (i : Isotope) (s : Symbol) (b : ℕ) → seconds b symbol_names ≡ false → part_step (after_symbol i s) b ≡ to_chiral i s b
unfolding part_step after_symbol
past_symbol i (short a p) b e = test_not (has2 a b symbol_names) _ _ (no_second a b symbol_names e) ∙ test_yes (has1 a symbol_names) p (λ q. to_chiral i (short a q) b) none
past_symbol i (long a c p) b e = refl

pub read_class : (i : Isotope) (s : Symbol) (k : Class) → parts (chiral1 i s) (class1 k ∷ class2 k ∷ []) ≡ some (class i s k)
unfolding parts chain part_step fam_of class_of class1 class2
read_class i s Th = refl
read_class i s AL = refl
read_class i s SP = refl
read_class i s TB = refl
read_class i s OH = refl

read_code1 : (i : Isotope) (s : Symbol) (k : Class) (d : Digit) (p : T (valid1 k d)) → parts (class i s k) (digit_s d ∷ []) ≡ some (coded1 i s k d p)
unfolding parts chain part_step
read_code1 i s k d p = rw (digit_of_lem d, test_yes (valid1 k d) p (λ p. some (coded1 i s k d p)) none)

read_code2 : (i : Isotope) (s : Symbol) (k : Class) (d e : Digit) (p : T (valid1 k d)) (q : T (valid2 k d e)) → parts (class i s k) (digit_s d ∷ digit_s e ∷ []) ≡ some (coded2 i s k d e q)
unfolding parts chain part_step
read_code2 i s k d e p q = rw (digit_of_lem d, test_yes (valid1 k d) p (λ p. some (coded1 i s k d p)) none) (rw (digit_of_lem e, test_yes (valid2 k d e) q (λ q. some (coded2 i s k d e q)) none))

-- a number of two digits begins with a number of one digit
valid_cut : (k : Class) (d e : Digit) → T (valid2 k d e) → T (valid1 k d)
unfolding valid2 valid1
valid_cut k d e p = by (leb 1 (value d)) p
  where
    by : (t : Bool) → T (pick t (leb (10 * value d + value e) (most k)) false) → T (pick t (leb (value d) (most k)) false)
    by true q = le→leb (value d) (most k) (omega (arith, leb→le (10 * value d + value e) (most k) q))
    by false q = q

pub read_chiral : (i : Isotope) (s : Symbol) (c : Chiral) → parts (after_symbol i s) (chiral_s c) ≡ some (after_chiral i s c)
unfolding parts chain to_chiral chiral_s after_chiral part_step
read_chiral i s flat = refl
read_chiral i s at = rw (past_symbol i s (byte "@") at_second)
read_chiral i s atat = rw (past_symbol i s (byte "@") at_second)
read_chiral i s (code1 k d p) = rw (past_symbol i s (byte "@") at_second) (parts_then (class1 k ∷ class2 k ∷ []) (digit_s d ∷ []) (chiral1 i s) (class i s k) (read_class i s k) ∙ read_code1 i s k d p)
read_chiral i s (code2 k d e p) = rw (past_symbol i s (byte "@") at_second) (parts_then (class1 k ∷ class2 k ∷ []) (digit_s d ∷ digit_s e ∷ []) (chiral1 i s) (class i s k) (read_class i s k) ∙ read_code2 i s k d e (valid_cut k d e p) p)

-- what is neither a second letter nor "@" goes on to the hydrogens
past_chiral : (i : Isotope) (s : Symbol) (c : Chiral) (b : ℕ) → seconds b symbol_names ≡ false → eqb b (byte "@") ≡ false → fam_of b ≡ none → digit_of b ≡ none → part_step (after_chiral i s c) b ≡ to_hcount i s c b
unfolding part_step to_chiral after_chiral
past_chiral i s flat b p q f g = rw (past_symbol i s b p, q)
past_chiral i s at b p q f g = rw (q, f)
past_chiral i s atat b p q f g = refl
past_chiral i s (code1 k d h) b p q f g = rw g
past_chiral i s (code2 k d e h) b p q f g = refl

read_hcount : (i : Isotope) (s : Symbol) (c : Chiral) (h : Hcount) → parts (after_chiral i s c) (hcount_s h) ≡ some (after_hcount i s c h)
unfolding parts chain part_step to_hcount hcount_s after_hcount fam_of digit_of
read_hcount i s c bald = refl
read_hcount i s c H = rw (past_chiral i s c (byte "H") H-second refl refl refl)
read_hcount i s c (Hn d) = rw (past_chiral i s c (byte "H") H-second refl refl refl, digit_of_lem d)

unfoldable pub after_head : Head → Part
unfolding after_hcount
after_head (head i s c h) = after_hcount i s c h

pub read_head : (x : Head) → parts (isotope iso0) (head_s x) ≡ some (after_head x)
unfolding head_s after_head
read_head (head i s c h) =
    parts_then (isotope_s i) _ _ _ (read_isotope i) ∙ parts_then (symbol_s s) _ _ _ (read_symbol i s) ∙ parts_then (chiral_s c) _ _ _ (read_chiral i s c) ∙ read_hcount i s c h

past_head : (x : Head) (b : ℕ) → Quiet b → part_step (after_head x) b ≡ to_charge x b
unfolding after_head after_hcount
past_head (head i s c bald) b z = past_chiral i s c b z.sec z.ats z.fam z.dig ∙ unfold to_hcount in rw z.hyd
past_head (head i s c H) b z = unfold part_step in rw z.dig
past_head (head i s c (Hn d)) b z = unfold part_step in refl

unfoldable pub after_charge : Head → Charge → Part
unfolding after_head
after_charge x neutral = after_head x
after_charge x (sign g) = signed x g
after_charge x (twice g) = doubled x g
after_charge x (num1 g d p) = charge1 x g d p
after_charge x (num2 g d e p) = charge2 x g d e p

pub read_sign : (x : Head) (g : Sign) → part_step (after_head x) (sign_s g) ≡ some (signed x g)
unfolding sign_s to_charge sign_of
read_sign x plus = past_head x 43 quiet_plus
read_sign x minus = past_head x 45 quiet_minus

read_twice : (x : Head) (g : Sign) → part_step (signed x g) (sign_s g) ≡ some (doubled x g)
unfolding sign_s part_step digit_of
read_twice x plus = refl
read_twice x minus = refl

okay_cut : (d e : Digit) → T (okay2 d e) → T (okay1 d)
unfolding okay2 okay1
okay_cut d e p = by (eqb (value d) 1) refl p
  where
    by : (t : Bool) → eqb (value d) 1 ≡ t → T (pick t (pick (leb 1 (value e)) (leb (value e) 5) false) false) → T (leb 1 (value d))
    by true h q = le→leb 1 (value d) (omega (arith, eqb-true (value d) 1 h))
    by false h q = absurd q

pub read_charge : (x : Head) (q : Charge) → parts (after_head x) (charge_s q) ≡ some (after_charge x q)
unfolding parts chain charge_s after_charge
read_charge x neutral = refl
read_charge x (sign g) = rw (read_sign x g)
read_charge x (twice g) = rw (read_sign x g) (rw (read_twice x g))
read_charge x (num1 g d p) = rw (read_sign x g) (unfold part_step in rw (digit_of_lem d, test_yes (okay1 d) p (λ p. some (charge1 x g d p)) none))
read_charge x (num2 g d e p) = rw (read_sign x g) (unfold part_step in rw (digit_of_lem d, test_yes (okay1 d) (okay_cut d e p) (λ p. some (charge1 x g d p)) none)
    (rw (digit_of_lem e, test_yes (okay2 d e) p (λ q. some (charge2 x g d e q)) none)))

past_charge : (x : Head) (q : Charge) (b : ℕ) → Quiet b → sign_of b ≡ none → ((g : Sign) → eqb b (sign_s g) ≡ false) → part_step (after_charge x q) b ≡ to_map x q b
unfolding after_charge
past_charge x neutral b z s f = past_head x b z ∙ unfold to_charge in rw s
past_charge x (sign g) b z s f = unfold part_step in rw (z.dig, f g)
past_charge x (twice g) b z s f = unfold part_step in refl
past_charge x (num1 g d p) b z s f = unfold part_step in rw z.dig
past_charge x (num2 g d e p) b z s f = unfold part_step in refl

colon_unsign : (g : Sign) → eqb (byte ":") (sign_s g) ≡ false
unfolding sign_s
colon_unsign plus = refl
colon_unsign minus = refl

close_unsign : (g : Sign) → eqb (byte "]") (sign_s g) ≡ false
unfolding sign_s
close_unsign plus = refl
close_unsign minus = refl

pub read_colon : (x : Head) (q : Charge) → part_step (after_charge x q) (byte ":") ≡ some (colon x q)
unfolding sign_of to_map
read_colon x q = past_charge x q (byte ":") quiet_colon refl colon_unsign

after_map : Head → Charge → Map → Part
unfolding after_charge
after_map x q nomap = after_charge x q
after_map x q (m1 a) = map1 x q a
after_map x q (m2 a b) = map2 x q a b
after_map x q (m3 a b c) = map3 x q a b c

read_map : (x : Head) (q : Charge) (m : Map) → parts (after_charge x q) (map_s m) ≡ some (after_map x q m)
unfolding parts chain map_s after_map
read_map x q nomap = refl
read_map x q (m1 a) = rw (read_colon x q) (unfold part_step in rw (digit_of_lem a))
read_map x q (m2 a b) = rw (read_colon x q) (unfold part_step in simp digit_of_lem)
read_map x q (m3 a b c) = rw (read_colon x q) (unfold part_step in simp digit_of_lem)

read_close : (x : Head) (q : Charge) (m : Map) → parts (after_map x q m) ((byte "]") ∷ []) ≡ some (closed x q m)
unfolding parts chain after_map to_map to_close sign_of
read_close x q nomap = rw (past_charge x q (byte "]") quiet_close refl close_unsign)
read_close x q (m1 a) = unfold part_step digit_of in refl
read_close x q (m2 a b) = unfold part_step digit_of in refl
read_close x q (m3 a b c) = unfold part_step digit_of in refl

read_bracket : (x : Head) (q : Charge) (m : Map) → parts (isotope iso0) (head_s x ++ (charge_s q ++ (map_s m ++ ((byte "]") ∷ [])))) ≡ some (closed x q m)
read_bracket x q m = parts_then (head_s x) _ _ _ (read_head x) ∙ parts_then (charge_s q) _ _ _ (read_charge x q) ∙ parts_then (map_s m) _ _ _ (read_map x q m) ∙ read_close x q m

record First (a : Atom) : Type 0 where
  byte : ℕ
  rest : List ℕ
  part : Part
  opener : Apart byte
  is : atom_s a ≡ byte ∷ rest
  begun : begins byte ≡ some part
  ends : parts part rest ≡ some (after_atom a)

begin_bare : (a : ℕ) (p : T (leads a organics)) → begins a ≡ some (bare a p)
unfolding begins
begin_bare a p = test_yes (leads a organics) p (λ p. some (bare a p)) _

begin_bracket : begins (byte "[") ≡ some (isotope iso0)
unfolding begins
begin_bracket = test_not (leads (byte "[") organics) _ _ bracket_lead

first : (a : Atom) → First a
unfolding atom_s organic_s parts chain part_step after_atom
first (organic (bare1 a p)) = let l = has1_leads a organics p in
    record { byte = a; rest = []; part = bare a l; opener = lead_apart a l; is = refl; begun = begin_bare a l; ends = refl }
first (organic (bare2 a b p)) = let l = has2_leads a b organics p in
    record { byte = a; rest = b ∷ []; part = bare a l; opener = lead_apart a l; is = refl; begun = begin_bare a l; ends = rw (test_yes (has2 a b organics) p (λ q. some (whole (bare2 a b q))) none) }
first (bracket x q m) = record { byte = (byte "["); rest = _; part = isotope iso0; opener = bracket_apart; is = refl; begun = begin_bracket; ends = read_bracket x q m }

-- the parts of an atom are states of the machine
pub atom_steps : (bs : List ℕ) (w : Where) (q p : Part) → parts q bs ≡ some p → steps (in_atom w q) bs ≡ some (in_atom w p)
unfolding steps parts chain step atom_step
atom_steps [] w q p e = let g : q ≡ p = cc in ap (λ (x : Part). some (in_atom w x)) g
atom_steps (b ∷ bs) w q p e = by (part_step q b) (λ r. atom_steps bs w r p) e
  where
    by : (o : Option Part) → ((r : Part) → parts r bs ≡ some p → steps (in_atom w r) bs ≡ some (in_atom w p)) → chain o (λ r. parts r bs) ≡ some p
        → chain (atom_step w o (part_end q) b) (λ t. steps t bs) ≡ some (in_atom w p)
    by none f g = impossible cc
    by (some r) f g = f r g

want_opener : (w : Where) (b : ℕ) → Apart b → want_step w b ≡ from_part w (begins b)
unfolding want_step
want_opener (begin top) b o = refl
want_opener (begin (inside k c elided)) b o = rw (o.bnd, o.pnt)
want_opener (begin (inside k c (bond x))) b o = refl
want_opener (begin (inside k c dot)) b o = refl
want_opener (after k c elided) b o = refl
want_opener (after k c dot) b o = refl
want_opener (after k c (bond x)) b o = rw (o.dig, o.pct)

read_atom : (w : Where) (a : Atom) → steps (want w) (atom_s a) ≡ some (in_atom w (after_atom a))
unfolding steps chain step from_part
read_atom w a = let f = first a in
    rw (f.is, want_opener w f.byte f.opener, f.begun) (atom_steps f.rest w f.part (after_atom a) f.ends)

-- ---- lines
unfoldable pub now : Around → Line → State
unfolding after_atom
now k (start a) = in_atom (begin k) (after_atom a)
now k (link c l a) = in_atom (after k c l) (after_atom a)
now k (ring c x r) = body k (ring c x r)
now k (branch c l d) = body k (branch c l d)

hop_atom : (w : Where) (a : Atom) (b : ℕ) → Free b → atom_step w (part_step (after_atom a) b) (part_end (after_atom a)) b ≡ body_step (around w) (put w a) b
unfolding atom_step part_step part_end after_atom
hop_atom w (organic (bare1 a p)) b h =
    rw (test_not (has2 a b organics) (λ q. some (whole (bare2 a b q))) none (free_use b h a p), test_yes (has1 a organics) p (λ q. some (organic (bare1 a q))) none)
hop_atom w (organic (bare2 a c p)) b h = refl
hop_atom w (bracket x q m) b h = refl

pub hop : (k : Around) (t : Line) (b : ℕ) → Free b → step (now k t) b ≡ body_step k t b
unfolding step now around put
hop k (start a) b h = hop_atom (begin k) a b h
hop k (link c l a) b h = hop_atom (after k c l) a b h
hop k (ring c x r) b h = refl
hop k (branch c l d) b h = refl

read_link : (k : Around) (c : Line) (l : Link) (a : Atom) → steps (now k c) (link_s l ++ atom_s a) ≡ some (in_atom (after k c l) (after_atom a))
unfolding steps chain link_s body_step from_part bond_s digit_of bond_of
read_link k c elided a = let f = first a in let o = f.opener in
    rw (f.is, hop k c f.byte o.fre, o.dig, o.pct, o.bnd, o.pnt, o.opn, f.begun) (atom_steps f.rest (after k c elided) f.part (after_atom a) f.ends)
read_link k c (bond x) a = rw (hop k c (bond_s x) (bond_free x), bond_undigit x, bond_unpercent x, bond_of_lem x) (read_atom (after k c (bond x)) a)
read_link k c dot a = rw (hop k c (byte ".") free_point) (read_atom (after k c dot) a)

read_ring : (k : Around) (c : Line) (x : Option BondSign) (r : Rnum) → steps (now k c) (bond?s x ++ rnum_s r) ≡ some (body k (ring c x r))
unfolding steps chain bond?s rnum_s step body_step want_step bond_s bond_of digit_of
read_ring k c none (ring1 d) = rw (hop k c (digit_s d) (digit_free d), digit_of_lem d)
read_ring k c none (ring2 d e) = rw (hop k c (byte "%") free_percent) (rw (digit_of_lem d, digit_of_lem e))
read_ring k c (some x) (ring1 d) = rw (hop k c (bond_s x) (bond_free x), bond_undigit x, bond_unpercent x, bond_of_lem x) (rw (digit_of_lem d))
read_ring k c (some x) (ring2 d e) = rw (hop k c (bond_s x) (bond_free x), bond_undigit x, bond_unpercent x, bond_of_lem x) (rw (digit_of_lem d, digit_of_lem e))

pub read_open : (k : Around) (c : Line) (l : Link) (ys : List ℕ) → steps (now k c) ((byte "(") ∷ (link_s l ++ ys)) ≡ steps (want (begin (inside k c l))) ys
unfolding steps chain step body_step want_step link_s bond_s digit_of bond_of
read_open k c elided ys = rw (hop k c (byte "(") free_lp)
read_open k c (bond x) ys = rw (hop k c (byte "(") free_lp) (rw (bond_of_lem x))
read_open k c dot ys = rw (hop k c (byte "(") free_lp)

read_shut : (k : Around) (c : Line) (l : Link) (d : Line) → steps (now (inside k c l) d) ((byte ")") ∷ []) ≡ some (body k (branch c l d))
unfolding steps chain body_step shut digit_of bond_of begins leads organics
read_shut k c l d = rw (hop (inside k c l) d (byte ")") free_rp)

-- a bracket is opened after a link
pub open_link : (k : Around) (c : Line) (l : Link) → steps (now k c) (link_s l ++ ((byte "[") ∷ [])) ≡ some (in_atom (after k c l) (isotope iso0))
unfolding steps chain link_s body_step from_part step want_step digit_of bond_of
open_link k c elided = rw (hop k c (byte "[") bracket_apart.fre, begin_bracket)
open_link k c (bond x) = rw (hop k c (bond_s x) (bond_free x)) (unfold digit_of in rw (bond_undigit x, bond_unpercent x, bond_of_lem x, begin_bracket))
open_link k c dot = rw (hop k c (byte ".") free_point, begin_bracket)

pub open_first : (w : Where) → steps (want w) ((byte "[") ∷ []) ≡ some (in_atom w (isotope iso0))
unfolding steps chain step from_part
open_first w = rw (want_opener w (byte "[") bracket_apart, begin_bracket)

-- EVERY TREE IS READ
pub read_line : (t : Line) (k : Around) → steps (want (begin k)) (spell t) ≡ some (now k t)
unfolding spell now
read_line (start a) k = read_atom (begin k) a
read_line (link c l a) k = steps_then (spell c) _ _ _ (read_line c k) ∙ read_link k c l a
read_line (ring c x r) k = steps_then (spell c) _ _ _ (read_line c k) ∙ read_ring k c x r
read_line (branch c l d) k =
    steps_then (spell c) _ _ _ (read_line c k) ∙ read_open k c l (spell d ++ ((byte ")") ∷ [])) ∙ steps_then (spell d) _ _ _ (read_line d (inside k c l)) ∙ read_shut k c l d

pub now_ends : (t : Line) → ending (now top t) ≡ some t
unfolding now ending atom_end topmost around put part_end after_atom
now_ends (start (organic (bare1 a p))) = rw (test_yes (has1 a organics) p (λ q. some (organic (bare1 a q))) none)
now_ends (start (organic (bare2 a b p))) = refl
now_ends (start (bracket x q m)) = refl
now_ends (link c l (organic (bare1 a p))) = rw (test_yes (has1 a organics) p (λ q. some (organic (bare1 a q))) none)
now_ends (link c l (organic (bare2 a b p))) = refl
now_ends (link c l (bracket x q m)) = refl
now_ends (ring c x r) = refl
now_ends (branch c l d) = refl
