-- Each state stands for the bytes read so far; so a tree that is answered is spelled as the text. Assumes
-- nothing.
use mathlib.Core.Path.{◌≡◌, refl, sym, ap, ap₂, ◌∙◌, subst}
use mathlib.Core.List.{List, [], ◌∷◌, ◌++◌, append_assoc, append-nil}
use mathlib.Core.Option.{Option, none, some}
use mathlib.Core.Bool.{Bool, true, false}
use Prim.Native.Nat.{ℕ}
use lib.Dec.{eqb, T}
use borrow.Author.Tests.{eqb-true}
use Rattle.feature.specs.Pick.{pick}
use Rattle.feature.specs.Text.{byte}
use Rattle.grammar.specs.Names.{has1, has2}
use Rattle.grammar.specs.Grammar.{Digit, BondSign, organics, symbol_names, Symbol, short, organic_s, Isotope, iso0, iso1, iso2, iso3, Chiral, flat, at, atat, code1, code2, Class, valid1, valid2, class1, class2, Hcount, bald, H, Hn, Head, head, head_s, Sign, sign_s, okay1, okay2, Charge, neutral, sign, twice, num1, num2, charge_s, Map, nomap, m1, m2, m3, map_s, Atom, bracket, elided, bond, dot, Line, digit_s, bond_s, symbol_s, isotope_s, chiral_s, hcount_s, atom_s, rnum_s, bond?s, link_s, spell}
use Rattle.grammar.proofs.Machine.{test, leads, on, digit_of, bond_of, Part, bare, whole, isotope, lead, symbol, chiral1, chiral2, family, class, coded1, coded2, fam_of, class_of, hcount, hcount_n, signed, doubled, charge1, charge2, colon, map1, map2, map3, sign_of, to_map, to_charge, closed, begins, grow, to_close, to_hcount, to_chiral, to_symbol, part_step, part_end, Around, top, inside, Where, begin, after, around, put, State, want, in_atom, body, percent, percent1, from_part, shut, body_step, want_step, atom_step, step, topmost, atom_end, ending}

-- a guard, by the two outcomes of its test
pub guard : {X : Type 0} (P : X → Type 0) (a b : ℕ) (x y : X) → (a ≡ b → P x) → P y → P (pick (eqb a b) x y)
guard P a b x y f g = by (eqb a b) refl
  where
    by : (t : Bool) → eqb a b ≡ t → P (pick t x y)
    by true e = f (eqb-true a b e)
    by false e = g

pub guard_on : {A X : Type 0} (P : X → Type 0) (o : Option A) (f : A → X) (y : X) → ((a : A) → o ≡ some a → P (f a)) → P y → P (on o f y)
guard_on P none f y p q = q
guard_on P (some a) f y p q = p a refl

pub guard_t : {X : Type 0} (P : X → Type 0) (t : Bool) (f : T t → X) (y : X) → ((q : T t) → P (f q)) → P y → P (test t f y)
guard_t P true f y p q = p tt
guard_t P false f y p q = q

-- the digit of a byte
Digital : ℕ → Option Digit → Type 0
Digital b none = Unit {0}
Digital b (some d) = b ≡ digit_s d

digital : (b : ℕ) → Digital b (digit_of b)
unfolding Digital digit_of digit_s
digital b =
    guard (Digital b) b 48 _ _ (λ e. e) (guard (Digital b) b 49 _ _ (λ e. e) (guard (Digital b) b 50 _ _ (λ e. e) (guard (Digital b) b 51 _ _ (λ e. e)
    (guard (Digital b) b 52 _ _ (λ e. e) (guard (Digital b) b 53 _ _ (λ e. e) (guard (Digital b) b 54 _ _ (λ e. e) (guard (Digital b) b 55 _ _ (λ e. e)
    (guard (Digital b) b 56 _ _ (λ e. e) (guard (Digital b) b 57 _ _ (λ e. e) tt)))))))))

pub digit_is : (b : ℕ) (d : Digit) → digit_of b ≡ some d → b ≡ digit_s d
unfolding Digital
digit_is b d e = subst (Digital b) e (digital b)

Bonded : ℕ → Option BondSign → Type 0
Bonded b none = Unit {0}
Bonded b (some d) = b ≡ bond_s d

bonded : (b : ℕ) → Bonded b (bond_of b)
unfolding Bonded bond_of bond_s
bonded b = let P = Bonded b in guard P b 45 _ _ (λ e. e) (guard P b (byte "=") _ _ (λ e. e) (guard P b (byte "#") _ _ (λ e. e) (guard P b 36 _ _ (λ e. e) (guard P b 58 _ _ (λ e. e) (guard P b 47 _ _ (λ e. e) (guard P b 92 _ _ (λ e. e) tt))))))

pub bond_is : (b : ℕ) (d : BondSign) → bond_of b ≡ some d → b ≡ bond_s d
unfolding Bonded
bond_is b d e = subst (Bonded b) e (bonded b)

Signed : ℕ → Option Sign → Type 0
Signed b none = Unit {0}
Signed b (some g) = b ≡ sign_s g

signs : (b : ℕ) → Signed b (sign_of b)
unfolding Signed sign_of sign_s
signs b = guard (Signed b) b 43 _ _ (λ e. e) (guard (Signed b) b 45 _ _ (λ e. e) tt)

sign_is : (b : ℕ) (g : Sign) → sign_of b ≡ some g → b ≡ sign_s g
unfolding Signed
sign_is b g e = subst (Signed b) e (signs b)

Familiar : ℕ → Option Class → Type 0
Familiar b none = Unit {0}
Familiar b (some k) = b ≡ class1 k

familiar : (b : ℕ) → Familiar b (fam_of b)
unfolding Familiar fam_of class1
familiar b = let P = Familiar b in guard P b (byte "A") _ _ (λ e. e) (guard P b (byte "O") _ _ (λ e. e) (guard P b (byte "S") _ _ (λ e. e) (guard P b (byte "T") _ _ (λ e. e) tt)))

fam_is : (b : ℕ) (k : Class) → fam_of b ≡ some k → b ≡ class1 k
unfolding Familiar
fam_is b k e = subst (Familiar b) e (familiar b)

Classy : ℕ → ℕ → Option Class → Type 0
Classy a b none = Unit {0}
Classy a b (some k) = (a ≡ class1 k) × (b ≡ class2 k)

classy : (a b : ℕ) → Classy a b (class_of a b)
unfolding Classy class_of class1 class2
classy a b = let P = Classy a b in
    guard P a (byte "T") _ _ (λ e. guard P b (byte "B") _ _ (λ f. (e, f)) (guard P b (byte "H") _ _ (λ f. (e, f)) tt))
    (guard P a (byte "A") _ _ (λ e. guard P b (byte "L") _ _ (λ f. (e, f)) tt)
    (guard P a (byte "S") _ _ (λ e. guard P b (byte "P") _ _ (λ f. (e, f)) tt)
    (guard P a (byte "O") _ _ (λ e. guard P b (byte "H") _ _ (λ f. (e, f)) tt) tt)))

class_is : (a b : ℕ) (k : Class) → class_of a b ≡ some k → (a ≡ class1 k) × (b ≡ class2 k)
unfolding Classy
class_is a b k e = subst (Classy a b) e (classy a b)

-- the bytes of an atom in the making
unfoldable pub opened : Isotope → Symbol → Chiral → Hcount → List ℕ
opened i s c h = (byte "[") ∷ (isotope_s i ++ (symbol_s s ++ (chiral_s c ++ hcount_s h)))

unfoldable pub tailed : Head → Charge → Map → List ℕ
tailed x q m = (byte "[") ∷ (head_s x ++ (charge_s q ++ map_s m))

unfoldable pub part_s : Part → List ℕ
part_s (bare a p) = a ∷ []
part_s (whole s) = organic_s s
part_s (isotope i) = (byte "[") ∷ isotope_s i
part_s (lead i a p) = (byte "[") ∷ (isotope_s i ++ (a ∷ []))
part_s (symbol i s) = opened i s flat bald
part_s (chiral1 i s) = opened i s at bald
part_s (chiral2 i s) = opened i s atat bald
part_s (family i s k) = opened i s at bald ++ (class1 k ∷ [])
part_s (class i s k) = opened i s at bald ++ (class1 k ∷ class2 k ∷ [])
part_s (coded1 i s k d p) = opened i s (code1 k d p) bald
part_s (coded2 i s k d e p) = opened i s (code2 k d e p) bald
part_s (hcount i s c) = opened i s c H
part_s (hcount_n i s c d) = opened i s c (Hn d)
part_s (signed x g) = tailed x (sign g) nomap
part_s (doubled x g) = tailed x (twice g) nomap
part_s (charge1 x g d p) = tailed x (num1 g d p) nomap
part_s (charge2 x g d e p) = tailed x (num2 g d e p) nomap
part_s (colon x q) = tailed x q nomap ++ ((byte ":") ∷ [])
part_s (map1 x q a) = tailed x q (m1 a)
part_s (map2 x q a b) = tailed x q (m2 a b)
part_s (map3 x q a b c) = tailed x q (m3 a b c)
part_s (closed x q m) = atom_s (bracket x q m)

unfoldable pub Grew : List ℕ → ℕ → Option Part → Type 0
Grew w b none = Unit {0}
Grew w b (some q) = part_s q ≡ w ++ (b ∷ [])

pub begins_ok : (b : ℕ) → Grew [] b (begins b)
unfolding Grew begins part_s organic_s isotope_s
begins_ok b = guard_t (Grew [] b) (leads b organics) _ _ (λ q. refl) (guard (Grew [] b) b (byte "[") _ _ (λ e. rw e) tt)

close_ok : (x : Head) (q : Charge) (m : Map) (b : ℕ) → Grew (tailed x q m) b (to_close x q m b)
unfolding Grew to_close part_s tailed atom_s
close_ok x q m b = guard (Grew (tailed x q m) b) b (byte "]") _ _ (λ e. simp (e, append_assoc)) tt

map_ok : (x : Head) (q : Charge) (b : ℕ) → Grew (tailed x q nomap) b (to_map x q b)
unfolding Grew to_map part_s
map_ok x q b = guard (Grew (tailed x q nomap) b) b (byte ":") _ _ (λ e. rw e) (close_ok x q nomap b)

charge_ok : (x : Head) (b : ℕ) → Grew (tailed x neutral nomap) b (to_charge x b)
unfolding Grew to_charge part_s tailed charge_s map_s
charge_ok x b = guard_on (Grew (tailed x neutral nomap) b) (sign_of b) _ _ (λ g e. simp (sign_is b g e, append-nil)) (map_ok x neutral b)

pub untailed : (i : Isotope) (s : Symbol) (c : Chiral) (h : Hcount) → tailed (head i s c h) neutral nomap ≡ opened i s c h
unfolding tailed opened head_s charge_s map_s
untailed i s c h = simp append-nil

headed_ok : (i : Isotope) (s : Symbol) (c : Chiral) (h : Hcount) (b : ℕ) → Grew (opened i s c h) b (to_charge (head i s c h) b)
headed_ok i s c h b = rw untailed at (charge_ok (head i s c h) b)

hcount_ok : (i : Isotope) (s : Symbol) (c : Chiral) (b : ℕ) → Grew (opened i s c bald) b (to_hcount i s c b)
unfolding Grew to_hcount part_s opened hcount_s
hcount_ok i s c b = guard (Grew (opened i s c bald) b) b (byte "H") _ _ (λ e. simp (e, append_assoc, append-nil)) (headed_ok i s c bald b)

chiral_ok : (i : Isotope) (s : Symbol) (b : ℕ) → Grew (opened i s flat bald) b (to_chiral i s b)
unfolding Grew to_chiral part_s opened hcount_s chiral_s
chiral_ok i s b = guard (Grew (opened i s flat bald) b) b (byte "@") _ _ (λ e. simp (e, append_assoc, append-nil)) (hcount_ok i s flat b)

symbol_ok : (i : Isotope) (b : ℕ) → Grew (part_s (isotope i)) b (to_symbol i b)
unfolding Grew to_symbol part_s
symbol_ok i b = guard_t (Grew (part_s (isotope i)) b) (leads b symbol_names) _ _ (λ q. refl) tt

grow_ok : (i : Isotope) (d : Digit) → Grew (part_s (isotope i)) (digit_s d) (grow i d)
unfolding Grew grow part_s isotope_s
grow_ok iso0 d = refl
grow_ok (iso1 a) d = refl
grow_ok (iso2 a b) d = refl
grow_ok (iso3 a b c) d = tt

snoc2 : (w : List ℕ) (a b : ℕ) → w ++ (a ∷ b ∷ []) ≡ (w ++ (a ∷ [])) ++ (b ∷ [])
snoc2 w a b = simp append_assoc

pub part_ok : (q : Part) (b : ℕ) → Grew (part_s q) b (part_step q b)
unfolding Grew part_step part_s opened hcount_s chiral_s symbol_s organic_s tailed charge_s map_s
part_ok (bare a p) b = guard_t (Grew (part_s (bare a p)) b) (has2 a b organics) _ _ (λ q. refl) tt
part_ok (whole s) b = tt
part_ok (isotope i) b = guard_on (Grew (part_s (isotope i)) b) (digit_of b) _ _ (λ d e. rw (digit_is b d e) (grow_ok i d)) (symbol_ok i b)
part_ok (lead i a p) b = guard_t (Grew (part_s (lead i a p)) b) (has2 a b symbol_names) _ _ (λ q. simp append_assoc) (guard_t (Grew (part_s (lead i a p)) b) (has1 a symbol_names) _ _ (λ q. chiral_ok i (short a q) b) tt)
part_ok (symbol i s) b = chiral_ok i s b
part_ok (chiral1 i s) b = guard (Grew (part_s (chiral1 i s)) b) b (byte "@") _ _ (λ e. simp (e, append_assoc, append-nil))
    (guard_on (Grew (part_s (chiral1 i s)) b) (fam_of b) _ _ (λ k e. rw (fam_is b k e)) (hcount_ok i s at b))
part_ok (family i s k) b = guard_on (Grew (part_s (family i s k)) b) (class_of (class1 k) b) _ _ (λ c e. snoc2 (opened i s at bald) (class1 c) (class2 c) ∙ ap₂ (λ (x y : ℕ). (opened i s at bald ++ (x ∷ [])) ++ (y ∷ [])) (sym (class_is (class1 k) b c e).0) (sym (class_is (class1 k) b c e).1)) tt
part_ok (class i s k) b = guard_on (Grew (part_s (class i s k)) b) (digit_of b) _ _ (λ d e. guard_t (Grew (part_s (class i s k)) b) (valid1 k d) _ _ (λ q. simp (digit_is b d e, append_assoc, append-nil)) tt) tt
part_ok (coded1 i s k d p) b = guard_on (Grew (part_s (coded1 i s k d p)) b) (digit_of b) _ _
    (λ f e. guard_t (Grew (part_s (coded1 i s k d p)) b) (valid2 k d f) _ _ (λ q. simp (digit_is b f e, append_assoc, append-nil)) tt) (hcount_ok i s (code1 k d p) b)
part_ok (coded2 i s k d e p) b = hcount_ok i s (code2 k d e p) b
part_ok (chiral2 i s) b = hcount_ok i s atat b
part_ok (hcount i s c) b = guard_on (Grew (part_s (hcount i s c)) b) (digit_of b) _ _ (λ d e. simp (digit_is b d e, append_assoc)) (headed_ok i s c H b)
part_ok (hcount_n i s c d) b = headed_ok i s c (Hn d) b
part_ok (signed x g) b = let P = Grew (part_s (signed x g)) b in
    guard_on P (digit_of b) _ _ (λ d e. guard_t P (okay1 d) _ _ (λ q. simp (digit_is b d e, append_assoc, append-nil)) tt) (guard P b (sign_s g) _ _ (λ e. simp (e, append_assoc, append-nil)) (map_ok x (sign g) b))
part_ok (doubled x g) b = map_ok x (twice g) b
part_ok (charge1 x g d p) b = let P = Grew (part_s (charge1 x g d p)) b in
    guard_on P (digit_of b) _ _ (λ f e. guard_t P (okay2 d f) _ _ (λ q. simp (digit_is b f e, append_assoc, append-nil)) tt) (map_ok x (num1 g d p) b)
part_ok (charge2 x g d e p) b = map_ok x (num2 g d e p) b
part_ok (colon x q) b = guard_on (Grew (part_s (colon x q)) b) (digit_of b) _ _ (λ d e. simp (digit_is b d e, append_assoc, append-nil)) tt
part_ok (map1 x q a) b = guard_on (Grew (part_s (map1 x q a)) b) (digit_of b) _ _ (λ d e. simp (digit_is b d e, append_assoc)) (close_ok x q (m1 a) b)
part_ok (map2 x q a c) b = guard_on (Grew (part_s (map2 x q a c)) b) (digit_of b) _ _ (λ d e. simp (digit_is b d e, append_assoc)) (close_ok x q (m2 a c) b)
part_ok (map3 x q a c d) b = close_ok x q (m3 a c d) b
part_ok (closed x q m) b = tt

unfoldable pub Ended : Part → Option Atom → Type 0
Ended q none = Unit {0}
Ended q (some a) = atom_s a ≡ part_s q

pub ended : (q : Part) → Ended q (part_end q)
unfolding Ended part_end part_s atom_s organic_s
ended (bare a p) = guard_t (Ended (bare a p)) (has1 a organics) _ _ (λ q. refl) tt
ended (whole s) = refl
ended (isotope i) = tt
ended (lead i a p) = tt
ended (symbol i s) = tt
ended (chiral1 i s) = tt
ended (chiral2 i s) = tt
ended (family i s k) = tt
ended (class i s k) = tt
ended (coded1 i s k d p) = tt
ended (coded2 i s k d e p) = tt
ended (hcount i s c) = tt
ended (hcount_n i s c d) = tt
ended (signed x g) = tt
ended (doubled x g) = tt
ended (charge1 x g d p) = tt
ended (charge2 x g d e p) = tt
ended (colon x q) = tt
ended (map1 x q a) = tt
ended (map2 x q a b) = tt
ended (map3 x q a b c) = tt
ended (closed x q m) = refl

-- the bytes of a line in the making
unfoldable pub around_s : Around → List ℕ
around_s top = []
around_s (inside k c l) = around_s k ++ (spell c ++ ((byte "(") ∷ link_s l))

unfoldable pub where_s : Where → List ℕ
where_s (begin k) = around_s k
where_s (after k c l) = around_s k ++ (spell c ++ link_s l)

unfoldable pub sofar : State → List ℕ
sofar (want w) = where_s w
sofar (in_atom w q) = where_s w ++ part_s q
sofar (body k c) = around_s k ++ spell c
sofar (percent k c x) = around_s k ++ (spell c ++ (bond?s x ++ ((byte "%") ∷ [])))
sofar (percent1 k c x d) = around_s k ++ (spell c ++ (bond?s x ++ ((byte "%") ∷ digit_s d ∷ [])))

unfoldable pub Moved : List ℕ → ℕ → Option State → Type 0
Moved w b none = Unit {0}
Moved w b (some s) = sofar s ≡ w ++ (b ∷ [])

pub put_ok : (w : Where) (a : Atom) → around_s (around w) ++ spell (put w a) ≡ where_s w ++ atom_s a
unfolding around put where_s spell
put_ok (begin k) a = refl
put_ok (after k c l) a = simp append_assoc

start_ok : (w : Where) (b : ℕ) (o : Option Part) → Grew [] b o → Moved (where_s w) b (from_part w o)
unfolding from_part Moved Grew sofar
start_ok w b none g = tt
start_ok w b (some q) g = rw g

shut_ok : (k : Around) (c : Line) → Moved (around_s k ++ spell c) (byte ")") (shut k c)
unfolding shut Moved sofar spell around_s
shut_ok top c = tt
shut_ok (inside k c l) d = simp append_assoc

-- an elided link adds nothing
elided_ok : (k : Around) (c : Line) → where_s (after k c elided) ≡ around_s k ++ spell c
unfolding where_s link_s
elided_ok k c = simp append-nil

body_ok : (k : Around) (c : Line) (b : ℕ) → Moved (around_s k ++ spell c) b (body_step k c b)
unfolding body_step Moved sofar spell where_s around_s link_s bond?s rnum_s from_part
body_ok k c b =
    let P = Moved (around_s k ++ spell c) b in
    guard_on P (digit_of b) _ _ (λ d e. simp (digit_is b d e, append_assoc))
    (guard P b (byte "%") _ _ (λ e. simp (e, append_assoc))
    (guard_on P (bond_of b) _ _ (λ d e. simp (bond_is b d e, append_assoc))
    (guard P b (byte ".") _ _ (λ e. simp (e, append_assoc))
    (guard P b (byte "(") _ _ (λ e. simp (e, append_assoc))
    (guard_on P (begins b) _ _ (λ q e. rw (elided_ok k c, e) at (start_ok (after k c elided) b (begins b) (begins_ok b))) (guard P b (byte ")") _ _ (λ e. rw e (shut_ok k c)) tt))))))

want_ok : (w : Where) (b : ℕ) → Moved (where_s w) b (want_step w b)
unfolding want_step Moved sofar spell where_s around_s link_s bond?s rnum_s
want_ok (begin top) b = start_ok (begin top) b (begins b) (begins_ok b)
want_ok (begin (inside k c elided)) b =
    let w = begin (inside k c elided) in let P = Moved (where_s w) b in
    guard_on P (bond_of b) _ _ (λ d e. simp (bond_is b d e, append_assoc)) (guard P b (byte ".") _ _ (λ e. simp (e, append_assoc)) (start_ok w b (begins b) (begins_ok b)))
want_ok (begin (inside k c (bond x))) b = start_ok _ b (begins b) (begins_ok b)
want_ok (begin (inside k c dot)) b = start_ok _ b (begins b) (begins_ok b)
want_ok (after k c elided) b = start_ok _ b (begins b) (begins_ok b)
want_ok (after k c dot) b = start_ok _ b (begins b) (begins_ok b)
want_ok (after k c (bond x)) b =
    let w = after k c (bond x) in let P = Moved (where_s w) b in
    guard_on P (digit_of b) _ _ (λ d e. simp (digit_is b d e, append_assoc)) (guard P b (byte "%") _ _ (λ e. simp (e, append_assoc)) (start_ok w b (begins b) (begins_ok b)))

atom_ok : (w : Where) (q : Part) (b : ℕ) (o : Option Part) (e : Option Atom) → Grew (part_s q) b o → Ended q e → Moved (where_s w ++ part_s q) b (atom_step w o e b)
unfolding atom_step Moved Grew Ended sofar
atom_ok w q b (some p) e g d = rw (g, append_assoc)
atom_ok w q b none (some a) g d = subst (λ (l : List ℕ). Moved l b (body_step (around w) (put w a) b)) (put_ok w a ∙ ap (λ (l : List ℕ). where_s w ++ l) d) (body_ok (around w) (put w a) b)
atom_ok w q b none none g d = tt

pub step_ok : (s : State) (b : ℕ) → Moved (sofar s) b (step s b)
unfolding step Moved sofar spell rnum_s
step_ok (want w) b = want_ok w b
step_ok (in_atom w q) b = atom_ok w q b (part_step q b) (part_end q) (part_ok q b) (ended q)
step_ok (body k c) b = body_ok k c b
step_ok (percent k c x) b = guard_on (Moved (sofar (percent k c x)) b) (digit_of b) _ _ (λ d e. simp (digit_is b d e, append_assoc)) tt
step_ok (percent1 k c x f) b = guard_on (Moved (sofar (percent1 k c x f)) b) (digit_of b) _ _ (λ d e. simp (digit_is b d e, append_assoc)) tt

-- an answered tree
unfoldable pub Told : List ℕ → Option Line → Type 0
Told w none = Unit {0}
Told w (some t) = spell t ≡ w

top_ok : (k : Around) (c : Line) → Told (around_s k ++ spell c) (topmost k c)
unfolding Told topmost around_s
top_ok top c = refl
top_ok (inside k d l) c = tt

atom_end_lem : (w : Where) (q : Part) (e : Option Atom) → Ended q e → Told (where_s w ++ part_s q) (atom_end w e)
unfolding atom_end Told Ended
atom_end_lem w q none d = tt
atom_end_lem w q (some a) d = subst (λ (l : List ℕ). Told l (topmost (around w) (put w a))) (put_ok w a ∙ ap (λ (l : List ℕ). where_s w ++ l) d) (top_ok (around w) (put w a))

pub ending_ok : (s : State) → Told (sofar s) (ending s)
unfolding ending Told sofar
ending_ok (want w) = tt
ending_ok (in_atom w q) = atom_end_lem w q (part_end q) (ended q)
ending_ok (body k c) = top_ok k c
ending_ok (percent k c x) = tt
ending_ok (percent1 k c x d) = tt
