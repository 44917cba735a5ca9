-- Laws of tables of names: for any table, but for a few tests that are computed once. Assumes nothing.
use mathlib.Core.Path.{◌≡◌, refl, sym, ap, subst}
use mathlib.Core.List.{List, [], ◌∷◌}
use mathlib.Core.Option.{Option, none, some}
use mathlib.Core.Bool.{Bool, true, false}
use Prim.Native.Nat.{ℕ}
use lib.Dec.{eqb, T, T_prop}
use borrow.Author.Tests.{eqb-true, eq-eqb}
use Rattle.feature.specs.Pick.{pick}
use Rattle.feature.specs.Text.{byte}
use Rattle.feature.proofs.Cases.{impossible}
use Rattle.grammar.specs.Names.{Name, one, two, has1, has2}
use Rattle.grammar.specs.Grammar.{known, Digit, d0, d1, d2, d3, d4, d5, d6, d7, d8, d9, digit_s, bond_s, BondSign, single, double, triple, quadruple, aromatic, up, down, organics, symbol_names}
use Rattle.grammar.proofs.Machine.{test, leads, digit_of, bond_of, fam_of}

pub test_yes : {X : Type 0} (t : Bool) (p : T t) (f : T t → X) (y : X) → test t f y ≡ f p
test_yes true p f y = ap f (T_prop true tt p)
test_yes false p f y = absurd p

pub test_not : {X : Type 0} (t : Bool) (f : T t → X) (y : X) → t ≡ false → test t f y ≡ y
test_not true f y e = impossible cc
test_not false f y e = refl

either : (t u v : Bool) → T (pick t true u) → (T u → T v) → T (pick t true v)
either true u v p f = tt
either false u v p f = f p

later : (t u : Bool) → T u → T (pick t true u)
later true u p = tt
later false u p = p

pub has1_leads : (a : ℕ) (l : List Name) → T (has1 a l) → T (leads a l)
unfolding has1 leads
has1_leads a [] p = p
has1_leads a (one x ∷ l) p = either (eqb a x) (has1 a l) (leads a l) p (has1_leads a l)
has1_leads a (two x y ∷ l) p = later (eqb a x) (leads a l) (has1_leads a l p)

pub has2_leads : (a b : ℕ) (l : List Name) → T (has2 a b l) → T (leads a l)
unfolding has2 leads
has2_leads a b [] p = p
has2_leads a b (one x ∷ l) p = later (eqb a x) (leads a l) (has2_leads a b l p)
has2_leads a b (two x y ∷ l) p = by (eqb a x) p (has2_leads a b l)
  where
    by : (t : Bool) → T (pick t (pick (eqb b y) true (has2 a b l)) (has2 a b l)) → (T (has2 a b l) → T (leads a l)) → T (pick t true (leads a l))
    by true q f = tt
    by false q f = f q

-- a first letter is the first letter of some name
pub data Led (a : ℕ) (l : List Name) : Type 0 where
  led1 : T (has1 a l) → Led a l
  led2 : (b : ℕ) → T (has2 a b l) → Led a l

pub led : (a : ℕ) (l : List Name) → T (leads a l) → Led a l
unfolding has1 has2 leads
led a [] p = absurd p
led a (one x ∷ l) p = by (eqb a x) refl p (led a l)
  where
    up : Led a l → Led a (one x ∷ l)
    up (led1 q) = led1 (later (eqb a x) (has1 a l) q)
    up (led2 b q) = led2 b q

    by : (t : Bool) → eqb a x ≡ t → T (pick t true (leads a l)) → (T (leads a l) → Led a l) → Led a (one x ∷ l)
    by true e q f = led1 (rw e tt)
    by false e q f = up (f q)
led a (two x y ∷ l) p = by (eqb a x) refl p (led a l)
  where
    up : eqb a x ≡ false → Led a l → Led a (two x y ∷ l)
    up e (led1 q) = led1 q
    up e (led2 b q) = led2 b (rw e q)

    by : (t : Bool) → eqb a x ≡ t → T (pick t true (leads a l)) → (T (leads a l) → Led a l) → Led a (two x y ∷ l)
    by true e q f = led2 y (rw (e, eq-eqb y y refl) tt)
    by false e q f = up e (f q)

-- second letters
unfoldable pub seconds : ℕ → List Name → Bool
seconds b [] = false
seconds b (one x ∷ l) = seconds b l
seconds b (two x y ∷ l) = pick (eqb b y) true (seconds b l)

pub no_second : (a b : ℕ) (l : List Name) → seconds b l ≡ false → has2 a b l ≡ false
unfolding has2 seconds
no_second a b [] e = refl
no_second a b (one x ∷ l) e = no_second a b l e
no_second a b (two x y ∷ l) e = by (eqb a x) (eqb b y) e (no_second a b l)
  where
    by : (s t : Bool) → pick t true (seconds b l) ≡ false → (seconds b l ≡ false → has2 a b l ≡ false) → pick s (pick t true (has2 a b l)) (has2 a b l) ≡ false
    by true true g f = g
    by false true g f = impossible cc
    by true false g f = f g
    by false false g f = f g

-- first letters are no digits
blank : Option Digit → Bool
blank none = true
blank (some d) = false

undigits : List Name → Bool
unfolding blank
undigits [] = true
undigits (one x ∷ l) = pick (blank (digit_of x)) (undigits l) false
undigits (two x y ∷ l) = pick (blank (digit_of x)) (undigits l) false

empty : (o : Option Digit) (t : Bool) → pick (blank o) t false ≡ true → (o ≡ none) × (t ≡ true)
unfolding blank
empty none t e = (refl, e)
empty (some d) t e = impossible cc

first_no : (a x : ℕ) (t u : Bool) → pick (blank (digit_of x)) t false ≡ true → T (pick (eqb a x) true u) → (t ≡ true → T u → digit_of a ≡ none) → digit_of a ≡ none
first_no a x t u h p f = by (eqb a x) refl p
  where
    by : (s : Bool) → eqb a x ≡ s → T (pick s true u) → digit_of a ≡ none
    by true e q = rw (eqb-true a x e) (empty (digit_of x) t h).0
    by false e q = f (empty (digit_of x) t h).1 q

undigit : (a : ℕ) (l : List Name) → undigits l ≡ true → T (leads a l) → digit_of a ≡ none
unfolding undigits blank leads
undigit a [] u p = absurd p
undigit a (one x ∷ l) u p = first_no a x (undigits l) (leads a l) u p (undigit a l)
undigit a (two x y ∷ l) u p = first_no a x (undigits l) (leads a l) u p (undigit a l)

-- THE TESTS OF THE TABLE, computed
pub name_undigit : (a : ℕ) → T (leads a symbol_names) → digit_of a ≡ none
unfolding undigits blank digit_of symbol_names known
name_undigit a p = undigit a symbol_names refl p

pub at_second : seconds (byte "@") symbol_names ≡ false
unfolding seconds symbol_names known
at_second = refl

pub H-second : seconds (byte "H") symbol_names ≡ false
unfolding seconds symbol_names known
H-second = refl

-- a byte that only a charge, a class or the end of a bracket begins
pub record Quiet (b : ℕ) : Type 0 where
  pub sec : seconds b symbol_names ≡ false
  pub ats : eqb b (byte "@") ≡ false
  pub fam : fam_of b ≡ none
  pub dig : digit_of b ≡ none
  pub hyd : eqb b (byte "H") ≡ false

pub quiet_plus : Quiet 43
unfolding seconds symbol_names known fam_of digit_of
quiet_plus = record { sec = refl; ats = refl; fam = refl; dig = refl; hyd = refl }

pub quiet_minus : Quiet 45
unfolding seconds symbol_names known fam_of digit_of
quiet_minus = record { sec = refl; ats = refl; fam = refl; dig = refl; hyd = refl }

pub quiet_colon : Quiet (byte ":")
unfolding seconds symbol_names known fam_of digit_of
quiet_colon = record { sec = refl; ats = refl; fam = refl; dig = refl; hyd = refl }

pub quiet_close : Quiet (byte "]")
unfolding seconds symbol_names known fam_of digit_of
quiet_close = record { sec = refl; ats = refl; fam = refl; dig = refl; hyd = refl }

-- ---- the table of atoms without brackets
not_lead : (a c : ℕ) (l : List Name) → leads c l ≡ false → T (leads a l) → eqb a c ≡ false
not_lead a c l h p = by (eqb a c) refl
  where
    by : (t : Bool) → eqb a c ≡ t → t ≡ false
    by true e = absurd (subst T h (subst (λ (x : ℕ). T (leads x l)) (eqb-true a c e) p))
    by false e = refl

-- a byte that is no second letter after a name of one letter
pub Free : ℕ → Type 0
Free b = (a : ℕ) → T (has1 a organics) → has2 a b organics ≡ false

pub free : (b : ℕ) → seconds b organics ≡ false → Free b
unfolding Free
free b e a p = no_second a b organics e

pub free_use : (b : ℕ) → Free b → (a : ℕ) → T (has1 a organics) → has2 a b organics ≡ false
unfolding Free
free_use b f = f

-- no name of two letters is a name of one letter and the first letter of a name
clashes : ℕ → List Name → List Name → Bool
clashes a l [] = false
clashes a l (one y ∷ m) = pick (has2 a y l) true (clashes a l m)
clashes a l (two y z ∷ m) = pick (has2 a y l) true (clashes a l m)

clash : List Name → List Name → Bool
unfolding clashes
clash l [] = false
clash l (one x ∷ m) = pick (clashes x l l) true (clash l m)
clash l (two x y ∷ m) = clash l m

neither : (t u : Bool) → pick t true u ≡ false → (t ≡ false) × (u ≡ false)
neither true u e = impossible cc
neither false u e = (refl, e)

here_or : (a x : ℕ) (u : Bool) (P : ℕ → Type 0) → T (pick (eqb a x) true u) → P x → (T u → P a) → P a
here_or a x u P p h f = by (eqb a x) refl p
  where
    by : (t : Bool) → eqb a x ≡ t → T (pick t true u) → P a
    by true e q = subst P (sym (eqb-true a x e)) h
    by false e q = f q

clashes_free : (a b : ℕ) (l m : List Name) → clashes a l m ≡ false → T (leads b m) → has2 a b l ≡ false
unfolding clashes leads
clashes_free a b l [] e p = absurd p
clashes_free a b l (one y ∷ m) e p = let n = neither (has2 a y l) (clashes a l m) e in here_or b y (leads b m) (λ x. has2 a x l ≡ false) p n.0 (clashes_free a b l m n.1)
clashes_free a b l (two y z ∷ m) e p = let n = neither (has2 a y l) (clashes a l m) e in here_or b y (leads b m) (λ x. has2 a x l ≡ false) p n.0 (clashes_free a b l m n.1)

clash_free : (a : ℕ) (l m : List Name) → clash l m ≡ false → T (has1 a m) → clashes a l l ≡ false
unfolding clash has1
clash_free a l [] e p = absurd p
clash_free a l (one x ∷ m) e p = let n = neither (clashes x l l) (clash l m) e in here_or a x (has1 a m) (λ x. clashes x l l ≡ false) p n.0 (clash_free a l m n.1)
clash_free a l (two x y ∷ m) e p = clash_free a l m e p

no_clash : clash organics organics ≡ false
unfolding clash clashes organics has2
no_clash = refl

pub lead_free : (b : ℕ) → T (leads b organics) → Free b
unfolding Free
lead_free b p a q = clashes_free a b organics organics (clash_free a organics organics no_clash q) p

-- a first letter is nothing else
pub record Apart (b : ℕ) : Type 0 where
  pub dig : digit_of b ≡ none
  pub bnd : bond_of b ≡ none
  pub pct : eqb b (byte "%") ≡ false
  pub pnt : eqb b (byte ".") ≡ false
  pub opn : eqb b (byte "(") ≡ false
  pub fre : Free b

unbond : (a : ℕ) → eqb a 45 ≡ false → eqb a (byte "=") ≡ false → eqb a (byte "#") ≡ false → eqb a 36 ≡ false → eqb a 58 ≡ false → eqb a 47 ≡ false → eqb a 92 ≡ false → bond_of a ≡ none
unfolding bond_of
unbond a p q r s t u v = rw (p, q, r, s, t, u, v)

pub lead_apart : (a : ℕ) → T (leads a organics) → Apart a
unfolding undigits blank digit_of organics leads
lead_apart a p = record {
  dig = undigit a organics refl p;
  bnd = unbond a (not_lead a 45 organics refl p) (not_lead a (byte "=") organics refl p) (not_lead a (byte "#") organics refl p) (not_lead a 36 organics refl p) (not_lead a 58 organics refl p) (not_lead a 47 organics refl p) (not_lead a 92 organics refl p);
  pct = not_lead a (byte "%") organics refl p;
  pnt = not_lead a (byte ".") organics refl p;
  opn = not_lead a (byte "(") organics refl p;
  fre = lead_free a p;
}

pub bracket_apart : Apart (byte "[")
unfolding digit_of bond_of seconds organics
bracket_apart = record { dig = refl; bnd = refl; pct = refl; pnt = refl; opn = refl; fre = free (byte "[") refl }

pub bracket_lead : leads (byte "[") organics ≡ false
unfolding leads organics
bracket_lead = refl

pub free_at : seconds (byte "@") organics ≡ false
unfolding seconds organics
free_at = refl

pub digit_free : (d : Digit) → Free (digit_s d)
unfolding digit_s seconds organics
digit_free d0 = free 48 refl
digit_free d1 = free 49 refl
digit_free d2 = free 50 refl
digit_free d3 = free 51 refl
digit_free d4 = free 52 refl
digit_free d5 = free 53 refl
digit_free d6 = free 54 refl
digit_free d7 = free 55 refl
digit_free d8 = free 56 refl
digit_free d9 = free 57 refl

pub bond_free : (x : BondSign) → Free (bond_s x)
unfolding bond_s seconds organics
bond_free single = free 45 refl
bond_free double = free 61 refl
bond_free triple = free 35 refl
bond_free quadruple = free 36 refl
bond_free aromatic = free 58 refl
bond_free up = free 47 refl
bond_free down = free 92 refl

pub bond_of_lem : (x : BondSign) → bond_of (bond_s x) ≡ some x
unfolding bond_s bond_of
bond_of_lem single = refl
bond_of_lem double = refl
bond_of_lem triple = refl
bond_of_lem quadruple = refl
bond_of_lem aromatic = refl
bond_of_lem up = refl
bond_of_lem down = refl

pub bond_undigit : (x : BondSign) → digit_of (bond_s x) ≡ none
unfolding bond_s digit_of
bond_undigit single = refl
bond_undigit double = refl
bond_undigit triple = refl
bond_undigit quadruple = refl
bond_undigit aromatic = refl
bond_undigit up = refl
bond_undigit down = refl

pub bond_unpercent : (x : BondSign) → eqb (bond_s x) (byte "%") ≡ false
unfolding bond_s
bond_unpercent single = refl
bond_unpercent double = refl
bond_unpercent triple = refl
bond_unpercent quadruple = refl
bond_unpercent aromatic = refl
bond_unpercent up = refl
bond_unpercent down = refl

pub free_point : Free (byte ".")
unfolding seconds organics
free_point = free (byte ".") refl

pub free_percent : Free (byte "%")
unfolding seconds organics
free_percent = free (byte "%") refl

pub free_lp : Free (byte "(")
unfolding seconds organics
free_lp = free (byte "(") refl

pub free_rp : Free (byte ")")
unfolding seconds organics
free_rp = free (byte ")") refl
