-- The grammar's table of names is the table of the feature crate: a name is one of the first exactly if its number has a
-- place in the second. Assumes nothing.
use Prim.Native.Nat.{ℕ, suc, ◌/◌, ◌<◌}
use mathlib.Core.Path.{◌≡◌, refl, sym}
use mathlib.Core.List.{List, [], ◌∷◌}
use mathlib.Core.Bool.{Bool, true, false}
use native.Mathlib.Omega.{arith}
use lib.ListN.{length}
use lib.Dec.{T, eqb, ltb, eqb→eq, ltb→lt}
use borrow.Author.Tests.{eqb-true, eqb-false, eq-eqb, ne_eqb, ltb-true, ltb-false, lt-ltb, le-ltb}
use Rattle.feature.specs.Pick.{pick, both, either}
use Rattle.feature.specs.Text.{byte, letter_step, one_letter, two_letters}
use Rattle.feature.specs.Names.{symbols, place_of, begins}
use Rattle.feature.specs.Names as feature
use Rattle.feature.proofs.Table.{both_left, both_right}
use Rattle.read_token.specs.Scan.{slip}
use Rattle.grammar.specs.Names.{Name, one, two, has1, has2}
use Rattle.grammar.specs.Grammar.{symbol_names, known}
use Rattle.grammar.proofs.Machine.{leads}
use Rattle.grammar.proofs.Table.{seconds, no_second}

unfoldable number : Name → ℕ
number (one a) = one_letter a
number (two a b) = two_letters a b

unfoldable numbers : List Name → List ℕ
numbers [] = []
numbers (x ∷ l) = number x ∷ numbers l

the_table : numbers known ≡ feature.names
unfolding numbers number known feature.names
the_table = refl

known_length : length known ≡ symbols
unfolding known
known_length = refl

-- second letters are bytes, and a number begins with its first letter
unfoldable sane : List Name → Bool
sane [] = true
sane (one x ∷ l) = both (eqb (one_letter x / letter_step) x) (sane l)
sane (two x y ∷ l) = both (ltb y 511) (both (eqb (two_letters x y / letter_step) x) (sane l))

known_sane : T (sane known)
unfolding sane known
known_sane = tt

next_lt : (m n : ℕ) → ltb (suc m) (suc n) ≡ ltb m n
next_lt m n = by (ltb m n) refl
  where
    by : (t : Bool) → ltb m n ≡ t → ltb (suc m) (suc n) ≡ t
    by true e = lt-ltb (suc m) (suc n) (omega (arith, ltb-true m n e))
    by false e = le-ltb (suc m) (suc n) (omega (arith, ltb-false m n e))

place2_in : (l : List Name) → T (sane l) → (a b : ℕ) → b < 511 → ltb (place_of (two_letters a b) (numbers l)) (length l) ≡ has2 a b l
unfolding sane numbers number place_of has2
place2_in [] t a b h = refl
place2_in (one x ∷ l) t a b h =
    rw (ne_eqb (one_letter x) (two_letters a b) (λ e. omega (arith, e)), next_lt) (place2_in l (both_right (eqb (one_letter x / letter_step) x) (sane l) t) a b h)
place2_in (two x y ∷ l) t a b h =
    by (eqb a x) (eqb b y) refl refl (place2_in l (both_right (eqb (two_letters x y / letter_step) x) (sane l) (both_right (ltb y 511) (both (eqb (two_letters x y / letter_step) x) (sane l)) t)) a b h)
  where
    by : (u v : Bool) → eqb a x ≡ u → eqb b y ≡ v → ltb (place_of (two_letters a b) (numbers l)) (length l) ≡ has2 a b l
        → ltb (pick (eqb (two_letters x y) (two_letters a b)) 0 (suc (place_of (two_letters a b) (numbers l)))) (suc (length l)) ≡ pick u (pick v true (has2 a b l)) (has2 a b l)
    by true true e f g = rw (eq-eqb (two_letters x y) (two_letters a b) (omega (arith, eqb-true a x e, eqb-true b y f))) (lt-ltb 0 (suc (length l)) (omega arith))
    by true false e f g = rw (ne_eqb (two_letters x y) (two_letters a b) (λ z. eqb-false b y f (omega (arith, z, eqb-true a x e))), next_lt) g
    by false v e f g = rw (ne_eqb (two_letters x y) (two_letters a b) (λ z. eqb-false a x e (omega (arith, z, ltb→lt y 511 (both_left (ltb y 511) (both (eqb (two_letters x y / letter_step) x) (sane l)) t)))), next_lt) g

place1_in : (l : List Name) → T (sane l) → (a : ℕ) → ltb (place_of (one_letter a) (numbers l)) (length l) ≡ has1 a l
unfolding sane numbers number place_of has1
place1_in [] t a = refl
place1_in (one x ∷ l) t a = by (eqb a x) refl (place1_in l (both_right (eqb (one_letter x / letter_step) x) (sane l) t) a)
  where
    by : (u : Bool) → eqb a x ≡ u → ltb (place_of (one_letter a) (numbers l)) (length l) ≡ has1 a l
        → ltb (pick (eqb (one_letter x) (one_letter a)) 0 (suc (place_of (one_letter a) (numbers l)))) (suc (length l)) ≡ pick u true (has1 a l)
    by true e g = rw (eq-eqb (one_letter x) (one_letter a) (omega (arith, eqb-true a x e))) (lt-ltb 0 (suc (length l)) (omega arith))
    by false e g = rw (ne_eqb (one_letter x) (one_letter a) (λ z. eqb-false a x e (omega (arith, z))), next_lt) g
place1_in (two x y ∷ l) t a =
    rw (ne_eqb (two_letters x y) (one_letter a) (λ z. omega (arith, z, ltb→lt y 511 (both_left (ltb y 511) (both (eqb (two_letters x y / letter_step) x) (sane l)) t))), next_lt)
    (place1_in l (both_right (eqb (two_letters x y / letter_step) x) (sane l) (both_right (ltb y 511) (both (eqb (two_letters x y / letter_step) x) (sane l)) t)) a)

turned : (a x k : ℕ) (u v : Bool) → k ≡ x → u ≡ v → either (eqb k a) u ≡ pick (eqb a x) true v
turned a x k u v e f = rw (e, f) (by (eqb a x) refl)
  where
    by : (t : Bool) → eqb a x ≡ t → either (eqb x a) v ≡ pick t true v
    by true g = rw (eq-eqb x a (sym (eqb-true a x g)))
    by false g = rw (ne_eqb x a (λ z. eqb-false a x g (sym z)))

leads_in : (l : List Name) → T (sane l) → (a : ℕ) → begins a (numbers l) ≡ leads a l
unfolding sane numbers number begins leads
leads_in [] t a = refl
leads_in (one x ∷ l) t a =
    turned a x (one_letter x / letter_step) _ _ (eqb→eq _ _ (both_left (eqb (one_letter x / letter_step) x) (sane l) t)) (leads_in l (both_right (eqb (one_letter x / letter_step) x) (sane l) t) a)
leads_in (two x y ∷ l) t a =
    let r = both_right (ltb y 511) (both (eqb (two_letters x y / letter_step) x) (sane l)) t in
    turned a x (two_letters x y / letter_step) _ _ (eqb→eq _ _ (both_left (eqb (two_letters x y / letter_step) x) (sane l) r)) (leads_in l (both_right (eqb (two_letters x y / letter_step) x) (sane l) r) a)

-- ---- the tables of the two crates
pub two_in : (a b : ℕ) → b < 511 → ltb (place_of (two_letters a b) feature.names) symbols ≡ has2 a b symbol_names
unfolding symbol_names has2
two_in a b h = rw (← the_table, ← known_length) (place2_in known known_sane a b h)

pub one_in : (a : ℕ) → ltb (place_of (one_letter (slip a)) feature.names) symbols ≡ has1 a symbol_names
unfolding symbol_names has1 slip
one_in a = by (eqb a (byte "G")) refl
  where
    by : (t : Bool) → eqb a (byte "G") ≡ t → ltb (place_of (one_letter (pick t (byte "F") a)) feature.names) symbols ≡ pick t true (has1 a known)
    by true e = unfold place_of feature.names in refl
    by false e = rw (← the_table, ← known_length) (place1_in known known_sane a)

pub begins_in : (a : ℕ) → begins a feature.names ≡ leads a symbol_names
unfolding symbol_names leads
begins_in a = by (eqb a (byte "G")) refl
  where
    by : (t : Bool) → eqb a (byte "G") ≡ t → begins a feature.names ≡ pick t true (leads a known)
    by true e = rw (eqb-true a (byte "G") e) (unfold begins feature.names in refl)
    by false e = rw (← the_table) (leads_in known known_sane a)

pub no_end : (a : ℕ) → has2 a 256 symbol_names ≡ false
unfolding seconds symbol_names known
no_end a = no_second a 256 symbol_names refl
