-- The late places: a state is late exactly if the text before it ends in "@TB" or "@OH". Assumes nothing.
use mathlib.Core.Path.{◌≡◌, refl, sym, subst}
use mathlib.Core.List.{List, [], ◌∷◌, ◌++◌, append_assoc}
use mathlib.Core.Option.{Option, none, some}
use mathlib.Core.Bool.{Bool, true, false}
use Prim.Native.Nat.{ℕ}
use Rattle.feature.specs.Text.{byte}
use Rattle.feature.proofs.Cases.{clash, impossible}
use Rattle.grammar.specs.Names.{has1, has2}
use Rattle.grammar.specs.Grammar.{known, organics, symbol_names, Symbol, Isotope, Class, Th, AL, SP, TB, OH, class1, class2, plus, minus, sign_s, Atom, elided, bond, dot, symbol_s, isotope_s, chiral_s, hcount_s}
use Rattle.grammar.proofs.Machine.{leads, digit_of, bond_of, Part, bare, whole, isotope, lead, symbol, chiral1, chiral2, family, class, coded1, coded2, fam_of, class_of, hcount, hcount_n, signed, doubled, charge1, charge2, colon, map1, map2, map3, sign_of, to_map, to_charge, closed, begins, to_close, to_hcount, to_chiral, to_symbol, part_step, part_end, top, inside, Where, begin, after, State, want, in_atom, body, percent, percent1, from_part, body_step, want_step, atom_step, step}
use Rattle.grammar.proofs.Sound.{guard_t, sofar, where_s, part_s, opened}
use Rattle.grammar.proofs.Table.{test_not, no_second, at_second, free_at}
use Rattle.grammar.proofs.Complete.{chain, steps, steps_app}
use Rattle.grammar.specs.Lines.{Eaten, after_tb, after_oh}
use Rattle.grammar.proofs.Reading.{zero_state}

-- the state right after "@TB" or "@OH"
unfoldable pub late_class : Class → Bool
late_class Th = false
late_class AL = false
late_class SP = false
late_class TB = true
late_class OH = true

unfoldable pub late_part : Part → Bool
late_part (bare a p) = false
late_part (whole s) = false
late_part (isotope i) = false
late_part (lead i a p) = false
late_part (symbol i s) = false
late_part (chiral1 i s) = false
late_part (chiral2 i s) = false
late_part (family i s k) = false
late_part (class i s k) = late_class k
late_part (coded1 i s k d p) = false
late_part (coded2 i s k d e p) = false
late_part (hcount i s c) = false
late_part (hcount_n i s c d) = false
late_part (signed x g) = false
late_part (doubled x g) = false
late_part (charge1 x g d p) = false
late_part (charge2 x g d e p) = false
late_part (colon x q) = false
late_part (map1 x q a) = false
late_part (map2 x q a b) = false
late_part (map3 x q a b c) = false
late_part (closed x q m) = false

unfoldable pub late : State → Bool
late (want w) = false
late (in_atom w q) = late_part q
late (body k c) = false
late (percent k c x) = false
late (percent1 k c x d) = false

-- a late state's text ends so
late_class_lem : (k : Class) (w : List ℕ) → late_class k ≡ true → Eaten (w ++ ((byte "@") ∷ class1 k ∷ class2 k ∷ []))
unfolding late_class class1 class2
late_class_lem Th w e = impossible cc
late_class_lem AL w e = impossible cc
late_class_lem SP w e = impossible cc
late_class_lem TB w e = after_tb w refl
late_class_lem OH w e = after_oh w refl

class_text : (w : Where) (i : Isotope) (s : Symbol) (k : Class) → where_s w ++ part_s (class i s k) ≡ (where_s w ++ ((byte "[") ∷ (isotope_s i ++ symbol_s s))) ++ ((byte "@") ∷ class1 k ∷ class2 k ∷ [])
unfolding part_s opened chiral_s hcount_s
class_text w i s k = simp append_assoc

late_part_lem : (w : Where) (q : Part) → late_part q ≡ true → Eaten (where_s w ++ part_s q)
unfolding late_part
late_part_lem w (bare a p) e = clash e refl
late_part_lem w (whole s) e = clash e refl
late_part_lem w (isotope i) e = clash e refl
late_part_lem w (lead i a p) e = clash e refl
late_part_lem w (symbol i s) e = clash e refl
late_part_lem w (chiral1 i s) e = clash e refl
late_part_lem w (chiral2 i s) e = clash e refl
late_part_lem w (family i s k) e = clash e refl
late_part_lem w (class i s k) e = rw class_text (late_class_lem k (where_s w ++ ((byte "[") ∷ (isotope_s i ++ symbol_s s))) e)
late_part_lem w (coded1 i s k d p) e = clash e refl
late_part_lem w (coded2 i s k d f p) e = clash e refl
late_part_lem w (hcount i s c) e = clash e refl
late_part_lem w (hcount_n i s c d) e = clash e refl
late_part_lem w (signed x g) e = clash e refl
late_part_lem w (doubled x g) e = clash e refl
late_part_lem w (charge1 x g d p) e = clash e refl
late_part_lem w (charge2 x g d f p) e = clash e refl
late_part_lem w (colon x q) e = clash e refl
late_part_lem w (map1 x q a) e = clash e refl
late_part_lem w (map2 x q a b) e = clash e refl
late_part_lem w (map3 x q a b c) e = clash e refl
late_part_lem w (closed x q m) e = clash e refl

pub late_text : (s : State) → late s ≡ true → Eaten (sofar s)
unfolding late sofar
late_text (want w) e = clash e refl
late_text (in_atom w q) e = late_part_lem w q e
late_text (body k c) e = clash e refl
late_text (percent k c x) e = clash e refl
late_text (percent1 k c x d) e = clash e refl

-- ---- and a text that ends so has led to a late state
AtPart : Part → Type 0
AtPart (bare a p) = ⊥
AtPart (whole s) = ⊥
AtPart (isotope i) = ⊥
AtPart (lead i a p) = ⊥
AtPart (symbol i s) = ⊥
AtPart (chiral1 i s) = Unit {0}
AtPart (chiral2 i s) = Unit {0}
AtPart (family i s k) = ⊥
AtPart (class i s k) = ⊥
AtPart (coded1 i s k d p) = ⊥
AtPart (coded2 i s k d e p) = ⊥
AtPart (hcount i s c) = ⊥
AtPart (hcount_n i s c d) = ⊥
AtPart (signed x g) = ⊥
AtPart (doubled x g) = ⊥
AtPart (charge1 x g d p) = ⊥
AtPart (charge2 x g d e p) = ⊥
AtPart (colon x q) = ⊥
AtPart (map1 x q a) = ⊥
AtPart (map2 x q a b) = ⊥
AtPart (map3 x q a b c) = ⊥
AtPart (closed x q m) = ⊥

AtParts : Option Part → Type 0
AtParts none = Unit {0}
AtParts (some q) = AtPart q

AtState : State → Type 0
AtState (want w) = ⊥
AtState (in_atom w q) = AtPart q
AtState (body k c) = ⊥
AtState (percent k c x) = ⊥
AtState (percent1 k c x d) = ⊥

AtStates : Option State → Type 0
AtStates none = Unit {0}
AtStates (some s) = AtState s

at_part : (q : Part) → AtParts (part_step q (byte "@"))
unfolding AtParts AtPart part_step digit_of to_symbol leads symbol_names known to_chiral to_hcount to_charge to_map to_close sign_of sign_s class_of class1
at_part (bare a p) = subst AtParts (sym (test_not (has2 a (byte "@") organics) _ _ (no_second a (byte "@") organics free_at))) tt
at_part (whole s) = tt
at_part (isotope i) = tt
at_part (lead i a p) = subst AtParts (sym (test_not (has2 a (byte "@") symbol_names) _ _ (no_second a (byte "@") symbol_names at_second))) (guard_t AtParts (has1 a symbol_names) _ _ (λ q. tt) tt)
at_part (symbol i s) = tt
at_part (chiral1 i s) = tt
at_part (chiral2 i s) = tt
at_part (family i s Th) = tt
at_part (family i s AL) = tt
at_part (family i s SP) = tt
at_part (family i s TB) = tt
at_part (family i s OH) = tt
at_part (class i s k) = tt
at_part (coded1 i s k d p) = tt
at_part (coded2 i s k d e p) = tt
at_part (hcount i s c) = tt
at_part (hcount_n i s c d) = tt
at_part (signed x plus) = tt
at_part (signed x minus) = tt
at_part (doubled x g) = tt
at_part (charge1 x g d p) = tt
at_part (charge2 x g d e p) = tt
at_part (colon x q) = tt
at_part (map1 x q a) = tt
at_part (map2 x q a b) = tt
at_part (map3 x q a b c) = tt
at_part (closed x q m) = tt

at_state : (s : State) → AtStates (step s (byte "@"))
unfolding AtStates AtState AtParts step want_step body_step atom_step digit_of bond_of begins from_part leads organics
at_state (want (begin top)) = tt
at_state (want (begin (inside k c elided))) = tt
at_state (want (begin (inside k c (bond x)))) = tt
at_state (want (begin (inside k c dot))) = tt
at_state (want (after k c elided)) = tt
at_state (want (after k c dot)) = tt
at_state (want (after k c (bond x))) = tt
at_state (in_atom w q) = by (part_step q (byte "@")) (part_end q) (at_part q)
  where
    by : (o : Option Part) (e : Option Atom) → AtParts o → AtStates (atom_step w o e (byte "@"))
    by (some p) e h = h
    by none (some a) h = tt
    by none none h = tt
at_state (body k c) = tt
at_state (percent k c x) = tt
at_state (percent1 k c x d) = tt

-- two letters after "@"
late_two : (t : State) → AtState t → (k : Class) → late_class k ≡ true → (v : State) → steps t (class1 k ∷ class2 k ∷ []) ≡ some v → late v ≡ true
unfolding AtState AtPart steps chain step part_step atom_step part_end fam_of class_of class1 class2 to_hcount to_charge to_map to_close sign_of late late_part late_class
late_two (want w) a k l v e = absurd a
late_two (in_atom w (bare x p)) a k l v e = absurd a
late_two (in_atom w (whole s)) a k l v e = absurd a
late_two (in_atom w (isotope i)) a k l v e = absurd a
late_two (in_atom w (lead i x p)) a k l v e = absurd a
late_two (in_atom w (symbol i s)) a k l v e = absurd a
late_two (in_atom w (chiral1 i s)) a Th l v e = clash l refl
late_two (in_atom w (chiral1 i s)) a AL l v e = clash l refl
late_two (in_atom w (chiral1 i s)) a SP l v e = clash l refl
late_two (in_atom w (chiral1 i s)) a TB l v e = let g : in_atom w (class i s TB) ≡ v = cc in rw (← g)
late_two (in_atom w (chiral1 i s)) a OH l v e = let g : in_atom w (class i s OH) ≡ v = cc in rw (← g)
late_two (in_atom w (chiral2 i s)) a Th l v e = clash l refl
late_two (in_atom w (chiral2 i s)) a AL l v e = clash l refl
late_two (in_atom w (chiral2 i s)) a SP l v e = clash l refl
late_two (in_atom w (chiral2 i s)) a TB l v e = impossible cc
late_two (in_atom w (chiral2 i s)) a OH l v e = impossible cc
late_two (in_atom w (family i s f)) a k l v e = absurd a
late_two (in_atom w (class i s f)) a k l v e = absurd a
late_two (in_atom w (coded1 i s f d p)) a k l v e = absurd a
late_two (in_atom w (coded2 i s f d x p)) a k l v e = absurd a
late_two (in_atom w (hcount i s c)) a k l v e = absurd a
late_two (in_atom w (hcount_n i s c d)) a k l v e = absurd a
late_two (in_atom w (signed x g)) a k l v e = absurd a
late_two (in_atom w (doubled x g)) a k l v e = absurd a
late_two (in_atom w (charge1 x g d p)) a k l v e = absurd a
late_two (in_atom w (charge2 x g d f p)) a k l v e = absurd a
late_two (in_atom w (colon x q)) a k l v e = absurd a
late_two (in_atom w (map1 x q b)) a k l v e = absurd a
late_two (in_atom w (map2 x q b c)) a k l v e = absurd a
late_two (in_atom w (map3 x q b c d)) a k l v e = absurd a
late_two (in_atom w (closed x q m)) a k l v e = absurd a
late_two (body j c) a k l v e = absurd a
late_two (percent j c x) a k l v e = absurd a
late_two (percent1 j c x d) a k l v e = absurd a

late_three : (u : List ℕ) (k : Class) (v : State) → late_class k ≡ true → steps zero_state (u ++ ((byte "@") ∷ class1 k ∷ class2 k ∷ [])) ≡ some v → late v ≡ true
unfolding steps chain AtStates
late_three u k v l e = by (steps zero_state u) (rw steps_app at e)
  where
    past : (o : Option State) → AtStates o → chain o (λ t. steps t (class1 k ∷ class2 k ∷ [])) ≡ some v → late v ≡ true
    past none a g = impossible cc
    past (some t) a g = late_two t a k l v g

    by : (o : Option State) → chain o (λ t. steps t ((byte "@") ∷ class1 k ∷ class2 k ∷ [])) ≡ some v → late v ≡ true
    by none g = impossible cc
    by (some t) g = past (step t (byte "@")) (at_state t) g

pub eaten_late : (p : List ℕ) (v : State) → steps zero_state p ≡ some v → Eaten p → late v ≡ true
unfolding class1 class2 late_class
eaten_late p v e (after_tb u h) = late_three u TB v refl (rw h at e)
eaten_late p v e (after_oh u h) = late_three u OH v refl (rw h at e)
