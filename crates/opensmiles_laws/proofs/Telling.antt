-- What the machine has told is what the text has told, by the lines in the making that it begins with. Assumes nothing.
use Prim.Native.Nat.{ℕ, ◌≤◌}
use mathlib.Core.Path.{◌≡◌, refl, sym, ap, ap₂, ◌∙◌, subst}
use mathlib.Core.List.{List, [], ◌∷◌, ◌++◌, append_assoc, append-nil}
use mathlib.Core.Option.{Option, none, some}
use mathlib.Core.Logic.{◌⊎◌, inl, inr}
use native.Mathlib.Omega.{arith}
use lib.ListN.{length, length-append}
use Rattle.feature.specs.Text.{byte}
use Rattle.feature.proofs.Cases.{impossible}
use Rattle.read_line.specs.Events.{ReadEvent}
use Rattle.grammar.specs.Names.{has1, has2}
use Rattle.grammar.specs.Grammar.{organics, bare1, bare2, Atom, organic, bracket, elided, bond, dot, link_s, Line, start, link, ring, branch, spell, bond?s, digit_s, tells}
use Rattle.grammar.proofs.Table.{test_yes}
use Rattle.grammar.proofs.Machine.{test, digit_of, bond_of, Part, bare, whole, isotope, lead, symbol, chiral1, chiral2, family, class, coded1, coded2, hcount, hcount_n, signed, doubled, charge1, charge2, colon, map1, map2, map3, closed, begins, part_step, part_end, Around, top, inside, Where, begin, after, around, put, State, want, in_atom, body, percent, percent1, from_part, shut, body_step, want_step, atom_step, step}
use Rattle.grammar.proofs.Sound.{guard, guard_on, guard_t, sofar, where_s, around_s, part_s, Moved, step_ok, put_ok, Ended, ended}
use Rattle.grammar.proofs.Complete.{chain, steps, steps_then, after_atom, now, read_line, read_open}
use Rattle.grammar.proofs.Reading.{zero_state, reached}
use Rattle.grammar.proofs.Link.{entry, told_around, told_line, told_where, told_atom, told}
use Rattle.opensmiles_laws.specs.Telling.{Making, branching, making_s, making_e, HasTold, nothing, so_far}
use Rattle.opensmiles_laws.specs.Telling as making

-- ---- where a state is
data Spot : Type 0 where
  nowhere : Spot
  spot : Around → Line → Spot

Stands : Spot → Type 0
Stands nowhere = ⊥
Stands (spot k c) = Unit {0}

-- at the end of a line in the making
here_atom : Where → Option Atom → Spot
here_atom w none = nowhere
here_atom w (some a) = spot (around w) (put w a)

here : State → Spot
here (want w) = nowhere
here (in_atom w q) = here_atom w (part_end q)
here (body k c) = spot k c
here (percent k c x) = nowhere
here (percent1 k c x d) = nowhere

-- or after the end of the last one
last_w : Where → Spot
last_w (begin top) = nowhere
last_w (begin (inside k c l)) = spot k c
last_w (after k c l) = spot k c

last_atom : Where → Option Atom → Spot
last_atom w none = last_w w
last_atom w (some a) = spot (around w) (put w a)

last : State → Spot
last (want w) = last_w w
last (in_atom w q) = last_atom w (part_end q)
last (body k c) = spot k c
last (percent k c x) = spot k c
last (percent1 k c x d) = spot k c

spot_s : Spot → List ℕ
spot_s nowhere = []
spot_s (spot k c) = around_s k ++ spell c

spot_e : Spot → List ReadEvent
spot_e nowhere = []
spot_e (spot k c) = told_line k c

-- what a state has told was told there
told_where_lem : (w : Where) → told_where w ≡ spot_e (last_w w)
unfolding told_where last_w spot_e told_around told_line
told_where_lem (begin top) = refl
told_where_lem (begin (inside k c l)) = refl
told_where_lem (after k c l) = refl

told_last : (u : State) → told u ≡ spot_e (last u)
unfolding told told_atom last spot_e last_atom
told_last (want w) = told_where_lem w
told_last (in_atom w q) = by (part_end q)
  where
    by : (o : Option Atom) → told_atom w o ≡ spot_e (last_atom w o)
    by none = told_where_lem w
    by (some a) = refl
told_last (body k c) = refl
told_last (percent k c x) = refl
told_last (percent1 k c x d) = refl

-- its text begins with it
Begun : List ℕ → Spot → Type 0
Begun p nowhere = Unit {0}
Begun p (spot k c) = (v : List ℕ) × (p ≡ (around_s k ++ spell c) ++ v)

begun_more : (p q : List ℕ) (x : Spot) → Begun p x → Begun (p ++ q) x
unfolding Begun
begun_more p q nowhere h = tt
begun_more p q (spot k c) h = (h.0 ++ q, ap (λ (y : List ℕ). y ++ q) h.1 ∙ append_assoc (around_s k ++ spell c) h.0 q)

begun_where : (w : Where) → Begun (where_s w) (last_w w)
unfolding Begun where_s last_w around_s
begun_where (begin top) = tt
begun_where (begin (inside k c l)) = (byte "(" ∷ link_s l, simp append_assoc)
begun_where (after k c l) = (link_s l, simp append_assoc)

begun_last : (u : State) → Begun (sofar u) (last u)
unfolding Begun sofar last last_atom Ended
begun_last (want w) = begun_where w
begun_last (in_atom w q) = by (part_end q) (ended q)
  where
    by : (o : Option Atom) → Ended q o → Begun (where_s w ++ part_s q) (last_atom w o)
    by none e = begun_more (where_s w) (part_s q) (last_w w) (begun_where w)
    by (some a) e = ([], sym (append-nil _ ∙ put_ok w a ∙ ap (λ (y : List ℕ). where_s w ++ y) e))
begun_last (body k c) = ([], sym (append-nil _))
begun_last (percent k c x) = (bond?s x ++ (byte "%" ∷ []), simp append_assoc)
begun_last (percent1 k c x d) = (bond?s x ++ (byte "%" ∷ digit_s d ∷ []), simp append_assoc)

-- a state there is its own last
here_atom_lem : (w : Where) (q : Part) (o : Option Atom) → Ended q o → Stands (here_atom w o) → (last_atom w o ≡ here_atom w o) × (spot_s (here_atom w o) ≡ where_s w ++ part_s q)
unfolding Stands here_atom last_atom spot_s Ended
here_atom_lem w q none e h = absurd h
here_atom_lem w q (some a) e h = (refl, put_ok w a ∙ ap (λ (y : List ℕ). where_s w ++ y) e)

here_last : (u : State) → Stands (here u) → (last u ≡ here u) × (spot_s (here u) ≡ sofar u)
unfolding here last Stands spot_s sofar
here_last (want w) h = absurd h
here_last (in_atom w q) h = here_atom_lem w q (part_end q) (ended q) h
here_last (body k c) h = (refl, refl)
here_last (percent k c x) h = absurd h
here_last (percent1 k c x d) h = absurd h

-- ---- a step: to the end of a line in the making, or further from the last one
Marked : Spot → Option State → Type 0
Marked m none = Unit {0}
Marked m (some u) = Stands (here u) ⊎ (last u ≡ m)

atom_marked : (w : Where) (o : Option Atom) → Stands (here_atom w o) ⊎ (last_atom w o ≡ last_w w)
unfolding Stands here_atom last_atom
atom_marked w none = inr refl
atom_marked w (some a) = inl tt

part_marked : (w : Where) (o : Option Part) → Marked (last_w w) (from_part w o)
unfolding Marked from_part here last
part_marked w none = tt
part_marked w (some q) = atom_marked w (part_end q)

want_marked : (w : Where) (b : ℕ) → Marked (last_w w) (want_step w b)
unfolding want_step Marked here last Stands last_w
want_marked (begin top) b = part_marked (begin top) (begins b)
want_marked (begin (inside k c elided)) b =
    let P : Option State → Type 0 = Marked (spot k c) in
    guard_on P (bond_of b) _ _ (λ x e. inr refl) (guard P b (byte ".") _ _ (λ e. inr refl) (part_marked (begin (inside k c elided)) (begins b)))
want_marked (begin (inside k c (bond x))) b = part_marked (begin (inside k c (bond x))) (begins b)
want_marked (begin (inside k c dot)) b = part_marked (begin (inside k c dot)) (begins b)
want_marked (after k c elided) b = part_marked (after k c elided) (begins b)
want_marked (after k c dot) b = part_marked (after k c dot) (begins b)
want_marked (after k c (bond x)) b =
    let P : Option State → Type 0 = Marked (spot k c) in
    guard_on P (digit_of b) _ _ (λ d e. inl tt) (guard P b (byte "%") _ _ (λ e. inr refl) (part_marked (after k c (bond x)) (begins b)))

shut_marked : (k : Around) (c : Line) → Marked (spot k c) (shut k c)
unfolding shut Marked here Stands
shut_marked top c = tt
shut_marked (inside k d l) c = inl tt

body_marked : (k : Around) (c : Line) (b : ℕ) → Marked (spot k c) (body_step k c b)
unfolding body_step Marked here last Stands last_w
body_marked k c b =
    let P : Option State → Type 0 = Marked (spot k c) in
    guard_on P (digit_of b) _ _ (λ d e. inl tt)
    (guard P b (byte "%") _ _ (λ e. inr refl)
    (guard_on P (bond_of b) _ _ (λ x e. inr refl)
    (guard P b (byte ".") _ _ (λ e. inr refl)
    (guard P b (byte "(") _ _ (λ e. inr refl)
    (guard_on P (begins b) _ _ (λ q e. atom_marked (after k c elided) (part_end q))
    (guard P b (byte ")") _ _ (λ e. shut_marked k c) tt))))))

-- an atom that could end and goes on can end again
Solid : Option Atom → Option Part → Type 0
Solid none o = Unit {0}
Solid (some a) none = Unit {0}
Solid (some a) (some r) = (x : Atom) × (part_end r ≡ some x)

solid_none : (i : Option Atom) → Solid i none
unfolding Solid
solid_none none = tt
solid_none (some a) = tt

solid_bare : (i : Option Atom) (r : Part) (x : Atom) → part_end r ≡ some x → Solid i (some r)
unfolding Solid
solid_bare none r x h = tt
solid_bare (some a) r x h = (x, h)

solid : (q : Part) (b : ℕ) → Solid (part_end q) (part_step q b)
unfolding Solid part_end part_step
solid (bare a p) b =
    guard_t (Solid (test (has1 a organics) (λ q. some (organic (bare1 a q))) none)) (has2 a b organics) (λ q. some (whole (bare2 a b q))) none
    (λ q. solid_bare (test (has1 a organics) (λ q. some (organic (bare1 a q))) none) (whole (bare2 a b q)) (organic (bare2 a b q)) (unfold part_end in refl)) (solid_none (test (has1 a organics) (λ q. some (organic (bare1 a q))) none))
solid (whole s) b = tt
solid (isotope i) b = tt
solid (lead i a p) b = tt
solid (symbol i s) b = tt
solid (chiral1 i s) b = tt
solid (chiral2 i s) b = tt
solid (family i s k) b = tt
solid (class i s k) b = tt
solid (coded1 i s k d p) b = tt
solid (coded2 i s k d e p) b = tt
solid (hcount i s c) b = tt
solid (hcount_n i s c d) b = tt
solid (signed x g) b = tt
solid (doubled x g) b = tt
solid (charge1 x g d p) b = tt
solid (charge2 x g d e p) b = tt
solid (colon x q) b = tt
solid (map1 x q a) b = tt
solid (map2 x q a c) b = tt
solid (map3 x q a c d) b = tt
solid (closed x q m) b = tt

step_marked : (u : State) (b : ℕ) → Marked (last u) (step u b)
unfolding step last Marked here Stands
step_marked (want w) b = want_marked w b
step_marked (in_atom w q) b = by (part_step q b) (part_end q) (solid q b)
  where
    by : (o : Option Part) (i : Option Atom) → Solid i o → Marked (last_atom w i) (atom_step w o i b)
    by (some r) none s = unfold atom_step last_atom in atom_marked w (part_end r)
    by (some r) (some a) s = unfold atom_step last_atom Solid here_atom in inl (subst (λ (i : Option Atom). Stands (here_atom w i)) (sym s.1) tt)
    by none (some a) s = unfold atom_step last_atom in body_marked (around w) (put w a) b
    by none none s = unfold atom_step in tt
step_marked (body k c) b = body_marked k c b
step_marked (percent k c x) b = guard_on (Marked (spot k c)) (digit_of b) _ _ (λ d e. inr refl) tt
step_marked (percent1 k c x d) b = guard_on (Marked (spot k c)) (digit_of b) _ _ (λ f e. inl tt) tt

-- ---- the last line in the making is the longest
record Far (p : List ℕ) (u : State) : Type 0 where
  stands : Stands (last u)
  far : length p ≤ length (spot_s (last u))
  long : length p ≤ length (sofar u)

far_here : (u : State) (p : List ℕ) → Stands (here u) → length p ≤ length (sofar u) → Far p u
far_here u p h l =
    let e = here_last u h in
    record { stands = subst Stands (sym e.0) h; far = subst (λ (x : Spot). length p ≤ length (spot_s x)) (sym e.0) (subst (λ (x : List ℕ). length p ≤ length x) (sym e.1) l); long = l }

far_next : (u t : State) (b : ℕ) (p : List ℕ) → step u b ≡ some t → Far p u → Far p t
unfolding Moved Marked
far_next u t b p e f = by (subst (Marked (last u)) e (step_marked u b))
  where
    more : sofar t ≡ sofar u ++ (b ∷ [])
    more = subst (Moved (sofar u) b) e (step_ok u b)

    long : length p ≤ length (sofar t)
    long = omega (arith, f.long, ap length more, length-append (sofar u) (b ∷ []))

    by : Stands (here t) ⊎ (last t ≡ last u) → Far p t
    by (inl h) = far_here t p h long
    by (inr h) = record { stands = subst Stands (sym h) f.stands; far = subst (λ (x : Spot). length p ≤ length (spot_s x)) (sym h) f.far; long = long }

far_steps : (xs : List ℕ) (u t : State) (p : List ℕ) → steps u xs ≡ some t → Far p u → Far p t
unfolding steps chain
far_steps [] u t p e f = let g : u ≡ t = cc in subst (Far p) g f
far_steps (x ∷ xs) u t p e f = by (step u x) refl e (λ r i g. far_steps xs r t p g (far_next u r x p i f))
  where
    by : (o : Option State) → step u x ≡ o → chain o (λ r. steps r xs) ≡ some t → ((r : State) → step u x ≡ some r → steps r xs ≡ some t → Far p t) → Far p t
    by none i g k = impossible cc
    by (some r) i g k = k r i g

-- ---- a line in the making is read
record Reads (k : Around) (m : Making) : Type 0 where
  state : State
  steps : steps (want (begin k)) (making_s m) ≡ some state
  stands : Stands (here state)
  told : told state ≡ told_around k ++ making_e (around_s k) (entry k) m

now_here : (w : Where) (a : Atom) → here_atom w (part_end (after_atom a)) ≡ spot (around w) (put w a)
unfolding after_atom part_end here_atom
now_here w (organic (bare1 a p)) = rw (test_yes (has1 a organics) p (λ q. some (organic (bare1 a q))) none)
now_here w (organic (bare2 a b p)) = refl
now_here w (bracket x q m) = refl

now_spot : (k : Around) (c : Line) → here (now k c) ≡ spot k c
unfolding now here around put
now_spot k (start a) = now_here (begin k) a
now_spot k (link c l a) = now_here (after k c l) a
now_spot k (ring c x r) = refl
now_spot k (branch c l d) = refl

now_stands : (k : Around) (c : Line) → Stands (here (now k c))
now_stands k c = subst Stands (sym (now_spot k c)) (unfold Stands in tt)

now_told : (k : Around) (c : Line) → told (now k c) ≡ told_line k c
now_told k c = told_last (now k c) ∙ ap spot_e ((here_last (now k c) (now_stands k c)).0 ∙ now_spot k c) ∙ (unfold spot_e in refl)

reads : (m : Making) (k : Around) → Reads k m
unfolding making_s making_e
reads (making.whole c) k = record { state = now k c; steps = read_line c k; stands = now_stands k c; told = now_told k c ∙ (unfold told_line in refl) }
reads (branching c l m) k =
    let r = reads m (inside k c l) in
    record {
      state = r.state;
      steps = steps_then (spell c) _ _ _ (read_line c k) ∙ read_open k c l (making_s m) ∙ r.steps;
      stands = r.stands;
      told = r.told ∙ (unfold told_around around_s entry in append_assoc (told_around k) (tells (around_s k) (entry k) c) _);
    }

-- from the beginning
reads_first : (m : Making) → (v : State) × (steps zero_state (making_s m) ≡ some v) × Stands (here v) × (told v ≡ making_e [] dot m)
reads_first m = let r = reads m top in (r.state, (unfold zero_state in r.steps), r.stands, r.told ∙ (unfold told_around around_s entry in refl))

-- ---- the line in the making of a spot
filled : Around → Making → Making
filled top m = m
filled (inside k c l) m = filled k (branching c l m)

filled-S : (k : Around) (m : Making) → making_s (filled k m) ≡ around_s k ++ making_s m
unfolding filled around_s
filled-S top m = refl
filled-S (inside k c l) m = filled-S k (branching c l m) ∙ (unfold making_s in simp append_assoc)

filled-E : (k : Around) (m : Making) → making_e [] dot (filled k m) ≡ told_around k ++ making_e (around_s k) (entry k) m
unfolding filled around_s told_around entry
filled-E top m = refl
filled-E (inside k c l) m = filled-E k (branching c l m) ∙ (unfold making_e in simp append_assoc)

spot-S : (k : Around) (c : Line) → making_s (filled k (making.whole c)) ≡ around_s k ++ spell c
spot-S k c = filled-S k (making.whole c) ∙ (unfold making_s in refl)

spot-E : (k : Around) (c : Line) → making_e [] dot (filled k (making.whole c)) ≡ told_line k c
spot-E k c = filled-E k (making.whole c) ∙ (unfold making_e told_line in refl)

-- ---- WHAT THE MACHINE HAS TOLD
module _ (p : List ℕ) (u : State) (e : steps zero_state p ≡ some u) where
  -- each line in the making that the text begins with is passed
  passed : (m : Making) (v : List ℕ) → p ≡ making_s m ++ v → Far (making_s m) u
  passed m v i =
      let r = reads_first m in
      let t : steps r.0 v ≡ some u = sym (steps_then (making_s m) v zero_state r.0 r.1) ∙ ap (steps zero_state) (sym i) ∙ e in
      far_steps v r.0 u (making_s m) t (far_here r.0 (making_s m) r.2 (omega (arith, ap length (reached (making_s m) r.0 r.1))))

  pub has_told : HasTold p (told u)
  unfolding spot_e spot_s Stands Begun
  has_told = by (last u) refl
    where
      by : (x : Spot) → last u ≡ x → HasTold p (told u)
      by nowhere i = nothing (λ m v j. subst Stands i (passed m v j).stands) (told_last u ∙ ap spot_e i)
      by (spot k c) i =
          let b : Begun p (spot k c) = subst (Begun p) i (subst (λ (x : List ℕ). Begun x (last u)) (reached p u e) (begun_last u)) in
          let b' : (v : List ℕ) × (p ≡ (around_s k ++ spell c) ++ v) = b in
          so_far (filled k (making.whole c)) b'.0 (b'.1 ∙ ap (λ (x : List ℕ). x ++ b'.0) (sym (spot-S k c)))
          (λ n w j. omega (arith, subst (λ (x : Spot). length (making_s n) ≤ length (spot_s x)) i (passed n w j).far, ap length (spot-S k c)))
          (told_last u ∙ ap spot_e i ∙ sym (spot-E k c))

-- ---- and a text has told one thing
prefix_same : (xs ys v w : List ℕ) → xs ++ v ≡ ys ++ w → length xs ≡ length ys → xs ≡ ys
prefix_same [] [] v w e l = refl
prefix_same [] (y ∷ ys) v w e l = absurd (omega arith)
prefix_same (x ∷ xs) [] v w e l = absurd (omega arith)
prefix_same (x ∷ xs) (y ∷ ys) v w e l =
    let g : x ≡ y = cc in let h : xs ++ v ≡ ys ++ w = cc in ap₂ (λ (i : ℕ) (r : List ℕ). i ∷ r) g (prefix_same xs ys v w h (omega arith))

tells_same : (m n : Making) → making_s m ≡ making_s n → making_e [] dot m ≡ making_e [] dot n
tells_same m n e =
    let r = reads_first m in let q = reads_first n in
    let g : some r.0 ≡ some q.0 = sym r.1 ∙ ap (steps zero_state) e ∙ q.1 in
    let h : r.0 ≡ q.0 = cc in
    sym r.3 ∙ ap told h ∙ q.3

pub told_one : (p : List ℕ) (es ds : List ReadEvent) → HasTold p es → HasTold p ds → es ≡ ds
told_one p es ds (nothing h e) (nothing g f) = e ∙ sym f
told_one p es ds (nothing h e) (so_far m v i g f) = absurd (h m v i)
told_one p es ds (so_far m v i g f) (nothing h e) = absurd (h m v i)
told_one p es ds (so_far m v i g f) (so_far n w j k l) =
    f ∙ tells_same m n (prefix_same (making_s m) (making_s n) v w (sym i ∙ j) (omega (arith, k m v i, g n w j))) ∙ sym l
