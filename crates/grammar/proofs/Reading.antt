-- The machine against the trees: sound, complete, a text has at most one tree, and each refusal is at its place. Assumes
-- nothing.
use mathlib.Core.Path.{◌≡◌, refl, sym, ap, ◌∙◌}
use mathlib.Core.List.{List, [], ◌∷◌, ◌++◌, append_assoc, append-nil}
use mathlib.Core.Option.{Option, none, some}
use Prim.Native.Nat.{ℕ, suc, ◌+◌}
use native.Mathlib.Nat.{add-zero, zero-add}
use lib.Dec.{T}
use lib.ListN.{length}
use native.Mathlib.Omega.{arith}
use Rattle.feature.specs.Text.{byte}
use Rattle.feature.proofs.Cases.{impossible}
use Rattle.grammar.specs.Names.{has1}
use Rattle.grammar.specs.Grammar.{known, d0, d1, BondSign, organics, bare1, bare2, symbol_names, Symbol, short, long, organic_s, Isotope, Chiral, flat, at, atat, code1, code2, Class, Th, AL, SP, TB, OH, valid1, value, most, class2, Hcount, bald, H, Hn, Head, head, head_s, Charge, neutral, sign, twice, num1, num2, charge_s, Map, nomap, m1, m2, m3, map_s, Atom, organic, bracket, Rnum, ring2, Line, ring, branch, digit_s, symbol_s, chiral_s, hcount_s, atom_s, rnum_s, bond?s, spell}
use Rattle.grammar.specs.Lines.{Spelled, Viable, WrongAt}
use Rattle.grammar.proofs.Table.{Led, led1, led2, led}
use Rattle.grammar.proofs.Machine.{Part, bare, whole, isotope, lead, symbol, chiral1, chiral2, family, class, coded1, coded2, hcount, hcount_n, signed, doubled, charge1, charge2, colon, map1, map2, map3, closed, Around, top, inside, Where, begin, around, put, State, want, in_atom, body, percent, percent1, step, ending, done, end_of_line, character, finished, next, go, read}
use Rattle.grammar.proofs.Sound.{sofar, where_s, around_s, part_s, opened, tailed, Moved, step_ok, Told, ending_ok, put_ok}
use Rattle.grammar.proofs.Complete.{chain, steps, steps_then, read_line, now_ends}

go_steps : (xs ys : List ℕ) (s t : State) (n : ℕ) → steps s xs ≡ some t → go s n (xs ++ ys) ≡ go t (length xs + n) ys
unfolding steps chain go next
go_steps [] ys s t n e = let g : s ≡ t = cc in rw (g, zero-add)
go_steps (x ∷ xs) ys s t n e = by (step s x) (λ r. go_steps xs ys r t (suc n)) e
  where
    by : (o : Option State) → ((r : State) → steps r xs ≡ some t → go r (suc n) (xs ++ ys) ≡ go t (length xs + suc n) ys)
        → chain o (λ r. steps r xs) ≡ some t → next o n (λ r. go r (suc n) (xs ++ ys)) ≡ go t (suc (length xs) + n) ys
    by none f g = impossible cc
    by (some r) f g = f r g ∙ ap (λ (m : ℕ). go t m ys) (omega arith)

-- COMPLETE
pub complete : (t : Line) → read (spell t) ≡ done t
unfolding read go finished
complete t = rw append-nil at (go_steps (spell t) [] _ _ 0 (read_line t top)) ∙ rw now_ends

-- SOUND
sound_go : (bs : List ℕ) (s : State) (n : ℕ) (t : Line) → go s n bs ≡ done t → spell t ≡ sofar s ++ bs
unfolding go next finished Told Moved
sound_go [] s n t e = by (ending s) (ending_ok s) e
  where
    by : (o : Option Line) → Told (sofar s) o → finished o ≡ done t → spell t ≡ sofar s ++ []
    by none h g = impossible cc
    by (some u) h g = let q : u ≡ t = cc in rw (append-nil, ← q) h
sound_go (b ∷ bs) s n t e = by (step s b) (step_ok s b) (λ r. sound_go bs r (suc n) t) e
  where
    by : (o : Option State) → Moved (sofar s) b o → ((r : State) → go r (suc n) bs ≡ done t → spell t ≡ sofar r ++ bs)
        → next o n (λ r. go r (suc n) bs) ≡ done t → spell t ≡ sofar s ++ (b ∷ bs)
    by none h f g = impossible cc
    by (some r) h f g = simp (h, append_assoc) at (f r g)

pub sound : (s : List ℕ) (t : Line) → read s ≡ done t → spell t ≡ s
unfolding read sofar where_s around_s
sound s t e = sound_go s _ 0 t e

-- UNIQUE
pub unique : (t u : Line) → spell t ≡ spell u → t ≡ u
unique t u e = let f : done t ≡ done u = sym (complete t) ∙ ap read e ∙ complete u in cc

-- ---- no state is a dead end
unfoldable pub closing : Around → Line → Line
closing top c = c
closing (inside k c l) d = closing k (branch c l d)

unfoldable pub closers : Around → List ℕ
closers top = []
closers (inside k c l) = (byte ")") ∷ closers k

pub closing_ok : (k : Around) (c : Line) → spell (closing k c) ≡ around_s k ++ (spell c ++ closers k)
unfolding closing closers around_s spell
closing_ok top c = simp append-nil
closing_ok (inside k c l) d = closing_ok k (branch c l d) ∙ simp append_assoc

-- an atom in the making can be made
pub record Made (q : Part) : Type 0 where
  pub atom : Atom
  pub more : List ℕ
  pub is : atom_s atom ≡ part_s q ++ more

bracketed : (i : Isotope) (s : Symbol) (c : Chiral) (h : Hcount) → atom_s (bracket (head i s c h) neutral nomap) ≡ opened i s c h ++ ((byte "]") ∷ [])
unfolding atom_s opened head_s charge_s map_s
bracketed i s c h = simp append_assoc

tailed_up : (x : Head) (q : Charge) (m : Map) → atom_s (bracket x q m) ≡ tailed x q m ++ ((byte "]") ∷ [])
unfolding atom_s tailed
tailed_up x q m = simp append_assoc

valid_one : (k : Class) → T (valid1 k d1)
unfolding valid1 value most
valid_one Th = tt
valid_one AL = tt
valid_one SP = tt
valid_one TB = tt
valid_one OH = tt

pub made : (q : Part) → Made q
unfolding atom_s part_s symbol_s organic_s chiral_s hcount_s has1 symbol_names known opened head_s charge_s map_s tailed
made (bare a p) = by (led a organics p)
  where
    by : Led a organics → Made (bare a p)
    by (led1 q) = record { atom = organic (bare1 a q); more = []; is = refl }
    by (led2 b q) = record { atom = organic (bare2 a b q); more = b ∷ []; is = refl }
made (whole s) = record { atom = organic s; more = []; is = simp append-nil }
made (isotope i) = record { atom = bracket (head i (short (byte "O") tt) flat bald) neutral nomap; more = (byte "O") ∷ (byte "]") ∷ []; is = simp append_assoc }
made (lead i a p) = by (led a symbol_names p)
  where
    by : Led a symbol_names → Made (lead i a p)
    by (led1 q) = record { atom = bracket (head i (short a q) flat bald) neutral nomap; more = (byte "]") ∷ []; is = simp append_assoc }
    by (led2 b q) = record { atom = bracket (head i (long a b q) flat bald) neutral nomap; more = b ∷ (byte "]") ∷ []; is = simp append_assoc }
made (symbol i s) = record { atom = bracket (head i s flat bald) neutral nomap; more = _; is = bracketed i s flat bald }
made (chiral1 i s) = record { atom = bracket (head i s at bald) neutral nomap; more = _; is = bracketed i s at bald }
made (chiral2 i s) = record { atom = bracket (head i s atat bald) neutral nomap; more = _; is = bracketed i s atat bald }
made (family i s k) = record { atom = bracket (head i s (code1 k d1 (valid_one k)) bald) neutral nomap; more = class2 k ∷ digit_s d1 ∷ (byte "]") ∷ []; is = simp append_assoc }
made (class i s k) = record { atom = bracket (head i s (code1 k d1 (valid_one k)) bald) neutral nomap; more = digit_s d1 ∷ (byte "]") ∷ []; is = simp append_assoc }
made (coded1 i s k d p) = record { atom = bracket (head i s (code1 k d p) bald) neutral nomap; more = _; is = bracketed i s (code1 k d p) bald }
made (coded2 i s k d e p) = record { atom = bracket (head i s (code2 k d e p) bald) neutral nomap; more = _; is = bracketed i s (code2 k d e p) bald }
made (hcount i s c) = record { atom = bracket (head i s c H) neutral nomap; more = _; is = bracketed i s c H }
made (hcount_n i s c d) = record { atom = bracket (head i s c (Hn d)) neutral nomap; more = _; is = bracketed i s c (Hn d) }
made (signed x g) = record { atom = bracket x (sign g) nomap; more = _; is = tailed_up x (sign g) nomap }
made (doubled x g) = record { atom = bracket x (twice g) nomap; more = _; is = tailed_up x (twice g) nomap }
made (charge1 x g d p) = record { atom = bracket x (num1 g d p) nomap; more = _; is = tailed_up x (num1 g d p) nomap }
made (charge2 x g d e p) = record { atom = bracket x (num2 g d e p) nomap; more = _; is = tailed_up x (num2 g d e p) nomap }
made (colon x q) = record { atom = bracket x q (m1 d0); more = digit_s d0 ∷ (byte "]") ∷ []; is = simp append_assoc }
made (map1 x q a) = record { atom = bracket x q (m1 a); more = _; is = tailed_up x q (m1 a) }
made (map2 x q a b) = record { atom = bracket x q (m2 a b); more = _; is = tailed_up x q (m2 a b) }
made (map3 x q a b c) = record { atom = bracket x q (m3 a b c); more = _; is = tailed_up x q (m3 a b c) }
made (closed x q m) = record { atom = bracket x q m; more = []; is = simp append-nil }

viable_body : (k : Around) (c : Line) → Viable (around_s k ++ spell c)
unfolding Viable
viable_body k c = (closing k c, closers k, simp append_assoc (closing_ok k c))

-- a viable text, cut
pub viable_cut : (p q : List ℕ) → Viable (p ++ q) → Viable p
unfolding Viable
viable_cut p q v = (v.0, q ++ v.1, simp append_assoc at v.2)

viable_atom : (w : Where) (a : Atom) → Viable (where_s w ++ atom_s a)
viable_atom w a = rw put_ok at (viable_body (around w) (put w a))

viable_ring : (k : Around) (c : Line) (x : Option BondSign) (r : Rnum) → Viable (around_s k ++ (spell c ++ (bond?s x ++ rnum_s r)))
unfolding spell
viable_ring k c x r = viable_body k (ring c x r)

pub viable : (s : State) → Viable (sofar s)
unfolding sofar rnum_s has1 organics
viable (want w) = viable_cut _ _ (viable_atom w (organic (bare1 (byte "O") tt)))
viable (in_atom w q) = let m = made q in viable_cut _ m.more (rw append_assoc (rw m.is at (viable_atom w m.atom)))
viable (body k c) = viable_body k c
viable (percent k c x) = viable_cut _ (digit_s d0 ∷ digit_s d0 ∷ []) (simp append_assoc (viable_ring k c x (ring2 d0 d0)))
viable (percent1 k c x d) = viable_cut _ (digit_s d0 ∷ []) (simp append_assoc (viable_ring k c x (ring2 d d0)))

-- ---- how far the machine comes
data Trace (s : State) (bs : List ℕ) : Type 0 where
  through : (t : State) → steps s bs ≡ some t → Trace s bs
  stuck : (p : List ℕ) (x : ℕ) (r : List ℕ) (t : State) → bs ≡ p ++ (x ∷ r) → steps s p ≡ some t → step t x ≡ none → Trace s bs

trace : (bs : List ℕ) (s : State) → Trace s bs
unfolding steps chain
trace [] s = through s refl
trace (b ∷ bs) s = by (step s b) refl (λ r. trace bs r)
  where
    further : (r : State) → step s b ≡ some r → Trace r bs → Trace s (b ∷ bs)
    further r e (through t g) = through t (rw e g)
    further r e (stuck p x q t h g f) = stuck (b ∷ p) x q t (ap (λ (l : List ℕ). b ∷ l) h) (rw e g) f

    by : (o : Option State) → step s b ≡ o → ((r : State) → Trace r bs) → Trace s (b ∷ bs)
    by none e f = stuck [] b bs s refl refl e
    by (some r) e f = further r e (f r)

-- a state after p stands for p
sofar_steps : (p : List ℕ) (s t : State) → steps s p ≡ some t → sofar t ≡ sofar s ++ p
unfolding steps chain Moved
sofar_steps [] s t e = let g : s ≡ t = cc in rw (append-nil, g)
sofar_steps (b ∷ p) s t e = by (step s b) (step_ok s b) (λ r. sofar_steps p r t) e
  where
    by : (o : Option State) → Moved (sofar s) b o → ((r : State) → steps r p ≡ some t → sofar t ≡ sofar r ++ p) → chain o (λ r. steps r p) ≡ some t → sofar t ≡ sofar s ++ (b ∷ p)
    by none h f g = impossible cc
    by (some r) h f g = simp (h, append_assoc) at (f r g)

unfoldable pub zero_state : State
zero_state = want (begin top)

pub reached : (p : List ℕ) (t : State) → steps zero_state p ≡ some t → sofar t ≡ p
unfolding zero_state sofar where_s around_s
reached p t e = sofar_steps p (want (begin top)) t e

pub read_stuck : (p : List ℕ) (x : ℕ) (r : List ℕ) (t : State) → steps zero_state p ≡ some t → step t x ≡ none → read (p ++ (x ∷ r)) ≡ character (length p)
unfolding zero_state read go next
read_stuck p x r t e f = go_steps p (x ∷ r) _ t 0 e ∙ rw (f, add-zero)

pub read_through : (p : List ℕ) (t : State) → steps zero_state p ≡ some t → read p ≡ finished (ending t)
unfolding zero_state read go
read_through p t e = rw append-nil at (go_steps p [] _ t 0 e)

-- ---- THE REFUSALS
-- where the machine is stuck nothing goes on
pub stuck_dead : (p : List ℕ) (x : ℕ) (t : State) → steps zero_state p ≡ some t → step t x ≡ none → ¬ Viable (p ++ (x ∷ []))
unfolding Viable
stuck_dead p x t e f v =
    let u = v.0 in
    let g : read (spell u) ≡ character (length p) = rw (v.2, append_assoc) (read_stuck p x v.1 t e f) in
    let h : read (spell u) ≡ done u = complete u in
    impossible cc

unfoldable pub stuck_refused : (p : List ℕ) (x : ℕ) (r : List ℕ) (t : State) → steps zero_state p ≡ some t → step t x ≡ none → WrongAt (p ++ (x ∷ r)) (length p)
stuck_refused p x r t e f =
    record { before = p; byte = x; behind = r; is = refl; place = refl; alive = rw (reached p t e) at (viable t); dead = stuck_dead p x t e f }

-- a text read to its end is viable; a viable text is read to its end
pub through_viable : (p : List ℕ) (t : State) → steps zero_state p ≡ some t → Viable p
through_viable p t e = rw (reached p t e) at (viable t)

-- CHARACTER: the bytes before the place begin a line, and with the byte there they do not
pub character_refused : (s : List ℕ) (n : ℕ) → read s ≡ character n → WrongAt s n
unfolding finished
character_refused s n e = by (trace s zero_state)
  where
    ended_by : (o : Option Line) → finished o ≡ character n → ⊥
    ended_by none g = impossible cc
    ended_by (some u) g = impossible cc

    by : Trace zero_state s → WrongAt s n
    by (through t g) = absurd (ended_by (ending t) (sym (read_through s t g) ∙ e))
    by (stuck p x r t h g f) =
        let a : read s ≡ character (length p) = rw h (read_stuck p x r t g f) in
        let b : length p ≡ n = cc in
        rw (h, ← b) (stuck_refused p x r t g f)

pub viable_through : (s : List ℕ) → Viable s → (t : State) × (steps zero_state s ≡ some t)
viable_through s v = by (trace s zero_state)
  where
    by : Trace zero_state s → (t : State) × (steps zero_state s ≡ some t)
    by (through t g) = (t, g)
    by (stuck p x r t h g f) = absurd (stuck_dead p x t g f (viable_cut (p ++ (x ∷ [])) r (simp append_assoc (rw h at v))))

pub refused_character : (s : List ℕ) (n : ℕ) → WrongAt s n → read s ≡ character n
unfolding steps chain
refused_character s n c = by (step t c.byte) refl
  where
    t : State
    t = (viable_through c.before c.alive).0

    e : steps zero_state c.before ≡ some t
    e = (viable_through c.before c.alive).1

    by : (o : Option State) → step t c.byte ≡ o → read s ≡ character n
    by none f = rw (c.is, ← c.place) (read_stuck c.before c.byte c.behind t e f)
    by (some u) f = absurd (c.dead (through_viable (c.before ++ (c.byte ∷ [])) u (steps_then c.before (c.byte ∷ []) _ t e ∙ rw f)))

-- ENDOFLINE: the whole text begins a line and is none
pub end_refused : (s : List ℕ) → read s ≡ end_of_line → Viable s × (¬ Spelled s)
unfolding Spelled
end_refused s e = (by (trace s zero_state), no_line)
  where
    no_line : Spelled s → ⊥
    no_line v = let g : read s ≡ done v.0 = rw v.1 at (complete v.0) in impossible cc

    by : Trace zero_state s → Viable s
    by (through t g) = through_viable s t g
    by (stuck p x r t h g f) =
        let a : read s ≡ character (length p) = rw h (read_stuck p x r t g f) in
        impossible cc

pub refused_end : (s : List ℕ) → Viable s → ¬ Spelled s → read s ≡ end_of_line
unfolding finished Spelled
refused_end s v no_line = let t = viable_through s v in read_through s t.0 t.1 ∙ by (ending t.0) (read_through s t.0 t.1)
  where
    by : (o : Option Line) → read s ≡ finished o → finished o ≡ end_of_line
    by none g = refl
    by (some u) g = absurd (no_line (u, sound s u g))
