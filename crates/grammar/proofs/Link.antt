-- The reader's definition tells, on every text of bytes, what the machine's last state tells, and where that is.
-- Assumes nothing.
use Prim.Native.Nat.{ℕ, zero, suc, ◌+◌, ◌-◌, ◌*◌, ◌<◌, ◌≤◌}
use mathlib.Core.Path.{◌≡◌, refl, sym, ap, ap₂, ◌∙◌, subst}
use mathlib.Core.List.{List, [], ◌∷◌, ◌++◌, append_assoc, append-nil}
use mathlib.Core.Option.{Option, none, some}
use mathlib.Core.Bool.{Bool, true, false}
use native.Mathlib.Omega.{arith}
use native.Mathlib.Nat.{add-zero, pos_of_ne-zero}
use lib.ListN.{length, length-append}
use lib.Dec.{eqb, ltb, eqb→eq}
use borrow.Author.Tests.{eqb-true, eqb-false, ne_eqb, lt-ltb, le-ltb}
use Rattle.feature.specs.Pick.{pick, both}
use Rattle.feature.specs.Text.{byte}
use Rattle.feature.specs.declared.bond_kind.BondKind.{BondKind}
use Rattle.feature.specs.declared.bond_kind.BondKind.TheVariants as kind
use Rattle.read_token.specs.Scan.{digit_at, missing_at, bond_at, mark_width, rnum_at, percent_at}
use Rattle.read_token.specs.Scan as scan
use Rattle.read_token.specs.declared.scanner.Missing.{Missing}
use Rattle.read_token.specs.declared.scanner.Missing.TheVariants.{EndOfLine, Character}
use Rattle.std.specs.Prelude.{Err, None, Ok, Some}
use Rattle.read_token.specs.Scan.{Ring}
use Rattle.table.specs.Limits.{branch_limit}
use Rattle.read_line.specs.declared.lead.Lead.{Lead}
use Rattle.read_line.specs.declared.lead.Lead.TheVariants as lead
use Rattle.read_token.specs.declared.scanner.Part as scanned
use Rattle.read_line.specs.Events.{ReadEvent, Enter, Join, Pop, Miss, Nest}
use Rattle.read_line.specs.declared.lead.Body.{Body}
use Rattle.read_line.specs.declared.lead.Body.TheVariants as begun
use Rattle.read_line.specs.Parse.{Rest, led_at, body_of, body_at, by_body, miss_p, found_p, atom_p, ring_p, union_by, union_p, unit_by, unit_p, line_p, close_p, branch_p, bodies, end_p, parse}
use Rattle.read_line.proofs.Bodies.{mark_of, same_body}
use Rattle.grammar.specs.Names.{has1}
use Rattle.grammar.specs.Grammar.{Digit, d0, d1, d2, d3, d4, d5, d6, d7, d8, d9, value, digit_s, BondSign, single, double, triple, quadruple, aromatic, up, down, bond_s, bond_k, bond?s, bond?k, organics, Atom, atom_s, atom_k, Rnum, ring1, ring2, rnum_s, rnum_k, Link, elided, bond, dot, link_s, link_k, Line, ring, branch, spell, enter, join_event, atoms, tells}
use Rattle.grammar.proofs.Machine.{leads, on, digit_of, bond_of, Part, bare, whole, isotope, symbol, chiral1, chiral2, family, class, coded1, coded2, hcount, hcount_n, signed, doubled, charge1, charge2, colon, map1, map2, map3, closed, begins, part_step, part_end, Around, top, inside, Where, begin, after, around, put, State, want, in_atom, body, percent, percent1, from_part, shut, body_step, want_step, atom_step, step, topmost, atom_end, ending}
use Rattle.grammar.proofs.Machine as machine
use Rattle.grammar.proofs.Sound.{where_s, around_s, part_s, Grew, part_ok, digit_is, bond_is, put_ok, begins_ok, Ended, ended, guard_t}
use Rattle.grammar.proofs.Late.{late_part, late}
use Rattle.grammar.specs.Lines.{Bytes}
use Rattle.grammar.proofs.Here.{Here, here_end, here_missing, here_past, here_within, here_byte, here_character, here_small, here_next, two_up, worth_of, bond_worth, each}
use Rattle.grammar.proofs.Atoms.{lacked, stopped, part_run, guard2, value_small, digit_end, digit_here}
use Rattle.grammar.proofs.Found.{found_run, found_run_lem}

-- ---- what a state has told
unfoldable pub entry : Around → Link
entry top = dot
entry (inside k c l) = l

unfoldable pub told_around : Around → List ReadEvent
told_around top = []
told_around (inside k c l) = told_around k ++ tells (around_s k) (entry k) c

unfoldable pub told_line : Around → Line → List ReadEvent
told_line k c = told_around k ++ tells (around_s k) (entry k) c

unfoldable pub told_where : Where → List ReadEvent
told_where (begin k) = told_around k
told_where (after k c l) = told_line k c

unfoldable pub told_atom : Where → Option Atom → List ReadEvent
told_atom w none = told_where w
told_atom w (some a) = told_line (around w) (put w a)

unfoldable pub told : State → List ReadEvent
told (want w) = told_where w
told (in_atom w q) = told_atom w (part_end q)
told (body k c) = told_line k c
told (percent k c x) = told_line k c
told (percent1 k c x d) = told_line k c

unfoldable pub halt : Option Line → List ReadEvent
halt none = Miss EndOfLine ∷ []
halt (some t) = []

-- how many branches are open, and whether that is one too many
unfoldable pub height : Around → ℕ
height top = 0
height (inside k c l) = height k + 1

unfoldable pub deep : State → Bool
deep (want (begin k)) = ltb branch_limit (height k)
deep (want (after k c l)) = false
deep (in_atom w q) = false
deep (body k c) = false
deep (percent k c x) = false
deep (percent1 k c x d) = false

unfoldable pub onward : Option State → List ReadEvent → List ReadEvent → (State → List ReadEvent) → List ReadEvent
onward none x y f = x
onward (some t) x y f = pick (deep t) y (f t)

unfoldable pub refusal : State → ℕ → ℕ → List ℕ → Missing
refusal s n b bs = lacked (both (late s) (ltb b 128)) n bs

-- the machine's events: those of its last state, and what stopped it
unfoldable pub full : State → ℕ → List ℕ → List ReadEvent
full s n [] = told s ++ halt (ending s)
full s n (b ∷ bs) = onward (step s b) (told s ++ (Miss (refusal s n b bs) ∷ [])) (told s ++ (Nest n ∷ [])) (λ t. full t (n + 1) bs)

pub guard_on2 : {A X Y : Type 0} (P : X → Y → Type 0) (o : Option A) (f : A → X) (y : X) (g : A → Y) (v : Y) → ((a : A) → o ≡ some a → P (f a) (g a)) → (o ≡ none → P y v) → P (on o f y) (on o g v)
guard_on2 P none f y g v p q = q refl
guard_on2 P (some a) f y g v p q = p a refl

placed : (u v x : List ℕ) (b n : ℕ) → n ≡ length (u ++ v) → x ≡ v ++ (b ∷ []) → n + 1 ≡ length (u ++ x)
placed u v x b n h g = let e : n ≡ length u + length v = simp length-append at h in rw g (simp length-append (omega arith))

-- no whole atom is late
Timely : Part → Option Atom → Type 0
Timely q none = Unit {0}
Timely q (some a) = late_part q ≡ false

timely : (q : Part) → Timely q (part_end q)
unfolding Timely part_end late_part
timely (bare a p) = guard_t (Timely (bare a p)) (has1 a organics) _ _ (λ q. refl) tt
timely (whole s) = refl
timely (isotope i) = tt
timely (machine.lead i a p) = tt
timely (symbol i s) = tt
timely (chiral1 i s) = tt
timely (chiral2 i s) = tt
timely (family i s k) = tt
timely (class i s k) = tt
timely (coded1 i s k d p) = tt
timely (coded2 i s k d e p) = tt
timely (hcount i s c) = tt
timely (hcount_n i s c d) = tt
timely (signed x g) = tt
timely (doubled x g) = tt
timely (charge1 x g d p) = tt
timely (charge2 x g d e p) = tt
timely (colon x q) = tt
timely (map1 x q a) = tt
timely (map2 x q a b) = tt
timely (map3 x q a b c) = tt
timely (closed x q m) = refl

-- ---- atoms
module _ (s : List ℕ) (w : Where) (l : Lead) (at cnt : ℕ) (k : Rest) (m : ℕ) where
  -- what follows an atom at w, on texts shorter than m
  abbrev AtomOk : Type 0
  AtomOk = (a : Atom) (bs : List ℕ) (n : ℕ) → length bs < m → Here s n bs → n ≡ length (where_s w ++ atom_s a)
      → told_where w ++ (Enter l (atom_k a) at ∷ k n (cnt + 1)) ≡ full (body (around w) (put w a)) n bs

  run_full : AtomOk → (bs : List ℕ) (q : Part) (n : ℕ) → length bs < m → Here s n bs → n ≡ length (where_s w ++ part_s q)
      → told_where w ++ found_p s at l cnt k (part_run q n bs) ≡ full (in_atom w q) n bs
  unfolding full told ending told_atom atom_end halt step atom_step onward deep refusal late part_run stopped found_p Ended Grew Timely lacked
  run_full ok [] q n h e p = by (part_end q) (ended q)
    where
      by : (o : Option Atom) → Ended q o → told_where w ++ found_p s at l cnt k (stopped o n EndOfLine) ≡ told_atom w o ++ halt (atom_end w o)
      by none g = refl
      by (some a) g = ok a [] n h e (p ∙ ap (λ (x : List ℕ). length (where_s w ++ x)) (sym g))
  run_full ok (b ∷ bs) q n h e p = by (part_step q b) (part_ok q b) (part_end q) (ended q) (timely q) (λ r. run_full ok bs r (n + 1) (omega arith) (here_next e))
    where
      by : (o : Option Part) → Grew (part_s q) b o → (i : Option Atom) → Ended q i → Timely q i
          → ((r : Part) → n + 1 ≡ length (where_s w ++ part_s r) → told_where w ++ found_p s at l cnt k (part_run r (n + 1) bs) ≡ full (in_atom w r) (n + 1) bs)
          → told_where w ++ found_p s at l cnt k (on o (λ r. part_run r (n + 1) bs) (stopped i n (lacked (both (late_part q) (ltb b 128)) n bs)))
          ≡ onward (atom_step w o i b) (told_atom w i ++ (Miss (lacked (both (late_part q) (ltb b 128)) n bs) ∷ [])) (told_atom w i ++ (Nest n ∷ [])) (λ t. full t (n + 1) bs)
      by (some r) g i d t f = f r (placed (where_s w) (part_s q) (part_s r) b n p g)
      by none g none d t f = refl
      by none g (some a) d t f = rw t (ok a (b ∷ bs) n h e (p ∙ ap (λ (x : List ℕ). length (where_s w ++ x)) (sym d)))

-- where an atom begins, a union is an atom by its bond
union_found : (s : List ℕ) (at : ℕ) (x : BondKind) (n : ℕ) (k : Rest) (bs : List ℕ) (q : Part) (m : ℕ) → union_by s at x n k (part_run q m bs) ≡ found_p s at (lead.Bond x) n k (part_run q m bs)
unfolding part_run
union_found s at x n k [] q m = by (part_end q)
  where
    by : (o : Option Atom) → union_by s at x n k (stopped o m EndOfLine) ≡ found_p s at (lead.Bond x) n k (stopped o m EndOfLine)
    by none = unfold stopped union_by found_p in refl
    by (some a) = unfold stopped union_by found_p in refl
union_found s at x n k (b ∷ bs) q m = by (part_step q b) (part_end q) (λ r. union_found s at x n k bs r (m + 1))
  where
    by : (o : Option Part) (i : Option Atom) → ((r : Part) → union_by s at x n k (part_run r (m + 1) bs) ≡ found_p s at (lead.Bond x) n k (part_run r (m + 1) bs))
        → union_by s at x n k (on o (λ r. part_run r (m + 1) bs) (stopped i m (lacked (both (late_part q) (ltb b 128)) m bs)))
        ≡ found_p s at (lead.Bond x) n k (on o (λ r. part_run r (m + 1) bs) (stopped i m (lacked (both (late_part q) (ltb b 128)) m bs)))
    by (some r) i f = f r
    by none none f = unfold stopped union_by found_p in refl
    by none (some a) f = unfold stopped union_by found_p in refl

-- ---- facts of bytes
-- what a byte begins, in the machine's order
unfoldable sort : ℕ → Body
sort b =
    on (digit_of b) (λ d. begun.Unit) (pick (eqb b (byte "%")) begun.Unit (on (bond_of b) (λ x. begun.Unit) (pick (eqb b (byte ".")) begun.Unit
    (pick (eqb b (byte "(")) begun.Branch (on (begins b) (λ q. begun.Unit) begun.Ends)))))

sort_right : ℕ → Bool
sort_right b = eqb (mark_of (pick (ltb b 128) (body_of b) begun.Ends)) (mark_of (sort b))

sort_of : (b : ℕ) → b < 256 → pick (ltb b 128) (body_of b) begun.Ends ≡ sort b
unfolding sort_right sort digit_of bond_of begins leads organics body_of
sort_of b h = same_body _ _ (eqb→eq _ _ (each sort_right tt b h))

-- a digit is no bond, no dot, no bracket and begins no atom
record Figure (b : ℕ) : Type 0 where
  bnd : bond_of b ≡ none
  pnt : eqb b (byte ".") ≡ false
  beg : begins b ≡ none

figure : (d : Digit) → Figure (digit_s d)
unfolding digit_s bond_of begins leads organics
figure d0 = record { bnd = refl; pnt = refl; beg = refl }
figure d1 = record { bnd = refl; pnt = refl; beg = refl }
figure d2 = record { bnd = refl; pnt = refl; beg = refl }
figure d3 = record { bnd = refl; pnt = refl; beg = refl }
figure d4 = record { bnd = refl; pnt = refl; beg = refl }
figure d5 = record { bnd = refl; pnt = refl; beg = refl }
figure d6 = record { bnd = refl; pnt = refl; beg = refl }
figure d7 = record { bnd = refl; pnt = refl; beg = refl }
figure d8 = record { bnd = refl; pnt = refl; beg = refl }
figure d9 = record { bnd = refl; pnt = refl; beg = refl }

figure_of : (b : ℕ) (d : Digit) → digit_of b ≡ some d → Figure b
figure_of b d e = subst Figure (sym (digit_is b d e)) (figure d)

figure_percent : Figure (byte "%")
unfolding bond_of begins leads organics
figure_percent = record { bnd = refl; pnt = refl; beg = refl }

bond_undot : (x : BondSign) → eqb (bond_s x) (byte ".") ≡ false
unfolding bond_s
bond_undot single = refl
bond_undot double = refl
bond_undot triple = refl
bond_undot quadruple = refl
bond_undot aromatic = refl
bond_undot up = refl
bond_undot down = refl

bond_wide : (x : BondSign) → mark_width (bond_k x) ≡ 1
unfolding mark_width bond_k
bond_wide single = refl
bond_wide double = refl
bond_wide triple = refl
bond_wide quadruple = refl
bond_wide aromatic = refl
bond_wide up = refl
bond_wide down = refl

-- ---- what leads an atom in
abbrev led : Lead → ℕ → scanned.Part Lead
led l n = record { value = l; next = n }

module _ {s : List ℕ} {n : ℕ} where
  led_end : Here s n [] → led_at s n ≡ led (lead.Bond kind.Elided) n
  unfolding led_at bond_at scan.sign_kind mark_width
  led_end e = rw (here_end e, add-zero n)

  led_dot : {bs : List ℕ} → Here s n (byte "." ∷ bs) → led_at s n ≡ led lead.Dot (n + 1)
  unfolding led_at
  led_dot e = rw (here_byte e)

  led_elided : {b : ℕ} {bs : List ℕ} → Here s n (b ∷ bs) → eqb b (byte ".") ≡ false → bond_of b ≡ none → led_at s n ≡ led (lead.Bond kind.Elided) n
  unfolding led_at bond_at bond?k mark_width
  led_elided {b} e p g = rw (here_byte e, p, bond_worth b (here_small e), g, add-zero n)

  led_bond : {b : ℕ} {bs : List ℕ} (x : BondSign) → Here s n (b ∷ bs) → bond_of b ≡ some x → led_at s n ≡ led (lead.Bond (bond_k x)) (n + 1)
  unfolding led_at bond_at bond?k
  led_bond {b} x e g = rw (here_byte e, ap (λ (y : ℕ). eqb y (byte ".")) (bond_is b x g) ∙ bond_undot x, bond_worth b (here_small e), g, bond_wide x)

  -- ---- ring numbers
  ring_digit : {b : ℕ} {bs : List ℕ} (d : Digit) → Here s n (b ∷ bs) → digit_of b ≡ some d → rnum_at s n ≡ Ok (Some (value d, n + 1))
  unfolding rnum_at worth_of
  ring_digit d e g = rw (digit_here e ∙ ap worth_of g, lt-ltb (value d) 10 (value_small d))

  ring_percent : {bs : List ℕ} → Here s n (byte "%" ∷ bs) → rnum_at s n ≡ percent_at s (n + 1)
  unfolding rnum_at digit_of worth_of
  ring_percent e = rw (digit_here e, here_byte e)

  ring_none : {b : ℕ} {bs : List ℕ} → Here s n (b ∷ bs) → digit_of b ≡ none → eqb b (byte "%") ≡ false → rnum_at s n ≡ (Ok None)
  unfolding rnum_at worth_of
  ring_none e g p = rw (digit_here e ∙ ap worth_of g, here_byte e, p)

  ring_end : Here s n [] → rnum_at s n ≡ (Ok None)
  unfolding rnum_at
  ring_end e = rw (digit_end e, here_end e)

-- ---- lines
link_of : Where → Link
link_of (begin k) = entry k
link_of (after k c l) = l

put_told : (w : Where) (a : Atom) → told_line (around w) (put w a) ≡ told_where w ++ (enter (link_of w) a (length (where_s w)) ∷ [])
unfolding told_line told_where around put link_of tells where_s
put_told (begin k) a = refl
put_told (after k c l) a = simp append_assoc

ring_told : (k : Around) (c : Line) (x : Option BondSign) (r : Rnum) → told_line k (ring c x r) ≡ told_line k c ++ (join_event x r (length (around_s k ++ (spell c ++ bond?s x))) ∷ [])
unfolding told_line tells
ring_told k c x r = simp append_assoc

branch_told : (k : Around) (c : Line) (l : Link) (d : Line) → told_line k (branch c l d) ≡ told_line (inside k c l) d ++ (Pop (atoms d) ∷ [])
unfolding told_line tells told_around around_s entry
branch_told k c l d = simp append_assoc

-- the atoms of the line before the one to come
put_before : (w : Where) → ℕ
put_before (begin k) = 0
put_before (after k c l) = atoms c

put_count : (w : Where) (a : Atom) → atoms (put w a) ≡ put_before w + 1
unfolding put atoms put_before
put_count (begin k) a = refl
put_count (after k c l) a = refl

module _ (s : List ℕ) where
  -- a line's bodies, on texts shorter than m
  BodiesOk : Around → Rest → ℕ → Type 0
  BodiesOk a g m = (c : Line) (bs : List ℕ) (n : ℕ) → length bs < m → Here s n bs → n ≡ length (around_s a ++ spell c) → told_line a c ++ g n (atoms c) ≡ full (body a c) n bs

  enter_ok : (w : Where) (g : Rest) (m n : ℕ) → BodiesOk (around w) g m → n ≡ length (where_s w) → AtomOk s w (link_k (link_of w)) n (put_before w) g m
  unfolding BodiesOk enter
  enter_ok w g m n h p a bs n' l e q =
      rw p (sym (append_assoc (told_where w) (Enter (link_k (link_of w)) (atom_k a) (length (where_s w)) ∷ []) (g n' (put_before w + 1)))
      ∙ ap₂ (λ (x : List ReadEvent) (y : ℕ). x ++ g n' y) (sym (put_told w a)) (sym (put_count w a)) ∙ h (put w a) bs n' l e (q ∙ ap length (sym (put_ok w a))))

  -- an atom that must come here
  enter_list : (w : Where) (g : Rest) (m n : ℕ) (bs : List ℕ) → ((b : ℕ) → want_step w b ≡ from_part w (begins b)) → BodiesOk (around w) g m → length bs < suc m → Here s n bs → n ≡ length (where_s w)
      → told_where w ++ atom_p s n (link_k (link_of w)) (put_before w) g ≡ full (want w) n bs
  unfolding atom_p found_run full told ending halt step onward deep refusal late lacked from_part found_p miss_p Grew
  enter_list w g m n [] h ok l e p = rw (found_run_lem s n [] e, here_missing e)
  enter_list w g m n (b ∷ bs) h ok l e p = rw (found_run_lem s n (b ∷ bs) e, h b) (by (begins b) (begins_ok b))
    where
      by : (o : Option Part) → Grew [] b o → told_where w ++ found_p s n (link_k (link_of w)) (put_before w) g (on o (λ q. part_run q (n + 1) bs) (Ok None))
          ≡ onward (from_part w o) (told_where w ++ (Miss (Character n) ∷ [])) (told_where w ++ (Nest n ∷ [])) (λ t. full t (n + 1) bs)
      by none r = rw (here_character e)
      by (some q) r = run_full s w (link_k (link_of w)) n (put_before w) g m (enter_ok w g m n ok p) bs q (n + 1) (omega arith) (here_next e)
          (placed (where_s w) [] (part_s q) b n (rw append-nil p) r)

  further : (u v x r : List ℕ) (n j : ℕ) → n ≡ length (u ++ (v ++ x)) → j ≡ length r + n → j ≡ length (u ++ (v ++ (x ++ r)))
  further u v x r n j h g = let e : n ≡ length u + (length v + length x) = simp length-append at h in simp length-append (omega arith)

  -- ---- ring numbers
  module _ (a : Around) (c : Line) (x : Option BondSign) (g : Rest) (m : ℕ) (ok : BodiesOk a g m) (j : ℕ) (at : j ≡ length (around_s a ++ (spell c ++ bond?s x))) where
    abbrev ringed : Ring → List ReadEvent
    ringed r = told_line a c ++ ring_p s j (bond?k x) (atoms c) g r

    ring_ok : (r : Rnum) (bs : List ℕ) (n : ℕ) → length bs < m → Here s n bs → n ≡ length (around_s a ++ spell (ring c x r)) → ringed (Ok (Some (rnum_k r, n))) ≡ full (body a (ring c x r)) n bs
    unfolding ring_p BodiesOk atoms join_event
    ring_ok r bs n l e p =
        rw at (sym (append_assoc (told_line a c) (Join (bond?k x) (rnum_k r) (length (around_s a ++ (spell c ++ bond?s x))) ∷ []) (g n (atoms c)))
        ∙ ap (λ (y : List ReadEvent). y ++ g n (atoms c)) (sym (ring_told a c x r)) ∙ ok (ring c x r) bs n l e p)

    abbrev step_r : Option State → ℕ → List ℕ → List ReadEvent
    step_r o n bs = onward o (told_line a c ++ (Miss (Character n) ∷ [])) (told_line a c ++ (Nest n ∷ [])) (λ t. full t (n + 1) bs)

    percent1_list : (d : Digit) (bs : List ℕ) (n : ℕ) → length bs < m → Here s n bs → n ≡ j + 2
        → ringed (pick (eqb (digit_at s n) 10) (Err (missing_at s n)) (Ok (Some (value d * 10 + digit_at s n, n + 1)))) ≡ full (percent1 a c x d) n bs
    unfolding full step told ending halt onward deep refusal late lacked ring_p worth_of spell rnum_s rnum_k
    percent1_list d [] n l e q = rw (digit_end e, here_missing e)
    percent1_list d (b ∷ bs) n l e q = rw (digit_here e) (by (digit_of b) refl)
      where
        by : (o : Option Digit) → digit_of b ≡ o
            → ringed (pick (eqb (worth_of o) 10) (Err (missing_at s n)) (Ok (Some (value d * 10 + worth_of o, n + 1)))) ≡ step_r (on o (λ f. some (body a (ring c x (ring2 d f)))) none) n bs
        by none z = rw (here_character e)
        by (some f) z = rw (ne_eqb (value f) 10 (λ y. omega (arith, value_small f)))
            (ring_ok (ring2 d f) bs (n + 1) (omega arith) (here_next e) (further (around_s a) (spell c) (bond?s x) (byte "%" ∷ digit_s d ∷ digit_s f ∷ []) j (n + 1) at (omega arith)))

    percent_list : (bs : List ℕ) (n : ℕ) → length bs < m → Here s n bs → n ≡ j + 1 → ringed (percent_at s n) ≡ full (percent a c x) n bs
    unfolding full step told ending halt onward deep refusal late lacked ring_p worth_of percent_at
    percent_list [] n l e q = rw (digit_end e, here_missing e)
    percent_list (b ∷ bs) n l e q = rw (digit_here e, two_up n) (by (digit_of b) refl)
      where
        by : (o : Option Digit) → digit_of b ≡ o
            → ringed (pick (eqb (worth_of o) 10) (Err (missing_at s n)) (pick (eqb (digit_at s (n + 1)) 10) (Err (missing_at s (n + 1))) (Ok (Some (worth_of o * 10 + digit_at s (n + 1), n + 1 + 1)))))
            ≡ step_r (on o (λ d. some (percent1 a c x d)) none) n bs
        by none z = rw (here_character e)
        by (some d) z = rw (ne_eqb (value d) 10 (λ y. omega (arith, value_small d))) (percent1_list d bs (n + 1) (omega arith) (here_next e) (omega arith))

    digit_list : (b : ℕ) (bs : List ℕ) (d : Digit) → length bs < m → Here s j (b ∷ bs) → digit_of b ≡ some d → ringed (rnum_at s j) ≡ full (body a (ring c x (ring1 d))) (j + 1) bs
    unfolding rnum_k spell rnum_s
    digit_list b bs d l e z = rw (ring_digit d e z) (ring_ok (ring1 d) bs (j + 1) l (here_next e) (further (around_s a) (spell c) (bond?s x) (digit_s d ∷ []) j (j + 1) at (omega arith)))

    -- a union where no atom begins is a ring number
    union_ring : (b : ℕ) (bs : List ℕ) → Here s j (b ∷ bs) → begins b ≡ none → told_line a c ++ union_p s j (bond?k x) (atoms c) g ≡ ringed (rnum_at s j)
    unfolding union_p union_by found_run
    union_ring b bs e z = rw (found_run_lem s j (b ∷ bs) e, z)

    union_byte : (b : ℕ) (bs : List ℕ) (o : Option State) → length bs < m → Here s j (b ∷ bs)
        → (digit_of b ≡ none → eqb b (byte "%") ≡ false → told_line a c ++ union_p s j (bond?k x) (atoms c) g ≡ step_r o j bs)
        → told_line a c ++ union_p s j (bond?k x) (atoms c) g ≡ step_r (on (digit_of b) (λ d. some (body a (ring c x (ring1 d)))) (pick (eqb b (byte "%")) (some (percent a c x)) o)) j bs
    unfolding onward deep
    union_byte b bs o l e f = by (digit_of b) (eqb b (byte "%")) refl refl
      where
        by : (i : Option Digit) (t : Bool) → digit_of b ≡ i → eqb b (byte "%") ≡ t
            → told_line a c ++ union_p s j (bond?k x) (atoms c) g ≡ step_r (on i (λ d. some (body a (ring c x (ring1 d)))) (pick t (some (percent a c x)) o)) j bs
        by (some d) t z y = union_ring b bs e (figure_of b d z).beg ∙ digit_list b bs d l e z
        by none true z y =
            let h : Here s j (byte "%" ∷ bs) = subst (λ (v : ℕ). Here s j (v ∷ bs)) (eqb-true b (byte "%") y) e in
            union_ring (byte "%") bs h figure_percent.beg ∙ ap ringed (ring_percent h) ∙ percent_list bs (j + 1) l (here_next h) refl
        by none false z y = f z y

  -- what a step of the machine tells after a line
  abbrev step_l : Around → Line → Option State → ℕ → List ℕ → List ReadEvent
  step_l a c o n bs = onward o (told_line a c ++ (Miss (Character n) ∷ [])) (told_line a c ++ (Nest n ∷ [])) (λ t. full t (n + 1) bs)

  -- a union where an atom begins, or nothing
  union_atom : (a : Around) (c : Line) (l : Link) (x : Option BondSign) (g : Rest) (m n b : ℕ) (bs : List ℕ) → link_k l ≡ lead.Bond (bond?k x) → BodiesOk a g m → length bs < m → Here s n (b ∷ bs)
      → n ≡ length (around_s a ++ (spell c ++ link_s l)) → (q : Part) → part_s q ≡ b ∷ []
      → told_line a c ++ union_by s n (bond?k x) (atoms c) g (part_run q (n + 1) bs) ≡ full (in_atom (after a c l) q) (n + 1) bs
  unfolding told_where where_s around link_of put_before
  union_atom a c l x g m n b bs k ok h e p q r =
      ap (λ (y : List ReadEvent). told_line a c ++ y) (union_found s n (bond?k x) (atoms c) g bs q (n + 1) ∙ ap (λ (y : Lead). found_p s n y (atoms c) g (part_run q (n + 1) bs)) (sym k))
      ∙ run_full s (after a c l) (link_k l) n (atoms c) g m (enter_ok (after a c l) g m n ok p) bs q (n + 1) h (here_next e) (placed (around_s a ++ (spell c ++ link_s l)) [] (part_s q) b n (rw append-nil p) r)

  union_none : (a : Around) (c : Line) (x : Option BondSign) (g : Rest) (n b : ℕ) (bs : List ℕ) → Here s n (b ∷ bs) → digit_of b ≡ none → eqb b (byte "%") ≡ false
      → told_line a c ++ union_by s n (bond?k x) (atoms c) g (Ok None) ≡ told_line a c ++ (Miss (Character n) ∷ [])
  unfolding union_by ring_p miss_p
  union_none a c x g n b bs e z y = rw (ring_none e z y, here_character e)

  -- after a bond: a ring number or an atom
  union_list : (a : Around) (c : Line) (x : BondSign) (g : Rest) (m n : ℕ) (bs : List ℕ) → BodiesOk a g m → length bs < suc m → Here s n bs → n ≡ length (around_s a ++ (spell c ++ (bond_s x ∷ [])))
      → told_line a c ++ union_p s n (bond_k x) (atoms c) g ≡ full (want (after a c (bond x))) n bs
  unfolding union_p full told told_where ending halt step want_step refusal late lacked bond?k bond?s link_k link_s Grew found_run
  union_list a c x g m n [] ok l e p = rw (found_run_lem s n [] e) (unfold union_by ring_p miss_p in rw (ring_end e, here_missing e))
  union_list a c x g m n (b ∷ bs) ok l e p =
      union_byte a c (some x) g m ok n p b bs (from_part (after a c (bond x)) (begins b)) (omega arith) e (λ z y. rw (found_run_lem s n (b ∷ bs) e) (by z y (begins b) (begins_ok b)))
    where
      by : digit_of b ≡ none → eqb b (byte "%") ≡ false → (o : Option Part) → Grew [] b o
          → told_line a c ++ union_by s n (bond_k x) (atoms c) g (on o (λ q. part_run q (n + 1) bs) (Ok None)) ≡ step_l a c (from_part (after a c (bond x)) o) n bs
      by z y none r = unfold onward from_part in union_none a c (some x) g n b bs e z y
      by z y (some q) r = unfold onward from_part deep in union_atom a c (bond x) (some x) g m n b bs refl ok (omega arith) e p q r

  -- after "("
  open_list : (a : Around) (c : Line) (g : Rest) (m n : ℕ) (bs : List ℕ) → ltb branch_limit (height a + 1) ≡ false → ((l : Link) → BodiesOk (inside a c l) g m) → length bs < suc m → Here s n bs
      → n ≡ length (around_s a ++ (spell c ++ (byte "(" ∷ [])))
      → told_line a c ++ atom_p s (led_at s n).next (led_at s n).value 0 g ≡ full (want (begin (inside a c elided))) n bs
  unfolding full told told_where told_around told_line ending halt step want_step onward deep height refusal late lacked from_part link_k link_of entry put_before where_s around_s link_s around Grew
  open_list a c g m n [] shallow ok l e p = rw (led_end e) (unfold atom_p found_p found_run miss_p in rw (found_run_lem s n [] e, here_missing e))
  open_list a c g m n (b ∷ bs) shallow ok l e p = by (bond_of b) (eqb b (byte ".")) refl refl
    where
      at_part : (o : Option Part) → Grew [] b o
          → told_line a c ++ found_p s n (lead.Bond kind.Elided) 0 g (on o (λ q. part_run q (n + 1) bs) (Ok None)) ≡ step_l a c (from_part (begin (inside a c elided)) o) n bs
      at_part none r = unfold found_p miss_p in rw (here_character e)
      at_part (some q) r = run_full s (begin (inside a c elided)) (lead.Bond kind.Elided) n 0 g m (enter_ok (begin (inside a c elided)) g m n (ok elided) p) bs q (n + 1) (omega arith) (here_next e)
          (placed (around_s a ++ (spell c ++ (byte "(" ∷ []))) [] (part_s q) b n (rw append-nil p) r)

      by : (i : Option BondSign) (t : Bool) → bond_of b ≡ i → eqb b (byte ".") ≡ t
          → told_line a c ++ atom_p s (led_at s n).next (led_at s n).value 0 g
          ≡ step_l a c (on i (λ x. some (want (begin (inside a c (bond x))))) (pick t (some (want (begin (inside a c dot)))) (from_part (begin (inside a c elided)) (begins b)))) n bs
      by (some x) t z y = rw (led_bond x e z, shallow)
          (enter_list (begin (inside a c (bond x))) g m (n + 1) bs (λ b. refl) (ok (bond x)) (omega arith) (here_next e) (further (around_s a) (spell c) (byte "(" ∷ []) (bond_s x ∷ []) n (n + 1) p (omega arith)))
      by none true z y =
          let h : Here s n (byte "." ∷ bs) = subst (λ (v : ℕ). Here s n (v ∷ bs)) (eqb-true b (byte ".") y) e in
          rw (led_dot h, shallow)
          (enter_list (begin (inside a c dot)) g m (n + 1) bs (λ b. refl) (ok dot) (omega arith) (here_next e) (further (around_s a) (spell c) (byte "(" ∷ []) (byte "." ∷ []) n (n + 1) p (omega arith)))
      by none false z y = rw (led_elided e y z) (unfold atom_p found_run in rw (found_run_lem s n (b ∷ bs) e) (at_part (begins b) (begins_ok b)))

  -- ---- bodies
  -- what follows the bodies of a line
  record LineOk (a : Around) (k : Rest) (m : ℕ) : Type 0 where
    nil : (d : Line) (n : ℕ) → Here s n [] → told_line a d ++ k n (atoms d) ≡ full (body a d) n []
    later : (d : Line) (b : ℕ) (bs : List ℕ) (n : ℕ) → length bs < m → Here s n (b ∷ bs) → n ≡ length (around_s a ++ spell d)
        → told_line a d ++ k n (atoms d) ≡ step_l a d (pick (eqb b (byte ")")) (shut a d) none) n bs

  weaker : (a : Around) (k : Rest) (f : ℕ) → LineOk a k (suc f) → LineOk a k f
  weaker a k f o = record { nil = o.nil; later = λ d b bs n h e p. o.later d b bs n (omega arith) e p }

  shut_line : (a : Around) (c : Line) (l : Link) (g : Rest) (m : ℕ) → BodiesOk a g m → LineOk (inside a c l) (close_p s (λ at. g at (atoms c))) m
  unfolding BodiesOk close_p miss_p full told ending topmost halt onward deep shut atoms
  shut_line a c l g m ok = record {
    nil = λ d n e. rw (here_end e, here_missing e);
    later = λ d b bs n h e p. rw (here_byte e, here_character e)
        (guard2 (λ (y : List ReadEvent) (o : Option State). told_line (inside a c l) d ++ y ≡ step_l (inside a c l) d o n bs) b (byte ")") _ _ _ _
        (λ z. sym (append_assoc (told_line (inside a c l) d) (Pop (atoms d) ∷ []) (g (n + 1) (atoms c))) ∙ ap (λ (y : List ReadEvent). y ++ g (n + 1) (atoms c)) (sym (branch_told a c l d))
        ∙ ok (branch c l d) bs (n + 1) h (here_next e) (shut_place d n p))
        (λ z. refl));
  }
    where
      shut_place : (d : Line) (n : ℕ) → n ≡ length (around_s (inside a c l) ++ spell d) → n + 1 ≡ length (around_s a ++ spell (branch c l d))
      shut_place d n p = placed [] (around_s (inside a c l) ++ spell d) (around_s a ++ spell (branch c l d)) (byte ")") n p (unfold around_s spell in simp append_assoc)

  end_line : (m : ℕ) → LineOk top (end_p s) m
  unfolding end_p full told ending topmost halt onward shut
  end_line m = record {
    nil = λ d n e. rw (here_past e);
    later = λ d b bs n h e p. rw (here_within e) (by d n bs (eqb b (byte ")")));
  }
    where
      by : (d : Line) (n : ℕ) (bs : List ℕ) (t : Bool) → told_line top d ++ (Miss (Character n) ∷ []) ≡ step_l top d (pick t none none) n bs
      by d n bs true = refl
      by d n bs false = refl

  module _ (a : Around) (c : Line) (k g : Rest) (more : ℕ → ℕ → ℕ → Rest → List ReadEvent) (room m : ℕ) (fits : room + height a ≡ branch_limit) (ih : BodiesOk a g m)
      (inner : (d : Link) → room - 1 + height (inside a c d) ≡ branch_limit → BodiesOk (inside a c d) (λ at n. more (room - 1) at n (close_p s (λ at. g at (atoms c)))) m)
      (b : ℕ) (bs : List ℕ) (n : ℕ) (l : length bs < m) (e : Here s n (b ∷ bs)) (p : n ≡ length (around_s a ++ spell c)) where
    abbrev step_b : Option State → List ReadEvent
    step_b o = step_l a c o n bs

    place_b : n ≡ length (around_s a ++ (spell c ++ []))
    place_b = rw append-nil p

    unit_elided : eqb b (byte ".") ≡ false → bond_of b ≡ none → unit_p s n (atoms c) g ≡ union_p s n kind.Elided (atoms c) g
    unfolding unit_p unit_by
    unit_elided y z = rw (led_elided e y z)

    unit_digit : (d : Digit) → digit_of b ≡ some d → told_line a c ++ unit_p s n (atoms c) g ≡ step_b (some (body a (ring c none (ring1 d))))
    unfolding onward deep bond?k bond?s
    unit_digit d z = let h = figure_of b d z in
        ap (λ (y : List ReadEvent). told_line a c ++ y) (unit_elided h.pnt h.bnd) ∙ union_ring a c none g m ih n place_b b bs e h.beg ∙ digit_list a c none g m ih n place_b b bs d l e z

    unit_percent : b ≡ byte "%" → told_line a c ++ unit_p s n (atoms c) g ≡ step_b (some (percent a c none))
    unfolding onward deep bond?k bond?s
    unit_percent z = let f : Figure b = subst Figure (sym z) figure_percent in let h : Here s n (byte "%" ∷ bs) = subst (λ (v : ℕ). Here s n (v ∷ bs)) z e in
        ap (λ (y : List ReadEvent). told_line a c ++ y) (unit_elided f.pnt f.bnd) ∙ union_ring a c none g m ih n place_b b bs e f.beg
        ∙ ap (λ (r : Ring). told_line a c ++ ring_p s n kind.Elided (atoms c) g r) (ring_percent h) ∙ percent_list a c none g m ih n place_b bs (n + 1) l (here_next e) refl

    unit_bond : (x : BondSign) → bond_of b ≡ some x → told_line a c ++ unit_p s n (atoms c) g ≡ step_b (some (want (after a c (bond x))))
    unfolding onward deep unit_p unit_by
    unit_bond x z = rw (led_bond x e z) (union_list a c x g m (n + 1) bs ih (omega arith) (here_next e) (further (around_s a) (spell c) [] (bond_s x ∷ []) n (n + 1) place_b (omega arith)))

    unit_dot : b ≡ byte "." → told_line a c ++ unit_p s n (atoms c) g ≡ step_b (some (want (after a c dot)))
    unfolding onward deep unit_p unit_by told_where link_of put_before link_k around want_step where_s link_s
    unit_dot z = let h : Here s n (byte "." ∷ bs) = subst (λ (v : ℕ). Here s n (v ∷ bs)) z e in
        rw (led_dot h) (enter_list (after a c dot) g m (n + 1) bs (λ b. refl) ih (omega arith) (here_next e) (further (around_s a) (spell c) [] (byte "." ∷ []) n (n + 1) place_b (omega arith)))

    unit_open : b ≡ byte "(" → told_line a c ++ branch_p more s n room (λ at. g at (atoms c)) ≡ step_b (some (want (begin (inside a c elided))))
    unfolding onward deep branch_p line_p height
    unit_open z = by (eqb room 0) refl
      where
        by : (t : Bool) → eqb room 0 ≡ t
            → told_line a c ++ pick t (Nest n ∷ []) (atom_p s (led_at s (n + 1)).next (led_at s (n + 1)).value 0 (λ at' n'. more (room - 1) at' n' (close_p s (λ at. g at (atoms c)))))
            ≡ pick (ltb branch_limit (height a + 1)) (told_line a c ++ (Nest n ∷ [])) (full (want (begin (inside a c elided))) (n + 1) bs)
        by true y = rw (lt-ltb branch_limit (height a + 1) (omega (arith, eqb-true room 0 y)))
        by false y =
            let some_room : 1 ≤ room = pos_of_ne-zero (eqb-false room 0 y) in
            let shallow : ltb branch_limit (height a + 1) ≡ false = le-ltb branch_limit (height a + 1) (omega arith) in
            rw shallow (open_list a c (λ at n. more (room - 1) at n (close_p s (λ at. g at (atoms c)))) m (n + 1) bs shallow (λ d. inner d (omega arith)) (omega arith) (here_next e)
            (further (around_s a) (spell c) [] (byte "(" ∷ []) n (n + 1) place_b (omega arith)))

    unit_atom : eqb b (byte ".") ≡ false → bond_of b ≡ none → (q : Part) → begins b ≡ some q → told_line a c ++ unit_p s n (atoms c) g ≡ step_b (some (in_atom (after a c elided) q))
    unfolding onward deep union_p found_run bond?k link_k link_s Grew
    unit_atom y z q r =
        ap (λ (y : List ReadEvent). told_line a c ++ y) (unit_elided y z ∙ rw (found_run_lem s n (b ∷ bs) e, r))
        ∙ union_atom a c elided none g m n b bs refl ih l e place_b q (subst (Grew [] b) r (begins_ok b))

    body_byte : told_line a c ++ k n (atoms c) ≡ step_b (pick (eqb b (byte ")")) (shut a c) none)
        → told_line a c ++ by_body (body_at s n) (k n (atoms c)) (branch_p more s n room (λ at. g at (atoms c))) (unit_p s n (atoms c) g) ≡ full (body a c) n (b ∷ bs)
    unfolding full step told body_step refusal late lacked sort
    body_byte last =
        let P : Body → Option State → Type 0 = λ v o. told_line a c ++ by_body v (k n (atoms c)) (branch_p more s n room (λ at. g at (atoms c))) (unit_p s n (atoms c) g) ≡ step_b o in
        let h : body_at s n ≡ sort b = unfold body_at in rw (here_byte e) (sort_of b (here_small e)) in
        rw h
        (guard_on2 P (digit_of b) _ _ _ _ (λ d z. unit_digit d z)
        (λ z1. guard2 P b (byte "%") _ _ _ _ (λ z. unit_percent z)
        (λ z2. guard_on2 P (bond_of b) _ _ _ _ (λ x z. unit_bond x z)
        (λ z3. guard2 P b (byte ".") _ _ _ _ (λ z. unit_dot z)
        (λ z4. guard2 P b (byte "(") _ _ _ _ (λ z. unit_open z)
        (λ z5. guard_on2 P (begins b) _ _ _ _ (λ q z. unit_atom z4 z3 q z) (λ z6. last)))))))

  bodies_ok : (f : ℕ) (a : Around) (k : Rest) (room : ℕ) → room + height a ≡ branch_limit → LineOk a k f → BodiesOk a (λ at n. bodies f s room at n k) f
  unfolding bodies BodiesOk
  bodies_ok zero a k room fits o c bs n l e p = absurd (omega arith)
  bodies_ok (suc f) a k room fits o c [] n l e p = unfold body_at in rw (here_end e) (o.nil c n e)
  bodies_ok (suc f) a k room fits o c (b ∷ bs) n l e p =
      let ih : BodiesOk a (λ at n. bodies f s room at n k) f = bodies_ok f a k room fits (weaker a k f o) in
      body_byte a c k (λ at n. bodies f s room at n k) (bodies f s) room f fits ih
      (λ d fit. bodies_ok f (inside a c d) (close_p s (λ at. bodies f s room at (atoms c) k)) (room - 1) fit (shut_line a c d (λ at n. bodies f s room at n k) f ih))
      b bs n (omega arith) e p (o.later c b bs n (omega arith) e p)

-- the whole text, from its first place on
pub here_all : (s : List ℕ) → Bytes s → Here s 0 s
here_all s h = record { is = refl; small = h }

-- THE READER'S DEFINITION IS THE MACHINE, event by event
pub parse_full : (s : List ℕ) → Bytes s → parse s ≡ full (want (begin top)) 0 s
unfolding parse line_p told_where told_around link_of entry link_k put_before where_s around_s around want_step height
parse_full s h =
    enter_list s (begin top) (λ at n. bodies (length s + 1) s branch_limit at n (end_p s)) (length s + 1) 0 s (λ b. refl)
    (bodies_ok s (length s + 1) top (end_p s) branch_limit refl (end_line s (length s + 1))) (omega arith) (here_all s h) refl
