-- What is not small is refused: an OpenSMILES chain with a number too wide is no tree's spelling. Assumes nothing.
use mathlib.Core.Path.{◌≡◌, refl, sym, ap, ◌∙◌, subst}
use mathlib.Core.List.{List, [], ◌∷◌, ◌++◌, append_assoc}
use mathlib.Core.Option.{none, some}
use mathlib.Core.Bool.{Bool, true, false}
use mathlib.Core.Logic.{◌⊎◌, inl, inr}
use Prim.Native.Nat.{ℕ, ◌≤◌}
use lib.Dec.{eqb, T}
use lib.ListN.{length}
use native.Mathlib.Omega.{arith}
use Rattle.feature.specs.Text.{byte}
use Rattle.feature.proofs.Cases.{impossible}
use Rattle.grammar.specs.Grammar.{Digit, d0, d1, d2, d3, d4, d5, d6, d7, d8, d9, iso0, iso3, Isotope, Symbol, class1, class2, valid1, valid2, code1, Head, head, head_s, sign_s, okay1, okay2, Charge, Atom, Link, Line, start, link, digit_s, symbol_s, chiral_s, hcount_s, atom_s, link_s, spell}
use Rattle.grammar.proofs.Machine.{Part, isotope, signed, charge1, charge2, map3, class, coded1, coded2, to_chiral, grow, to_close, part_step, part_end, Around, top, inside, Where, begin, after, State, want, in_atom, atom_step, step, done, character, read}
use Rattle.grammar.proofs.Table.{test_yes, test_not, at_second}
use Rattle.grammar.proofs.Complete.{chain, steps, steps_then, parts, parts_then, now, read_line, digit_of_lem, after_symbol, after_chiral, read_isotope, read_symbol, past_symbol, read_class, read_chiral, after_head, after_charge, read_head, read_sign, read_charge, read_colon, atom_steps, read_open, open_link, open_first}
use Rattle.grammar.proofs.Reading.{zero_state, read_stuck}
use Rattle.grammar.specs.OpenSmiles.{Chiral', flat', at', atat', code1', code2', pair', chiral_s', SmallChiral, Atom', organic', bracket', Charge', neutral', sign', twice', digit', digits', Chain, first, then, Branched, branched, Branches, no_branches, and_branch, Rings, digits_s, charge_s', class_s', atom_s', rings_s, chain_s, branched_s, branches_s, Small, SmallBranched, SmallBranches, SmallAtom, SmallCharge, Strict}
use Rattle.grammar.proofs.Chains.{same1, same2, isotope_of, chiral_of, charge_of, atom_of, rings_of, line_of, branches_of, small_read, number_ok, chiral_ok, charge_ok, atom_ok, rings_ok, chain_ok, branches_ok}

record PStuck (q : Part) (bs : List ℕ) : Type 0 where
  before : List ℕ
  byte : ℕ
  behind : List ℕ
  last : Part
  is : bs ≡ before ++ (byte ∷ behind)
  gone : parts q before ≡ some last
  halts : part_step last byte ≡ none
  open' : part_end last ≡ none

p_more : {q : Part} {bs : List ℕ} (cs : List ℕ) → PStuck q bs → PStuck q (bs ++ cs)
p_more cs z = record { before = z.before; byte = z.byte; behind = z.behind ++ cs; last = z.last; is = ap (λ (l : List ℕ). l ++ cs) z.is ∙ append_assoc z.before (z.byte ∷ z.behind) cs; gone = z.gone; halts = z.halts; open' = z.open' }

p_after : {q p : Part} {bs : List ℕ} (xs : List ℕ) → parts q xs ≡ some p → PStuck p bs → PStuck q (xs ++ bs)
p_after {q} {p} xs e z = record { before = xs ++ z.before; byte = z.byte; behind = z.behind; last = z.last; is = ap (λ (l : List ℕ). xs ++ l) z.is ∙ sym (append_assoc xs z.before (z.byte ∷ z.behind)); gone = parts_then xs z.before q p e ∙ z.gone; halts = z.halts; open' = z.open' }

number_run : (i : List Digit) → (length i ≤ 3) ⊎ PStuck (isotope iso0) (digits_s i)
unfolding digits_s parts chain part_step grow part_end
number_run [] = inl (omega arith)
number_run (a ∷ []) = inl (omega arith)
number_run (a ∷ b ∷ []) = inl (omega arith)
number_run (a ∷ b ∷ c ∷ []) = inl (omega arith)
number_run (a ∷ b ∷ c ∷ d ∷ r) = inr (record { before = digit_s a ∷ digit_s b ∷ digit_s c ∷ []; byte = digit_s d; behind = digits_s r; last = isotope (iso3 a b c); is = refl; gone = simp digit_of_lem; halts = rw (digit_of_lem d); open' = refl })

chiral_run : (i : Isotope) (s : Symbol) (c : Chiral') → SmallChiral c ⊎ PStuck (after_symbol i s) (chiral_s' c)
unfolding SmallChiral chiral_s'
chiral_run i s flat' = inl tt
chiral_run i s at' = inl tt
chiral_run i s atat' = inl tt
chiral_run i s (code1' k d p) = inl (subst (λ (t : Bool). T t) (same1 k d) p)
chiral_run i s (code2' k d e p) = inl (subst (λ (t : Bool). T t) (same2 k d e) p)
chiral_run i s (pair' k w d e) = by (valid2 k d e) refl (valid1 k d) refl
  where
    by : (t : Bool) → valid2 k d e ≡ t → (u : Bool) → valid1 k d ≡ u → T (valid2 k d e) ⊎ PStuck (after_symbol i s) ((byte "@") ∷ class1 k ∷ class2 k ∷ digit_s d ∷ digit_s e ∷ [])
    by true h u f = inl (rw h tt)
    by false h true f = inr (record {
      before = (byte "@") ∷ class1 k ∷ class2 k ∷ digit_s d ∷ [];
      byte = digit_s e;
      behind = [];
      last = coded1 i s k d (rw f tt);
      is = refl;
      gone = unfold chiral_s after_chiral in read_chiral i s (code1 k d (rw f tt));
      halts = unfold part_step in rw (digit_of_lem e, test_not (valid2 k d e) (λ q. some (coded2 i s k d e q)) none h);
      open' = unfold part_end in refl;
    })
    by false h false f = inr (record {
      before = (byte "@") ∷ class1 k ∷ class2 k ∷ [];
      byte = digit_s d;
      behind = digit_s e ∷ [];
      last = class i s k;
      is = refl;
      gone = unfold parts chain to_chiral in rw (past_symbol i s (byte "@") at_second) (read_class i s k);
      halts = unfold part_step in rw (digit_of_lem d, test_not (valid1 k d) (λ p. some (coded1 i s k d p)) none f);
      open' = unfold part_end in refl;
    })

charge_run : (x : Head) (q : Charge') → SmallCharge q ⊎ PStuck (after_head x) (charge_s' q)
unfolding SmallCharge charge_s' parts chain part_end
charge_run x neutral' = inl tt
charge_run x (sign' g) = inl tt
charge_run x (twice' g) = inl tt
charge_run x (digit' g d) = by (okay1 d) refl
  where
    by : (t : Bool) → okay1 d ≡ t → T (okay1 d) ⊎ PStuck (after_head x) (sign_s g ∷ digit_s d ∷ [])
    by true e = inl (rw e tt)
    by false e = inr (record { before = sign_s g ∷ []; byte = digit_s d; behind = []; last = signed x g; is = refl; gone = rw (read_sign x g); halts = unfold part_step in rw (digit_of_lem d, test_not (okay1 d) (λ p. some (charge1 x g d p)) none e); open' = refl })
charge_run x (digits' g d e) = by (okay2 d e) refl (okay1 d) refl
  where
    by : (t : Bool) → okay2 d e ≡ t → (u : Bool) → okay1 d ≡ u → T (okay2 d e) ⊎ PStuck (after_head x) (sign_s g ∷ digit_s d ∷ digit_s e ∷ [])
    by true h u f = inl (rw h tt)
    by false h true f = inr (record {
      before = sign_s g ∷ digit_s d ∷ [];
      byte = digit_s e;
      behind = [];
      last = charge1 x g d (rw f tt);
      is = refl;
      gone = rw (read_sign x g) (unfold part_step in rw (digit_of_lem d, test_yes (okay1 d) (rw f tt) (λ p. some (charge1 x g d p)) none));
      halts = unfold part_step in rw (digit_of_lem e, test_not (okay2 d e) (λ q. some (charge2 x g d e q)) none h);
      open' = refl;
    })
    by false h false f = inr (record { before = sign_s g ∷ []; byte = digit_s d; behind = digit_s e ∷ []; last = signed x g; is = refl; gone = rw (read_sign x g); halts = unfold part_step in rw (digit_of_lem d, test_not (okay1 d) (λ p. some (charge1 x g d p)) none f); open' = refl })

digit_unclose : (d : Digit) → eqb (digit_s d) (byte "]") ≡ false
unfolding digit_s
digit_unclose d0 = refl
digit_unclose d1 = refl
digit_unclose d2 = refl
digit_unclose d3 = refl
digit_unclose d4 = refl
digit_unclose d5 = refl
digit_unclose d6 = refl
digit_unclose d7 = refl
digit_unclose d8 = refl
digit_unclose d9 = refl

class_run : (x : Head) (q : Charge) (m : List Digit) → (length m ≤ 3) ⊎ PStuck (after_charge x q) (class_s' m)
unfolding class_s' digits_s parts chain part_end
class_run x q [] = inl (omega arith)
class_run x q (a ∷ []) = inl (omega arith)
class_run x q (a ∷ b ∷ []) = inl (omega arith)
class_run x q (a ∷ b ∷ c ∷ []) = inl (omega arith)
class_run x q (a ∷ b ∷ c ∷ d ∷ r) = inr (record {
  before = (byte ":") ∷ digit_s a ∷ digit_s b ∷ digit_s c ∷ [];
  byte = digit_s d;
  behind = digits_s r;
  last = map3 x q a b c;
  is = refl;
  gone = rw (read_colon x q) (unfold part_step in simp digit_of_lem);
  halts = unfold part_step to_close in rw (digit_unclose d);
  open' = refl;
})

record AtomStuck (a : Atom') : Type 0 where
  rest : List ℕ
  is : atom_s' a ≡ (byte "[") ∷ rest
  stuck : PStuck (isotope iso0) rest

atom_run : (a : Atom') → SmallAtom a ⊎ AtomStuck a
unfolding SmallAtom atom_s'
atom_run (organic' o k) = inl tt
atom_run (bracket' i s c h k q m) = by (number_run i)
  where
    tail : List ℕ
    tail = hcount_s h ++ (charge_s' q ++ (class_s' m ++ ((byte "]") ∷ [])))

    text : List ℕ
    text = digits_s i ++ (symbol_s s ++ (chiral_s' c ++ tail))

    x : Head
    x = head (isotope_of i) s (chiral_of c) h

    symbols : length i ≤ 3 → parts (isotope iso0) (digits_s i ++ symbol_s s) ≡ some (after_symbol (isotope_of i) s)
    symbols l = parts_then (digits_s i) (symbol_s s) _ _ (rw (number_ok i l) at (read_isotope (isotope_of i))) ∙ read_symbol (isotope_of i) s

    heads : length i ≤ 3 → SmallChiral c → parts (isotope iso0) (digits_s i ++ (symbol_s s ++ (chiral_s' c ++ hcount_s h))) ≡ some (after_head x)
    heads l v = unfold head_s in rw (number_ok i l, chiral_ok c v) at (read_head x)

    fourth : length i ≤ 3 → SmallChiral c → SmallCharge q → (length m ≤ 3) ⊎ PStuck (after_charge x (charge_of q)) (class_s' m) → ((length i ≤ 3) × SmallCharge q × (length m ≤ 3) × SmallChiral c) ⊎ AtomStuck (bracket' i s c h k q m)
    fourth l v g (inl w) = inl (l, g, w, v)
    fourth l v g (inr z) = inr (record {
      rest = text;
      is = refl;
      stuck = simp append_assoc at (p_after _ (heads l v) (p_after (charge_s' q) (rw (charge_ok q g) at (read_charge x (charge_of q))) (p_more ((byte "]") ∷ []) z)));
    })

    third : length i ≤ 3 → SmallChiral c → SmallCharge q ⊎ PStuck (after_head x) (charge_s' q) → ((length i ≤ 3) × SmallCharge q × (length m ≤ 3) × SmallChiral c) ⊎ AtomStuck (bracket' i s c h k q m)
    third l v (inl g) = fourth l v g (class_run x (charge_of q) m)
    third l v (inr z) = inr (record { rest = text; is = refl; stuck = simp append_assoc at (p_after _ (heads l v) (p_more (class_s' m ++ ((byte "]") ∷ [])) z)) })

    second : length i ≤ 3 → SmallChiral c ⊎ PStuck (after_symbol (isotope_of i) s) (chiral_s' c) → ((length i ≤ 3) × SmallCharge q × (length m ≤ 3) × SmallChiral c) ⊎ AtomStuck (bracket' i s c h k q m)
    second l (inl v) = third l v (charge_run x q)
    second l (inr z) = inr (record { rest = text; is = refl; stuck = simp append_assoc at (p_after _ (symbols l) (p_more tail z)) })

    by : (length i ≤ 3) ⊎ PStuck (isotope iso0) (digits_s i) → ((length i ≤ 3) × SmallCharge q × (length m ≤ 3) × SmallChiral c) ⊎ AtomStuck (bracket' i s c h k q m)
    by (inl l) = second l (chiral_run (isotope_of i) s c)
    by (inr z) = inr (record { rest = text; is = refl; stuck = p_more (symbol_s s ++ (chiral_s' c ++ tail)) z })

-- ---- lines
record Stuck (s : State) (bs : List ℕ) : Type 0 where
  before : List ℕ
  byte : ℕ
  behind : List ℕ
  last : State
  is : bs ≡ before ++ (byte ∷ behind)
  gone : steps s before ≡ some last
  halts : step last byte ≡ none

s_more : {s : State} {bs : List ℕ} (cs : List ℕ) → Stuck s bs → Stuck s (bs ++ cs)
s_more cs z = record { before = z.before; byte = z.byte; behind = z.behind ++ cs; last = z.last; is = ap (λ (l : List ℕ). l ++ cs) z.is ∙ append_assoc z.before (z.byte ∷ z.behind) cs; gone = z.gone; halts = z.halts }

s_after : {s t : State} {bs : List ℕ} (xs : List ℕ) → steps s xs ≡ some t → Stuck t bs → Stuck s (xs ++ bs)
s_after {s} {t} xs e z = record { before = xs ++ z.before; byte = z.byte; behind = z.behind; last = z.last; is = ap (λ (l : List ℕ). xs ++ l) z.is ∙ sym (append_assoc xs z.before (z.byte ∷ z.behind)); gone = steps_then xs z.before s t e ∙ z.gone; halts = z.halts }

part_stuck : (w : Where) (q : Part) (bs : List ℕ) → PStuck q bs → Stuck (in_atom w q) bs
part_stuck w q bs z = record { before = z.before; byte = z.byte; behind = z.behind; last = in_atom w z.last; is = z.is; gone = atom_steps z.before w q z.last z.gone; halts = unfold step atom_step in rw (z.halts, z.open') }

-- a bracket too wide, after a text that awaits an atom
atom_stuck : (s : State) (w : Where) (u : List ℕ) (a : Atom') → steps s (u ++ ((byte "[") ∷ [])) ≡ some (in_atom w (isotope iso0)) → AtomStuck a → Stuck s (u ++ atom_s' a)
atom_stuck s w u a e z = rw z.is (rw append_assoc at (s_after (u ++ ((byte "[") ∷ [])) e (part_stuck w (isotope iso0) z.rest z.stuck)))

then_run : (c : Chain) (l : Link) (b : Branched) (k : Around) → Small c ⊎ Stuck (want (begin k)) (chain_s c) → (Small c → SmallBranched b ⊎ Stuck (want (begin k)) ((chain_s c ++ link_s l) ++ branched_s b))
    → (Small c × SmallBranched b) ⊎ Stuck (want (begin k)) (chain_s c ++ (link_s l ++ branched_s b))
then_run c l b k (inr z) f = inr (s_more (link_s l ++ branched_s b) z)
then_run c l b k (inl h) f = by (f h)
  where
    by : SmallBranched b ⊎ Stuck (want (begin k)) ((chain_s c ++ link_s l) ++ branched_s b) → (Small c × SmallBranched b) ⊎ Stuck (want (begin k)) (chain_s c ++ (link_s l ++ branched_s b))
    by (inl g) = inl (h, g)
    by (inr z) = inr (rw append_assoc at z)

branched_case : (a : Atom') (rs : Rings) (bs : Branches) (k : Around) (f : Atom → Line) (u : List ℕ) (w : Where) → ((a : Atom) → spell (f a) ≡ u ++ atom_s a) → steps (want (begin k)) (u ++ ((byte "[") ∷ [])) ≡ some (in_atom w (isotope iso0))
    → SmallAtom a ⊎ AtomStuck a → ((t : Line) → SmallBranches bs ⊎ Stuck (want (begin k)) (spell t ++ branches_s bs))
    → (SmallAtom a × SmallBranches bs) ⊎ Stuck (want (begin k)) (u ++ (atom_s' a ++ (rings_s rs ++ branches_s bs)))
branched_case a rs bs k f u w g e (inr z) r = inr (rw append_assoc at (s_more (rings_s rs ++ branches_s bs) (atom_stuck (want (begin k)) w u a e z)))
branched_case a rs bs k f u w g e (inl h) r = by (r (rings_of (f (atom_of a)) rs))
  where
    text : spell (rings_of (f (atom_of a)) rs) ++ branches_s bs ≡ u ++ (atom_s' a ++ (rings_s rs ++ branches_s bs))
    text = rw (rings_ok, g, atom_ok a h) (simp append_assoc)

    by : SmallBranches bs ⊎ Stuck (want (begin k)) (spell (rings_of (f (atom_of a)) rs) ++ branches_s bs) → (SmallAtom a × SmallBranches bs) ⊎ Stuck (want (begin k)) (u ++ (atom_s' a ++ (rings_s rs ++ branches_s bs)))
    by (inl i) = inl (h, i)
    by (inr z) = inr (subst (Stuck (want (begin k))) text z)

-- stuck inside a branch
open_stuck : (k : Around) (t : Line) (l : Link) (bs : List ℕ) → Stuck (want (begin (inside k t l))) bs → Stuck (now k t) ((byte "(") ∷ (link_s l ++ bs))
open_stuck k t l bs z = record {
  before = (byte "(") ∷ (link_s l ++ z.before);
  byte = z.byte;
  behind = z.behind;
  last = z.last;
  is = ap (λ (m : List ℕ). (byte "(") ∷ (link_s l ++ m)) z.is ∙ ap (λ (m : List ℕ). (byte "(") ∷ m) (sym (append_assoc (link_s l) z.before (z.byte ∷ z.behind)));
  gone = read_open k t l z.before ∙ z.gone;
  halts = z.halts;
}

branches_case : (bs : Branches) (l : Link) (c : Chain) (k : Around) (t : Line) → SmallBranches bs ⊎ Stuck (want (begin k)) (spell t ++ branches_s bs) → ((j : Around) → Small c ⊎ Stuck (want (begin j)) (chain_s c))
    → (SmallBranches bs × Small c) ⊎ Stuck (want (begin k)) (spell t ++ (branches_s bs ++ ((byte "(") ∷ (link_s l ++ (chain_s c ++ ((byte ")") ∷ []))))))
branches_case bs l c k t (inr z) r = inr (rw append_assoc at (s_more ((byte "(") ∷ (link_s l ++ (chain_s c ++ ((byte ")") ∷ [])))) z))
branches_case bs l c k t (inl h) r = by (r (inside k (branches_of bs t) l))
  where
    here : steps (want (begin k)) (spell t ++ branches_s bs) ≡ some (now k (branches_of bs t))
    here = rw (branches_ok bs t h) at (read_line (branches_of bs t) k)

    by : Small c ⊎ Stuck (want (begin (inside k (branches_of bs t) l))) (chain_s c) → (SmallBranches bs × Small c) ⊎ Stuck (want (begin k)) (spell t ++ (branches_s bs ++ ((byte "(") ∷ (link_s l ++ (chain_s c ++ ((byte ")") ∷ []))))))
    by (inl i) = inl (h, i)
    by (inr z) = inr (rw append_assoc at (s_after (spell t ++ branches_s bs) here (open_stuck k (branches_of bs t) l (chain_s c ++ ((byte ")") ∷ [])) (s_more ((byte ")") ∷ []) z))))

mutual
  unfolding Small line_of chain_s spell

  chain_run : (c : Chain) (k : Around) → Small c ⊎ Stuck (want (begin k)) (chain_s c)
  chain_run (first b) k = branched_run b k (λ a. start a) [] (begin k) (λ a. refl) (open_first (begin k))
  chain_run (then c l b) k = then_run c l b k (chain_run c k) (λ h. branched_run b k (λ a. link (line_of c) l a) (chain_s c ++ link_s l) (after k (line_of c) l) (λ a. rw (chain_ok c h) (simp append_assoc))
      (rw append_assoc (steps_then (chain_s c) (link_s l ++ ((byte "[") ∷ [])) _ (now k (line_of c)) (rw (chain_ok c h) at (read_line (line_of c) k)) ∙ open_link k (line_of c) l)))

  branched_run : (b : Branched) (k : Around) (f : Atom → Line) (u : List ℕ) (w : Where) → ((a : Atom) → spell (f a) ≡ u ++ atom_s a) → steps (want (begin k)) (u ++ ((byte "[") ∷ [])) ≡ some (in_atom w (isotope iso0))
      → SmallBranched b ⊎ Stuck (want (begin k)) (u ++ branched_s b)
  branched_run (branched a rs bs) k f u w g e = branched_case a rs bs k f u w g e (atom_run a) (λ t. branches_run bs k t)

  branches_run : (bs : Branches) (k : Around) (t : Line) → SmallBranches bs ⊎ Stuck (want (begin k)) (spell t ++ branches_s bs)
  branches_run no_branches k t = inl tt
  branches_run (and_branch bs l c) k t = branches_case bs l c k t (branches_run bs k t) (λ j. chain_run c j)

-- WHAT IS NOT SMALL IS REFUSED, and by a character
pub wide_refused : (u : Chain) → ¬ Small u → (n : ℕ) × (read (chain_s u) ≡ character n)
unfolding zero_state
wide_refused u h = by (chain_run u top)
  where
    by : Small u ⊎ Stuck (want (begin top)) (chain_s u) → (n : ℕ) × (read (chain_s u) ≡ character n)
    by (inl g) = absurd (h g)
    by (inr z) = (length z.before, rw z.is (read_stuck z.before z.byte z.behind z.last z.gone z.halts))

-- a text that OpenSMILES has and that is read is small there and strict here
pub open_read : (s : List ℕ) (u : Chain) (t : Line) → chain_s u ≡ s → read s ≡ done t → Small u × Strict t
unfolding zero_state
open_read s u t e r = by (chain_run u top)
  where
    by : Small u ⊎ Stuck (want (begin top)) (chain_s u) → Small u × Strict t
    by (inl h) = let v = small_read s u h e in let d : read s ≡ done v.0 = v.2 in let g : v.0 ≡ t = cc in (h, subst Strict g v.1)
    by (inr z) =
        let c : read (chain_s u) ≡ character (length z.before) = rw z.is (read_stuck z.before z.byte z.behind z.last z.gone z.halts) in
        let d : read (chain_s u) ≡ done t = rw e r in
        impossible cc
