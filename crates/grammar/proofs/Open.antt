-- OPENSMILES LINES ARE READ to what OpenSMILES says, but for the departures: those that are not Small are refused, and those
-- that are read and not Strict are no OpenSMILES. Assumes nothing.
use Prim.Native.Nat.{ℕ, ◌+◌, ◌-◌, ◌≤◌}
use mathlib.Core.Path.{◌≡◌, refl, sym, ap, ◌∙◌}
use mathlib.Core.List.{List, [], ◌∷◌, ◌++◌, append_assoc, append-nil}
use native.Mathlib.Omega.{arith}
use lib.ListN.{length}
use Rattle.table.specs.Limits.{branch_limit}
use Rattle.read_line.specs.Events.{ReadEvent, Enter}
use Rattle.read_line.specs.Parse.{parse}
use Rattle.grammar.specs.Grammar.{Digit, flat, code1, code2, valid1, valid2, chiral_k, okay1, okay2, neutral, num1, num2, isotope_k, map_k, charge_k, bracket_k, Atom, atom_s, atom_k, Link, link_s, link_k, dot, Line, start, link, spell, enter, atoms, tells, meaning}
use Rattle.grammar.specs.Lines.{Fits, Clean, WrongAt}
use Rattle.grammar.specs.OpenSmiles.{Chiral', flat', at', atat', code1', code2', pair', chiral_k', SmallChiral, Charge', neutral', sign', twice', digit', digits', Atom', organic', bracket', Rings, no_rings, and_ring, Chain, first, then, Branched, branched, Branches, no_branches, and_branch, chain_s, number_k, charge_k', atom_k', along, rings_e, chain_e, branched_e, branches_e, says, SmallCharge, SmallAtom, Small, SmallBranched, SmallBranches, FitsChain, FitsBranched, FitsBranches, Strict}
use Rattle.grammar.proofs.Table.{test_yes}
use Rattle.grammar.proofs.Machine.{done, read}
use Rattle.grammar.proofs.Reading.{complete, unique, character_refused}
use Rattle.grammar.proofs.Chains.{isotope_of, map_of, chiral_of, charge_of, atom_of, rings_of, line_of, branched_of, branches_of, atom_ok, rings_ok, chain_ok, branches_ok, chain_of, line_back, line_small}
use Rattle.grammar.proofs.NotSmall.{wide_refused, open_read}
use Rattle.grammar.proofs.Spelling.{chain_bytes}
use Rattle.grammar.proofs.Verdict.{sound, read_tree}

-- ---- an atom's kind
isotope_worth : (i : List Digit) → length i ≤ 3 → isotope_k (isotope_of i) ≡ number_k i
unfolding isotope_of isotope_k number_k
isotope_worth [] h = refl
isotope_worth (a ∷ []) h = refl
isotope_worth (a ∷ b ∷ []) h = refl
isotope_worth (a ∷ b ∷ c ∷ []) h = refl
isotope_worth (a ∷ b ∷ c ∷ d ∷ r) h = absurd (omega arith)

map_worth : (m : List Digit) → length m ≤ 3 → map_k (map_of m) ≡ number_k m
unfolding map_of map_k number_k
map_worth [] h = refl
map_worth (a ∷ []) h = refl
map_worth (a ∷ b ∷ []) h = refl
map_worth (a ∷ b ∷ c ∷ []) h = refl
map_worth (a ∷ b ∷ c ∷ d ∷ r) h = absurd (omega arith)

chiral_worth : (c : Chiral') → SmallChiral c → chiral_k (chiral_of c) ≡ chiral_k' c
unfolding SmallChiral chiral_of chiral_k chiral_k'
chiral_worth flat' h = refl
chiral_worth at' h = refl
chiral_worth atat' h = refl
chiral_worth (code1' k d p) h = rw (test_yes (valid1 k d) h (λ p. code1 k d p) flat)
chiral_worth (code2' k d e p) h = rw (test_yes (valid2 k d e) h (λ p. code2 k d e p) flat)
chiral_worth (pair' k w d e) h = rw (test_yes (valid2 k d e) h (λ p. code2 k d e p) flat)

charge_worth : (q : Charge') → SmallCharge q → charge_k (charge_of q) ≡ charge_k' q
unfolding SmallCharge charge_of charge_k charge_k'
charge_worth neutral' h = refl
charge_worth (sign' g) h = refl
charge_worth (twice' g) h = refl
charge_worth (digit' g d) h = rw (test_yes (okay1 d) h (λ p. num1 g d p) neutral)
charge_worth (digits' g d e) h = rw (test_yes (okay2 d e) h (λ p. num2 g d e p) neutral)

atom_worth : (a : Atom') → SmallAtom a → atom_k (atom_of a) ≡ atom_k' a
unfolding SmallAtom atom_of atom_k atom_k' bracket_k
atom_worth (organic' o k) h = refl
atom_worth (bracket' i s c g k q m) h = rw (isotope_worth i h.0, chiral_worth c h.3, charge_worth q h.1, map_worth m h.2)

enter_worth : (k : Link) (a : Atom') (n : ℕ) → SmallAtom a → enter k (atom_of a) n ≡ Enter (link_k k) (atom_k' a) n
unfolding enter
enter_worth k a n h = rw (atom_worth a h)

-- ---- the atoms along a chain
rings_atoms : (rs : Rings) (t : Line) → atoms (rings_of t rs) ≡ atoms t
unfolding rings_of atoms
rings_atoms no_rings t = refl
rings_atoms (and_ring rs b r) t = rings_atoms rs t

branches_atoms : (bs : Branches) (t : Line) → atoms (branches_of bs t) ≡ atoms t
unfolding branches_of atoms
branches_atoms no_branches t = refl
branches_atoms (and_branch bs l c) t = branches_atoms bs t

chain_atoms : (c : Chain) → atoms (line_of c) ≡ along c
unfolding line_of atoms along
chain_atoms (first (branched a rs bs)) = branches_atoms bs _ ∙ rings_atoms rs _
chain_atoms (then c l (branched a rs bs)) = branches_atoms bs _ ∙ rings_atoms rs _ ∙ ap (λ (n : ℕ). n + 1) (chain_atoms c)

-- ---- events
rings_says : (rs : Rings) (t : Line) (w : List ℕ) (l : Link) → tells w l (rings_of t rs) ≡ tells w l t ++ rings_e (w ++ spell t) rs
unfolding rings_of rings_e tells
rings_says no_rings t w l = simp append-nil
rings_says (and_ring rs b r) t w l = rw (rings_says rs t w l, rings_ok rs t) (simp append_assoc)

start_spelled : (a : Atom) → spell (start a) ≡ [] ++ atom_s a
unfolding spell
start_spelled a = refl

link_spelled : (c : Line) (v : List ℕ) (k : Link) (a : Atom) → spell c ≡ v → spell (link c k a) ≡ (v ++ link_s k) ++ atom_s a
unfolding spell
link_spelled c v k a e = rw e (simp append_assoc)

mutual
  unfolding Small line_of chain_e tells atoms

  chain_says : (c : Chain) (w : List ℕ) (l : Link) → Small c → tells w l (line_of c) ≡ chain_e w l c
  chain_says (first b) w l h =
      branched_says b w l (λ a. start a) [] l [] (λ a. start_spelled a) (λ a. rw append-nil) h ∙ ap (λ (x : List ℕ). branched_e x l b) (append-nil w)
  chain_says (then c k b) w l h =
      branched_says b w l (λ a. link (line_of c) k a) (chain_s c ++ link_s k) k (chain_e w l c) (λ a. link_spelled (line_of c) (chain_s c) k a (chain_ok c h.0))
      (λ a. rw (chain_says c w l h.0, chain_ok c h.0)) h.1

  branched_says : (b : Branched) (w : List ℕ) (l : Link) (f : Atom → Line) (v : List ℕ) (k : Link) (es : List ReadEvent) → ((a : Atom) → spell (f a) ≡ v ++ atom_s a)
      → ((a : Atom) → tells w l (f a) ≡ es ++ (enter k a (length (w ++ v)) ∷ [])) → SmallBranched b → tells w l (branched_of b f) ≡ es ++ branched_e (w ++ v) k b
  branched_says (branched a rs bs) w l f v k es p q h =
      branches_says bs (rings_of (f (atom_of a)) rs) w l h.1
      ∙ rw (rings_says rs (f (atom_of a)) w l, rings_ok rs (f (atom_of a)), q (atom_of a), p (atom_of a), atom_ok a h.0, enter_worth k a (length (w ++ v)) h.0) (simp append_assoc)

  branches_says : (bs : Branches) (t : Line) (w : List ℕ) (l : Link) → SmallBranches bs → tells w l (branches_of bs t) ≡ tells w l t ++ branches_e (w ++ spell t) bs
  branches_says no_branches t w l h = simp append-nil
  branches_says (and_branch bs k c) t w l h =
      rw (branches_says bs t w l h.0, branches_ok bs t h.0, chain_says c _ k h.1, chain_atoms c) (simp append_assoc)

pub meaning_says : (u : Chain) → Small u → meaning (line_of u) ≡ says u
unfolding meaning says
meaning_says u h = chain_says u [] dot h

-- ---- branches
rings_fit : (rs : Rings) (t : Line) (room : ℕ) → Fits room t → Fits room (rings_of t rs)
unfolding rings_of Fits
rings_fit no_rings t room h = h
rings_fit (and_ring rs b r) t room h = rings_fit rs t room h

mutual
  unfolding line_of FitsChain Fits

  pub chain_fit : (c : Chain) (room : ℕ) → FitsChain room c → Fits room (line_of c)
  chain_fit (first b) room h = branched_fit b (λ a. start a) room (λ a. tt) h
  chain_fit (then c k b) room h = branched_fit b (λ a. link (line_of c) k a) room (λ a. chain_fit c room h.0) h.1

  branched_fit : (b : Branched) (f : Atom → Line) (room : ℕ) → ((a : Atom) → Fits room (f a)) → FitsBranched room b → Fits room (branched_of b f)
  branched_fit (branched a rs bs) f room p h = branches_fit bs (rings_of (f (atom_of a)) rs) room (rings_fit rs (f (atom_of a)) room (p (atom_of a))) h

  branches_fit : (bs : Branches) (t : Line) (room : ℕ) → Fits room t → FitsBranches room bs → Fits room (branches_of bs t)
  branches_fit no_branches t room p h = p
  branches_fit (and_branch bs k c) t room p h = (branches_fit bs t room p h.0, h.1, chain_fit c (room - 1) h.2)

-- ---- THE CLAIMS
-- an OpenSMILES chain within the reader's numbers and branches is read to what it says
pub open_says : (u : Chain) → Small u → FitsChain branch_limit u → parse (chain_s u) ≡ says u
open_says u h f = ap parse (sym (chain_ok u h)) ∙ read_tree (line_of u) (chain_fit u branch_limit f) ∙ meaning_says u h

-- and one that is read is within them
pub open_small : (u : Chain) → Clean (parse (chain_s u)) → Small u × (parse (chain_s u) ≡ says u)
open_small u c = by (sound (chain_s u) (chain_bytes u) c)
  where
    by : ((t : Line) × (spell t ≡ chain_s u) × Fits branch_limit t × (parse (chain_s u) ≡ meaning t)) → Small u × (parse (chain_s u) ≡ says u)
    by v =
        let r : read (chain_s u) ≡ done v.0 = ap read (sym v.1) ∙ complete v.0 in
        let g = open_read (chain_s u) u v.0 refl r in
        let i : line_of u ≡ v.0 = unique (line_of u) v.0 (chain_ok u g.0 ∙ sym v.1) in
        (g.0, v.3 ∙ ap meaning (sym i) ∙ meaning_says u g.0)

-- one that is not is wrong at some place
pub big_refused : (u : Chain) → ¬ Small u → (n : ℕ) × WrongAt (chain_s u) n
big_refused u h = let r = wide_refused u h in (r.0, character_refused (chain_s u) r.0 r.1)

-- a tree is an OpenSMILES chain exactly if it is strict
pub strict_open : (t : Line) → Strict t → (u : Chain) × Small u × (chain_s u ≡ spell t) × (says u ≡ meaning t)
strict_open t h =
    let m = line_small t h in
    (chain_of t h, m, sym (chain_ok (chain_of t h) m) ∙ ap spell (line_back t h), sym (meaning_says (chain_of t h) m) ∙ ap meaning (line_back t h))

pub open_strict : (u : Chain) (t : Line) → chain_s u ≡ spell t → Strict t
open_strict u t e = (open_read (spell t) u t e (complete t)).1
