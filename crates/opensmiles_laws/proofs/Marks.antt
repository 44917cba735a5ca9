-- A mark that can't be turned is one that the reader refuses to turn; and what an event that has room passes. Assumes nothing.
use Prim.Native.Nat.{ℕ, ◌+◌, ◌<◌, ◌≤◌}
use mathlib.Core.Path.{◌≡◌, refl, ap, ◌∙◌, subst}
use mathlib.Core.List.{List, [], ◌∷◌, ◌++◌}
use mathlib.Core.Option.{Option, none, some}
use native.Mathlib.Omega.{arith}
use lib.Dec.{eqb}
use borrow.Author.Tests.{eqb-false, ne_eqb}
use Rattle.feature.specs.Kinds.{no_configuration, no_hydrogens, th1, th2, invert_of, invert_bracket}
use Rattle.feature.specs.declared.atom_kind.AtomKind.{AtomKind}
use Rattle.feature.specs.declared.atom_kind.AtomKind.TheVariants.{Star, Aliphatic, Aromatic, Bracket}
use Rattle.std.specs.Prelude as std
use Rattle.std.specs.Prelude.{None, Some}
use Rattle.feature.specs.declared.bond_kind.BondKind.{BondKind}
use Rattle.feature.proofs.Cases.{by_test, impossible}
use Rattle.read_line.specs.declared.lead.Lead.TheVariants.{Dot, Bond}
use Rattle.read_line.specs.Events.{ReadEvent, Enter, Join, Pop, Miss, Nest}
use Rattle.builder_meaning.specs.Sketch.{count_of}
use Rattle.std.specs.Prelude.{Err, Ok}
use Rattle.read.specs.Read.{Answer}
use Rattle.read.specs.declared.ReadError.TheVariants as answer
use Rattle.opensmiles_laws.specs.Molecule.{Molecule, as_held, molecule_told}
use Rattle.opensmiles_laws.specs.Stops.{Unturnable, unturnable, Meets, no_place, no_slots, not_turned, no_slot, not_turned_after, ends, wrong, deep, Passes, count_all, Marked, Turnable, Stops}

pub refused_unturnable : (k : AtomKind) → invert_of k ≡ None → Unturnable k
unfolding invert_of invert_bracket
refused_unturnable Star h = impossible cc
refused_unturnable (Aliphatic n) h = impossible cc
refused_unturnable (Aromatic n) h = impossible cc
refused_unturnable (Bracket b) h =
    let P : std.Option AtomKind → Type 0 = λ i. i ≡ None → Unturnable (Bracket b) in
    by_test P (eqb b.configuration no_configuration) (λ q h. impossible cc)
    (λ q0. by_test P (eqb b.hydrogens no_hydrogens) (λ q h. impossible cc)
    (λ q1. by_test P (eqb b.hydrogens 0) (λ q h. impossible cc)
    (λ q2. by_test P (eqb b.configuration th1) (λ q h. impossible cc)
    (λ q3. by_test P (eqb b.configuration th2) (λ q h. impossible cc)
    (λ q4 h. unturnable b (eqb-false _ _ q0) (eqb-false _ _ q3) (eqb-false _ _ q4) (eqb-false _ _ q1) (eqb-false _ _ q2)))))) h

pub unturnable_refused : (k : AtomKind) → Unturnable k → invert_of k ≡ None
unfolding invert_of invert_bracket
unturnable_refused _ (unturnable b c0 c1 c2 h0 h1) = simp (ne_eqb _ _ c0, ne_eqb _ _ h0, ne_eqb _ _ h1, ne_eqb _ _ c1, ne_eqb _ _ c2)

pub turned_turnable : (k j : AtomKind) → invert_of k ≡ Some j → ¬ Unturnable k
turned_turnable k j h u = let e = unturnable_refused k u in impossible cc

module _ (p l : ℕ) (m : Molecule) (n : ℕ) where
  pub dot_passes : (k : AtomKind) (at : ℕ) → n < p → Passes p l (some m) n (Enter Dot k at)
  unfolding Passes
  dot_passes k at h _ (no_place _ _ _ _ _ g) = omega arith

  pub bond_passes : (e : BondKind) (k : AtomKind) (at : ℕ) → n < p → count_of m.atoms + 2 ≤ l → ¬ Unturnable k → Passes p l (some m) n (Enter (Bond e) k at)
  unfolding Passes
  bond_passes e k at h g u _ (no_place _ _ _ _ _ z) = omega arith
  bond_passes e k at h g u _ (no_slots _ _ _ _ _ y z) = omega arith
  bond_passes e k at h g u _ (not_turned _ _ _ _ _ x y z) = u z

  pub join_passes : (e : BondKind) (r at : ℕ) → ((x : Molecule) → molecule_told as_held m (Join e r at) ≡ some x → count_of m.atoms + 1 ≤ l) → Passes p l (some m) n (Join e r at)
  unfolding Passes
  join_passes e r at h _ (no_slot _ x _ _ _ _ y z) = let g = h x y in omega arith

-- where an event can meet something at all
Busy : Option Molecule → ReadEvent → Type 0
Busy (some m) (Enter l k at) = Unit {0}
Busy none (Enter Dot k at) = ⊥
Busy none (Enter (Bond e) k at) = Unit {0}
Busy (some m) (Join e r at) = Unit {0}
Busy none (Join e r at) = ⊥
Busy o (Pop i) = ⊥
Busy o (Miss x) = Unit {0}
Busy o (Nest at) = Unit {0}

busy : (p l : ℕ) (o : Option Molecule) (n : ℕ) (e : ReadEvent) (a : Answer) → Meets p l o n e a → Busy o e
unfolding Busy
busy p l _ _ _ _ (no_place m n k at c h) = tt
busy p l _ _ _ _ (no_slots m n e k at g z) = tt
busy p l _ _ _ _ (not_turned m n e k at g z u) = tt
busy p l _ _ _ _ (no_slot m x n e r at h g) = tt
busy p l _ _ _ _ (not_turned_after n e k at u) = tt
busy p l _ _ _ _ (ends none n) = tt
busy p l _ _ _ _ (ends (some m) n) = tt
busy p l _ _ _ _ (wrong none n at) = tt
busy p l _ _ _ _ (wrong (some m) n at) = tt
busy p l _ _ _ _ (deep none n at) = tt
busy p l _ _ _ _ (deep (some m) n at) = tt

pop_idle : (o : Option Molecule) (i : ℕ) → ¬ Busy o (Pop i)
unfolding Busy
pop_idle none i h = h
pop_idle (some m) i h = h

pub pop_passes : (p l : ℕ) (o : Option Molecule) (n i : ℕ) → Passes p l o n (Pop i)
unfolding Passes
pop_passes p l o n i a h = pop_idle o i (busy p l o n (Pop i) a h)

pub dot_after : (p l n : ℕ) (k : AtomKind) (at : ℕ) → Passes p l none n (Enter Dot k at)
unfolding Passes Busy
dot_after p l n k at a h = busy p l none n (Enter Dot k at) a h

pub join_after : (p l n : ℕ) (e : BondKind) (r at : ℕ) → Passes p l none n (Join e r at)
unfolding Passes Busy
join_after p l n e r at a h = busy p l none n (Join e r at) a h

pub bond_after : (p l n : ℕ) (e : BondKind) (k : AtomKind) (at : ℕ) → ¬ Unturnable k → Passes p l none n (Enter (Bond e) k at)
unfolding Passes
bond_after p l n e k at u _ (not_turned_after _ _ _ _ h) = u h

-- an event meets one thing
pub meets_one : (p l : ℕ) (o : Option Molecule) (n : ℕ) (e : ReadEvent) (a b : Answer) → Meets p l o n e a → Meets p l o n e b → a ≡ b
meets_one p l _ _ _ _ _ (no_place m n k at c h) (no_place _ _ _ _ _ g) = refl
meets_one p l _ _ _ _ _ (no_place m n k at c h) (no_slots _ _ _ _ _ g z) = absurd (omega arith)
meets_one p l _ _ _ _ _ (no_place m n k at c h) (not_turned _ _ _ _ _ g z u) = absurd (omega arith)
meets_one p l _ _ _ _ _ (no_slots m n e k at g z) (no_place _ _ _ _ _ h) = absurd (omega arith)
meets_one p l _ _ _ _ _ (no_slots m n e k at g z) (no_slots _ _ _ _ _ h y) = refl
meets_one p l _ _ _ _ _ (no_slots m n e k at g z) (not_turned _ _ _ _ _ h y u) = absurd (omega arith)
meets_one p l _ _ _ _ _ (not_turned m n e k at g z u) (no_place _ _ _ _ _ h) = absurd (omega arith)
meets_one p l _ _ _ _ _ (not_turned m n e k at g z u) (no_slots _ _ _ _ _ h y) = absurd (omega arith)
meets_one p l _ _ _ _ _ (not_turned m n e k at g z u) (not_turned _ _ _ _ _ h y v) = refl
meets_one p l _ _ _ _ _ (no_slot m x n e r at h g) (no_slot _ _ _ _ _ _ z y) = refl
meets_one p l _ _ _ _ _ (not_turned_after n e k at u) (not_turned_after _ _ _ _ v) = refl
meets_one p l _ _ _ _ _ (ends o n) (ends _ _) = refl
meets_one p l _ _ _ _ _ (wrong o n at) (wrong _ _ _) = refl
meets_one p l _ _ _ _ _ (deep o n at) (deep _ _ _) = refl

-- ---- no mark that has to be turned can't be: atom by atom
unfoldable pub Turns : List ReadEvent → Type 0
Turns [] = Unit {0}
Turns (Enter Dot k at ∷ es) = Turns es
Turns (Enter (Bond e) k at ∷ es) = ¬ Unturnable k × Turns es
Turns (Join e r at ∷ es) = Turns es
Turns (Pop i ∷ es) = Turns es
Turns (Miss x ∷ es) = Turns es
Turns (Nest at ∷ es) = Turns es

pub turns_after : (e : ReadEvent) (es : List ReadEvent) → Turns (e ∷ es) → Turns es
unfolding Turns
turns_after (Enter Dot k at) es h = h
turns_after (Enter (Bond e) k at) es h = h.1
turns_after (Join e r at) es h = h
turns_after (Pop i) es h = h
turns_after (Miss x) es h = h
turns_after (Nest at) es h = h

turns_there : (before : List ReadEvent) (e : BondKind) (k : AtomKind) (at : ℕ) (after : List ReadEvent) → Turns (before ++ (Enter (Bond e) k at ∷ after)) → ¬ Unturnable k
unfolding Turns
turns_there [] e k at after h = h.0
turns_there (b ∷ before) e k at after h = turns_there before e k at after (turns_after b (before ++ (Enter (Bond e) k at ∷ after)) h)

pub turns_turnable : (es : List ReadEvent) → Turns es → Turnable es
unfolding Turnable
turns_turnable es h n m = turns_there m.before m.bond m.kind m.at m.after (subst Turns m.is h) m.mark

marked_here : (e : BondKind) (k : AtomKind) (at : ℕ) (es : List ReadEvent) → Unturnable k → Marked (Enter (Bond e) k at ∷ es) 0
unfolding count_all
marked_here e k at es u = record { before = []; bond = e; kind = k; at = at; after = es; is = refl; number = refl; mark = u }

marked_later : (e : ReadEvent) (es : List ReadEvent) (n : ℕ) (m : Marked es n) → Marked (e ∷ es) (count_all 0 (e ∷ m.before))
marked_later e es n m =
    record { before = e ∷ m.before; bond = m.bond; kind = m.kind; at = m.at; after = m.after; is = ap (λ (x : List ReadEvent). e ∷ x) m.is; number = refl; mark = m.mark }

turnable_after : (e : ReadEvent) (es : List ReadEvent) → Turnable (e ∷ es) → Turnable es
unfolding Turnable
turnable_after e es h n m = h (count_all 0 (e ∷ m.before)) (marked_later e es n m)

turnable_here : (e : BondKind) (k : AtomKind) (at : ℕ) (es : List ReadEvent) → Turnable (Enter (Bond e) k at ∷ es) → ¬ Unturnable k
unfolding Turnable
turnable_here e k at es h u = h 0 (marked_here e k at es u)

pub turnable_turns : (es : List ReadEvent) → Turnable es → Turns es
unfolding Turns
turnable_turns [] h = tt
turnable_turns (Enter Dot k at ∷ es) h = turnable_turns es (turnable_after (Enter Dot k at) es h)
turnable_turns (Enter (Bond e) k at ∷ es) h = (turnable_here e k at es h, turnable_turns es (turnable_after (Enter (Bond e) k at) es h))
turnable_turns (Join e r at ∷ es) h = turnable_turns es (turnable_after (Join e r at) es h)
turnable_turns (Pop i ∷ es) h = turnable_turns es (turnable_after (Pop i) es h)
turnable_turns (Miss x ∷ es) h = turnable_turns es (turnable_after (Miss x) es h)
turnable_turns (Nest at ∷ es) h = turnable_turns es (turnable_after (Nest at) es h)

-- where it stops at a mark, that atom has one that can't be turned
At : ℕ → ReadEvent → Answer → Type 0
At n e (Ok size) = Unit {0}
At n e (Err answer.EndOfLine) = Unit {0}
At n e (Err (answer.Character i)) = Unit {0}
At n e (Err (answer.Join x y)) = Unit {0}
At n e (Err (answer.Rnum j)) = Unit {0}
At n e (Err (answer.Inversion i)) = (b : BondKind) × (k : AtomKind) × (at : ℕ) × (e ≡ Enter (Bond b) k at) × (n ≡ i) × Unturnable k
At n e (Err (answer.TextTooLong i)) = Unit {0}
At n e (Err (answer.AtomRoom at)) = Unit {0}
At n e (Err (answer.BondRoom at)) = Unit {0}
At n e (Err (answer.Nesting i)) = Unit {0}
At n e (Err answer.NoAtom) = Unit {0}

meets_at : (p l : ℕ) (o : Option Molecule) (n : ℕ) (e : ReadEvent) (a : Answer) → Meets p l o n e a → At n e a
unfolding At
meets_at p l _ _ _ _ (no_place m n k at c h) = tt
meets_at p l _ _ _ _ (no_slots m n e k at g z) = tt
meets_at p l _ _ _ _ (not_turned m n e k at g z u) = (e, k, at, refl, refl, u)
meets_at p l _ _ _ _ (no_slot m x n e r at h g) = tt
meets_at p l _ _ _ _ (not_turned_after n e k at u) = (e, k, at, refl, refl, u)
meets_at p l _ _ _ _ (ends o n) = tt
meets_at p l _ _ _ _ (wrong o n at) = tt
meets_at p l _ _ _ _ (deep o n at) = tt

pub stops_marked : (p l : ℕ) (o : Option Molecule) (es : List ReadEvent) (n : ℕ) → Stops p l o 0 es (Err (answer.Inversion n)) → Marked es n
unfolding At
stops_marked p l o es n s =
    let m = meets_at p l _ _ s.event (Err (answer.Inversion n)) s.meets in
    record { before = s.before; bond = m.0; kind = m.1; at = m.2; after = s.after; is = s.is ∙ ap (λ (x : ReadEvent). s.before ++ (x ∷ s.after)) m.3; number = m.4; mark = m.5 }
