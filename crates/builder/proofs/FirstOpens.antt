-- The search finds the first open entry, and none only where there is none. Assumes nothing.
use Rattle.std.proofs.Common.{◌≡◌, ℕ, zero, suc, ◌+◌, ◌*◌, ◌<◌, ◌≤◌, Bool, true, false, leb, List, [], ◌∷◌, length, get_or, sym, refl, ap, ◌∙◌, arith, le-leb, leb-false, leb-true}
use borrow.Author.Tests.{lt-leb}
use Rattle.table.specs.Records.{bond_words}
use Rattle.builder.specs.State.{unclosed}
use Rattle.builder.specs.Build.{first_open}
use Rattle.builder.specs.Steps.{FirstAt}

-- past the first entry the targets are those of the rest
later : (k t e : ℕ) (bs : List ℕ) → get_or (k ∷ t ∷ bs) (suc e * bond_words + 1) 0 ≡ get_or bs (e * bond_words + 1) 0
later k t e bs =
    let i : suc e * bond_words + 1 ≡ suc (suc (e * bond_words + 1)) = omega arith in
    ap (λ (j : ℕ). get_or (k ∷ t ∷ bs) j 0) i

-- an open first entry is found
open_head : (k t : ℕ) (bs : List ℕ) → unclosed ≤ t → first_open (k ∷ t ∷ bs) ≡ t
unfolding first_open
open_head k t bs h = simp (le-leb unclosed t h)

-- a closed one is passed over
closed_head : (k t : ℕ) (bs : List ℕ) → t < unclosed → first_open (k ∷ t ∷ bs) ≡ first_open bs
unfolding first_open
closed_head k t bs h = simp (lt-leb unclosed t h)

-- where none is found every entry is closed
pub none_open : (bs : List ℕ) → first_open bs < unclosed → (e : ℕ) → e * bond_words + 1 < length bs → get_or bs (e * bond_words + 1) 0 < unclosed
none_open [] f e h = absurd (omega arith)
none_open (k ∷ []) f e h = absurd (omega arith)
none_open (k ∷ t ∷ bs) f e h =
    split (leb unclosed t) refl (λ (g : first_open bs < unclosed) (d : ℕ) (l : d * bond_words + 1 < length bs). none_open bs g d l) e h where
      split : (q : Bool) → leb unclosed t ≡ q → (first_open bs < unclosed → (d : ℕ) → d * bond_words + 1 < length bs → get_or bs (d * bond_words + 1) 0 < unclosed) → (d : ℕ) → d * bond_words + 1 < length (k ∷ t ∷ bs) → get_or (k ∷ t ∷ bs) (d * bond_words + 1) 0 < unclosed
      split true p ih d l = absurd (omega (arith, leb-true unclosed t p, open_head k t bs (leb-true unclosed t p)))
      split false p ih zero l = leb-false unclosed t p
      split false p ih (suc d) l =
          rw (later k t d bs) (ih (omega (arith, closed_head k t bs (leb-false unclosed t p))) d (omega arith))

-- what is found is the target of the first
pub first_is : (bs : List ℕ) (e : ℕ) → FirstAt bs e → first_open bs ≡ get_or bs (e * bond_words + 1) 0
first_is [] e f = absurd (omega (arith, f.within))
first_is (k ∷ []) e f = absurd (omega (arith, f.within))
first_is (k ∷ t ∷ bs) zero f = open_head k t bs f.here
first_is (k ∷ t ∷ bs) (suc e) f =
    closed_head k t bs (f.earlier 0 (omega arith)) ∙ first_is bs e rest ∙ sym (later k t e bs) where
      rest : FirstAt bs e
      rest =
          record {
            within = omega (arith, f.within);
            here = rw (later k t e bs) at f.here;
            earlier = λ d h. rw (later k t d bs) at (f.earlier (suc d) (omega arith));
          }

-- and there is a first where one is found
pub first_open_lem : (bs : List ℕ) → unclosed ≤ first_open bs → (e : ℕ) × FirstAt bs e
unfolding first_open
first_open_lem [] f = absurd (omega arith)
first_open_lem (k ∷ []) f = absurd (omega arith)
first_open_lem (k ∷ t ∷ bs) f = split (leb unclosed t) refl (λ (g : unclosed ≤ first_open bs). first_open_lem bs g) where
  after : t < unclosed → (e : ℕ) × FirstAt bs e → (e : ℕ) × FirstAt (k ∷ t ∷ bs) e
  after c (e, f) = (suc e, record { within = omega (arith, f.within); here = rw (later k t e bs) f.here; earlier = earlier }) where
    earlier : (d : ℕ) → d < suc e → get_or (k ∷ t ∷ bs) (d * bond_words + 1) 0 < unclosed
    earlier zero h = c
    earlier (suc d) h = rw (later k t d bs) (f.earlier d (omega arith))

  split : (q : Bool) → leb unclosed t ≡ q → (unclosed ≤ first_open bs → (e : ℕ) × FirstAt bs e) → (e : ℕ) × FirstAt (k ∷ t ∷ bs) e
  split true p ih = (0, record { within = omega arith; here = leb-true unclosed t p; earlier = λ d h. absurd (omega arith) })
  split false p ih = after (leb-false unclosed t p) (ih (omega (arith, closed_head k t bs (leb-false unclosed t p))))
