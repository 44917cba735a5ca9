-- A ring number's text and a bond's mark are read back wherever they are. Assumes nothing.
use Prim.Native.Nat.{ℕ, ◌+◌, ◌*◌, ◌/◌, ◌%◌, ◌<◌}
use mathlib.Core.Path.{◌≡◌, refl, ◌∙◌, ap}
use mathlib.Core.List.{List, [], ◌∷◌, ◌++◌}
use mathlib.Core.Bool.{Bool, true, false}
use native.Mathlib.Omega.{arith}
use native.Mathlib.Nat.{add_assoc, zero-add}
use lib.ListN.{length, drop}
use lib.Dec.{ltb, eqb, eqb→eq}
use borrow.Author.Tests.{lt-ltb, ne_eqb, ltb-true}
use Rattle.feature.specs.Pick.{pick}
use Rattle.feature.specs.Text.{byte}
use Rattle.feature.specs.declared.bond_kind.BondKind.{BondKind}
use Rattle.feature.specs.declared.bond_kind.BondKind.TheVariants.{Elided, Single, Double, Triple, Quadruple, Aromatic, Up, Down}
use Rattle.read_token.specs.declared.scanner.Part.{Part}
use Rattle.std.specs.Prelude.{Ok, Some}
use Rattle.read_token.specs.Scan.{peek_at, digit_of, digit_at, percent_at, rnum_at, sign_kind, mark_width, bond_at}
use Rattle.spell.specs.Spell.{figure, digits, rnum_text, bond_text}
use Rattle.survive.proofs.Checked.{below}
use Rattle.survive.proofs.Shift.{byte_at, front}

-- ---- ring numbers
-- a digit's byte is worth the digit
figure_digit : (d : ℕ) → d < 10 → digit_of (figure d) ≡ d
unfolding digit_of
figure_digit d h = eqb→eq (digit_of (figure d)) d (below (λ d. eqb (digit_of (figure d)) d) 10 tt d h)

module _ (s : List ℕ) (n : ℕ) where
  one_figure : (m : ℕ) (rest : List ℕ) → m < 10 → drop n s ≡ figure m ∷ rest → rnum_at s n ≡ Ok (Some (m, n + 1))
  unfolding rnum_at digit_at peek_at
  one_figure m rest h e = simp (front s n e, figure_digit m h, lt-ltb m 10 h)

  two_figures : (a b : ℕ) (rest : List ℕ) → a < 10 → b < 10 → drop n s ≡ byte "%" ∷ figure a ∷ figure b ∷ rest → rnum_at s n ≡ Ok (Some (a * 10 + b, n + 3))
  unfolding rnum_at percent_at digit_at digit_of peek_at
  two_figures a b rest p q e =
      let x : peek_at s n ≡ byte "%" = front s n e in
      let y : peek_at s (n + 1) ≡ figure a = byte_at s n 1 e in
      let z : peek_at s (n + 2) ≡ figure b = byte_at s n 2 e in
      let c : eqb a 10 ≡ false = ne_eqb a 10 (λ h. omega arith) in
      let d : eqb b 10 ≡ false = ne_eqb b 10 (λ h. omega arith) in
      simp (add_assoc, x, y, z, figure_digit a p, figure_digit b q, c, d)

  -- a ring number's text is read as the number, whatever follows
  pub ring_back_at : (m : ℕ) (rest : List ℕ) → m < 100 → drop n s ≡ rnum_text m ++ rest → rnum_at s n ≡ Ok (Some (m, n + length (rnum_text m)))
  unfolding rnum_text digits
  ring_back_at m rest h = split (ltb m 10) refl where
    split : (q : Bool) → ltb m 10 ≡ q → drop n s ≡ pick q (figure m ∷ []) (pick (ltb m 100) (byte "%" ∷ digits m) []) ++ rest → rnum_at s n ≡ Ok (Some (m, n + length (pick q (figure m ∷ []) (pick (ltb m 100) (byte "%" ∷ digits m) []))))
    split true p e = one_figure m rest (ltb-true m 10 p) e
    split false p e =
        let t = simp (p, lt-ltb m 100 h) at e in
        simp (p, lt-ltb m 100 h)
        (two_figures (m / 10) (m % 10) rest (omega arith) (omega arith) t ∙ ap (λ (k : ℕ). Ok (Some (k, n + 3))) (omega arith))

-- the same at the start of a line
pub ring_back : (m : ℕ) → m < 100 → (rest : List ℕ) → rnum_at (rnum_text m ++ rest) 0 ≡ Ok (Some (m, length (rnum_text m)))
ring_back m h rest =
    ring_back_at (rnum_text m ++ rest) 0 m rest h refl ∙ ap ((λ (place : ℕ). Ok (Some (m, place)))) (zero-add (length (rnum_text m)))

-- ---- bonds
abbrev pub bond : BondKind → ℕ → Part BondKind
bond k n = record { value = k; next = n }

bond_read : (s : List ℕ) (n x : ℕ) (k : BondKind) (rest : List ℕ) → sign_kind x ≡ k → drop n s ≡ x ∷ rest → bond_at s n ≡ bond k (n + mark_width k)
unfolding bond_at peek_at
bond_read s n x k rest b e = simp (front s n e, b)

-- a bond's mark is read as the bond, if what follows an elided one marks none
pub bond_back_at : (s : List ℕ) (n : ℕ) (k : BondKind) (rest : List ℕ) → (k ≡ Elided → sign_kind (peek_at rest 0) ≡ Elided) → drop n s ≡ bond_text k ++ rest → bond_at s n ≡ bond k (n + length (bond_text k))
unfolding bond_at bond_text sign_kind mark_width
bond_back_at s n Elided rest h e = simp (front s n e, h refl)
bond_back_at s n Single rest h e = bond_read s n (byte "-") Single rest refl e
bond_back_at s n Double rest h e = bond_read s n (byte "=") Double rest refl e
bond_back_at s n Triple rest h e = bond_read s n (byte "#") Triple rest refl e
bond_back_at s n Quadruple rest h e = bond_read s n (byte "$") Quadruple rest refl e
bond_back_at s n Aromatic rest h e = bond_read s n (byte ":") Aromatic rest refl e
bond_back_at s n Up rest h e = bond_read s n (byte "/") Up rest refl e
bond_back_at s n Down rest h e = bond_read s n (byte "\\") Down rest refl e

-- the same at the start of a line
pub bond_back : (k : BondKind) (rest : List ℕ) → (k ≡ Elided → sign_kind (peek_at rest 0) ≡ Elided) → bond_at (bond_text k ++ rest) 0 ≡ bond k (length (bond_text k))
bond_back k rest h =
    bond_back_at (bond_text k ++ rest) 0 k rest h refl ∙ ap (bond k) (zero-add (length (bond_text k)))

-- an elided bond has no byte, any other one
pub elided_width : length (bond_text Elided) ≡ 0
unfolding bond_text
elided_width = refl

pub bond_width : (k : BondKind) → (k ≡ Elided → ⊥) → length (bond_text k) ≡ 1
unfolding bond_text
bond_width Elided h = absurd (h refl)
bond_width Single h = refl
bond_width Double h = refl
bond_width Triple h = refl
bond_width Quadruple h = refl
bond_width Aromatic h = refl
bond_width Up h = refl
bond_width Down h = refl
