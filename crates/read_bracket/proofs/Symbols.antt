-- A symbol is what the names say of two bytes, but for the slip at "G". Assumes nothing.
use Prim.Native.Nat.{ℕ, ◌+◌}
use mathlib.Core.Path.{◌≡◌, refl, sym, ◌∙◌, ap, subst}
use mathlib.Core.Logic.{◌≢◌}
use mathlib.Core.Bool.{Bool, true, false}
use lib.Dec.{eqb, ltb}
use borrow.Author.Tests.{ne_eqb}
use native.Mathlib.Omega.{arith}
use Rattle.feature.specs.Pick.{pick}
use Rattle.feature.specs.Text.{byte, one_letter, two_letters}
use Rattle.feature.specs.Names.{symbols, names, place_of, begins, named_of}
use Rattle.feature.specs.declared.element.Named.{Named}
use Rattle.feature.specs.declared.element.Named.TheVariants.{Two, One, Begins, Nothing}
use Rattle.feature.proofs.Cases.{by_eq}
use Rattle.std.specs.Prelude.{Err, Ok}
use Rattle.read_token.specs.Scan.{Step}
use Rattle.read_token.specs.Scan.{no_byte, slip, symbol_of}

-- the place of fluorine, which "[G]" reads as
abbrev fluorine : ℕ
fluorine = place_of (one_letter (byte "F")) names

-- what is read at the byte b of what the names say; where one begins with "G", it is the slip
abbrev pub read_by : ℕ → ℕ → Named → Step
read_by b at (Two y) = Ok (y, at + 2)
read_by b at (One y) = Ok (y, at + 1)
read_by b at Begins = pick (eqb b (byte "G")) (Ok (fluorine, at + 1)) (Err (at + 1))
read_by b at Nothing = Err at

-- "G" is no name and begins some, so the names say of it that two letters are one, or that some begin so
slip_named : (d : ℕ) → named_of (byte "G") d ≡ pick (ltb (place_of (two_letters (byte "G") d) names) symbols) (Two (place_of (two_letters (byte "G") d) names)) Begins
unfolding named_of names place_of begins
slip_named d = refl

-- and it is read as that name, or as fluorine
slip_symbol : (d at : ℕ) → symbol_of (byte "G") d at ≡ pick (ltb (place_of (two_letters (byte "G") d) names) symbols) (Ok (place_of (two_letters (byte "G") d) names, at + 2)) (Ok (fluorine, at + 1))
unfolding symbol_of slip names place_of
slip_symbol d at = refl

at_slip : (d at : ℕ) → symbol_of (byte "G") d at ≡ read_by (byte "G") at (named_of (byte "G") d)
at_slip d at =
    slip_symbol d at
    ∙ go (ltb (place_of (two_letters (byte "G") d) names) symbols) (place_of (two_letters (byte "G") d) names)
    ∙ ap (read_by (byte "G") at) (sym (slip_named d)) where
      go : (p : Bool) (t : ℕ) → pick p (Ok (t, at + 2)) (Ok (fluorine, at + 1)) ≡ read_by (byte "G") at (pick p (Two t) Begins)
      go true t = refl
      go false t = refl

module _ (b d at : ℕ) (some : b ≢ no_byte) where
  elsewhere : b ≢ byte "G" → symbol_of b d at ≡ read_by b at (named_of b d)
  unfolding symbol_of slip named_of
  elsewhere n =
      simp (ne_eqb b no_byte some, ne_eqb b (byte "G") n)
      (go (ltb (place_of (two_letters b d) names) symbols) (ltb (place_of (one_letter b) names) symbols) (begins b names) (place_of (two_letters b d) names) (place_of (one_letter b) names)) where
        go : (p q r : Bool) (t o : ℕ) → pick p (Ok (t, at + 2)) (pick q (Ok (o, at + 1)) (pick r (Err (at + 1)) (Err at))) ≡ read_by b at (pick p (Two t) (pick q (One o) (pick r Begins Nothing)))
        go true q r t o = refl
        go false true r t o = refl
        go false false true t o = simp (ne_eqb b (byte "G") n)
        go false false false t o = refl

  by_names : symbol_of b d at ≡ read_by b at (named_of b d)
  by_names =
      by_eq b (byte "G") (λ e. subst (λ (x : ℕ). symbol_of x d at ≡ read_by x at (named_of x d)) (sym e) (at_slip d at)) elsewhere

  pub symbol_by_names : {r : Named} → r ≡ named_of b d → symbol_of b d at ≡ read_by b at r
  symbol_by_names e = by_names ∙ ap (read_by b at) (sym e)

-- the end of the line is no symbol
pub no_symbol : (d at : ℕ) → symbol_of no_byte d at ≡ Err at
unfolding symbol_of
no_symbol d at = refl

-- and "G" alone is the slip: fluorine's number is 34
pub slipped : (d at : ℕ) → Begins ≡ named_of (byte "G") d → symbol_of (byte "G") d at ≡ Ok (34, at + 1)
unfolding names place_of
slipped d at e = symbol_by_names (byte "G") d at (λ z. omega (arith, z)) e
