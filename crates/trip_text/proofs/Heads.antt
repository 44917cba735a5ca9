-- Which byte the text of an atom, a bond or a ring number begins with, and what the reader makes of that byte. Assumes nothing.
use Prim.Native.Nat.{ℕ, ◌≤◌, ◌<◌}
use mathlib.Core.Path.{◌≡◌, refl, ap}
use mathlib.Core.List.{List, [], ◌∷◌, ◌++◌}
use mathlib.Core.Bool.{Bool, true, false}
use native.Mathlib.Omega.{arith}
use lib.ListN.{length}
use lib.Dec.{T, eqb, ltb}
use borrow.Author.Tests.{eqb-true}
use Rattle.feature.specs.Pick.{both, either, neither}
use Rattle.feature.specs.Text.{byte}
use Rattle.feature.specs.Names.{names}
use Rattle.feature.specs.Kinds.{aliphatic_count, aromatic_count}
use Rattle.feature.proofs.Ranges.{good}
use Rattle.feature.specs.declared.atom_kind.AtomKind.{AtomKind}
use Rattle.feature.specs.declared.atom_kind.AtomKind.TheVariants.{Star, Aliphatic, Aromatic, Bracket}
use Rattle.feature.specs.declared.bond_kind.BondKind.{BondKind}
use Rattle.feature.specs.declared.bond_kind.BondKind.TheVariants as kind
use Rattle.feature.proofs.Cases.{both_true, true_of, impossible}
use Rattle.spell.specs.Spell.{name_text, organic_symbols, bracket_text, kind_text, atom_text, bond_text, digits, rnum_text}
use Rattle.read_token.specs.Scan.{sign_kind, mark_width}
use Rattle.survive.specs.Survive.{survives, can_follow}
use Rattle.survive.proofs.Checked.{below}
use Rattle.survive.proofs.ReadBack.{survives_ranged, text_of}
use Rattle.read_line.specs.declared.lead.Body.TheVariants.{Unit}
use Rattle.read_line.specs.Parse.{body_of}
use Rattle.read_line.proofs.Bodies.{mark_of, same_body}

-- a byte of ASCII that begins a union with its bond left out, and that no organic atom takes for its second letter
unfoldable pub plain : ℕ → Bool
plain x =
    both (ltb x 128)
    (both (eqb (mark_of (body_of x)) (mark_of Unit))
    (both (eqb (mark_width (sign_kind x)) 0)
    (both (neither (eqb x (byte ".")))
    (neither (either (eqb x (byte "l")) (eqb x (byte "r")))))))

-- the same of a text's first byte
abbrev plain_text : List ℕ → Bool
plain_text [] = false
plain_text (x ∷ xs) = plain x

-- a text with such a byte in front
pub record Plain (t : List ℕ) : Type 0 where
  pub head : ℕ
  pub tail : List ℕ
  pub is : t ≡ head ∷ tail
  pub ok : plain head ≡ true

-- so it is not empty
pub plain_long : {t : List ℕ} → Plain t → 0 < length t
plain_long {t} p = omega (arith, ap length p.is)

of_test : (t : List ℕ) → T (plain_text t) → Plain t
of_test [] h = absurd h
of_test (x ∷ xs) h = record { head = x; tail = xs; is = refl; ok = true_of (plain x) h }

-- ---- atoms
kind_plain : (k : AtomKind) → survives k ≡ true → Plain (kind_text k)
unfolding kind_text bracket_text organic_symbols name_text names plain body_of sign_kind mark_width
kind_plain Star e = of_test (kind_text Star) tt
kind_plain (Aliphatic n) e =
    of_test (kind_text (Aliphatic n)) (below (λ n. plain_text (kind_text (Aliphatic n))) aliphatic_count tt n (good (Aliphatic n) (survives_ranged (Aliphatic n) e)))
kind_plain (Aromatic n) e =
    of_test (kind_text (Aromatic n)) (below (λ n. plain_text (kind_text (Aromatic n))) aromatic_count tt n (good (Aromatic n) (survives_ranged (Aromatic n) e)))
kind_plain (Bracket b) e = record { head = byte "["; tail = _; is = refl; ok = refl }

pub atom_plain : (k : AtomKind) → survives k ≡ true → Plain (atom_text k)
atom_plain k e = rw (text_of k (survives_ranged k e)) (kind_plain k e)

-- ---- ring numbers
pub rnum_plain : (n : ℕ) → n ≤ 99 → Plain (rnum_text n)
unfolding rnum_text digits plain body_of sign_kind mark_width
rnum_plain n h = of_test (rnum_text n) (below (λ n. plain_text (rnum_text n)) 100 tt n (omega arith))

-- ---- what such a byte is
no_width : (b : BondKind) → mark_width b ≡ 0 → b ≡ kind.Elided
unfolding mark_width
no_width kind.Elided e = refl
no_width kind.Single e = absurd (omega arith)
no_width kind.Double e = absurd (omega arith)
no_width kind.Triple e = absurd (omega arith)
no_width kind.Quadruple e = absurd (omega arith)
no_width kind.Aromatic e = absurd (omega arith)
no_width kind.Up e = absurd (omega arith)
no_width kind.Down e = absurd (omega arith)

not_true : (b : Bool) → neither b ≡ true → b ≡ false
not_true true e = impossible cc
not_true false e = refl

pub record Facts (x : ℕ) : Type 0 where
  pub ascii : ltb x 128 ≡ true
  pub body : body_of x ≡ Unit
  pub bond : sign_kind x ≡ kind.Elided
  pub dot : eqb x (byte ".") ≡ false
  pub second : neither (either (eqb x (byte "l")) (eqb x (byte "r"))) ≡ true

pub facts : (x : ℕ) → plain x ≡ true → Facts x
unfolding plain
facts x e =
    let a = both_true (ltb x 128) _ e in
    let b = both_true (eqb (mark_of (body_of x)) (mark_of Unit)) _ a.1 in
    let c = both_true (eqb (mark_width (sign_kind x)) 0) _ b.1 in
    let d = both_true (neither (eqb x (byte "."))) _ c.1 in
    record {
      ascii = a.0;
      body = same_body (body_of x) Unit (eqb-true (mark_of (body_of x)) (mark_of Unit) b.0);
      bond = no_width (sign_kind x) (eqb-true (mark_width (sign_kind x)) 0 c.0);
      dot = not_true (eqb x (byte ".")) d.0;
      second = d.1;
    }

-- it may follow an organic atom
pub plain_follows : (t q : List ℕ) → Plain t → can_follow (t ++ q) ≡ true
unfolding can_follow
plain_follows t q p = rw p.is (facts p.head p.ok).second

-- and so may a bond before it
pub bond_follows : (b : BondKind) (t q : List ℕ) → Plain t → can_follow ((bond_text b ++ t) ++ q) ≡ true
unfolding bond_text can_follow
bond_follows kind.Elided t q p = plain_follows t q p
bond_follows kind.Single t q p = refl
bond_follows kind.Double t q p = refl
bond_follows kind.Triple t q p = refl
bond_follows kind.Quadruple t q p = refl
bond_follows kind.Aromatic t q p = refl
bond_follows kind.Up t q p = refl
bond_follows kind.Down t q p = refl
