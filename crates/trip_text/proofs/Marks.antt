-- What leads in a text that is at a place: its bond, if it has one, and where the text itself begins. Assumes nothing.
use Prim.Native.Nat.{ℕ, zero, suc, ◌+◌, ◌*◌, ◌/◌, ◌%◌, ◌≤◌, ◌<◌}
use mathlib.Core.Path.{◌≡◌, refl, ◌∙◌, ap}
use mathlib.Core.List.{List, ◌∷◌, ◌++◌}
use mathlib.Core.Bool.{Bool, true, false}
use native.Mathlib.Omega.{arith}
use lib.ListN.{length}
use lib.Dec.{eqb, ltb}
use borrow.Author.Tests.{ne_eqb, lt-ltb, le-ltb, ltb-true, ltb-false}
use Rattle.feature.specs.Text.{byte}
use Rattle.feature.specs.declared.bond_kind.BondKind.{BondKind}
use Rattle.feature.specs.declared.bond_kind.BondKind.TheVariants as kind
use Rattle.spell.specs.Spell.{bond_text, digits, rnum_text}
use Rattle.std.specs.Prelude.{None, Ok, Some}
use Rattle.read_token.specs.Scan.{peek_at, digit_of, digit_at, sign_kind, mark_width, bond_at, percent_at, rnum_at, aromatic_of, aliphatic_of, organic_at, bracket_at, star_at, or_else, other_at, atom_at}
use Rattle.read_line.specs.declared.lead.Lead.TheVariants.{Bond}
use Rattle.read_line.specs.declared.lead.Body.TheVariants.{Unit}
use Rattle.read_line.specs.Parse.{body_of, body_at, led_at}
use Rattle.trip_text.proofs.Stands.{Stands, next, first}
use Rattle.trip_text.proofs.Heads.{Plain, Facts, facts}

-- a bond leads a text in
pub record Leads (s : List ℕ) (at : ℕ) (b : BondKind) : Type 0 where
  pub body : body_at s at ≡ Unit
  pub lead : (led_at s at).value ≡ Bond b
  pub next : (led_at s at).next ≡ at + length (bond_text b)

module _ (s : List ℕ) (at : ℕ) where
  plain_leads : (x : ℕ) → peek_at s at ≡ x → Facts x → Leads s at kind.Elided
  unfolding body_at led_at bond_at mark_width bond_text
  plain_leads x z f = record {
    body = rw (z, f.ascii) f.body;
    lead = rw (z, f.dot) (ap Bond f.bond);
    next = rw (z, f.dot, f.bond) refl;
  }

  mark_leads : (b : BondKind) (x : ℕ) → peek_at s at ≡ x → body_of x ≡ Unit → ltb x 128 ≡ true → eqb x (byte ".") ≡ false → sign_kind x ≡ b
      → mark_width b ≡ length (bond_text b) → Leads s at b
  unfolding body_at led_at bond_at
  mark_leads b x z f a d g w = record {
    body = rw (z, a) f;
    lead = rw (z, d) (ap Bond g);
    next = rw (z, d, g, w) refl;
  }

-- so each bond does, in front of a text whose first byte is plain
pub leads : (b : BondKind) {s : List ℕ} {at : ℕ} (t q : List ℕ) → Plain t → Stands s at ((bond_text b ++ t) ++ q) → Leads s at b
unfolding bond_text body_of sign_kind mark_width
leads kind.Elided {s} {at} t q p h =
    let g : Stands s at (p.head ∷ (p.tail ++ q)) = rw p.is at h in
    plain_leads s at p.head (first g) (facts p.head p.ok)
leads kind.Single {s} {at} t q p h = mark_leads s at kind.Single (byte "-") (first h) refl refl refl refl refl
leads kind.Double {s} {at} t q p h = mark_leads s at kind.Double (byte "=") (first h) refl refl refl refl refl
leads kind.Triple {s} {at} t q p h = mark_leads s at kind.Triple (byte "#") (first h) refl refl refl refl refl
leads kind.Quadruple {s} {at} t q p h = mark_leads s at kind.Quadruple (byte "$") (first h) refl refl refl refl refl
leads kind.Aromatic {s} {at} t q p h = mark_leads s at kind.Aromatic (byte ":") (first h) refl refl refl refl refl
leads kind.Up {s} {at} t q p h = mark_leads s at kind.Up (byte "/") (first h) refl refl refl refl refl
leads kind.Down {s} {at} t q p h = mark_leads s at kind.Down (byte "\\") (first h) refl refl refl refl refl

-- ---- ring numbers
-- a digit as a byte is worth the digit
digit_worth : (d : ℕ) → d < 10 → digit_of (48 + d) ≡ d
unfolding digit_of
digit_worth d h = rw (le-ltb (48 + d) 48 (omega arith), le-ltb 57 (48 + d) (omega arith)) (omega arith)

digit_at_lem : {s : List ℕ} {at : ℕ} {q : List ℕ} (d : ℕ) → d < 10 → Stands s at ((48 + d) ∷ q) → digit_at s at ≡ d
unfolding digit_at
digit_at_lem d h z = rw (first z) (digit_worth d h)

-- where there is a digit or "%", there is no atom
abbrev Atomless : ℕ → Type 0
Atomless x = (s : List ℕ) (at : ℕ) → peek_at s at ≡ x → atom_at s at ≡ (Ok None)

percent_atomless : Atomless (byte "%")
unfolding atom_at organic_at aromatic_of aliphatic_of other_at or_else bracket_at star_at
percent_atomless s at z = simp z

-- a statement of each digit
by_digit : (P : ℕ → Type 0) → P 0 → P 1 → P 2 → P 3 → P 4 → P 5 → P 6 → P 7 → P 8 → P 9 → (d : ℕ) → d < 10 → P d
by_digit P p0 p1 p2 p3 p4 p5 p6 p7 p8 p9 zero h = p0
by_digit P p0 p1 p2 p3 p4 p5 p6 p7 p8 p9 (suc zero) h = p1
by_digit P p0 p1 p2 p3 p4 p5 p6 p7 p8 p9 (suc (suc zero)) h = p2
by_digit P p0 p1 p2 p3 p4 p5 p6 p7 p8 p9 (suc (suc (suc zero))) h = p3
by_digit P p0 p1 p2 p3 p4 p5 p6 p7 p8 p9 (suc (suc (suc (suc zero)))) h = p4
by_digit P p0 p1 p2 p3 p4 p5 p6 p7 p8 p9 (suc (suc (suc (suc (suc zero))))) h = p5
by_digit P p0 p1 p2 p3 p4 p5 p6 p7 p8 p9 (suc (suc (suc (suc (suc (suc zero)))))) h = p6
by_digit P p0 p1 p2 p3 p4 p5 p6 p7 p8 p9 (suc (suc (suc (suc (suc (suc (suc zero))))))) h = p7
by_digit P p0 p1 p2 p3 p4 p5 p6 p7 p8 p9 (suc (suc (suc (suc (suc (suc (suc (suc zero)))))))) h = p8
by_digit P p0 p1 p2 p3 p4 p5 p6 p7 p8 p9 (suc (suc (suc (suc (suc (suc (suc (suc (suc zero))))))))) h = p9
by_digit P p0 p1 p2 p3 p4 p5 p6 p7 p8 p9 (suc (suc (suc (suc (suc (suc (suc (suc (suc (suc d)))))))))) h = absurd (omega arith)

digit_atomless : (d : ℕ) → d < 10 → Atomless (48 + d)
unfolding atom_at organic_at aromatic_of aliphatic_of other_at or_else bracket_at star_at
digit_atomless =
    by_digit (λ d. Atomless (48 + d)) (λ s at z. simp z) (λ s at z. simp z) (λ s at z. simp z) (λ s at z. simp z) (λ s at z. simp z)
    (λ s at z. simp z) (λ s at z. simp z) (λ s at z. simp z) (λ s at z. simp z) (λ s at z. simp z)

-- a ring number's text is no atom, and is read as the number to its end, whatever follows
pub record Ringed (s : List ℕ) (at n : ℕ) : Type 0 where
  pub none : atom_at s at ≡ (Ok None)
  pub number : rnum_at s at ≡ Ok (Some (n, at + length (rnum_text n)))

one_digit : (s : List ℕ) (at n : ℕ) (q : List ℕ) → n < 10 → Stands s at (rnum_text n ++ q) → Ringed s at n
unfolding rnum_text rnum_at
one_digit s at n q h z =
    let l : ltb n 10 ≡ true = lt-ltb n 10 h in
    let g : Stands s at ((48 + n) ∷ q) = rw l at z in
    record {
      none = digit_atomless n h s at (first g);
      number = simp (digit_at_lem n h g, l);
    }

percent_worth : {s : List ℕ} {at : ℕ} {q : List ℕ} → Stands s at (byte "%" ∷ q) → digit_at s at ≡ 10
unfolding digit_at digit_of
percent_worth z = rw (first z)

two_digits : (s : List ℕ) (at n : ℕ) (q : List ℕ) → 10 ≤ n → n < 100 → Stands s at (rnum_text n ++ q) → Ringed s at n
unfolding rnum_text digits rnum_at percent_at
two_digits s at n q l h z =
    let a : ltb n 10 ≡ false = le-ltb n 10 l in
    let b : ltb n 100 ≡ true = lt-ltb n 100 h in
    let g : Stands s at (byte "%" ∷ ((48 + n / 10) ∷ (48 + n % 10) ∷ q)) = rw (a, b) at z in
    let d : digit_at s (at + 1) ≡ n / 10 = digit_at_lem (n / 10) (omega arith) (next g) in
    let e : digit_at s (at + 1 + 1) ≡ n % 10 = digit_at_lem (n % 10) (omega arith) (next (next g)) in
    let v : n / 10 * 10 + n % 10 ≡ n = omega arith in
    record {
      none = percent_atomless s at (first g);
      number =
          simp (percent_worth g, first g, d, e, ne_eqb (n / 10) 10 (λ y. omega arith), ne_eqb (n % 10) 10 (λ y. omega arith), a, b)
          (ap (λ (v : ℕ). Ok (Some (v, at + 1 + 2))) v ∙ ap ((λ (place : ℕ). Ok (Some (n, place)))) (omega arith));
    }

pub ringed : (s : List ℕ) (at n : ℕ) (q : List ℕ) → n ≤ 99 → Stands s at (rnum_text n ++ q) → Ringed s at n
ringed s at n q h z = split (ltb n 10) refl where
  split : (t : Bool) → ltb n 10 ≡ t → Ringed s at n
  split true e = one_digit s at n q (ltb-true n 10 e) z
  split false e = two_digits s at n q (ltb-false n 10 e) (omega arith) z
