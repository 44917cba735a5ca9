-- What is at a place of a text, as the rest of the text from there on. Assumes nothing.
use Prim.Native.Nat.{ℕ, ◌+◌, ◌<◌}
use mathlib.Core.Path.{◌≡◌, sym, ap, ◌∙◌}
use mathlib.Core.List.{List, [], ◌∷◌}
use mathlib.Core.Option.{Option, none, some}
use mathlib.Core.Bool.{Bool, true, false}
use native.Mathlib.Omega.{arith}
use native.Mathlib.Nat.{add-zero}
use lib.ListN.{length, drop, get_or, length-drop, replicate, get_or-eq_default}
use lib.Seq.{get_or-drop, drop-drop}
use lib.Dec.{T, eqb, ltb, eqb→eq}
use borrow.Author.Tests.{lt-ltb, le-ltb}
use Rattle.feature.specs.Bonds.{code_of}
use Rattle.feature.proofs.Table.{at, every_entry}
use Rattle.feature.proofs.Bonds.{same_code}
use Rattle.read_token.specs.Scan.{peek_at, missing_at}
use Rattle.read_token.specs.Scan as scan
use Rattle.read_token.specs.declared.scanner.Missing.TheVariants.{EndOfLine, Character}
use Rattle.grammar.specs.Grammar.{Digit, value, bond_k, bond?k}
use Rattle.grammar.specs.Lines.{Bytes}
use Rattle.grammar.proofs.Machine.{digit_of, bond_of}

pub record Here (s : List ℕ) (n : ℕ) (bs : List ℕ) : Type 0 where
  pub is : drop n s ≡ bs
  pub small : Bytes bs

pub two_up : (n : ℕ) → n + 2 ≡ n + 1 + 1
two_up n = omega arith

drop_add : (n : ℕ) (s : List ℕ) → drop (n + 1) s ≡ drop 1 (drop n s)
drop_add n s = sym (drop-drop 1 n s)

module _ {s : List ℕ} {n : ℕ} where
  pub here_end : Here s n [] → peek_at s n ≡ 256
  unfolding peek_at
  here_end h = get_or-eq_default s 256 (omega (arith, length-drop n s, ap length h.is))

  pub here_past : Here s n [] → ltb n (length s) ≡ false
  here_past h = le-ltb n (length s) (omega (arith, length-drop n s, ap length h.is))

  pub here_missing : Here s n [] → missing_at s n ≡ EndOfLine
  unfolding missing_at
  here_missing h = rw (here_past h)

module _ {s : List ℕ} {n b : ℕ} {bs : List ℕ} where
  pub here_byte : Here s n (b ∷ bs) → peek_at s n ≡ b
  unfolding peek_at
  here_byte h = ap (λ (k : ℕ). get_or s k 256) (sym (add-zero n)) ∙ sym (get_or-drop n s 0 256) ∙ ap (λ (l : List ℕ). get_or l 0 256) h.is

  pub here_within : Here s n (b ∷ bs) → ltb n (length s) ≡ true
  here_within h = lt-ltb n (length s) (omega (arith, length-drop n s, ap length h.is))

  pub here_character : Here s n (b ∷ bs) → missing_at s n ≡ Character n
  unfolding missing_at
  here_character h = rw (here_within h)

  pub here_small : Here s n (b ∷ bs) → b < 256
  unfolding Bytes
  here_small h = h.small.0

  pub here_next : Here s n (b ∷ bs) → Here s (n + 1) bs
  unfolding Bytes
  here_next h = record { is = drop_add n s ∙ ap (λ (l : List ℕ). drop 1 l) h.is; small = h.small.1 }

-- ---- what holds of each byte, by one test over all of them
pub each : (f : ℕ → Bool) → T (every_entry (λ k x. f k) 0 (replicate 256 0)) → (b : ℕ) → b < 256 → T (f b)
each f t b h = at (λ k x. f k) (replicate 256 0) t b h

-- what a digit is worth, and 10 where there is none
unfoldable pub worth_of : Option Digit → ℕ
worth_of none = 10
worth_of (some d) = value d

digit_right : ℕ → Bool
digit_right b = eqb (scan.digit_of b) (worth_of (digit_of b))

pub digit_worth : (b : ℕ) → b < 256 → scan.digit_of b ≡ worth_of (digit_of b)
unfolding digit_right digit_of worth_of value scan.digit_of
digit_worth b h = eqb→eq _ _ (each digit_right tt b h)

bond_right : ℕ → Bool
bond_right b = eqb (code_of (scan.sign_kind b)) (code_of (bond?k (bond_of b)))

pub bond_worth : (b : ℕ) → b < 256 → scan.sign_kind b ≡ bond?k (bond_of b)
unfolding bond_right bond_of bond?k bond_k scan.sign_kind code_of
bond_worth b h = same_code _ _ (eqb→eq _ _ (each bond_right tt b h))
