-- A text at a place of a line: what is read of its first bytes. Assumes nothing.
use Prim.Native.Nat.{ℕ, ◌+◌}
use mathlib.Core.Path.{◌≡◌, refl}
use mathlib.Core.List.{List, [], ◌∷◌, ◌++◌, append_assoc}
use native.Mathlib.Omega.{arith}
use lib.ListN.{length, drop, length-append}
use Rattle.read_token.specs.Scan.{peek_at}
use Rattle.survive.proofs.Shift.{front, past}

-- a text is all of a line from a place on
pub record Stands (s : List ℕ) (at : ℕ) (t : List ℕ) : Type 0 where
  pub is : drop at s ≡ t
  pub ends : at + length t ≡ length s

-- a whole line is at its start
pub whole : (s : List ℕ) → Stands s 0 s
whole s = record { is = refl; ends = omega arith }

-- what follows the text comes after it
pub after : {s : List ℕ} {at : ℕ} (p q : List ℕ) → Stands s at (p ++ q) → Stands s (at + length p) q
after {s} {at} p q h = record {
  is = past s at p q h.is;
  ends = omega (arith, h.ends, length-append p q);
}

pub next : {s : List ℕ} {at x : ℕ} {q : List ℕ} → Stands s at (x ∷ q) → Stands s (at + 1) q
next {x = x} {q = q} h = after (x ∷ []) q h

-- brackets of a text moved
pub apart : {s : List ℕ} {at : ℕ} (p q r : List ℕ) → Stands s at ((p ++ q) ++ r) → Stands s at (p ++ (q ++ r))
apart p q r h = rw append_assoc at h

-- its first byte
pub first : {s : List ℕ} {at x : ℕ} {q : List ℕ} → Stands s at (x ∷ q) → peek_at s at ≡ x
unfolding peek_at
first {s} {at} h = front s at h.is
