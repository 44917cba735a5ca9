-- The byte at a place, within the line and past its end. Assumes nothing.
use Prim.Native.Nat.{ℕ, zero, suc, ◌<◌, ◌≤◌}
use mathlib.Core.Path.{◌≡◌, refl, sym}
use mathlib.Core.List.{List, [], ◌∷◌}
use native.Mathlib.Nat.{le_of_suc-le-suc, not-suc-le-zero}
use lib.ListN.{length, get_or, get_or-eq_default}
use Rattle.read_token.specs.Scan.{no_byte, peek_at}

pub peek_in : (s : List ℕ) (at : ℕ) → at < length s → get_or s at 0 ≡ peek_at s at
unfolding peek_at
peek_in [] at h = absurd (not-suc-le-zero h)
peek_in (x ∷ s) zero h = refl
peek_in (x ∷ s) (suc at) h = peek_in s at (le_of_suc-le-suc h)

pub peek_out : (s : List ℕ) (at : ℕ) → length s ≤ at → no_byte ≡ peek_at s at
unfolding peek_at
peek_out s at h = sym (get_or-eq_default s no_byte h)
