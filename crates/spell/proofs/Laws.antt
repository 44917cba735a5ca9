-- Bytes laid one run after the other, and the letters of names. Assumes nothing.
use Prim.Native.Nat.{ℕ, ◌+◌, ◌<◌, ◌≤◌}
use mathlib.Core.Path.{◌≡◌, refl, ◌∙◌, ap, sym}
use mathlib.Core.List.{List, [], ◌++◌}
use mathlib.Core.Bool.{Bool}
use native.Mathlib.Omega.{arith}
use native.Mathlib.Nat.{zero-add}
use lib.ListN.{length, get_or, drop, length-append}
use lib.Seq.{sets, sets-eq}
use lib.Dec.{T, ltb, leb, leb→le, ltb→lt}
use Rattle.feature.specs.Names.{symbols}
use Rattle.feature.proofs.Lists.{sets_append}
use Rattle.feature.proofs.Table.{at}
use Rattle.spell.specs.Spell.{Laid, organic_symbols}

pub laid_nil : {l : List ℕ} {at : ℕ} → Laid 0 l at [] l at
laid_nil = record { is = refl; next = omega arith; small = omega arith }

pub laid_then : {n n' at r r' : ℕ} {l m m' xs ys : List ℕ} → Laid n l at xs m r → Laid n' m r ys m' r' → Laid (n + n') l at (xs ++ ys) m' r'
laid_then {n} {n'} {at} {r} {r'} {l} {m} {m'} {xs} {ys} a b =
    record {
      is = b.is ∙ ap (λ (t : List ℕ). sets t r ys) a.is ∙ ap (λ (k : ℕ). sets (sets l at xs) k ys) a.next ∙ sym (sets_append l at xs ys);
      next = simp length-append (omega arith);
      small = omega arith;
    }

pub laid_as : {n N at r : ℕ} {l m xs ys : List ℕ} → Laid n l at xs m r → T (leb n N) → xs ≡ ys → Laid N l at ys m r
laid_as {n} {N} {at} {r} {l} {m} a h e =
    record {
      is = a.is ∙ ap (λ (b : List ℕ). sets l at b) e;
      next = a.next ∙ ap (λ (b : List ℕ). at + length b) e;
      small = omega (arith, leb→le n N h);
    }

-- where there is room a text is at the front of what was there, and the rest is untouched
pub in_front : {n r : ℕ} {l m xs : List ℕ} → Laid n l 0 xs m r → length xs ≤ length l → m ≡ xs ++ drop (length xs) l
in_front {n} {r} {l} {m} {xs} a h = a.is ∙ sets-eq xs l 0 (omega arith) ∙ rw zero-add

-- the organic symbols are symbols
is_symbol : ℕ → ℕ → Bool
is_symbol k y = ltb y symbols

pub organic_small : (n : ℕ) → n < 18 → get_or organic_symbols n 0 < symbols
unfolding organic_symbols is_symbol
organic_small n h = ltb→lt _ symbols (at is_symbol organic_symbols tt n h)
