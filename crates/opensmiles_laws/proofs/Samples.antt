-- The laws at work: a text that is long because of its digits. Assumes nothing.
use Prim.Native.Nat.{ℕ, zero, suc, ◌*◌}
use mathlib.Core.Path.{◌≡◌, refl, ap, ◌∙◌}
use mathlib.Core.List.{List, [], ◌++◌}
use native.Mathlib.Omega.{arith}
use lib.ListN.{length, length-append}
use Rattle.feature.specs.Text.{bytes}
use Rattle.std.specs.Prelude.{Err}
use Rattle.read.specs.declared.ReadError.TheVariants as answer
use Rattle.read.specs.Read.{Said}
use Rattle.read.specs.Line.{read_refusing, read_text}
use Rattle.opensmiles_laws.proofs.ReadsAs.{long, reads_as_said}

-- a text so many times
unfoldable pub times : ℕ → List ℕ → List ℕ
times zero x = []
times (suc n) x = x ++ times n x

length_times : (n : ℕ) (x : List ℕ) → length x ≡ 10 → length (times n x) ≡ n * 10
unfolding times
length_times zero x h = refl
length_times (suc n) x h = length-append x (times n x) ∙ omega (arith, h, length_times n x h)

-- a thousand atoms, within the rooms for atoms and entries, but not within that for the text
abbrev pub many_digits : List ℕ
many_digits = times 1000 (bytes "[000C:000]")

pub many_digits_lem : (la lb : ℕ) → (read_text many_digits la lb).answer ≡ Err (answer.TextTooLong 10000)
many_digits_lem la lb =
    let n : length many_digits ≡ 10000 = length_times 1000 (bytes "[000C:000]") refl in
    ap (λ (x : Said). x.answer) (reads_as_said many_digits la lb (read_refusing (Err (answer.TextTooLong (length many_digits))) la lb) (long (omega (arith, n))))
    ∙ ap (λ (i : ℕ). (Err (answer.TextTooLong i))) n
