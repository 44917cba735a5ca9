-- Text as bytes, so that definitions can be read: `bytes "@TH1"` is a list of four numbers.
use Rattle.std.specs.Prelude.{ℕ, ◌+◌, ◌*◌, List, eqb}
use Prim.Native.Char.{Char, code}
use Prim.Native.String.{String, [], ◌∷◌}
use mathlib.Core.List as list
use Rattle.feature.specs.Pick.{pick}

abbrev pub byte : Char → ℕ
byte c = code c

abbrev pub bytes : String → List ℕ
bytes [] = list.[]
bytes (c ∷ s) = list.◌∷◌ (code c) (bytes s)

-- a name's number: 512 for each of its first byte, and one more than its second byte where it has one
abbrev pub letter_step : ℕ
letter_step = 512

-- what stands in the place of a second byte where the line ends
abbrev pub no_letter : ℕ
no_letter = 256

abbrev pub one_letter : ℕ → ℕ
one_letter a = a * letter_step

abbrev pub two_letters : ℕ → ℕ → ℕ
two_letters a b = a * letter_step + b + 1

-- the numbers of names in columns of three: two letters, or one and a blank, and a blank after them
abbrev pub columns : String → List ℕ
columns [] = list.[]
columns (a ∷ []) = list.[]
columns (a ∷ (b ∷ [])) = list.[]
columns (a ∷ (b ∷ (c ∷ s))) =
    list.◌∷◌ (pick (eqb (code b) (code " ")) (one_letter (code a)) (two_letters (code a) (code b))) (columns s)
