-- Tables of zeros, and tables that are cleared.
use Rattle.std.specs.Prelude.{ℕ, ◌-◌, List, ◌++◌, length, take, replicate}

-- n zeros
abbrev pub zeros : ℕ → List ℕ
zeros n = replicate n 0

-- zeros in the place of all that a table holds
abbrev pub zeroed : List ℕ → List ℕ
zeroed t = replicate (length t) 0

-- zeros from the place n on
unfoldable pub cleared_from : ℕ → List ℕ → List ℕ
cleared_from n out = take n out ++ replicate (length out - n) 0
