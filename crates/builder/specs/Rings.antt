-- The open ring numbers: for each of the hundred 0, or one more than the place of the entry that it opened.
use Rattle.std.specs.Prelude.{ℕ, slice_set}
use Rattle.builder.specs.declared.opens.Opens.{Opens}

-- the list with another value for one number
abbrev pub joined_at : Opens → ℕ → ℕ → Opens
joined_at o n value = record { at = slice_set o.at n value }
