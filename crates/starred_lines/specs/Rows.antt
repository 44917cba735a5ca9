-- THE STARRED LINES OF THE BENCH: what is asked, the answer that the scope gives, and what is left in what was lent, to its last cell.
-- The words of atoms and bonds are those of docs/PACKING.md, written out: B is 2, C 3, N 4, O 5, F 8; an elided bond is 1 and its
-- target. The claim that covers this table is `rows_said`.
use Rattle.std.specs.Prelude.{ℕ, ◌+◌, ◌*◌, List, [], ◌∷◌}
use Rattle.feature.specs.Text.{bytes}
use Rattle.builder_meaning.specs.Sketch.{padded}
use Rattle.desk_report.specs.Report.{report}
use Rattle.starred_lines.specs.Asked.{Asked, Reads, Rewrites, Calls, Answered, answered_by, lent}

-- so much of what was lent, and zeros after it
abbrev in_lent : List ℕ → List ℕ
in_lent l = padded lent l

-- a refused read: zeros in both tables
abbrev refused_read : ℕ → ℕ → ℕ → Answered
refused_read n x y = answered_by (report n x y) (in_lent [] ∷ in_lent [] ∷ [])

-- a line that was read, with its atoms' and its bonds' words
abbrev read : ℕ → ℕ → List ℕ → List ℕ → Answered
read n m a b = answered_by (report 0 n m) (in_lent a ∷ in_lent b ∷ [])

-- a line that was read and then written, or whose writing is refused
abbrev written : List ℕ → List ℕ → ℕ → ℕ → ℕ → List ℕ → Answered
written a b n x y line = answered_by (report n x y) (in_lent a ∷ in_lent b ∷ in_lent line ∷ [])

-- a carbon in brackets by its first word: its configuration and hydrogens, 10 for none; it has no isotope
abbrev carbon_word : ℕ → ℕ → ℕ
carbon_word c h = 36 + 256 * (1000 + 1001 * (c + 58 * h))

-- and by its second: its charge, from 0 for -15, 31 for none; it has no map
abbrev charged : ℕ → ℕ
charged q = q + 32 * 1000

abbrev pub starred_rows : List (Asked × Answered)
starred_rows =
    (Reads "", refused_read 1 0 0)
    ∷ (Reads "C)", refused_read 2 1 0)
    ∷ (Reads "C()", refused_read 2 2 0)
    ∷ (Reads "[1234C]", refused_read 2 4 0)
    ∷ (Reads "[C+15]", read 1 0 (carbon_word 0 10 ∷ charged 30 ∷ 0 ∷ []) [])
    ∷ (Reads "[C+16]", refused_read 2 4 0)
    ∷ (Reads "[C+0]", refused_read 2 3 0)
    ∷ (Reads "C=1CC#1", refused_read 3 2 0)
    ∷ (Reads "C12CC1", refused_read 4 1 0)
    ∷ (
      Rewrites "C1CC1",
      written (3 ∷ 0 ∷ 2 ∷ 3 ∷ 0 ∷ 2 ∷ 3 ∷ 0 ∷ 2 ∷ []) (1 ∷ 2 ∷ 1 ∷ 1 ∷ 1 ∷ 0 ∷ 1 ∷ 2 ∷ 1 ∷ 1 ∷ 1 ∷ 0 ∷ [])
          0 7 0 (bytes "C(CC1)1"),
    )
    ∷ (
      Rewrites "C(.O)N",
      written (3 ∷ 0 ∷ 1 ∷ 5 ∷ 0 ∷ 0 ∷ 4 ∷ 0 ∷ 1 ∷ []) (1 ∷ 2 ∷ 1 ∷ 0 ∷ [])
          0 4 0 (bytes "CN.O"),
    )
    ∷ (
      Rewrites "C11",
      written (3 ∷ 0 ∷ 2 ∷ []) (1 ∷ 0 ∷ 1 ∷ 0 ∷ [])
          6 0 0 [],
    )
    ∷ (
      Rewrites "C1C1",
      written (3 ∷ 0 ∷ 2 ∷ 3 ∷ 0 ∷ 2 ∷ []) (1 ∷ 1 ∷ 1 ∷ 1 ∷ 1 ∷ 0 ∷ 1 ∷ 0 ∷ [])
          8 0 1 [],
    )
    ∷ (
      Rewrites "C1CC[C@H]1F",
      written (3 ∷ 0 ∷ 2 ∷ 3 ∷ 0 ∷ 2 ∷ 3 ∷ 0 ∷ 2 ∷ carbon_word 2 1 ∷ charged 31 ∷ 3 ∷ 8 ∷ 0 ∷ 1 ∷ [])
          (1 ∷ 3 ∷ 1 ∷ 1 ∷ 1 ∷ 0 ∷ 1 ∷ 2 ∷ 1 ∷ 1 ∷ 1 ∷ 3 ∷ 1 ∷ 2 ∷ 1 ∷ 0 ∷ 1 ∷ 4 ∷ 1 ∷ 3 ∷ [])
          0 16 0 (bytes "C([C@@H](CC1)F)1"),
    )
    ∷ (Calls ((0, 1) ∷ (2, 3) ∷ (2, 3) ∷ (0, 1) ∷ (4, 5) ∷ (6, 7) ∷ []), answered_by (report 0 0 0) ((1 ∷ 2 ∷ 2 ∷ 1 ∷ 1 ∷ 4 ∷ []) ∷ []))
    ∷ []
