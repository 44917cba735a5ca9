-- Tables of names, written so that they can be read: names of one letter or two, in columns of three.
use Rattle.std.specs.Prelude.{ℕ, suc, List, Bool, true, false, eqb}
use Prim.Native.Char.{code}
use Prim.Native.String.{String, [], ◌∷◌}
use mathlib.Core.List as list
use Rattle.feature.specs.Pick.{pick}

-- A name has one letter or two.
pub data Name : Type 0 where
  one : ℕ → Name
  two : ℕ → ℕ → Name

-- The names in columns of three: two letters, or one and a blank, and a blank after them.
abbrev pub table : String → List Name
table [] = list.[]
table (a ∷ []) = list.[]
table (a ∷ (b ∷ [])) = list.[]
table (a ∷ (b ∷ (c ∷ s))) = list.◌∷◌ (pick (eqb (code b) (code " ")) (one (code a)) (two (code a) (code b))) (table s)

-- Whether a letter is a name of a table, and whether two letters are one.
unfoldable pub has1 : ℕ → List Name → Bool
has1 a list.[] = false
has1 a (list.◌∷◌ (one x) l) = pick (eqb a x) true (has1 a l)
has1 a (list.◌∷◌ (two x y) l) = has1 a l

unfoldable pub has2 : ℕ → ℕ → List Name → Bool
has2 a b list.[] = false
has2 a b (list.◌∷◌ (one x) l) = has2 a b l
has2 a b (list.◌∷◌ (two x y) l) = pick (eqb a x) (pick (eqb b y) true (has2 a b l)) (has2 a b l)

-- How many names of a table come before a letter, and before two.
unfoldable pub place1 : ℕ → List Name → ℕ
place1 a list.[] = 0
place1 a (list.◌∷◌ (one x) l) = pick (eqb a x) 0 (suc (place1 a l))
place1 a (list.◌∷◌ (two x y) l) = suc (place1 a l)

unfoldable pub place2 : ℕ → ℕ → List Name → ℕ
place2 a b list.[] = 0
place2 a b (list.◌∷◌ (one x) l) = suc (place2 a b l)
place2 a b (list.◌∷◌ (two x y) l) = pick (eqb a x) (pick (eqb b y) 0 (suc (place2 a b l))) (suc (place2 a b l))

-- The names of a table that another lacks.
unfoldable pub lacked_names : List Name → List Name → List Name
lacked_names list.[] l = list.[]
lacked_names (list.◌∷◌ (one x) k) l = pick (has1 x l) (lacked_names k l) (list.◌∷◌ (one x) (lacked_names k l))
lacked_names (list.◌∷◌ (two x y) k) l = pick (has2 x y l) (lacked_names k l) (list.◌∷◌ (two x y) (lacked_names k l))
