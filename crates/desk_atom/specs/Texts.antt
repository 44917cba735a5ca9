-- One atom as text, both ways, and the text of a bond and of a ring number, as single calls.
--
-- Reading, for any text: the atom that the text begins with and the place after it; 2 with the place of what is missing, or 1
-- where the text ends there. Spelling, for any output: 17 for numbers that stand for no atom or no ring number; 16, with the
-- bytes that the text needs, where the output is shorter; else the text and zeros after it. After 16 and 17 the output is all
-- zeros.
use Rattle.std.specs.Prelude.{ℕ, ◌-◌, List, [], ◌∷◌, ◌++◌, length, ltb, Err, Ok, Result}
use Rattle.feature.specs.Pick.{pick}
use Rattle.desk_numbers.specs.Numbers.{Told, told, done, end_of_line, character, out_room, bad_table}
use Rattle.feature.specs.Kinds.{in_range}
use Rattle.feature.specs.declared.atom_kind.AtomKind.{AtomKind}
use Rattle.table.specs.Limits.{ring_number_count}
use Rattle.read_token.specs.declared.scanner.Missing.{Missing}
use Rattle.std.specs.Prelude.{None, Some}
use Rattle.read_token.specs.Scan.{Found}
use Rattle.read_token.specs.Scan.{missing_at, atom_at}
use Rattle.spell.specs.Spell.{atom_text, rnum_text}
use Rattle.table.specs.Zeros.{zeros}
use Rattle.read_token.specs.declared.scanner.Missing.TheVariants.{Character, EndOfLine}
use Rattle.desk_atom.specs.declared.Refusal.{Refusal}
use Rattle.desk_atom.specs.declared.Refusal.TheVariants.{OutRoom, BadTable}

-- ---- reading
-- where no atom begins, its first character is missing
unfoldable pub begins_by : List ℕ → Found → Result (AtomKind × ℕ) Missing
begins_by text (Ok (Some (k, next))) = Ok (k, next)
begins_by text (Ok None) = Err (missing_at text 0)
begins_by text (Err m) = Err m

-- an answer in the scope's numbers
unfoldable pub begins_told : Result (AtomKind × ℕ) Missing → Told
begins_told (Ok (k, next)) = told done (next ∷ [])
begins_told (Err EndOfLine) = told end_of_line []
begins_told (Err (Character place)) = told character (place ∷ [])

-- the kind that was read; a refusal has none
unfoldable pub kinds_in : Result (AtomKind × ℕ) Missing → List AtomKind
kinds_in (Ok (k, next)) = k ∷ []
kinds_in (Err why) = []

pub record AtomTold : Type 0 where
  pub told : Told
  pub kinds : List AtomKind

abbrev pub tells_atom : Result (AtomKind × ℕ) Missing → AtomTold
tells_atom b = record { told = begins_told b; kinds = kinds_in b }

unfoldable pub first_atom : List ℕ → AtomTold
first_atom text = tells_atom (begins_by text (atom_at text 0))

-- ---- spelling
-- what a call answers, with the output that it leaves
pub record Spells : Type 0 where
  pub told : Told
  pub out : List ℕ

-- an answer in the scope's numbers
unfoldable pub spelt_told : Result ℕ Refusal → Told
spelt_told (Ok n) = told done (n ∷ [])
spelt_told (Err (OutRoom n)) = told out_room (n ∷ [])
spelt_told (Err BadTable) = told bad_table (0 ∷ [])

abbrev pub spelt : Result ℕ Refusal → List ℕ → Spells
spelt r out = record { told = spelt_told r; out = out }

-- a text in an output of n bytes
unfoldable pub texted : List ℕ → ℕ → Spells
texted text n =
    pick (ltb n (length text)) (spelt (Err (OutRoom (length text))) (zeros n))
    (spelt (Ok (length text)) (text ++ zeros (n - length text)))

unfoldable pub atom_d : AtomKind → ℕ → Spells
atom_d k n = pick (in_range k) (texted (atom_text k) n) (spelt (Err BadTable) (zeros n))

unfoldable pub rnum_d : ℕ → ℕ → Spells
rnum_d r n = pick (ltb r ring_number_count) (texted (rnum_text r) n) (spelt (Err BadTable) (zeros n))
