-- The grammar: the events of a text. A line is an atom and then bodies; a body is a branch "(" (dot or bond)? line ")", a
-- split "." line, or a union bond? (line or ring number). A missing thing is a character at the cursor, or the end of the
-- line if no byte is left. `k` is what follows, at a place and with so many atoms in the line.
use Rattle.std.specs.Prelude.{ℕ, zero, suc, ◌+◌, ◌-◌, List, [], ◌∷◌, Bool, true, false, length, ltb, eqb}
use Rattle.feature.specs.Pick.{pick}
use Rattle.feature.specs.Text.{byte, bytes}
use Rattle.feature.specs.declared.bond_kind.BondKind.{BondKind}
use Rattle.read_token.specs.Scan.{peek_at, missing_at, bond_at, atom_at, rnum_at}
use Rattle.std.specs.Prelude.{Err, None, Ok, Some}
use Rattle.read_token.specs.Scan.{Ring}
use Rattle.read_token.specs.Scan.{Found}
use Rattle.read_token.specs.declared.scanner.Missing.TheVariants.{Character}
use Rattle.table.specs.Limits.{branch_limit}
use Rattle.read_line.specs.declared.lead.Body.{Body}
use Rattle.read_line.specs.declared.lead.Body.TheVariants.{Ends, Branch, Unit}
use Rattle.read_line.specs.declared.lead.Lead.{Lead}
use Rattle.read_line.specs.declared.lead.Lead.TheVariants.{Dot, Bond}
use Rattle.read_token.specs.declared.scanner.Part.{Part}
use Rattle.read_line.specs.Events.{ReadEvent, Enter, Join, Pop, Miss, Nest}

-- what leads an atom in
unfoldable pub led_at : List ℕ → ℕ → Part Lead
led_at s at =
    pick (eqb (peek_at s at) (byte ".")) (record { value = Dot; next = at + 1 })
    (record { value = Bond (bond_at s at).value; next = (bond_at s at).next })

abbrev pub one_of : ℕ → List ℕ → Bool
one_of c [] = false
one_of c (x ∷ xs) = pick (eqb c x) true (one_of c xs)

-- what a byte begins: a branch, a split or a union, or neither
unfoldable pub body_of : ℕ → Body
body_of c =
    pick (eqb c (byte "(")) Branch
    (pick (one_of c (bytes ".-=#$:/\\ABCFINOPSTbcnops[*0123456789%")) Unit
    Ends)

unfoldable pub body_at : List ℕ → ℕ → Body
body_at s at = pick (ltb (peek_at s at) 128) (body_of (peek_at s at)) Ends

-- what is said where nothing, a branch, a split or a union begins
abbrev pub by_body : Body → List ReadEvent → List ReadEvent → List ReadEvent → List ReadEvent
by_body Ends ends branch unit = ends
by_body Branch ends branch unit = branch
by_body Unit ends branch unit = unit

-- what follows
abbrev pub Rest : Type 0
Rest = ℕ → ℕ → List ReadEvent

unfoldable pub miss_p : List ℕ → ℕ → List ReadEvent
miss_p s at = Miss (missing_at s at) ∷ []

-- an atom
unfoldable pub found_p : List ℕ → ℕ → Lead → ℕ → Rest → Found → List ReadEvent
found_p s at l n k (Ok (Some (kind, next))) = Enter l kind at ∷ k next (n + 1)
found_p s at l n k (Ok None) = miss_p s at
found_p s at l n k (Err m) = Miss m ∷ []

unfoldable pub atom_p : List ℕ → ℕ → Lead → ℕ → Rest → List ReadEvent
atom_p s at l n k = found_p s at l n k (atom_at s at)

-- a ring number
unfoldable pub ring_p : List ℕ → ℕ → BondKind → ℕ → Rest → Ring → List ReadEvent
ring_p s at bond n k (Ok (Some (r, next))) = Join bond r at ∷ k next n
ring_p s at bond n k (Ok None) = miss_p s at
ring_p s at bond n k (Err m) = Miss m ∷ []

-- an atom, else a ring number
unfoldable pub union_by : List ℕ → ℕ → BondKind → ℕ → Rest → Found → List ReadEvent
union_by s at bond n k (Ok (Some (kind, next))) = Enter (Bond bond) kind at ∷ k next (n + 1)
union_by s at bond n k (Ok None) = ring_p s at bond n k (rnum_at s at)
union_by s at bond n k (Err m) = Miss m ∷ []

unfoldable pub union_p : List ℕ → ℕ → BondKind → ℕ → Rest → List ReadEvent
union_p s at bond n k = union_by s at bond n k (atom_at s at)

-- split or union
unfoldable pub unit_by : List ℕ → ℕ → ℕ → Rest → Lead → List ReadEvent
unit_by s at n k Dot = atom_p s at Dot n k
unit_by s at n k (Bond bond) = union_p s at bond n k

unfoldable pub unit_p : List ℕ → ℕ → ℕ → Rest → List ReadEvent
unit_p s at n k = unit_by s (led_at s at).next n k (led_at s at).value

-- line: an atom, and then bodies, which `more` gives
unfoldable pub line_p : (ℕ → ℕ → Rest → List ReadEvent) → List ℕ → ℕ → Lead → Rest → List ReadEvent
line_p more s at l k = atom_p s at l 0 (λ at' n'. more at' n' k)

-- after a branch's line: ")"
unfoldable pub close_p : List ℕ → (ℕ → List ReadEvent) → Rest
close_p s k at n = pick (eqb (peek_at s at) (byte ")")) (Pop n ∷ k (at + 1)) (miss_p s at)

-- branch, with room for so many more open at once
unfoldable pub branch_p : (ℕ → ℕ → ℕ → Rest → List ReadEvent) → List ℕ → ℕ → ℕ → (ℕ → List ReadEvent) → List ReadEvent
branch_p more s at room k =
    pick (eqb room 0) (Nest at ∷ [])
    (line_p (more (room - 1)) s (led_at s (at + 1)).next (led_at s (at + 1)).value (close_p s k))

-- bodies, as many as there are
unfoldable pub bodies : ℕ → List ℕ → ℕ → ℕ → ℕ → Rest → List ReadEvent
bodies zero s room at n k = []
bodies (suc f) s room at n k =
    by_body (body_at s at) (k at n)
    (branch_p (bodies f s) s at room (λ at'. bodies f s room at' n k))
    (unit_p s at n (λ at' n'. bodies f s room at' n' k))

-- a whole text: a line, and no byte more
unfoldable pub end_p : List ℕ → Rest
end_p s at n = pick (ltb at (length s)) (Miss (Character at) ∷ []) []

unfoldable pub parse : List ℕ → List ReadEvent
parse s = line_p (bodies (length s + 1) s branch_limit) s 0 Dot (end_p s)
