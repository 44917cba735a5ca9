-- What each event makes of a builder's tables and the numbers beside them. An extend takes two entries, an opened ring
-- number one, its closing one more; a closing whose kinds fail takes none and is remembered. Refusals in order: 18 with no
-- current atom, 13 with no room for the atom, 14 with none for its entries, 10 for a mark that can't be turned.
use Rattle.std.specs.Prelude.{ℕ, ◌+◌, ◌-◌, ◌*◌, List, [], ◌∷◌, ◌==◌, nat_le, nat_lt, slice_index, slice_set, Option, None, Some, is_some}
use Rattle.std.proofs.lemmas.List.Edits.{sets}
use Rattle.feature.specs.Pick.{pick}
use Rattle.feature.specs.Kinds.{invert_of}
use Rattle.feature.specs.Bonds.{code_of, kind_of, sure_kind, reverse_of, reconcile_of}
use Rattle.feature.specs.declared.atom_kind.AtomKind.{AtomKind}
use Rattle.feature.specs.declared.bond_kind.BondKind.{BondKind}
use Rattle.desk_numbers.specs.Numbers.{inversion, atom_room, bond_room, no_atom}
use Rattle.table.specs.Records.{atom_words}
use Rattle.packing.specs.Words.{list_of}
use Rattle.builder.specs.declared.builder.Builder.{Builder}
use Rattle.builder.specs.declared.builder.FailedJoin.{FailedJoin}

-- the words of an entry in the making: source, kind, target
abbrev pub entry_words : ℕ
entry_words = 3

-- the target of an entry whose ring number is open is the sum of this and the number of the join
abbrev pub unclosed : ℕ
unclosed = 0x8000_0000

-- the lent tables and the numbers beside them
pub record Bld : Type 0 where
  pub atoms : List ℕ
  pub entries : List ℕ
  pub path : List ℕ
  pub rings : List ℕ
  pub st : Builder

abbrev pub bld : List ℕ → List ℕ → List ℕ → List ℕ → Builder → Bld
bld a e p r s = record { atoms = a; entries = e; path = p; rings = r; st = s }

abbrev pub failed_join : ℕ → ℕ → FailedJoin
failed_join x y = record { closing = x; opening = y }

-- a state, field by field
abbrev pub state : ℕ → ℕ → ℕ → ℕ → ℕ → ℕ → ℕ → ℕ → Option FailedJoin → Builder
state r c p l a e t j f =
    record { refusal = r; carried = c; places = p; slots = l; atoms = a; entries = e; top = t; joins = j; failed = f }

abbrev pub fresh_builder : ℕ → ℕ → Builder
fresh_builder p l = state 0 0 p l 0 0 0 0 None

abbrev pub refused_st : Builder → ℕ → ℕ → Builder
refused_st s r c =
    state r c s.places s.slots s.atoms s.entries s.top s.joins s.failed

-- other counts: atoms, entries, the path's length, joins
abbrev pub counts_st : Builder → ℕ → ℕ → ℕ → ℕ → Builder
counts_st s a e t j =
    state s.refusal s.carried s.places s.slots a e t j s.failed

abbrev pub popped_st : Builder → ℕ → Builder
popped_st s n = counts_st s s.atoms s.entries (s.top - n) s.joins

-- one atom more on the path, and so many entries
abbrev pub entered_st : Builder → ℕ → Builder
entered_st s e = counts_st s (s.atoms + 1) e (s.top + 1) s.joins

-- one join more, and one entry
abbrev pub joined_st : Builder → Builder
joined_st s = counts_st s s.atoms (s.entries + 1) s.top (s.joins + 1)

-- one join more, and a failed one is remembered
abbrev pub broken_st : Builder → Option FailedJoin → Builder
broken_st s f =
    state s.refusal s.carried s.places s.slots s.atoms s.entries s.top (s.joins + 1) f

-- one join more, which failed; the first such is kept
unfoldable pub failed_st : Builder → ℕ → ℕ → Builder
failed_st s x y =
    pick (is_some s.failed) (broken_st s s.failed) (broken_st s (Some (failed_join x y)))

unfoldable pub refuse : Bld → ℕ → ℕ → Bld
refuse b r c = bld b.atoms b.entries b.path b.rings (refused_st b.st r c)

-- the current atom
unfoldable pub last_of : Bld → ℕ
last_of b = slice_index b.path (b.st.top - 1)

abbrev pub entry_list : ℕ → ℕ → ℕ → List ℕ
entry_list source k target = source ∷ k ∷ target ∷ []

unfoldable pub entered : Bld → AtomKind → ℕ → Bld
entered b k e =
    bld (sets b.atoms (b.st.atoms * atom_words) (list_of k)) b.entries (slice_set b.path b.st.top b.st.atoms) b.rings (entered_st b.st e)

-- root: a first atom of a component
unfoldable pub root_of : Bld → AtomKind → ℕ → Bld
root_of b k place =
    pick (nat_le b.st.places b.st.atoms) (refuse b atom_room place)
    (entered b k b.st.entries)

-- the two entries of a bond to a new atom: at the current one, and reversed at the new one
unfoldable pub bonded : Bld → BondKind → Bld
bonded b k =
    bld b.atoms
    (sets
    (sets b.entries (b.st.entries * entry_words) (entry_list (last_of b) (code_of k) b.st.atoms))
    ((b.st.entries + 1) * entry_words)
    (entry_list b.st.atoms (code_of (reverse_of k)) (last_of b)))
    b.path b.rings b.st

unfoldable pub extended_by : Bld → BondKind → Option AtomKind → Bld
extended_by b k None = refuse b inversion b.st.atoms
extended_by b k (Some t) = entered (bonded b k) t (b.st.entries + 2)

-- extend: a new atom, its mark turned, bonded to the current one
unfoldable pub extend_of : Bld → BondKind → AtomKind → ℕ → Bld
extend_of b k t place =
    pick (b.st.top == 0) (refuse b no_atom 0)
    (pick (nat_le b.st.places b.st.atoms) (refuse b atom_room place)
    (pick (nat_lt b.st.slots (b.st.entries + 2)) (refuse b bond_room place)
    (extended_by b k (invert_of t))))

-- a free ring number opens an entry in place
unfoldable pub opened_of : Bld → BondKind → ℕ → Bld
opened_of b k n =
    bld b.atoms
    (sets b.entries (b.st.entries * entry_words) (entry_list (last_of b) (code_of k) (unclosed + b.st.joins)))
    b.path (slice_set b.rings n (b.st.entries + 1)) (joined_st b.st)

-- where the entry that a number opened is, its atom and its kind
unfoldable pub opened_at : Bld → ℕ → ℕ
opened_at b n = (slice_index b.rings n - 1) * entry_words

unfoldable pub opening_of : Bld → ℕ → ℕ
opening_of b n = slice_index b.entries (opened_at b n)

unfoldable pub opening_kind : Bld → ℕ → BondKind
opening_kind b n = sure_kind (kind_of (slice_index b.entries (opened_at b n + 1)))

-- its second use fills that entry and adds one at the closing atom; kinds that do not agree are a failure
unfoldable pub closed_by : Bld → ℕ → ℕ → Option (BondKind × BondKind) → Bld
closed_by b n place None =
    bld b.atoms b.entries b.path (slice_set b.rings n 0) (failed_st b.st (last_of b) (opening_of b n))
closed_by b n place (Some (l, r)) =
    pick (nat_lt b.st.slots (b.st.entries + 1)) (refuse b bond_room place)
    (bld b.atoms
    (sets
    (sets b.entries (opened_at b n + 1) (code_of l ∷ last_of b ∷ []))
    (b.st.entries * entry_words)
    (entry_list (last_of b) (code_of r) (opening_of b n)))
    b.path (slice_set b.rings n 0) (joined_st b.st))

-- join: a ring number at the current atom
unfoldable pub join_of : Bld → BondKind → ℕ → ℕ → Bld
join_of b k n place =
    pick (b.st.top == 0) (refuse b no_atom 0)
    (pick (slice_index b.rings n == 0)
    (pick (nat_lt b.st.slots (b.st.entries + 1)) (refuse b bond_room place) (opened_of b k n))
    (closed_by b n place (reconcile_of (opening_kind b n) k)))

unfoldable pub pop_of : Bld → ℕ → Bld
pop_of b n = bld b.atoms b.entries b.path b.rings (popped_st b.st n)
