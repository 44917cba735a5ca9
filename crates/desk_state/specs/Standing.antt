-- Which numbers stand for a builder's state. Room for atoms and for entries is the lesser of the limit and what was lent, and
-- the counts are within it. Each record is an atom. Each entry is a bond between atoms, or one whose join is open. Each bond is
-- held at both ends as reverses; so one from an atom to itself is two entries. The joins of open entries rise, so that no two
-- are the same. The path goes over atoms. Each open ring number leads to an entry of its own whose join is open. There are no
-- more joins than the entries tell of. A failure that is remembered names atoms.
use Rattle.std.specs.Prelude.{ℕ, zero, suc, ◌+◌, ◌*◌, ◌-◌, ◌/◌, ◌%◌, List, Bool, true, false, length, get_or, ltb, leb, eqb, Option, None, Some}
use Rattle.feature.specs.Every.{every}
use Rattle.feature.specs.Pick.{pick, neither, both}
use Rattle.feature.specs.Bonds.{code_of, kind_of, reverse_of}
use Rattle.feature.specs.declared.bond_kind.BondKind.{BondKind}
use Rattle.packing.specs.Words.{is_atom}
use Rattle.table.specs.Limits.{bond_limit, lesser_of, ring_number_count, places_in}
use Rattle.builder.specs.State.{Bld, entry_words, unclosed}
use Rattle.builder.specs.declared.builder.Builder.{Builder}
use Rattle.builder.specs.declared.builder.FailedJoin.{FailedJoin}

unfoldable pub is_kind : Option BondKind → Bool
is_kind (Some k) = true
is_kind None = false

-- the words of entry i
abbrev pub source_at : List ℕ → ℕ → ℕ
source_at e i = get_or e (i * entry_words) 0

abbrev pub entry_kind_at : List ℕ → ℕ → ℕ
entry_kind_at e i = get_or e (i * entry_words + 1) 0

abbrev pub target_at : List ℕ → ℕ → ℕ
target_at e i = get_or e (i * entry_words + 2) 0

-- an atom, or a join that is open
unfoldable pub is_target : Builder → ℕ → Bool
is_target s t = pick (ltb t unclosed) (ltb t s.atoms) (ltb (t - unclosed) s.joins)

unfoldable pub is_builder_entry : Builder → List ℕ → ℕ → Bool
is_builder_entry s e i =
    both (ltb (source_at e i) s.atoms)
    (both (is_kind (kind_of (entry_kind_at e i)))
    (is_target s (target_at e i)))

-- entry i goes from a to t and its kind is k, all as numbers
unfoldable pub is_entry_to : List ℕ → ℕ → ℕ → ℕ → ℕ → Bool
is_entry_to e a k t i =
    both (eqb (source_at e i) a)
    (both (eqb (entry_kind_at e i) k)
    (eqb (target_at e i) t))

-- how many of the first m do
unfoldable pub bonds_counted : List ℕ → ℕ → ℕ → ℕ → ℕ → ℕ
bonds_counted e a k t zero = 0
bonds_counted e a k t (suc m) = bonds_counted e a k t m + pick (is_entry_to e a k t m) 1 0

-- the number of a kind from the other end
unfoldable pub turned_of : Option BondKind → ℕ
turned_of (Some k) = code_of (reverse_of k)
turned_of None = 0

-- a bond of a kind from s to t is its own reverse
unfoldable pub is_own : ℕ → ℕ → ℕ → Bool
is_own s k t = both (eqb s t) (eqb k (turned_of (kind_of k)))

-- as many here as there; where both are the same atom, an even number
unfoldable pub is_matched : Bool → ℕ → ℕ → Bool
is_matched own here there = both (eqb here there) (pick own (eqb (here % 2) 0) true)

-- among the first m entries there are as many bonds like entry i as there are reverses of it at its other end; a bond that
-- is its own reverse, from an atom to itself, is held twice
unfoldable pub is_paired : List ℕ → ℕ → ℕ → Bool
is_paired e m i =
    pick (leb unclosed (target_at e i)) true
    (is_matched (is_own (source_at e i) (entry_kind_at e i) (target_at e i))
    (bonds_counted e (source_at e i) (entry_kind_at e i) (target_at e i) m)
    (bonds_counted e (target_at e i) (turned_of (kind_of (entry_kind_at e i))) (source_at e i) m))

-- the least target that the next open entry after the first m may have: one more than that of the last open one
unfoldable pub least_open : List ℕ → ℕ → ℕ
least_open e zero = unclosed
least_open e (suc m) = pick (leb unclosed (target_at e m)) (target_at e m + 1) (least_open e m)

-- an open entry's join is later than those of the open ones before it
unfoldable pub is_later : List ℕ → ℕ → Bool
is_later e i = pick (leb unclosed (target_at e i)) (leb (least_open e i) (target_at e i)) true

unfoldable pub is_step : Builder → List ℕ → ℕ → Bool
is_step s p i = ltb (get_or p i 0) s.atoms

-- two ring numbers lead to different entries
unfoldable pub is_apart : List ℕ → ℕ → ℕ → Bool
is_apart r n i = neither (eqb (get_or r i 0) (get_or r n 0))

-- a ring number is free, or one more than the place of an entry whose join is open and to which no ring number before it leads
unfoldable pub is_ring : Builder → List ℕ → List ℕ → ℕ → Bool
is_ring s e r n =
    pick (eqb (get_or r n 0) 0) true
    (both (leb (get_or r n 0) s.entries)
    (both (leb unclosed (target_at e (get_or r n 0 - 1)))
    (every (is_apart r n) n)))

-- how many of the first n ring numbers are open
unfoldable pub open_rings : List ℕ → ℕ → ℕ
open_rings r zero = 0
open_rings r (suc n) = open_rings r n + pick (eqb (get_or r n 0) 0) 0 1

-- a join opens an entry, or closes what one opened: the joins, and one to come for each open ring number,
-- are at most two for each entry
unfoldable pub joins_stand : Builder → List ℕ → Bool
joins_stand s r = leb (s.joins + open_rings r ring_number_count) (s.entries * 2)

-- how many entries in the making there is a slot for in a table of so many words
abbrev pub entry_slots_in : ℕ → ℕ
entry_slots_in le = lesser_of bond_limit (le / entry_words)

-- the rooms and the counts, for tables of so many words: atoms, entries, path and ring numbers
unfoldable pub counts_stand : Builder → ℕ → ℕ → ℕ → ℕ → Bool
counts_stand s la le lp lr =
    both (eqb s.places (places_in la))
    (both (eqb s.slots (entry_slots_in le))
    (both (leb s.places lp)
    (both (leb ring_number_count lr)
    (both (leb s.atoms s.places)
    (both (leb s.entries s.slots)
    (leb s.top s.atoms))))))

-- a failure that is remembered names atoms below n
abbrev pub failure_below : ℕ → Option FailedJoin → Bool
failure_below n None = true
failure_below n (Some f) = both (ltb f.closing n) (ltb f.opening n)

-- the failure that is remembered, if any
unfoldable pub failure_stands : Builder → Bool
failure_stands s = failure_below s.atoms s.failed

unfoldable pub is_state : Bld → Bool
is_state b =
    both (counts_stand b.st (length b.atoms) (length b.entries) (length b.path) (length b.rings))
    (both (every (is_atom b.atoms) b.st.atoms)
    (both (every (is_builder_entry b.st b.entries) b.st.entries)
    (both (every (is_paired b.entries b.st.entries) b.st.entries)
    (both (every (is_later b.entries) b.st.entries)
    (both (every (is_step b.st b.path) b.st.top)
    (both (every (is_ring b.st b.entries b.rings) ring_number_count)
    (both (joins_stand b.st b.rings)
    (failure_stands b.st))))))))
