-- Steps of the proofs: no public claim rests on these definitions.
-- What the loops of the judge of pairs keep: the closed entries in chains, by the atom that each is from and by the one that
-- it is to, and counts along them. What pairs are, `is_paired` says.
use Rattle.std.specs.Prelude.{ℕ, zero, suc, ◌+◌, ◌*◌, ◌-◌, ◌%◌, ◌<◌, ◌≤◌, ◌≡◌, List, Bool, true, false, length, get_or, set, ltb, eqb, Option, MatchOption}
use Rattle.desk_state.specs.declared.chains.Chain.{Chain}
use Rattle.feature.specs.Every.{every}
use Rattle.feature.specs.Pick.{pick, neither, both}
use Rattle.feature.specs.Bonds.{code_of, kind_of, reverse_of}
use Rattle.feature.specs.declared.bond_kind.BondKind.{BondKind}
use Rattle.table.specs.Limits.{atom_limit, bond_limit}
use Rattle.builder.specs.State.{entry_words, unclosed}
use Rattle.desk_state.specs.Standing.{is_kind, source_at, entry_kind_at, target_at, bonds_counted, turned_of, is_own, is_paired}

-- ---- chains
-- a word of entry i
abbrev pub word_at : List ℕ → ℕ → ℕ → ℕ
word_at e column i = get_or e (i * entry_words + column) 0

-- entry i is closed, and its word in the column is a
abbrev pub is_of : List ℕ → ℕ → ℕ → ℕ → Bool
is_of e column a i = both (ltb (target_at e i) unclosed) (eqb (word_at e column i) a)

-- one more than the place of the last such entry among the first m, or 0
unfoldable pub last_at : List ℕ → ℕ → ℕ → ℕ → ℕ
last_at e column a zero = 0
last_at e column a (suc m) = pick (is_of e column a m) (suc m) (last_at e column a m)

-- no entry is followed by itself or by a later one
abbrev pub Descends : List ℕ → Type 0
Descends next = (i : ℕ) → get_or next i 0 ≤ i

-- of each atom its last entry, and of each entry the one before it
pub record Linked (e : List ℕ) (column m : ℕ) (head next : List ℕ) : Type 0 where
  pub heads : (a : ℕ) → a < length head → get_or head a 0 ≡ last_at e column a m
  pub nexts : (i : ℕ) → i < m → target_at e i < unclosed → get_or next i 0 ≡ last_at e column (word_at e column i) i
  pub descends : Descends next

-- what is to be linked: no entry yet, and room for all
pub record Loose (e : List ℕ) (column n : ℕ) (head next : List ℕ) : Type 0 where
  pub few : n ≤ bond_limit
  pub blank : (a : ℕ) → get_or head a 0 ≡ 0
  pub unlinked : (i : ℕ) → get_or next i 0 ≡ 0
  pub room : n ≤ length next
  pub keys : (i : ℕ) → i < n → target_at e i < unclosed → word_at e column i < length head

-- a walk along a chain: which entry comes next, and where the walk goes on
abbrev pub goes_along : Chain → Option ℕ → Chain → Type 0
goes_along s r t =
    MatchOption r (s.ahead ≡ 0) (λ i. (s.ahead ≡ i + 1) × (t.ahead ≡ get_or s.next.now i 0) × (t.next.now ≡ s.next.now))

-- entry i put into its chain
unfoldable pub head_with : List ℕ → ℕ → ℕ → List ℕ → List ℕ
head_with e column i head = pick (ltb (target_at e i) unclosed) (set head (word_at e column i) (i + 1)) head

unfoldable pub next_with : List ℕ → ℕ → ℕ → List ℕ → List ℕ → List ℕ
next_with e column i head next =
    pick (ltb (target_at e i) unclosed) (set next i (get_or head (word_at e column i) 0)) next

-- ---- counts
-- the numbers of the kinds are 1 to 8
abbrev pub bond_kind_count : ℕ
bond_kind_count = 8

-- where bonds to t, or from t, of a kind are counted
abbrev pub cell_of : ℕ → ℕ → ℕ
cell_of t k = t * bond_kind_count + k

-- so many counts have room for those of t
abbrev pub HasCount : ℕ → ℕ → Type 0
HasCount size t = (t < atom_limit) × (cell_of t bond_kind_count < size)

-- n entries whose kinds are bonds and whose atoms have counts
pub record Sound (e : List ℕ) (n size : ℕ) : Type 0 where
  pub few : n ≤ bond_limit
  pub kind : (i : ℕ) → i < n → (k : BondKind) × (entry_kind_at e i ≡ code_of k)
  pub ends : (i : ℕ) → i < n → target_at e i < unclosed → HasCount size (source_at e i) × HasCount size (target_at e i)

abbrev pub own_at : List ℕ → ℕ → Bool
own_at e i = is_own (source_at e i) (entry_kind_at e i) (target_at e i)

abbrev pub out_cell : List ℕ → ℕ → ℕ
out_cell e i = cell_of (target_at e i) (entry_kind_at e i)

abbrev pub back_cell : List ℕ → ℕ → ℕ
back_cell e i = cell_of (source_at e i) (turned_of (kind_of (entry_kind_at e i)))

-- one bond more; of bonds that are their own reverse only whether their number is odd is kept
unfoldable pub more_of : Bool → ℕ → ℕ
more_of own v = pick own (pick (eqb v 0) 1 0) (v + 1)

-- an entry from an atom counted, and one to it taken off, if it can be
unfoldable pub put_of : List ℕ → ℕ → List ℕ → List ℕ
put_of e i d = set d (out_cell e i) (more_of (own_at e i) (get_or d (out_cell e i) 0))

unfoldable pub can_take : List ℕ → ℕ → List ℕ → Bool
can_take e i d = pick (own_at e i) true (neither (eqb (get_or d (back_cell e i) 0) 0))

unfoldable pub take_of : List ℕ → ℕ → List ℕ → List ℕ
take_of e i d =
    pick (own_at e i) d
    (pick (eqb (get_or d (back_cell e i) 0) 0) d (set d (back_cell e i) (get_or d (back_cell e i) 0 - 1)))

-- the count of bonds to or from t of a kind
abbrev pub val_at : List ℕ → ℕ → BondKind → ℕ
val_at d t k = get_or d (cell_of t (code_of k)) 0

-- the entries from a counted, but for the first p
pub record CountedAfter (e : List ℕ) (n a p : ℕ) (d : List ℕ) : Type 0 where
  pub own : (t : ℕ) (k : BondKind) → HasCount (length d) t → is_own a (code_of k) t ≡ true → val_at d t k ≡ (bonds_counted e a (code_of k) t n + bonds_counted e a (code_of k) t p) % 2
  pub other : (t : ℕ) (k : BondKind) → HasCount (length d) t → is_own a (code_of k) t ≡ false → val_at d t k + bonds_counted e a (code_of k) t p ≡ bonds_counted e a (code_of k) t n

-- and those to a taken off, but for the first p
pub record Taken (e : List ℕ) (n a p : ℕ) (d : List ℕ) : Type 0 where
  pub own : (t : ℕ) (k : BondKind) → HasCount (length d) t → is_own a (code_of k) t ≡ true → val_at d t k ≡ bonds_counted e a (code_of k) t n % 2
  pub other : (t : ℕ) (k : BondKind) → HasCount (length d) t → is_own a (code_of k) t ≡ false → val_at d t k + bonds_counted e t (code_of (reverse_of k)) a n ≡ bonds_counted e a (code_of k) t n + bonds_counted e t (code_of (reverse_of k)) a p

-- nothing is counted
abbrev pub NoneCounted : List ℕ → Type 0
NoneCounted d = (t : ℕ) (k : BondKind) → HasCount (length d) t → val_at d t k ≡ 0

-- what is asked of the entries from a
pub record BondsMatch (e : List ℕ) (n a size : ℕ) : Type 0 where
  pub own : (t : ℕ) (k : BondKind) → HasCount size t → is_own a (code_of k) t ≡ true → bonds_counted e a (code_of k) t n % 2 ≡ 0
  pub other : (t : ℕ) (k : BondKind) → HasCount size t → is_own a (code_of k) t ≡ false → bonds_counted e a (code_of k) t n ≡ bonds_counted e t (code_of (reverse_of k)) a n

-- a judgement: where it is no, the entries are not paired; where it is yes, X holds
pub record Judged (r : Bool) (e : List ℕ) (n : ℕ) (X : Type 0) : Type 0 where
  pub bad : r ≡ false → every (is_paired e n) n ≡ false
  pub good : r ≡ true → X

-- entries between so many atoms, or open ones
pub record Between (e : List ℕ) (n atoms : ℕ) : Type 0 where
  pub few : n ≤ bond_limit
  pub most : atoms ≤ atom_limit
  pub kind : (i : ℕ) → i < n → is_kind (kind_of (entry_kind_at e i)) ≡ true
  pub source : (i : ℕ) → i < n → source_at e i < atoms
  pub target : (i : ℕ) → i < n → target_at e i < unclosed → target_at e i < atoms

-- counts for so many atoms, with nothing counted
pub record Blank (atoms : ℕ) (d : List ℕ) : Type 0 where
  pub room : atoms * bond_kind_count < length d
  pub none : NoneCounted d
