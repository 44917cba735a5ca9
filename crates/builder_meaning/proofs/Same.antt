-- When a builder's tables say the same as a sketch. Assumes nothing.
use Prim.Native.Nat.{ℕ, zero, suc, ◌+◌, ◌*◌, ◌<◌, ◌≤◌}
use mathlib.Core.Path.{◌≡◌}
use mathlib.Core.Logic.{◌≢◌}
use mathlib.Core.List.{List, [], ◌∷◌}
use mathlib.Core.Option.{Option, none, some}
use mathlib.Core.Bool.{Bool, true, false}
use lib.ListN.{length, get_or, take}
use Rattle.feature.specs.declared.atom_kind.AtomKind.{AtomKind}
use Rattle.feature.specs.declared.atom_kind.AtomKind.TheVariants.{Star}
use Rattle.feature.specs.declared.bond_kind.BondKind.{BondKind}
use Rattle.table.specs.Records.{atom_words}
use Rattle.packing.specs.Words.{words_of}
use Rattle.table.specs.Limits.{atom_limit, bond_limit, ring_number_count}
use Rattle.std.specs.Prelude as std
use Rattle.builder.specs.State.{Bld, entry_words, failed_join}
use Rattle.builder.specs.declared.builder.FailedJoin.{FailedJoin}
use Rattle.builder.specs.declared.builder.Builder.{Builder}
use Rattle.builder_meaning.specs.Sketch.{To, Open, Node, Held, Failure, None, Failed, Sketch, count_of, lookup}
use Rattle.builder_meaning.proofs.Rows.{Row, row, no_row, edges_of, flat, nodes_of}
use Rattle.builder_meaning.proofs.Twins.{Twins}

-- ---- atoms
-- a table begins with the words of some kinds, each with one more word that may be anything, and has zeros after them
pub record Atoms (ks : List AtomKind) (t : List ℕ) : Type 0 where
  pub first : (i : ℕ) → i < length ks → get_or t (i * atom_words) 0 ≡ (words_of (get_or ks i Star)).first
  pub second : (i : ℕ) → i < length ks → get_or t (i * atom_words + 1) 0 ≡ (words_of (get_or ks i Star)).second
  pub past : (i : ℕ) → length ks * atom_words ≤ i → get_or t i 0 ≡ 0

-- ---- entries
-- a table begins with the words of some entries, which make up the atoms' lists of them
pub record Entries (ks : List AtomKind) (rs : List Row) (t : List ℕ) (ns : List Node) : Type 0 where
  pub nodes : ns ≡ nodes_of ks (edges_of rs)
  pub count : count_of ns ≡ length rs
  pub words : take (length rs * entry_words) t ≡ flat rs
  pub sources : (p : ℕ) → p < length rs → (get_or rs p no_row).source < length ks
  pub ends : (p x : ℕ) → p < length rs → (get_or rs p no_row).target ≡ To x → x < length ks

-- ---- the path
-- the first n of some words, the last of them first
unfoldable pub lastly : ℕ → List ℕ → List ℕ
lastly zero ws = []
lastly (suc n) ws = get_or ws n 0 ∷ lastly n ws

-- the path is the first words, each of them one of n atoms
pub record Way (n top : ℕ) (ws path : List ℕ) : Type 0 where
  pub is : path ≡ lastly top ws
  pub below : (i : ℕ) → i < top → get_or ws i 0 < n
  pub short : top ≤ n

-- ---- ring numbers
-- a word is one more than the place of the entry that was opened
pub record At (rs : List Row) (w : ℕ) (h : Held) : Type 0 where
  pub place : ℕ
  pub kind : BondKind
  pub word : w ≡ suc place
  pub within : place < length rs
  pub is : get_or rs place no_row ≡ row h.atom kind (Open h.join)

-- and 0 where none is held
abbrev pub Ring : List Row → ℕ → Option Held → Type 0
Ring rs w none = w ≡ 0
Ring rs w (some h) = At rs w h

-- so for each number; no two have the same entry, and no two entries the same join, all of them below j
pub record Rings (rs : List Row) (ws : List ℕ) (hs : List Held) (j : ℕ) : Type 0 where
  pub each : (n : ℕ) → n < ring_number_count → Ring rs (get_or ws n 0) (lookup n hs)
  pub apart : (m n : ℕ) → m < ring_number_count → n < ring_number_count → get_or ws m 0 ≢ 0 → get_or ws m 0 ≡ get_or ws n 0 → m ≡ n
  pub once : (p q i : ℕ) → p < length rs → q < length rs → (get_or rs p no_row).target ≡ Open i → (get_or rs q no_row).target ≡ Open i → p ≡ q
  pub older : (p i : ℕ) → p < length rs → (get_or rs p no_row).target ≡ Open i → i < j

-- ---- the numbers
unfoldable pub has_failed : Failure → Bool
has_failed None = false
has_failed (Failed x y) = true

-- as a builder remembers it
unfoldable pub failure_in : Failure → std.Option FailedJoin
failure_in None = std.None
failure_in (Failed x y) = std.Some (failed_join x y)

-- with n atoms and m entries held
pub record Numbers (s : Builder) (d : Sketch) (n m : ℕ) : Type 0 where
  pub refusal : s.refusal ≡ d.refusal
  pub carried : s.carried ≡ d.carried
  pub places : s.places ≡ d.places
  pub slots : s.slots ≡ d.slots
  pub atoms : s.atoms ≡ n + d.unseen
  pub entries : s.entries ≡ m
  pub joins : s.joins ≡ d.joins
  pub failed : s.failed ≡ failure_in d.failure
  pub seen : has_failed d.failure ≡ false → d.unseen ≡ 0
  pub fits : n ≤ d.places
  pub holds : m ≤ d.slots

-- the lent tables have the room that is told of, which is within the limits
pub record Room (places slots : ℕ) (a e p r : List ℕ) : Type 0 where
  pub atoms : places * atom_words ≤ length a
  pub entries : slots * entry_words ≤ length e
  pub path : places ≤ length p
  pub rings : ring_number_count ≤ length r
  pub few : places ≤ atom_limit
  pub small : slots ≤ bond_limit

-- ---- all of it
pub record Same (b : Bld) (d : Sketch) : Type 0 where
  pub kinds : List AtomKind
  pub rows : List Row
  pub state : Numbers b.st d (length kinds) (length rows)
  pub atoms : Atoms kinds b.atoms
  pub entries : Entries kinds rows b.entries d.nodes
  pub way : Way (length kinds) b.st.top b.path d.path
  pub rings : Rings rows b.rings d.opens d.joins
  pub twins : Twins rows
  pub room : Room d.places d.slots b.atoms b.entries b.path b.rings
