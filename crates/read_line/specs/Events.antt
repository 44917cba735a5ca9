-- What a reader says to a builder, and what becomes of it. After a first failed join the reading goes on for 1, 2, 10 and 15
-- only: atoms are counted and their marks judged, and nothing is stored.
use Rattle.std.specs.Prelude.{ℕ, ◌+◌, List, [], ◌∷◌, Bool, true, false, eqb, is_some}
use Rattle.feature.specs.Pick.{pick}
use Rattle.feature.specs.Kinds.{invert_of}
use Rattle.feature.specs.declared.atom_kind.AtomKind.{AtomKind}
use Rattle.std.specs.Prelude.{None, Option, Some}
use Rattle.feature.specs.declared.bond_kind.BondKind.{BondKind}
use Rattle.desk_numbers.specs.Numbers.{inversion, end_of_line, character, nesting}
use Rattle.read_token.specs.declared.scanner.Missing.{Missing}
use Rattle.read_token.specs.declared.scanner.Missing.TheVariants.{EndOfLine, Character}
use Rattle.builder.specs.declared.builder.Builder.{Builder}
use Rattle.builder.specs.State.{Bld, bld, counts_st, refused_st, root_of, extend_of, join_of, pop_of}
use Rattle.read_line.specs.declared.lead.Lead.{Lead}
use Rattle.read_line.specs.declared.lead.Lead.TheVariants.{Dot, Bond}

-- an atom with what leads it in, at the place of its first byte; a ring number, at its first byte; so many atoms off the
-- path; something missing; a branch too many
pub data ReadEvent : Type 0 where
  Enter : Lead → AtomKind → ℕ → ReadEvent
  Join : BondKind → ℕ → ℕ → ReadEvent
  Pop : ℕ → ReadEvent
  Miss : Missing → ReadEvent
  Nest : ℕ → ReadEvent

abbrev pub on : Bld → Builder → Bld
on b s = bld b.atoms b.entries b.path b.rings s

-- one atom more, not stored
abbrev pub counted_st : Builder → Builder
counted_st s = counts_st s (s.atoms + 1) s.entries s.top s.joins

unfoldable pub mark_judged : Builder → Option AtomKind → Builder
mark_judged s None = refused_st s inversion s.atoms
mark_judged s (Some k) = counted_st s

unfoldable pub unstored_of : Builder → Lead → AtomKind → Builder
unstored_of s Dot k = counted_st s
unstored_of s (Bond e) k = mark_judged s (invert_of k)

unfoldable pub led_of : Bld → Lead → AtomKind → ℕ → Bld
led_of b Dot k place = root_of b k place
led_of b (Bond e) k place = extend_of b e k place

unfoldable pub enter_of : Bld → Lead → AtomKind → ℕ → Bld
enter_of b l k place = pick (is_some b.st.failed) (on b (unstored_of b.st l k)) (led_of b l k place)

unfoldable pub ring_of : Bld → BondKind → ℕ → ℕ → Bld
ring_of b k n place = pick (is_some b.st.failed) b (join_of b k n place)

unfoldable pub missing_st : Builder → Missing → Builder
missing_st s EndOfLine = refused_st s end_of_line 0
missing_st s (Character p) = refused_st s character p

unfoldable pub step : Bld → ReadEvent → Bld
step b (Enter l k place) = enter_of b l k place
step b (Join k n place) = ring_of b k n place
step b (Pop n) = pop_of b n
step b (Miss m) = on b (missing_st b.st m)
step b (Nest place) = on b (refused_st b.st nesting place)

-- the events in order, up to the first refusal
unfoldable pub run : Bld → List ReadEvent → Bld
run b [] = b
run b (e ∷ es) = pick (eqb b.st.refusal 0) (run (step b e) es) b

-- whether a branch too many is among the events
unfoldable pub has_nest : List ReadEvent → Bool
has_nest [] = false
has_nest (Enter l k p ∷ es) = has_nest es
has_nest (Join b n p ∷ es) = has_nest es
has_nest (Pop n ∷ es) = has_nest es
has_nest (Miss m ∷ es) = has_nest es
has_nest (Nest p ∷ es) = true
