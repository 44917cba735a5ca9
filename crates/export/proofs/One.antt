-- Two results that meet the promise of an exported call are equal, to the last cell of all that is lent: one law, and a line for
-- each call. Assumes nothing.
use Prim.Native.Nat.{ℕ}
use mathlib.Core.Path.{◌≡◌}
use mathlib.Core.List.{List}
use Rattle.desk_numbers.proofs.One.{one_equal}
use Rattle.desk_atom.specs.Texts.{rnum_d}
use Rattle.export.specs.Calls.{read_x, write_x, order_x}
use Rattle.export.specs.Atom as atom
use Rattle.export.specs.Events as events
use Rattle.export.specs.Lines as lines
use Rattle.export.specs.Rings as rings

-- two results that equal this are one
abbrev pub One : {A : Type 0} → A → Type 0
One {A} claim = (x y : A) → x ≡ claim → y ≡ claim → x ≡ y

-- ---- reading and writing
pub one_read : (s : List ℕ) (la lb : ℕ) (t : List ℕ) → One (read_x s la lb t)
one_read s la lb t = one_equal (read_x s la lb t)

pub one_write : (room : ℕ) (atoms : List ℕ) (n : ℕ) (bonds : List ℕ) (m : ℕ) (t : List ℕ) → One (write_x room atoms n bonds m t)
one_write room atoms n bonds m t = one_equal (write_x room atoms n bonds m t)

pub one_order : (lw ln lb : ℕ) (atoms : List ℕ) (n : ℕ) (bonds : List ℕ) (m : ℕ) (t : List ℕ) → One (order_x lw ln lb atoms n bonds m t)
one_order lw ln lb atoms n bonds m t = one_equal (order_x lw ln lb atoms n bonds m t)

-- ---- the builder
pub one_builder_start : (c : events.BuilderCells) → One (events.start_x c)
one_builder_start c = one_equal (events.start_x c)

pub one_builder_root : (c : events.BuilderCells) (first second : ℕ) → One (events.builder_root_x c first second)
one_builder_root c first second = one_equal (events.builder_root_x c first second)

pub one_builder_extend : (c : events.BuilderCells) (bond first second : ℕ) → One (events.builder_extend_x c bond first second)
one_builder_extend c bond first second = one_equal (events.builder_extend_x c bond first second)

pub one_builder_join : (c : events.BuilderCells) (bond number : ℕ) → One (events.builder_join_x c bond number)
one_builder_join c bond number = one_equal (events.builder_join_x c bond number)

pub one_builder_pop : (c : events.BuilderCells) (n : ℕ) → One (events.builder_pop_x c n)
one_builder_pop c n = one_equal (events.builder_pop_x c n)

pub one_builder_build : (c : events.BuilderCells) (bonds : List ℕ) → One (events.build_x c bonds)
one_builder_build c bonds = one_equal (events.build_x c bonds)

-- ---- the writer
pub one_writer_root : (c : lines.WriterCells) (first second : ℕ) → One (lines.writer_root_x c first second)
one_writer_root c first second = one_equal (lines.writer_root_x c first second)

pub one_writer_extend : (c : lines.WriterCells) (bond first second : ℕ) → One (lines.writer_extend_x c bond first second)
one_writer_extend c bond first second = one_equal (lines.writer_extend_x c bond first second)

pub one_writer_join : (c : lines.WriterCells) (bond number : ℕ) → One (lines.writer_join_x c bond number)
one_writer_join c bond number = one_equal (lines.writer_join_x c bond number)

pub one_writer_pop : (c : lines.WriterCells) (n : ℕ) → One (lines.writer_pop_x c n)
one_writer_pop c n = one_equal (lines.writer_pop_x c n)

-- ---- the pool
pub one_pool_hit : (c : rings.PoolCells) (a b : ℕ) → One (rings.hit_x c a b)
one_pool_hit c a b = one_equal (rings.hit_x c a b)

-- ---- one atom, bond or ring number
pub one_read_atom : (c : atom.Reading) (text : List ℕ) → One (atom.read_atom_x c text)
one_read_atom c text = one_equal (atom.read_atom_x c text)

pub one_spell_atom : (c : atom.Spelling) (first second : ℕ) → One (atom.atom_x c first second)
one_spell_atom c first second = one_equal (atom.atom_x c first second)

pub one_spell_bond : (c : atom.Spelling) (bond : ℕ) → One (atom.bond_x c bond)
one_spell_bond c bond = one_equal (atom.bond_x c bond)

pub one_spell_rnum : (t : List ℕ) (number size : ℕ) → One (atom.text_reported t (rnum_d number size))
one_spell_rnum t number size = one_equal (atom.text_reported t (rnum_d number size))
