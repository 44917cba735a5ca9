-- The builder's start, its events and its build for other languages: words that stand for no state, no atom or no bond are
-- answered 17, carrying 0; else the answer is the event's. An accepted event lays its new state into the state's words; a
-- refused one changes nothing but the report. A refused build leaves zeros in both tables.
use Rattle.std.specs.Prelude.{ℕ, List, length, ltb}
use Rattle.feature.specs.Pick.{pick}
use Rattle.feature.specs.Bonds.{kind_of}
use Rattle.packing.specs.Words.{load_of}
use Rattle.builder.specs.State.{Bld, bld}
use Rattle.builder.specs.declared.builder.Builder.{Builder}
use Rattle.table.specs.Zeros.{zeroed}
use Rattle.desk_builder.specs.Events.{start_d, root_d, extend_d, join_d, pop_d}
use Rattle.desk_builder.specs.Build.{BuildLeft, build_d}
use Rattle.export.specs.Given.{on_atom, on_bond}
use Rattle.desk_report.specs.Report.{bad, of_event, of_left, laid_into}
use Rattle.desk_report.specs.State.{on_state, builder_size, builder_in, builder_kept, event_kept}

-- every cell that is lent to an event
pub record BuilderCells : Type 0 where
  pub atoms : List ℕ
  pub entries : List ℕ
  pub path : List ℕ
  pub rings : List ℕ
  pub state : List ℕ
  pub report : List ℕ

abbrev pub cells_of_builder : List ℕ → List ℕ → List ℕ → List ℕ → List ℕ → List ℕ → BuilderCells
cells_of_builder a e p r s t = record { atoms = a; entries = e; path = p; rings = r; state = s; report = t }

-- the builder of a state over the tables
abbrev pub over : BuilderCells → Builder → Bld
over c s = bld c.atoms c.entries c.path c.rings s

-- what an event leaves
unfoldable pub builder_after : BuilderCells → Bld → BuilderCells
builder_after c b =
    cells_of_builder b.atoms b.entries b.path b.rings (event_kept c.state b.st) (laid_into c.report (of_event b.st))

-- the same of a start
unfoldable pub builder_begun : BuilderCells → Bld → BuilderCells
builder_begun c b =
    cells_of_builder b.atoms b.entries b.path b.rings (builder_kept c.state b.st) (laid_into c.report (of_event b.st))

-- 17, and nothing else changed
unfoldable pub builder_unheard : BuilderCells → BuilderCells
builder_unheard c = cells_of_builder c.atoms c.entries c.path c.rings c.state (laid_into c.report bad)

-- the start over these tables; 17 where its state finds no room
unfoldable pub start_x : BuilderCells → BuilderCells
start_x c =
    pick (ltb (length c.state) builder_size) (builder_unheard c)
    (builder_begun c (start_d c.atoms c.entries c.path c.rings))

-- an event on the state that is handed in
unfoldable pub builder_event : BuilderCells → (Bld → Bld) → BuilderCells
builder_event c f = on_state (builder_in c.state) (builder_unheard c) (λ s. builder_after c (f (over c s)))

unfoldable pub builder_root_x : BuilderCells → ℕ → ℕ → BuilderCells
builder_root_x c first second = on_atom (load_of first second) (builder_unheard c) (λ k. builder_event c (λ b. root_d b k))

unfoldable pub builder_extend_x : BuilderCells → ℕ → ℕ → ℕ → BuilderCells
builder_extend_x c bond first second =
    on_atom (load_of first second) (builder_unheard c) (λ k. on_bond (kind_of bond) (builder_unheard c) (λ e. builder_event c (λ b. extend_d b e k)))

unfoldable pub builder_join_x : BuilderCells → ℕ → ℕ → BuilderCells
builder_join_x c bond number = on_bond (kind_of bond) (builder_unheard c) (λ e. builder_event c (λ b. join_d b e number))

unfoldable pub builder_pop_x : BuilderCells → ℕ → BuilderCells
builder_pop_x c n = builder_event c (λ b. pop_d b n)

-- ---- the build
pub record Made : Type 0 where
  pub atoms : List ℕ
  pub bonds : List ℕ
  pub report : List ℕ

abbrev pub made : List ℕ → List ℕ → List ℕ → Made
made a b t = record { atoms = a; bonds = b; report = t }

-- what a build leaves, and its report
unfoldable pub build_reported : List ℕ → BuildLeft → Made
build_reported t l = made l.atoms l.bonds (laid_into t (of_left l))

unfoldable pub build_x : BuilderCells → List ℕ → Made
build_x c bonds =
    on_state (builder_in c.state) (made (zeroed c.atoms) (zeroed bonds) (laid_into c.report bad))
    (λ s. build_reported c.report (build_d (over c s) bonds))
