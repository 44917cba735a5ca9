-- The writer's events for other languages: words that stand for no state, no atom or no bond are answered 17, carrying 0; else
-- the answer is the event's. An accepted event lays its new state into the state's words; a refused one changes nothing but
-- the report.
use Rattle.std.specs.Prelude.{ℕ, List, Bool, true, ltb}
use Rattle.std.proofs.lemmas.List.Edits.{sets}
use Rattle.feature.specs.Kinds.{in_range}
use Rattle.feature.specs.Bonds.{kind_of}
use Rattle.packing.specs.Words.{load_of}
use Rattle.table.specs.Limits.{ring_number_count}
use Rattle.writer.specs.Line.{Event}
use Rattle.writer.specs.Tables.{spoken}
use Rattle.desk_writer.specs.Pieces.{EventLeft, event_d}
use Rattle.export.specs.Given.{on_atom, on_bond}
use Rattle.desk_report.specs.Report.{bad, telling, laid_into}
use Rattle.desk_report.specs.State.{on_state, writer_in}

-- every cell that is lent to an event
pub record WriterCells : Type 0 where
  pub out : List ℕ
  pub starts : List ℕ
  pub state : List ℕ
  pub report : List ℕ

abbrev pub cells_of_writer : List ℕ → List ℕ → List ℕ → List ℕ → WriterCells
cells_of_writer o b s t = record { out = o; starts = b; state = s; report = t }

-- what an event leaves
unfoldable pub writer_after : WriterCells → EventLeft → WriterCells
writer_after c l = cells_of_writer l.out l.starts (sets c.state 0 l.state) (laid_into c.report (telling l.told))

-- 17, and nothing else changed
unfoldable pub writer_unheard : WriterCells → WriterCells
writer_unheard c = cells_of_writer c.out c.starts c.state (laid_into c.report bad)

-- an event on the state that is handed in, where the numbers of what it says stand for something
unfoldable pub writer_event : WriterCells → Bool → Event → WriterCells
writer_event c ok e = on_state (writer_in c.state) (writer_unheard c) (λ w. writer_after c (event_d ok (spoken w c.out c.starts) e))

unfoldable pub writer_root_x : WriterCells → ℕ → ℕ → WriterCells
writer_root_x c first second = on_atom (load_of first second) (writer_unheard c) (λ k. writer_event c (in_range k) (Event.Root k))

unfoldable pub writer_extend_x : WriterCells → ℕ → ℕ → ℕ → WriterCells
writer_extend_x c bond first second =
    on_atom (load_of first second) (writer_unheard c) (λ k. on_bond (kind_of bond) (writer_unheard c) (λ b. writer_event c (in_range k) (Event.Extend b k)))

unfoldable pub writer_join_x : WriterCells → ℕ → ℕ → WriterCells
writer_join_x c bond number =
    on_bond (kind_of bond) (writer_unheard c) (λ b. writer_event c (ltb number ring_number_count) (Event.Join b number))

unfoldable pub writer_pop_x : WriterCells → ℕ → WriterCells
writer_pop_x c n = writer_event c true (Event.Pop n)
