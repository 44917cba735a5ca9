-- The desk's answers as numbers: for each case of an answer its number and the two values that it carries, 0 where it carries
-- fewer. A report is three words; those that find no room in a lent report are left out, and words after them are untouched.
use Rattle.std.specs.Prelude.{ℕ, List, [], ◌∷◌, get_or, Result}
use Rattle.std.proofs.lemmas.List.Edits.{sets}
use Rattle.feature.specs.declared.atom_kind.AtomKind.{AtomKind}
use Rattle.read_token.specs.declared.scanner.Missing.{Missing}
use Rattle.read.specs.Read.{Answer}
use Rattle.read.specs.Numbers as read
use Rattle.write.specs.declared.answer.WriteError.{WriteError}
use Rattle.write.specs.Numbers as write
use Rattle.builder.specs.declared.builder.Builder.{Builder}
use Rattle.writer.specs.declared.Writer.{Writer}
use Rattle.join_pool.specs.declared.Pool.{Pool}
use Rattle.desk_builder.specs.declared.calls.Refusal as builder
use Rattle.desk_builder.specs.Build.{BuildLeft, answer_leaves}
use Rattle.desk_writer.specs.declared.Refusal as writer
use Rattle.desk_writer.specs.Pieces as pieces
use Rattle.desk_pool.specs.declared.Refusal as pool
use Rattle.desk_pool.specs.Slots as slots
use Rattle.desk_atom.specs.declared.Refusal as atom
use Rattle.desk_atom.specs.Texts as texts
use Rattle.desk_numbers.specs.Numbers.{Told, bad_table}
use Rattle.desk_report.specs.declared.answer.Report.{Report}

abbrev pub report : ℕ → ℕ → ℕ → Report
report n a b = record { number = n; first = a; second = b }

-- a number with the values that it carries, in a row
abbrev pub carrying : ℕ → List ℕ → Report
carrying n c = report n (get_or c 0 0) (get_or c 1 0)

abbrev pub telling : Told → Report
telling t = carrying t.number t.values

-- of the read call; 0 carries the atoms and the bond entries
unfoldable pub of_read : Answer → Report
of_read a = telling (read.read_told a)

-- of the write call and the walk order; 0 carries the bytes written, or the atoms walked
unfoldable pub of_written : Result ℕ WriteError → Report
of_written w = telling (write.written_told w)

-- ---- the single calls
-- of words that stand for no state, no atom or no bond
abbrev pub bad : Report
bad = report bad_table 0 0

-- of a builder's event: its refusal, 0 where it was accepted
unfoldable pub of_event : Builder → Report
of_event b = report b.refusal b.carried 0

-- of a build; 0 carries the atoms and the bond entries
abbrev pub of_left : BuildLeft → Report
of_left l = carrying l.number l.carries

unfoldable pub of_built : Result (ℕ × ℕ) builder.Refusal → Report
of_built r = of_left (answer_leaves r [] [])

-- of a writer's event; 0 carries the length of the line
abbrev pub of_said : Result Writer writer.Refusal → Report
of_said s = telling (pieces.said_told s)

-- of the pool's call for the atoms a and b; 0 carries the ring number
abbrev pub of_handed : ℕ → ℕ → Result (Pool × ℕ) pool.Refusal → Report
of_handed a b h = telling (slots.handed_told a b h)

-- of reading one atom; 0 carries the place after it
abbrev pub of_begins : Result (AtomKind × ℕ) Missing → Report
of_begins b = telling (texts.begins_told b)

-- of a text; 0 carries the bytes written
abbrev pub of_spelt : Result ℕ atom.Refusal → Report
of_spelt s = telling (texts.spelt_told s)

-- the words of a report laid into what was lent for it
unfoldable pub laid_into : List ℕ → Report → List ℕ
laid_into lent r = sets lent 0 (r.number ∷ r.first ∷ r.second ∷ [])
