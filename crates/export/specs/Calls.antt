-- The read call, the write call and the walk order for other languages: what each leaves in all that is lent, the report of its
-- answer last.
use Rattle.std.specs.Prelude.{ℕ, List}
use Rattle.read.specs.Read.{Said}
use Rattle.read.specs.Line.{read_text}
use Rattle.write.specs.Write as write
use Rattle.write.specs.Order as order
use Rattle.write.specs.Plain.{write_plain, order_plain}
use Rattle.desk_report.specs.Report.{of_read, of_written, laid_into}

-- ---- the read call
pub record ReadCells : Type 0 where
  pub atoms : List ℕ
  pub bonds : List ℕ
  pub report : List ℕ

abbrev pub read_cells : List ℕ → List ℕ → List ℕ → ReadCells
read_cells a b t = record { atoms = a; bonds = b; report = t }

-- what a read leaves, where t was lent for the report
abbrev pub read_by : List ℕ → Said → ReadCells
read_by t s = read_cells s.atoms s.bonds (laid_into t (of_read s.answer))

-- a text read into tables of la and lb words
unfoldable pub read_x : List ℕ → ℕ → ℕ → List ℕ → ReadCells
read_x s la lb t = read_by t (read_text s la lb)

-- ---- the write call
pub record WriteCells : Type 0 where
  pub out : List ℕ
  pub report : List ℕ

abbrev pub write_cells : List ℕ → List ℕ → WriteCells
write_cells o t = record { out = o; report = t }

abbrev pub written_by : List ℕ → write.WriteLeft → WriteCells
written_by t l = write_cells l.out (laid_into t (of_written l.answer))

-- a graph of n atoms and m entries written into an output of so many bytes
unfoldable pub write_x : ℕ → List ℕ → ℕ → List ℕ → ℕ → List ℕ → WriteCells
write_x room atoms n bonds m t = written_by t (write_plain room atoms n bonds m)

-- ---- the walk order
pub record OrderCells : Type 0 where
  pub walked : List ℕ
  pub number : List ℕ
  pub back : List ℕ
  pub report : List ℕ

abbrev pub order_cells : List ℕ → List ℕ → List ℕ → List ℕ → OrderCells
order_cells w n b t = record { walked = w; number = n; back = b; report = t }

abbrev pub ordered_by : List ℕ → order.Order → OrderCells
ordered_by t o = order_cells o.walked o.number o.back (laid_into t (of_written o.answer))

-- the order of such a graph in tables of so many words
unfoldable pub order_x : ℕ → ℕ → ℕ → List ℕ → ℕ → List ℕ → ℕ → List ℕ → OrderCells
order_x walked number back atoms n bonds m t = ordered_by t (order_plain walked number back atoms n bonds m)
