-- What a line in the making is lent, seen as the record of it.
use Rattle.std.specs.Prelude.{◌≡◌, Result, Ok, Err}
use Rattle.writer.specs.declared.Writer.{Writer}
use Rattle.writer.specs.declared.Line.{Line}
use Rattle.writer.specs.Tables.{Spoken, spoken}

abbrev pub spoken_in : Line → Spoken
spoken_in l = spoken l.at l.out.now l.starts.now

-- each is the one that was lent
pub record SameLine (l m : Line) : Type 0 where
  pub out : m.out.ghost_name ≡ l.out.ghost_name
  pub starts : m.starts.ghost_name ≡ l.starts.ghost_name

-- what a writer knows after an event: a refused one changes nothing
unfoldable pub at_after : {E : Type 0} → Writer → Result Writer E → Writer
at_after w (Ok v) = v
at_after w (Err why) = w
