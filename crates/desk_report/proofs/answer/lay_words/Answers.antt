-- As many words as there is room for, and what was lent after them.
use Rattle.desk_report.proofs.Laid.{laid_words}
use Rattle.desk_report.proofs.answer.lay_words.Goals as goal

pub returns : goal.returns
returns c = laid_words c.args.lent.now c.args.words.now _ _ c.min-n.ensures c.copy_from_slice.ensures.after
