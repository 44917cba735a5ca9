use Rattle.oracle_form.proofs.Laid.{laid_word}
use Rattle.oracle_form.proofs.output.Output.put_all.Goals as goal

pub returns-clause-laid : goal.returns-clause-laid
returns-clause-laid c =
    laid_word _ _ _ _ _ _ c.args.self.now.inside c.min-n.ensures c.copy_from_slice.ensures.after
