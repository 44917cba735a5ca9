use borrow.Author.Rules.{rules}
use Rattle.read_line.proofs.Turn.{line_refused, first_ready, line_whole}
use Rattle.read_line.proofs.line.read_line.Goals as goal

pub line_atom-first-requires : goal.line_atom-first-requires
line_atom-first-requires c = (c.requires, search rules)

pub returns-then-f-ne0 : goal.returns-then-f-ne0
returns-then-f-ne0 c = line_refused _ _ _ _ _ _ _ _ (c.line_atom-first.ensures c.args.rings.now) c.if-f-ne0.true

pub line_rest-requires : goal.line_rest-requires
line_rest-requires c = (first_ready _ _ _ 0 _ _ _ _ (c.line_atom-first.ensures c.args.rings.now) c.if-f-ne0.false c.requires.short, (c.line_atom-first.ensures c.args.rings.now).count)

pub returns : goal.returns
returns c = line_whole _ _ _ _ _ _ _ _ (c.line_atom-first.ensures c.args.rings.now) c.if-f-ne0.false _ _ _ c.line_rest.ensures
