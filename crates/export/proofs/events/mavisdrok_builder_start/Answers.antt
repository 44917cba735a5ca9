-- Too few words, and the start.
use borrow.Author.Tests.{le-ltb, lt-ltb}
use Rattle.export.specs.Events.{start_x, builder_begun, builder_unheard}
use Rattle.export.proofs.events.mavisdrok_builder_start.Goals as goal

pub returns-then-state-lt-BUILDER_WORDS : goal.returns-then-state-lt-BUILDER_WORDS
unfolding start_x builder_begun builder_unheard
returns-then-state-lt-BUILDER_WORDS c = simp (lt-ltb _ _ c.if-state-lt-BUILDER_WORDS.true, ← c.refuse.ensures)

pub returns : goal.returns
unfolding start_x builder_begun builder_unheard
returns c = simp (le-ltb _ _ c.if-state-lt-BUILDER_WORDS.false, ← c.start.ensures, ← c.keep_builder.ensures.state_after, ← c.keep_builder.ensures.report_after)
