use Rattle.read_line.proofs.Turn.{led_ready, unit_split, unit_union}
use Rattle.read_line.proofs.line.line_unit.Goals as goal

pub line_atom-requires : goal.line_atom-requires
line_atom-requires c = led_ready _ _ _ c.read_lead-l.ensures _ _ c.requires.0 c.requires.1

pub line_union-requires : goal.line_union-requires
line_union-requires c = led_ready _ _ _ c.read_lead-l.ensures _ _ c.requires.0 c.requires.1

pub returns-in-Dot : goal.returns-in-Dot
returns-in-Dot c =
    unit_split _ _ _ c.read_lead-l.ensures _ _ _ _ _ c.requires.0.within c.in-Dot.is (c.line_atom.ensures _)

pub returns-in-Bond : goal.returns-in-Bond
returns-in-Bond c =
    unit_union _ _ _ c.read_lead-l.ensures _ _ _ _ _ c.requires.0.within _ c.in-Bond.is c.line_union.ensures
