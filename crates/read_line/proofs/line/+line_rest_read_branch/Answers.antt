use mathlib.Core.Path.{refl, sym, ◌∙◌}
use native.Mathlib.Omega.{arith}
use borrow.Author.Rules.{rules}
use Rattle.read_line.proofs.Turn.{seen, branch_in, from, branch_ready, branch_deep, branch_refused, branch_closed, line_refused, first_ready, line_whole, line_alone, rest_first, rest_end, body_open, after_branch, stuck_branch, after_unit, stuck_unit}
use Rattle.read_line.proofs.line.+line_rest_read_branch.Goals as goal

pub line_rest-loop-atoms-init : goal.line_rest-loop-atoms-init
line_rest-loop-atoms-init t c = (rest_first _ _ _ _ _ c.requires.0 c.requires.1, refl, refl, refl, refl)

pub line_rest-shape_of-atoms-in-Ends : goal.line_rest-shape_of-atoms-in-Ends
line_rest-shape_of-atoms-in-Ends t c = c.loop-atoms.invariant.1

pub line_rest-shape_of-entries-in-Ends : goal.line_rest-shape_of-entries-in-Ends
line_rest-shape_of-entries-in-Ends t c = c.loop-atoms.invariant.2

pub line_rest-shape_of-path-in-Ends : goal.line_rest-shape_of-path-in-Ends
line_rest-shape_of-path-in-Ends t c = c.loop-atoms.invariant.3

pub line_rest-shape_of-rings-in-Ends : goal.line_rest-shape_of-rings-in-Ends
line_rest-shape_of-rings-in-Ends t c = c.loop-atoms.invariant.4

pub line_rest-returns-in-Ends : goal.line_rest-returns-in-Ends
line_rest-returns-in-Ends t c = rest_end _ _ _ _ _ c.requires.0 _ _ _ c.loop-atoms.invariant.0 _ c.body_at-what.ensures c.in-Ends.is

pub line_rest-read_branch-r-requires : goal.line_rest-read_branch-r-requires
line_rest-read_branch-r-requires t c = (omega (arith, c.loop-atoms.invariant.0.past, c.loop-atoms.invariant.0.ready.within), (c.loop-atoms.invariant.0.ready, body_open _ _ (sym c.body_at-what.ensures ∙ c.in-Branch.is)))

pub line_rest-shape_of-atoms-then-s-ne0 : goal.line_rest-shape_of-atoms-then-s-ne0
line_rest-shape_of-atoms-then-s-ne0 t c = c.read_branch-r.auto.atoms ∙ c.loop-atoms.invariant.1

pub line_rest-shape_of-entries-then-s-ne0 : goal.line_rest-shape_of-entries-then-s-ne0
line_rest-shape_of-entries-then-s-ne0 t c = c.read_branch-r.auto.entries ∙ c.loop-atoms.invariant.2

pub line_rest-shape_of-path-then-s-ne0 : goal.line_rest-shape_of-path-then-s-ne0
line_rest-shape_of-path-then-s-ne0 t c = c.read_branch-r.auto.path ∙ c.loop-atoms.invariant.3

pub line_rest-shape_of-rings-then-s-ne0 : goal.line_rest-shape_of-rings-then-s-ne0
line_rest-shape_of-rings-then-s-ne0 t c = c.read_branch-r.auto.rings ∙ c.loop-atoms.invariant.4

pub line_rest-returns-then-s-ne0 : goal.line_rest-returns-then-s-ne0
line_rest-returns-then-s-ne0 t c = stuck_branch _ _ _ _ _ c.requires.0 _ _ _ c.loop-atoms.invariant.0 _ c.body_at-what.ensures _ _ c.in-Branch.is c.read_branch-r.ensures _ c.if-s-ne0.true

pub line_rest-loop-atoms-smaller-in-Branch : goal.line_rest-loop-atoms-smaller-in-Branch
line_rest-loop-atoms-smaller-in-Branch t c = omega (arith, c.read_branch-r.ensures.moved.on c.if-s-ne0.false, c.read_branch-r.ensures.moved.within)

pub line_rest-loop-atoms-preserved-in-Branch : goal.line_rest-loop-atoms-preserved-in-Branch
line_rest-loop-atoms-preserved-in-Branch t c = (after_branch _ _ _ _ _ c.requires.0 _ _ _ c.loop-atoms.invariant.0 _ c.body_at-what.ensures _ _ c.in-Branch.is c.read_branch-r.ensures c.if-s-ne0.false, c.read_branch-r.auto.atoms ∙ c.loop-atoms.invariant.1, c.read_branch-r.auto.entries ∙ c.loop-atoms.invariant.2, c.read_branch-r.auto.path ∙ c.loop-atoms.invariant.3, c.read_branch-r.auto.rings ∙ c.loop-atoms.invariant.4)

pub line_rest-line_unit-r-requires : goal.line_rest-line_unit-r-requires
line_rest-line_unit-r-requires t c = (c.loop-atoms.invariant.0.ready, c.loop-atoms.invariant.0.count)

pub line_rest-shape_of-atoms-then-s-ne0-2 : goal.line_rest-shape_of-atoms-then-s-ne0-2
line_rest-shape_of-atoms-then-s-ne0-2 t c = c.line_unit-r.auto.atoms ∙ c.loop-atoms.invariant.1

pub line_rest-shape_of-entries-then-s-ne0-2 : goal.line_rest-shape_of-entries-then-s-ne0-2
line_rest-shape_of-entries-then-s-ne0-2 t c = c.line_unit-r.auto.entries ∙ c.loop-atoms.invariant.2

pub line_rest-shape_of-path-then-s-ne0-2 : goal.line_rest-shape_of-path-then-s-ne0-2
line_rest-shape_of-path-then-s-ne0-2 t c = c.line_unit-r.auto.path ∙ c.loop-atoms.invariant.3

pub line_rest-shape_of-rings-then-s-ne0-2 : goal.line_rest-shape_of-rings-then-s-ne0-2
line_rest-shape_of-rings-then-s-ne0-2 t c = c.line_unit-r.auto.rings ∙ c.loop-atoms.invariant.4

pub line_rest-returns-then-s-ne0-2 : goal.line_rest-returns-then-s-ne0-2
line_rest-returns-then-s-ne0-2 t c = stuck_unit _ _ _ _ _ c.requires.0 _ _ _ c.loop-atoms.invariant.0 _ c.body_at-what.ensures _ _ _ c.in-Unit.is c.line_unit-r.ensures c.if-s-ne0-2.true

pub line_rest-loop-atoms-smaller : goal.line_rest-loop-atoms-smaller
line_rest-loop-atoms-smaller t c = omega (arith, c.line_unit-r.ensures.moved.on c.if-s-ne0-2.false, c.line_unit-r.ensures.moved.within)

pub line_rest-loop-atoms-preserved : goal.line_rest-loop-atoms-preserved
line_rest-loop-atoms-preserved t c = (after_unit _ _ _ _ _ c.requires.0 _ _ _ c.loop-atoms.invariant.0 _ c.body_at-what.ensures _ _ _ c.in-Unit.is c.line_unit-r.ensures c.if-s-ne0-2.false, c.line_unit-r.auto.atoms ∙ c.loop-atoms.invariant.1, c.line_unit-r.auto.entries ∙ c.loop-atoms.invariant.2, c.line_unit-r.auto.path ∙ c.loop-atoms.invariant.3, c.line_unit-r.auto.rings ∙ c.loop-atoms.invariant.4)

pub read_branch-returns-then-room-eq0 : goal.read_branch-returns-then-room-eq0
read_branch-returns-then-room-eq0 t c = simp c.refused-builder.ensures (branch_deep _ _ _ _ c.requires.0 c.requires.1 c.if-room-eq0.true)

pub read_branch-overflow_add-at : goal.read_branch-overflow_add-at
read_branch-overflow_add-at t c = omega (arith, branch_in _ _ c.requires.1)

pub read_branch-line_atom-first-requires : goal.read_branch-line_atom-first-requires
read_branch-line_atom-first-requires t c = (branch_ready _ _ c.requires.1 _ c.read_lead-l.ensures _ c.requires.0, search rules)

pub read_branch-shape_of-atoms-then-f-ne0 : goal.read_branch-shape_of-atoms-then-f-ne0
read_branch-shape_of-atoms-then-f-ne0 t c = c.line_atom-first.auto.atoms

pub read_branch-shape_of-entries-then-f-ne0 : goal.read_branch-shape_of-entries-then-f-ne0
read_branch-shape_of-entries-then-f-ne0 t c = c.line_atom-first.auto.entries

pub read_branch-shape_of-path-then-f-ne0 : goal.read_branch-shape_of-path-then-f-ne0
read_branch-shape_of-path-then-f-ne0 t c = c.line_atom-first.auto.path

pub read_branch-returns-then-f-ne0 : goal.read_branch-returns-then-f-ne0
read_branch-returns-then-f-ne0 t c = branch_refused _ _ _ _ c.requires.0 c.requires.1 _ c.read_lead-l.ensures c.if-room-eq0.false _ _ _ (line_refused _ _ _ _ _ _ _ _ (c.line_atom-first.ensures c.args.rings.now) c.if-f-ne0.true) c.if-f-ne0.true

pub read_branch-leave_branch-requires : goal.read_branch-leave_branch-requires
read_branch-leave_branch-requires t c = ((c.line_atom-first.ensures c.args.rings.now).moved.within, c.requires.0.short)

pub read_branch-shape_of-atoms-then-eq : goal.read_branch-shape_of-atoms-then-eq
read_branch-shape_of-atoms-then-eq t c = c.line_atom-first.auto.atoms

pub read_branch-shape_of-entries-then-eq : goal.read_branch-shape_of-entries-then-eq
read_branch-shape_of-entries-then-eq t c = c.line_atom-first.auto.entries

pub read_branch-shape_of-path-then-eq : goal.read_branch-shape_of-path-then-eq
read_branch-shape_of-path-then-eq t c = c.line_atom-first.auto.path

pub read_branch-returns-then-eq : goal.read_branch-returns-then-eq
read_branch-returns-then-eq t c = simp c.leave_branch.ensures (branch_closed _ _ _ _ c.requires.0 c.requires.1 _ c.read_lead-l.ensures c.if-room-eq0.false _ _ _ (line_alone _ _ _ _ _ _ _ _ (c.line_atom-first.ensures c.args.rings.now) c.if-f-ne0.false (seen _ _ _ _ c.peek.ensures c.if-eq.ensures)) c.if-f-ne0.false)

pub read_branch-line_rest-r-requires : goal.read_branch-line_rest-r-requires
read_branch-line_rest-r-requires t c = (omega (arith, (c.line_atom-first.ensures c.args.rings.now).moved.on c.if-f-ne0.false, (c.line_atom-first.ensures c.args.rings.now).moved.within, from _ _ c.requires.1 _ c.read_lead-l.ensures), (first_ready _ _ _ 0 _ _ _ _ (c.line_atom-first.ensures c.args.rings.now) c.if-f-ne0.false c.requires.0.short, (c.line_atom-first.ensures c.args.rings.now).count))

pub read_branch-shape_of-atoms-then-c-ne0 : goal.read_branch-shape_of-atoms-then-c-ne0
read_branch-shape_of-atoms-then-c-ne0 t c = c.line_rest-r.auto.atoms ∙ c.line_atom-first.auto.atoms

pub read_branch-shape_of-entries-then-c-ne0 : goal.read_branch-shape_of-entries-then-c-ne0
read_branch-shape_of-entries-then-c-ne0 t c = c.line_rest-r.auto.entries ∙ c.line_atom-first.auto.entries

pub read_branch-shape_of-path-then-c-ne0 : goal.read_branch-shape_of-path-then-c-ne0
read_branch-shape_of-path-then-c-ne0 t c = c.line_rest-r.auto.path ∙ c.line_atom-first.auto.path

pub read_branch-shape_of-rings-then-c-ne0 : goal.read_branch-shape_of-rings-then-c-ne0
read_branch-shape_of-rings-then-c-ne0 t c = c.line_rest-r.auto.rings

pub read_branch-returns-then-c-ne0 : goal.read_branch-returns-then-c-ne0
read_branch-returns-then-c-ne0 t c = branch_refused _ _ _ _ c.requires.0 c.requires.1 _ c.read_lead-l.ensures c.if-room-eq0.false _ _ _ (line_whole _ _ _ _ _ _ _ _ (c.line_atom-first.ensures c.args.rings.now) c.if-f-ne0.false _ _ _ c.line_rest-r.ensures) c.if-c-ne0.true

pub read_branch-leave_branch-requires-2 : goal.read_branch-leave_branch-requires-2
read_branch-leave_branch-requires-2 t c = (c.line_rest-r.ensures.within, c.requires.0.short)

pub read_branch-shape_of-atoms : goal.read_branch-shape_of-atoms
read_branch-shape_of-atoms t c = c.line_rest-r.auto.atoms ∙ c.line_atom-first.auto.atoms

pub read_branch-shape_of-entries : goal.read_branch-shape_of-entries
read_branch-shape_of-entries t c = c.line_rest-r.auto.entries ∙ c.line_atom-first.auto.entries

pub read_branch-shape_of-path : goal.read_branch-shape_of-path
read_branch-shape_of-path t c = c.line_rest-r.auto.path ∙ c.line_atom-first.auto.path

pub read_branch-shape_of-rings : goal.read_branch-shape_of-rings
read_branch-shape_of-rings t c = c.line_rest-r.auto.rings

pub read_branch-returns : goal.read_branch-returns
read_branch-returns t c = simp c.leave_branch-2.ensures (branch_closed _ _ _ _ c.requires.0 c.requires.1 _ c.read_lead-l.ensures c.if-room-eq0.false _ _ _ (line_whole _ _ _ _ _ _ _ _ (c.line_atom-first.ensures c.args.rings.now) c.if-f-ne0.false _ _ _ c.line_rest-r.ensures) c.if-c-ne0.false)
