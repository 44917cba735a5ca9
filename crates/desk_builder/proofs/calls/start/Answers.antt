-- A path that is too short, too few ring numbers, and the start.
use Rattle.desk_builder.proofs.Start.{start_short, start_few, start_goes}
use Rattle.desk_builder.proofs.calls.start.Goals.{then-path-places-via-then-path-places, then-path-places-via-else-path-places+then-rings-lt-RING_NUMBER_COUNT}
use Rattle.desk_builder.proofs.calls.start.Goals as goal

pub returns-then-path-places : goal.returns-then-path-places
returns-then-path-places c =
    elim c.then-path-places.branch [
      | then-path-places-via-then-path-places w ↦ start_short _ _ _ _ c.atom_room-places.ensures.is c.lesser-slots.ensures.is c.start-b.ensures w.if-path-places.true c.refused.ensures
      | then-path-places-via-else-path-places+then-rings-lt-RING_NUMBER_COUNT w ↦ start_few _ _ _ _ c.atom_room-places.ensures.is c.lesser-slots.ensures.is c.start-b.ensures w.if-path-places.false w.if-rings-lt-RING_NUMBER_COUNT.true c.refused.ensures
    ]

pub returns : goal.returns
returns c = start_goes _ _ _ _ c.atom_room-places.ensures.is c.lesser-slots.ensures.is c.start-b.ensures c.if-path-places.false c.if-rings-lt-RING_NUMBER_COUNT.false c.clear.ensures
