-- `trip_walk::turn` meets its contract.
use Rattle.trip_walk.proofs.Turns.{turned}
use Rattle.trip_walk.proofs.turn.Goals as goal

pub returns : goal.returns
returns c =
    turned c.args.s.now c.args.t.now c.args.k _ _ _ _ _ _ _ _ c.is_linked-link.result c.is_repeat-equal.result _ c.line_at.result c.times_at-x.result.timed c.times_at-x.result.arrives c.times_at-x.result.departs _ _
    c.is_linked-link.ensures (c.is_repeat-equal.ensures _ c.is_linked-link.ensures) c.line_at.ensures c.times_at-x.ensures c.next.ensures.below_value c.next.ensures.from_value c.next.ensures.linked_value c.next.ensures.falls_value
