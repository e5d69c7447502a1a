-- `trip_walk::is_repeat` meets its contract.
use Rattle.trip_walk.proofs.Turns.{repeats_here, repeats_not}
use Rattle.trip_walk.proofs.is_repeat.Goals as goal

pub returns-then-link : goal.returns-then-link
returns-then-link c = λ s e. repeats_here s c.args.t.now c.args.k _ _ _ _ c.args.link c.if-link.true e c.line_at.ensures c.line_at-then-link.ensures (rw c.new.ensures at c.sequence_at.ensures) (rw c.new-then-link.ensures at c.sequence_at-then-link.ensures)

pub returns : goal.returns
returns c = λ s e. repeats_not s c.args.t.now c.args.k c.args.link c.if-link.false e
