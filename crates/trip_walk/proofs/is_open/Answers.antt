-- `trip_walk::is_open` meets its contract.
use Rattle.trip_walk.proofs.is_open.Goals as goal

pub returns : goal.returns
returns c = rw (c.is_untimed-first.ensures, c.is_untimed-last.ensures, c.line_at.ensures, c.line_at-2.ensures)
