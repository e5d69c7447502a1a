-- `text::next_line` meets its contract.
use Rattle.text.specs.Lines.{line_at}
use Rattle.text.proofs.next_line.Goals as goal

pub returns : goal.returns
unfolding line_at
returns c = rw (← c.lf_from-e.ensures.0) c.line_to.ensures
