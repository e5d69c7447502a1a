-- `file_faults::any_line` meets its contract.
use mathlib.Core.Path.{◌∙◌}
use Rattle.text.specs.Lines.{line_at}
use Rattle.file_faults.specs.Walk.{any_at}
use Rattle.file_faults.proofs.Steps.{or_is}
use Rattle.file_faults.proofs.any_line.Goals as goal

pub returns : goal.returns
unfolding any_at
returns c = c.or.ensures ∙ rw (c.then_some.ensures, c.next_line.ensures) (or_is c.args.s.now c.args.at (line_at c.args.s.now c.args.at))
