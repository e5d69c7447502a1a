-- `values::LocatedLine::mark` meets its contract.
use Rattle.meaning.specs.Tables.{one_if}
use Rattle.meaning.specs.Forms.{choice_of}
use Rattle.values.proofs.Readings.{through}
use mathlib.Core.Path.{ap, ◌∙◌}
use Rattle.values.proofs.LocatedLine.mark.Goals as goal

pub returns : goal.returns
returns c = (c.chosen.ensures.0 ∙ ap one_if (through (choice_of 1) _ _ _ c.choice_of.ensures.0 c.raw.ensures), c.chosen.ensures.1 1 c.choice_of.ensures.1)
