-- `values::LocatedLine::exception` meets its contract.
use Rattle.meaning.specs.Tables.{picked}
use Rattle.meaning.specs.Forms.{exception_of}
use Rattle.values.proofs.Readings.{through, picked_one}
use mathlib.Core.Path.{ap, ◌∙◌}
use native.Mathlib.Omega.{arith}
use Rattle.values.proofs.LocatedLine.exception.Goals as goal

pub returns : goal.returns
returns c = (picked_one c.exception_of.result _ c.chosen.ensures.0 ∙ ap picked (through exception_of _ _ _ c.exception_of.ensures.0 c.raw.ensures), omega (arith, c.chosen.ensures.1 2 c.exception_of.ensures.1))
