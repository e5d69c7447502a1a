-- `values::LocatedLine::route_type` meets its contract.
use Rattle.meaning.specs.Tables.{picked}
use Rattle.meaning.specs.Forms.{route_type_of}
use Rattle.values.proofs.Readings.{through, picked_one}
use mathlib.Core.Path.{ap, ◌∙◌}
use native.Mathlib.Omega.{arith}
use Rattle.values.proofs.LocatedLine.route_type.Goals as goal

pub returns : goal.returns
returns c = (picked_one c.route_type_of.result _ c.chosen.ensures.0 ∙ ap picked (through route_type_of _ _ _ c.route_type_of.ensures.0 c.raw.ensures), omega (arith, c.chosen.ensures.1 12 c.route_type_of.ensures.1))
