-- `values::LocatedLine::location_type` meets its contract.
use Rattle.meaning.specs.Forms.{choice_of}
use Rattle.values.proofs.Readings.{through, kind_in}
use Rattle.values.proofs.LocatedLine.location_type.Goals as goal

pub returns : goal.returns
returns c = λ ps loc.
    let a = c.args.self.now in
    kind_in ps a.line.now a.cells loc _ _ c.chosen.ensures.0 (through (choice_of 4) _ _ _ c.choice_of.ensures.0 c.raw.ensures)
