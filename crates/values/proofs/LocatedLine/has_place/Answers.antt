-- `values::LocatedLine::has_place` meets its contract.
use Rattle.meaning.specs.Lists.{empty}
use Rattle.values.proofs.Readings.{through, placed_in}
use Rattle.std.proofs.Common.{true, false, refl, sym, ap, ◌∙◌, not}
use Rattle.values.proofs.LocatedLine.has_place.Goals as goal

pub returns-then-not-is_empty_value : goal.returns-then-not-is_empty_value
returns-then-not-is_empty_value c = λ ps loc.
    let a = c.args.self.now in
    ap not c.if-not-is_empty_value.true
    ∙ placed_in ps a.line.now a.cells loc false _
    (sym c.if-not-is_empty_value.true ∙ through empty _ _ _ c.is_empty_value.ensures c.raw.ensures) refl

pub returns-else-not-is_empty_value : goal.returns-else-not-is_empty_value
returns-else-not-is_empty_value c = λ ps loc.
    let a = c.args.self.now in
    placed_in ps a.line.now a.cells loc true _
    (sym c.if-not-is_empty_value.false ∙ through empty _ _ _ c.is_empty_value.ensures c.raw.ensures)
    (through empty _ _ _ c.is_empty_value-else-not-is_empty_value.ensures c.raw-else-not-is_empty_value.ensures)
