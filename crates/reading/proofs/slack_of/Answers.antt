-- `reading::slack_of` meets its contract.
use Rattle.reading.proofs.Values.{other_file_lem, other_type, by_place}
use mathlib.Core.Bool.{true, false}
use mathlib.Core.Path.{sym, ◌∙◌}
use native.Mathlib.Omega.{arith}
use Rattle.reading.proofs.slack_of.Goals as goal

pub returns-then-f-ne-FILE : goal.returns-then-f-ne-FILE
returns-then-f-ne-FILE c = λ ps loc. other_file_lem _ _ c.if-f-ne-FILE.true

pub returns-then-location_type-le2 : goal.returns-then-location_type-le2
returns-then-location_type-le2 c = λ ps loc. other_type _ _ _ (c.location_type.ensures ps loc) c.if-location_type-le2.true

pub returns-then-has_place : goal.returns-then-has_place
returns-then-has_place c = λ ps loc.
    by_place _ _ _ c.if-f-ne-FILE.false (c.location_type.ensures ps loc) (omega (arith, c.if-location_type-le2.false)) true (sym c.if-has_place.true ∙ c.has_place.ensures ps loc)

pub returns : goal.returns
returns c = λ ps loc.
    by_place _ _ _ c.if-f-ne-FILE.false (c.location_type.ensures ps loc) (omega (arith, c.if-location_type-le2.false)) false (sym c.if-has_place.false ∙ c.has_place.ensures ps loc)
