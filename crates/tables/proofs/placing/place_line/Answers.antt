-- `tables::placing::place_line` meets its contract.
use Rattle.values.proofs.Readings.{located, within}
use native.Mathlib.Omega.{arith}
use Rattle.tables.proofs.placing.place_line.Goals as goal

pub invariant_of-line : goal.invariant_of-line
invariant_of-line c = record { within = within _ _ _ c.locate.ensures }

pub put_places-requires : goal.put_places-requires
put_places-requires c = record { f_bound = c.requires.0; f_in_bounds = c.requires.1.1 }

pub overflow_add-f : goal.overflow_add-f
overflow_add-f c = omega (arith, c.requires.0)

pub mark_if-requires : goal.mark_if-requires
mark_if-requires c = omega (arith, c.requires.0)

pub returns : goal.returns
returns c =
    let s = c.args in
    λ ps e.
    let loc = located s.l.now s.places _ c.locate.ensures ps e in
    (c.put_places.ensures ps loc, rw (← c.is_noted-noted.ensures ps loc) c.mark_if.ensures)
