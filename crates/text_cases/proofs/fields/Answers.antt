-- A field lies within the line, and the next one starts past it.
use Rattle.text.proofs.Fields.{field_found}
use mathlib.Core.Path.{sym, ◌∙◌}
use native.Mathlib.Omega.{arith}
use Rattle.text_cases.proofs.fields.Goals as goal

pub slice_bounds-field-count : goal.slice_bounds-field-count
slice_bounds-field-count g c = (field_found _ _ _ _ _ (sym c.next.ensures ∙ c.in-Some.is)).ordered

pub slice_bounds-field-start : goal.slice_bounds-field-start
slice_bounds-field-start g c = let s = field_found _ _ _ _ _ (sym c.next.ensures ∙ c.in-Some.is) in omega (arith, s.ordered)

pub slice_bounds-field-end : goal.slice_bounds-field-end
slice_bounds-field-end g c = let s = field_found _ _ _ _ _ (sym c.next.ensures ∙ c.in-Some.is) in omega (arith, s.ordered, s.moves, s.within)

pub loop-bounds-smaller : goal.loop-bounds-smaller
loop-bounds-smaller g c = let s = field_found _ _ _ _ _ (sym c.next.ensures ∙ c.in-Some.is) in omega (arith, s.starts, s.ordered, s.moves, s.within, c.loop-bounds.invariant)

pub loop-bounds-preserved : goal.loop-bounds-preserved
loop-bounds-preserved g c = let s = field_found _ _ _ _ _ (sym c.next.ensures ∙ c.in-Some.is) in omega (arith, s.moves, s.within)
