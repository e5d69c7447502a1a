-- A line lies within the file, and the next one starts past it.
use Rattle.text.proofs.Lines.{line_found}
use mathlib.Core.Path.{sym, ◌∙◌}
use native.Mathlib.Omega.{arith}
use Rattle.text_cases.proofs.file.Goals as goal

pub slice_bounds-line-count : goal.slice_bounds-line-count
slice_bounds-line-count g c = (line_found _ _ _ _ _ (sym c.next_line.ensures ∙ c.in-Some.is)).ordered

pub slice_bounds-line-start : goal.slice_bounds-line-start
slice_bounds-line-start g c = let s = line_found _ _ _ _ _ (sym c.next_line.ensures ∙ c.in-Some.is) in omega (arith, s.ordered)

pub slice_bounds-line-end : goal.slice_bounds-line-end
slice_bounds-line-end g c = let s = line_found _ _ _ _ _ (sym c.next_line.ensures ∙ c.in-Some.is) in omega (arith, s.ordered, s.before, s.within)

pub loop-bounds-smaller : goal.loop-bounds-smaller
loop-bounds-smaller g c = let s = line_found _ _ _ _ _ (sym c.next_line.ensures ∙ c.in-Some.is) in omega (arith, s.starts, s.ordered, s.before, s.within, c.loop-bounds.invariant)

pub loop-bounds-preserved : goal.loop-bounds-preserved
loop-bounds-preserved g c = let s = line_found _ _ _ _ _ (sym c.next_line.ensures ∙ c.in-Some.is) in omega (arith, s.before, s.within)
