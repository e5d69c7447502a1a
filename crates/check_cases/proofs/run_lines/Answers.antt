-- A line lies within the input, and the next one starts past it.
use Rattle.text.proofs.Lines.{line_found}
use mathlib.Core.Path.{sym, ◌∙◌}
use native.Mathlib.Omega.{arith}
use Rattle.check_cases.proofs.run_lines.Goals as goal

pub slice_bounds-run_line-count : goal.slice_bounds-run_line-count
slice_bounds-run_line-count g c = (line_found _ _ _ _ _ (sym c.next_line.ensures ∙ c.in-Some.is)).ordered

pub slice_bounds-run_line-start : goal.slice_bounds-run_line-start
slice_bounds-run_line-start g c = let s = line_found _ _ _ _ _ (sym c.next_line.ensures ∙ c.in-Some.is) in omega (arith, s.ordered)

pub slice_bounds-run_line-end : goal.slice_bounds-run_line-end
slice_bounds-run_line-end g c = let s = line_found _ _ _ _ _ (sym c.next_line.ensures ∙ c.in-Some.is) in omega (arith, s.ordered, s.before, s.within)

pub loop-line-smaller : goal.loop-line-smaller
loop-line-smaller g c = let s = line_found _ _ _ _ _ (sym c.next_line.ensures ∙ c.in-Some.is) in omega (arith, s.starts, s.ordered, s.before, s.within, c.loop-line.invariant)

pub loop-line-preserved : goal.loop-line-preserved
loop-line-preserved g c = let s = line_found _ _ _ _ _ (sym c.next_line.ensures ∙ c.in-Some.is) in omega (arith, s.before, s.within)
