-- `text::field_on` meets its contract.
use Rattle.text.proofs.Runs.{on_past, on_part}
use native.Mathlib.Omega.{arith}
use Rattle.text.proofs.field_on.Goals as goal

pub returns-then-s-at : goal.returns-then-s-at
returns-then-s-at c = on_past _ _ c.if-s-at.true

pub slice_bounds-result-end-2 : goal.slice_bounds-result-end-2
slice_bounds-result-end-2 c = c.run_end-e.ensures.upper_bound (omega arith)

pub returns : goal.returns
returns c = on_part _ _ _ c.run_end-e.ensures.value.0
