-- `file_faults::list_lines` meets its contract.
use mathlib.Core.Path.{sym, ◌∙◌}
use native.Mathlib.Omega.{arith}
use Rattle.meaning.specs.Bytes.{part}
use Rattle.file_faults.proofs.Steps.{any_found, any_none}
use Rattle.file_faults.proofs.OneFault.{head_fault, head_told, head_low}
use Rattle.file_faults.proofs.Walk.{lines_none, lines_some}
use Rattle.file_faults.proofs.list_lines.Goals as goal

pub slice_bounds-judge_header-count : goal.slice_bounds-judge_header-count
slice_bounds-judge_header-count c =
    let s = any_found _ _ _ _ _ (sym c.any_line.ensures ∙ c.in-Some.is) in
    omega (arith, s.ordered)

pub slice_bounds-judge_header-start : goal.slice_bounds-judge_header-start
slice_bounds-judge_header-start c =
    let s = any_found _ _ _ _ _ (sym c.any_line.ensures ∙ c.in-Some.is) in
    omega (arith, s.ordered, s.within)

pub slice_bounds-judge_header-end : goal.slice_bounds-judge_header-end
slice_bounds-judge_header-end c =
    let s = any_found _ _ _ _ _ (sym c.any_line.ensures ∙ c.in-Some.is) in
    omega (arith, s.ordered, s.within)

pub note_fault-requires-clause-file_bound : goal.note_fault-requires-clause-file_bound
note_fault-requires-clause-file_bound c = (omega (arith, c.requires.0), (omega arith, head_low _ _ _ c.judge_header-h.ensures _ c.err.ensures.value))

pub list_later-requires-clause-header : goal.list_later-requires-clause-header
list_later-requires-clause-header c = record { text = _; heads = head_told _ _ _ c.judge_header-h.ensures _ c.ok.ensures.value }

pub returns-clause-result_after : goal.returns-clause-result_after
unfolding part
returns-clause-result_after c =
    let s = any_found _ _ _ _ _ (sym c.any_line.ensures ∙ c.in-Some.is) in
    let e = c.judge_header-h.ensures in
    lines_some _ _ _ _ c.body_start.ensures.0 _ _ _ _ _ _ s
    (c.note_fault.ensures.result_after ∙ rw (head_fault _ _ _ e _ c.err.ensures.value))
    (rw c.note_fault.ensures.same_list.1 at (c.list_later.ensures.by_index _ (head_told _ _ _ e _ c.ok.ensures.value)))

pub returns-in_default-clause-result_after : goal.returns-in_default-clause-result_after
returns-in_default-clause-result_after c = lines_none _ _ _ _ c.body_start.ensures.0 _ (any_none _ _ (sym c.any_line.ensures ∙ c.in_default.is))
