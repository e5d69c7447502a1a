-- `reading::read_file` meets its contract.
use Rattle.reading.proofs.Files.{file_none, file_stop, file_next}
use Rattle.text.proofs.Lines.{line_found, line_none}
use Rattle.meaning.specs.Bytes.{part}
use mathlib.Core.Path.{sym, ◌∙◌}
use native.Mathlib.Omega.{arith}
use Rattle.reading.proofs.read_file.Goals as goal

pub slice_bounds-judge_header-count : goal.slice_bounds-judge_header-count
slice_bounds-judge_header-count c =
    let s = line_found _ _ _ _ _ (sym c.next_line.ensures ∙ c.in-Some.is) in
    omega arith

pub slice_bounds-judge_header-start : goal.slice_bounds-judge_header-start
slice_bounds-judge_header-start c =
    let s = line_found _ _ _ _ _ (sym c.next_line.ensures ∙ c.in-Some.is) in
    omega arith

pub slice_bounds-judge_header-end : goal.slice_bounds-judge_header-end
slice_bounds-judge_header-end c =
    let s = line_found _ _ _ _ _ (sym c.next_line.ensures ∙ c.in-Some.is) in
    omega arith

pub returns-in-Ok : goal.returns-in-Ok
unfolding part
returns-in-Ok c =
    let s = line_found _ _ _ _ _ (sym c.next_line.ensures ∙ c.in-Some.is) in
    file_next _ _ _ c.body_start.ensures.0 _ _ _ s _ c.in-Ok.ensures _ c.read_lines.ensures

pub returns-in-Err : goal.returns-in-Err
unfolding part
returns-in-Err c =
    let s = line_found _ _ _ _ _ (sym c.next_line.ensures ∙ c.in-Some.is) in
    rw c.refusal.ensures (file_stop _ _ _ c.body_start.ensures.0 _ _ _ s _ c.in-Err.ensures)

pub returns-in_default : goal.returns-in_default
returns-in_default c = file_none _ _ _ c.body_start.ensures.0 (line_none _ _ (sym c.next_line.ensures ∙ c.in_default.is))
