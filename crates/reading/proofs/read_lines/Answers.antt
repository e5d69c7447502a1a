-- `reading::read_lines` meets its contract.
use Rattle.reading.proofs.Files.{lines_over, lines_stop, lines_next}
use Rattle.text.proofs.Lines.{line_found, line_none}
use Rattle.meaning.specs.Bytes.{part}
use mathlib.Core.Path.{refl, sym, ◌∙◌}
use native.Mathlib.Omega.{arith}
use Rattle.reading.proofs.read_lines.Goals as goal

pub loop-line-init : goal.loop-line-init
loop-line-init c = (omega arith, refl)

pub slice_bounds-line_fault-count : goal.slice_bounds-line_fault-count
slice_bounds-line_fault-count c =
    let s = line_found _ _ _ _ _ (sym c.next_line.ensures ∙ c.in-Some.is) in
    omega arith

pub slice_bounds-line_fault-start : goal.slice_bounds-line_fault-start
slice_bounds-line_fault-start c =
    let s = line_found _ _ _ _ _ (sym c.next_line.ensures ∙ c.in-Some.is) in
    omega arith

pub slice_bounds-line_fault-end : goal.slice_bounds-line_fault-end
slice_bounds-line_fault-end c =
    let s = line_found _ _ _ _ _ (sym c.next_line.ensures ∙ c.in-Some.is) in
    omega arith

pub returns-in-Some-line_fault : goal.returns-in-Some-line_fault
unfolding part
returns-in-Some-line_fault c =
    let s = line_found _ _ _ _ _ (sym c.next_line.ensures ∙ c.in-Some.is) in
    rw c.refusal.ensures (lines_stop _ _ _ _ _ _ _ c.loop-line.invariant.1 _ _ _ s _ (rw c.all_known-known.ensures at c.in-Some-line_fault.ensures))

pub overflow_add-n : goal.overflow_add-n
overflow_add-n c =
    let s = line_found _ _ _ _ _ (sym c.next_line.ensures ∙ c.in-Some.is) in
    omega arith

pub loop-line-smaller : goal.loop-line-smaller
loop-line-smaller c =
    let s = line_found _ _ _ _ _ (sym c.next_line.ensures ∙ c.in-Some.is) in
    omega arith

pub loop-line-preserved : goal.loop-line-preserved
unfolding part
loop-line-preserved c =
    let s = line_found _ _ _ _ _ (sym c.next_line.ensures ∙ c.in-Some.is) in
    (omega arith, lines_next _ _ _ _ _ _ _ c.loop-line.invariant.1 _ _ _ s (rw c.all_known-known.ensures at c.in_default-line_fault.ensures))

pub returns : goal.returns
returns c = lines_over _ _ _ _ _ _ _ c.loop-line.invariant.1 (line_none _ _ (sym c.next_line.ensures ∙ c.in_default.is))
