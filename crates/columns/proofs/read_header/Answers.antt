-- `columns::read_header` meets its contract.
use Rattle.meaning.specs.Bytes.{part}
use Rattle.text.proofs.Lines.{line_found, line_none}
use Rattle.text.proofs.Walk.{no_header}
use Rattle.columns.proofs.Headings.{header_found}
use mathlib.Core.Path.{sym, ◌∙◌}
use native.Mathlib.Omega.{arith}
use Rattle.columns.proofs.read_header.Goals as goal

pub slice_bounds-header_names-count : goal.slice_bounds-header_names-count
slice_bounds-header_names-count c = (line_found _ _ _ _ _ (sym c.next_line.ensures ∙ c.in-Some.is)).ordered

pub slice_bounds-header_names-start : goal.slice_bounds-header_names-start
slice_bounds-header_names-start c = let h = line_found _ _ _ _ _ (sym c.next_line.ensures ∙ c.in-Some.is) in omega (arith, h.ordered)

pub slice_bounds-header_names-end : goal.slice_bounds-header_names-end
slice_bounds-header_names-end c = let h = line_found _ _ _ _ _ (sym c.next_line.ensures ∙ c.in-Some.is) in omega (arith, h.before, h.within)

pub returns : goal.returns
unfolding part
returns c = header_found _ _ c.body_start-at.ensures.0 _ _ _ _ _ (line_found _ _ _ _ _ (sym c.next_line.ensures ∙ c.in-Some.is)) c.header_names-names.ensures.0

pub returns-in_default : goal.returns-in_default
returns-in_default c =
    let z = no_header _ _ c.body_start-at.ensures.0 (line_none _ _ (sym c.next_line.ensures ∙ c.in_default.is)) in
    absurd (omega (arith, z, c.requires.1))
