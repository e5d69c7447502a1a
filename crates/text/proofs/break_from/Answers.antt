-- `text::break_from` meets its contract.
use Rattle.std.proofs.lemmas.Grind.{get_or_default_zero}
use Rattle.text.proofs.Lines.{first_here, first_next, first_over}
use Rattle.text.specs.Fields.{is_break}
use mathlib.Core.Path.{sym, ap, ◌∙◌}
use borrow.Author.Tests.{ltb-true, ltb-false}
use native.Mathlib.Omega.{arith}
use Rattle.text.proofs.break_from.Goals as goal

pub loop-b-preserved : goal.loop-b-preserved
loop-b-preserved c =
    let n = ltb-true _ _ (sym c.in-Some.ensures.lookup.0) in
    let e = c.in-Some.ensures.lookup.1 ∙ get_or_default_zero _ _ _ n in
    (omega arith, first_next is_break _ _ _ c.loop-b.invariant.1 n (ap is_break (sym e) ∙ sym c.is_break.ensures ∙ c.if-is_break.false))

pub returns-then-is_break : goal.returns-then-is_break
returns-then-is_break c =
    let n = ltb-true _ _ (sym c.in-Some.ensures.lookup.0) in
    let e = c.in-Some.ensures.lookup.1 ∙ get_or_default_zero _ _ _ n in
    (first_here is_break _ _ _ c.loop-b.invariant.1 n (ap is_break (sym e) ∙ sym c.is_break.ensures ∙ c.if-is_break.true), omega arith)

pub returns-in_default : goal.returns-in_default
returns-in_default c = (first_over is_break _ _ _ c.loop-b.invariant.1 (ltb-false _ _ (sym c.in_default.ensures.lookup.0)), omega arith)
