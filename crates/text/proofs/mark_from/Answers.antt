-- `text::mark_from` meets its contract.
use Rattle.std.proofs.lemmas.Grind.{get_or_default_zero}
use Rattle.text.proofs.Lines.{first_here, first_next, first_over}
use Rattle.text.specs.Fields.{is_mark}
use mathlib.Core.Path.{sym, ap, ◌∙◌}
use borrow.Author.Tests.{ltb-true, ltb-false, eq-eqb, ne_eqb}
use native.Mathlib.Omega.{arith}
use Rattle.text.proofs.mark_from.Goals as goal

pub loop-b-preserved : goal.loop-b-preserved
loop-b-preserved c =
    let n = ltb-true _ _ (sym c.in-Some.ensures.lookup.0) in
    let e = c.in-Some.ensures.lookup.1 ∙ get_or_default_zero _ _ _ n in
    (omega arith, first_next is_mark _ _ _ c.loop-b.invariant.1 n (ap is_mark (sym e) ∙ ne_eqb _ _ c.if-b-eq34.false))

pub returns-then-b-eq34 : goal.returns-then-b-eq34
returns-then-b-eq34 c =
    let n = ltb-true _ _ (sym c.in-Some.ensures.lookup.0) in
    let e = c.in-Some.ensures.lookup.1 ∙ get_or_default_zero _ _ _ n in
    (first_here is_mark _ _ _ c.loop-b.invariant.1 n (ap is_mark (sym e) ∙ eq-eqb _ _ c.if-b-eq34.true), omega arith)

pub returns-in_default : goal.returns-in_default
returns-in_default c = (first_over is_mark _ _ _ c.loop-b.invariant.1 (ltb-false _ _ (sym c.in_default.ensures.lookup.0)), omega arith)
