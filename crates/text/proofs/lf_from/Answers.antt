-- `text::lf_from` meets its contract.
use Rattle.text.proofs.Lines.{first_here, first_next, first_over}
use Rattle.text.specs.Lines.{is_lf}
use native.Mathlib.Omega.{arith}
use borrow.Author.Tests.{eq-eqb, ne_eqb}
use Rattle.text.proofs.lf_from.Goals as goal

pub loop-i-init : goal.loop-i-init
loop-i-init c = (c.near_lf-i.ensures.1, c.near_lf-i.ensures.0)

pub returns-then-s-i-eq10 : goal.returns-then-s-i-eq10
returns-then-s-i-eq10 c = (first_here is_lf _ _ _ c.loop-i.invariant.1 c.loop-i-test.true (eq-eqb _ _ c.if-s-i-eq10.true), omega arith)

pub loop-i-preserved : goal.loop-i-preserved
loop-i-preserved c = (omega arith, first_next is_lf _ _ _ c.loop-i.invariant.1 c.loop-i-test.true (ne_eqb _ _ c.if-s-i-eq10.false))

pub returns : goal.returns
returns c = (first_over is_lf _ _ _ c.loop-i.invariant.1 c.loop-i-test.false, omega arith)
