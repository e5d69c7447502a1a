-- `text::class_of` meets its contract.
use Rattle.meaning.specs.Bytes.{class_of}
use borrow.Author.Tests.{eq-eqb, ne_eqb}
use native.Mathlib.Omega.{arith}
use Rattle.text.proofs.class_of.Goals as goal

pub returns-then-b-eq44 : goal.returns-then-b-eq44
unfolding class_of
returns-then-b-eq44 c = (rw (eq-eqb _ _ c.if-b-eq44.true), omega arith)

pub returns-then-b-eq34 : goal.returns-then-b-eq34
unfolding class_of
returns-then-b-eq34 c = (rw (ne_eqb _ _ c.if-b-eq44.false, eq-eqb _ _ c.if-b-eq34.true), omega arith)

pub returns : goal.returns
unfolding class_of
returns c = (rw (ne_eqb _ _ c.if-b-eq44.false, ne_eqb _ _ c.if-b-eq34.false), omega arith)
