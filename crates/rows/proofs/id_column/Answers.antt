-- `rows::id_column` meets its contract.
use Rattle.meaning.specs.Tables.{id_column}
use borrow.Author.Tests.{eq-eqb, ne_eqb}
use native.Mathlib.Omega.{arith}
use Rattle.rows.proofs.id_column.Goals as goal

pub returns-then-f-eq-FILE : goal.returns-then-f-eq-FILE
unfolding id_column
returns-then-f-eq-FILE c = (rw (eq-eqb _ 4 c.if-f-eq-FILE.true), omega arith)

pub returns : goal.returns
unfolding id_column
returns c = (rw (ne_eqb _ 4 c.if-f-eq-FILE.false), omega arith)
