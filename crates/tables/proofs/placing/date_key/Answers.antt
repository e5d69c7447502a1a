-- `tables::placing::date_key` meets its contract.
use Rattle.values.proofs.Readings.{in_row}
use Rattle.meaning.specs.Forms.{date_of}
use Rattle.meaning.specs.Tables.{day}
use Rattle.tables.specs.Walk.{date_key}
use mathlib.Core.Path.{refl, sym, ap, ◌∙◌}
use mathlib.Core.List.{List}
use Prim.Native.Nat.{ℕ}
use native.Mathlib.Omega.{arith}
use borrow.Author.Tests.{eq-eqb, ne_eqb}
use Rattle.tables.proofs.placing.date_key.Goals as goal

pub returns-then-f-eq-FILE : goal.returns-then-f-eq-FILE
unfolding date_key
returns-then-f-eq-FILE c =
    let s = c.args in
    let d = c.date.ensures in record {
      by_index = (λ ps loc. rw (eq-eqb _ 6 c.if-f-eq-FILE.true) (d.0 ∙ sym (ap (λ (v : List ℕ). day (date_of v)) (in_row ps s.l.now.line.now s.l.now.cells loc 1))));
      upper_bound = d.1;
    }

pub returns : goal.returns
unfolding date_key
returns c = record {
  by_index = (λ ps loc. rw (ne_eqb _ 6 c.if-f-eq-FILE.false) refl);
  upper_bound = omega arith;
}
