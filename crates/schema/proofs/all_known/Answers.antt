-- `schema::all_known` meets its contract.
use Rattle.schema.proofs.Laws.{made_by}
use Rattle.meaning.specs.Columns.{unknown, column_of}
use Rattle.std.proofs.Common.{rules}
use native.Mathlib.Omega.{arith}
use Rattle.schema.proofs.all_known.Goals as goal

pub invariant_of-result : goal.invariant_of-result
invariant_of-result c = record {
  in_range = c.requires;
  known = λ k h. made_by c.from_fn-columns.result (column_of c.args.f) unknown.column 10 (λ i y q b k. search rules) 10 0 (omega arith) c.from_fn-columns.ensures.items.each k (omega arith) h;
}
