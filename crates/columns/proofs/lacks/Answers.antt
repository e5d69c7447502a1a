-- `columns::lacks` meets its contract.
use Rattle.columns.proofs.Laws.{some_any}
use Rattle.columns.specs.Columns.{lacking}
use Rattle.meaning.specs.Columns.{column_of, count_of}
use Rattle.std.proofs.Common.{rules, tests}
use Rattle.std.proofs.lemmas.Iterator.{YieldsList-from_range}
use Rattle.std.proofs.lemmas.Iterator.Search.{any_from_yields_List}
use mathlib.Core.Bool.{◌&&◌}
use mathlib.Core.Path.{refl, ◌∙◌}
use native.Mathlib.Omega.{arith}
use lib.Dec.{eqb}
use lib.ListN.{get_or}
use Rattle.columns.proofs.lacks.Goals as goal

pub returns : goal.returns
unfolding lacking
returns c =
    any_from_yields_List (λ k. (column_of c.args.f k).must && eqb (get_or c.args.at k 0) 0) _ _ c.any.result c.any.ensures.ran (YieldsList-from_range 0 c.count.result (count_of c.args.f) refl (omega (arith, c.count.ensures.0))) (λ x b q k. search (rules, tests))
    ∙ some_any _ 0 (count_of c.args.f)
