-- `columns::near_cells` meets its contract.
use Rattle.columns.proofs.Laws.{put_more, put_all}
use Rattle.columns.specs.Columns.{field_by}
use mathlib.Core.Path.{◌≡◌, ◌∙◌}
use native.Mathlib.Omega.{arith}
use lib.ListN.{length, length-set}
use Rattle.columns.proofs.near_cells.Goals as goal

pub loop-k-preserved : goal.loop-k-preserved
loop-k-preserved c =
    let i = c.loop-k.invariant in
    (length-set _ _ _ ∙ i.0, put_more (field_by c.args.count c.args.starts.now) c.args.at _ _ _ (omega arith) c.field_by.ensures i.1)

pub returns : goal.returns
returns c =
    let i = c.loop-k.invariant in
    let w : length c.args.at ≡ 10 = omega arith in
    put_all _ _ _ _ (omega arith) (omega arith) i.1
