-- `rows::cells::zero_record` meets its contract.
use mathlib.Core.Path.{◌≡◌}
use lib.IntN.{pos}
use lib.ListN.{replicate}
use lib.Seq.{length-take-le}
use Rattle.rows.proofs.Laws.{laid_fill}
use Rattle.rows.proofs.cells.zero_record.Goals as goal

pub returns : goal.returns
returns c =
    let e : c.fill.new.self ≡ replicate c.args.width (pos 0) = rw (← length-take-le c.args.width c.args.t.now c.requires) (c.fill.ensures.after (λ y e. e)) in
    rw e (laid_fill c.args.width (pos 0) c.args.t.now)
