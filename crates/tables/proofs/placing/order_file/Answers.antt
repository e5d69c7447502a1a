-- `tables::placing::order_file` meets its contract.
use Rattle.tables.proofs.FirstWalk.{order_room, placed_length, walked_is, ordered_is}
use Rattle.tables.proofs.Feeds.{ordered_count}
use Rattle.tables.proofs.Marking.{marking_by, repeated_ids}
use Rattle.tables.proofs.Turns.{three_wide}
use mathlib.Core.Path.{ap, ◌∙◌}
use native.Mathlib.Omega.{arith}
use lib.ListN.{length}
use Rattle.tables.proofs.placing.order_file.Goals as goal

pub arrange-requires : goal.arrange-requires
arrange-requires c =
    rw c.width_of-width.ensures (order_room 2 c.args.f (three_wide _ c.requires.0 (omega (arith, c.requires.1.0))) c.args.s.now c.args.t.now _ _ c.requires.1.1 (ap length c.place_file-n.ensures.t_after ∙ placed_length c.args.f c.requires.0 (omega (arith, c.requires.1.0)) c.args.s.now c.args.t.now c.requires.1.1) c.place_file-n.ensures.result_value)

pub mark_repeats-requires : goal.mark_repeats-requires
mark_repeats-requires c = (rw c.by_id.ensures c.arrange.ensures.arranged, omega (arith, c.requires.1.0))

pub returns : goal.returns
returns c =
    let e = c.width_of-width.ensures in
    let first = walked_is c.args.f c.requires.0 (omega (arith, c.requires.1.0)) c.args.s.now c.args.t.now c.requires.1.1 _ _ c.place_file-n.ensures.result_value c.place_file-n.ensures.t_after in
    let o = ordered_is c.args.f _ _ _ _ _ (three_wide _ c.requires.0 (omega (arith, c.requires.1.0))) first (rw e at c.arrange.ensures.arranged) (rw e at c.arrange.ensures.kept) in
    let r = rw (c.by_id.ensures, e) at c.mark_repeats.ensures in record {
      ordered = o;
      marking = marking_by _ _ _ _ _ _ _ _ _ c.place_file-n.ensures.result_value c.place_file-n.ensures.telling r (repeated_ids _ _ _ _ _ _ _ (λ z. omega (arith, c.requires.1.0)) o.held (ordered_count _ _ _ _ _ o) r);
    }
