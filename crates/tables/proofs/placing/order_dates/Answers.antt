-- `tables::placing::order_dates` meets its contract.
use Rattle.meaning.specs.Tables.{widths, width_of}
use Rattle.tables.proofs.Feeds.{fits_room, ordered_count}
use Rattle.tables.proofs.FirstWalk.{order_room, placed_length, walked_is, walked_kept, ordered_is, dates_keyed}
use Rattle.tables.proofs.Marking.{marking_none, marking_by, repeated_dates}
use mathlib.Core.Path.{refl, ap, ◌∙◌}
use native.Mathlib.Omega.{arith}
use lib.ListN.{length}
use Rattle.tables.proofs.placing.order_dates.Goals as goal

pub returns-then-s-eq0 : goal.returns-then-s-eq0
returns-then-s-eq0 c =
    let e = c.if-s-eq0.true in record {
      ordered_if = record { supplied = λ h. absurd (omega arith); lacking = λ z. (refl, refl) };
      marking = marking_none 6 _ _ e;
    }

pub place_file-n-requires : goal.place_file-n-requires
place_file-n-requires c = (omega arith, (omega arith, fits_room 6 _ _ c.requires (omega (arith, c.if-s-eq0.false))))

pub mark_dates-requires : goal.mark_dates-requires
unfolding width_of widths
mark_dates-requires c =
    let room = fits_room 6 _ _ c.requires (omega (arith, c.if-s-eq0.false)) in
    order_room 3 6 (omega arith) c.args.s.now c.args.t.now _ _ room (ap length c.place_file-n.ensures.t_after ∙ placed_length 6 (omega arith) (omega arith) _ _ room) c.place_file-n.ensures.result_value

pub arrange_from-requires : goal.arrange_from-requires
unfolding width_of widths
arrange_from-requires c =
    let room = fits_room 6 _ _ c.requires (omega (arith, c.if-s-eq0.false)) in
    let k = order_room 2 6 (omega arith) c.args.s.now c.args.t.now _ _ room (c.mark_dates.ensures.kept_at.size ∙ ap length c.place_file-n.ensures.t_after ∙ placed_length 6 (omega arith) (omega arith) _ _ room) c.place_file-n.ensures.result_value in
    record { room_at = (k.0, omega arith, k.1); a_lt_w = (omega arith, λ e. omega arith); whole = (c.mark_dates.ensures.arranged_by.whole, c.mark_dates.ensures.arranged_by.apart) }

pub returns : goal.returns
unfolding width_of widths
returns c =
    let room = fits_room 6 _ _ c.requires (omega (arith, c.if-s-eq0.false)) in
    let first = walked_is 6 (omega arith) (omega arith) c.args.s.now c.args.t.now room _ _ c.place_file-n.ensures.result_value c.place_file-n.ensures.t_after in
    let walked = walked_kept 6 3 _ _ _ _ _ (omega arith) (omega arith) c.mark_dates.ensures.kept_at (λ h. absurd (omega arith)) first in
    let o = ordered_is 6 _ _ _ _ _ (omega arith) walked c.arrange_from.ensures.arranged_by c.arrange_from.ensures.kept_at in
    let keys = dates_keyed c.args.s.now c.args.t.now room _ _ _ c.place_file-n.ensures.result_value c.place_file-n.ensures.t_after c.mark_dates.ensures.kept_at in record {
      ordered_if = record { supplied = λ h. o; lacking = λ z. absurd (c.if-s-eq0.false z) };
      marking = marking_by _ 6 _ _ _ 4 _ _ _ c.place_file-n.ensures.result_value c.place_file-n.ensures.telling c.mark_dates.ensures.repeated (repeated_dates _ _ _ _ _ walked.held (ordered_count 6 _ _ _ _ o) keys c.mark_dates.ensures.repeated);
    }
