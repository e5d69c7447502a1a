-- `seeking::first_record` meets its contract.
use Rattle.seeking.proofs.Laws.{seek_past, seek_none, seek_found, same_cell}
use Rattle.ordering.proofs.Laws.{room_row}
use Rattle.ordering.specs.Ids.{in_order, no_later}
use mathlib.Core.Path.{◌∙◌}
use borrow.Author.Rules.{rules}
use Rattle.seeking.proofs.first_record.Goals as goal

pub lower-at-requires : goal.lower-at-requires
unfolding in_order no_later
lower-at-requires c = search rules

pub returns-then-a-at : goal.returns-then-a-at
unfolding in_order no_later
returns-then-a-at c =
    let p = c.requires in let every = seek_past _ _ _ _ _ p.0 p.1.whole p.1.sorted _ c.lower-at.ensures c.if-a-at.true in record {
      first = every.0;
      upper_bound = every.1;
    }

pub get-r-requires : goal.get-r-requires
get-r-requires c = rw c.by_id.ensures (c.requires.1.room.wide, room_row c.requires.1.room _ c.if-a-at.false)

pub returns-then-same_values : goal.returns-then-same_values
unfolding in_order no_later
returns-then-same_values c =
    let p = c.requires in
    let e = same_cell _ _ c.args.w c.lower-at.result _ _ _ _ (rw c.by_id.ensures at c.get-r.ensures.0) c.raw_id.ensures c.same_values.ensures ∙ c.if-same_values.true in
    let every = seek_found _ _ _ _ _ p.0 p.1.whole p.1.sorted _ c.lower-at.ensures c.if-a-at.false e in record {
      first = rw (rw c.by_id.ensures at c.get-r.ensures.0) every.0;
      upper_bound = rw (rw c.by_id.ensures at c.get-r.ensures.0) every.1;
    }

pub returns : goal.returns
unfolding in_order no_later
returns c =
    let p = c.requires in
    let e = same_cell _ _ c.args.w c.lower-at.result _ _ _ _ (rw c.by_id.ensures at c.get-r.ensures.0) c.raw_id.ensures c.same_values.ensures ∙ c.if-same_values.false in let every = seek_none _ _ _ _ _ p.0 p.1.whole p.1.sorted _ c.lower-at.ensures e in record {
      first = every.0;
      upper_bound = every.1;
    }
