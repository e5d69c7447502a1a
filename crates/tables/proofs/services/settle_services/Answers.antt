-- `tables::services::settle_services` meets its contract.
use Rattle.tables.proofs.Feeds.{none_index, none_lists}
use native.Mathlib.Omega.{arith}
use Rattle.tables.proofs.services.settle_services.Goals as goal

pub settle_among-requires : goal.settle_among-requires
settle_among-requires c =
    let s = c.requires.n_in_bounds in record {
      placed = none_index _ _ 4 (omega arith) (omega arith) (omega arith);
      n_in_bounds = (s.0, (s.1.0, omega arith));
    }

pub returns-then-dates-eq0 : goal.returns-then-dates-eq0
returns-then-dates-eq0 c = record {
  kept_at = c.settle_among.ensures.kept_at;
  by_index = λ ids lists. c.settle_among.ensures.by_index ids (none_lists _ _ 4 (omega arith) (omega arith) (omega arith) ids (lists.1 c.if-dates-eq0.true));
}

pub settle_among-requires-2 : goal.settle_among-requires-2
settle_among-requires-2 c = record {
  placed = c.requires.indexed_if (omega (arith, c.if-dates-eq0.false));
  n_in_bounds = c.requires.n_in_bounds;
}

pub returns : goal.returns
returns c = record {
  kept_at = c.settle_among-2.ensures.kept_at;
  by_index = λ ids lists. c.settle_among-2.ensures.by_index ids (lists.0 (omega (arith, c.if-dates-eq0.false)));
}
