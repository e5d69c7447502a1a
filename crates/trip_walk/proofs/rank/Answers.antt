-- `trip_walk::rank` meets its contract.
use native.Mathlib.Omega.{arith}
use Rattle.ordering.proofs.Laws.{kept_trans}
use Rattle.trip_walk.proofs.Ranks.{ranged_file, ranged_sorted}
use Rattle.trip_walk.proofs.rank.Goals as goal

pub list_all-requires : goal.list_all-requires
list_all-requires c = (record { wide = omega arith; narrow = omega arith; rows = c.requires.n_in_bounds.0 }, c.requires.n_in_bounds.1)

pub is_steady-requires : goal.is_steady-requires
is_steady-requires c = record {
  n_bound = c.requires.n_in_bounds.1;
  by_index = c.requires.by_index;
}

pub returns-then-is_steady : goal.returns-then-is_steady
returns-then-is_steady c = record {
  ranged = ranged_file _ _ _ c.list_all.ensures.listed (c.is_steady.ensures.by_index_2 _ c.if-is_steady.true);
  kept_at = c.list_all.ensures.kept_at;
  only_met = c.is_steady.ensures.only_met;
}

pub sort-requires : goal.sort-requires
sort-requires c =
    (record { wide = omega arith; narrow = omega arith; rows = omega (arith, c.list_all.ensures.kept_at.size, c.requires.n_in_bounds.0) }, omega arith)

pub returns : goal.returns
returns c = record {
  ranged = ranged_sorted _ _ _ c.list_all.ensures.listed _ c.sort.ensures.sorted c.sort.ensures.moved c.sort.ensures.kept_at;
  kept_at = kept_trans c.list_all.ensures.kept_at c.sort.ensures.kept_at;
  only_met = c.is_steady.ensures.only_met;
}
