-- `trip_walk::mark_times` meets its contract.
use mathlib.Core.Path.{◌∙◌}
use native.Mathlib.Omega.{arith}
use Rattle.trip_walk.proofs.Table.{told_kept}
use Rattle.trip_walk.proofs.mark_times.Goals as goal

pub rank-requires : goal.rank-requires
rank-requires c = record {
  n_in_bounds = (c.requires.n_in_bounds.0, c.requires.n_in_bounds.1.0);
  by_index = λ r. c.requires.untold 13 r (omega arith) (omega arith);
}

pub walk-requires : goal.walk-requires
walk-requires c = record {
  ranged = (c.rank.ensures.ranged, rw c.rank.ensures.only_met.size c.requires.n_in_bounds.1.1);
  by_index = λ b q i j. c.rank.ensures.only_met.other b q (λ e. omega arith) ∙ c.requires.untold b q i (omega arith);
}

pub returns : goal.returns
returns c = record {
  kept_at = c.rank.ensures.kept_at;
  told = told_kept _ c.rank.ensures.kept_at c.walk.ensures.told;
  m_len_unchanged = c.walk.ensures.kept_marks.size ∙ c.rank.ensures.only_met.size;
  by_index = λ b q i. c.walk.ensures.kept_marks.below b q i ∙ c.rank.ensures.only_met.other b q (λ e. omega arith);
}
