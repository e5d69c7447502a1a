-- `lookup::is_misplaced` meets its contract.
use Rattle.lookup.proofs.Laws.{handed, misplaced_start, misplaced_end, misplaced_back}
use mathlib.Core.Path.{sym, ◌∙◌}
use Rattle.lookup.proofs.is_misplaced.Goals as goal

pub returns-then-not-is_within : goal.returns-then-not-is_within
returns-then-not-is_within c = misplaced_start _ _ _ (rw (handed _ c.ranges.a) at (sym c.is_within.ensures ∙ c.if-not-is_within.true))

pub returns-then-not-is_within-2 : goal.returns-then-not-is_within-2
returns-then-not-is_within-2 c = misplaced_end _ _ _ (rw (handed _ c.ranges.a) at (sym c.is_within.ensures ∙ c.if-not-is_within.false)) (rw (handed _ c.ranges.e) at (sym c.is_within-2.ensures ∙ c.if-not-is_within-2.true))

pub returns : goal.returns
returns c =
    rw (handed _ c.ranges.e, handed _ c.ranges.a)
    (misplaced_back _ _ _ (rw (handed _ c.ranges.a) at (sym c.is_within.ensures ∙ c.if-not-is_within.false)) (rw (handed _ c.ranges.e) at (sym c.is_within-2.ensures ∙ c.if-not-is_within-2.false)))
