-- What the loop of `repeats::mark_repeats` keeps.
use Rattle.repeats.proofs.Laws.{Walking}
use Rattle.repeats.proofs.mark_repeats.Given as goal

abbrev pub invariant-loop-k : goal.invariant-loop-k
invariant-loop-k l = Walking l.order.by l.s l.order.cell l.order.width l.n l.t l.f l.initial.m l.m l.k
