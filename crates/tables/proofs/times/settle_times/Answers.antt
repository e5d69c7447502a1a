-- `tables::times::settle_times` meets its contract.
use Rattle.tables.proofs.Waits.{settle_start, settle_turn, settle_end}
use native.Mathlib.Omega.{arith}
use Rattle.tables.proofs.times.settle_times.Goals as goal

pub loop-r-init : goal.loop-r-init
loop-r-init c = λ w s lent count room kept. settle_start w s lent (omega arith) _ count room _ kept

pub settle-requires : goal.settle-requires
settle-requires c = omega (arith, c.loop-r-test.true, c.loop-r.auto.t, c.requires.0, c.new.ensures)

pub loop-r-preserved : goal.loop-r-preserved
loop-r-preserved c = λ w s lent count room kept.
    settle_turn w s lent (omega arith) _ count room _ kept _ _ _ c.loop-r.auto.r (omega (arith, c.loop-r-test.true)) (c.loop-r.invariant w s lent count room kept) (rw c.new.ensures at c.settle.ensures)

pub returns : goal.returns
returns c = λ w s lent count room kept. settle_end w s lent (omega arith) _ count room _ kept _ c.loop-r.r (omega (arith, c.loop-r-test.false)) (c.loop-r.invariant w s lent count room kept)
