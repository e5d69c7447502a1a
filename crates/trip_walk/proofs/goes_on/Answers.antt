-- `trip_walk::goes_on` meets its contract.
use Rattle.trip_walk.proofs.File.{goes_linked, goes_fresh, goes_out}
use mathlib.Core.Path.{refl}
use Rattle.trip_walk.proofs.goes_on.Goals as goal

pub returns-then-is_after : goal.returns-then-is_after
returns-then-is_after c = goes_linked c.args.t.now c.args.m.now c.args.i _ _ (rw c.new.ensures at c.trip_at-r.ensures) refl _ _ _ c.if-r-m.true c.is_after.ensures c.if-is_after.true (rw c.new-then-is_after.ensures at c.sequence_at-x.ensures) (rw c.new-then-is_after-2.ensures at c.sequence_at-y.ensures)

pub returns-then-r-m : goal.returns-then-r-m
returns-then-r-m c = goes_fresh c.args.t.now c.args.m.now c.args.i _ _ (rw c.new.ensures at c.trip_at-r.ensures) refl _ _ c.if-r-m.true c.is_after.ensures c.if-is_after.false c.is_marked.ensures

pub returns : goal.returns
returns c = goes_out c.args.t.now c.args.m.now c.args.i _ _ (rw c.new.ensures at c.trip_at-r.ensures) refl c.if-r-m.false
