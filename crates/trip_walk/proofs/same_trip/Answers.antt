-- `trip_walk::same_trip` meets its contract.
use Rattle.trip_walk.proofs.Turns.{trips_differ, trips_stand, trips_stray}
use Rattle.trip_walk.proofs.same_trip.Goals as goal

pub returns-then-a-b : goal.returns-then-a-b
returns-then-a-b c =
    let a = c.args in
    trips_differ a.s.now a.t.now a.x a.y _ _ (rw c.new.ensures at c.trip_at-a.ensures) (rw c.new-2.ensures at c.trip_at-b.ensures) c.if-a-b.true

pub returns-then-a-ne0 : goal.returns-then-a-ne0
returns-then-a-ne0 c =
    let a = c.args in
    trips_stand a.s.now a.t.now a.x a.y _ _ (rw c.new.ensures at c.trip_at-a.ensures) (rw c.new-2.ensures at c.trip_at-b.ensures) c.if-a-b.false c.if-a-ne0.true

pub returns : goal.returns
returns c =
    let a = c.args in
    trips_stray a.s.now a.t.now a.x a.y _ _ (rw c.new.ensures at c.trip_at-a.ensures) (rw c.new-2.ensures at c.trip_at-b.ensures) _ _ _ c.if-a-b.false c.if-a-ne0.false c.raw_trip.ensures c.raw_trip-2.ensures c.same_value.ensures
