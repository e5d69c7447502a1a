-- `schema::columns_of` meets its contract.
use Rattle.meaning.specs.Columns as X
use mathlib.Core.Path.{◌≡◌}
use native.Mathlib.Omega.{arith}
use Rattle.schema.proofs.columns_of.Goals as goal

pub returns-in-1 : goal.returns-in-1
unfolding X.schema X.schemas X.stops_columns X.routes_columns X.calendar_columns X.trips_columns X.stop_times_columns X.calendar_dates_columns
returns-in-1 c = rw c.in-1.is

pub returns-in-2 : goal.returns-in-2
unfolding X.schema X.schemas X.stops_columns X.routes_columns X.calendar_columns X.trips_columns X.stop_times_columns X.calendar_dates_columns
returns-in-2 c = rw c.in-2.is

pub returns-in-3 : goal.returns-in-3
unfolding X.schema X.schemas X.stops_columns X.routes_columns X.calendar_columns X.trips_columns X.stop_times_columns X.calendar_dates_columns
returns-in-3 c = rw c.in-3.is

pub returns-in-4 : goal.returns-in-4
unfolding X.schema X.schemas X.stops_columns X.routes_columns X.calendar_columns X.trips_columns X.stop_times_columns X.calendar_dates_columns
returns-in-4 c = rw c.in-4.is

pub returns-in-5 : goal.returns-in-5
unfolding X.schema X.schemas X.stops_columns X.routes_columns X.calendar_columns X.trips_columns X.stop_times_columns X.calendar_dates_columns
returns-in-5 c = rw c.in-5.is

pub returns-in-6 : goal.returns-in-6
unfolding X.schema X.schemas X.stops_columns X.routes_columns X.calendar_columns X.trips_columns X.stop_times_columns X.calendar_dates_columns
returns-in-6 c = rw c.in-6.is

pub returns-in_default : goal.returns-in_default
unfolding X.schema X.schemas X.stops_columns X.routes_columns X.calendar_columns X.trips_columns X.stop_times_columns X.calendar_dates_columns
returns-in_default c = let z : c.args.f ≡ 0 = omega arith in rw z
