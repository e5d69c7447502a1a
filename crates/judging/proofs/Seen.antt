-- What the arguments of a judgement are to be: what the tables hold of a line.
use Prim.Native.Nat.{ℕ, ◌-◌}
use mathlib.Core.Path.{◌≡◌}
use mathlib.Core.List.{List}
use mathlib.Core.Bool.{Bool, false, not}
use lib.ListN.{length}
use lib.Dec.{ltb}
use Rattle.num.specs.Signs.{nat_of}
use Rattle.meaning.specs.declared.Time.{Time}
use Rattle.meaning.specs.Lists.{empty}
use Rattle.meaning.specs.Forms.{time_of, date_of}
use Rattle.meaning.specs.Tables.{Feed, stop_ids, route_ids, service_ids, trip_ids, dated_ids, refer, location_type, parent_station, start_date, end_date, trip_route, trip_service, trip_id, time_trip, arrival_time, departure_time, time_stop, pickup_type, drop_off_type, timepoint, or_zero, or_minus, day, seconds}
use Rattle.meaning.specs.Rules.{row, rule20, rule20·dates, rule25, rule28, rule29, of_trip_line, open_ended}
use Rattle.rows.specs.Cells.{time_in}

-- a reference: whether it is empty, and its record
pub record Refers (v : List ℕ) (ids : List (List ℕ)) (none : Bool) (k : ℕ) : Type 0 where
  pub bare : none ≡ empty v
  pub resolves : k ≡ refer v ids

-- the kind of the stop on record k, where there is one
abbrev pub KindAt : Feed → ℕ → ℕ → Type 0
KindAt w k kind = (k ≡ 0 → ⊥) → kind ≡ nat_of (or_zero 4 (location_type (row w.stops (k - 1))))

-- a stored time
abbrev pub IsTime : List ℕ → Time → Type 0
IsTime v t = t ≡ time_in (seconds (time_of v))

pub record StopSeen (w : Feed) (i : ℕ) (repeats none : Bool) (parent kind kind_of_parent : ℕ) : Type 0 where
  pub again : repeats ≡ rule20 (stop_ids w) i
  pub parents : Refers (parent_station (row w.stops i)) (stop_ids w) none parent
  pub kinds : kind ≡ nat_of (or_zero 4 (location_type (row w.stops i)))
  pub parent_kinds : KindAt w parent kind_of_parent

pub record RouteSeen (w : Feed) (i : ℕ) (repeats nameless : Bool) : Type 0 where
  pub again : repeats ≡ rule20 (route_ids w) i
  pub names : nameless ≡ rule25 w i

pub record ServiceSeen (w : Feed) (i : ℕ) (repeats : Bool) (start end : ℕ) : Type 0 where
  pub again : repeats ≡ rule20 (service_ids w) i
  pub starts : start ≡ nat_of (day (date_of (start_date (row w.calendar i))))
  pub ends : end ≡ nat_of (day (date_of (end_date (row w.calendar i))))

-- neither reference of a line of trips is empty; on a line whose id stands on an earlier one the trip's lines aren't asked for
pub record TripSeen (w : Feed) (i : ℕ) (repeats : Bool) (route service dated : ℕ) (paired openEnd : Bool) : Type 0 where
  pub again : repeats ≡ rule20 (trip_ids w) i
  pub routed : Refers (trip_route (row w.trips i)) (route_ids w) false route
  pub served : Refers (trip_service (row w.trips i)) (service_ids w) false service
  pub on_dates : Refers (trip_service (row w.trips i)) (dated_ids w) false dated
  pub pairs : repeats ≡ false → paired ≡ not (ltb (length (of_trip_line w i)) 2)
  pub ends : repeats ≡ false → openEnd ≡ open_ended w (trip_id (row w.trips i))

-- nor is one of a line of stop_times
pub record TimeSeen (w : Feed) (i trip stop stopKind : ℕ) (arrival departure : Time) (pickup drop_off point : ℕ) (equal falling : Bool) : Type 0 where
  pub trips : Refers (time_trip (row w.stop_times i)) (trip_ids w) false trip
  pub halts : Refers (time_stop (row w.stop_times i)) (stop_ids w) false stop
  pub kinds : KindAt w stop stopKind
  pub arrived : IsTime (arrival_time (row w.stop_times i)) arrival
  pub departed : IsTime (departure_time (row w.stop_times i)) departure
  pub boards : pickup ≡ nat_of (or_zero 3 (pickup_type (row w.stop_times i)))
  pub alights : drop_off ≡ nat_of (or_zero 3 (drop_off_type (row w.stop_times i)))
  pub points : point ≡ nat_of (or_minus 1 (timepoint (row w.stop_times i)))
  pub equals : equal ≡ rule28 w i
  pub falls : falling ≡ rule29 w i

pub record DateSeen (w : Feed) (i : ℕ) (repeats : Bool) : Type 0 where
  pub again : repeats ≡ rule20·dates w i
