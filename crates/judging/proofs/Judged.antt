-- Laws: judged by what its tables hold, a line breaks exactly the rules that the definitions say.
use Prim.Native.Nat.{ℕ, ◌-◌}
use mathlib.Core.Path.{◌≡◌, refl, sym, ap, ap₂, ◌∙◌}
use mathlib.Core.List.{List, [], ◌∷◌, ◌++◌}
use mathlib.Core.Bool.{Bool, true, false, not, ◌&&◌, ◌||◌}
use lib.ListN.{length}
use lib.Dec.{ltb, leb, eqb}
use borrow.Author.Tests.{eqb-false}
use Rattle.num.specs.Signs.{nat_of}
use Rattle.meaning.specs.declared.Time.{Time}
use Rattle.meaning.specs.declared.Profile.{Profile}
use Rattle.meaning.specs.declared.Profile.TheVariants.{Plain, Boards}
use Rattle.meaning.specs.Columns.{Row}
use Rattle.meaning.specs.Refusals.{Test}
use Rattle.meaning.specs.Forms.{time_of, date_of}
use Rattle.meaning.specs.Tables.{Feed, stop_ids, refer, parent_station, start_date, end_date, trip_id, arrival_time, departure_time, time_stop, pickup_type, drop_off_type, timepoint, or_zero, or_minus, kind_of}
use Rattle.meaning.specs.Rules.{row, dangling, rule21·stops, in_neither, rule21·trips, rule21·times, other_kind, kind_of_parent, rule22, rule23, rule24, given, seconds_of, timed, untimed, arrives, departs, rule26, rule27, of_trip_line, first_of_trip, rule30, open_ended, rule31, two_days, is_late, rule60, rule61, rule62, added_rules, stop_rules, route_rules, service_rules, trip_rules, time_rules, date_rules}
use Rattle.meaning.proofs.References.{dangling_refer}
use Rattle.judging.specs.Judging.{loose, off_kind, both_given, half_timed, sooner, on_request, filled_up, stop_judged, route_judged, service_judged, trip_judged, time_judged, times_asked, date_judged, tests_from}
use Rattle.judging.proofs.Stored.{kind_number, one_number, two_or_three_number, late_seconds}
use Rattle.rows.proofs.Stored.{day_stored, given_stored, seconds_stored}
use Rattle.judging.proofs.Seen.{Refers, KindAt, IsTime, StopSeen, RouteSeen, ServiceSeen, TripSeen, TimeSeen, DateSeen}

-- ---- one rule

-- what is not not so is so
pub twice_not : (b : Bool) → not (not b) ≡ b
twice_not true = refl
twice_not false = refl

-- a test that is asked only where another doesn't hold
unless : (t b c : Bool) → (t ≡ false → b ≡ c) → (not t && b) ≡ (not t && c)
unless true b c h = refl
unless false b c h = h refl

-- a test that is asked only of what is there
asked : (k : ℕ) (b c : Bool) → ((k ≡ 0 → ⊥) → b ≡ c) → (not (eqb k 0) && b) ≡ (not (eqb k 0) && c)
asked k b c h = unless (eqb k 0) b c (λ e. h (eqb-false k 0 e))

loose_is : {v : List ℕ} {ids : List (List ℕ)} {none : Bool} {k : ℕ} → Refers v ids none k → dangling v ids ≡ loose none k
loose_is {v} {ids} e = rw (e.bare, e.resolves) (dangling_refer v ids)

off_kind_is : (w : Feed) (m : ℕ) (v : List ℕ) (k kind : ℕ) → k ≡ refer v (stop_ids w) → KindAt w k kind → other_kind w m v ≡ off_kind m k kind
unfolding other_kind
off_kind_is w m v k kind e h =
    rw (← e)
    (asked k _ _ (λ z. ap (λ n. not (eqb n m)) (sym (h z ∙ kind_number (row w.stops (k - 1))))))

given_is : (v : List ℕ) (t : Time) → IsTime v t → given (time_of v) ≡ given t
given_is v t e = rw e (sym (given_stored (time_of v)))

seconds_is : (v : List ℕ) (t : Time) → IsTime v t → seconds_of (time_of v) ≡ seconds_of t
seconds_is v t e = rw e (sym (seconds_stored (time_of v)))

late_is : (v : List ℕ) (t : Time) → IsTime v t → is_late (time_of v) ≡ is_late t
late_is v t e = late_seconds (time_of v) ∙ ap (leb two_days) (seconds_is v t e) ∙ sym (late_seconds t)

-- ---- rules 26 and 27, and 60 to 62

module _ (r : Row) (arrival departure : Time) (a : IsTime (arrival_time r) arrival) (d : IsTime (departure_time r) departure) where
  timed_is : timed r ≡ both_given arrival departure
  unfolding timed
  timed_is = rw (given_is (arrival_time r) arrival a, given_is (departure_time r) departure d)

module _ (w : Feed) (i : ℕ) (arrival departure : Time) (a : IsTime (arrival_time (row w.stop_times i)) arrival) (d : IsTime (departure_time (row w.stop_times i)) departure) where
  half_is : (point : ℕ) → point ≡ nat_of (or_minus 1 (timepoint (row w.stop_times i))) → rule26 w i ≡ half_timed arrival departure point
  unfolding rule26 untimed
  half_is point p =
      let r = row w.stop_times i in
      rw (
        timed_is r arrival departure a d,
        given_is (arrival_time r) arrival a,
        given_is (departure_time r) departure d,
        p,
        one_number 1 (timepoint r),
      )

  backward_is : rule27 w i ≡ both_given arrival departure && sooner departure arrival
  unfolding rule27 arrives departs
  backward_is =
      let r = row w.stop_times i in
      rw (
        timed_is r arrival departure a d,
        seconds_is (arrival_time r) arrival a,
        seconds_is (departure_time r) departure d,
      )

  untimed_is : rule60 w i ≡ not (both_given arrival departure)
  unfolding rule60 untimed
  untimed_is = rw (timed_is (row w.stop_times i) arrival departure a d)

  late_times_is : rule62 w i ≡ (is_late arrival || is_late departure)
  unfolding rule62
  late_times_is = let r = row w.stop_times i in rw (late_is (arrival_time r) arrival a, late_is (departure_time r) departure d)

request_is : (w : Feed) (i pickup drop_off : ℕ) → pickup ≡ nat_of (or_zero 3 (pickup_type (row w.stop_times i))) → drop_off ≡ nat_of (or_zero 3 (drop_off_type (row w.stop_times i)))
    → rule61 w i ≡ on_request pickup drop_off
unfolding rule61
request_is w i pickup drop_off a b =
    let r = row w.stop_times i in
    rw (a, b, two_or_three_number 3 (pickup_type r), two_or_three_number 3 (drop_off_type r))

-- ---- one line of each file

module _ {w : Feed} {i : ℕ} where
  pub stop_judged_lem :
      {repeats none : Bool} {parent kind has : ℕ}
      → StopSeen w i repeats none parent kind has
      → stop_rules w i ≡ tests_from (filled_up 0 (20 ∷ 21 ∷ 22 ∷ [])) (stop_judged repeats none parent kind has) 3
  unfolding stop_rules tests_from filled_up stop_judged rule21·stops rule22
  stop_judged_lem {repeats} {none} {parent} {kind} {has} s =
      let v = parent_station (row w.stops i) in
      let e : kind_of (row w.stops i) ≡ kind = sym (s.kinds ∙ kind_number (row w.stops i)) in
      rw (
        ← s.again,
        loose_is s.parents,
        e,
        off_kind_is w (kind_of_parent kind) v parent has s.parents.resolves s.parent_kinds,
        ← s.parents.bare,
      )

  pub route_judged_lem :
      {repeats nameless : Bool}
      → RouteSeen w i repeats nameless
      → route_rules w i ≡ tests_from (filled_up 0 (20 ∷ 25 ∷ [])) (route_judged repeats nameless) 2
  unfolding route_rules tests_from filled_up route_judged
  route_judged_lem s = rw (← s.again, ← s.names)

  pub service_judged_lem :
      {repeats : Bool} {start end : ℕ}
      → ServiceSeen w i repeats start end
      → service_rules w i ≡ tests_from (filled_up 0 (20 ∷ 24 ∷ [])) (service_judged repeats start end) 2
  unfolding service_rules tests_from filled_up service_judged rule24
  service_judged_lem {repeats} {start} {end} s =
      let r = row w.calendar i in
      rw (← s.again, s.starts, s.ends, day_stored (date_of (start_date r)), day_stored (date_of (end_date r)))

  pub trip_judged_lem :
      {repeats : Bool} {route service dated : ℕ} {paired openEnd : Bool}
      → TripSeen w i repeats route service dated paired openEnd
      → trip_rules w i ≡ tests_from (filled_up 0 (20 ∷ 21 ∷ 30 ∷ 31 ∷ [])) (trip_judged repeats route service dated paired openEnd) 4
  unfolding trip_rules tests_from filled_up trip_judged rule21·trips in_neither rule30 rule31 first_of_trip
  trip_judged_lem {repeats} {route} {service} {dated} {paired} {openEnd} s =
      let few = ltb (length (of_trip_line w i)) 2 in
      rw (
        ← s.again,
        loose_is s.routed,
        loose_is s.served,
        loose_is s.on_dates,
        unless repeats few (not paired) (λ e. sym (ap not (s.pairs e) ∙ twice_not few)),
        unless repeats (open_ended w (trip_id (row w.trips i))) openEnd (λ e. sym (s.ends e)),
      )

  module _ {trip stop stopKind : ℕ} {arrival departure : Time} {pickup drop_off point : ℕ} {equal falling : Bool}
      (s : TimeSeen w i trip stop stopKind arrival departure pickup drop_off point equal falling) where
    abbrev judged : Profile → List Test
    judged asked =
        tests_from (21 ∷ 23 ∷ 26 ∷ 27 ∷ 28 ∷ 29 ∷ 60 ∷ 61 ∷ 62 ∷ [])
        (time_judged trip stop stopKind arrival departure pickup drop_off point equal falling)
        (times_asked asked)

    plain_judged : time_rules Plain w i ≡ judged Plain
    unfolding time_rules added_rules tests_from time_judged rule21·times rule23
    plain_judged =
        rw (
          loose_is s.trips,
          loose_is s.halts,
          off_kind_is w 0 (time_stop (row w.stop_times i)) stop stopKind s.halts.resolves s.kinds,
          half_is w i arrival departure s.arrived s.departed point s.points,
          backward_is w i arrival departure s.arrived s.departed,
          ← s.equals,
          ← s.falls,
        )

    pub time_judged_lem : (asked : Profile) → time_rules asked w i ≡ judged asked
    unfolding time_rules added_rules tests_from time_judged
    time_judged_lem Plain = plain_judged
    time_judged_lem Boards =
        ap₂ ◌++◌ plain_judged
        (rw (
          untimed_is w i arrival departure s.arrived s.departed,
          request_is w i pickup drop_off s.boards s.alights,
          late_times_is w i arrival departure s.arrived s.departed,
        ))

  pub date_judged_lem :
      {repeats : Bool} → DateSeen w i repeats → date_rules w i ≡ tests_from (filled_up 0 (20 ∷ [])) (date_judged repeats) 1
  unfolding date_rules tests_from filled_up date_judged
  date_judged_lem s = rw (← s.again)
