-- Laws: a line whose table is filled is judged by what its definitions say.
use Prim.Native.Nat.{ℕ, ◌+◌, ◌*◌, ◌-◌, ◌<◌}
use mathlib.Core.Path.{◌≡◌, sym, ap, ◌∙◌}
use mathlib.Core.List.{List}
use mathlib.Core.Bool.{Bool, not}
use native.Mathlib.Omega.{arith}
use lib.IntN.{ℤ}
use lib.ListN.{length, length-map}
use Rattle.meaning.specs.declared.Time.{Time}
use Rattle.meaning.specs.Lists.{empty}
use Rattle.meaning.specs.Tables.{Feed, rows_in, under, refer, stop_ids, parent_station, time_stop}
use Rattle.meaning.specs.Rules.{row, record_count, first_of_trip, rules_of}
use Rattle.meaning.proofs.References.{named}
use Rattle.marks.specs.Marks.{marked, parent_mark, nameless_mark, equal_mark, falling_mark, paired_mark, open_mark}
use Rattle.marks.specs.Noted.{ids_in}
use Rattle.rows.specs.Cells.{nat_at, time_at}
use Rattle.held.specs.Held.{Filled}
use Rattle.held.proofs.Numbers.{stop_kind, stop_parent, service_start, service_end, trip_route_lem, trip_service_lem, trip_dated, time_trip_lem, time_stop_lem, time_arrival, time_departure, time_pickup, time_drop_off, time_point}
use Rattle.judging.specs.Judging.{filled_up, stop_judged, route_judged, service_judged, trip_judged, time_judged, date_judged}
use Rattle.judging.proofs.Seen.{KindAt}
use Rattle.judging.proofs.Judged.{twice_not, stop_judged_lem, route_judged_lem, service_judged_lem, trip_judged_lem, time_judged_lem, date_judged_lem}
use Rattle.file_rules.specs.Lines.{rule_numbers, rule_count, Judges, Ready}

-- the kind of a stop that a reference resolves to
kind_referred : (w : Feed) (s : List ℕ) (t : List ℤ) (v : List ℕ) (k kind : ℕ) → Filled 1 w w.stops s t → k ≡ refer v (stop_ids w) → kind ≡ nat_at t (k * 7 + 4) → KindAt w k kind
unfolding stop_ids
kind_referred w s t v k kind h e g z =
    let n = named v (stop_ids w) (λ y. z (e ∙ y)) in
    let one : k - 1 + 1 ≡ k = omega arith in
    let inside : k - 1 < length w.stops = omega (arith, n.is, n.within, length-map w.stops (under 0)) in
    g ∙ ap (λ j. nat_at t (j * 7 + 4)) (sym one) ∙ stop_kind w s t (k - 1) h inside

module _ {w : Feed} {n : ℕ} {t stops : List ℤ} {marks : List ℕ} {i : ℕ} where
  pub stop_line_is :
      Ready 1 n w t stops marks
      → i < n
      → {repeats parented : Bool} {parent kind kind_of_parent : ℕ} {r : List Bool}
      → repeats ≡ marked marks 1 (i + 1)
      → parented ≡ marked marks parent_mark (i + 1)
      → parent ≡ nat_at t ((i + 1) * 7 + 5)
      → kind ≡ nat_at t ((i + 1) * 7 + 4)
      → kind_of_parent ≡ nat_at t (parent * 7 + 4)
      → r ≡ stop_judged repeats (not parented) parent kind kind_of_parent
      → Judges 1 w i r
  unfolding filled_up rule_numbers rule_count rows_in record_count ids_in rules_of
  stop_line_is h below {repeats} {parented} {parent} {kind} {kind_of_parent} a b p k pk e =
      let s = h.file in
      let inside : i < length w.stops = rw h.all at below in
      let v = parent_station (row w.stops i) in
      let is : parent ≡ refer v (stop_ids w) = p ∙ stop_parent w s t i h.table inside in
      λ asked. rw e (sym (stop_judged_lem (record {
        again = a ∙ h.noted.repeats 1 i (omega arith) (omega arith) inside;
        parents = record { bare = ap not (b ∙ h.noted.parents i inside) ∙ twice_not (empty v); resolves = is };
        kinds = k ∙ stop_kind w s t i h.table inside;
        parent_kinds = kind_referred w s t v parent kind_of_parent h.table is pk;
      })))

  pub route_line_is :
      Ready 2 n w t stops marks
      → i < n
      → {repeats nameless : Bool} {r : List Bool}
      → repeats ≡ marked marks 2 (i + 1)
      → nameless ≡ marked marks nameless_mark (i + 1)
      → r ≡ route_judged repeats nameless
      → Judges 2 w i r
  unfolding filled_up rule_numbers rule_count rows_in record_count ids_in rules_of
  route_line_is h below a b e =
      let inside : i < length w.routes = rw h.all at below in
      λ asked. rw e (sym (route_judged_lem (record {
        again = a ∙ h.noted.repeats 2 i (omega arith) (omega arith) inside;
        names = b ∙ h.noted.nameless i inside;
      })))

  pub service_line_is :
      Ready 3 n w t stops marks
      → i < n
      → {repeats : Bool} {start end : ℕ} {r : List Bool}
      → repeats ≡ marked marks 3 (i + 1)
      → start ≡ nat_at t ((i + 1) * 5 + 3)
      → end ≡ nat_at t ((i + 1) * 5 + 4)
      → r ≡ service_judged repeats start end
      → Judges 3 w i r
  unfolding filled_up rule_numbers rule_count rows_in record_count ids_in rules_of
  service_line_is h below a b d e =
      let inside : i < length w.calendar = rw h.all at below in
      λ asked. rw e (sym (service_judged_lem (record {
        again = a ∙ h.noted.repeats 3 i (omega arith) (omega arith) inside;
        starts = b ∙ service_start w h.file t i h.table inside;
        ends = d ∙ service_end w h.file t i h.table inside;
      })))

  pub trip_line_is :
      Ready 4 n w t stops marks
      → i < n
      → {repeats : Bool} {route service dated : ℕ} {paired openEnd : Bool} {r : List Bool}
      → repeats ≡ marked marks 4 (i + 1)
      → route ≡ nat_at t ((i + 1) * 8 + 2)
      → service ≡ nat_at t ((i + 1) * 8 + 3)
      → dated ≡ nat_at t ((i + 1) * 8 + 7)
      → paired ≡ marked marks paired_mark (i + 1)
      → openEnd ≡ marked marks open_mark (i + 1)
      → r ≡ trip_judged repeats route service dated paired openEnd
      → Judges 4 w i r
  unfolding filled_up rule_numbers rule_count rows_in record_count ids_in rules_of first_of_trip
  trip_line_is h below a b d g x y e =
      let s = h.file in
      let inside : i < length w.trips = rw h.all at below in
      let own = h.named.ids i inside in
      let again = a ∙ h.noted.repeats 4 i (omega arith) (omega arith) inside in
      λ asked. rw e (sym (trip_judged_lem (record {
        again = again;
        routed = record { bare = sym (h.named.routes i inside); resolves = b ∙ trip_route_lem w s t i h.table inside };
        served = record { bare = sym (h.named.services i inside); resolves = d ∙ trip_service_lem w s t i h.table inside };
        on_dates = record { bare = sym (h.named.services i inside); resolves = g ∙ trip_dated w s t i h.table inside };
        pairs = λ first. x ∙ h.trips_noted.paired i inside own (ap not (sym again ∙ first));
        ends = λ first. y ∙ h.trips_noted.open_ended_lem i inside own (ap not (sym again ∙ first));
      })))

  pub time_line_is :
      Ready 5 n w t stops marks
      → i < n
      → {trip stop stopKind : ℕ} {arrival departure : Time} {pickup drop_off point : ℕ} {equal falling : Bool} {r : List Bool}
      → trip ≡ nat_at t ((i + 1) * 8)
      → stop ≡ nat_at t ((i + 1) * 8 + 1)
      → stopKind ≡ nat_at stops (stop * 7 + 4)
      → arrival ≡ time_at t ((i + 1) * 8 + 3)
      → departure ≡ time_at t ((i + 1) * 8 + 4)
      → pickup ≡ nat_at t ((i + 1) * 8 + 5)
      → drop_off ≡ nat_at t ((i + 1) * 8 + 6)
      → point ≡ nat_at t ((i + 1) * 8 + 7)
      → equal ≡ marked marks equal_mark (i + 1)
      → falling ≡ marked marks falling_mark (i + 1)
      → r ≡ time_judged trip stop stopKind arrival departure pickup drop_off point equal falling
      → Judges 5 w i r
  unfolding filled_up rule_numbers rule_count rows_in record_count rules_of
  time_line_is h below {trip} {stop} {stopKind} a b k x y u d p q f e =
      let s = h.file in
      let inside : i < length w.stop_times = rw h.all at below in
      let v = time_stop (row w.stop_times i) in
      let is : stop ≡ refer v (stop_ids w) = b ∙ time_stop_lem w s t i h.table inside in
      λ asked. rw e (sym (time_judged_lem (record {
        trips = record { bare = sym (h.named.trips i inside); resolves = a ∙ time_trip_lem w s t i h.table inside };
        halts = record { bare = sym (h.named.stops i inside); resolves = is };
        kinds = kind_referred w h.stops_file stops v stop stopKind h.stops_table is k;
        arrived = x ∙ time_arrival w s t i h.table inside;
        departed = y ∙ time_departure w s t i h.table inside;
        boards = u ∙ time_pickup w s t i h.table inside;
        alights = d ∙ time_drop_off w s t i h.table inside;
        points = p ∙ time_point w s t i h.table inside;
        equals = q ∙ h.trips_noted.equal i inside;
        falls = f ∙ h.trips_noted.falling i inside;
      }) asked))

  pub date_line_is :
      Ready 6 n w t stops marks
      → i < n
      → {repeats : Bool} {r : List Bool}
      → repeats ≡ marked marks 6 (i + 1)
      → r ≡ date_judged repeats
      → Judges 6 w i r
  unfolding filled_up rule_numbers rule_count rows_in record_count rules_of
  date_line_is h below a e =
      let inside : i < length w.dates = rw h.all at below in
      λ asked. rw e (sym (date_judged_lem (record { again = a ∙ h.noted.dates i inside })))

-- what holds of one file holds of the file whose number that is
pub in_file_lem :
    (f k : ℕ)
    → f ≡ k
    → (w : Feed) (i : ℕ) (r : List Bool) {n : ℕ} {t stops : List ℤ} {marks : List ℕ}
    → (Ready k n w t stops marks → Judges k w i r)
    → Ready f n w t stops marks
    → Judges f w i r
in_file_lem f k e w i r h g = rw e (h (rw e at g))
