-- Demand 2: what the tables of a readable feed hold, number by number, and that tables and list keep their lengths.
use Prim.Native.Nat.{ℕ, zero, suc, ◌+◌, ◌*◌, ◌-◌, ◌≤◌, ◌<◌}
use native.Mathlib.Omega.{arith}
use mathlib.Core.Path.{◌≡◌, refl, sym, ap, ap₂, ◌∙◌}
use mathlib.Core.List.{List, [], ◌∷◌, ◌++◌, map}
use mathlib.Core.Bool.{cond}
use lib.IntN.{ℤ, pos}
use lib.ListN.{length, get_or, length-map}
use lib.Dec.{eqb}
use Rattle.meaning.specs.declared.Place.{Place}
use Rattle.meaning.specs.declared.Profile.{Profile}
use Rattle.std.specs.Prelude.{Result, Ok, Err}
use Rattle.meaning.specs.declared.Refusal.{Refusal}
use Rattle.meaning.specs.Bytes.{lines_of}
use Rattle.meaning.specs.Columns.{Row, places, header_of, rows_of}
use Rattle.meaning.specs.Tables.{Feed, file_of, feed_of, refer, pack_from, packed_days, stop_numbers, route_numbers, service_numbers, trip_numbers, time_numbers, exception_numbers, widths, width_of, id_column, numbers_of, id_place, record_of, filled}
use Rattle.meaning.specs.Refusals.{verdict_of}
use Rattle.meaning.specs.Rules.{row}
use Rattle.meaning.specs.Findings.{findings_of}
use Rattle.meaning.specs.Outcome.{outcome, read_outcome, refused_or, filled_from}
use Rattle.meaning.specs.Promises.{WholeKept}
use Rattle.meaning.specs.Held.{Names, line_at, StopHeld, RouteHeld, mark, ServiceHeld, TripHeld, TimeHeld, ExceptionHeld, TableHeld, TablesHeld}
use Rattle.meaning.proofs.References.{find_first}
use Rattle.meaning.proofs.Laws.{get_d_map_in}
use Rattle.meaning.proofs.Readable.{whole_kept}
use Rattle.meaning.proofs.Handing.{handed_long}
use Rattle.meaning.proofs.Pages.{findings_kind}
use Rattle.meaning.proofs.Records.{rows_count, zero_held, rest_held, length_held, number_held, row_held}

-- a reference is stored as the first line with that id, or 0
refers : (v : List ℕ) (ids : List (List ℕ)) (z : ℤ) → z ≡ pos (refer v ids) → Names v ids z
unfolding refer
refers v ids z e = record { to = refer v ids; is = e; none = λ h. rw h; first = λ h. rw h (find_first v 1 ids) }

-- the seven marks, written out
packed : (r : Row) → packed_days r ≡ mark 0 r + 2 * mark 1 r + 4 * mark 2 r + 8 * mark 3 r + 16 * mark 4 r + 32 * mark 5 r + 64 * mark 6 r
unfolding packed_days pack_from
packed r = omega arith

-- the record of a line whose row is r
abbrev record_by : ℕ → Feed → List ℕ → ℕ → Row → List ℤ
record_by f w s i r =
    let id = id_place (get_or (places f (header_of (lines_of s))) (id_column f) 0) (line_at s i) in
    cond (eqb f 5) (numbers_of f w r) (id ++ numbers_of f w r)

-- a table that is filled for a file with these rows
module _ (f : ℕ) (low : 1 ≤ f) (high : f ≤ 6) (w : Feed) (s : List ℕ) (lent : List ℤ) (rows : List Row) (are : rows ≡ rows_of f s) where
  table_held :
      (Record : ℕ → (ℕ → ℤ) → Type 0)
      → ((i : ℕ) → i < length rows → Record i (λ j. get_or (filled f w s lent) ((i + 1) * width_of f + j) (pos 0)))
      → TableHeld (width_of f) (length (lines_of s)) Record lent (filled f w s lent)
  table_held Record each = record {
    zeroth = λ some j h. zero_held f low high w s lent some j h (pos 1);
    records = λ i h. each i (omega (arith, ap length are, rows_count f s));
    rest = rest_held f low high w s lent;
  }

  -- number j of the record of a line
  cell : (i : ℕ) → i < length rows → (j : ℕ) → j < width_of f → get_or (filled f w s lent) ((i + 1) * width_of f + j) (pos 0) ≡ get_or (record_by f w s i (row rows i)) j (pos 0)
  unfolding record_of
  cell i h j k =
      let m : i < length (rows_of f s) = omega (arith, ap length are) in
      number_held f low high w s lent i j m k
      ∙ ap (λ (r : Row). get_or (record_by f w s i r) j (pos 0)) (sym (row_held f low high w s lent i m) ∙ ap (λ (l : List Row). row l i) (sym are))

module _ (w : Feed) (s : List ℕ) (lent : List ℤ) where
  stops_held : w.stops ≡ rows_of 1 s → TableHeld 7 (length (lines_of s)) (StopHeld w s) lent (filled 1 w s lent)
  unfolding width_of widths id_place id_column numbers_of stop_numbers
  stops_held e = table_held 1 (omega arith) (omega arith) w s lent w.stops e (StopHeld w s) each
    where
      each : (i : ℕ) → i < length w.stops → StopHeld w s i (λ j. get_or (filled 1 w s lent) ((i + 1) * 7 + j) (pos 0))
      each i h =
          let at = cell 1 (omega arith) (omega arith) w s lent w.stops e i h in
          record {
            id = record { from = at 0 (omega arith); to = at 1 (omega arith) };
            latitude = at 2 (omega arith);
            longitude = at 3 (omega arith);
            kind = at 4 (omega arith);
            parent = refers _ _ _ (at 5 (omega arith));
            place = at 6 (omega arith);
          }

  routes_held : w.routes ≡ rows_of 2 s → TableHeld 3 (length (lines_of s)) (RouteHeld w s) lent (filled 2 w s lent)
  unfolding width_of widths id_place id_column numbers_of route_numbers
  routes_held e = table_held 2 (omega arith) (omega arith) w s lent w.routes e (RouteHeld w s) each
    where
      each : (i : ℕ) → i < length w.routes → RouteHeld w s i (λ j. get_or (filled 2 w s lent) ((i + 1) * 3 + j) (pos 0))
      each i h =
          let at = cell 2 (omega arith) (omega arith) w s lent w.routes e i h in
          record { id = record { from = at 0 (omega arith); to = at 1 (omega arith) }; kind = at 2 (omega arith) }

  calendar_held : w.calendar ≡ rows_of 3 s → TableHeld 5 (length (lines_of s)) (ServiceHeld w s) lent (filled 3 w s lent)
  unfolding width_of widths id_place id_column numbers_of service_numbers
  calendar_held e = table_held 3 (omega arith) (omega arith) w s lent w.calendar e (ServiceHeld w s) each
    where
      each : (i : ℕ) → i < length w.calendar → ServiceHeld w s i (λ j. get_or (filled 3 w s lent) ((i + 1) * 5 + j) (pos 0))
      each i h =
          let at = cell 3 (omega arith) (omega arith) w s lent w.calendar e i h in
          record {
            id = record { from = at 0 (omega arith); to = at 1 (omega arith) };
            days = at 2 (omega arith) ∙ ap pos (packed (row w.calendar i));
            start = at 3 (omega arith);
            end = at 4 (omega arith);
          }

  trips_held : w.trips ≡ rows_of 4 s → TableHeld 8 (length (lines_of s)) (TripHeld w s) lent (filled 4 w s lent)
  unfolding width_of widths id_place id_column numbers_of trip_numbers
  trips_held e = table_held 4 (omega arith) (omega arith) w s lent w.trips e (TripHeld w s) each
    where
      each : (i : ℕ) → i < length w.trips → TripHeld w s i (λ j. get_or (filled 4 w s lent) ((i + 1) * 8 + j) (pos 0))
      each i h =
          let at = cell 4 (omega arith) (omega arith) w s lent w.trips e i h in
          record {
            id = record { from = at 0 (omega arith); to = at 1 (omega arith) };
            route = refers _ _ _ (at 2 (omega arith));
            service = refers _ _ _ (at 3 (omega arith));
            direction = at 4 (omega arith);
            wheelchair = at 5 (omega arith);
            bikes = at 6 (omega arith);
            dated = refers _ _ _ (at 7 (omega arith));
          }

  times_held : w.stop_times ≡ rows_of 5 s → TableHeld 8 (length (lines_of s)) (TimeHeld w s) lent (filled 5 w s lent)
  unfolding width_of widths id_place id_column numbers_of time_numbers
  times_held e = table_held 5 (omega arith) (omega arith) w s lent w.stop_times e (TimeHeld w s) each
    where
      each : (i : ℕ) → i < length w.stop_times → TimeHeld w s i (λ j. get_or (filled 5 w s lent) ((i + 1) * 8 + j) (pos 0))
      each i h =
          let at = cell 5 (omega arith) (omega arith) w s lent w.stop_times e i h in
          record {
            trip = refers _ _ _ (at 0 (omega arith));
            stop = refers _ _ _ (at 1 (omega arith));
            sequence = at 2 (omega arith);
            arrival = at 3 (omega arith);
            departure = at 4 (omega arith);
            pickup = at 5 (omega arith);
            drop_off = at 6 (omega arith);
            point = at 7 (omega arith);
          }

  dates_held : w.dates ≡ rows_of 6 s → TableHeld 4 (length (lines_of s)) (ExceptionHeld w s) lent (filled 6 w s lent)
  unfolding width_of widths id_place id_column numbers_of exception_numbers
  dates_held e = table_held 6 (omega arith) (omega arith) w s lent w.dates e (ExceptionHeld w s) each
    where
      each : (i : ℕ) → i < length w.dates → ExceptionHeld w s i (λ j. get_or (filled 6 w s lent) ((i + 1) * 4 + j) (pos 0))
      each i h =
          let at = cell 6 (omega arith) (omega arith) w s lent w.dates e i h in
          record { id = record { from = at 0 (omega arith); to = at 1 (omega arith) }; date = at 2 (omega arith); kind = at 3 (omega arith) }

-- ---- the outcome

-- table f of those filled, counted from table m
pub filled_at :
    (m : ℕ) (w : Feed) (files : List (List ℕ)) (tables : List (List ℤ)) (k : ℕ)
    → k < length files
    → k < length tables
    → get_or (filled_from m w files tables) k [] ≡ filled (m + k) w (get_or files k []) (get_or tables k [])
unfolding filled_from
filled_at m w [] tables k h l = absurd (omega arith)
filled_at m w (s ∷ files) [] k h l = absurd (omega arith)
filled_at m w (s ∷ files) (t ∷ tables) zero h l = let z : m + 0 ≡ m = omega arith in rw z
filled_at m w (s ∷ files) (t ∷ tables) (suc k) h l =
    let z : m + suc k ≡ m + 1 + k = omega arith in
    rw z (filled_at (m + 1) w files tables k (omega arith) (omega arith))

-- tables that keep their lengths one by one
filled_long :
    (m : ℕ) (w : Feed) (files : List (List ℕ)) (tables : List (List ℤ))
    → ((k : ℕ) → k < length files → k < length tables → length (filled (m + k) w (get_or files k []) (get_or tables k [])) ≡ length (get_or tables k []))
    → map length (filled_from m w files tables) ≡ map length tables
unfolding filled_from
filled_long m w [] tables each = refl
filled_long m w (s ∷ files) [] each = refl
filled_long m w (s ∷ files) (t ∷ tables) each =
    let z : m + 0 ≡ m = omega arith in
    ap₂ ◌∷◌ (rw z at (each 0 (omega arith) (omega arith)))
    (filled_long (m + 1) w files tables (λ k h l. let y : m + 1 + k ≡ m + suc k = omega arith in rw y (each (suc k) (omega arith) (omega arith))))

module _ (files : List (List ℕ)) (tables : List (List ℤ)) (list : List ℤ) (p : Place) (asked : Profile) (six : length files ≡ 6) where
  module _ (read : verdict_of files (map length tables) ≡ Ok tt) where
    kept : (k : ℕ) → k < length files → k < length tables → WholeKept files (1 + k) (get_or files k []) (length (get_or tables k []))
    unfolding file_of
    kept k h l =
        let y : 1 + k - 1 ≡ k = omega arith in
        rw (y, get_d_map_in length tables k [] 0 l)
        at (whole_kept files (map length tables) read (1 + k) (omega arith) (omega arith) (omega (arith, length-map tables length)))

    -- a readable feed's tables, as filled, are as long as they were lent
    read_long : map length (filled_from 1 (feed_of files) files tables) ≡ map length tables
    read_long =
        filled_long 1 (feed_of files) files tables
        (λ k h l. length_held (1 + k) (omega arith) (omega arith) (feed_of files) (get_or files k []) (get_or tables k []) (kept k h l).roomy)

    pub tables_held : length tables ≡ 6 → TablesHeld files tables (outcome files tables list p asked).tables
    unfolding outcome read_outcome feed_of file_of
    tables_held lent =
        let at = filled_at 1 (feed_of files) files tables in
        let w = feed_of files in
        rw read (record {
          stops = rw (at 0 (omega arith) (omega arith)) (stops_held w (get_or files 0 []) (get_or tables 0 []) refl);
          routes = rw (at 1 (omega arith) (omega arith)) (routes_held w (get_or files 1 []) (get_or tables 1 []) refl);
          calendar = rw (at 2 (omega arith) (omega arith)) (calendar_held w (get_or files 2 []) (get_or tables 2 []) refl);
          trips = rw (at 3 (omega arith) (omega arith)) (trips_held w (get_or files 3 []) (get_or tables 3 []) refl);
          stop_times = rw (at 4 (omega arith) (omega arith)) (times_held w (get_or files 4 []) (get_or tables 4 []) refl);
          dates = rw (at 5 (omega arith) (omega arith)) (dates_held w (get_or files 5 []) (get_or tables 5 []) refl);
        })

  -- Every table is as long as it was lent.
  pub tables_long : map length (outcome files tables list p asked).tables ≡ map length tables
  unfolding outcome read_outcome
  tables_long = go (verdict_of files (map length tables)) refl
    where
      go : (v : Result Unit Refusal) → verdict_of files (map length tables) ≡ v → map length (refused_or v (read_outcome files tables list p asked) tables list).tables ≡ map length tables
      go (Ok tt) e = read_long e
      go (Err r) e = refl

-- The list is as long as it was lent.
pub list_long : (files : List (List ℕ)) (tables : List (List ℤ)) (list : List ℤ) (p : Place) (asked : Profile) → length (outcome files tables list p asked).list ≡ length list
unfolding outcome read_outcome
list_long files tables list p asked = go (verdict_of files (map length tables))
  where
    go : (v : Result Unit Refusal) → length (refused_or v (read_outcome files tables list p asked) tables list).list ≡ length list
    go (Ok tt) = handed_long findings_kind (findings_of asked (feed_of files)) p list
    go (Err r) = refl
