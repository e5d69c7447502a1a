-- What the second walk along a file writes for a line: its record, but those of stop_times wait while their lines are put in trip order.
-- Of stops and trips a field waits between the walks, and what it names is settled before the second.
use Rattle.std.specs.Prelude.{ℕ, ◌+◌, ◌*◌, ◌-◌, List, [], ◌∷◌, ◌++◌, Bool, cond, ◌||◌, eqb, ℤ, pos, negsuc, get_or}
use Rattle.num.specs.Signs.{nat_of}
use Rattle.meaning.specs.Bytes.{Line}
use Rattle.meaning.specs.Columns.{Row, row_of}
use Rattle.meaning.specs.Forms.{time_of, sequence_of}
use Rattle.meaning.specs.Tables.{Feed, under, number, seconds, or_zero, or_minus, refer, trip_ids, stop_ids, dated_ids, id_place, width_of, time_trip, time_stop, stop_sequence, arrival_time, departure_time, pickup_type, drop_off_type, timepoint, record_of}
use Rattle.rows.specs.Waiting.{packed}

-- where in the schema the field stands whose record is known only when all ids are: a stop's parent, a trip's service
unfoldable pub waiting_column : ℕ → ℕ
waiting_column f = cond (eqb f 4) 1 5

-- the files with such a field
unfoldable pub waits : ℕ → Bool
waits f = eqb f 1 || eqb f 4

-- the ids that it is looked up among: those of stops.txt, for a trip those of calendar_dates.txt
unfoldable pub sought_ids : ℕ → Feed → List (List ℕ)
sought_ids f w = cond (eqb f 4) (dated_ids w) (stop_ids w)

-- the record that it names
unfoldable pub named_of : ℕ → Feed → Row → ℕ
named_of f w r = refer (under (waiting_column f) r) (sought_ids f w)

-- the last number of record r, in which it is settled
abbrev pub last_of : ℕ → ℕ → ℕ
last_of f r = r * width_of f + (width_of f - 1)

-- the mark that a stored timepoint is packed as: 0 is an empty one
abbrev pub mark_of : ℤ → ℕ
mark_of (pos n) = n + 1
mark_of (negsuc n) = 0

-- A line of stop_times that waits, 8 numbers: trip record; stop record, pickup, drop-off and timepoint packed; sequence, arrival, departure;
-- start and end of its trip_id; the cell of the order.
unfoldable pub waiting_of : Feed → List ℕ → Line → List ℤ
waiting_of w ps x =
    let r = row_of ps x.text in
    let stop = refer (time_stop r) (stop_ids w) in
    pos (refer (time_trip r) (trip_ids w))
    ∷ pos (packed stop (nat_of (or_zero 3 (pickup_type r))) (nat_of (or_zero 3 (drop_off_type r))) (mark_of (or_minus 1 (timepoint r))))
    ∷ number (sequence_of (stop_sequence r))
    ∷ seconds (time_of (arrival_time r))
    ∷ seconds (time_of (departure_time r))
    ∷ id_place (get_or ps 0 0) x
    ++ (pos 0 ∷ [])

-- what the second walk writes for a line
unfoldable pub written_of : ℕ → Feed → List ℕ → Line → List ℤ
written_of f w ps x = cond (eqb f 5) (waiting_of w ps x) (record_of f w ps x)
