-- Trip order is not file order, document 02's E2, sentence by sentence, of a call that was lent these files, asked for the profile or not, and ended with this outcome.
use Rattle.std.specs.Prelude.{ℕ, ◌-◌, ◌+◌, ◌≤◌, ◌<◌, ◌≡◌, ◌↔◌, ◌⊎◌, length}
use mathlib.Core.List.{List, Memᴰ}
use Rattle.meaning.specs.declared.Time.TheVariants.{Seconds}
use Rattle.meaning.specs.declared.Profile.{Profile}
use Rattle.meaning.specs.Columns.{Row}
use Rattle.meaning.specs.Forms.{time_of}
use Rattle.meaning.specs.Tables.{Feed, feed_of, trip_id, time_trip, arrival_time, departure_time}
use Rattle.meaning.specs.Rules.{row, sequence}
use Rattle.meaning.specs.Findings.{finding, findings_of, answer_numbers}
use Rattle.meaning.specs.Outcome.{Outcome}
use Rattle.meaning.specs.Promises.{says_accepted}

-- a timed line has both times
pub record Timed (r : Row) : Type 0 where
  pub arrival : ℕ
  pub arrives : time_of (arrival_time r) ≡ Seconds arrival
  pub departure : ℕ
  pub departs : time_of (departure_time r) ≡ Seconds departure

-- the line with index i of stop_times.txt, which is line i + 2
abbrev pub time_at : Feed → ℕ → Row
time_at w i = row w.stop_times i

-- it is a line of the trip v: "same trip" means equal trip_id values
pub record LineOf (w : Feed) (v : List ℕ) (i : ℕ) : Type 0 where
  pub inside : i < length w.stop_times
  pub trip : time_trip (time_at w i) ≡ v

-- an earlier line of the same trip has the same sequence
pub record SequenceAgain (w : Feed) (i : ℕ) : Type 0 where
  pub line : ℕ
  pub earlier : line < i
  pub of : LineOf w (time_trip (time_at w i)) line
  pub equal : sequence (time_at w line) ≡ sequence (time_at w i)

-- some timed line of the same trip with a smaller sequence departs after this timed line arrives
pub record Outrun (w : Feed) (i : ℕ) : Type 0 where
  pub this : Timed (time_at w i)
  pub line : ℕ
  pub of : LineOf w (time_trip (time_at w i)) line
  pub smaller : sequence (time_at w line) < sequence (time_at w i)
  pub other : Timed (time_at w line)
  pub after : this.arrival < other.departure

-- first means smallest sequence, ties going to the earliest line
pub record FirstLine (w : Feed) (v : List ℕ) (i : ℕ) : Type 0 where
  pub of : LineOf w v i
  pub smallest : (j : ℕ) → LineOf w v j → sequence (time_at w i) ≤ sequence (time_at w j)
  pub earliest : (j : ℕ) → LineOf w v j → sequence (time_at w j) ≡ sequence (time_at w i) → i ≤ j

-- last means largest sequence, ties going to the earliest line
pub record LastLine (w : Feed) (v : List ℕ) (i : ℕ) : Type 0 where
  pub of : LineOf w v i
  pub largest : (j : ℕ) → LineOf w v j → sequence (time_at w j) ≤ sequence (time_at w i)
  pub earliest : (j : ℕ) → LineOf w v j → sequence (time_at w j) ≡ sequence (time_at w i) → i ≤ j

-- the trip of the line with index i of trips.txt
abbrev pub trip_at : Feed → ℕ → List ℕ
trip_at w i = trip_id (row w.trips i)

-- the first line of its trip_id, whose trip's first or last stop_times line isn't timed
pub record OpenEnded (w : Feed) (i : ℕ) : Type 0 where
  pub first_of_id : (j : ℕ) → j < i → trip_at w j ≡ trip_at w i → ⊥
  pub line : ℕ
  pub end : FirstLine w (trip_at w i) line ⊎ LastLine w (trip_at w i) line
  pub untimed : Timed (time_at w line) → ⊥

-- line n, of a file with so many records, has a property of its index
pub record OnLine (count n : ℕ) (P : ℕ → Type 0) : Type 0 where
  pub from : 2 ≤ n
  pub to : n < count + 2
  pub has : P (n - 2)

-- one number has a property, and no other has it
pub record JustOne (P : ℕ → Type 0) : Type 0 where
  pub which : ℕ
  pub is : P which
  pub only : (j : ℕ) → P j → j ≡ which

pub record TripOrder (files : List (List ℕ)) (asked : Profile) (o : Outcome) : Type 0 where
  -- rule 28: an earlier line of the same trip has the same sequence
  pub twenty_eight : (w : Feed) (n : ℕ) → Memᴰ (finding 5 n 28) (findings_of asked w) ↔ OnLine (length w.stop_times) n (SequenceAgain w)
  -- rule 29: some timed line of the same trip with a smaller sequence departs after this timed line arrives
  pub twenty_nine : (w : Feed) (n : ℕ) → Memᴰ (finding 5 n 29) (findings_of asked w) ↔ OnLine (length w.stop_times) n (Outrun w)
  -- in rule 31 first and last mean smallest and largest sequence, ties going to the earliest line
  pub thirty_one : (w : Feed) (n : ℕ) → Memᴰ (finding 4 n 31) (findings_of asked w) ↔ OnLine (length w.trips) n (OpenEnded w)
  -- a trip that has a line has one first line and one last line
  pub one_first : (w : Feed) (v : List ℕ) (i : ℕ) → LineOf w v i → JustOne (FirstLine w v)
  pub one_last : (w : Feed) (v : List ℕ) (i : ℕ) → LineOf w v i → JustOne (LastLine w v)
  -- an accepted feed has none of the three
  pub in_order_lem :
      answer_numbers o.answer ≡ says_accepted
      → (i : ℕ)
      → i < length (feed_of files).stop_times
      → (SequenceAgain (feed_of files) i → ⊥) × (Outrun (feed_of files) i → ⊥)
  pub timed_ends :
      answer_numbers o.answer ≡ says_accepted
      → (i : ℕ)
      → i < length (feed_of files).trips
      → OpenEnded (feed_of files) i
      → ⊥
