-- The lines of stop_times as their records wait in a table, and the cells of their order.
use Rattle.std.specs.Prelude.{ℕ, ◌+◌, ◌*◌, List, Bool, ◌&&◌, eqb, ℤ}
use Rattle.meaning.specs.Lists.{same}
use Rattle.meaning.specs.Rules.{given, seconds_of}
use Rattle.rows.specs.Cells.{time_at}
use Rattle.ordering.specs.Cells.{cell_at}
use Rattle.ordering.specs.Ids.{trip_of, key_of, stray_id, Whole, Apart}
use Rattle.trip_order.specs.Lines.{Lines}
use Rattle.trip_order.specs.Cells.{Grouped}

-- two lines are of one trip: of one record or, where they have none, of one trip_id
unfoldable pub same_in : List ℕ → List ℤ → ℕ → ℕ → Bool
same_in s t x y = eqb (trip_of t 8 x) (trip_of t 8 y) && same (stray_id s t 8 x) (stray_id s t 8 y)

-- a line has both times
unfoldable pub timed_in : List ℤ → ℕ → Bool
timed_in t x = given (time_at t (x * 8 + 3)) && given (time_at t (x * 8 + 4))

-- the lines of a table, by what stands in their records
abbrev pub lines_in : List ℕ → List ℤ → Lines
lines_in s t = record {
  same = same_in s t;
  seq = key_of t 8;
  timed = timed_in t;
  arr = λ x. seconds_of (time_at t (x * 8 + 3));
  dep = λ x. seconds_of (time_at t (x * 8 + 4));
}

-- the line in cell k
abbrev pub cells_in : List ℤ → ℕ → ℕ
cells_in t = cell_at 7 t 8

-- the cells hold each of n lines once, the lines of a trip together and rising
pub record Ranged (s : List ℕ) (t : List ℤ) (n : ℕ) : Type 0 where
  pub whole : Whole (cells_in t) n
  pub apart : Apart (cells_in t) n
  pub grouped : Grouped (lines_in s t) (cells_in t) n
