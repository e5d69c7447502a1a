-- The lines of a feed's stop_times, as trip order looks at them: line x is the one with index x - 1.
use Rattle.std.specs.Prelude.{ℕ, ◌-◌, ◌≤◌, ◌<◌, ◌≡◌}
use Rattle.meaning.specs.Tables.{Feed, time_trip}
use Rattle.meaning.specs.Rules.{time_row, sequence_at, is_of, timed, arrives, departs}
use Rattle.trip_order.specs.Lines.{Lines}

unfoldable pub lines_of : Feed → Lines
lines_of w = record {
  same = λ x y. is_of w (time_trip (time_row w (y - 1))) (x - 1);
  seq = λ x. sequence_at w (x - 1);
  timed = λ x. timed (time_row w (x - 1));
  arr = λ x. arrives (time_row w (x - 1));
  dep = λ x. departs (time_row w (x - 1));
}

-- two views that say the same of lines 1 to n
pub record Agree (L M : Lines) (n : ℕ) : Type 0 where
  pub trips : (x y : ℕ) → 0 < x → x ≤ n → 0 < y → y ≤ n → L.same x y ≡ M.same x y
  pub sequences : (x : ℕ) → 0 < x → x ≤ n → L.seq x ≡ M.seq x
  pub times : (x : ℕ) → 0 < x → x ≤ n → L.timed x ≡ M.timed x
  pub arrivals : (x : ℕ) → 0 < x → x ≤ n → L.arr x ≡ M.arr x
  pub departures : (x : ℕ) → 0 < x → x ≤ n → L.dep x ≡ M.dep x
