-- `rows::StopTimes::trip_at` meets its contract.
use mathlib.Core.Path.{◌∙◌}
use native.Mathlib.Nat.{add-zero}
use Rattle.rows.proofs.StopTimes.trip_at.Goals as goal

pub returns : goal.returns
returns c = c.new.ensures ∙ c.nat_at.ensures ∙ rw add-zero
