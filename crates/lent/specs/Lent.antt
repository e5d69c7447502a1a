-- Six lent tables: what they hold, and that they are the ones that were lent.
use Rattle.std.specs.Prelude.{◌≡◌, List, [], ◌∷◌, ℤ}
use Rattle.lent.specs.declared.Tables.{Tables}

-- what the tables hold, in the order of the files
abbrev pub held : Tables → List (List ℤ)
held t = t.stops.now ∷ t.routes.now ∷ t.calendar.now ∷ t.trips.now ∷ t.stop_times.now ∷ t.dates.now ∷ []

-- each is still the table that was lent, whatever it holds
abbrev pub Same : Tables → Tables → Type 0
Same a b =
    (b.stops.ghost_name ≡ a.stops.ghost_name) × (b.routes.ghost_name ≡ a.routes.ghost_name) × (b.calendar.ghost_name ≡ a.calendar.ghost_name)
    × (b.trips.ghost_name ≡ a.trips.ghost_name) × (b.stop_times.ghost_name ≡ a.stop_times.ghost_name) × (b.dates.ghost_name ≡ a.dates.ghost_name)
