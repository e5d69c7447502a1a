-- The three demands, trip order, services by date, nodes and boarding areas, what is said of bad UTF-8, which column a refusal says and the profile for boards hold of every call of `check`: of each outcome that its contract names.
use Prim.Native.Nat.{ℕ}
use mathlib.Core.Path.{◌≡◌, refl}
use mathlib.Core.List.{List, [], ◌∷◌}
use lib.IntN.{ℤ}
use Rattle.meaning.specs.declared.Place.{Place}
use Rattle.meaning.specs.declared.Profile.{Profile}
use Rattle.meaning.specs.Outcome.{Outcome, outcome}
use Rattle.meaning.specs.Demands.{Demand1, Demand2, Demand3}
use Rattle.meaning.specs.TripOrder.{TripOrder}
use Rattle.meaning.specs.ByDate.{ByDate}
use Rattle.meaning.specs.BadUtf8.{BadUtf8}
use Rattle.meaning.specs.WhichColumn.{WhichColumn}
use Rattle.meaning.specs.Nodes.{Nodes}
use Rattle.meaning.specs.Boards.{ForBoards}
use Rattle.meaning.proofs.Demands as D
use Rattle.meaning.proofs.TripOrder as T
use Rattle.meaning.proofs.ByDate as E
use Rattle.meaning.proofs.BadUtf8 as U
use Rattle.meaning.proofs.WhichColumn as W
use Rattle.meaning.proofs.Nodes as N
use Rattle.meaning.proofs.Boards as B

module _ (s₁ s₂ s₃ s₄ s₅ s₆ : List ℕ) (t₁ t₂ t₃ t₄ t₅ t₆ list : List ℤ) (p : Place) where
  abbrev files : List (List ℕ)
  files = s₁ ∷ s₂ ∷ s₃ ∷ s₄ ∷ s₅ ∷ s₆ ∷ []

  abbrev tables : List (List ℤ)
  tables = t₁ ∷ t₂ ∷ t₃ ∷ t₄ ∷ t₅ ∷ t₆ ∷ []

  module _ (asked : Profile) (o : Outcome) (checked : outcome files tables list p asked ≡ o) where
    pub demand_1 : Demand1 files tables list o
    demand_1 = rw (← checked) (D.demand_1 files tables list p asked)

    pub demand_2 : Demand2 files tables asked o
    demand_2 = rw (← checked) (D.demand_2 files tables list p asked refl refl)

    pub demand_3 : Demand3 files tables list p asked o
    demand_3 = rw (← checked) (D.demand_3 files tables list p asked refl refl)

    pub trip_order : TripOrder files asked o
    trip_order = rw (← checked) (T.trip_order files tables list p asked)

    pub by_date : ByDate files tables o
    by_date = rw (← checked) (E.by_date files tables list p asked refl refl)

    pub nodes : Nodes files tables o
    nodes = rw (← checked) (N.nodes files tables list p asked refl refl)

  pub bad_utf8 : BadUtf8 files tables
  bad_utf8 = U.bad_utf8 files tables

  pub which_column : WhichColumn files tables
  which_column = W.which_column files tables

  -- whichever of its calls ask
  pub for_boards_lem : ForBoards files tables list p
  for_boards_lem = B.for_boards_lem files tables list p
