-- Nodes and boarding areas, document 02's E10, sentence by sentence, of a call that was lent these files and tables and ended with this outcome.
use Rattle.std.specs.Prelude.{ℕ, ◌+◌, ◌*◌, ◌≤◌, ◌<◌, ◌≡◌, ◌↔◌, Bool, true, false, not, ◌&&◌, ◌||◌, List, [], ◌∷◌, ℤ, pos, get_or, ltb, eqb}
use Rattle.meaning.specs.declared.Need.TheVariants.{Never}
use Rattle.meaning.specs.Lists.{empty}
use Rattle.meaning.specs.Bytes.{count_lf}
use Rattle.meaning.specs.Columns.{Row, column_of, places, row_of}
use Rattle.meaning.specs.Forms.{shape}
use Rattle.meaning.specs.Tables.{Feed, feed_of, refer, stop_ids, stop_id, stop_name, stop_lat, stop_lon, location_type, parent_station, kind_of, inner, placed}
use Rattle.meaning.specs.Refusals.{rule3, rule9, slack, rule12}
use Rattle.meaning.specs.Rules.{row, other_kind, rule21·stops, rule22}
use Rattle.meaning.specs.Outcome.{Outcome}
use Rattle.meaning.specs.Promises.{turn}
use Rattle.meaning.specs.Held.{line_count}
use Rattle.meaning.specs.Demands.{Reads}

-- a choice written exactly: one digit from 0 to m
pub record OneDigit (m : ℕ) (v : List ℕ) : Type 0 where
  pub digit : ℕ
  pub small : digit ≤ m
  pub is : v ≡ (48 + digit) ∷ []

-- the parent of the stop with index i is empty, or it resolves to a stop of another type than m
pub data Unfit (w : Feed) (i m : ℕ) : Type 0 where
  none : empty (parent_station (row w.stops i)) ≡ true → Unfit w i m
  other : (k : ℕ) → refer (parent_station (row w.stops i)) (stop_ids w) ≡ k + 1 → (kind_of (row w.stops k) ≡ m → ⊥) → Unfit w i m

-- rule 22 as document 01 has it: a type 1 stop has a parent; a type 2 stop has none; or a parent that resolves isn't type 1
abbrev pub base22 : Feed → ℕ → Bool
base22 w i =
    let r = row w.stops i in
    let none = empty (parent_station r) in
    eqb (kind_of r) 1 && not none || (eqb (kind_of r) 2 && none || other_kind w 1 (parent_station r))

-- no value is empty where a line of stops.txt needs one
pub record Filled (r : Row) : Type 0 where
  -- its id is needed always
  pub id : empty (stop_id r) ≡ false
  -- name and coordinates on lines of types 0 to 2: for types 3 and 4 they may be empty
  pub name : inner r ≡ false → empty (stop_name r) ≡ false
  pub latitude : inner r ≡ false → empty (stop_lat r) ≡ false
  pub longitude : inner r ≡ false → empty (stop_lon r) ≡ false
  -- .. the coordinates together: one alone is refusal 12
  pub together : inner r ≡ true → empty (stop_lat r) ≡ empty (stop_lon r)

-- of a node or a boarding area that has an id one coordinate is empty, and the other isn't
pub record Alone (lacks has : Row → List ℕ) (r : Row) : Type 0 where
  pub within : inner r ≡ true
  pub id : empty (stop_id r) ≡ false
  pub none : empty (lacks r) ≡ true
  pub other : empty (has r) ≡ false

-- what a record n says of the place of its row
pub record PlaceTold (r : Row) (n : ℕ → ℤ) : Type 0 where
  -- 1 with a place, which has both coordinates
  pub with : placed r ≡ true → (n 6 ≡ pos 1) × ((empty (stop_lat r) ≡ false) × (empty (stop_lon r) ≡ false))
  -- 0 without, latitude and longitude then 0
  pub without : placed r ≡ false → (n 6 ≡ pos 0) × ((n 2 ≡ pos 0) × (n 3 ≡ pos 0))
  -- lines of types 0 to 2 have one
  pub always : inner r ≡ false → placed r ≡ true

pub record Nodes (files : List (List ℕ)) (tables : List (List ℤ)) (o : Outcome) : Type 0 where
  -- location_type is one digit from 0 to 4
  pub allowed : (v : List ℕ) → shape (column_of 1 4).form v ≡ true ↔ OneDigit 4 v
  -- type 3 needs a parent of type 1, type 4 a parent of type 0: an empty one, or one that resolves to another type, is rule 22
  pub node : (w : Feed) (i : ℕ) → kind_of (row w.stops i) ≡ 3 → rule22 w i ≡ true ↔ Unfit w i 1
  pub area : (w : Feed) (i : ℕ) → kind_of (row w.stops i) ≡ 4 → rule22 w i ≡ true ↔ Unfit w i 0
  -- and an unresolved one rule 21 only
  pub unresolved : (w : Feed) (i : ℕ) → inner (row w.stops i) ≡ true → rule21·stops w i ≡ true → rule22 w i ≡ false
  -- types 0 to 2 keep rule 22
  pub others : (w : Feed) (i : ℕ) → inner (row w.stops i) ≡ false → rule22 w i ≡ base22 w i
  -- what rule 12 needs of a line, under a header that lacks nothing
  pub needs : (header : List (List ℕ)) (l : List ℕ) → rule9 1 header ≡ false → rule12 1 (places 1 header) l ≡ 0 ↔ Filled (row_of (places 1 header) l)
  -- one coordinate alone is refused in the column of the empty one
  pub latitude_alone_lem : (ps l : List ℕ) → Alone stop_lat stop_lon (row_of ps l) → rule12 1 ps l ≡ get_or ps 2 0
  pub longitude_alone_lem : (ps l : List ℕ) → Alone stop_lon stop_lat (row_of ps l) → rule12 1 ps l ≡ get_or ps 3 0
  -- no line of another file may leave anything open that it needed before
  pub elsewhere : (f : ℕ) (r : Row) → (f ≡ 1 → ⊥) → slack f r ≡ Never
  -- a location_type not of its form counts as 0 for rule 12
  pub unread : (r : Row) → shape (column_of 1 4).form (location_type r) ≡ false → kind_of r ≡ 0
  -- which then speaks before 13
  pub before : turn 12 < turn 13
  -- the stop record gains a seventh number
  pub seventh :
      Reads files tables
      → (i : ℕ)
      → i + 1 < line_count files 1
      → PlaceTold (row (feed_of files).stops i) (λ j. get_or (get_or o.tables 0 []) ((i + 1) * 7 + j) (pos 0))
  -- rule 3 follows the new width
  pub width : (s : List ℕ) (room : ℕ) → rule3 1 s room ≡ ltb room (7 * count_lf s)
