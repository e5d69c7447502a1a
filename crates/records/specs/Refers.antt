-- The ids that a record's references are looked up among.
use Rattle.std.specs.Prelude.{ℕ, ◌≡◌, List, ℤ, length}
use Rattle.meaning.specs.Tables.{Feed, stop_ids, route_ids, service_ids, trip_ids}
use Rattle.seeking.specs.declared.Records.{Records}
use Rattle.seeking.specs.First.{Held}
use Rattle.ordering.specs.Ids.{Placed, Arranged}
use Rattle.memo.specs.Memo.{Ready}

-- a table of n records, record 0 aside, holds ids; of lists and no Records, since the table of stops is looked up in while it is written
pub record Lists (s : List ℕ) (t : List ℤ) (width n : ℕ) (ids : List (List ℕ)) : Type 0 where
  pub held : Held s t width ids
  pub count : n ≡ length ids

-- what a file refers to: the records of two files
pub record Refers (f : ℕ) (w : Feed) (a b : Records) : Type 0 where
  pub routes : f ≡ 4 → Lists a.file.now a.table.now 3 a.count (route_ids w)
  pub services : f ≡ 4 → Lists b.file.now b.table.now 5 b.count (service_ids w)
  pub trips : f ≡ 5 → Lists a.file.now a.table.now 8 a.count (trip_ids w)
  pub stops : f ≡ 5 → Lists b.file.now b.table.now 7 b.count (stop_ids w)

-- those tables keep the order of their ids
pub record Indexed (f : ℕ) (a b : Records) : Type 0 where
  pub routes : f ≡ 4 → Placed a.file.now a.table.now 3 a.count × Arranged a.file.now 3 a.count a.table.now
  pub services : f ≡ 4 → Placed b.file.now b.table.now 5 b.count × Arranged b.file.now 5 b.count b.table.now
  pub trips : f ≡ 5 → Placed a.file.now a.table.now 8 a.count × Arranged a.file.now 8 a.count a.table.now
  pub stops : f ≡ 5 → Placed b.file.now b.table.now 7 b.count × Arranged b.file.now 7 b.count b.table.now

-- .. and are looked up in behind a memo each
pub record Sought (f : ℕ) (a : Records) (am : List ℕ) (b : Records) (bm : List ℕ) : Type 0 where
  pub routes : f ≡ 4 → Ready a.file.now a.table.now 3 a.count am
  pub services : f ≡ 4 → Ready b.file.now b.table.now 5 b.count bm
  pub trips : f ≡ 5 → Ready a.file.now a.table.now 8 a.count am
  pub stops : f ≡ 5 → Ready b.file.now b.table.now 7 b.count bm
