-- What each file refers to, and what it is looked up in.
use mathlib.Core.Path.{◌≡◌}
use mathlib.Core.List.{List}
use Prim.Native.Nat.{ℕ}
use native.Mathlib.Omega.{arith}
use lib.ListN.{get_or}
use Rattle.meaning.specs.Tables.{Feed, stop_ids, route_ids, service_ids, trip_ids}
use Rattle.ordering.specs.Ids.{Placed, Arranged}
use Rattle.seeking.specs.declared.Records.{Records}
use Rattle.memo.specs.Memo.{Ready}
use Rattle.memo.proofs.Laws.{ready_blank}
use Rattle.records.specs.Refers.{Lists, Indexed, Refers, Sought}

-- a file that refers to none
module _ (f : ℕ) (a b : Records) (four : f ≡ 4 → ⊥) (five : f ≡ 5 → ⊥) where
  pub refers_none : (w : Feed) → Refers f w a b
  refers_none w = record {
    routes = λ p. absurd (four p);
    services = λ p. absurd (four p);
    trips = λ p. absurd (five p);
    stops = λ p. absurd (five p);
  }

  pub indexed_none : Indexed f a b
  indexed_none = record {
    routes = λ p. absurd (four p);
    services = λ p. absurd (four p);
    trips = λ p. absurd (five p);
    stops = λ p. absurd (five p);
  }

module _ (f : ℕ) (a : Records) (am : List ℕ) (b : Records) (bm : List ℕ) where
  pub sought_blank : Indexed f a b → ((k : ℕ) → get_or am k 0 ≡ 0) → ((k : ℕ) → get_or bm k 0 ≡ 0) → Sought f a am b bm
  sought_blank i x y = record {
    routes = λ p. ready_blank a.file.now a.table.now 3 a.count am (i.routes p).0 (i.routes p).1 x;
    services = λ p. ready_blank b.file.now b.table.now 5 b.count bm (i.services p).0 (i.services p).1 y;
    trips = λ p. ready_blank a.file.now a.table.now 8 a.count am (i.trips p).0 (i.trips p).1 x;
    stops = λ p. ready_blank b.file.now b.table.now 7 b.count bm (i.stops p).0 (i.stops p).1 y;
  }

  pub sought_trips : f ≡ 4 → Ready a.file.now a.table.now 3 a.count am → Ready b.file.now b.table.now 5 b.count bm → Sought f a am b bm
  sought_trips e x y = record {
    routes = λ _. x;
    services = λ _. y;
    trips = λ p. absurd (omega arith);
    stops = λ p. absurd (omega arith);
  }

  pub sought_times : f ≡ 5 → Ready a.file.now a.table.now 8 a.count am → Ready b.file.now b.table.now 7 b.count bm → Sought f a am b bm
  sought_times e x y = record {
    routes = λ p. absurd (omega arith);
    services = λ p. absurd (omega arith);
    trips = λ _. x;
    stops = λ _. y;
  }

-- what trips and stop_times are looked up in, and what they refer to
pub indexed_trips :
    (a b : Records)
    → Placed a.file.now a.table.now 3 a.count × Arranged a.file.now 3 a.count a.table.now → Placed b.file.now b.table.now 5 b.count × Arranged b.file.now 5 b.count b.table.now → Indexed 4 a b
indexed_trips a b x y = record {
  routes = λ _. x;
  services = λ _. y;
  trips = λ p. absurd (omega arith);
  stops = λ p. absurd (omega arith);
}

pub indexed_times :
    (a b : Records)
    → Placed a.file.now a.table.now 8 a.count × Arranged a.file.now 8 a.count a.table.now → Placed b.file.now b.table.now 7 b.count × Arranged b.file.now 7 b.count b.table.now → Indexed 5 a b
indexed_times a b x y = record {
  routes = λ p. absurd (omega arith);
  services = λ p. absurd (omega arith);
  trips = λ _. x;
  stops = λ _. y;
}

pub refers_trips :
    (w : Feed) (a b : Records)
    → Lists a.file.now a.table.now 3 a.count (route_ids w) → Lists b.file.now b.table.now 5 b.count (service_ids w) → Refers 4 w a b
refers_trips w a b x y = record {
  routes = λ _. x;
  services = λ _. y;
  trips = λ p. absurd (omega arith);
  stops = λ p. absurd (omega arith);
}

pub refers_times :
    (w : Feed) (a b : Records)
    → Lists a.file.now a.table.now 8 a.count (trip_ids w) → Lists b.file.now b.table.now 7 b.count (stop_ids w) → Refers 5 w a b
refers_times w a b x y = record {
  routes = λ p. absurd (omega arith);
  services = λ p. absurd (omega arith);
  trips = λ _. x;
  stops = λ _. y;
}
