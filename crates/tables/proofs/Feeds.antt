-- What the tables of a feed hold when files that refer to them are read: ids in their order, fields that are settled, room.
use mathlib.Core.Path.{◌≡◌, refl, sym, ap, ◌∙◌}
use mathlib.Core.Bool.{false}
use mathlib.Core.List.{List, [], ◌∷◌}
use Prim.Native.Nat.{ℕ, ◌+◌, ◌*◌, ◌-◌, ◌≤◌, ◌<◌}
use lib.ListN.{length, get_or, replicate, length-map, length-replicate}
use native.Mathlib.Omega.{arith}
use native.Mathlib.Nat.{mul-le-mul_right}
use lib.IntN.{ℤ, pos}
use Rattle.meaning.specs.Lists.{laid}
use Rattle.meaning.specs.Bytes.{count_lf}
use Rattle.meaning.specs.Columns.{rows_of}
use Rattle.meaning.specs.Tables.{Feed, under, refer, id_column, width_of, stop_ids, route_ids, service_ids, trip_ids, dated_ids, file_of, feed_of, filled}
use Rattle.meaning.specs.Refusals.{may_lack}
use Rattle.meaning.specs.Promises.{WholeKept}
use Rattle.meaning.proofs.ListLaws.{both}
use Rattle.meaning.proofs.Records.{ended_count, supplied, no_rows, unsupplied}
use Rattle.ordering.specs.Cells.{KeptAt}
use Rattle.ordering.specs.Ids.{Sorted, Apart, Placed, Arranged}
use Rattle.seeking.proofs.Laws.{held_placed, arranged_as}
use Rattle.records.specs.Refers.{Lists}
use Rattle.records.specs.Waiting.{waits, last_of, sought_ids, named_of}
use Rattle.tables.specs.Fill.{Room, Fits}
use Rattle.tables.specs.Walk.{ids_of, Beyond, Ordered, OrderedIf, IndexedIf, ListsIf, Named, Settled}
use Rattle.tables.proofs.Past.{beyond_trans, kept_beyond, laid_rest}
use Rattle.tables.proofs.Ids.{rows_count}
use Rattle.tables.proofs.SecondWalk.{filled_beyond}
use Rattle.tables.proofs.Settling.{placed_as, lists_as, kept_three}

-- a table that holds the ids of its file in their order
module _ (f : ℕ) (s : List ℕ) (n : ℕ) (t u : List ℤ) (o : Ordered f s n t u) where
  pub ordered_count : n ≡ length (ids_of f s)
  ordered_count = sym (length-map (rows_of f s) (under (id_column f)) ∙ rows_count f s ∙ omega (arith, o.count))

  pub ordered_index : Placed s u (width_of f) n × Arranged s (width_of f) n u
  ordered_index = (rw (← ordered_count) at (held_placed s u (width_of f) (ids_of f s) o.held), o.arranged)

  pub ordered_lists : (ids : List (List ℕ)) → ids ≡ ids_of f s → Lists s u (width_of f) n ids
  ordered_lists ids e = record { held = rw e o.held; count = rw e ordered_count }

  pub ordered_room : Room f s t → Room f s u
  ordered_room r = record { lines = r.lines; few = r.few; size = r.size; room = rw o.beyond.size r.room }

-- .. and whose fields that wait are settled
module _ (f : ℕ) (wide : 5 < width_of f) (s : List ℕ) (n : ℕ) (t u v : List ℤ) (o : Ordered f s n t u) (kept : KeptAt (width_of f - 1) (width_of f) n u v) where
  same3 : (r k : ℕ) → k < 3 → get_or v (r * width_of f + k) (pos 0) ≡ get_or u (r * width_of f + k) (pos 0)
  same3 = kept_three (width_of f) n u v wide kept

  pub settled_index : Placed s v (width_of f) n × Arranged s (width_of f) n v
  settled_index =
      let i = ordered_index f s n t u o in
      (placed_as s (width_of f) u v kept.size same3 n i.0, arranged_as s (width_of f) n u v kept.size same3 i.1)

  pub settled_lists : (ids : List (List ℕ)) → ids ≡ ids_of f s → Lists s v (width_of f) n ids
  settled_lists ids e = lists_as s (width_of f) n u v ids kept.size same3 (ordered_lists f s n t u o ids e)

  pub settled_room : Room f s t → Room f s v
  settled_room r = record { lines = r.lines; few = r.few; size = r.size; room = rw (kept.size, o.beyond.size) r.room }

  pub settled_past : Beyond (count_lf s * width_of f) t v
  settled_past = beyond_trans o.beyond (rw o.count at (kept_beyond (width_of f - 1) (width_of f) n u v (omega arith) kept))

  pub settled_named : (w : Feed) → Named (width_of f) s (n + 1) (sought_ids f w) u v → Settled f w s v
  unfolding named_of Named Settled
  settled_named w named wait r a b =
      named r a (omega (arith, o.count))
      ∙ ap (λ (x : List ℕ). pos (refer x (sought_ids f w))) (o.waiting (omega arith) r a (omega (arith, o.count)))

-- ---- files that may be not supplied

data Supply (s : List ℕ) : Type 0 where
  given : 0 < length s → Supply s
  none : length s ≡ 0 → Supply s

supply : (s : List ℕ) → Supply s
supply [] = none refl
supply (b ∷ r) = given (omega arith)

pub nothing : (s : List ℕ) → length s ≡ 0 → s ≡ []
nothing [] e = refl
nothing (b ∷ r) e = absurd (omega arith)

-- a table of one record for a file that has none
module _ (s : List ℕ) (t : List ℤ) (w : ℕ) (low : 2 < w) (high : w ≤ 8) (size : w ≤ length t) where
  pub none_index : Placed s t w 0 × Arranged s w 0 t
  unfolding Sorted Apart
  none_index = (
    record { room = omega arith; ordered = λ r a b. absurd (omega arith); inside = λ r a b. absurd (omega arith) },
    record {
      room = record { wide = low; narrow = high; rows = omega arith };
      few = omega arith;
      whole = record { within = λ i a b. absurd (omega arith); each = λ x a b. absurd (omega arith) };
      apart = λ i j a b c e. omega arith;
      sorted = λ i j a b c. absurd (omega arith);
    },
  )

  pub none_lists : (ids : List (List ℕ)) → ids ≡ [] → Lists s t w 0 ids
  none_lists ids e = rw e (record { held = record { room = omega arith; at = λ k h. absurd (omega arith) }; count = refl })

pub fits_room : (f : ℕ) (s : List ℕ) (t : List ℤ) → Fits f s t → 0 < length s → Room f s t
fits_room f s t h l = record { lines = h.lines l; few = h.few; size = h.size; room = h.room }

pub room_fits : (f : ℕ) (s : List ℕ) (t : List ℤ) → Room f s t → Fits f s t
room_fits f s t h = record { lines = λ _. h.lines; few = h.few; size = h.size; room = h.room }

-- a file that isn't supplied leaves its table as lent
pub filled_none : (f : ℕ) (w : Feed) (s : List ℕ) (t : List ℤ) → length s ≡ 0 → t ≡ filled f w s t
filled_none f w s t e = rw (nothing s e) (sym (unsupplied f w t))

module _ (f : ℕ) (s : List ℕ) (n : ℕ) (t u : List ℤ) (o : OrderedIf f s n t u) where
  pub lacked_index : IndexedIf s u (width_of f) n
  lacked_index h = ordered_index f s n t u (o.supplied h)

  pub lacked_lists : (ids : List (List ℕ)) → ids ≡ ids_of f s → ListsIf s u (width_of f) n ids
  lacked_lists ids e = ((λ h. ordered_lists f s n t u (o.supplied h) ids e), λ z. e ∙ empty_ids z)
    where
      empty_ids : length s ≡ 0 → ids_of f s ≡ []
      empty_ids z = rw (nothing s z, no_rows f)

  pub lacked_count : n ≤ count_lf s
  lacked_count = go (supply s)
    where
      go : Supply s → n ≤ count_lf s
      go (given h) = omega (arith, (o.supplied h).count)
      go (none z) = omega (arith, (o.lacking z).0)

  pub lacked_fits : Fits f s t → Fits f s u
  lacked_fits r = record { lines = r.lines; few = r.few; size = r.size; room = rw (go (supply s)) r.room }
    where
      go : Supply s → length u ≡ length t
      go (given h) = (o.supplied h).beyond.size
      go (none z) = ap length (o.lacking z).1

  pub lacked_filled : 1 ≤ f → f ≤ 6 → Fits f s t → (w : Feed) → filled f w s u ≡ filled f w s t
  lacked_filled low high r w = go (supply s)
    where
      go : Supply s → filled f w s u ≡ filled f w s t
      go (given h) = filled_beyond f low high w s (r.lines h) t u (o.supplied h).beyond
      go (none z) = ap (filled f w s) (o.lacking z).1

-- ---- the rows of a feed are those of its files

module _ (a b c d e g : List ℕ) where
  abbrev pub six : Feed
  six = feed_of (a ∷ b ∷ c ∷ d ∷ e ∷ g ∷ [])

  pub feed_times : six.stop_times ≡ rows_of 5 e
  unfolding feed_of file_of
  feed_times = refl

  -- .. and so are their ids
  pub stop_ids_lem : stop_ids six ≡ ids_of 1 a
  unfolding feed_of file_of stop_ids id_column
  stop_ids_lem = refl

  pub route_ids_lem : route_ids six ≡ ids_of 2 b
  unfolding feed_of file_of route_ids id_column
  route_ids_lem = refl

  pub service_ids_lem : service_ids six ≡ ids_of 3 c
  unfolding feed_of file_of service_ids id_column
  service_ids_lem = refl

  pub trip_ids_lem : trip_ids six ≡ ids_of 4 d
  unfolding feed_of file_of trip_ids id_column
  trip_ids_lem = refl

  pub dated_ids_lem : dated_ids six ≡ ids_of 6 g
  unfolding feed_of file_of dated_ids id_column
  dated_ids_lem = refl

-- a file in which no field waits has nothing to settle
pub settled_none : (f : ℕ) (w : Feed) (s : List ℕ) (t : List ℤ) → waits f ≡ false → Settled f w s t
unfolding Settled
settled_none f w s t e wait = both (waits f) wait e

-- record 0 is written over nothing that is settled
pub settled_zeroed :
    (f : ℕ) (w : Feed) (s : List ℕ) (t u : List ℤ) → u ≡ laid (replicate (width_of f) (pos 0)) t → Settled f w s t → Settled f w s u
unfolding Settled
settled_zeroed f w s t u e p wait r a b =
    let m : 1 * width_of f ≤ r * width_of f = mul-le-mul_right {m = 1} {n = r} (width_of f) a in
    rw e (laid_rest (replicate (width_of f) (pos 0)) t (last_of f r) (omega (arith, length-replicate (width_of f) (pos 0)))) ∙ p wait r a b

-- what reading guarantees: rules 1 to 4 are kept
pub fits_kept : (files : List (List ℕ)) (f : ℕ) (s : List ℕ) (t : List ℤ) → WholeKept files f s (length t) → Fits f s t
fits_kept files f s t h = record { lines = ended_count files f s (length t) h.ended; few = h.few; size = h.short; room = h.roomy }

pub room_kept :
    (files : List (List ℕ)) (f : ℕ) (s : List ℕ) (t : List ℤ) → WholeKept files f s (length t) → may_lack files f ≡ false → Room f s t
room_kept files f s t h m = fits_room f s t (fits_kept files f s t h) (supplied files f s (length t) h.ended m)
