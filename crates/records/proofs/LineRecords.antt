-- The record of a line from its located fields.
use mathlib.Core.Path.{◌≡◌, sym, ap, ◌∙◌}
use mathlib.Core.Bool.{cond}
use mathlib.Core.List.{List, [], ◌∷◌, ◌++◌, append_assoc}
use Prim.Native.Nat.{ℕ, suc, ◌+◌, ◌*◌, ◌≤◌, ◌<◌}
use native.Mathlib.Omega.{arith}
use lib.IntN.{ℤ, pos}
use lib.ListN.{length, get_or, take, drop, length-append}
use lib.Seq.{drop-cons}
use Rattle.meaning.specs.declared.Bounds.{Bounds}
use Rattle.meaning.specs.Columns.{row_of}
use Rattle.meaning.specs.Forms.{latitude_of, longitude_of, time_of, date_of, sequence_of, route_type_of, exception_of}
use Rattle.meaning.specs.Tables.{Feed, degrees, day, number, seconds, picked, or_zero, or_minus, refer, packed_days, stop_ids, route_ids, service_ids, trip_ids, dated_ids, id_place, id_column, parent_station, trip_service, placed, record_of, numbers_of, stop_numbers, route_numbers, service_numbers, trip_numbers, exception_numbers}
use Rattle.rows.specs.Cells.{put_at}
use Rattle.rows.specs.Waiting.{packed}
use Rattle.values.specs.Located.{field_in, value_in, Located}
use Rattle.values.proofs.Readings.{in_row}
use Rattle.records.specs.Line.{line}
use Rattle.records.specs.Waiting.{mark_of, waiting_of}

-- a record that is written but for its last number, which stands there already
pub put_last :
    (t : List ℤ) (at : ℕ) (xs : List ℤ) (z : ℤ)
    → at + length xs < length t
    → get_or t (at + length xs) (pos 0) ≡ z
    → put_at t at xs ≡ put_at t at (xs ++ (z ∷ []))
unfolding put_at
put_last t at xs z h e =
    let d : drop (at + length xs) t ≡ z ∷ drop (at + length (xs ++ (z ∷ []))) t =
    drop-cons t (at + length xs) (pos 0) h
    ∙ ap (λ (y : ℤ). y ∷ drop (suc (at + length xs)) t) e
    ∙ ap (λ (k : ℕ). z ∷ drop k t) (more (length-append xs (z ∷ []))) in
    let rest : List ℤ = drop (at + length (xs ++ (z ∷ []))) t in
    ap (λ (v : List ℤ). take at t ++ xs ++ v) d
    ∙ sym (append_assoc (take at t ++ xs) (z ∷ []) rest)
    ∙ ap (λ (v : List ℤ). v ++ rest) (append_assoc (take at t) xs (z ∷ []))
  where
    more : length (xs ++ (z ∷ [])) ≡ length xs + 1 → suc (at + length xs) ≡ at + length (xs ++ (z ∷ []))
    more q = omega arith

-- the record that located fields say
module _ (ps l : List ℕ) (at : ℕ) (cells : List Bounds) (loc : Located l ps cells) where
  pub id_in : (k a e : ℕ) → a ≡ at + (field_in cells k).start → e ≡ at + (field_in cells k).end → id_place (get_or ps k 0) (line at l) ≡ pos a ∷ pos e ∷ []
  unfolding id_place
  id_in k a e p q = rw (← loc k, p, q)

  pub stop_record :
      (w : Feed) (a e kind mark : ℕ) (lat lon parent : ℤ)
      → parent ≡ pos (refer (parent_station (row_of ps l)) (stop_ids w))
      → a ≡ at + (field_in cells 0).start
      → e ≡ at + (field_in cells 0).end
      → lat ≡ degrees (latitude_of (value_in l cells 2))
      → lon ≡ degrees (longitude_of (value_in l cells 3))
      → pos kind ≡ or_zero 4 (value_in l cells 4)
      → mark ≡ cond (placed (row_of ps l)) 1 0
      → pos a ∷ pos e ∷ lat ∷ lon ∷ pos kind ∷ parent ∷ pos mark ∷ [] ≡ record_of 1 w ps (line at l)
  unfolding record_of id_column numbers_of stop_numbers
  stop_record w a e kind mark lat lon parent g p q x y z m =
      rw (id_in 0 a e p q, in_row ps l cells loc 2, in_row ps l cells loc 3, in_row ps l cells loc 4, g, ← x, ← y, ← z, ← m)

  pub route_record :
      (w : Feed) (a e kind : ℕ)
      → a ≡ at + (field_in cells 0).start
      → e ≡ at + (field_in cells 0).end
      → pos kind ≡ picked (route_type_of (value_in l cells 1))
      → pos a ∷ pos e ∷ pos kind ∷ [] ≡ record_of 2 w ps (line at l)
  unfolding record_of id_column numbers_of route_numbers
  route_record w a e kind p q x = rw (id_in 0 a e p q, in_row ps l cells loc 1, ← x)

  pub service_record :
      (w : Feed) (a e days from to : ℕ)
      → a ≡ at + (field_in cells 0).start
      → e ≡ at + (field_in cells 0).end
      → days ≡ packed_days (row_of ps l)
      → pos from ≡ day (date_of (value_in l cells 8))
      → pos to ≡ day (date_of (value_in l cells 9))
      → pos a ∷ pos e ∷ pos days ∷ pos from ∷ pos to ∷ [] ≡ record_of 3 w ps (line at l)
  unfolding record_of id_column numbers_of service_numbers
  service_record w a e days from to p q x y z = rw (id_in 0 a e p q, in_row ps l cells loc 8, in_row ps l cells loc 9, x, ← y, ← z)

  pub trip_record :
      (w : Feed) (t : List ℤ) (r a e route service wheelchair bikes : ℕ) (direction : ℤ)
      → r * 8 + 8 ≤ length t
      → get_or t (r * 8 + 7) (pos 0) ≡ pos (refer (trip_service (row_of ps l)) (dated_ids w))
      → a ≡ at + (field_in cells 2).start
      → e ≡ at + (field_in cells 2).end
      → route ≡ refer (value_in l cells 0) (route_ids w)
      → service ≡ refer (value_in l cells 1) (service_ids w)
      → direction ≡ or_minus 1 (value_in l cells 3)
      → pos wheelchair ≡ or_zero 2 (value_in l cells 4)
      → pos bikes ≡ or_zero 2 (value_in l cells 5)
      → put_at t (r * 8) (pos a ∷ pos e ∷ pos route ∷ pos service ∷ direction ∷ pos wheelchair ∷ pos bikes ∷ [])
      ≡ put_at t (r * 8) (record_of 4 w ps (line at l))
  unfolding record_of id_column numbers_of trip_numbers
  trip_record w t r a e route service wheelchair bikes direction room dated p q g s x y z =
      put_last t (r * 8) (pos a ∷ pos e ∷ pos route ∷ pos service ∷ direction ∷ pos wheelchair ∷ pos bikes ∷ []) (pos (refer (trip_service (row_of ps l)) (dated_ids w))) (omega arith) dated
      ∙ rw (id_in 2 a e p q, in_row ps l cells loc 0, in_row ps l cells loc 1, in_row ps l cells loc 3, in_row ps l cells loc 4, in_row ps l cells loc 5, g, s, ← x, ← y, ← z)

  pub date_record :
      (w : Feed) (a e date kind : ℕ)
      → a ≡ at + (field_in cells 0).start
      → e ≡ at + (field_in cells 0).end
      → pos date ≡ day (date_of (value_in l cells 1))
      → pos kind ≡ picked (exception_of (value_in l cells 2))
      → pos a ∷ pos e ∷ pos date ∷ pos kind ∷ [] ≡ record_of 6 w ps (line at l)
  unfolding record_of id_column numbers_of exception_numbers
  date_record w a e date kind p q x y = rw (id_in 0 a e p q, in_row ps l cells loc 1, in_row ps l cells loc 2, ← x, ← y)

  pub waiting_record :
      (w : Feed) (trip stop sequence pickup drop_off a e : ℕ) (arrival departure : ℤ)
      → trip ≡ refer (value_in l cells 0) (trip_ids w)
      → stop ≡ refer (value_in l cells 3) (stop_ids w)
      → pos sequence ≡ number (sequence_of (value_in l cells 4))
      → arrival ≡ seconds (time_of (value_in l cells 1))
      → departure ≡ seconds (time_of (value_in l cells 2))
      → pos pickup ≡ or_zero 3 (value_in l cells 5)
      → pos drop_off ≡ or_zero 3 (value_in l cells 6)
      → a ≡ at + (field_in cells 0).start
      → e ≡ at + (field_in cells 0).end
      → pos trip ∷ pos (packed stop pickup drop_off (mark_of (or_minus 1 (value_in l cells 7)))) ∷ pos sequence ∷ arrival ∷ departure ∷ pos a ∷ pos e ∷ pos 0 ∷ []
      ≡ waiting_of w ps (line at l)
  unfolding waiting_of
  waiting_record w trip stop sequence pickup drop_off a e arrival departure p q r x y u v g h =
      rw (id_in 0 a e g h, in_row ps l cells loc 0, in_row ps l cells loc 1, in_row ps l cells loc 2, in_row ps l cells loc 3, in_row ps l cells loc 4, in_row ps l cells loc 5, in_row ps l cells loc 6, in_row ps l cells loc 7, p, q, ← r, x, y, ← u, ← v)
