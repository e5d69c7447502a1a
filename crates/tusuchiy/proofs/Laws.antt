-- Laws: a readable feed is ready to be filled, and a filled one to be judged.
use Prim.Native.Nat.{ℕ, zero, suc, ◌+◌, ◌-◌, ◌<◌, ◌≤◌}
use mathlib.Core.Path.{◌≡◌, refl, ap}
use mathlib.Core.List.{List, [], map}
use mathlib.Core.Bool.{false, cond}
use native.Mathlib.Omega.{arith}
use lib.IntN.{ℤ}
use lib.ListN.{length, get_or, length-map}
use lib.Dec.{eqb}
use Rattle.meaning.specs.declared.Refusal.{Refusal}
use Rattle.std.specs.Prelude.{Ok, Err}
use Rattle.meaning.specs.declared.Place.{Place}
use Rattle.meaning.specs.declared.Profile.{Profile}
use Rattle.meaning.specs.declared.Answer.{Answer}
use Rattle.meaning.specs.declared.Answer.TheVariants.{Accepted, Findings, Refused}
use Rattle.meaning.specs.Bytes.{count_lf}
use Rattle.meaning.specs.Columns.{rows_of, schemas, schema, known_at, column_of, count_of, trips_columns, stop_times_columns}
use Rattle.meaning.specs.Tables.{file_of, feed_of, rows_in}
use Rattle.meaning.specs.Refusals.{verdict_of, may_lack, max_lines}
use Rattle.meaning.specs.Findings.{findings_of, answer_of, handed, page, room_of}
use Rattle.meaning.specs.Outcome.{Outcome, read_outcome, filled_from, outcome}
use Rattle.meaning.specs.Promises.{WholeKept}
use Rattle.meaning.proofs.Laws.{get_d_map_in}
use Rattle.meaning.proofs.Tests.{Standing, below, level, over, standing}
use Rattle.meaning.proofs.Readable.{always_there, whole_kept, values_kept}
use Rattle.meaning.proofs.Held.{filled_at}
use Rattle.marks.specs.Noted.{Noted, TripsNoted}
use Rattle.tables.specs.Fill.{Room, Fits, CoversAll}
use Rattle.tables.proofs.Feeds.{room_kept, fits_kept}
use Rattle.listing.specs.Handing.{State, state, handed_out}
use Rattle.listing.specs.declared.Sink.{Sink}
use Rattle.held.specs.Held.{Filled}
use Rattle.file_rules.specs.Lines.{Named}
use Rattle.rules.specs.Tabled.{table_of, Tabled}
use Rattle.rules.proofs.Laws.{count_at}

-- the rows of a file are those that its bytes have
rows_read : (files : List (List ℕ)) (f : ℕ) → 1 ≤ f → f ≤ 6 → rows_in (feed_of files) f ≡ rows_of f (file_of files f)
unfolding rows_in feed_of
rows_read files zero low high = absurd (omega arith)
rows_read files (suc zero) low high = refl
rows_read files (suc (suc zero)) low high = refl
rows_read files (suc (suc (suc zero))) low high = refl
rows_read files (suc (suc (suc (suc zero)))) low high = refl
rows_read files (suc (suc (suc (suc (suc zero))))) low high = refl
rows_read files (suc (suc (suc (suc (suc (suc zero)))))) low high = refl
rows_read files (suc (suc (suc (suc (suc (suc (suc f))))))) low high = absurd (omega arith)

-- marks with an entry for each line of each file, from the counts of lines
pub covered : (m : List ℕ) (files : List (List ℕ)) (counts : List ℕ) → counts ≡ map count_lf files → ((i : ℕ) → i < 6 → get_or counts i 0 ≤ length m) → CoversAll m files
unfolding file_of
covered m files counts q h f low high = rw (q, count_at files (f - 1)) at (h (f - 1) (omega arith))

-- one count more that is few
pub few_next : (counts : List ℕ) (k n : ℕ) → ((i : ℕ) → i < k → get_or counts i 0 ≤ n) → get_or counts k 0 ≤ n → (i : ℕ) → i < k + 1 → get_or counts i 0 ≤ n
few_next counts k n h e i l = go (standing i k)
  where
    go : Standing i k → get_or counts i 0 ≤ n
    go (below q) = h i q
    go (level q) = rw q e
    go (over q) = absurd (omega arith)

module _ (files : List (List ℕ)) (tables : List (List ℤ)) (six : length files ≡ 6) (lent : length tables ≡ 6) (read : verdict_of files (map length tables) ≡ Ok tt) where
  kept : (f : ℕ) → 1 ≤ f → f ≤ 6 → WholeKept files f (file_of files f) (length (table_of tables f))
  unfolding table_of
  kept f low high =
      rw (get_d_map_in length tables (f - 1) [] 0 (omega arith))
      at (whole_kept files (map length tables) read f low (omega arith) (omega (arith, length-map tables length)))

  -- what filling asks of the files and tables, and what the rules ask of the files
  pub fits : (f : ℕ) → 1 ≤ f → f ≤ 6 → Fits f (file_of files f) (table_of tables f)
  fits f low high = fits_kept files f (file_of files f) (table_of tables f) (kept f low high)

  pub roomy : (f : ℕ) → 1 ≤ f → f ≤ 6 → may_lack files f ≡ false → Room f (file_of files f) (table_of tables f)
  roomy f low high m = room_kept files f (file_of files f) (table_of tables f) (kept f low high) m

  pub few_lines_lem : (counts : List ℕ) → counts ≡ map count_lf files → (i : ℕ) → i < 6 → get_or counts i 0 ≤ max_lines
  unfolding file_of
  few_lines_lem counts e i h =
      let back : i + 1 - 1 ≡ i = omega arith in
      rw (e, count_at files i) (rw back at (kept (i + 1) (omega arith) (omega arith)).few)

  -- rule 12: a readable feed has no trip without a route, a service or an id, and no line of stop_times without a trip or a stop
  named : Named (feed_of files)
  unfolding feed_of file_of column_of known_at schema schemas count_of trips_columns stop_times_columns
  named =
      let trips = values_kept files (map length tables) read 4 (omega arith) (omega arith) in
      let times = values_kept files (map length tables) read 5 (omega arith) (omega arith) in
      record {
        routes = λ i h. always_there _ _ _ _ refl (trips i h 0 (omega arith));
        services = λ i h. always_there _ _ _ _ refl (trips i h 1 (omega arith));
        ids = λ i h. always_there _ _ _ _ refl (trips i h 2 (omega arith));
        trips = λ i h. always_there _ _ _ _ refl (times i h 0 (omega arith));
        stops = λ i h. always_there _ _ _ _ refl (times i h 3 (omega arith));
      }

  module _ (held : List (List ℤ)) (all : held ≡ filled_from 1 (feed_of files) files tables) where
    -- each table is filled
    filled_each : (f : ℕ) → 1 ≤ f → f ≤ 6 → Filled f (feed_of files) (rows_in (feed_of files) f) (file_of files f) (table_of held f)
    unfolding table_of file_of
    filled_each f low high =
        let one : 1 + (f - 1) ≡ f = omega arith in
        record {
          lent = table_of tables f;
          is = rw all (rw one at (filled_at 1 (feed_of files) files tables (f - 1) (omega arith) (omega arith)));
          roomy = (kept f low high).roomy;
          read = rows_read files f low high;
        }

    -- once its tables are filled and its marks set, the rules can be judged
    pub tabled : (counts : List ℕ) → counts ≡ map count_lf files → (marks : List ℕ) → Noted (feed_of files) marks → TripsNoted (feed_of files) marks → Tabled (feed_of files) counts held marks
    tabled counts e marks m o = record { files = files; counted = e; filled = filled_each; noted = m; trips_noted = o; named = named }

    -- and the outcome is what is answered and held
    pub outcome_read :
        (lent list : List ℤ) (p : Place) (asked : Profile) (k : Sink) (r : Answer)
        → state list k ≡ handed_out p (findings_of asked (feed_of files)) lent
        → r ≡ cond (eqb k.total 0) Accepted (Findings k.written k.total)
        → read_outcome files tables lent p asked ≡ record { answer = r; tables = held; list = list }
    unfolding read_outcome answer_of
    outcome_read lent list p asked k r g h =
        let o : list ≡ handed p (findings_of asked (feed_of files)) lent = ap (λ (z : State). z.out) g in
        let n : k.written ≡ length (page p (room_of lent) (findings_of asked (feed_of files))) = ap (λ (z : State). z.written) g in
        let m : k.total ≡ length (findings_of asked (feed_of files)) = ap (λ (z : State). z.total) g in
        rw (h, n, m, o, all)

module _ (files : List (List ℕ)) (tables : List (List ℤ)) (list : List ℤ) (p : Place) (asked : Profile) where
  pub outcome_readable : (o : Outcome) → verdict_of files (map length tables) ≡ Ok tt → read_outcome files tables list p asked ≡ o → outcome files tables list p asked ≡ o
  unfolding outcome
  outcome_readable o e h = rw e h

  pub outcome_refused : (r : Refusal) → verdict_of files (map length tables) ≡ Err r → outcome files tables list p asked ≡ record { answer = Refused r; tables = tables; list = list }
  unfolding outcome
  outcome_refused r e = rw e
