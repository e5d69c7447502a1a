-- The table that the check wrote for a file tells where its ids stand, and an index that is accepted lists them in order.
use mathlib.Core.Path.{◌≡◌}
use mathlib.Core.List.{List, ◌∷◌, map}
use Prim.Native.Nat.{ℕ, ◌+◌, ◌*◌, ◌≤◌, ◌<◌}
use native.Mathlib.Omega.{arith}
use lib.IntN.{ℤ}
use lib.ListN.{length}
use Rattle.meaning.specs.Bytes.{lines_of, count_lf}
use Rattle.meaning.specs.Columns.{rows_of}
use Rattle.meaning.specs.Tables.{Feed, file_of, feed_of, id_column, id_place, numbers_of, record_of, widths, width_of, filled}
use Rattle.meaning.specs.Outcome.{filled_from, read_outcome, outcome}
use Rattle.meaning.specs.Held.{Placed}
use Rattle.meaning.proofs.Readable.{whole_kept}
use Rattle.meaning.proofs.Records.{rows_count, length_held, number_held}
use Rattle.text.proofs.Lines.{lines_all}
use Rattle.indexes.specs.Order.{ids_of}
use Rattle.indexes.specs.Index.{checked}
use Rattle.indexes.specs.Promises.{Lists, Reads}
use Rattle.indexes.proofs.Told.{told_whole, apart_checked}
use Rattle.indexes.proofs.Beside.{beside, asked_whole}
use Rattle.lookups.specs.Lookup.{stop_width, number_in}
use Rattle.lookups.specs.Promises.{Ours}

-- As far as ids go: each record lies wholly in the table, and begins with where its id stands.
pub record Written (s : List ℕ) (t : List ℤ) : Type 0 where
  pub room : length (lines_of s) * stop_width ≤ length t
  pub ids : (i : ℕ) → i + 1 < length (lines_of s) → Placed 1 0 s i (number_in t (i + 1) 0) (number_in t (i + 1) 1)

-- a file that can be read, its table, and its index
pub record Paired (s : List ℕ) (t : List ℤ) (b : List ℕ) : Type 0 where
  pub read : Reads 1 s
  pub table : Written s t
  pub index : Lists 1 (ids_of 1 s) b

-- a table is so where it is filled and rule 3 is kept
filled_written : (w : Feed) (s : List ℕ) (lent : List ℤ) → stop_width * count_lf s ≤ length lent → Written s (filled 1 w s lent)
unfolding width_of widths record_of id_place id_column numbers_of
filled_written w s lent room = record {
  room = omega (arith, length_held 1 (omega arith) (omega arith) w s lent room, lines_all s);
  ids = λ i h.
      let m : i < length (rows_of 1 s) = omega (arith, rows_count 1 s) in
      record {
        from = number_held 1 (omega arith) (omega arith) w s lent i 0 m (omega arith);
        to = number_held 1 (omega arith) (omega arith) w s lent i 1 m (omega arith);
      };
}

module _ (s : List ℕ) (t : List ℤ) (b : List ℕ) (ours : Ours s t b) where
  abbrev files : List (List ℕ)
  files = s ∷ ours.others

  abbrev rooms : List ℕ
  rooms = map length (ours.lent ∷ ours.rest)

  roomy : stop_width * count_lf s ≤ length ours.lent
  unfolding file_of width_of widths
  roomy = (whole_kept files rooms ours.readable 1 (omega arith) (omega arith) (omega arith)).roomy

  written : Written s t
  unfolding outcome read_outcome filled_from
  written =
      let e : filled 1 (feed_of files) s ours.lent ≡ t = rw ours.readable at ours.wrote in
      rw e at (filled_written (feed_of files) s ours.lent roomy)

  reads : Reads 1 s
  unfolding checked
  reads = (asked_whole 1 s _ (length b) (told_whole (checked 1 s b) (length b) (apart_checked 1 s b) ours.accepted)).0

  pub paired : Paired s t b
  paired = record { read = reads; table = written; index = ((beside 1 s).accepted reads b ours.bytes).0 ours.accepted }
