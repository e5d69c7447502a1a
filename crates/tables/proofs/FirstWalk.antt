-- After the first walk and the sort a table holds its file's ids in their order, the places of fields that wait, and the dates of file 6.
use mathlib.Core.Path.{◌≡◌, sym, ap, ◌∙◌}
use mathlib.Core.List.{List, []}
use Prim.Native.Nat.{ℕ, ◌+◌, ◌*◌, ◌-◌, ◌^◌, ◌≤◌, ◌<◌}
use native.Mathlib.Omega.{arith}
use native.Mathlib.Nat.{add-zero, mul_comm}
use lib.IntN.{ℤ, pos}
use lib.ListN.{length, get_or}
use Rattle.num.specs.Signs.{nat_of}
use Rattle.meaning.specs.Lists.{flat, laid}
use Rattle.meaning.specs.Bytes.{Line, part, value, count_lf, lines_of, start_of}
use Rattle.meaning.specs.Columns.{places, header_of, row_of, rows_of}
use Rattle.meaning.specs.Forms.{date_of}
use Rattle.meaning.specs.Tables.{under, exception_date, widths, width_of}
use Rattle.meaning.specs.Rules.{row, exception_day}
use Rattle.text.proofs.Lines.{lines_all}
use Rattle.meaning.proofs.Columns.{row_at}
use Rattle.rows.specs.Cells.{bounds_at}
use Rattle.rows.proofs.Records.{flat_length}
use Rattle.rows.proofs.Stored.{day_stored}
use Rattle.ordering.specs.Cells.{Kept, KeptAt, RoomAt}
use Rattle.ordering.specs.Ids.{key_of, Arranged}
use Rattle.ordering.proofs.Laws.{keys_kept}
use Rattle.seeking.specs.First.{Held}
use Rattle.seeking.proofs.First.{held_as}
use Rattle.records.specs.Line.{line}
use Rattle.records.specs.Waiting.{waiting_column}
use Rattle.tables.specs.Fill.{Room}
use Rattle.tables.specs.Walk.{place_of, date_key, placing, placed_of, ids_of, Beyond, Ordered}
use Rattle.tables.proofs.Turns.{three_wide, eight_wide, wide, table_length}
use Rattle.tables.proofs.Written.{placing_id, placing_key, placing_start, placing_end, placing_wide}
use Rattle.tables.proofs.Ids.{lines_in_lem, place_value, row_of_line, cell_of, ids_laid}
use Rattle.tables.proofs.Past.{beyond_trans, laid_beyond, kept_beyond}

-- room for an order of all records
pub order_room :
    (o f : ℕ) → o < width_of f → (s : List ℕ) (t u : List ℤ) (n : ℕ) → Room f s t → length u ≡ length t → n + 1 ≡ count_lf s
    → RoomAt o (width_of f) n u × (n < 2 ^ 31)
order_room o f h s t u n room e count = (
  record {
    wide = h;
    narrow = eight_wide f;
    rows = rw (count, mul_comm (count_lf s) (width_of f), e) room.room;
  },
  omega (arith, room.few),
)

-- a table q, lent as t, that holds what the first walk along file f tells of n records, whatever cells behind the ids hold
pub record Walked (f : ℕ) (s : List ℕ) (n : ℕ) (t q : List ℤ) : Type 0 where
  pub count : n + 1 ≡ count_lf s
  pub held : Held s q (width_of f) (ids_of f s)
  pub beyond : Beyond (count_lf s * width_of f) t q
  pub waiting :
      4 < width_of f
      → (r : ℕ)
      → 0 < r
      → r ≤ n
      → value (part s (bounds_at q (r * width_of f + 3))) ≡ under (waiting_column f) (get_or (rows_of f s) (r - 1) [])

-- cells may change
module _ (f o : ℕ) (s : List ℕ) (n : ℕ) (t p q : List ℤ) (behind : 2 ≤ o) (inside : o < width_of f) (kept : KeptAt o (width_of f) n p q) where
  early : (r k : ℕ) → k < 2 → get_or q (r * width_of f + k) (pos 0) ≡ get_or p (r * width_of f + k) (pos 0)
  early r k h = kept.same r k (omega arith) (λ e a b. omega arith)

  pub walked_kept : (4 < width_of f → o ≡ 2) → Walked f s n t p → Walked f s n t q
  walked_kept two w = record {
    count = w.count;
    held =
        held_as s p q (width_of f) (ids_of f s) w.held kept.size
        (λ r. (ap nat_of (rw (add-zero (r * width_of f)) at (early r 0 (omega arith))), ap nat_of (early r 1 (omega arith))));
    beyond = beyond_trans w.beyond (rw w.count at (kept_beyond o (width_of f) n p q inside kept));
    waiting = λ wide r a b.
        let e : r * width_of f + 4 ≡ r * width_of f + 3 + 1 = omega arith in
        let x = kept.same r 3 (omega arith) (λ z g h. omega (arith, two wide)) in
        let y = rw e at (kept.same r 4 (omega arith) (λ z g h. omega (arith, two wide))) in
        rw (x, y) (w.waiting wide r a b);
  }

-- .. and then the table keeps an order by id
pub ordered_is :
    (f : ℕ) (s : List ℕ) (n : ℕ) (t p u : List ℤ)
    → 2 < width_of f
    → Walked f s n t p
    → Arranged s (width_of f) n u
    → Kept (width_of f) n p u
    → Ordered f s n t u
ordered_is f s n t p u wide w arranged kept =
    let v = walked_kept f 2 s n t p u (omega arith) wide kept (λ _. omega arith) w in
    record { count = v.count; held = v.held; arranged = arranged; beyond = v.beyond; waiting = v.waiting }

-- the table after the first walk
module _ (f : ℕ) (low : 1 ≤ f) (high : f ≤ 6) (s : List ℕ) (t : List ℤ) (room : Room f s t) where
  ps : List ℕ
  ps = places f (header_of (lines_of s))

  long : (x : Line) → length (placing f ps x) ≡ width_of f
  long x = placing_wide f ps x (eight_wide f)

  placed_count : length (flat (placed_of f s)) ≡ count_lf s * width_of f
  unfolding ps
  placed_count = flat_length (width_of f) (placed_of f s) (wide f s (placing f ps) long) ∙ rw (table_length f s (placing f ps) long room.lines)

  placed_beyond : Beyond (count_lf s * width_of f) t (laid (flat (placed_of f s)) t)
  placed_beyond = laid_beyond (flat (placed_of f s)) t (count_lf s * width_of f) placed_count (rw (mul_comm (count_lf s) (width_of f)) room.room)

  pub placed_length : length (laid (flat (placed_of f s)) t) ≡ length t
  placed_length = placed_beyond.size

  module _ (p : List ℤ) (n : ℕ) (count : n + 1 ≡ count_lf s) (is : p ≡ laid (flat (placed_of f s)) t) where
    -- record r
    module _ (r : ℕ) (above : 0 < r) (below : r ≤ n) where
      at_line : Line
      at_line = get_or (lines_of s) r (line 0 [])

      number : (j : ℕ) → j < width_of f → get_or p (r * width_of f + j) (pos 0) ≡ get_or (placing f ps at_line) j (pos 0)
      unfolding ps at_line
      number j h = rw is (cell_of f s t room.lines (placing f ps) long r j (line 0 []) above (omega arith) h)

      row_is : get_or (rows_of f s) (r - 1) [] ≡ row_of ps at_line.text
      unfolding ps at_line
      row_is =
          let g : r - 1 + 1 ≡ r = omega arith in
          rw g at (row_of_line f s (r - 1) (line 0 []) (omega arith))

      wait_value : 4 < width_of f → value (part s (bounds_at p (r * width_of f + 3))) ≡ under (waiting_column f) (get_or (rows_of f s) (r - 1) [])
      unfolding at_line lines_of
      wait_value h =
          let k : ℕ = get_or ps (waiting_column f) 0 in
          let a : get_or p (r * width_of f + 3) (pos 0) ≡ pos (place_of k at_line).start = number 3 (omega arith) ∙ placing_start f ps at_line (omega arith) in
          let j : r * width_of f + 4 ≡ r * width_of f + 3 + 1 = omega arith in
          let b : get_or p (r * width_of f + 3 + 1) (pos 0) ≡ pos (place_of k at_line).end = rw j at (number 4 h ∙ placing_end f ps at_line h) in
          let i = lines_in_lem s (start_of s) r (line 0 []) (omega (arith, lines_all s)) in
          rw (a, b)
          ((place_value s at_line k i).1
          ∙ sym (row_at ps at_line.text (waiting_column f))
          ∙ ap (under (waiting_column f)) (sym row_is))

      pub key_is : key_of p (width_of f) r ≡ nat_of (date_key f (get_or (rows_of f s) (r - 1) []))
      unfolding key_of
      key_is =
          let h : 2 < width_of f = three_wide f low high in
          rw row_is (ap nat_of (number 2 h ∙ placing_key f ps at_line h))

    pub walked_is : Walked f s n t p
    unfolding ps
    walked_is = record {
      count = count;
      held = rw is (ids_laid f s t room.lines (placing f ps) long low high (placing_id f (omega (arith, three_wide f low high)) ps));
      beyond = rw is placed_beyond;
      waiting = λ wide r a b. wait_value r a b wide;
    }

-- ---- the dates of file 6

-- they stand behind the services, also when the records are in their order
pub dates_keyed :
    (s : List ℕ) (t : List ℤ) (room : Room 6 s t) (p u : List ℤ) (n : ℕ)
    → n + 1 ≡ count_lf s
    → p ≡ laid (flat (placed_of 6 s)) t
    → KeptAt 3 4 n p u
    → (i : ℕ)
    → i < n
    → key_of u 4 (i + 1) ≡ exception_day (row (rows_of 6 s) i)
unfolding width_of widths date_key exception_day
dates_keyed s t room p u n count is kept i h =
    let g : i + 1 - 1 ≡ i = omega arith in
    ap (λ (k : ℕ → ℕ). k (i + 1)) (keys_kept (omega arith) (omega arith) kept)
    ∙ rw g at (key_is 6 (omega arith) (omega arith) s t room p n count is (i + 1) (omega arith) (omega arith))
    ∙ day_stored (date_of (exception_date (row (rows_of 6 s) i)))
