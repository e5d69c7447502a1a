-- Lines of stop_times that wait in their table, and how they are settled one by one.
use mathlib.Core.Path.{◌≡◌, refl, sym, ap, ◌∙◌}
use mathlib.Core.List.{List, []}
use Prim.Native.Nat.{ℕ, ◌+◌, ◌*◌, ◌≤◌, ◌<◌}
use native.Mathlib.Omega.{arith}
use lib.Dec.{ltb}
use lib.IntN.{ℤ, pos}
use lib.ListN.{length, get_or, take}
use lib.Seq.{ext_get_or, take_all}
use mathlib.Core.Bool.{Bool, true, false}
use borrow.Author.Tests.{ltb-true, ltb-false}
use Rattle.meaning.specs.Lists.{flat, laid}
use Rattle.meaning.specs.Bytes.{Line, count_lf, lines_of}
use Rattle.meaning.specs.Columns.{places, header_of}
use Rattle.meaning.specs.Tables.{Feed, widths, width_of, record_of, filled}
use Rattle.rows.specs.Cells.{put_at}
use Rattle.rows.specs.Waiting.{settled_at}
use Rattle.rows.proofs.Records.{laid_cell, laid_length, rows_turn, record_wide, wide_take}
use Rattle.ordering.specs.Cells.{KeptAt}
use Rattle.records.specs.Line.{line}
use Rattle.records.specs.Waiting.{waiting_of, written_of}
use Rattle.records.proofs.Waiting.{waits_settled, written_wide}
use Rattle.tables.specs.Walk.{tabled, written_all, written, Beyond}
use Rattle.tables.proofs.Past.{beyond_trans, laid_rest, laid_beyond, kept_beyond}
use Rattle.tables.proofs.Turns.{wide, table_length, table_at}
use Rattle.tables.proofs.Written.{records_are}
use Rattle.tables.proofs.Ids.{cell_of}
use Rattle.tables.proofs.SecondWalk.{taken_length, all_length, filled_beyond}

-- the records of stop_times
abbrev pub record_table : Feed → List ℕ → List (List ℤ)
record_table w s = tabled 5 (record_of 5 w (places 5 (header_of (lines_of s)))) s

-- the lines of a file, as they wait
module _ (w : Feed) (s : List ℕ) (lent : List ℤ) (some : 1 ≤ count_lf s) where
  ps : List ℕ
  ps = places 5 (header_of (lines_of s))

  long : (x : Line) → length (written_of 5 w ps x) ≡ 8
  unfolding width_of widths
  long = written_wide 5 (omega arith) (omega arith) w ps

  -- number k of record r
  pub waits_at :
      (r k : ℕ)
      → 1 ≤ r
      → r < count_lf s
      → k < 8
      → get_or (written 5 w s lent) (r * 8 + k) (pos 0) ≡ get_or (waiting_of w (places 5 (header_of (lines_of s))) (get_or (lines_of s) r (line 0 []))) k (pos 0)
  unfolding written written_of width_of widths ps
  waits_at r k a b c = cell_of 5 s lent some (written_of 5 w ps) long r k (line 0 []) a b c

  -- they are settled in a table u, which was used to put them in order
  module _ (n : ℕ) (count : n + 1 ≡ count_lf s) (room : count_lf s * 8 ≤ length lent) (u : List ℤ) (kept : KeptAt 7 8 n (written 5 w s lent) u) where
    wide_record : (x : Line) → length (record_of 5 w ps x) ≡ 8
    unfolding width_of widths
    wide_record x = record_wide 5 w ps x (omega arith) (omega arith)

    written_beyond : Beyond (count_lf s * 8) lent (written 5 w s lent)
    unfolding written ps width_of widths
    written_beyond = laid_beyond (flat (written_all 5 w s)) lent (count_lf s * 8) (all_length 5 s some (written_of 5 w ps) long) room

    pub settle_start : u ≡ laid (flat (take 1 (record_table w s))) u
    unfolding tabled written width_of widths ps
    settle_start = ext_get_or (pos 0) u (laid (flat (take 1 (tabled 5 g s))) u) (sym size) at
      where
        g : Line → List ℤ
        g = record_of 5 w ps

        eight : length (flat (take 1 (tabled 5 g s))) ≡ 1 * 8
        eight = taken_length 5 s some g wide_record 1 some

        whole : 8 ≤ length u
        whole = omega (arith, kept.size, written_beyond.size)

        size : length (laid (flat (take 1 (tabled 5 g s))) u) ≡ length u
        size = laid_length (flat (take 1 (tabled 5 g s))) u (omega (arith, eight, whole))

        at : (i : ℕ) → i < length u → get_or u i (pos 0) ≡ get_or (laid (flat (take 1 (tabled 5 g s))) u) i (pos 0)
        at i h = go (ltb i 8) refl
          where
            go : (b : Bool) → ltb i 8 ≡ b → get_or u i (pos 0) ≡ get_or (laid (flat (take 1 (tabled 5 g s))) u) i (pos 0)
            go true e =
                let z : 0 * 8 + i ≡ i = omega arith in
                let l : i < 8 = ltb-true i 8 e in
                rw z at
                (kept.same 0 i l (λ a b c. omega arith)
                ∙ laid_cell 8 (written_all 5 w s) lent 0 i (pos 0) (wide 5 s (written_of 5 w ps) long) (omega (arith, table_length 5 s (written_of 5 w ps) long some)) l
                ∙ sym (laid_cell 8 (take 1 (tabled 5 g s)) u 0 i (pos 0) (wide_take 8 1 (tabled 5 g s) (wide 5 s g wide_record)) (omega arith) l))
            go false e = sym (laid_rest (flat (take 1 (tabled 5 g s))) u i (omega (arith, eight, ltb-false i 8 e)))

    pub settle_turn :
        (t t' : List ℤ) (r : ℕ)
        → 1 ≤ r
        → r ≤ n
        → t ≡ laid (flat (take r (record_table w s))) u
        → t' ≡ put_at t (r * 8) (settled_at t (r * 8))
        → t' ≡ laid (flat (take (r + 1) (record_table w s))) u
    unfolding tabled width_of widths ps
    settle_turn t t' r a b is put =
        let g : Line → List ℤ = record_of 5 w ps in
        let before : (k : ℕ) → k < 7 → get_or t (r * 8 + k) (pos 0) ≡ get_or (waiting_of w ps (get_or (lines_of s) r (line 0 []))) k (pos 0) = λ k h.
        rw is (laid_rest (flat (take r (tabled 5 g s))) u (r * 8 + k) (omega (arith, taken_length 5 s some g wide_record r (omega arith))))
        ∙ kept.same r k (omega arith) (λ e x y. omega arith)
        ∙ waits_at r k a (omega arith) (omega arith) in
        let here : settled_at t (r * 8) ≡ get_or (tabled 5 g s) r [] =
        waits_settled w ps (get_or (lines_of s) r (line 0 [])) t (r * 8) before ∙ sym (table_at 5 s g wide_record r (line 0 []) a (omega arith)) in
        put ∙ ap (put_at t (r * 8)) here ∙ rows_turn 8 (tabled 5 g s) (wide 5 s g wide_record) t u r (omega (arith, table_length 5 s g wide_record some)) is

    pub settle_end : (t : List ℤ) (r : ℕ) → n < r → t ≡ laid (flat (take r (record_table w s))) u → t ≡ filled 5 w s lent
    unfolding tabled filled width_of widths ps
    settle_end t r h is =
        let g : Line → List ℤ = record_of 5 w ps in
        is
        ∙ ap (λ (v : List (List ℤ)). laid (flat v) u) (take_all r (tabled 5 g s) (omega (arith, table_length 5 s g wide_record some)))
        ∙ ap (λ (v : List (List ℤ)). laid (flat v) u) (sym (records_are 5 w s some))
        ∙ filled_beyond 5 (omega arith) (omega arith) w s some lent u (beyond_trans written_beyond (rw count at (kept_beyond 7 8 n (written 5 w s lent) u (omega arith) kept)))
