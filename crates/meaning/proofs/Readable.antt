-- In a readable feed no rule of 1 to 14 is broken, and none of 5 to 14 in a file that reads: what the later layers may lean on.
use Prim.Native.Nat.{ℕ, ◌+◌, ◌-◌, ◌≤◌, ◌<◌}
use mathlib.Core.Path.{◌≡◌, refl, sym, ◌∙◌}
use mathlib.Core.List.Memᴰ
use mathlib.Core.List.{List, [], Memᴰ}
use mathlib.Core.Bool.{false}
use native.Mathlib.Omega.{arith}
use lib.ListN.{length, get_or, drop, length-map, length-drop}
use lib.Seq.{get_or-drop}
use lib.Dec.{eqb}
use borrow.Author.Tests.{ne_eqb, eqb-true, not-false, ltb-false}
use Rattle.meaning.specs.declared.Need.TheVariants.{Always}
use Rattle.meaning.specs.declared.Column.{Column}
use Rattle.std.specs.Prelude.{Ok}
use Rattle.meaning.specs.Bytes.{lines_of, values}
use Rattle.meaning.specs.Lists.{empty}
use Rattle.meaning.specs.Columns.{Row, column_of, count_of, places, row_of, header_of, rows_of}
use Rattle.meaning.specs.Tables.{file_of}
use Rattle.meaning.specs.Refusals.{Test, test, test_at, claim_of, rule1, rule2, rule3, rule4, rule5, rule9, slack, rule11, rule12, rule13, text_tests, head_tests, value_tests, line_tests, in_file, verdict_of}
use Rattle.meaning.specs.Promises.{file_tests, field_count, tests_on, no_line, NoneBroken, ValueKept}
pub use Rattle.meaning.specs.Promises.{WholeKept}
use Rattle.meaning.proofs.Laws.{get_d_map_in}
use Rattle.meaning.proofs.FirstBroken.{readable_exactly}
use Rattle.meaning.proofs.Claims.{claim_of_file, claim_of_line, in_file_lem}
use Rattle.meaning.proofs.Columns.{blank_always, kept_11, kept_12, kept_13}
use Rattle.meaning.proofs.Sayable.{first_line}

-- a value that is needed always is there
pub always_there : (f : ℕ) (r : Row) (c : Column) (v : List ℕ) → c.need ≡ Always → ValueKept (slack f r) c v → empty v ≡ false
always_there f r c v e k = sym (blank_always c f r v e) ∙ k.there

-- a file none of whose lines breaks a rule
module _ (f : ℕ) (s : List ℕ) (quiet : NoneBroken (in_file f (lines_of s))) where
  -- no test of a line is broken
  none_on_line : (n : ℕ) → 1 ≤ n → n ≤ length (lines_of s) → (t : Test) → Memᴰ t (tests_on f (lines_of s) n (get_or (lines_of s) (n - 1) no_line)) → t.broken ≡ false
  none_on_line n first last t m =
      quiet (claim_of f n t) ((in_file_lem f (lines_of s) (claim_of f n t)).1 (record { file = refl; from = first; to = omega arith; rule = m }))

  module _ (i : ℕ) (h : i < length (rows_of f s)) where
    line_in : i + 2 ≤ length (lines_of s)
    unfolding rows_of
    line_in = omega (arith, simp (length-map, length-drop) at h)

    abbrev pub header : List (List ℕ)
    header = header_of (lines_of s)

    abbrev pub text : List ℕ
    text = (get_or (lines_of s) (i + 2 - 1) no_line).text

    pub row_is : get_or (rows_of f s) i [] ≡ row_of (places f header) text
    unfolding rows_of
    row_is =
        let ls = lines_of s in
        let e : 1 + i ≡ i + 2 - 1 = omega arith in
        get_d_map_in (λ l. row_of (places f (header_of ls)) l.text) (drop 1 ls) i no_line [] (simp length-drop (omega (arith, line_in)))
        ∙ rw (get_or-drop 1 ls i no_line, e)

    none_after : (t : Test) → Memᴰ t (line_tests f (places f header) (field_count (lines_of s)) text) → t.broken ≡ false
    unfolding tests_on
    none_after t m = none_on_line (i + 2) (omega arith) line_in t (rw (ne_eqb (i + 2) 1 (λ z. omega arith)) m)

    -- no line has a stray byte
    pub no_stray : rule5 text ≡ false
    unfolding line_tests text_tests
    no_stray = none_after (test 5 (rule5 text)) (Memᴰ.head refl)

    lacks_nothing : rule9 f header ≡ false
    unfolding tests_on head_tests
    lacks_nothing =
        let ls = lines_of s in
        let h = (get_or ls 0 no_line).text in
        rw (first_line ls (omega (arith, line_in))) at
        (none_on_line 1 (omega arith) (omega (arith, line_in)) (test 9 (rule9 f (values h))) (Memᴰ.append_right (text_tests h) (Memᴰ.tail (Memᴰ.head refl))))

    none_on_row : (n c : ℕ) → Memᴰ (test_at n c) (value_tests f (places f header) text) → c ≡ 0
    unfolding line_tests
    none_on_row n c m = eqb-true c 0 (not-false (eqb c 0) (none_after (test_at n c) (Memᴰ.append_right (text_tests text) (Memᴰ.tail m))))

    -- every value is there where it is needed, short where it is an id, and of its form
    pub line_kept : (k : ℕ) → k < count_of f → ValueKept (slack f (get_or (rows_of f s) i [])) (column_of f k) (get_or (get_or (rows_of f s) i []) k [])
    unfolding value_tests
    line_kept k g =
        rw row_is (record {
          short = (kept_11 f header lacks_nothing text).0 (none_on_row 11 (rule11 f (places f header) text) (Memᴰ.head refl)) k g;
          there = (kept_12 f header lacks_nothing text).0 (none_on_row 12 (rule12 f (places f header) text) (Memᴰ.tail (Memᴰ.head refl))) k g;
          formed = (kept_13 f header lacks_nothing text).0 (none_on_row 13 (rule13 f (places f header) text) (Memᴰ.tail (Memᴰ.tail (Memᴰ.head refl)))) k g;
        })

module _ (files : List (List ℕ)) (rooms : List ℕ) (read : verdict_of files rooms ≡ Ok tt) (f : ℕ) (from : 1 ≤ f) (to : f ≤ length files) where
  none_whole : (room : f ≤ length rooms) (t : Test) → Memᴰ t (file_tests files f (file_of files f) (get_or rooms (f - 1) 0)) → t.broken ≡ false
  none_whole room t m =
      (readable_exactly files rooms).0 read (claim_of f 0 t)
      ((claim_of_file files rooms (claim_of f 0 t) refl).1 (record { line = refl; from = from; to = to; room = room; rule = m }))

  pub whole_kept : f ≤ length rooms → WholeKept files f (file_of files f) (get_or rooms (f - 1) 0)
  unfolding file_tests rule1 rule2 rule3
  whole_kept room = record {
    short = ltb-false _ _ (none_whole room (test 1 (rule1 f (file_of files f) (get_or rooms (f - 1) 0))) (Memᴰ.head refl));
    few = ltb-false _ _ (none_whole room (test 2 (rule2 f (file_of files f) (get_or rooms (f - 1) 0))) (Memᴰ.tail (Memᴰ.head refl)));
    roomy = ltb-false _ _ (none_whole room (test 3 (rule3 f (file_of files f) (get_or rooms (f - 1) 0))) (Memᴰ.tail (Memᴰ.tail (Memᴰ.head refl))));
    ended = none_whole room (test 4 (rule4 files f (file_of files f) (get_or rooms (f - 1) 0))) (Memᴰ.tail (Memᴰ.tail (Memᴰ.tail (Memᴰ.head refl))));
  }

  quiet_file : NoneBroken (in_file f (lines_of (file_of files f)))
  quiet_file p m =
      let t = (in_file_lem f (lines_of (file_of files f)) p).0 m in
      let e = t.file in
      (readable_exactly files rooms).0 read p
      ((claim_of_line files rooms p t.from).1 (record { from = omega arith; to = omega arith; first = t.from; last = rw e (omega (arith, t.to)); rule = rw e t.rule }))

  -- In a readable feed every value is there where it is needed, short where it is an id, and of its form.
  pub values_kept : (i : ℕ) → i < length (rows_of f (file_of files f)) → (k : ℕ) → k < count_of f → ValueKept (slack f (get_or (rows_of f (file_of files f)) i [])) (column_of f k) (get_or (get_or (rows_of f (file_of files f)) i []) k [])
  values_kept = line_kept f (file_of files f) quiet_file
