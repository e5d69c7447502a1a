-- The numbers of an answer about an index are small.
use Rattle.std.specs.Prelude.{Ok, Err}
use Prim.Native.Nat.{ℕ, zero, suc, ◌+◌, ◌*◌, ◌-◌, ◌≤◌, ◌<◌}
use native.Mathlib.Omega.{arith}
use mathlib.Core.Path.{◌≡◌, refl, subst}
use mathlib.Core.Bool.{Bool, true, false, cond}
use mathlib.Core.List.{List, [], ◌∷◌, map, Memᴰ}
use lib.Dec.{T, leb, ltb, eqb}
use lib.ListN.{length, get_or, drop, length-take, length-drop}
use borrow.Author.Tests.{leb-true, ltb-true, ltb-false, eqb-true}
use Rattle.meaning.specs.declared.Bounds.{Bounds}
use Rattle.meaning.specs.declared.Refusal.{Refusal}
use Rattle.std.specs.Prelude.{Result, Ok, Err}
use Rattle.meaning.specs.Bytes.{Line, bounds, part, start, next, cuts, end_of, line_of, lines_from, lines_of, start_of, count_lf}
use Rattle.meaning.specs.Columns.{places, header_of}
use Rattle.meaning.specs.Refusals.{Test, Claim, max_bytes, max_lines, rule1, rule2, rule11, rule12, rule13, text_tests, head_tests, value_tests, line_tests, in_file, refusal}
use Rattle.meaning.specs.Promises.{field_count, tests_on, no_line, test_of, no_claim}
use Rattle.meaning.proofs.Computed.{all, mem_all, and_left, and_right, is_true}
use Rattle.meaning.proofs.Laws.{get_d_mem}
use Rattle.meaning.proofs.ListLaws.{and_both}
use Rattle.meaning.proofs.Lines.{Linewise}
use Rattle.meaning.proofs.Claims.{in_file_lem}
use Rattle.meaning.proofs.Columns.{values_count, rule8_within, leftmost_within}
use Rattle.meaning.proofs.FirstBroken.{spoken_first, said_readable}
use Rattle.meaning.proofs.Sayable.{Fit, plain, again, long, blank, formless, Columned, tests_fit}
use Rattle.text.specs.Fields as F
use Rattle.text.proofs.Lines.{lines_all}
use Rattle.text.proofs.Fields.{fields_count}
use Rattle.indexes.specs.Answer.{IndexAnswer}
use Rattle.indexes.specs.declared.IndexRefusal.TheVariants.{Unread, Barred}
use Rattle.indexes.specs.Order.{ids_of}
use Rattle.indexes.specs.Index.{version_of, index_length, index_tests, writer_tests, spoken, indexed, lone_claims, lone_verdict, if_read, asked_of, barred_or, checked, wrote}
use Rattle.indexes.specs.Promises.{Reads}
use Rattle.indexes.specs.Small.{Small}
use Rattle.indexes.proofs.Versions.{of_two, known_of}
use Rattle.indexes.proofs.Accepted.{sound}
use Rattle.indexes.proofs.Beside.{few}

-- ---- a header has few fields

count_few : (q : ℕ) (l : List ℕ) → F.field_count q l ≤ length l + 1
unfolding F.field_count
count_few q [] = omega arith
count_few q (b ∷ r) = go (eqb (next q b) start) (count_few (next q b) r)
  where
    go : (t : Bool) → F.field_count (next q b) r ≤ length r + 1 → cond t (F.field_count (next q b) r + 1) (F.field_count (next q b) r) ≤ suc (length r) + 1
    go true h = omega arith
    go false h = omega arith

part_few : (s : List ℕ) (p : Bounds) → length (part s p) ≤ length s
unfolding part
part_few s p = omega (arith, length-take (p.end - p.start) (drop p.start s), length-drop p.start s)

header_few : (s : List ℕ) → length (header_of (lines_of s)) ≤ length s + 1
unfolding lines_of lines_from line_of header_of
header_few s = go (cuts (start_of s) (start_of s) (drop (start_of s) s))
  where
    go : (cs : List Bounds) → length (header_of (map (line_of s) cs)) ≤ length s + 1
    go [] = omega arith
    go (c ∷ cs) =
        let l = (line_of s c).text in
        omega (arith, values_count l, fields_count l, count_few start l, part_few s (bounds c.start (end_of s c.start c.end)))

-- ---- a line's refusal

numbers_few : (f : ℕ) (ls : List Line) (n : ℕ) (l : Line) (t : Test) → Memᴰ t (tests_on f ls n l) → t.number ≤ 14
unfolding tests_on head_tests line_tests text_tests value_tests
numbers_few f ls n l t m = leb-true t.number 14 (go (eqb n 1) m)
  where
    go : (b : Bool) → Memᴰ t (cond b (head_tests f l.text) (line_tests f (places f (header_of ls)) (field_count ls) l.text)) → leb t.number 14 ≡ true
    go true m = mem_all (λ u. leb u.number 14) _ tt t m
    go false m = mem_all (λ u. leb u.number 14) _ tt t m

module _ (f : ℕ) (s : List ℕ) where
  column_few : (p : Claim) → Linewise no_line f (tests_on f (lines_of s)) 1 (lines_of s) p → p.column ≤ length s + 1
  unfolding rule11 rule12 rule13
  column_few p w = go (tests_fit f (lines_of s) p.line w.from (omega (arith, w.to)) (test_of p) w.rule)
    where
      within : (n c : ℕ) → c ≤ length (header_of (lines_of s)) → Columned (test_of p) n c → p.column ≤ length s + 1
      within n c h k = rw k.1 (omega (arith, h, header_few s))

      go : Fit f (header_of (lines_of s)) (get_or (lines_of s) (p.line - 1) no_line).text (test_of p) → p.column ≤ length s + 1
      go (plain e z) = rw z (omega arith)
      go (again k) = within 8 _ (rule8_within f (header_of (lines_of s))) k
      go (long k) = within 11 _ (leftmost_within f (header_of (lines_of s)) _ _) k
      go (blank k) = within 12 _ (leftmost_within f (header_of (lines_of s)) _ _) k
      go (formless k) = within 13 _ (leftmost_within f (header_of (lines_of s)) _ _) k

  -- rules 1 and 2 are kept where a line speaks
  small_line : f ≤ 4 → (p : Claim) → Memᴰ p (in_file f (lines_of s)) → rule1 f s 0 ≡ false → rule2 f s 0 ≡ false → Small (Err (Unread (refusal p)))
  unfolding rule1 rule2
  small_line low p m one two =
      let w = (in_file_lem f (lines_of s) p).0 m in
      let short : length s ≤ max_bytes = ltb-false _ _ one in
      let lines : count_lf s ≤ max_lines = ltb-false _ _ two in
      (numbers_few f (lines_of s) p.line _ (test_of p) w.rule, (rw w.file low, (omega (arith, w.to, lines_all s, lines), omega (arith, column_few p w, short))))

  small_first : f ≤ 4 → (at : ℕ) → at < length (lone_claims f s) → ((k : ℕ) → k < at → (get_or (lone_claims f s) k no_claim).broken ≡ false) → Small (Err (Unread (refusal (get_or (lone_claims f s) at no_claim))))
  unfolding lone_claims
  small_first low zero h silent = (omega arith, (low, (omega arith, omega arith)))
  small_first low (suc zero) h silent = (omega arith, (low, (omega arith, omega arith)))
  small_first low (suc (suc zero)) h silent = (omega arith, (low, (omega arith, omega arith)))
  small_first low (suc (suc (suc k))) h silent =
      small_line low (get_or (in_file f (lines_of s)) k no_claim) (get_d_mem (in_file f (lines_of s)) k no_claim (omega arith)) (silent 0 (omega arith)) (silent 1 (omega arith))

  small_unread : indexed f ≡ true → (r : Refusal) → lone_verdict f s ≡ Err r → Small (Err (Unread r))
  unfolding indexed lone_verdict
  small_unread e r v =
      let b = (spoken_first (lone_claims f s) r).0 v in
      let l = ltb-true f 5 (and_both (ltb 0 f) (ltb f 5) e).1 in
      subst (λ (q : Refusal). Small (Err (Unread q))) b.spoken (small_first (omega (arith, l)) b.at b.inside b.silent)

  -- an answer is small where the one about the index is
  small_asked : (a : IndexAnswer) → (Reads f s → Small a) → Small (asked_of f (lone_verdict f s) a)
  unfolding asked_of
  small_asked a h = go (indexed f) refl (lone_verdict f s) refl
    where
      go : (t : Bool) → indexed f ≡ t → (v : Result Unit Refusal) → lone_verdict f s ≡ v → Small (cond t (if_read v a) (Err (Barred 42)))
      go false p v q = omega arith
      go true p (Ok tt) q = h (record { asked = p; verdict = (said_readable (lone_verdict f s)).1 q })
      go true p (Err r) q = small_unread p r q

small_barred : (k size : ℕ) → k ≤ 46 → (k ≡ 0 → size ≤ 10 + 4 * max_lines) → Small (barred_or k size)
unfolding barred_or
small_barred k size h w = go (eqb k 0) refl
  where
    go : (t : Bool) → eqb k 0 ≡ t → Small (cond t (Ok size) (Err (Barred k)))
    go true e = w (eqb-true k 0 e)
    go false e = h

spoken_few : (ts : List Test) → T (all (λ t. leb t.number 46) ts) → spoken ts ≤ 46
unfolding spoken
spoken_few [] t = omega arith
spoken_few (u ∷ ts) t = go u.broken (leb-true u.number 46 (is_true (leb u.number 46) (and_left (leb u.number 46) (all (λ t. leb t.number 46) ts) t))) (spoken_few ts (and_right (leb u.number 46) (all (λ t. leb t.number 46) ts) t))
  where
    go : (b : Bool) → u.number ≤ 46 → spoken ts ≤ 46 → cond b u.number (spoken ts) ≤ 46
    go true p q = p
    go false p q = q

need_few : (f : ℕ) (s : List ℕ) → Reads f s → index_length (version_of (length (ids_of f s))) (length (ids_of f s)) ≤ 10 + 4 * max_lines
unfolding index_length
need_few f s r = of_two (λ v. index_length v (length (ids_of f s)) ≤ 10 + 4 * max_lines) (length (ids_of f s)) (λ h. omega (arith, few f s r)) (λ h. omega (arith, few f s r))

-- The numbers of the reader's answer are small, and those of the writer's.
pub small_checked : (f : ℕ) (s b : List ℕ) → Small (checked f s b)
unfolding checked index_tests
small_checked f s b =
    small_asked f s _ (λ r. small_barred (spoken (index_tests (version_of (length (ids_of f s))) f (ids_of f s) b)) (length b) (spoken_few (index_tests (version_of (length (ids_of f s))) f (ids_of f s) b) tt)
    (λ e. rw ((sound (version_of (length (ids_of f s))) f (ids_of f s) b (known_of (length (ids_of f s)))).0 e).size (need_few f s r)))

pub small_wrote : (f : ℕ) (s : List ℕ) (room : ℕ) → Small (wrote f s room)
unfolding wrote writer_tests
small_wrote f s room =
    small_asked f s _ (λ r. small_barred (spoken (writer_tests (version_of (length (ids_of f s))) (ids_of f s) room)) _ (spoken_few (writer_tests (version_of (length (ids_of f s))) (ids_of f s) room) tt) (λ e. need_few f s r))
