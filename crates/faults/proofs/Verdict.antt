-- The list and the verdict: with long enough tables the feed is readable exactly when the list is empty, and else the verdict's refusal is in it.
use Prim.Native.Nat.{ℕ, ◌*◌, ◌-◌, ◌≤◌, ◌<◌}
use native.Mathlib.Omega.{arith}
use native.Mathlib.Decide.{ℕ_discrete}
use mathlib.Core.Path.{◌≡◌, refl, sym, ap, subst, ◌∙◌}
use mathlib.Core.Logic.{◌↔◌, inl, inr, ⊎_elim}
use mathlib.Core.Bool.{Bool, true, false}
use mathlib.Core.List.{List, [], ◌∷◌, map, Memᴰ}
use lib.IntN.{ℤ}
use lib.ListN.{length, get_or, length-map}
use borrow.Author.Tests.{ltb-true, ltb-false, lt-ltb, le-ltb, eq-eqb, ne_eqb}
use Rattle.meaning.specs.declared.Refusal.{Refusal}
use Rattle.std.specs.Prelude.{Result, Ok, Err}
use Rattle.meaning.specs.Lists.{place}
use Rattle.meaning.specs.Bytes.{Line, lines_of, count_lf, fields, values}
use Rattle.meaning.specs.Columns.{places}
use Rattle.meaning.specs.Tables.{file_of, width_of}
use Rattle.meaning.specs.Refusals.{Test, test, Claim, claim_of, on_line, max_bytes, max_lines, rule1, rule2, rule3, rule4, text_tests, head_tests, value_tests, line_tests, claims, refusal, verdict_of}
use Rattle.meaning.specs.Promises.{file_tests, field_count, tests_on, no_line, test_of, FileClaim, LineClaim, line_order, turn, speaks_before, no_claim, FirstBroken, NoneBroken}
use Rattle.meaning.specs.Demands.{Reads}
use Rattle.meaning.specs.Calls.{LongEnough}
use Rattle.meaning.proofs.ListLaws.{both}
use Rattle.meaning.proofs.Laws.{get_d_mem, get_d_map_in, At, place_of, in_order_lem}
use Rattle.meaning.proofs.Lines.{OnLine, line_in, line_of, rising, rank, line_ordered}
use Rattle.meaning.proofs.FirstBroken.{first_broken, readable_exactly, earlier_kept}
use Rattle.meaning.proofs.Claims.{claim_of_file, claim_of_line, claims_ordered, file_number, line_number}
use Rattle.meaning.proofs.Readable.{WholeKept, whole_kept}
use Rattle.meaning.proofs.Sayable.{spoken, among, earlier, first_line, Sooner}
use Rattle.faults.specs.List.{texts_of, faults_of}
use Rattle.faults.specs.Promises.{head_at, text_at, head_claims, WholeRule, long, many, unclosed, OfWhole, OfJudged, Fault, of_whole, of_header, of_line_lem, of_text, FaultOf}
use Rattle.faults.proofs.LastLf.{texts, texts_kept}
use Rattle.faults.proofs.OneFault.{claimed, first_among}
use Rattle.faults.proofs.Exactly.{none_some, faults_exactly}

-- ---- what a line is put to, by the lines that end with LF

module _ (files : List (List ℕ)) (f : ℕ) (same : texts_of (file_of files f) ≡ texts (lines_of (file_of files f))) where
  -- the lines that end with LF, and the text of line n
  abbrev lines : List Line
  lines = lines_of (file_of files f)

  abbrev line_text : ℕ → List ℕ
  line_text n = get_or (texts_of (file_of files f)) (n - 1) []

  -- there are as many texts as lines
  texts_count : length (texts_of (file_of files f)) ≡ length lines
  texts_count = ap length same ∙ length-map lines (λ l. l.text)

  -- and each is a line's
  text_at_lem : (k : ℕ) → k < length lines → get_or (texts_of (file_of files f)) k [] ≡ (get_or lines k no_line).text
  text_at_lem k h = rw same (get_d_map_in (λ l. l.text) lines k no_line [] h)

  -- line 1 is put to the header's tests
  tests_first : 1 ≤ length lines → tests_on f lines 1 (get_or lines 0 no_line) ≡ head_tests f (line_text 1)
  unfolding tests_on
  tests_first h = rw (text_at_lem 0 (omega arith))

  -- the field count of lines is their header's
  counted : (ls : List Line) → 1 ≤ length ls → field_count ls ≡ length (fields (get_or ls 0 no_line).text)
  unfolding field_count
  counted [] h = absurd (omega arith)
  counted (l ∷ r) h = refl

  -- a later line to those of a good header's lines
  tests_later : (n : ℕ) → 2 ≤ n → n ≤ length lines → tests_on f lines n (get_or lines (n - 1) no_line) ≡ line_tests f (places f (values (line_text 1))) (length (fields (line_text 1))) (line_text n)
  unfolding tests_on
  tests_later n low high =
      let some : 1 ≤ length lines = omega arith in
      rw (ne_eqb n 1 (λ e. omega arith), text_at_lem (n - 1) (omega arith), text_at_lem 0 (omega arith), first_line lines some, counted lines some)

-- ---- where the feed is readable

module _ (files : List (List ℕ)) (rooms : List ℕ) (count : length rooms ≡ length files) (none : NoneBroken (claims files rooms)) where
  module _ (f : ℕ) (from : 1 ≤ f) (to : f ≤ length files) where
    -- rules 1 to 4 are kept
    whole : WholeKept files f (file_of files f) (get_or rooms (f - 1) 0)
    whole = whole_kept files rooms ((readable_exactly files rooms).1 none) f from to (omega arith)

    -- so that every line ends with LF
    same_texts : texts_of (file_of files f) ≡ texts (lines_of (file_of files f))
    unfolding rule4
    same_texts = texts_kept files f (file_of files f) whole.ended

    -- no test of a line is broken
    quiet : (n : ℕ) → 1 ≤ n → n ≤ length (lines_of (file_of files f)) → NoneBroken (on_line f n (tests_on f (lines_of (file_of files f)) n (get_or (lines_of (file_of files f)) (n - 1) no_line)))
    quiet n first last p m =
        let u = line_in f n _ p m in
        none (claim_of f n (test_of p)) ((claim_of_line files rooms (claim_of f n (test_of p)) first).1 (record { from = from; to = to; first = first; last = last; rule = u.rule }))

    -- none of the header's
    quiet_head : 1 ≤ length (texts_of (file_of files f)) → NoneBroken (on_line f 1 (head_tests f (get_or (texts_of (file_of files f)) 0 [])))
    quiet_head h =
        let some : 1 ≤ length (lines_of (file_of files f)) = omega (arith, texts_count files f same_texts) in
        rw (tests_first files f same_texts some) at (quiet 1 (omega arith) some)

    -- nor of a later line's
    quiet_line : (n : ℕ) → 2 ≤ n → n ≤ length (texts_of (file_of files f)) → NoneBroken (on_line f n (line_tests f (places f (values (line_text files f same_texts 1))) (length (fields (line_text files f same_texts 1))) (line_text files f same_texts n)))
    quiet_line n low high =
        let last : n ≤ length (lines_of (file_of files f)) = omega (arith, texts_count files f same_texts) in
        rw (tests_later files f same_texts n low last) at (quiet n (omega arith) last)

  -- the first of claims of which none is broken
  no_first : (cs : List Claim) (d : Refusal) → NoneBroken cs → FirstBroken cs d → ⊥
  no_first cs d none b = both true refl (none (claimed d) (first_among cs d b))

  -- there is no fault
  no_fault : (d : Refusal) → FaultOf files d → ⊥
  unfolding rule4
  no_fault d w = go w.fault
    where
      of_rule : WholeRule files d → ⊥
      of_rule (long e h) = omega (arith, (whole d.file w.from w.to).short)
      of_rule (many e h) = omega (arith, (whole d.file w.from w.to).few)
      of_rule (unclosed e h) = both true refl (sym h ∙ (whole d.file w.from w.to).ended)

      head : OfJudged files d → NoneBroken (head_claims files d)
      head j = quiet_head d.file w.from w.to (omega (arith, j.from, j.to))

      go : Fault files d → ⊥
      go (of_whole v) = of_rule v.rule
      go (of_header t) = no_first (head_claims files d) d (head t.judged) t.first
      go (of_line_lem t) = no_first _ d (quiet_line d.file w.from w.to d.line t.later t.judged.to) t.first
      go (of_text t) = none_some (head_claims files d) (head t.judged) t.refused

-- ---- the verdict's refusal

-- on one line the lower turn comes first, and only it
turn_less : (p q : Claim) → p.file ≡ q.file → p.line ≡ q.line → rank turn p q ≡ true → turn p.number < turn q.number
unfolding rank
turn_less p q e g h =
    ltb-true (turn p.number) (turn q.number)
    (rw (le-ltb p.file q.file (omega arith), eq-eqb p.file q.file e, le-ltb p.line q.line (omega arith), eq-eqb p.line q.line g) at h)

-- a broken claim of a line whose tests of earlier turns are kept is the first
first_by_turn : (f n : ℕ) (ts : List Test) (q : Claim) → rising turn 0 11 ts ≡ true → OnLine f n ts q → q.broken ≡ true
    → ((u : Test) → Memᴰ u ts → turn u.number < turn q.number → u.broken ≡ false) → FirstBroken (on_line f n ts) (refusal q)
first_by_turn f n ts q up on broken earlier = record { at = k.index; inside = k.inside; spoken = ap refusal k.here; broken = ap (λ (x : Claim). x.broken) k.here ∙ broken; silent = silent }
  where
    cs : List Claim
    cs = on_line f n ts

    k : At cs no_claim q
    k = place_of cs no_claim q (line_of f n ts q on)

    silent : (j : ℕ) → j < k.index → (get_or cs j no_claim).broken ≡ false
    silent j h =
        let p = get_or cs j no_claim in
        let u = line_in f n ts p (get_d_mem cs j no_claim (omega (arith, k.inside))) in
        let r : rank turn p q ≡ true = rw k.here at (in_order_lem (rank turn) cs no_claim j k.index (line_ordered turn f n 0 11 ts up) h k.inside) in
        earlier (test_of p) u.rule (turn_less p q (u.file ∙ sym on.file) (u.line ∙ sym on.line) r)

-- the tests of a header, and of a line, stand in their turns
head_rising : (f : ℕ) (h : List ℕ) → rising turn 0 11 (head_tests f h) ≡ true
unfolding rising turn place line_order head_tests text_tests
head_rising f h = refl

line_rising : (f : ℕ) (ps : List ℕ) (count : ℕ) (l : List ℕ) → rising turn 0 11 (line_tests f ps count l) ≡ true
unfolding rising turn place line_order line_tests text_tests value_tests
line_rising f ps count l = refl

-- a broken claim of a line, where rules 1 to 4 and the tests of earlier lines and turns are kept, is a fault
module _ (files : List (List ℕ)) (q : Claim) (t : LineClaim files q) (broken : q.broken ≡ true) (room : ℕ) (whole : WholeKept files q.file (file_of files q.file) room)
    (earlier : (m : ℕ) → 1 ≤ m → m ≤ length (lines_of (file_of files q.file)) → (u : Test)
    → Memᴰ u (tests_on q.file (lines_of (file_of files q.file)) m (get_or (lines_of (file_of files q.file)) (m - 1) no_line))
    → Sooner m (turn u.number) q.line (turn q.number) → u.broken ≡ false) where
  -- every line ends with LF
  spoken_texts : texts_of (file_of files q.file) ≡ texts (lines_of (file_of files q.file))
  unfolding rule4
  spoken_texts = texts_kept files q.file (file_of files q.file) whole.ended

  -- so that the lines are judged, the claim's among them
  spoken_judged : OfJudged files (refusal q)
  spoken_judged = record { short = whole.short; few = whole.few; from = t.first; to = omega (arith, t.last, texts_count files q.file spoken_texts) }

  -- the claim is the first broken on its line, and its header is good where it is a later one
  spoken_fault : FaultOf files (refusal q)
  spoken_fault = record { from = t.from; to = t.to; fault = go (ℕ_discrete q.line 1) }
    where
      f : ℕ
      f = q.file

      h : List ℕ
      h = head_at files (refusal q)

      ls : List Line
      ls = lines_of (file_of files f)

      some : 1 ≤ length ls
      some = omega (arith, t.first, t.last)

      -- the header's tests speak before
      on_header : (u : Test) → Memᴰ u (head_tests f h) → Sooner 1 (turn u.number) q.line (turn q.number) → u.broken ≡ false
      on_header u m s = earlier 1 (omega arith) some u (rw (tests_first files f spoken_texts some) m) s

      first : q.line ≡ 1 → FirstBroken (head_claims files (refusal q)) (refusal q)
      first e =
          let m : Memᴰ (test_of q) (tests_on f ls 1 (get_or ls 0 no_line)) = subst (λ (n : ℕ). Memᴰ (test_of q) (tests_on f ls n (get_or ls (n - 1) no_line))) e t.rule in
          first_by_turn f 1 (head_tests f h) q (head_rising f h) (record { file = refl; line = e; rule = rw (tests_first files f spoken_texts some) at m }) broken (λ u k z. on_header u k (inr (sym e, z)))

      later : 2 ≤ q.line → FirstBroken (on_line f q.line (line_tests f (places f (values h)) (length (fields h)) (text_at files (refusal q)))) (refusal q)
      later low =
          let e = tests_later files f spoken_texts q.line low t.last in
          first_by_turn f q.line _ q (line_rising f (places f (values h)) (length (fields h)) (text_at files (refusal q))) (record { file = refl; line = refl; rule = rw e at t.rule }) broken
          (λ u k z. earlier q.line t.first t.last u (rw e k) (inr (refl, z)))

      go : Dec (q.line ≡ 1) → Fault files (refusal q)
      go (yes e) = of_header (record { judged = spoken_judged; line = e; first = first e })
      go (no e) =
          let low : 2 ≤ q.line = omega (arith, e, t.first) in
          of_line_lem (record { judged = spoken_judged; later = low; good = λ p m. on_header (test_of p) (line_in f 1 (head_tests f h) p m).rule (inl low); first = later low })

module _ (files : List (List ℕ)) (tables : List (List ℤ)) (enough : LongEnough files tables) where
  abbrev rooms : List ℕ
  rooms = map length tables

  -- there is a table for each file
  rooms_count : length rooms ≡ length files
  rooms_count = length-map tables length ∙ enough.0

  -- rule 3 is kept
  roomy : (f : ℕ) → 1 ≤ f → f ≤ length files → width_of f * count_lf (file_of files f) ≤ get_or rooms (f - 1) 0
  roomy f from to = rw (get_d_map_in length tables (f - 1) [] 0 (omega (arith, enough.0))) (enough.1 f from to)

  module _ (r : Refusal) (b : FirstBroken (claims files rooms) r) where
    -- the claim that speaks
    abbrev first : Claim
    first = spoken files rooms r b

    -- a claim of rules 1 to 4 is a fault, but for 3, which is kept
    first_whole : FileClaim files rooms first → FaultOf files (refusal first)
    unfolding file_tests rule1 rule2 rule3 rule4
    first_whole t = record { from = t.from; to = t.to; fault = of_whole (go t.rule) }
      where
        s : List ℕ
        s = file_of files first.file

        broken : (n : ℕ) (c : Bool) → test_of first ≡ test n c → c ≡ true
        broken n c e = sym (ap (λ (u : Test). u.broken) e) ∙ b.broken

        of : (n : ℕ) (c : Bool) → test_of first ≡ test n c → (first.number ≡ n → WholeRule files (refusal first)) → OfWhole files (refusal first)
        of n c e rule = record { line = t.line; column = ap (λ (u : Test). u.column) e; rule = rule (ap (λ (u : Test). u.number) e) }

        go : Memᴰ (test_of first) (file_tests files first.file s (get_or rooms (first.file - 1) 0)) → OfWhole files (refusal first)
        go m =
            ⊎_elim (λ e. of 1 _ e (λ n. long n (ltb-true max_bytes (length s) (broken 1 _ e))))
            (λ m. ⊎_elim (λ e. of 2 _ e (λ n. many n (ltb-true max_lines (count_lf s) (broken 2 _ e))))
            (λ m. ⊎_elim (λ e. both true refl (sym (broken 3 _ e) ∙ le-ltb _ _ (roomy first.file t.from t.to)))
            (λ m. ⊎_elim (λ e. of 4 _ e (λ n. unclosed n (broken 4 _ e)))
            (λ m. absurd (mathlib.Core.List.Memᴰ.not-nil m))
            (mathlib.Core.List.Memᴰ.cases_cons m)) (mathlib.Core.List.Memᴰ.cases_cons m)) (mathlib.Core.List.Memᴰ.cases_cons m)) (mathlib.Core.List.Memᴰ.cases_cons m)

    -- where a line speaks, rules 1 to 4 are kept
    whole_silent : LineClaim files first → (f : ℕ) → 1 ≤ f → f ≤ length files → (u : Test) → Memᴰ u (file_tests files f (file_of files f) (get_or rooms (f - 1) 0)) → u.broken ≡ false
    unfolding speaks_before
    whole_silent t f from to u m =
        let p = claim_of f 0 u in
        let whole : FileClaim files rooms p = record { line = refl; from = from; to = to; room = omega (arith, rooms_count); rule = m } in
        let low : u.number < 5 = (file_number files rooms p whole).1 in
        earlier_kept (claims files rooms) r b (claims_ordered files rooms) p ((claim_of_file files rooms p refl).1 whole)
        (λ q e. let high = high_of q e in rw (le-ltb q.number 5 high, lt-ltb u.number 5 low))
        (λ q e d. let high = high_of q e in let z : q.number ≡ u.number = ap (λ (x : Claim). x.number) d in omega arith)
      where
        high_of : (q : Claim) → refusal q ≡ r → 5 ≤ q.number
        high_of q e = let z : q.number ≡ first.number = ap (λ (x : Refusal). x.number) (e ∙ sym b.spoken) in omega (arith, (line_number files first t).0)

    -- so they are of its file
    whole_here : LineClaim files first → WholeKept files first.file (file_of files first.file) (get_or rooms (first.file - 1) 0)
    unfolding file_tests rule1 rule2 rule3
    whole_here t =
        let f = first.file in
        let s = file_of files f in
        let room = get_or rooms (f - 1) 0 in
        let kept = whole_silent t f t.from t.to in
        record {
          short = ltb-false _ _ (kept (test 1 (rule1 f s room)) (mathlib.Core.List.Memᴰ.head refl));
          few = ltb-false _ _ (kept (test 2 (rule2 f s room)) (mathlib.Core.List.Memᴰ.tail (mathlib.Core.List.Memᴰ.head refl)));
          roomy = roomy f t.from t.to;
          ended = kept (test 4 (rule4 files f s room)) (mathlib.Core.List.Memᴰ.tail (mathlib.Core.List.Memᴰ.tail (mathlib.Core.List.Memᴰ.tail (mathlib.Core.List.Memᴰ.head refl))));
        }

    -- a claim of a line is a fault
    first_line_fault : LineClaim files first → FaultOf files (refusal first)
    first_line_fault t = spoken_fault files first t b.broken (get_or rooms (first.file - 1) 0) (whole_here t) (earlier files rooms r b t)

    -- The verdict's refusal is in the list.
    pub verdict_listed : Memᴰ r (faults_of files)
    verdict_listed = subst (λ (x : Refusal). Memᴰ x (faults_of files)) b.spoken ((faults_exactly files (refusal first)).1 (⊎_elim first_whole first_line_fault (among files rooms r b)))

  -- The feed is readable exactly when the list is empty.
  pub readable_empty : Reads files tables ↔ faults_of files ≡ []
  readable_empty = (λ none. nothing_in (faults_of files) (λ d m. no_fault files rooms rooms_count none d ((faults_exactly files d).0 m)), λ e. back e (verdict_of files rooms) refl)
    where
      nothing_in : (l : List Refusal) → ((d : Refusal) → Memᴰ d l → ⊥) → l ≡ []
      nothing_in [] h = refl
      nothing_in (d ∷ l) h = absurd (h d (mathlib.Core.List.Memᴰ.head refl))

      back : faults_of files ≡ [] → (v : Result Unit Refusal) → verdict_of files rooms ≡ v → Reads files tables
      back e (Ok tt) v = (readable_exactly files rooms).0 v
      back e (Err r) v = absurd (mathlib.Core.List.Memᴰ.not-nil (rw e at (verdict_listed r ((first_broken files rooms r).0 v))))
