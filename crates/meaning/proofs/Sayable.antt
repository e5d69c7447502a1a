-- What a refusal can say: its number, file, line and column. A line's tests name the columns of rules 8, 11, 12 and 13, and no others.
use Prim.Native.Nat.{ℕ, ◌-◌, ◌≤◌, ◌<◌}
use native.Mathlib.Omega.{arith}
use native.Mathlib.Decide.{ℕ_discrete}
use mathlib.Core.Path.{◌≡◌, refl, sym, ap, ◌∙◌}
use mathlib.Core.Logic.{◌⊎◌, inl, inr, ⊎_elim}
use mathlib.Core.Bool.{Bool, true, false, cond, not, ◌||◌}
use mathlib.Core.List.Memᴰ
use mathlib.Core.List.{List, [], ◌∷◌, Memᴰ}
use lib.ListN.{length, get_or}
use lib.Dec.{eqb}
use borrow.Author.Tests.{eq-eqb, ne_eqb, eqb-true, le-ltb, ltb-false}
use Rattle.meaning.specs.declared.Refusal.{Refusal}
use Rattle.std.specs.Prelude.{Err}
use Rattle.meaning.specs.Lists.{place}
use Rattle.meaning.specs.Bytes.{Line, lines_of, fields, values}
use Rattle.meaning.specs.Columns.{places, header_of}
use Rattle.meaning.specs.Tables.{file_of}
use Rattle.meaning.specs.Refusals.{Test, test, Claim, claim_of, rule7, rule8, rule11, rule12, rule13, text_tests, head_tests, value_tests, line_tests, claims, refusal, verdict_of}
use Rattle.meaning.specs.Promises.{Each, sooner2, sooner3, file_tests, field_count, tests_on, no_line, test_of, FileClaim, LineClaim, line_order, turn, speaks_before, no_claim, FirstBroken, Sayable}
use Rattle.meaning.proofs.Computed.{mem_all}
use Rattle.meaning.proofs.Laws.{each_cons, each_append, get_d_mem}
use Rattle.meaning.proofs.FirstBroken.{first_broken, earlier_kept}
use Rattle.meaning.proofs.Claims.{file_number, line_number, claims_exactly, claim_of_line, claims_ordered}
use Rattle.meaning.proofs.Columns.{values_count, rule8_within, leftmost_within}

-- the rules that name a column
abbrev pub names : ℕ → Bool
names n = eqb n 8 || (eqb n 11 || (eqb n 12 || eqb n 13))

-- a rule that names a column is broken exactly where it has one
abbrev pub Columned : Test → ℕ → ℕ → Type 0
Columned t n c = (t.number ≡ n) × (t.column ≡ c) × (t.broken ≡ not (eqb c 0))

-- the column of a test, on line l of file f under a header with these names
pub data Fit (f : ℕ) (header : List (List ℕ)) (l : List ℕ) (t : Test) : Type 0 where
  plain : names t.number ≡ false → t.column ≡ 0 → Fit f header l t
  again : Columned t 8 (rule8 f header) → Fit f header l t
  long : Columned t 11 (rule11 f (places f header) l) → Fit f header l t
  blank : Columned t 12 (rule12 f (places f header) l) → Fit f header l t
  formless : Columned t 13 (rule13 f (places f header) l) → Fit f header l t

module _ (f : ℕ) (header : List (List ℕ)) (l : List ℕ) where
  each_plain : (n : ℕ) (b : Bool) (ts : List Test) → names n ≡ false → Each (Fit f header l) ts → Each (Fit f header l) (test n b ∷ ts)
  each_plain n b ts e rest = each_cons (Fit f header l) (test n b) ts (plain e refl) rest

  none : Each (Fit f header l) []
  none t m = absurd (Memᴰ.not-nil m)

  text_fit : Each (Fit f header l) (text_tests l)
  unfolding text_tests
  text_fit = each_plain 5 _ _ refl (each_plain 14 _ _ refl (each_plain 6 _ _ refl (each_plain 7 _ _ refl none)))

  head_fit : values l ≡ header → Each (Fit f header l) (head_tests f l)
  unfolding head_tests
  head_fit e = each_append (Fit f header l) (text_tests l) _ text_fit (each_cons (Fit f header l) _ _ (again (refl, rw e, rw e)) (each_plain 9 _ _ refl none))

  line_fit : (count : ℕ) → Each (Fit f header l) (line_tests f (places f header) count l)
  unfolding line_tests value_tests
  line_fit count =
      each_append (Fit f header l) (text_tests l) _ text_fit
      (each_plain 10 _ _ refl
      (each_cons (Fit f header l) _ _ (long (refl, refl, refl))
      (each_cons (Fit f header l) _ _ (blank (refl, refl, refl))
      (each_cons (Fit f header l) _ _ (formless (refl, refl, refl)) none))))

-- line 1 is the header
pub first_line : (ls : List Line) → 1 ≤ length ls → values (get_or ls 0 no_line).text ≡ header_of ls
unfolding header_of
first_line [] h = absurd (omega arith)
first_line (l ∷ r) h = refl

pub tests_fit : (f : ℕ) (ls : List Line) (n : ℕ) → 1 ≤ n → n ≤ length ls → Each (Fit f (header_of ls) (get_or ls (n - 1) no_line).text) (tests_on f ls n (get_or ls (n - 1) no_line))
unfolding tests_on
tests_fit f ls n h g = go (eqb n 1) refl
  where
    go : (t : Bool) → eqb n 1 ≡ t → Each (Fit f (header_of ls) (get_or ls (n - 1) no_line).text) (cond t (head_tests f (get_or ls (n - 1) no_line).text) (line_tests f (places f (header_of ls)) (field_count ls) (get_or ls (n - 1) no_line).text))
    go true e = let z : n ≡ 1 = eqb-true n 1 e in rw z (head_fit f (header_of ls) (get_or ls 0 no_line).text (first_line ls (omega arith)))
    go false e = line_fit f (header_of ls) (get_or ls (n - 1) no_line).text (field_count ls)

-- an earlier line, or the same one and an earlier turn
abbrev pub Sooner : ℕ → ℕ → ℕ → ℕ → Type 0
Sooner m t n u = (m < n) ⊎ ((m ≡ n) × (t < u))

not_sooner : (f m t n u : ℕ) → Sooner m t n u → sooner3 f n u f m t ≡ false
not_sooner f m t n u s = rw (le-ltb f f (omega arith), eq-eqb f f refl) (⊎_elim before level s)
  where
    before : m < n → sooner2 n u m t ≡ false
    before h = let z : n ≡ m → ⊥ = λ e. omega arith in rw (le-ltb n m (omega arith), ne_eqb n m z)

    level : (m ≡ n) × (t < u) → sooner2 n u m t ≡ false
    level h = let e : n ≡ m = sym h.0 in rw (le-ltb n m (omega arith), eq-eqb n m e, le-ltb u t (omega arith))

module _ (files : List (List ℕ)) (rooms : List ℕ) (r : Refusal) (b : FirstBroken (claims files rooms) r) where
  abbrev pub spoken : Claim
  spoken = get_or (claims files rooms) b.at no_claim

  pub among : FileClaim files rooms spoken ⊎ LineClaim files spoken
  among = (claims_exactly files rooms spoken).0 (get_d_mem (claims files rooms) b.at no_claim b.inside)

  -- a claim of the refusal's file, by the tests of an earlier line or an earlier turn, is kept
  pub earlier_line_lem : (f : ℕ) → r.file ≡ f → 1 ≤ f → f ≤ length files → 5 ≤ r.number → (m : ℕ) → 1 ≤ m → m ≤ length (lines_of (file_of files f))
      → (t : Test) → Memᴰ t (tests_on f (lines_of (file_of files f)) m (get_or (lines_of (file_of files f)) (m - 1) no_line))
      → Sooner m (turn t.number) r.line (turn r.number) → t.broken ≡ false
  unfolding speaks_before
  earlier_line_lem f same from to high m first last t here sooner =
      let p = claim_of f m t in
      let line : LineClaim files p = record { from = from; to = to; first = first; last = last; rule = here } in
      let low = line_number files p line in
      earlier_kept (claims files rooms) r b (claims_ordered files rooms) p ((claim_of_line files rooms p first).1 line)
      (λ q g. not_after q (ap (λ (x : Refusal). x.number) g) (ap (λ (x : Refusal). x.file) g ∙ same) (ap (λ (x : Refusal). x.line) g) low.0)
      (λ q g d. another (sym (ap (λ (x : Refusal). x.line) g) ∙ ap (λ (x : Claim). x.line) d) (sym (ap (λ (x : Refusal). x.number) g) ∙ ap (λ (x : Claim). x.number) d))
    where
      not_after : (q : Claim) → q.number ≡ r.number → q.file ≡ f → q.line ≡ r.line → 5 ≤ t.number → speaks_before q (claim_of f m t) ≡ false
      not_after q number file line low =
          rw (le-ltb q.number 5 (rw number high), le-ltb t.number 5 low, file, line, number)
          (not_sooner f m (turn t.number) r.line (turn r.number) sooner)

      another : r.line ≡ m → r.number ≡ t.number → ⊥
      another line number =
          let e : turn r.number ≡ turn t.number = ap turn number in
          ⊎_elim (λ (h : m < r.line). omega arith) (λ (h : (m ≡ r.line) × (turn t.number < turn r.number)). omega arith) sooner

  abbrev pub lines_on : List Line
  lines_on = lines_of (file_of files spoken.file)

  -- the refusal is the claim that speaks
  number_is : spoken.number ≡ r.number
  number_is = ap (λ (x : Refusal). x.number) b.spoken

  line_is : spoken.line ≡ r.line
  line_is = ap (λ (x : Refusal). x.line) b.spoken

  module _ (t : LineClaim files spoken) where
    pub fits : Fit spoken.file (header_of lines_on) (get_or lines_on (spoken.line - 1) no_line).text (test_of spoken)
    fits = tests_fit spoken.file lines_on spoken.line t.first t.last (test_of spoken) t.rule

    -- the tests of an earlier line of the file, or of an earlier turn, are kept
    pub earlier : (m : ℕ) → 1 ≤ m → m ≤ length lines_on → (u : Test) → Memᴰ u (tests_on spoken.file lines_on m (get_or lines_on (m - 1) no_line))
        → Sooner m (turn u.number) spoken.line (turn spoken.number) → u.broken ≡ false
    earlier m first last u here sooner =
        earlier_line_lem spoken.file (sym (ap (λ (x : Refusal). x.file) b.spoken)) t.from t.to (rw (← number_is) (line_number files spoken t).0) m first last u here
        (rw (← number_is, ← line_is) sooner)

    some_line : 1 ≤ length lines_on
    some_line = omega (arith, t.first, t.last)

    -- so are those of the header
    pub on_header : (u : Test) → Memᴰ u (head_tests spoken.file (get_or lines_on 0 no_line).text) → turn u.number < turn spoken.number → u.broken ≡ false
    unfolding tests_on
    on_header u m h = earlier 1 (omega arith) some_line u m (sooner (ℕ_discrete 1 spoken.line))
      where
        sooner : Dec (1 ≡ spoken.line) → Sooner 1 (turn u.number) spoken.line (turn spoken.number)
        sooner (yes e) = inr (e, h)
        sooner (no e) = inl (omega (arith, e, t.first))

    pub header_is : values (get_or lines_on 0 no_line).text ≡ header_of lines_on
    header_is = first_line lines_on some_line

    -- a header of more than 32 fields speaks first
    few_fields : turn 7 < turn spoken.number → length (header_of lines_on) ≤ 32
    unfolding head_tests text_tests rule7
    few_fields h =
        let l = (get_or lines_on 0 no_line).text in
        let k = ltb-false 32 (length (fields l)) (on_header (test 7 (rule7 l)) (Memᴰ.tail (Memᴰ.tail (Memᴰ.tail (Memᴰ.head refl)))) h) in
        rw (← header_is, values_count l) k

    small_column : spoken.column ≤ 32
    unfolding turn place line_order rule11 rule12 rule13
    small_column = go fits
      where
        header : List (List ℕ)
        header = header_of lines_on

        within : (n c : ℕ) → turn 7 < turn n → c ≤ length header → Columned (test_of spoken) n c → spoken.column ≤ 32
        within n c late h k = rw k.1 (omega (arith, few_fields (rw k.0 late), h))

        go : Fit spoken.file header (get_or lines_on (spoken.line - 1) no_line).text (test_of spoken) → spoken.column ≤ 32
        go (plain e z) = rw z (omega arith)
        go (again k) = within 8 _ (omega arith) (rule8_within spoken.file header) k
        go (long k) = within 11 _ (omega arith) (leftmost_within spoken.file header _ _) k
        go (blank k) = within 12 _ (omega arith) (leftmost_within spoken.file header _ _) k
        go (formless k) = within 13 _ (omega arith) (leftmost_within spoken.file header _ _) k

  -- a claim of a whole file names no column
  pub whole_column : FileClaim files rooms spoken → spoken.column ≡ 0
  unfolding file_tests
  whole_column t = eqb-true spoken.column 0 (mem_all (λ u. eqb u.column 0) _ tt (test_of spoken) t.rule)

  pub sayable : Sayable files r
  sayable = rw b.spoken at (⊎_elim of_file of_line among)
    where
      of_file : FileClaim files rooms spoken → Sayable files (refusal spoken)
      of_file t =
          let n = file_number files rooms spoken t in
          record { lowest = n.0; highest = omega arith; file = (t.from, t.to); line = (λ z. omega arith, λ z. t.line); last = omega arith; column = omega (arith, whole_column t) }

      of_line : LineClaim files spoken → Sayable files (refusal spoken)
      of_line t =
          let n = line_number files spoken t in
          record { lowest = omega arith; highest = omega arith; file = (t.from, t.to); line = (λ z. absurd (omega arith), λ z. absurd (omega arith)); last = t.last; column = small_column t }

-- A refusal's number is 1 to 14, its file one of the files, its line one of that file's, or 0 exactly for rules 1 to 4, its column at most 32.
pub refusal_numbers : (files : List (List ℕ)) (rooms : List ℕ) (r : Refusal) → verdict_of files rooms ≡ Err r → Sayable files r
refusal_numbers files rooms r e = sayable files rooms r ((first_broken files rooms r).0 e)
