-- The faults of a feed place by place: files in order, lines in order, and what each place is put to.
use Prim.Native.Nat.{ℕ, ◌+◌, ◌-◌, ◌≤◌, ◌<◌}
use native.Mathlib.Omega.{arith}
use mathlib.Core.Path.{◌≡◌, refl, sym, ap, subst}
use mathlib.Core.Logic.{◌↔◌, ◌⊎◌, inl, inr, ⊎_elim}
use mathlib.Core.Bool.{Bool, true, false, cond, ◌||◌}
use mathlib.Core.List.Memᴰ
use mathlib.Core.List.{List, [], ◌∷◌, ◌++◌, Memᴰ}
use lib.ListN.{length, get_or}
use lib.Dec.{ltb, eqb}
use borrow.Author.Tests.{ne_eqb, ltb-true, ltb-false, lt-ltb, le-ltb}
use Rattle.meaning.specs.declared.Refusal.{Refusal}
use Rattle.meaning.specs.Bytes.{count_lf}
use Rattle.meaning.specs.Tables.{file_of}
use Rattle.meaning.specs.Refusals.{Test, test, Claim, on_line, max_bytes, max_lines, rule1, rule2, rule4, head_tests, speaks}
use Rattle.meaning.specs.Promises.{Ordered, Each, FirstBroken}
use Rattle.meaning.proofs.ListLaws.{both}
use Rattle.meaning.proofs.Laws.{each_append, along, Along, along_in, along_of, along_ordered}
use Rattle.faults.specs.List.{texts_of, fault_at, whole_faults, tests_under, head_said, later_faults, line_faults, file_faults, faults_from, faults_of}
use Rattle.faults.specs.Promises.{bytes_at, texts_at, WholeRule, long, many, unclosed, OfWhole, OfJudged, fault_before}
use Rattle.faults.proofs.OneFault.{before_line, fault_exactly, fault_here, fault_ordered, first_here}

-- ---- lines and files in order

-- the tests of line n of a file with these texts of lines: line 1 is the header
unfoldable pub tests_at : ℕ → List (List ℕ) → ℕ → List ℕ → List Test
tests_at f ts n l = cond (eqb n 1) (head_tests f l) (tests_under (head_said f (get_or ts 0 [])) f (get_or ts 0 []) l)

-- what a line of a file is put to
unfoldable pub claims_at : List (List ℕ) → ℕ → ℕ → List Claim
claims_at files f n = on_line f n (tests_at f (texts_of (file_of files f)) n (get_or (texts_of (file_of files f)) (n - 1) []))

-- the faults of the lines after the header, line by line
later_along : (head : List ℕ → List Test) (f : ℕ) (h : List ℕ) (n : ℕ) (ls : List (List ℕ)) → 2 ≤ n
    → later_faults f h n ls ≡ along (λ k l. fault_at f k (cond (eqb k 1) (head l) (tests_under (head_said f h) f h l))) n ls
unfolding later_faults along
later_along head f h n [] low = refl
later_along head f h n (l ∷ r) low =
    let ne : n ≡ 1 → ⊥ = λ e. omega arith in
    rw (ne_eqb n 1 ne, later_along head f h (n + 1) r (omega arith))

-- so are those of all lines
lines_along : (f : ℕ) (ts : List (List ℕ)) → line_faults f ts ≡ along (λ k l. fault_at f k (tests_at f ts k l)) 1 ts
unfolding line_faults along tests_at
lines_along f [] = refl
lines_along f (h ∷ r) = rw (later_along (head_tests f) f h 2 r (omega arith))

-- and those of files, file by file
files_along : (files : List (List ℕ)) (f : ℕ) (ss : List (List ℕ)) → faults_from files f ss ≡ along (file_faults files) f ss
unfolding faults_from along
files_along files f [] = refl
files_along files f (s ∷ r) = rw (files_along files (f + 1) r)

-- the list, file by file
pub faults_along : (files : List (List ℕ)) → faults_of files ≡ along (file_faults files) 1 files
unfolding faults_of
faults_along files = files_along files 1 files

-- ---- lines

-- a fault on one of these lines
pub record OfTexts (f : ℕ) (ts : List (List ℕ)) (d : Refusal) : Type 0 where
  pub file : d.file ≡ f
  pub from : 1 ≤ d.line
  pub to : d.line ≤ length ts
  pub first : FirstBroken (on_line f d.line (tests_at f ts d.line (get_or ts (d.line - 1) []))) d

module _ (f : ℕ) (ts : List (List ℕ)) where
  -- the fault of line k, whose text is l
  abbrev by_line : ℕ → List ℕ → List Refusal
  by_line k l = fault_at f k (tests_at f ts k l)

  -- a fault of lines is the first of the tests of its line that is broken
  pub texts_exactly : (d : Refusal) → Memᴰ d (line_faults f ts) ↔ OfTexts f ts d
  texts_exactly d = (λ m. there (along_in [] by_line 1 ts d (rw (lines_along f ts) at m)), λ t. rw (lines_along f ts) (along_of [] by_line 1 ts d (back t)))
    where
      there : Along [] by_line 1 ts d → OfTexts f ts d
      there t =
          let tests = tests_at f ts t.number (get_or ts (t.number - 1) []) in
          let b = (fault_exactly f t.number tests d).0 t.here in
          let u = first_here f t.number tests d b in
          let e : d.line ≡ t.number = u.line in
          record { file = u.file; from = omega arith; to = omega arith; first = subst (λ (n : ℕ). FirstBroken (on_line f n (tests_at f ts n (get_or ts (n - 1) []))) d) (sym e) b }

      back : OfTexts f ts d → Along [] by_line 1 ts d
      back t = record { number = d.line; from = t.from; to = omega arith; here = (fault_exactly f d.line (tests_at f ts d.line (get_or ts (d.line - 1) [])) d).1 t.first }

  -- the faults of lines rise
  pub lines_rise : Ordered fault_before (line_faults f ts)
  lines_rise = rw (lines_along f ts) (along_ordered [] by_line fault_before (λ k l. fault_ordered f k (tests_at f ts k l)) apart 1 ts)
    where
      apart : (j k : ℕ) (b c : List ℕ) (d e : Refusal) → j < k → Memᴰ d (by_line j b) → Memᴰ e (by_line k c) → fault_before d e ≡ true
      apart j k b c d e h m n =
          let u = fault_here f j (tests_at f ts j b) d m in
          let v = fault_here f k (tests_at f ts k c) e n in
          before_line d e (cc) (omega arith)

-- ---- of which file

-- a fault of file f
abbrev pub InFile : ℕ → Refusal → Type 0
InFile f d = d.file ≡ f

-- so is the fault of a place there
at_file : (f n : ℕ) (ts : List Test) → Each (InFile f) (fault_at f n ts)
at_file f n ts d m = (fault_here f n ts d m).file

-- the faults of a file have its number
pub file_file : (files : List (List ℕ)) (f : ℕ) (s : List ℕ) → Each (InFile f) (file_faults files f s)
unfolding file_faults whole_faults
file_file files f s =
    each_append (InFile f) _ _
    (each_append (InFile f) _ _ (at_file f 0 _) (each_append (InFile f) _ _ (at_file f 0 _) (at_file f 0 _)))
    (go (rule1 f s 0 || rule2 f s 0))
  where
    go : (t : Bool) → Each (InFile f) (cond t [] (line_faults f (texts_of s)))
    go true = λ d m. absurd (Memᴰ.not-nil m)
    go false = λ d m. ((texts_exactly f (texts_of s) d).0 m).file

-- ---- of its own file

-- the fault of a rule that alone is asked of a whole file
abbrev pub wholly : ℕ → ℕ → Refusal
wholly n f = record { number = n; file = f; line = 0; column = 0 }

-- it is the fault where the rule is broken
pub lone_exactly : (f n : ℕ) (b : Bool) (d : Refusal) → Memᴰ d (fault_at f 0 (test n b ∷ [])) ↔ (d ≡ wholly n f) × (b ≡ true)
unfolding fault_at on_line speaks
lone_exactly f n true d = (λ m. (Memᴰ.eq_of_singleton m, refl), λ e. Memᴰ.head e.0)
lone_exactly f n false d = (λ m. absurd (Memᴰ.not-nil m), λ e. both false e.1 refl)

module _ (files : List (List ℕ)) (d : Refusal) where
  -- the faults of the whole file are those of rules 1, 2 and 4
  whole_in : Memᴰ d (whole_faults files d.file (bytes_at files d)) → OfWhole files d
  unfolding whole_faults rule1 rule2
  whole_in m =
      ⊎_elim (λ k. let e = (lone_exactly f 1 _ d).0 k in of 1 e.0 (λ n. long n (ltb-true max_bytes (length s) e.1)))
      (λ m. ⊎_elim (λ k. let e = (lone_exactly f 2 _ d).0 k in of 2 e.0 (λ n. many n (ltb-true max_lines (count_lf s) e.1)))
      (λ k. let e = (lone_exactly f 4 _ d).0 k in of 4 e.0 (λ n. unclosed n e.1))
      (Memᴰ.append_cases _ m)) (Memᴰ.append_cases _ m)
    where
      f : ℕ
      f = d.file

      s : List ℕ
      s = bytes_at files d

      of : (n : ℕ) → d ≡ wholly n d.file → (d.number ≡ n → WholeRule files d) → OfWhole files d
      of n e rule = record { line = ap (λ (x : Refusal). x.line) e; column = ap (λ (x : Refusal). x.column) e; rule = rule (ap (λ (x : Refusal). x.number) e) }

  -- and those of rules 1, 2 and 4 are its faults
  whole_of_lem : OfWhole files d → Memᴰ d (whole_faults files d.file (bytes_at files d))
  unfolding whole_faults rule1 rule2
  whole_of_lem w = go w.rule
    where
      f : ℕ
      f = d.file

      s : List ℕ
      s = bytes_at files d

      by : ℕ → Bool → List Refusal
      by n b = fault_at f 0 (test n b ∷ [])

      is : (n : ℕ) → d.number ≡ n → d ≡ wholly n d.file
      is n e = λ i. record { number = e i; file = d.file; line = w.line i; column = w.column i }

      go : WholeRule files d → Memᴰ d (whole_faults files d.file (bytes_at files d))
      go (long e h) = Memᴰ.append_left (by 2 (rule2 f s 0) ++ by 4 (rule4 files f s 0)) ((lone_exactly f 1 _ d).1 (is 1 e, lt-ltb max_bytes (length s) h))
      go (many e h) = Memᴰ.append_right (by 1 (rule1 f s 0)) (Memᴰ.append_left (by 4 (rule4 files f s 0)) ((lone_exactly f 2 _ d).1 (is 2 e, lt-ltb max_lines (count_lf s) h)))
      go (unclosed e h) = Memᴰ.append_right (by 1 (rule1 f s 0)) (Memᴰ.append_right (by 2 (rule2 f s 0)) ((lone_exactly f 4 _ d).1 (is 4 e, h)))

  -- a line of a file that breaks neither 1 nor 2, and the first of its tests that is broken
  pub record OnText : Type 0 where
    pub judged : OfJudged files d
    pub first : FirstBroken (claims_at files d.file d.line) d

  -- a fault on a line of its own file, where the lines are judged
  text_in : length (bytes_at files d) ≤ max_bytes → count_lf (bytes_at files d) ≤ max_lines → Memᴰ d (line_faults d.file (texts_at files d)) → OnText
  unfolding claims_at
  text_in short few m =
      let t = (texts_exactly d.file (texts_at files d) d).0 m in
      record { judged = record { short = short; few = few; from = t.from; to = t.to }; first = t.first }

  -- and back
  text_of : OnText → Memᴰ d (line_faults d.file (texts_at files d))
  unfolding claims_at
  text_of t = (texts_exactly d.file (texts_at files d) d).1 (record { file = refl; from = t.judged.from; to = t.judged.to; first = t.first })

  -- a fault among those of its own file
  pub own_exactly : Memᴰ d (file_faults files d.file (bytes_at files d)) ↔ (OfWhole files d ⊎ OnText)
  unfolding file_faults rule1 rule2
  own_exactly = (λ m. ⊎_elim (λ k. inl (whole_in k)) (λ k. inr (lines (ltb max_bytes (length s)) refl (ltb max_lines (count_lf s)) refl k)) (Memᴰ.append_cases _ m), ⊎_elim (λ w. Memᴰ.append_left _ (whole_of_lem w)) back)
    where
      s : List ℕ
      s = bytes_at files d

      lines : (a : Bool) → ltb max_bytes (length s) ≡ a → (b : Bool) → ltb max_lines (count_lf s) ≡ b → Memᴰ d (cond (a || b) [] (line_faults d.file (texts_of s))) → OnText
      lines true p b q m = absurd (Memᴰ.not-nil m)
      lines false p true q m = absurd (Memᴰ.not-nil m)
      lines false p false q m = text_in (ltb-false max_bytes (length s) p) (ltb-false max_lines (count_lf s) q) m

      back : OnText → Memᴰ d (whole_faults files d.file s ++ cond (ltb max_bytes (length s) || ltb max_lines (count_lf s)) [] (line_faults d.file (texts_of s)))
      back t = rw (le-ltb max_bytes (length s) t.judged.short, le-ltb max_lines (count_lf s) t.judged.few) (Memᴰ.append_right (whole_faults files d.file s) (text_of t))

  -- A fault is in the list exactly when it is one of its file's, as a whole or on a line, and its file is one of the files.
  pub place_exactly : Memᴰ d (faults_of files) ↔ (1 ≤ d.file) × (d.file ≤ length files) × (OfWhole files d ⊎ OnText)
  unfolding file_of
  place_exactly = (λ m. there (along_in [] (file_faults files) 1 files d (rw (faults_along files) at m)), back)
    where
      there : Along [] (file_faults files) 1 files d → (1 ≤ d.file) × (d.file ≤ length files) × (OfWhole files d ⊎ OnText)
      there t =
          let e = file_file files t.number (get_or files (t.number - 1) []) d t.here in
          (omega arith, omega arith, own_exactly.0 (subst (λ (f : ℕ). Memᴰ d (file_faults files f (file_of files f))) (sym e) t.here))

      back : (1 ≤ d.file) × (d.file ≤ length files) × (OfWhole files d ⊎ OnText) → Memᴰ d (faults_of files)
      back w = rw (faults_along files) (along_of [] (file_faults files) 1 files d (record { number = d.file; from = w.0; to = omega arith; here = own_exactly.1 w.2 }))
