-- What the three demands promise, as statements about the definitions. The theorems stand in proofs/, the demands themselves in Demands.
use Rattle.std.specs.Prelude.{ℕ, ◌+◌, ◌*◌, ◌-◌, ◌≤◌, ◌<◌, ◌≡◌, ◌↔◌, ◌⊎◌, Bool, true, false, cond, ◌&&◌, ◌||◌, ℤ, pos, length, get_or, ltb, eqb}
use mathlib.Core.List.{List, [], ◌∷◌, ◌++◌, Memᴰ}
use Rattle.meaning.specs.declared.Need.{Need}
use Rattle.meaning.specs.declared.Column.{Column}
use Rattle.meaning.specs.declared.Refusal.{Refusal}
use Rattle.meaning.specs.declared.Place.{Place}
use Rattle.meaning.specs.declared.Profile.{Profile}
use Rattle.meaning.specs.declared.Profile.TheVariants.{Plain, Boards}
use Rattle.meaning.specs.Lists.{same, keep, laid, place}
use Rattle.meaning.specs.Bytes.{Line, lines_of, count_lf, fields}
use Rattle.meaning.specs.Columns.{places, header_of}
use Rattle.meaning.specs.Tables.{Feed, file_of, time_trip, width_of}
use Rattle.meaning.specs.Refusals.{Test, test, Claim, claim, max_bytes, max_lines, rule1, rule2, rule3, rule4, head_tests, line_tests, long, blank, formless, claims, refusal, verdict_of, verdict_numbers}
use Rattle.meaning.specs.Rules.{row, timed, arrives, departs, sequence, rules_of, record_count}
use Rattle.meaning.specs.Pages.{place_in, behind, rowed}
use Rattle.meaning.specs.Findings.{Finding, triple, answer_numbers}
use Rattle.meaning.specs.Outcome.{Outcome}

-- no element comes before one that stands earlier, and none stands twice
abbrev pub Ordered : {A : Type 0} → (A → A → Bool) → List A → Type 0
Ordered less [] = Unit {0}
Ordered less (x ∷ r) = ((y : _) → Memᴰ y r → less x y ≡ true) × Ordered less r

-- every element has a property
abbrev pub Each : {A : Type 0} → (A → Type 0) → List A → Type 0
Each P l = (x : _) → Memᴰ x l → P x

-- numbers compared in order
abbrev pub sooner2 : ℕ → ℕ → ℕ → ℕ → Bool
sooner2 a b x y = ltb a x || (eqb a x && ltb b y)

abbrev pub sooner3 : ℕ → ℕ → ℕ → ℕ → ℕ → ℕ → Bool
sooner3 a b c x y z = ltb a x || (eqb a x && sooner2 b c y z)

-- ---- the answer, in the seven numbers of `answer_numbers`

abbrev pub says_accepted : List ℕ
says_accepted = 0 ∷ 0 ∷ 0 ∷ 0 ∷ 0 ∷ 0 ∷ 0 ∷ []

abbrev pub says_findings : ℕ → ℕ → List ℕ
says_findings written total = 1 ∷ 0 ∷ 0 ∷ 0 ∷ 0 ∷ written ∷ total ∷ []

abbrev pub says_refused : Refusal → List ℕ
says_refused r = 2 ∷ r.number ∷ r.file ∷ r.line ∷ r.column ∷ 0 ∷ 0 ∷ []

-- of a feed that reads: accepted exactly when the total is 0
abbrev pub says_read : ℕ → ℕ → List ℕ
says_read written total = cond (eqb total 0) says_accepted (says_findings written total)

-- ---- the verdict, in the numbers of `verdict_numbers`

abbrev pub says_readable : List ℕ
says_readable = []

abbrev pub says_unreadable : Refusal → List ℕ
says_unreadable r = r.number ∷ r.file ∷ r.line ∷ r.column ∷ []

-- how many findings an answer says were written, and how many there are
abbrev pub written_in : List ℕ → ℕ
written_in ns = get_or ns 5 0

abbrev pub total_in : List ℕ → ℕ
total_in ns = get_or ns 6 0

-- ---- Demand 1

-- the tests of a whole file among the others, with its table's length
unfoldable pub file_tests : List (List ℕ) → ℕ → List ℕ → ℕ → List Test
file_tests files f s room =
    test 1 (rule1 f s room) ∷ test 2 (rule2 f s room) ∷ test 3 (rule3 f s room) ∷ test 4 (rule4 files f s room) ∷ []

-- how many fields a file's header has
unfoldable pub field_count : List Line → ℕ
field_count [] = 0
field_count (h ∷ r) = length (fields h.text)

-- the tests of line n of a file with these lines: line 1 is the header
unfoldable pub tests_on : ℕ → List Line → ℕ → Line → List Test
tests_on f ls n l =
    cond (eqb n 1) (head_tests f l.text) (line_tests f (places f (header_of ls)) (field_count ls) l.text)

abbrev pub no_line : Line
no_line = record { start = 0; text = [] }

-- the test that a claim makes of its place
abbrev pub test_of : Claim → Test
test_of p = record { number = p.number; column = p.column; broken = p.broken }

-- a claim of rules 1 to 4
pub record FileClaim (files : List (List ℕ)) (rooms : List ℕ) (p : Claim) : Type 0 where
  pub line : p.line ≡ 0
  pub from : 1 ≤ p.file
  pub to : p.file ≤ length files
  pub room : p.file ≤ length rooms
  pub rule : Memᴰ (test_of p) (file_tests files p.file (file_of files p.file) (get_or rooms (p.file - 1) 0))

-- a claim of rules 5 to 14
pub record LineClaim (files : List (List ℕ)) (p : Claim) : Type 0 where
  pub from : 1 ≤ p.file
  pub to : p.file ≤ length files
  pub first : 1 ≤ p.line
  pub last : p.line ≤ length (lines_of (file_of files p.file))
  pub rule :
      Memᴰ (test_of p)
      (tests_on p.file (lines_of (file_of files p.file)) p.line (get_or (lines_of (file_of files p.file)) (p.line - 1) no_line))

-- the rules of a line in the order in which they speak: the lowest number first, but 14 after 5 and before 6
unfoldable pub line_order : List ℕ
line_order = 5 ∷ 14 ∷ 6 ∷ 7 ∷ 8 ∷ 9 ∷ 10 ∷ 11 ∷ 12 ∷ 13 ∷ []

-- a rule's turn on a line
unfoldable pub turn : ℕ → ℕ
turn n = place (λ m. eqb m n) 1 line_order

-- which of two claims speaks first: rules 1 to 4 rule by rule over the files; then file, line, turn
unfoldable pub speaks_before : Claim → Claim → Bool
speaks_before p q =
    cond (ltb p.number 5)
    (cond (ltb q.number 5) (sooner2 p.number p.file q.number q.file) true)
    (cond (ltb q.number 5) false (sooner3 p.file p.line (turn p.number) q.file q.line (turn q.number)))

-- the claim at some place is broken, it is the refusal's, and nothing that speaks before it is broken
abbrev pub no_claim : Claim
no_claim = claim 0 0 0 false

pub record FirstBroken (cs : List Claim) (r : Refusal) : Type 0 where
  pub at : ℕ
  pub inside : at < length cs
  pub spoken : refusal (get_or cs at no_claim) ≡ r
  pub broken : (get_or cs at no_claim).broken ≡ true
  pub silent : (k : ℕ) → k < at → (get_or cs k no_claim).broken ≡ false

-- no rule is broken anywhere
abbrev pub NoneBroken : List Claim → Type 0
NoneBroken cs = (p : Claim) → Memᴰ p cs → p.broken ≡ false

-- some claim is broken
pub record SomeBroken (cs : List Claim) : Type 0 where
  pub which : Claim
  pub among : Memᴰ which cs
  pub broken : which.broken ≡ true

-- a feed is refused
pub record RefusedBy (files : List (List ℕ)) (rooms : List ℕ) : Type 0 where
  pub told : Refusal
  pub verdict : verdict_numbers (verdict_of files rooms) ≡ says_unreadable told

-- the verdict says a refusal exactly when it is the first one broken, that all files read exactly when none is, and nothing else
pub record VerdictSaid (files : List (List ℕ)) (rooms : List ℕ) : Type 0 where
  pub refused : (r : Refusal) → verdict_numbers (verdict_of files rooms) ≡ says_unreadable r ↔ FirstBroken (claims files rooms) r
  pub readable : verdict_numbers (verdict_of files rooms) ≡ says_readable ↔ NoneBroken (claims files rooms)
  pub either : RefusedBy files rooms ⊎ (verdict_numbers (verdict_of files rooms) ≡ says_readable)

-- what a refusal can say: a number from 1 to 14, its file, its line, or line 0 exactly for a whole file, and one of at most 32 columns
pub record Sayable (files : List (List ℕ)) (r : Refusal) : Type 0 where
  pub lowest : 1 ≤ r.number
  pub highest : r.number ≤ 14
  pub file : (1 ≤ r.file) × (r.file ≤ length files)
  pub line : r.line ≡ 0 ↔ r.number ≤ 4
  pub last : r.line ≤ length (lines_of (file_of files r.file))
  pub column : r.column ≤ 32

-- an answer, by its numbers: accepted, findings, or a refusal
pub data Ends (files : List (List ℕ)) (ns : List ℕ) : Type 0 where
  accepted : ns ≡ says_accepted → Ends files ns
  findings : (written total : ℕ) → ns ≡ says_findings written total → Ends files ns
  refused : (r : Refusal) → ns ≡ says_refused r → Sayable files r → Ends files ns

-- ---- Demand 2

-- rules 1 to 4 are kept by a file among these and its table's length
pub record WholeKept (files : List (List ℕ)) (f : ℕ) (s : List ℕ) (room : ℕ) : Type 0 where
  pub short : length s ≤ max_bytes
  pub few : count_lf s ≤ max_lines
  pub roomy : width_of f * count_lf s ≤ room
  pub ended : rule4 files f s room ≡ false

-- rules 11 to 13 are kept by a value under a known column, on a line with this slack
pub record ValueKept (free : Need) (c : Column) (v : List ℕ) : Type 0 where
  pub short : long c v ≡ false
  pub there : blank free c v ≡ false
  pub formed : formless c v ≡ false

-- what it is to be the first place of a value among values that are counted from n, or 0
pub data First (v : List ℕ) (n : ℕ) (vs : List (List ℕ)) (r : ℕ) : Type 0 where
  absent : r ≡ 0 → ((j : ℕ) → j < length vs → same (get_or vs j []) v ≡ false) → First v n vs r
  found :
      (k : ℕ)
      → r ≡ n + k
      → k < length vs
      → same (get_or vs k []) v ≡ true
      → ((j : ℕ) → j < k → same (get_or vs j []) v ≡ false)
      → First v n vs r

-- times never fall between any two timed lines of one trip, taken in trip order: the one with the smaller sequence departs no later than the other arrives
abbrev pub TimesNeverFall : Feed → Type 0
TimesNeverFall w =
    (i j : ℕ)
    → i < length w.stop_times
    → j < length w.stop_times
    → same (time_trip (row w.stop_times i)) (time_trip (row w.stop_times j)) ≡ true
    → timed (row w.stop_times i) ≡ true
    → timed (row w.stop_times j) ≡ true
    → sequence (row w.stop_times i) < sequence (row w.stop_times j)
    → departs (row w.stop_times i) ≤ arrives (row w.stop_times j)

-- no two lines of one trip share a sequence: trip order leaves no two of them open
abbrev pub SequencesDiffer : Feed → Type 0
SequencesDiffer w =
    (i j : ℕ)
    → i < j
    → j < length w.stop_times
    → same (time_trip (row w.stop_times i)) (time_trip (row w.stop_times j)) ≡ true
    → sequence (row w.stop_times i) ≡ sequence (row w.stop_times j)
    → ⊥

-- ---- Demand 3

-- binding rule r, of those asked for, is broken on line n of file f
pub record BrokenAt (asked : Profile) (w : Feed) (f n r : ℕ) : Type 0 where
  pub from : 2 ≤ n
  pub to : n < record_count w f + 2
  pub rule : Memᴰ (test r true) (rules_of asked w f (n - 2))

-- the highest number of a rule that is asked for
abbrev pub highest : Profile → ℕ
highest Plain = 31
highest Boards = 62

-- the numbers of a finding: file 1 to 6, a line of that file's records, rule 20 to 31 or, for boards, to 62
pub record Findable (asked : Profile) (w : Feed) (d : Finding) : Type 0 where
  pub file : (1 ≤ d.file) × (d.file ≤ 6)
  pub line : (2 ≤ d.line) × (d.line ≤ record_count w d.file + 1)
  pub rule : (20 ≤ d.rule) × (d.rule ≤ highest asked)

-- which of two findings comes first: by file, line, rule
unfoldable pub comes_before : Finding → Finding → Bool
comes_before d e = sooner3 d.file d.line d.rule e.file e.line e.rule

-- What a call from p hands out of entries ds with rows of this width: of those after p the earliest, none skipped, as many as fit, n of them; the
-- lent list then has their rows, its rest unchanged.
pub record PageGiven {A : Type 0} (row : A → List ℤ) (width : ℕ) (ds : List A) (p : Place) (lent list : List ℤ) (n : ℕ) : Type 0 where
  pub given : List A
  pub later : List A
  pub after_p : keep (λ d. behind p (place_in (row d))) ds ≡ given ++ later
  pub fits : width * length given ≤ length lent
  pub full : (later ≡ []) ⊎ (length lent < width * length given + width)
  pub holds : list ≡ laid (rowed row given) lent
  pub many : length given ≡ n

-- a call hands out findings, three numbers each, and tells how many were written, and the total over the whole feed
pub record PageTold (ds : List Finding) (p : Place) (lent : List ℤ) (o : Outcome) : Type 0 where
  pub written : ℕ
  pub page : PageGiven triple 3 ds p lent o.list written
  pub answer : answer_numbers o.answer ≡ says_read written (length ds)

-- the beginning of the list
abbrev pub beginning : Place
beginning = record { file = pos 0; line = pos 0; rule = pos 0 }
