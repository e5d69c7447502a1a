-- An index beside the feed: its bytes, and the refusals of its reader and its writer.
use Rattle.std.specs.Prelude.{ℕ, zero, suc, ◌+◌, ◌*◌, ◌-◌, ◌/◌, ◌%◌, Bool, cond, not, ◌&&◌, ◌||◌, List, [], ◌∷◌, ◌++◌, map, length, get_or, take, ltb, eqb, Result, Ok, Err}
use mathlib.Core.Path.{refl}
use Rattle.meaning.specs.declared.Refusal.{Refusal}
use Rattle.meaning.specs.Lists.{ascii, same, some, flat, laid}
use Rattle.meaning.specs.Bytes.{lines_of}
use Rattle.meaning.specs.Refusals.{Test, test, Claim, claim, rule1, rule2, rule4, in_file, speaks}
use Rattle.ranking.specs.Ranks.{before}
use Rattle.indexes.specs.declared.version.Version.{Version}
use Rattle.indexes.specs.Answer.{IndexAnswer}
use Rattle.indexes.specs.declared.IndexRefusal.TheVariants.{Unread, Barred}
use Rattle.indexes.specs.Order.{ids_of, id_of, repeats, ranked}

-- ---- the bytes

-- a number in so many bytes, low byte first, as all numbers here
unfoldable pub low_first : ℕ → ℕ → List ℕ
low_first zero n = []
low_first (suc k) n = n % 256 ∷ low_first k (n / 256)

-- the number that k bytes from `at` on write so
unfoldable pub number_at : ℕ → List ℕ → ℕ → ℕ
number_at zero b at = 0
number_at (suc k) b at = get_or b at 0 + 256 * number_at k b (at + 1)

abbrev pub version1 : Version
version1 = record { number = 1; width = 2; wide = refl }

abbrev pub version2 : Version
version2 = record { number = 2; width = 4; wide = refl }

-- version 1 up to 65,535 records and version 2 above
unfoldable pub version_of : ℕ → Version
version_of n = cond (ltb n 65536) version1 version2

-- the version with this number, where it is 1 or 2
unfoldable pub version_named : ℕ → Version
version_named k = cond (eqb k 1) version1 version2

unfoldable pub mark : List ℕ
mark = ascii "TTX"

-- Bytes: `TTX`, version (16 bits), file number (one byte), count, then that many record numbers.
unfoldable pub index_of : Version → ℕ → List ℕ → List ℕ
index_of v f rs =
    mark ++ (low_first 2 v.number ++ (f ∷ (low_first v.width (length rs) ++ flat (map (low_first v.width) rs))))

-- how many bytes stand before the record numbers
abbrev pub head_length : Version → ℕ
head_length v = 6 + v.width

-- how many bytes an index of n records has
unfoldable pub index_length : Version → ℕ → ℕ
index_length v n = head_length v + n * v.width

-- the record number with index i
unfoldable pub entry : Version → List ℕ → ℕ → ℕ
entry v b i = number_at v.width b (head_length v + i * v.width)

-- ---- the refusals of the reader

-- 40: shorter than 8 bytes or wrong mark
unfoldable pub rule40 : List ℕ → Bool
rule40 b = ltb (length b) 8 || not (same (take 3 b) mark)

-- does an index say another version than this?
unfoldable pub other_version : Version → List ℕ → Bool
other_version v b = not (eqb (number_at 2 b 3) v.number)

-- 41: other version
unfoldable pub rule41 : List ℕ → Bool
rule41 b = other_version version1 b && other_version version2 b

-- wrong file number, count or length
unfoldable pub misfits : Version → ℕ → ℕ → List ℕ → Bool
misfits v f n b = not (eqb (get_or b 5 0) f) || (not (eqb (number_at v.width b 6) n) || not (eqb (length b) (index_length v n)))

-- 42: wrong file number, count or length, or not the version of so many records
unfoldable pub rule42 : Version → ℕ → ℕ → List ℕ → Bool
rule42 v f n b = other_version v b || misfits v f n b

-- record 0 or beyond the last of n
unfoldable pub strays : ℕ → ℕ → Bool
strays n r = eqb r 0 || ltb n r

-- 43: record 0 or beyond the last
unfoldable pub rule43 : Version → ℕ → List ℕ → Bool
rule43 v n b = some (λ i. strays n (entry v b i)) 0 n

-- 44: not strictly rising
unfoldable pub rule44 : Version → List (List ℕ) → List ℕ → Bool
rule44 v ids b = some (λ i. not (before (id_of ids (entry v b i)) (id_of ids (entry v b (i + 1))))) 0 (length ids - 1)

-- the tests of an index beside file f, which has these ids
unfoldable pub index_tests : Version → ℕ → List (List ℕ) → List ℕ → List Test
index_tests v f ids b =
    test 40 (rule40 b)
    ∷ test 41 (rule41 b)
    ∷ test 42 (rule42 v f (length ids) b)
    ∷ test 43 (rule43 v (length ids) b)
    ∷ test 44 (rule44 v ids b)
    ∷ []

-- the lowest number speaking; 0 where no rule is broken
unfoldable pub spoken : List Test → ℕ
spoken [] = 0
spoken (t ∷ r) = let k = spoken r in cond t.broken t.number k

-- ---- the refusals of the writer

-- 45 a repeated id, then 46 a buffer too short for the chosen length
unfoldable pub writer_tests : Version → List (List ℕ) → ℕ → List Test
writer_tests v ids room = test 45 (repeats ids) ∷ test 46 (ltb room (index_length v (length ids))) ∷ []

-- ---- what comes before both

-- an index is for files 1 to 4
unfoldable pub indexed : ℕ → Bool
indexed f = ltb 0 f && ltb f 5

-- The file is read first with its own rules, but for rule 3, since no table is lent. It stands among no other files, so that calendar.txt may not be empty either.
unfoldable pub lone_claims : ℕ → List ℕ → List Claim
lone_claims f s =
    claim 1 f 0 (rule1 f s 0)
    ∷ claim 2 f 0 (rule2 f s 0)
    ∷ claim 4 f 0 (rule4 [] f s 0)
    ∷ in_file f (lines_of s)

unfoldable pub lone_verdict : ℕ → List ℕ → Result Unit Refusal
lone_verdict f s = speaks (lone_claims f s)

-- the file's own refusal, or an answer about the index
abbrev pub if_read : Result Unit Refusal → IndexAnswer → IndexAnswer
if_read (Ok tt) a = a
if_read (Err r) a = Err (Unread r)

-- A file number outside 1 to 4 asked of reader or writer answers 42 at once; then the file's own refusal speaks.
unfoldable pub asked_of : ℕ → Result Unit Refusal → IndexAnswer → IndexAnswer
asked_of f own a = cond (indexed f) (if_read own a) (Err (Barred 42))

-- a broken rule, or an index of so many bytes
unfoldable pub barred_or : ℕ → ℕ → IndexAnswer
barred_or n size = cond (eqb n 0) (Ok size) (Err (Barred n))

-- ---- the reader and the writer

-- what the reader answers to an index b beside file f
unfoldable pub checked : ℕ → List ℕ → List ℕ → IndexAnswer
checked f s b = let ids = ids_of f s in asked_of f (lone_verdict f s) (barred_or (spoken (index_tests (version_of (length ids)) f ids b)) (length b))

-- what the writer answers, with a buffer of so many bytes
unfoldable pub wrote : ℕ → List ℕ → ℕ → IndexAnswer
wrote f s room =
    let ids = ids_of f s in
    asked_of f (lone_verdict f s) (barred_or (spoken (writer_tests (version_of (length ids)) ids room)) (index_length (version_of (length ids)) (length ids)))

-- the buffer after the writer's answer: a refusal changes nothing, an index stands at its start and leaves the rest unchanged
abbrev pub left_by : IndexAnswer → List ℕ → List ℕ → List ℕ
left_by (Ok n) index lent = laid index lent
left_by (Err (Unread r)) index lent = lent
left_by (Err (Barred n)) index lent = lent

unfoldable pub written : ℕ → List ℕ → List ℕ → List ℕ
written f s lent = left_by (wrote f s (length lent)) (index_of (version_of (length (ids_of f s))) f (ranked (ids_of f s))) lent

-- what document 02 calls each case of the answer, as five numbers: number (0 written or accepted), the file's own refusal's file, line and column, the index's length
unfoldable pub index_numbers : IndexAnswer → List ℕ
index_numbers (Ok n) = 0 ∷ 0 ∷ 0 ∷ 0 ∷ n ∷ []
index_numbers (Err (Unread r)) = r.number ∷ r.file ∷ r.line ∷ r.column ∷ 0 ∷ []
index_numbers (Err (Barred n)) = n ∷ 0 ∷ 0 ∷ 0 ∷ 0 ∷ []
