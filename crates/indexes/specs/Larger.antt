-- Larger feeds, document 02's E9, sentence by sentence, of calls that are lent file f. The limits of rules 1 and 2 stand in meaning's Limits.
use Rattle.std.specs.Prelude.{ℕ, ◌+◌, ◌*◌, ◌≤◌, ◌<◌, ◌≡◌, ◌↔◌, ◌⊎◌, true, false, List, [], ◌∷◌, ◌++◌, map, length, take, ltb, Result}
use Rattle.meaning.specs.declared.Refusal.{Refusal}
use Rattle.meaning.specs.Lists.{ascii, flat}
use Rattle.meaning.specs.Bytes.{count_lf, lines_of}
use Rattle.meaning.specs.Refusals.{Test, test, Claim, claim, rule4, in_file, speaks, verdict_numbers}
use Rattle.meaning.specs.Promises.{says_readable}
use Rattle.indexes.specs.Answer.{IndexAnswer}
use Rattle.indexes.specs.Order.{ids_of, repeats, ranked, Rising}
use Rattle.indexes.specs.Index.{low_first, number_at, version1, version2, index_of, head_length, rule40, other_version, misfits, rule43, rule44, spoken, indexed, asked_of, barred_or, checked, wrote, written, index_numbers}
use Rattle.indexes.specs.Promises.{Bytes, Reads, says_whole, says_unread, says_barred}

-- ---- an older reader

-- A file's own rules, with the limits of document 01.
unfoldable pub older_claims : ℕ → List ℕ → List Claim
older_claims f s =
    claim 1 f 0 (ltb 16777216 (length s))
    ∷ claim 2 f 0 (ltb 65536 (count_lf s))
    ∷ claim 4 f 0 (rule4 [] f s 0)
    ∷ in_file f (lines_of s)

unfoldable pub older_verdict : ℕ → List ℕ → Result Unit Refusal
older_verdict f s = speaks (older_claims f s)

-- The tests of E4: version 1 is the only one.
unfoldable pub older_tests : ℕ → List (List ℕ) → List ℕ → List Test
older_tests f ids b =
    test 40 (rule40 b)
    ∷ test 41 (other_version version1 b)
    ∷ test 42 (misfits version1 f (length ids) b)
    ∷ test 43 (rule43 version1 (length ids) b)
    ∷ test 44 (rule44 version1 ids b)
    ∷ []

-- what it answers to an index b beside file f
unfoldable pub older : ℕ → List ℕ → List ℕ → IndexAnswer
older f s b = asked_of f (older_verdict f s) (barred_or (spoken (older_tests f (ids_of f s) b)) (length b))

-- rule n, broken by file f as a whole
abbrev pub whole_file : ℕ → ℕ → Refusal
whole_file n f = record { number = n; file = f; line = 0; column = 0 }

-- ---- what is promised

pub record Larger (f : ℕ) (s : List ℕ) : Type 0 where
  -- Index version 2 has a 32-bit count and 32-bit record numbers,
  pub wide : (rs : List ℕ) → index_of version2 f rs ≡ ascii "TTX" ++ (2 ∷ 0 ∷ f ∷ (low_first 4 (length rs) ++ flat (map (low_first 4) rs)))
  -- so 10 bytes before them.
  pub ten : head_length version2 ≡ 10
  -- The writer uses version 1 up to 65,535 records
  pub first : length (ids_of f s) ≤ 65535 → (lent : List ℕ) (n : ℕ) → index_numbers (wrote f s (length lent)) ≡ says_whole n → take n (written f s lent) ≡ index_of version1 f (ranked (ids_of f s))
  -- and version 2 above,
  pub second : 65535 < length (ids_of f s) → (lent : List ℕ) (n : ℕ) → index_numbers (wrote f s (length lent)) ≡ says_whole n → take n (written f s lent) ≡ index_of version2 f (ranked (ids_of f s))
  -- and 46 follows the chosen length.
  pub first_length : Reads f s → repeats (ids_of f s) ≡ false → length (ids_of f s) ≤ 65535 → (room : ℕ) → index_numbers (wrote f s room) ≡ says_barred 46 ↔ room < 8 + 2 * length (ids_of f s)
  pub second_length : Reads f s → repeats (ids_of f s) ≡ false → 65535 < length (ids_of f s) → (room : ℕ) → index_numbers (wrote f s room) ≡ says_barred 46 ↔ room < 10 + 4 * length (ids_of f s)
  -- The reader takes both,
  pub takes_first : Reads f s → length (ids_of f s) ≤ 65535 → (rs : List ℕ) → Rising (ids_of f s) rs → index_numbers (checked f s (index_of version1 f rs)) ≡ says_whole (8 + 2 * length (ids_of f s))
  pub takes_second : Reads f s → 65535 < length (ids_of f s) → (rs : List ℕ) → Rising (ids_of f s) rs → index_numbers (checked f s (index_of version2 f rs)) ≡ says_whole (10 + 4 * length (ids_of f s))
  -- but refuses with 42 a version 2 index of 65,535 records or fewer, or of 8 or 9 bytes.
  pub narrow : Reads f s → (b : List ℕ) → rule40 b ≡ false → number_at 2 b 3 ≡ 2 → (number_at 4 b 6 ≤ 65535) ⊎ (length b < 10) → index_numbers (checked f s b) ≡ says_barred 42
  -- A version 1 index can't name more records: 42 too.
  pub too_many : Reads f s → 65535 < length (ids_of f s) → (b : List ℕ) → rule40 b ≡ false → number_at 2 b 3 ≡ 1 → index_numbers (checked f s b) ≡ says_barred 42
  -- For every file there is still at most one accepted index.
  pub one : (b c : List ℕ) → Bytes b → Bytes c → index_numbers (checked f s b) ≡ says_whole (length b) → index_numbers (checked f s c) ≡ says_whole (length c) → b ≡ c
  -- Stored version 1 indexes stay good.
  pub stored : (b : List ℕ) → index_numbers (older f s b) ≡ says_whole (length b) → index_numbers (checked f s b) ≡ says_whole (length b)
  -- Older readers answer 1 or 2 to a file past the old limits,
  pub past : indexed f ≡ true → (16777216 < length s) ⊎ (65536 < count_lf s) → (b : List ℕ) → (index_numbers (older f s b) ≡ says_unread (whole_file 1 f)) ⊎ (index_numbers (older f s b) ≡ says_unread (whole_file 2 f))
  -- and 41 to version 2 beside a file they can read.
  pub other : indexed f ≡ true → verdict_numbers (older_verdict f s) ≡ says_readable → (b : List ℕ) → rule40 b ≡ false → number_at 2 b 3 ≡ 2 → index_numbers (older f s b) ≡ says_barred 41
