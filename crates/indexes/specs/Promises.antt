-- An index beside the feed, document 02's E4, sentence by sentence, of calls that are lent file f.
use Rattle.std.specs.Prelude.{ℕ, ◌+◌, ◌*◌, ◌≤◌, ◌<◌, ◌≡◌, ◌↔◌, true, false, List, [], ◌∷◌, length, get_or, take, drop}
use Rattle.meaning.specs.declared.Refusal.{Refusal}
use Rattle.meaning.specs.Refusals.{Test, test, verdict_numbers}
use Rattle.meaning.specs.Promises.{says_readable, FirstBroken}
use Rattle.indexes.specs.Order.{ids_of, repeats, ranked, Rising}
use Rattle.indexes.specs.Index.{version_of, index_of, index_length, index_tests, writer_tests, indexed, lone_claims, lone_verdict, checked, wrote, written, index_numbers}

-- an index that lists every record of file f once, in rising order of ids
pub record Lists (f : ℕ) (ids : List (List ℕ)) (b : List ℕ) : Type 0 where
  pub records : List ℕ
  pub rising : Rising ids records
  pub bytes : b ≡ index_of (version_of (length ids)) f records

-- what a lent slice of bytes holds
abbrev pub Bytes : List ℕ → Type 0
Bytes b = (i : ℕ) → get_or b i 0 < 256

-- a file that is asked for and can be read
pub record Reads (f : ℕ) (s : List ℕ) : Type 0 where
  pub asked : indexed f ≡ true
  pub verdict : verdict_numbers (lone_verdict f s) ≡ says_readable

abbrev pub no_test : Test
no_test = test 0 false

-- the lowest number of a broken test: it is broken, and no test before it is
pub record Lowest (ts : List Test) (n : ℕ) : Type 0 where
  pub at : ℕ
  pub inside : at < length ts
  pub number : (get_or ts at no_test).number ≡ n
  pub broken : (get_or ts at no_test).broken ≡ true
  pub silent : (k : ℕ) → k < at → (get_or ts k no_test).broken ≡ false

-- an index of n bytes was written, or is accepted
abbrev pub says_whole : ℕ → List ℕ
says_whole n = 0 ∷ 0 ∷ 0 ∷ 0 ∷ n ∷ []

-- the file's own refusal
abbrev pub says_unread : Refusal → List ℕ
says_unread r = r.number ∷ r.file ∷ r.line ∷ r.column ∷ 0 ∷ []

-- a refusal that names no file and no line
abbrev pub says_barred : ℕ → List ℕ
says_barred n = n ∷ 0 ∷ 0 ∷ 0 ∷ 0 ∷ []

pub record Beside (f : ℕ) (s : List ℕ) : Type 0 where
  -- A file number outside 1 to 4 asked of reader or writer answers 42 at once.
  pub outside : indexed f ≡ true ↔ ((1 ≤ f) × (f ≤ 4))
  pub at_once : indexed f ≡ false → (b : List ℕ) (room : ℕ) → (index_numbers (checked f s b) ≡ says_barred 42) × (index_numbers (wrote f s room) ≡ says_barred 42)
  -- The file is read first with its own rules: a refusal with a number below 40 is the file's own.
  pub own : indexed f ≡ true → (r : Refusal) → FirstBroken (lone_claims f s) r → (b : List ℕ) (room : ℕ) → (index_numbers (checked f s b) ≡ says_unread r) × (index_numbers (wrote f s room) ≡ says_unread r)
  pub own_only : (r : Refusal) → r.number < 40 → (b : List ℕ) → index_numbers (checked f s b) ≡ says_unread r → FirstBroken (lone_claims f s) r
  pub own_wrote : (r : Refusal) → r.number < 40 → (room : ℕ) → index_numbers (wrote f s room) ≡ says_unread r → FirstBroken (lone_claims f s) r
  -- An empty file is refused with 4 here, calendar.txt too.
  pub empty : indexed f ≡ true → s ≡ [] → FirstBroken (lone_claims f s) (record { number = 4; file = f; line = 0; column = 0 })
  -- Then, the lowest number speaking: 40 to 44.
  pub read_lowest : Reads f s → (b : List ℕ) (n : ℕ) → index_numbers (checked f s b) ≡ says_barred n ↔ Lowest (index_tests (version_of (length (ids_of f s))) f (ids_of f s) b) n
  -- Whoever made it, an index is accepted only if it lists every record once in that order, and then it is.
  pub accepted : Reads f s → (b : List ℕ) → Bytes b → index_numbers (checked f s b) ≡ says_whole (length b) ↔ Lists f (ids_of f s) b
  -- For a file there is at most one such index,
  pub one : (b c : List ℕ) → Lists f (ids_of f s) b → Lists f (ids_of f s) c → b ≡ c
  -- and one exactly when no id repeats.
  pub some_one : (b : List ℕ) → Lists f (ids_of f s) b → repeats (ids_of f s) ≡ false
  pub none_repeats : repeats (ids_of f s) ≡ false → Lists f (ids_of f s) (index_of (version_of (length (ids_of f s))) f (ranked (ids_of f s)))
  -- The writer refuses with 45 a repeated id, then with 46 a buffer too short for 8 plus twice the count (for the chosen length, by E9),
  pub write_lowest : Reads f s → (room n : ℕ) → index_numbers (wrote f s room) ≡ says_barred n ↔ Lowest (writer_tests (version_of (length (ids_of f s))) (ids_of f s) room) n
  pub need : let n = length (ids_of f s) in (n ≤ 65535 → index_length (version_of n) n ≡ 8 + 2 * n) × (65535 < n → index_length (version_of n) n ≡ 10 + 4 * n)
  -- changing nothing;
  pub unchanged : (lent : List ℕ) → ((n : ℕ) → index_numbers (wrote f s (length lent)) ≡ says_whole n → ⊥) → written f s lent ≡ lent
  -- otherwise it writes exactly the accepted bytes and leaves the rest of the buffer unchanged.
  pub writes : (lent : List ℕ) (n : ℕ) → index_numbers (wrote f s (length lent)) ≡ says_whole n → Lists f (ids_of f s) (take n (written f s lent))
  pub agrees : (lent : List ℕ) (n : ℕ) → index_numbers (wrote f s (length lent)) ≡ says_whole n → index_numbers (checked f s (take n (written f s lent))) ≡ says_whole n
  pub leaves : (lent : List ℕ) (n : ℕ) → index_numbers (wrote f s (length lent)) ≡ says_whole n → (length (written f s lent) ≡ length lent) × (drop n (written f s lent) ≡ drop n lent)
  pub told : (lent : List ℕ) (n : ℕ) → index_numbers (wrote f s (length lent)) ≡ says_whole n → n ≡ index_length (version_of (length (ids_of f s))) (length (ids_of f s))
