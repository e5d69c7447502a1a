-- One code, asked at the counter, document 02's E5, sentence by sentence.
use Rattle.std.specs.Prelude.{ℕ, ◌+◌, ◌*◌, ◌^◌, ◌≤◌, ◌<◌, ◌≡◌, ◌⊎◌, true, false, List, [], ◌∷◌, map, length, get_or, ℤ, pos, negsuc, Ok}
use Rattle.meaning.specs.declared.Place.{Place}
use Rattle.meaning.specs.declared.Profile.{Profile}
use Rattle.meaning.specs.Bytes.{bounds, part, good, fields, count_lf}
use Rattle.meaning.specs.Tables.{refer}
use Rattle.meaning.specs.Refusals.{verdict_of}
use Rattle.meaning.specs.Outcome.{outcome}
use Rattle.indexes.specs.Order.{ids_of, id_of}
use Rattle.indexes.specs.Index.{number_at, entry, rule40, rule41, checked, index_numbers}
use Rattle.indexes.specs.Promises.{Bytes, says_whole}
use Rattle.lookups.specs.Lookup.{lookup, lookup_numbers, named, barred, own_count, stop_width, number_in, halve, standing_at}

-- the record with that id, or 0
abbrev pub says : ℕ → List ℕ
says r = 0 ∷ r ∷ []

abbrev pub fifty : List ℕ
fifty = 50 ∷ 0 ∷ []

-- What a table holds of a record that no code can be compared with: a and e are where it says that the id starts and ends.
pub data Unfit (s : List ℕ) (t : List ℤ) (r : ℕ) : Type 0 where
  -- a record outside the table
  beyond : length t < (r + 1) * stop_width → Unfit s t r
  -- an id place that runs backward or outside the file
  negative : (j k : ℕ) → j < 2 → number_in t r j ≡ negsuc k → Unfit s t r
  past : (j k : ℕ) → j < 2 → number_in t r j ≡ pos k → length s < k → Unfit s t r
  backward : (a e : ℕ) → number_in t r 0 ≡ pos a → number_in t r 1 ≡ pos e → e < a → Unfit s t r
  -- bytes that, walked alone, aren't one good field without LF
  ill : (a e : ℕ) → number_in t r 0 ≡ pos a → number_in t r 1 ≡ pos e → good (part s (bounds a e)) ≡ false → Unfit s t r
  several : (a e : ℕ) → number_in t r 0 ≡ pos a → number_in t r 1 ≡ pos e → (length (fields (part s (bounds a e))) ≡ 1 → ⊥) → Unfit s t r
  broken : (a e : ℕ) → number_in t r 0 ≡ pos a → number_in t r 1 ≡ pos e → 0 < count_lf (part s (bounds a e)) → Unfit s t r

-- an entry of an index that lists such a record
pub record Stumbles (s : List ℕ) (t : List ℤ) (b : List ℕ) : Type 0 where
  pub at : ℕ
  pub inside : at < own_count b
  pub unfit : Unfit s t (entry (named b) b at)

-- The table is what the check wrote for that file, whatever else is in the feed and was lent, and the index is accepted beside the file.
pub record Ours (s : List ℕ) (t : List ℤ) (b : List ℕ) : Type 0 where
  -- the feed's other files, the table that was lent for this one and those for the others, the list, the starting place and what was asked for
  pub others : List (List ℕ)
  pub lent : List ℤ
  pub rest : List (List ℤ)
  pub list : List ℤ
  pub from : Place
  pub asked : Profile
  pub readable : verdict_of (s ∷ others) (map length (lent ∷ rest)) ≡ Ok tt
  pub wrote : get_or (outcome (s ∷ others) (lent ∷ rest) list from asked).tables 0 [] ≡ t
  pub bytes : Bytes b
  pub accepted : index_numbers (checked 1 s b) ≡ says_whole (length b)

pub record Counter (s : List ℕ) (t : List ℤ) (b code : List ℕ) : Type 0 where
  -- Halve the range of index entries until one is left: 32 halvings are enough for every count of 32 bits, and one turn more for the entry that is left.
  pub halvings : 0 < own_count b → own_count b ≤ 2 ^ 32
      → halve (standing_at s t b code) (entry (named b) b) (own_count b) 0 (own_count b) ≡ halve (standing_at s t b code) (entry (named b) b) 33 0 (own_count b)
  -- An empty code answers 0 before anything else is looked at;
  pub empty : code ≡ [] → lookup_numbers (lookup s t b code) ≡ says 0
  -- so does an index of no entries that isn't answered 50.
  pub none : barred b ≡ false → own_count b ≡ 0 → lookup_numbers (lookup s t b code) ≡ says 0
  -- An index that isn't for file 1, or breaks 40, 41 or the length of its own count, answers 50.
  pub unmarked : (code ≡ [] → ⊥) → rule40 b ≡ true → lookup_numbers (lookup s t b code) ≡ fifty
  pub unknown : (code ≡ [] → ⊥) → rule41 b ≡ true → lookup_numbers (lookup s t b code) ≡ fifty
  pub other : (code ≡ [] → ⊥) → (get_or b 5 0 ≡ 1 → ⊥) → lookup_numbers (lookup s t b code) ≡ fifty
  pub length1 : (code ≡ [] → ⊥) → number_at 2 b 3 ≡ 1 → (length b ≡ 8 + 2 * number_at 2 b 6 → ⊥) → lookup_numbers (lookup s t b code) ≡ fifty
  pub length2 : (code ≡ [] → ⊥) → number_at 2 b 3 ≡ 2 → (length b ≡ 10 + 4 * number_at 4 b 6 → ⊥) → lookup_numbers (lookup s t b code) ≡ fifty
  -- No other index is: one that keeps 40 and 41 and is for file 1, of the length of its own count, is taken, of either version.
  pub taken1 : rule40 b ≡ false → number_at 2 b 3 ≡ 1 → get_or b 5 0 ≡ 1 → number_at 2 b 6 ≤ 65535 → length b ≡ 8 + 2 * number_at 2 b 6 → barred b ≡ false
  pub taken2 : rule40 b ≡ false → number_at 2 b 3 ≡ 2 → get_or b 5 0 ≡ 1 → 65535 < number_at 4 b 6 → length b ≡ 10 + 4 * number_at 4 b 6 → barred b ≡ false
  -- It answers 50 to a version 2 index of 65,535 records or fewer, or of 8 or 9 bytes.
  pub narrow : (code ≡ [] → ⊥) → number_at 2 b 3 ≡ 2 → (number_at 4 b 6 ≤ 65535) ⊎ (length b < 10) → lookup_numbers (lookup s t b code) ≡ fifty
  -- So does a probed record that is unfit: where all are, one is probed; and no other index is answered so.
  pub probed : (code ≡ [] → ⊥) → barred b ≡ false → 0 < own_count b → ((i : ℕ) → i < own_count b → Unfit s t (entry (named b) b i)) → lookup_numbers (lookup s t b code) ≡ fifty
  pub stumbled : barred b ≡ false → lookup_numbers (lookup s t b code) ≡ fifty → Stumbles s t b
  -- If the table is what the check wrote for that file and the index is accepted, the answer equals that of reading every line:
  pub agrees : Ours s t b → lookup_numbers (lookup s t b code) ≡ says (refer code (ids_of 1 s))
  -- the record with that id,
  pub found : Ours s t b → (r : ℕ) → 1 ≤ r → r ≤ length (ids_of 1 s) → id_of (ids_of 1 s) r ≡ code → lookup_numbers (lookup s t b code) ≡ says r
  -- or 0.
  pub missing : Ours s t b → ((r : ℕ) → 1 ≤ r → r ≤ length (ids_of 1 s) → id_of (ids_of 1 s) r ≡ code → ⊥) → lookup_numbers (lookup s t b code) ≡ says 0
  -- For any other table or index, the answer is 50, or 0, or a record that lies wholly in the table.
  pub inside : (r : ℕ) → 1 ≤ r → lookup_numbers (lookup s t b code) ≡ says r → (r + 1) * stop_width ≤ length t
