-- One code, asked at the counter: file 1, its table, an index and a code, each of any bytes.
use Rattle.std.specs.declared.cmp.Ordering.{Ordering}
use Rattle.std.specs.declared.cmp.Ordering.TheVariants.{Less, Equal, Greater}
use Rattle.std.specs.Prelude.{ℕ, zero, suc, ◌+◌, ◌*◌, ◌-◌, ◌/◌, Bool, false, cond, not, ◌||◌, List, [], ◌∷◌, length, get_or, ℤ, pos, negsuc, leb, ltb, eqb, Result, Ok, Err}
use Rattle.meaning.specs.Lists.{empty}
use Rattle.meaning.specs.Bytes.{part, good, fields, count_lf, value}
use Rattle.num.specs.Signs.{nat_of}
use Rattle.rows.specs.Cells.{bounds_at}
use Rattle.ranking.specs.Ranks.{compare}
use Rattle.indexes.specs.declared.version.Version.{Version}
use Rattle.indexes.specs.Index.{number_at, version_of, version_named, index_length, entry, rule40, rule41}
use Rattle.lookups.specs.declared.Refused.{Refused}

-- ---- the index

-- the version that an index names
abbrev pub named : List ℕ → Version
named b = version_named (number_at 2 b 3)

-- an index's own count
unfoldable pub own_count : List ℕ → ℕ
own_count b = number_at (named b).width b 6

-- not the version of so many records, or not the length of its own count
unfoldable pub miscounted : List ℕ → Bool
miscounted b =
    not (eqb (version_of (own_count b)).number (number_at 2 b 3)) || not (eqb (length b) (index_length (named b) (own_count b)))

-- An index that isn't for file 1, or breaks 40, 41 or the length of its own count. So does version 2 of 65,535 records or fewer, or of 8 or 9 bytes.
unfoldable pub barred : List ℕ → Bool
barred b = rule40 b || (rule41 b || (not (eqb (get_or b 5 0) 1) || miscounted b))

-- ---- a record that is probed

-- how many numbers the record of a stop has
abbrev pub stop_width : ℕ
stop_width = 7

-- a record that doesn't lie wholly in the table; record 0 is one like the others
unfoldable pub outside : List ℤ → ℕ → Bool
outside t r = ltb (length t) ((r + 1) * stop_width)

-- is a stored number a place in a file of n bytes, or its end
abbrev pub is_place : ℕ → ℤ → Bool
is_place n (pos k) = leb k n
is_place n (negsuc k) = false

-- a place that runs backward or outside a file of n bytes
unfoldable pub misplaced : ℕ → ℤ → ℤ → Bool
misplaced n a e = not (is_place n a) || (not (is_place n e) || ltb (nat_of e) (nat_of a))

-- bytes that, walked alone, aren't one good field without LF
unfoldable pub not_one : List ℕ → Bool
not_one raw = not (good raw) || (not (eqb (length (fields raw)) 1) || not (eqb (count_lf raw) 0))

-- the number j of a record
abbrev pub number_in : List ℤ → ℕ → ℕ → ℤ
number_in t r j = get_or t (r * stop_width + j) (pos 0)

-- the raw field of a record's id
abbrev pub raw_id : List ℕ → List ℤ → ℕ → List ℕ
raw_id s t r = part s (bounds_at t (r * stop_width))

-- How a code stands to the id of a record: before it, equal or after it. Or 50: the record lies outside its table, or what stands there is no id.
abbrev pub Standing : Type 0
Standing = Result Ordering Refused

-- the record with that id, or 0 where there is none; or 50
abbrev pub LookupAnswer : Type 0
LookupAnswer = Result ℕ Refused

-- 50
abbrev pub refused : {T : Type 0} → Result T Refused
refused = Err (record {})

abbrev pub standing_of : Ordering → Standing
standing_of o = Ok o

-- The code is a value: it stands to the value of a raw field.
unfoldable pub standing_to : List ℕ → List ℕ → Standing
standing_to code raw = cond (not_one raw) refused (standing_of (compare code (value raw)))

-- how a code stands to the id of a record
unfoldable pub standing : List ℕ → List ℤ → List ℕ → ℕ → Standing
standing s t code r =
    cond (outside t r) refused (cond (misplaced (length s) (number_in t r 0) (number_in t r 1)) refused (standing_to code (raw_id s t r)))

-- ---- halving

-- the entry that is probed, of those from low up to but not including high
abbrev pub middle : ℕ → ℕ → ℕ
middle low high = low + (high - low) / 2

-- what the one entry that is left tells, which lists record r
abbrev pub lastly : Standing → ℕ → LookupAnswer
lastly (Ok Less) r = Ok 0
lastly (Ok Equal) r = Ok r
lastly (Ok Greater) r = Ok 0
lastly (Err e) r = Err e

-- the half that is left after entry m was probed: those below it where the code comes before its id, else those from it on
abbrev pub low_of : Standing → ℕ → ℕ → ℕ
low_of (Ok Less) low m = low
low_of (Ok Equal) low m = m
low_of (Ok Greater) low m = m
low_of (Err e) low m = m

abbrev pub high_of : Standing → ℕ → ℕ → ℕ
high_of (Ok Less) m high = m
high_of (Ok Equal) m high = high
high_of (Ok Greater) m high = high
high_of (Err e) m high = high

abbrev pub onward : Standing → LookupAnswer → LookupAnswer
onward (Ok Less) a = a
onward (Ok Equal) a = a
onward (Ok Greater) a = a
onward (Err e) a = Err e

-- Halve the range of index entries until one is left: `at i` is how the code stands to the id of entry i, `en i` the record that it lists.
-- The first number is how many turns are allowed: as many as there are entries are enough.
unfoldable pub halve : (ℕ → Standing) → (ℕ → ℕ) → ℕ → ℕ → ℕ → LookupAnswer
halve at en zero low high = Ok 0
halve at en (suc k) low high =
    let m = middle low high in
    let a = halve at en k (low_of (at m) low m) (high_of (at m) m high) in
    cond (eqb (high - low) 1) (lastly (at low) (en low)) (onward (at m) a)

-- ---- the answer

-- how the code stands to the id of entry i
abbrev pub standing_at : List ℕ → List ℤ → List ℕ → List ℕ → ℕ → Standing
standing_at s t b code i = standing s t code (entry (named b) b i)

-- the answer of an index that isn't refused: 0 where it has no entries
unfoldable pub sought : List ℕ → List ℤ → List ℕ → List ℕ → LookupAnswer
sought s t b code =
    let n = own_count b in
    let a = halve (standing_at s t b code) (entry (named b) b) n 0 n in
    cond (eqb n 0) (Ok 0) a

-- An empty code answers 0 before anything else is looked at.
unfoldable pub lookup : List ℕ → List ℤ → List ℕ → List ℕ → LookupAnswer
lookup s t b code = let a = sought s t b code in cond (empty code) (Ok 0) (cond (barred b) refused a)

-- what document 02 calls each case of the answer: number (0 or 50), record
unfoldable pub lookup_numbers : LookupAnswer → List ℕ
lookup_numbers (Ok r) = 0 ∷ r ∷ []
lookup_numbers (Err e) = 50 ∷ 0 ∷ []
