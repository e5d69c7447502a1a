-- Characters: well-formed UTF-8 by the Unicode standard's table of byte sequences (document 02, E6).
use Rattle.std.specs.Prelude.{ℕ, ◌+◌, ◌*◌, ◌≤◌, ◌<◌, ◌≡◌, ◌⊎◌, Bool, true, false, cond, ◌&&◌, leb, eqb, length}
use mathlib.Core.List.{List, [], ◌∷◌, Memᴰ}
use Rattle.meaning.specs.Lists.{any, flat}

-- bytes from a first to a last
pub record Range : Type 0 where
  pub first : ℕ
  pub last : ℕ

infix 90 ◌to◌
abbrev pub ◌to◌ : ℕ → ℕ → Range
a to z = record { first = a; last = z }

-- Table 3-7 of the Unicode standard, well-formed UTF-8 byte sequences: of each row the first byte, the second, the third, the fourth.
-- The rows write U+0000 to 007F, 0080 to 07FF, 0800 to 0FFF, 1000 to CFFF, D000 to D7FF, E000 to FFFF, 10000 to 3FFFF, 40000 to FFFFF, 100000 to 10FFFF.
unfoldable pub sequences : List (List Range)
sequences =
    (0x00 to 0x7F ∷ [])
    ∷ (0xC2 to 0xDF ∷ 0x80 to 0xBF ∷ [])
    ∷ (0xE0 to 0xE0 ∷ 0xA0 to 0xBF ∷ 0x80 to 0xBF ∷ [])
    ∷ (0xE1 to 0xEC ∷ 0x80 to 0xBF ∷ 0x80 to 0xBF ∷ [])
    ∷ (0xED to 0xED ∷ 0x80 to 0x9F ∷ 0x80 to 0xBF ∷ [])
    ∷ (0xEE to 0xEF ∷ 0x80 to 0xBF ∷ 0x80 to 0xBF ∷ [])
    ∷ (0xF0 to 0xF0 ∷ 0x90 to 0xBF ∷ 0x80 to 0xBF ∷ 0x80 to 0xBF ∷ [])
    ∷ (0xF1 to 0xF3 ∷ 0x80 to 0xBF ∷ 0x80 to 0xBF ∷ 0x80 to 0xBF ∷ [])
    ∷ (0xF4 to 0xF4 ∷ 0x80 to 0x8F ∷ 0x80 to 0xBF ∷ 0x80 to 0xBF ∷ [])
    ∷ []

-- does a byte stand in a range
unfoldable pub within : Range → ℕ → Bool
within g b = leb g.first b && leb b g.last

-- are bytes as many as a row has, each in its range
unfoldable pub fits : List Range → List ℕ → Bool
fits [] [] = true
fits [] (b ∷ r) = false
fits (g ∷ row) [] = false
fits (g ∷ row) (b ∷ r) = let k = fits row r in cond (within g b) k false

-- does some row of the table allow these bytes as one character
unfoldable pub is_character : List ℕ → Bool
is_character c = any (λ row. fits row c) sequences

-- A line is well-formed if it is written in characters, one after the other, each of which the table allows.
pub record Written (l : List ℕ) : Type 0 where
  pub characters : List (List ℕ)
  pub joined : flat characters ≡ l
  pub allowed : (c : List ℕ) → Memᴰ c characters → is_character c ≡ true

-- ---- the same along a line, byte by byte: what is awaited are the ranges of the bytes that a character still lacks

-- a range that no byte stands in: it is awaited for ever
abbrev pub never : List Range
never = 1 to 0 ∷ []

-- what the first row that a byte can begin awaits after it
unfoldable pub begun : List (List Range) → ℕ → List Range
begun [] b = never
begun ([] ∷ rows) b = begun rows b
begun ((g ∷ row) ∷ rows) b = let k = begun rows b in cond (within g b) row k

-- what is awaited after a byte: where nothing is, it begins a character
unfoldable pub awaited : List Range → ℕ → List Range
awaited [] b = begun sequences b
awaited (g ∷ row) b = cond (within g b) row never

-- what is awaited after bytes
unfoldable pub awaited_after : List Range → List ℕ → List Range
awaited_after w [] = w
awaited_after w (b ∷ r) = awaited_after (awaited w b) r

-- is a line well-formed: nothing is awaited at its end
unfoldable pub well_formed : List ℕ → Bool
well_formed l = eqb (length (awaited_after [] l)) 0

-- ---- what the table allows, said by the numbers of characters

-- a number written in one byte to four, six bits in each byte after the first
pub data Encodes : ℕ → List ℕ → Type 0 where
  in_one : (a : ℕ) → a < 0x80 → Encodes a (a ∷ [])
  in_two : (a b : ℕ) → a < 32 → b < 64 → Encodes (a * 64 + b) ((0xC0 + a) ∷ (0x80 + b) ∷ [])
  in_three : (a b c : ℕ) → a < 16 → b < 64 → c < 64 → Encodes (a * 4096 + b * 64 + c) ((0xE0 + a) ∷ (0x80 + b) ∷ (0x80 + c) ∷ [])
  in_four :
      (a b c d : ℕ)
      → a < 8
      → b < 64
      → c < 64
      → d < 64
      → Encodes (a * 262144 + b * 4096 + c * 64 + d) ((0xF0 + a) ∷ (0x80 + b) ∷ (0x80 + c) ∷ (0x80 + d) ∷ [])

-- a character by its number: no overlong form, no surrogate, nothing above U+10FFFF
pub record Encoded (c : List ℕ) : Type 0 where
  pub number : ℕ
  pub encodes : Encodes number c
  pub shortest : (d : List ℕ) → Encodes number d → length c ≤ length d
  pub no_surrogate : (number < 0xD800) ⊎ (0xDFFF < number)
  pub highest : number ≤ 0x10FFFF
