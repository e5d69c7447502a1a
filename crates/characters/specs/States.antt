-- The states of a walk along a line, by what they await, and the classes of bytes that the table doesn't tell apart.
use Rattle.std.specs.Prelude.{ℕ, ◌+◌, List, [], ◌∷◌, Bool, true, false, cond, leb, ltb, get_or}
use Rattle.meaning.specs.Lists.{ascii}
use Rattle.meaning.specs.Characters.{Range, ◌to◌, never}
use Rattle.text.specs.Lines.{to_first}

-- what each state awaits
unfoldable pub states : List (List Range)
states =
    []
    ∷ (0x80 to 0xBF ∷ [])
    ∷ (0xA0 to 0xBF ∷ 0x80 to 0xBF ∷ [])
    ∷ (0x80 to 0xBF ∷ 0x80 to 0xBF ∷ [])
    ∷ (0x80 to 0x9F ∷ 0x80 to 0xBF ∷ [])
    ∷ (0x90 to 0xBF ∷ 0x80 to 0xBF ∷ 0x80 to 0xBF ∷ [])
    ∷ (0x80 to 0xBF ∷ 0x80 to 0xBF ∷ 0x80 to 0xBF ∷ [])
    ∷ (0x80 to 0x8F ∷ 0x80 to 0xBF ∷ 0x80 to 0xBF ∷ [])
    ∷ never
    ∷ []

unfoldable pub awaits : ℕ → List Range
awaits q = get_or states q never

-- the first byte of each class but the first
unfoldable pub class_starts : List ℕ
class_starts = 0x80 ∷ 0x90 ∷ 0xA0 ∷ 0xC0 ∷ 0xC2 ∷ 0xE0 ∷ 0xE1 ∷ 0xED ∷ 0xEE ∷ 0xF0 ∷ 0xF1 ∷ 0xF4 ∷ 0xF5 ∷ []

-- how many of some numbers are at most b
unfoldable pub count_to : ℕ → List ℕ → ℕ
count_to b [] = 0
count_to b (n ∷ r) = let k = count_to b r in cond (leb n b) (k + 1) k

-- the class of a byte
unfoldable pub class_of : ℕ → ℕ
class_of b = count_to b class_starts

-- the class of each byte from 80 on, by letters from a on
unfoldable pub class_letters : List ℕ
class_letters = ascii "bbbbbbbbbbbbbbbbccccccccccccccccddddddddddddddddddddddddddddddddeeffffffffffffffffffffffffffffffghhhhhhhhhhhhijjklllmnnnnnnnnnnn"

-- the next state by state and class
unfoldable pub next_states : List (List ℕ)
next_states =
    (0 ∷ 8 ∷ 8 ∷ 8 ∷ 8 ∷ 1 ∷ 2 ∷ 3 ∷ 4 ∷ 3 ∷ 5 ∷ 6 ∷ 7 ∷ 8 ∷ [])
    ∷ (8 ∷ 0 ∷ 0 ∷ 0 ∷ 8 ∷ 8 ∷ 8 ∷ 8 ∷ 8 ∷ 8 ∷ 8 ∷ 8 ∷ 8 ∷ 8 ∷ [])
    ∷ (8 ∷ 8 ∷ 8 ∷ 1 ∷ 8 ∷ 8 ∷ 8 ∷ 8 ∷ 8 ∷ 8 ∷ 8 ∷ 8 ∷ 8 ∷ 8 ∷ [])
    ∷ (8 ∷ 1 ∷ 1 ∷ 1 ∷ 8 ∷ 8 ∷ 8 ∷ 8 ∷ 8 ∷ 8 ∷ 8 ∷ 8 ∷ 8 ∷ 8 ∷ [])
    ∷ (8 ∷ 1 ∷ 1 ∷ 8 ∷ 8 ∷ 8 ∷ 8 ∷ 8 ∷ 8 ∷ 8 ∷ 8 ∷ 8 ∷ 8 ∷ 8 ∷ [])
    ∷ (8 ∷ 8 ∷ 3 ∷ 3 ∷ 8 ∷ 8 ∷ 8 ∷ 8 ∷ 8 ∷ 8 ∷ 8 ∷ 8 ∷ 8 ∷ 8 ∷ [])
    ∷ (8 ∷ 3 ∷ 3 ∷ 3 ∷ 8 ∷ 8 ∷ 8 ∷ 8 ∷ 8 ∷ 8 ∷ 8 ∷ 8 ∷ 8 ∷ 8 ∷ [])
    ∷ (8 ∷ 3 ∷ 8 ∷ 8 ∷ 8 ∷ 8 ∷ 8 ∷ 8 ∷ 8 ∷ 8 ∷ 8 ∷ 8 ∷ 8 ∷ 8 ∷ [])
    ∷ (8 ∷ 8 ∷ 8 ∷ 8 ∷ 8 ∷ 8 ∷ 8 ∷ 8 ∷ 8 ∷ 8 ∷ 8 ∷ 8 ∷ 8 ∷ 8 ∷ [])
    ∷ []

-- is a byte no ASCII
abbrev pub is_high : ℕ → Bool
is_high b = leb 0x80 b

-- how many bytes stand before the first that is no ASCII
abbrev pub to_high : List ℕ → ℕ
to_high r = to_first is_high r

-- is every byte one of 20 to 7F
unfoldable pub plain : List ℕ → Bool
plain [] = true
plain (b ∷ r) = let k = plain r in cond (ltb b 0x20) false (cond (leb 0x80 b) false k)
