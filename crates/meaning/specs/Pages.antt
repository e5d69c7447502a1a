-- What a call hands out of a list in order. An entry is a row of numbers, of which the first three name its place: file, line, rule.
use Rattle.std.specs.Prelude.{ℕ, ◌-◌, ◌/◌, List, map, Bool, cond, not, ◌&&◌, ◌||◌, ℤ, pos, length, get_or, take, drop, ltb}
use Rattle.std.specs.Int.Signed.{lt_z}
use Rattle.meaning.specs.declared.Place.{Place}
use Rattle.meaning.specs.Lists.{keep, flat, laid}

-- the place that a row names
abbrev pub place_in : List ℤ → Place
place_in e = record { file = get_or e 0 (pos 0); line = get_or e 1 (pos 0); rule = get_or e 2 (pos 0) }

-- three numbers strictly greater than three others, compared in that order
unfoldable pub above : ℤ → ℤ → ℤ → ℤ → ℤ → ℤ → Bool
above a b c x y z =
    lt_z a x || (not (lt_z x a) && (lt_z b y || (not (lt_z y b) && lt_z c z)))

-- a place strictly greater than the starting place
unfoldable pub behind : Place → Place → Bool
behind p q = above p.file p.line p.rule q.file q.line q.rule

-- what a call hands out of entries with these rows: those after its starting place, as many as fit
unfoldable pub page_of : {A : Type 0} → (A → List ℤ) → Place → ℕ → List A → List A
page_of row p room ds = take room (keep (λ d. behind p (place_in (row d))) ds)

-- Room is the list's length divided by a row's.
unfoldable pub room_for : ℕ → List ℤ → ℕ
room_for width lent = length lent / width

-- rows one after the other
unfoldable pub rowed : {A : Type 0} → (A → List ℤ) → List A → List ℤ
rowed row ds = flat (map row ds)

-- the lent list after the call: the rest stays unchanged
unfoldable pub handed_of : {A : Type 0} → (A → List ℤ) → ℕ → Place → List A → List ℤ → List ℤ
handed_of row width p ds lent = laid (rowed row (page_of row p (room_for width lent) ds)) lent

-- where a call leaves off: the place that the last row of these names; p where there is none
unfoldable pub last_place : ℕ → Place → List ℤ → Place
last_place width p ns = cond (ltb (length ns) width) p (place_in (drop (length ns - width) ns))
