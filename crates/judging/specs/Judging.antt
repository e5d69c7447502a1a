-- What the stored numbers of one line, and a few tests of its values, say of each binding rule.
use Rattle.std.specs.Prelude.{ℕ, zero, suc, ◌-◌, List, [], ◌∷◌, ◌++◌, Bool, false, not, ◌&&◌, ◌||◌, length, get_or, replicate, ltb, eqb}
use Rattle.meaning.specs.declared.Time.{Time}
use Rattle.meaning.specs.declared.Profile.{Profile}
use Rattle.meaning.specs.declared.Profile.TheVariants.{Plain, Boards}
use Rattle.meaning.specs.Refusals.{Test, test}
use Rattle.meaning.specs.Rules.{kind_of_parent, given, seconds_of, is_late}

-- ---- one rule

-- 21: a reference that isn't empty has no record
abbrev pub loose : Bool → ℕ → Bool
loose none k = not none && eqb k 0

-- 22, 23: the stop that a reference resolves to is of another kind
abbrev pub off_kind : ℕ → ℕ → ℕ → Bool
off_kind wanted k kind = not (eqb k 0) && not (eqb kind wanted)

-- 22: a parent where there is to be none, none where there is to be one, or one of another type than it must have
abbrev pub misplaced : Bool → ℕ → ℕ → ℕ → Bool
misplaced none parent kind has =
    eqb kind 1 && not none || (ltb 1 kind && none || off_kind (kind_of_parent kind) parent has)

-- a line has both times
abbrev pub both_given : Time → Time → Bool
both_given arrival departure = given arrival && given departure

-- 26: just one time given, or timepoint 1 without both
abbrev pub half_timed : Time → Time → ℕ → Bool
half_timed arrival departure timepoint =
    not (both_given arrival departure) && ((given arrival || given departure) || eqb timepoint 1)

-- 27: the first of two times comes before the second
abbrev pub sooner : Time → Time → Bool
sooner a b = ltb (seconds_of a) (seconds_of b)

-- 61: one of two choices is 2 or 3
abbrev pub on_request : ℕ → ℕ → Bool
on_request pickup drop_off = (eqb pickup 2 || eqb pickup 3) || (eqb drop_off 2 || eqb drop_off 3)

-- ---- the rules of a line of each file, in the order of their numbers, nine at most

-- what fills up nine places
unfoldable pub filled_up : {A : Type 0} → A → List A → List A
filled_up d l = l ++ replicate (9 - length l) d

-- 20 is judged by the mark that the id repeats an earlier line's, 25 by the mark that the route is nameless
unfoldable pub stop_judged : Bool → Bool → ℕ → ℕ → ℕ → List Bool
stop_judged repeats noParent parent kind kind_of_parent =
    filled_up false (repeats ∷ loose noParent parent ∷ misplaced noParent parent kind kind_of_parent ∷ [])

unfoldable pub route_judged : Bool → Bool → List Bool
route_judged repeats nameless = filled_up false (repeats ∷ nameless ∷ [])

unfoldable pub service_judged : Bool → ℕ → ℕ → List Bool
service_judged repeats start end = filled_up false (repeats ∷ ltb end start ∷ [])

-- neither reference of a line of trips or of stop_times is empty, by rule 12; 28 to 31 are judged by marks: equal, falling, paired, open-ended
unfoldable pub trip_judged : Bool → ℕ → ℕ → ℕ → Bool → Bool → List Bool
trip_judged repeats route service dated paired open_ended =
    filled_up false
    (repeats
    ∷ (loose false route || (loose false service && loose false dated))
    ∷ (not repeats && not paired)
    ∷ (not repeats && open_ended)
    ∷ [])

unfoldable pub time_judged : ℕ → ℕ → ℕ → Time → Time → ℕ → ℕ → ℕ → Bool → Bool → List Bool
time_judged trip stop stopKind arrival departure pickup drop_off timepoint equal falling =
    (loose false trip || loose false stop)
    ∷ off_kind 0 stop stopKind
    ∷ half_timed arrival departure timepoint
    ∷ (both_given arrival departure && sooner departure arrival)
    ∷ equal
    ∷ falling
    ∷ not (both_given arrival departure)
    ∷ on_request pickup drop_off
    ∷ (is_late arrival || is_late departure)
    ∷ []

-- how many of the rules of a line of stop_times are asked for
abbrev pub times_asked : Profile → ℕ
times_asked Plain = 6
times_asked Boards = 9

-- 20 is judged by the mark that the service and the date repeat an earlier line's
unfoldable pub date_judged : Bool → List Bool
date_judged repeats = filled_up false (repeats ∷ [])

-- the first n rules of a line, by their numbers, with what was judged of them
unfoldable pub tests_from : List ℕ → List Bool → ℕ → List Test
tests_from numbers broken zero = []
tests_from numbers broken (suc n) =
    tests_from numbers broken n ++ (test (get_or numbers n 0) (get_or broken n false) ∷ [])
