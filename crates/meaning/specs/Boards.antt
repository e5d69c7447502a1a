-- A profile for boards, document 02's E13, sentence by sentence, of calls that are lent these files, tables and list and a starting place, and ask for it or don't.
use Rattle.std.specs.Prelude.{ℕ, ◌+◌, ◌-◌, ◌≤◌, ◌<◌, ◌≡◌, ◌↔◌, ◌⊎◌, Bool, true, false, not, ◌&&◌, ℤ, length, ltb, Some}
use mathlib.Core.List.{List, [], ◌∷◌, Memᴰ}
use Rattle.meaning.specs.declared.Time.TheVariants.{Seconds}
use Rattle.meaning.specs.declared.Refusal.{Refusal}
use Rattle.meaning.specs.declared.Place.{Place}
use Rattle.meaning.specs.declared.Profile.TheVariants.{Plain, Boards}
use Rattle.meaning.specs.Lists.{keep}
use Rattle.meaning.specs.Columns.{Row}
use Rattle.meaning.specs.Forms.{time_of, choice_of}
use Rattle.meaning.specs.Tables.{Feed, feed_of, arrival_time, departure_time, pickup_type, drop_off_type}
use Rattle.meaning.specs.Refusals.{test}
use Rattle.meaning.specs.Rules.{row, timed, rule21·times, rule23, rule26, rule27, rule28, rule29, rules_of}
use Rattle.meaning.specs.Findings.{Finding, finding, findings_of, answer_numbers}
use Rattle.meaning.specs.Outcome.{outcome}
use Rattle.meaning.specs.Promises.{says_accepted, says_refused}

-- line n of file 5 has a property
pub record OnLine (w : Feed) (n : ℕ) (P : Row → Type 0) : Type 0 where
  pub from : 2 ≤ n
  pub to : n < length w.stop_times + 2
  pub has : P (row w.stop_times (n - 2))

-- a choice is 2 or 3
abbrev pub TwoOrThree : List ℕ → Type 0
TwoOrThree v = (choice_of 3 v ≡ Some 2) ⊎ (choice_of 3 v ≡ Some 3)

-- a time of 172,800 seconds or more
pub record Late (v : List ℕ) : Type 0 where
  pub time : ℕ
  pub is : time_of v ≡ Seconds time
  pub late : 172800 ≤ time

-- what is wrong with a line for boards
abbrev pub OnRequest : Row → Type 0
OnRequest r = TwoOrThree (pickup_type r) ⊎ TwoOrThree (drop_off_type r)

abbrev pub SomeLate : Row → Type 0
SomeLate r = Late (arrival_time r) ⊎ Late (departure_time r)

-- a line that boards can show: none of the three
pub record Shown (r : Row) : Type 0 where
  pub in_time : timed r ≡ true
  pub regular : OnRequest r → ⊥
  pub soon : SomeLate r → ⊥

-- the numbers 60 to 62
unfoldable pub is_added : ℕ → Bool
is_added n = ltb 59 n && ltb n 63

-- findings with 60 to 62 taken out
unfoldable pub without : List Finding → List Finding
without ds = keep (λ d. not (is_added d.rule)) ds

pub record ForBoards (files : List (List ℕ)) (tables : List (List ℤ)) (list : List ℤ) (p : Place) : Type 0 where
  -- boards add rules on file 5: 60 a line isn't timed
  pub sixty : (w : Feed) (n : ℕ) → Memᴰ (finding 5 n 60) (findings_of Boards w) ↔ OnLine w n (λ r. timed r ≡ false)
  -- 61 pickup or drop-off is 2 or 3
  pub sixty_one : (w : Feed) (n : ℕ) → Memᴰ (finding 5 n 61) (findings_of Boards w) ↔ OnLine w n OnRequest
  -- 62 a time of 172,800 seconds or more
  pub sixty_two : (w : Feed) (n : ℕ) → Memᴰ (finding 5 n 62) (findings_of Boards w) ↔ OnLine w n SomeLate
  -- on file 5 alone
  pub elsewhere : (w : Feed) (f i : ℕ) → (f ≡ 5 → ⊥) → rules_of Boards w f i ≡ rules_of Plain w f i
  -- then "accepted" means none of these either
  pub accepted :
      answer_numbers (outcome files tables list p Boards).answer ≡ says_accepted
      ↔ (answer_numbers (outcome files tables list p Plain).answer ≡ says_accepted)
      × ((i : ℕ) → i < length (feed_of files).stop_times → Shown (row (feed_of files).stop_times i))
  -- without it, answers are those of before: a line of file 5 is tested by document 01's rules alone
  pub before :
      (w : Feed) (i : ℕ)
      → rules_of Plain w 5 i
      ≡ test 21 (rule21·times w i)
      ∷ test 23 (rule23 w i)
      ∷ test 26 (rule26 w i)
      ∷ test 27 (rule27 w i)
      ∷ test 28 (rule28 w i)
      ∷ test 29 (rule29 w i)
      ∷ []
  -- the profile's list, with 60 to 62 taken out, is the plain list
  pub taken_out : (w : Feed) → without (findings_of Boards w) ≡ findings_of Plain w
  -- refusals are the same with and without
  pub refusals :
      (r : Refusal)
      → answer_numbers (outcome files tables list p Boards).answer ≡ says_refused r
      ↔ answer_numbers (outcome files tables list p Plain).answer ≡ says_refused r
  -- and so are tables
  pub tables_alike : (outcome files tables list p Boards).tables ≡ (outcome files tables list p Plain).tables
