-- The list of faults handed out, like the findings: what a call tells, and calls one after the other over unchanged files.
use Rattle.std.specs.Prelude.{ℕ, ◌*◌, ◌≤◌, ◌≡◌, List, [], ◌∷◌, ℤ, pos, length, take}
use Rattle.meaning.specs.declared.Refusal.{Refusal}
use Rattle.meaning.specs.declared.Place.{Place}
use Rattle.meaning.specs.Pages.{rowed, last_place}
use Rattle.meaning.specs.Promises.{Each, beginning, PageGiven}
use Rattle.meaning.specs.Calls.{Join}
use Rattle.listing.specs.Handing.{State, handed_in}
use Rattle.faults.specs.List.{faults_of}

-- A fault is four numbers: file, line, number, column.
abbrev pub quad : Refusal → List ℤ
quad d = pos d.file ∷ pos d.line ∷ pos d.number ∷ pos d.column ∷ []

-- the same, as the promises say it: which of its numbers stands where
abbrev pub says_fault : Refusal → List ℤ
says_fault d = pos d.file ∷ pos d.line ∷ pos d.number ∷ pos d.column ∷ []

-- what a call from p leaves in a lent list, how many faults it has written there, and how many there are
abbrev pub told : List (List ℕ) → Place → List ℤ → State
told files p lent = handed_in quad 4 p (faults_of files) lent

-- the numbers that a call wrote
abbrev pub wrote_in : State → List ℤ
wrote_in o = take (4 * o.written) o.out

-- Calls, the first from p, each lent some list: the next starting place is read from the last four numbers written.
unfoldable pub fault_calls : List (List ℕ) → Place → List (List ℤ) → List State
fault_calls files p [] = []
fault_calls files p (l ∷ r) =
    let o = told files p l in
    o ∷ fault_calls files (last_place 4 p (wrote_in o)) r

pub record HandedOut (files : List (List ℕ)) : Type 0 where
  -- a call hands out those after its starting place, the earliest first and none skipped, as many as fit
  pub page : (p : Place) (lent : List ℤ) → PageGiven says_fault 4 (faults_of files) p lent (told files p lent).out (told files p lent).written
  -- and tells the true total
  pub total : (p : Place) (lent : List ℤ) → (told files p lent).total ≡ length (faults_of files)
  -- the list is as long as it was lent
  pub long : (p : Place) (lent : List ℤ) → length (told files p lent).out ≡ length lent
  -- calls with room for at least one fault, the first from the list's beginning and each later one from the last fault handed out, until a call
  -- hands out none, together give the whole list
  pub joins :
      (lists : List (List ℤ))
      → Each (λ l. 4 ≤ length l) lists
      → Join wrote_in (λ o. o.written) (λ o. o.total) (rowed says_fault (faults_of files)) (length (faults_of files)) (fault_calls files beginning lists)
