-- A walk along a file: what is left of its faults brings the list to what all of them are to bring it to.
use Prim.Native.Nat.{ℕ, ◌+◌, ◌≤◌}
use mathlib.Core.Path.{◌≡◌, refl, sym, ap, ◌∙◌}
use mathlib.Core.Bool.{Bool, true, false, cond, not, ◌||◌}
use mathlib.Core.List.{List, [], ◌∷◌, ◌++◌, append-nil}
use lib.ListN.{length, get_or}
use borrow.Author.Tests.{ltb-false}
use Rattle.meaning.specs.Lists.{empty}
use Rattle.meaning.specs.declared.Place.{Place}
use Rattle.meaning.specs.Bytes.{start_of, bounds, part}
use Rattle.meaning.specs.Tables.{file_of}
use Rattle.meaning.specs.Refusals.{max_bytes, rule1, rule2, head_tests}
use Rattle.reading.specs.Wholes.{whole_of}
use Rattle.listing.specs.Handing.{State, adding}
use Rattle.listing.proofs.Laws.{adding_append}
use Rattle.faults.specs.Told.{quad}
use Rattle.faults.specs.List.{texts_from, texts_of, fault_at, head_said, tests_under, whole_faults, later_faults, line_faults, file_faults}
use Rattle.file_faults.specs.Walk.{AnyStands, marked_faults}

module _ (p : Place) (f : ℕ) (h s : List ℕ) (n at : ℕ) (now end : State) where
  -- the faults of the lines from line n on are left
  abbrev pub Left : Type 0
  Left = adding quad p (later_faults f h n (texts_from s at)) now ≡ end

  -- a turn: the fault of one line, and those of the lines after it are left
  pub left_next :
      (a e m : ℕ) (then : State)
      → AnyStands s at a e m
      → then ≡ adding quad p (fault_at f n (tests_under (head_said f h) f h (part s (bounds a e)))) now
      → Left
      → adding quad p (later_faults f h (n + 1) (texts_from s m)) then ≡ end
  unfolding later_faults
  left_next a e m then k t l =
      let here = fault_at f n (tests_under (head_said f h) f h (part s (bounds a e))) in
      let rest = later_faults f h (n + 1) (texts_from s m) in
      ap (adding quad p rest) t ∙ sym (adding_append quad p here rest now) ∙ rw k.texts at l

  -- no line is left
  pub left_last : texts_from s at ≡ [] → Left → now ≡ end
  unfolding later_faults adding
  left_last e l = rw e at l

-- a file's lines: its header, and those after it
module _ (p : Place) (f : ℕ) (s : List ℕ) (at : ℕ) (start : at ≡ start_of s) (now : State) where
  pub lines_none : texts_from s at ≡ [] → now ≡ adding quad p (line_faults f (texts_of s)) now
  unfolding texts_of line_faults adding
  lines_none e = rw (← start, e)

  pub lines_some :
      (a e m : ℕ) (then end : State)
      → AnyStands s at a e m
      → then ≡ adding quad p (fault_at f 1 (head_tests f (part s (bounds a e)))) now
      → end ≡ adding quad p (later_faults f (part s (bounds a e)) 2 (texts_from s m)) then
      → end ≡ adding quad p (line_faults f (texts_of s)) now
  unfolding texts_of line_faults
  lines_some a e m then end k t l =
      let h = part s (bounds a e) in
      let here = fault_at f 1 (head_tests f h) in
      let rest = later_faults f h 2 (texts_from s m) in
      l ∙ ap (adding quad p rest) t ∙ sym (adding_append quad p here rest now) ∙ rw (← start, k.texts)

-- a file: as a whole, and its lines where it breaks neither 1 nor 2
module _ (p : Place) (files : List (List ℕ)) (f : ℕ) (s : List ℕ) (w : List Bool) (marks : w ≡ whole_of files f s 0) (now then : State) (whole : then ≡ adding quad p (marked_faults f w) now) where
  whole_is : then ≡ adding quad p (whole_faults files f s) now
  unfolding marked_faults whole_faults whole_of
  whole_is = rw marks at whole

  rule_1 : get_or w 0 false ≡ rule1 f s 0
  unfolding whole_of
  rule_1 = rw marks

  rule_2 : get_or w 1 false ≡ rule2 f s 0
  unfolding whole_of
  rule_2 = rw marks

  -- it breaks 1 or 2
  pub file_long : get_or w 0 false ≡ true → then ≡ adding quad p (file_faults files f s) now
  unfolding file_faults
  file_long e = rw (← rule_1, e, append-nil) whole_is

  pub file_many : get_or w 1 false ≡ true → then ≡ adding quad p (file_faults files f s) now
  unfolding file_faults
  file_many e = rw (← rule_2, e) (go (rule1 f s 0))
    where
      go : (b : Bool) → then ≡ adding quad p (whole_faults files f s ++ cond (b || true) [] (line_faults f (texts_of s))) now
      go true = rw append-nil whole_is
      go false = rw append-nil whole_is

  -- it breaks neither
  pub file_lines : get_or w 0 false ≡ false → get_or w 1 false ≡ false → (end : State) → end ≡ adding quad p (line_faults f (texts_of s)) then → end ≡ adding quad p (file_faults files f s) now
  unfolding file_faults
  file_lines e d end l =
      rw (← rule_1, ← rule_2, e, d)
      (l ∙ ap (adding quad p (line_faults f (texts_of s))) whole_is ∙ sym (adding_append quad p (whole_faults files f s) (line_faults f (texts_of s)) now))

-- some files, of which file 6 is supplied or not
abbrev pub with_dates : Bool → List (List ℕ)
with_dates true = [] ∷ [] ∷ [] ∷ [] ∷ [] ∷ (0 ∷ []) ∷ []
with_dates false = []

pub dated_so : (dated : Bool) → dated ≡ not (empty (file_of (with_dates dated) 6))
unfolding file_of empty
dated_so true = refl
dated_so false = refl

-- a file that keeps rule 1 is short
pub short_file : (files : List (List ℕ)) (f : ℕ) (s : List ℕ) (w : List Bool) → w ≡ whole_of files f s 0 → get_or w 0 false ≡ false → length s ≤ max_bytes
unfolding whole_of rule1
short_file files f s w e h = ltb-false max_bytes (length s) (rw e at h)
