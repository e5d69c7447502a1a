-- The lines of a file and the files of a feed: the first broken claim.
use mathlib.Core.Path.{◌≡◌, refl, sym, ap, ◌∙◌}
use mathlib.Core.Bool.{Bool, true, false}
use mathlib.Core.List.{List, [], ◌∷◌}
use Prim.Native.Nat.{ℕ, zero, suc, ◌+◌, ◌*◌, ◌/◌, ◌≤◌, ◌<◌}
use native.Mathlib.Omega.{arith}
use native.Mathlib.Nat.{div-lt_iff_lt-mul, mul_comm}
use lib.Dec.{ltb, leb→le}
use lib.ListN.{length, get_or, drop, drop_of_length-le}
use borrow.Author.Tests.{lt-ltb, le-ltb, ltb-true, ltb-false}
use Rattle.std.specs.Prelude.{Some, None, Result, Ok, Err}
use Rattle.meaning.specs.declared.Refusal.{Refusal}
use Rattle.meaning.specs.Bytes.{Line, bounds, part, lines_from, lines_of, start_of, values}
use Rattle.meaning.specs.Columns.{places}
use Rattle.meaning.specs.Tables.{widths, width_of}
use Rattle.meaning.specs.Refusals.{Claim, line_tests, on_lines, in_file, in_files, speaks, verdict_of}
use Rattle.text.specs.Lines.{LineStands}
use Rattle.meaning.proofs.Computed.{below_all}
use Rattle.meaning.proofs.Arrays.{drop_next}
use Rattle.columns.specs.declared.Columns.{Columns}
use Rattle.columns.proofs.Laws.{places_at}
use Rattle.reading.specs.declared.Fault.{Fault}
use Rattle.reading.specs.Tests.{first}
use Rattle.reading.specs.Heads.{columns_under}
use Rattle.reading.specs.Wholes.{wholes_of, whole_claims}
use Rattle.reading.proofs.Values.{line_same}
use Rattle.reading.proofs.Speaks.{told, then_stop, then_on, line_stop, line_on}
use Rattle.reading.proofs.Heads.{bad_under, good_under}
use Rattle.reading.proofs.Wholes.{all_claims}

-- a turn along the lines after the header
module _ (f : ℕ) (ps : List ℕ) (count : ℕ) (s : List ℕ) (at n : ℕ) (r : Result Unit Refusal) (inv : speaks (on_lines f ps count n (lines_from s at)) ≡ r) where
  pub lines_over : lines_from s at ≡ [] → Ok tt ≡ r
  unfolding on_lines speaks
  lines_over e = rw e at inv

  module _ (a e m : ℕ) (stands : LineStands s at a e m) where
    pub lines_stop : (t : Fault) → Some t ≡ first (line_tests f ps count (part s (bounds a e))) → Err (told t f n) ≡ r
    unfolding on_lines
    lines_stop t z = sym (then_stop _ _ _ (line_stop f n _ t z)) ∙ rw stands.lines at inv

    pub lines_next : None ≡ first (line_tests f ps count (part s (bounds a e))) → speaks (on_lines f ps count (n + 1) (lines_from s m)) ≡ r
    unfolding on_lines
    lines_next z = sym (then_on _ _ (line_on f n _ z)) ∙ rw stands.lines at inv

-- tables that read alike give the same claims
lines_same : (f : ℕ) (ps qs : List ℕ) → ((k : ℕ) → get_or ps k 0 ≡ get_or qs k 0) → (count n : ℕ) (ls : List Line) → on_lines f ps count n ls ≡ on_lines f qs count n ls
unfolding on_lines
lines_same f ps qs h count n [] = refl
lines_same f ps qs h count n (l ∷ r) = rw (line_same ps qs h f count l.text, lines_same f ps qs h count (n + 1) r)

-- the header, and what follows
module _ (f : ℕ) (s : List ℕ) (at : ℕ) (start : at ≡ start_of s) where
  pub file_none : lines_from s at ≡ [] → Ok tt ≡ speaks (in_file f (lines_of s))
  unfolding lines_of in_file speaks
  file_none e = rw (← start, e)

  module _ (a e m : ℕ) (stands : LineStands s at a e m) where
    pub file_stop : (t : Fault) → Err t ≡ columns_under f (part s (bounds a e)) → Err (told t f 1) ≡ speaks (in_file f (lines_of s))
    unfolding lines_of in_file
    file_stop t z = rw (← start, stands.lines) (sym (then_stop _ _ _ (line_stop f 1 _ t (bad_under f _ t z))))

    pub file_next : (c : Columns) → Ok c ≡ columns_under f (part s (bounds a e))
        → (v : Result Unit Refusal) → v ≡ speaks (on_lines f c.at c.count 2 (lines_from s m)) → v ≡ speaks (in_file f (lines_of s))
    unfolding lines_of in_file
    file_next c z v h =
        let o = good_under f _ c z in
        let y = rw (o.1, lines_same f _ (places f (values (part s (bounds a e)))) (places_at f _) _ 2 (lines_from s m)) at h in
        y ∙ rw (← start, stands.lines) (sym (then_on _ _ (line_on f 1 _ o.0)))

-- the files from file i + 1 on: the first of them, and where none is left
module _ (files : List (List ℕ)) (i : ℕ) (r : Result Unit Refusal) (inv : speaks (in_files (i + 1) (drop i files)) ≡ r) where
  module _ (inside : i < length files) where
    abbrev here : List Claim
    here = in_file (i + 1) (lines_of (get_or files i []))

    pub files_stop : (t : Refusal) → Err t ≡ speaks here → Err t ≡ r
    unfolding in_files
    files_stop t e = sym (then_stop _ here t (sym e)) ∙ rw (drop_next [] files i inside) at inv

    pub files_next : Ok tt ≡ speaks here → speaks (in_files (i + 1 + 1) (drop (i + 1) files)) ≡ r
    unfolding in_files
    files_next e = sym (then_on _ here (sym e)) ∙ rw (drop_next [] files i inside) at inv

  pub files_over : length files ≤ i → Ok tt ≡ r
  unfolding in_files speaks
  files_over h = rw (drop_of_length-le files {i = i} h) at inv

-- rules 1 to 4, and then the files
module _ (files : List (List ℕ)) (rooms : List ℕ) where
  pub feed_stop : (t : Refusal) → Err t ≡ speaks (whole_claims (wholes_of files rooms)) → Err t ≡ verdict_of files rooms
  unfolding verdict_of
  feed_stop t e = sym (then_stop (in_files 1 files) (whole_claims (wholes_of files rooms)) t (sym e)) ∙ ap speaks (all_claims files rooms)

  pub feed_read : Ok tt ≡ speaks (whole_claims (wholes_of files rooms)) → speaks (in_files 1 files) ≡ verdict_of files rooms
  unfolding verdict_of
  feed_read e = sym (then_on (in_files 1 files) (whole_claims (wholes_of files rooms)) (sym e)) ∙ ap speaks (all_claims files rooms)

-- rule 3 by division, which can't overflow
pub wide : (f : ℕ) → 0 < f → f < 7 → 0 < width_of f
unfolding width_of widths
wide zero h g = absurd (omega arith)
wide (suc f) h g = leb→le 1 _ (below_all 6 (λ f. ltb 0 (get_or widths (suc f) 0)) tt f (omega arith))

pub short_is : (f room lf : ℕ) → 0 < f → f < 7 → ltb (room / width_of f) lf ≡ ltb room (width_of f * lf)
short_is f room lf h g = go (ltb (room / width_of f) lf) refl
  where
    go : (t : Bool) → ltb (room / width_of f) lf ≡ t → t ≡ ltb room (width_of f * lf)
    go true e =
        let z : room < lf * width_of f = (div-lt_iff_lt-mul {k = width_of f} {x = room} {y = lf} (wide f h g)).0 (ltb-true _ _ e) in
        rw (mul_comm (width_of f) lf) (sym (lt-ltb _ _ z))
    go false e =
        let z : room < lf * width_of f → ⊥ = λ y. let x : room / width_of f < lf = (div-lt_iff_lt-mul {k = width_of f} {x = room} {y = lf} (wide f h g)).1 y in let w : lf ≤ room / width_of f = ltb-false _ _ e in omega arith in
        rw (mul_comm (width_of f) lf) (sym (le-ltb room (lf * width_of f) (omega arith)))
