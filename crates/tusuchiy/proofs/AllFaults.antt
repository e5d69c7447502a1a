-- Laws: the faults of files, one after the other, are those of the feed; and their number is small.
use Prim.Native.Nat.{ℕ, ◌+◌, ◌<◌, ◌≤◌}
use mathlib.Core.Path.{◌≡◌, sym, ap, ◌∙◌}
use mathlib.Core.List.{List, [], ◌++◌}
use lib.IntN.{ℤ}
use lib.ListN.{length, get_or, drop, drop_of_length-le}
use Rattle.meaning.specs.declared.Place.{Place}
use Rattle.meaning.specs.Pages.{room_for}
use Rattle.meaning.proofs.Arrays.{drop_next}
use Rattle.meaning.proofs.Handing.{page_within}
use Rattle.listing.specs.declared.Sink.{Sink}
use Rattle.listing.specs.Handing.{State, state, adding, lent_only}
use Rattle.listing.proofs.Laws.{adding_append, adding_all}
use Rattle.faults.specs.List.{file_faults, faults_from, faults_of}
use Rattle.faults.specs.Told.{quad, told}
use Rattle.faults.proofs.Told.{faults_kind}

module _ (p : Place) (files : List (List ℕ)) where
  -- those of the files after the first i: the next file's, and where none is left
  module _ (i : ℕ) (z r : State) (inv : adding quad p (faults_from files (i + 1) (drop i files)) z ≡ r) where
    pub told_next : i < length files → (y : State) → y ≡ adding quad p (file_faults files (i + 1) (get_or files i [])) z → adding quad p (faults_from files (i + 1 + 1) (drop (i + 1) files)) y ≡ r
    unfolding faults_from
    told_next h y e =
        let here = file_faults files (i + 1) (get_or files i []) in
        let on = faults_from files (i + 1 + 1) (drop (i + 1) files) in
        let x : adding quad p (here ++ on) z ≡ r = rw (drop_next [] files i h) at inv in
        ap (adding quad p on) e ∙ sym (adding_append quad p here on z) ∙ x

    pub told_over : length files ≤ i → z ≡ r
    unfolding faults_from adding
    told_over h = rw (drop_of_length-le files {i = i} h) at inv

  module _ (lent : List ℤ) where
    -- from the list as lent to what a call tells
    pub all_told : adding quad p (faults_from files 1 files) (lent_only lent) ≡ told files p lent
    unfolding faults_of
    all_told = adding_all faults_kind p lent (faults_of files)

    -- .. whatever the list is called
    pub told_in : (here there : List ℤ) (k : Sink) → state there k ≡ told files p lent → here ≡ there → state here k ≡ told files p lent
    told_in here there k e h = rw h e

    -- no more are written than there are
    pub told_within : (z : State) → z ≡ told files p lent → z.written ≤ z.total
    told_within z e = rw e (page_within quad p (room_for 4 lent) (faults_of files))
