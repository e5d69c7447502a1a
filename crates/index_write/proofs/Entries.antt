-- Record numbers put into their entries, line by line.
use mathlib.Core.Path.{◌≡◌, sym, ap, ◌∙◌}
use mathlib.Core.List.{List}
use Prim.Native.Nat.{ℕ, ◌+◌, ◌-◌, ◌≤◌, ◌<◌}
use native.Mathlib.Omega.{arith}
use lib.IntN.{ℤ}
use lib.ListN.{drop}
use Rattle.meaning.specs.Bytes.{bounds, part, lines_from, lines_of}
use Rattle.meaning.specs.Columns.{field_at}
use Rattle.meaning.specs.Promises.{no_line}
use Rattle.text.specs.Lines.{LineStands}
use Rattle.text.proofs.Walk.{line_here}
use Rattle.ordering.specs.Cells.{cell_at}
use Rattle.ordering.specs.Ids.{Apart}
use Rattle.ordering.proofs.Laws.{Alike, yes, no, alike}
use Rattle.indexes.specs.declared.version.Version.{Version}
use Rattle.indexes.specs.Index.{entry}
use Rattle.indexes.specs.Promises.{Reads}
use Rattle.id_places.specs.Places.{start_in, own_column, id_start}
use Rattle.id_places.proofs.Own.{starts_rise}
use Rattle.index_write.specs.Writing.{Ranked, Entry, Entered}

-- where the id of line r begins, as the walk finds it
pub start_is : (f : ℕ) (s : List ℕ) (here r : ℕ) → lines_from s here ≡ drop r (lines_of s) → (a e n : ℕ) → LineStands s here a e n
    → (p v : ℕ) → p ≡ own_column f s → v ≡ (field_at (part s (bounds a e)) p).start → a + v ≡ id_start f s r
unfolding id_start start_in
start_is f s here r left a e n stands p v own q = rw (← own, line_here s (lines_of s) here r left a e n stands no_line, q)

-- cells that hold one byte are one
one_cell : (g : ℕ → ℕ) (n : ℕ) → Apart g n → (j k : ℕ) → 0 < j → j ≤ n → 0 < k → k ≤ n → g j ≡ g k → j ≡ k
unfolding Apart
one_cell g n apart j k a b x y e = go (alike j k)
  where
    go : Alike j k → j ≡ k
    go (yes p) = p
    go (no p) = side (alike (j - k) 0)
      where
        side : Alike (j - k) 0 → j ≡ k
        side (yes q) = absurd (apart j k a (omega (arith, p)) y e)
        side (no q) = absurd (apart k j x (omega (arith, q)) b (sym e))

module _ (v : Version) (f : ℕ) (s : List ℕ) (reads : Reads f s) (n : ℕ) (t : List ℤ) (ranked : Ranked f s n t) where
  pub entered_turn : (r : ℕ) → 0 < r → r ≤ n → (b b' : List ℕ) → Entered v f s n r t b → Entry v n (id_start f s r) r t b b' → Entered v f s n (r + 1) t b'
  entered_turn r low high b b' before put j k a c x y e = go (alike j r)
    where
      go : Alike j r → entry v b' (k - 1) ≡ j
      go (yes p) =
          let q : k ≡ put.at = one_cell (cell_at 0 t 1) n ranked.apart k put.at x y put.low put.high (e ∙ ap (id_start f s) p ∙ sym put.is) in
          rw (q, p) put.here
      go (no p) = put.others k x away ∙ before j k a (omega (arith, c, p)) x y e
        where
          away : k ≡ put.at → ⊥
          away q = let z : id_start f s j ≡ id_start f s r = sym e ∙ ap (cell_at 0 t 1) q ∙ put.is in omega (arith, z, starts_rise f s reads n ranked.count j r a (omega (arith, c, p)) high)

pub entered_none : (v : Version) (f : ℕ) (s : List ℕ) (n : ℕ) (t : List ℤ) (b : List ℕ) → Entered v f s n 1 t b
entered_none v f s n t b j k a c x y e = absurd (omega arith)
