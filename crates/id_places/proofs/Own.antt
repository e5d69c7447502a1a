-- Where the ids of a readable file begin: the fields there have the ids' values, and rise with the records.
use mathlib.Core.Path.{◌≡◌, refl, sym, ap, ◌∙◌}
use mathlib.Core.Bool.{Bool, true, false, not}
use mathlib.Core.List.Memᴰ
use mathlib.Core.List.{List, [], ◌∷◌}
use Prim.Native.Nat.{ℕ, zero, suc, ◌+◌, ◌-◌, ◌≤◌, ◌<◌}
use native.Mathlib.Omega.{arith}
use lib.Dec.{ltb, eqb}
use lib.ListN.{length, get_or, length-map, length-drop}
use borrow.Author.Tests.{ltb-true, ltb-false, eqb-true, ne_eqb, not-false}
use Rattle.meaning.specs.declared.Need.TheVariants.{Always}
use Rattle.meaning.specs.Lists.{empty}
use Rattle.meaning.specs.Bytes.{Line, lines_of, start_of, count_lf}
use Rattle.meaning.specs.Columns as C
use Rattle.meaning.specs.Columns.{column_of, count_of, places, header_of, cell, row_of, rows_of}
use Rattle.meaning.specs.Tables.{under, id_column}
use Rattle.meaning.specs.Refusals.{max_bytes, max_lines, claim, rule1, rule2, ended, rule4, in_file, rule5}
use Rattle.meaning.specs.Promises.{no_line, NoneBroken}
use Rattle.meaning.proofs.ListLaws.{and_both}
use Rattle.meaning.proofs.Laws.{get_d_map_in}
use Rattle.meaning.proofs.FirstBroken.{spoken_first, silent_none, said_readable}
use Rattle.meaning.proofs.Columns.{row_at}
use Rattle.meaning.proofs.Records.{rows_count, count_some}
use Rattle.text.proofs.Lines.{lines_all}
use Rattle.meaning.proofs.Readable.{always_there, row_is, no_stray, line_kept}
use Rattle.ordering.specs.Ids.{value_on}
use Rattle.indexes.specs.Order.{ids_of, id_of}
use Rattle.indexes.specs.Index.{indexed, lone_claims, lone_verdict}
use Rattle.indexes.specs.Promises.{Reads}
use Rattle.indexes.proofs.Beside.{beside}
use Rattle.id_places.specs.Places.{own_column, id_start}
use Rattle.id_places.proofs.Starts.{Among, among, start_within, value_on_lem}

-- the id of each of files 1 to 4 is known and needed
pub record Needed (f : ℕ) : Type 0 where
  pub known : id_column f < count_of f
  pub need : (column_of f (id_column f)).need ≡ Always

pub needed : (f : ℕ) → indexed f ≡ true → Needed f
unfolding indexed id_column count_of column_of C.known_at C.schema C.schemas C.stops_columns C.routes_columns C.calendar_columns C.trips_columns
needed zero h = let z : ◌≡◌ {A = ℕ} 0 1 = ap (λ (t : Bool). two t) h in absurd (omega arith)
  where
    two : Bool → ℕ
    two true = 1
    two false = 0
needed (suc zero) h = record { known = omega arith; need = refl }
needed (suc (suc zero)) h = record { known = omega arith; need = refl }
needed (suc (suc (suc zero))) h = record { known = omega arith; need = refl }
needed (suc (suc (suc (suc zero)))) h = record { known = omega arith; need = refl }
needed (suc (suc (suc (suc (suc f))))) h = let z = ltb-true (suc (suc (suc (suc (suc f))))) 5 (and_both (ltb 0 (suc (suc (suc (suc (suc f)))))) _ h).1 in absurd (omega (arith, z))

-- a file that isn't empty and keeps rule 4 has a line
ended_some : (f : ℕ) (s : List ℕ) → (s ≡ [] → ⊥) → rule4 [] f s 0 ≡ false → 1 ≤ count_lf s
unfolding rule4 empty ended
ended_some f [] h e = absurd (h refl)
ended_some f (b ∷ r) h e =
    let z : not (eqb (get_or (b ∷ r) (suc (length r) - 1) 0) 10) ≡ false = rw (ne_eqb (suc (length r)) 0 (λ q. omega arith)) at e in
    count_some (b ∷ r) (suc (length r) - 1) (omega arith) (eqb-true _ _ (not-false _ z))

-- how long a readable file is, and how many lines it has
pub record Sized (s : List ℕ) : Type 0 where
  pub short : length s ≤ max_bytes
  pub few : count_lf s ≤ max_lines
  pub some : 1 ≤ count_lf s

-- a file of n records has n ids
pub ids_count : (f : ℕ) (s : List ℕ) (n : ℕ) → n + 1 ≡ count_lf s → length (ids_of f s) ≡ n
unfolding ids_of
ids_count f s n h = rw (length-map, rows_count f s, lines_all s) (omega arith)

module _ (f : ℕ) (s : List ℕ) (reads : Reads f s) where
  whole : NoneBroken (lone_claims f s)
  unfolding lone_verdict
  whole = (silent_none (lone_claims f s)).0 ((said_readable (lone_verdict f s)).0 reads.verdict)

  unempty : s ≡ [] → ⊥
  unfolding lone_verdict
  unempty e =
      let v = (spoken_first (lone_claims f s) _).1 ((beside f s).empty reads.asked e) in
      let r = (said_readable (lone_verdict f s)).0 reads.verdict in
      let z : ◌≡◌ {A = ℕ} 0 1 = cc in
      omega arith

  -- rules 1, 2 and 4
  pub sized : Sized s
  unfolding lone_claims rule1 rule2
  sized = record {
    short = ltb-false _ _ (whole (claim 1 f 0 (rule1 f s 0)) (Memᴰ.head refl));
    few = ltb-false _ _ (whole (claim 2 f 0 (rule2 f s 0)) (Memᴰ.tail (Memᴰ.head refl)));
    some = ended_some f s unempty (whole (claim 4 f 0 (rule4 [] f s 0)) (Memᴰ.tail (Memᴰ.tail (Memᴰ.head refl))));
  }

  pub quiet : NoneBroken (in_file f (lines_of s))
  unfolding lone_claims
  quiet p m = whole p (Memᴰ.tail (Memᴰ.tail (Memᴰ.tail m)))

  -- a record, by its index
  module _ (i : ℕ) (last : suc i < length (lines_of s)) where
    row_in_lem : i < length (rows_of f s)
    unfolding rows_of
    row_in_lem = simp (length-map, length-drop) (omega arith)

    abbrev pub line : Line
    line = get_or (lines_of s) (suc i) no_line

    pub there : i + 2 - 1 ≡ suc i
    there = omega arith

    pub id_is_lem : id_of (ids_of f s) (suc i) ≡ cell line.text (own_column f s)
    unfolding id_of ids_of own_column
    id_is_lem =
        let e : suc i - 1 ≡ i = omega arith in
        let z : get_or (rows_of f s) i [] ≡ row_of (places f (header_of (lines_of s))) (get_or (lines_of s) (i + 2 - 1) no_line).text = row_is f s quiet i row_in_lem in
        rw e
        (get_d_map_in (under (id_column f)) (rows_of f s) i [] [] row_in_lem
        ∙ ap (λ (w : List (List ℕ)). get_or w (id_column f) []) (rw there at z)
        ∙ row_at (places f (header_of (lines_of s))) line.text (id_column f))

    calm_line : rule5 line.text ≡ false
    calm_line = let z : rule5 (get_or (lines_of s) (i + 2 - 1) no_line).text ≡ false = no_stray f s quiet i row_in_lem in rw there at z

    pub id_there : empty (cell line.text (own_column f s)) ≡ false
    unfolding id_of ids_of
    id_there =
        let n = needed f reads.asked in
        let z = always_there f (get_or (rows_of f s) i []) _ _ n.need (line_kept f s quiet i row_in_lem (id_column f) n.known) in
        let e : suc i - 1 ≡ i = omega arith in
        rw (← id_is_lem, e, get_d_map_in (under (id_column f)) (rows_of f s) i [] [] row_in_lem) z

    pub stands : Among s (start_of s) (suc i)
    unfolding lines_of
    stands = among (suc i) s (start_of s) last

    -- the field that begins where the id of a record does has the id's value
    pub start_value : value_on s (id_start f s (suc i)) ≡ id_of (ids_of f s) (suc i)
    unfolding id_start lines_of
    start_value = value_on_lem s line stands.over (own_column f s) stands.stood calm_line id_there ∙ sym id_is_lem

    start_inside : (line.start ≤ id_start f s (suc i)) × (id_start f s (suc i) < stands.over)
    unfolding id_start lines_of
    start_inside =
        let w = start_within s line stands.over (own_column f s) stands.stood in
        (w.0, omega (arith, w.1, stands.stood.past))

    -- .. and begins within the file
    pub start_fits : id_start f s (suc i) < length s
    start_fits = omega (arith, start_inside.1, stands.stood.within)

  -- ids of later records begin later
  pub start_rise : (i j : ℕ) → i < j → suc j < length (lines_of s) → id_start f s (suc i) < id_start f s (suc j)
  unfolding lines_of
  start_rise i j h l =
      let a = (stands i (omega arith)).later (suc j) (omega arith) l in
      omega (arith, a, (start_inside i (omega arith)).1, (start_inside j l).0)

  -- the same by a record's number, of a file of n records
  module _ (n : ℕ) (count : n + 1 ≡ count_lf s) where
    pub value_of : (r : ℕ) → 0 < r → r ≤ n → value_on s (id_start f s r) ≡ id_of (ids_of f s) r
    value_of zero a b = absurd (omega arith)
    value_of (suc i) a b = start_value i (omega (arith, lines_all s))

    pub starts_rise : (r q : ℕ) → 0 < r → r < q → q ≤ n → id_start f s r < id_start f s q
    starts_rise zero q a b c = absurd (omega arith)
    starts_rise (suc i) zero a b c = absurd (omega arith)
    starts_rise (suc i) (suc j) a b c = start_rise i j (omega arith) (omega (arith, lines_all s))
