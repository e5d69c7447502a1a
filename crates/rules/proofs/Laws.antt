-- Laws: what the findings of each file rest on, and those of all files together.
use Prim.Native.Nat.{ℕ, zero, suc, ◌+◌, ◌*◌, ◌-◌, ◌≤◌}
use mathlib.Core.Path.{◌≡◌, refl, sym, ap, ◌∙◌}
use mathlib.Core.List.{List, [], ◌∷◌, map}
use native.Mathlib.Omega.{arith}
use native.Mathlib.Nat.{mul-le-mul_left}
use native.Mathlib.Numerals.{add-one}
use lib.IntN.{ℤ}
use lib.Dec.{eqb, leb, eqb→eq, leb→le}
use lib.ListN.{length, get_or, drop, drop_of_length-le, get_or-map}
use Rattle.meaning.specs.declared.Place.{Place}
use Rattle.meaning.specs.declared.Profile.{Profile}
use Rattle.meaning.specs.declared.Profile.TheVariants.{Boards}
use Rattle.meaning.specs.Lists.{flat}
use Rattle.meaning.specs.Bytes.{count_lf}
use Rattle.meaning.specs.Tables.{Feed, file_of, rows_in}
use Rattle.meaning.specs.Refusals.{max_lines}
use Rattle.meaning.specs.Rules.{record_count, file_numbers, bindings, bindings_of}
use Rattle.meaning.specs.Findings.{findings_of}
use Rattle.listing.specs.Handing.{State, lent_only, noting, handed_out}
use Rattle.listing.proofs.Laws.{noting_all, noting_append}
use Rattle.meaning.proofs.Computed.{below_all}
use Rattle.meaning.proofs.Arrays.{drop_next}
use Rattle.meaning.proofs.Records.{rows_count}
use Rattle.text.proofs.Lines.{lines_all}
use Rattle.file_rules.specs.Lines.{rule_count, Ready}
use Rattle.rules.specs.Tabled.{Tabled, table_of}

-- the LF count of a file among those of all; none of a file that isn't there
pub count_at : (files : List (List ℕ)) (i : ℕ) → get_or (map count_lf files) i 0 ≡ count_lf (get_or files i [])
unfolding count_lf
count_at files i = get_or-map count_lf files i []

-- what the findings of each file rest on, which has a record for each line but the header
ready :
    (f : ℕ)
    → 1 ≤ f
    → f ≤ 6
    → (w : Feed) (counts : List ℕ) (tables : List (List ℤ)) (marks : List ℕ)
    → Tabled w counts tables marks
    → Ready f (get_or counts (f - 1) 0 - 1) w (table_of tables f) (table_of tables 1) marks
unfolding rows_in record_count file_of
ready f low high w counts tables marks h =
    let k = h.filled f low high in
    let s = file_of h.files f in
    let n : get_or counts (f - 1) 0 ≡ count_lf s = ap (λ (l : List ℕ). get_or l (f - 1) 0) h.counted ∙ count_at h.files (f - 1) in
    record {
      file = s;
      table = k;
      stops_file = file_of h.files 1;
      stops_table = h.filled 1 (omega arith) (omega arith);
      all = sym (ap length k.read ∙ rows_count f s ∙ ap (λ (n : ℕ). n - 1) (lines_all s ∙ sym n));
      noted = h.noted;
      trips_noted = h.trips_noted;
      named = h.named;
    }

-- the same by the file's table, that of stops and how many records there are
pub ready_at :
    (f : ℕ)
    → 1 ≤ f
    → f ≤ 6
    → (w : Feed) (counts : List ℕ) (tables : List (List ℤ)) (marks : List ℕ)
    → Tabled w counts tables marks
    → (n : ℕ) (t stops : List ℤ)
    → n ≡ get_or counts (f - 1) 0 - 1
    → t ≡ get_or tables (f - 1) []
    → get_or tables 0 [] ≡ stops
    → Ready f n w t stops marks
unfolding table_of
ready_at f low high w counts tables marks k n t stops u e g = rw (u, e, ← g) (ready f low high w counts tables marks k)

-- file f comes after those before it
number_next : (f : ℕ) → 1 ≤ f → f ≤ 6 → drop (f - 1) file_numbers ≡ f ∷ drop (f + 1 - 1) file_numbers
number_next f low high =
    let z : f - 1 + 1 ≡ f = omega arith in
    let y : f + 1 - 1 ≡ f = omega arith in
    let n : get_or file_numbers (f - 1) 0 ≡ f = eqb→eq (get_or file_numbers (f - 1) 0) (f - 1 + 1) (below_all 6 (λ i. eqb (get_or file_numbers i 0) (i + 1)) tt (f - 1) (omega arith)) ∙ z in
    rw (y) (drop_next 0 file_numbers (f - 1) (omega arith) ∙ rw (n, z))

-- the findings of the files from f on, noted: those of the next, and where none is left
module _ (asked : Profile) (w : Feed) (p : Place) (f : ℕ) (x r : State) (inv : noting p (flat (map (bindings_of asked w) (drop (f - 1) file_numbers))) x ≡ r) where
  pub note_next : 1 ≤ f → f ≤ 6 → (y : State) → y ≡ noting p (bindings_of asked w f) x → noting p (flat (map (bindings_of asked w) (drop (f + 1 - 1) file_numbers))) y ≡ r
  unfolding flat
  note_next low high y e =
      ap (noting p (flat (map (bindings_of asked w) (drop (f + 1 - 1) file_numbers)))) e
      ∙ sym (noting_append p (bindings_of asked w f) _ x)
      ∙ sym (ap (λ (fs : List ℕ). noting p (flat (map (bindings_of asked w) fs)) x) (number_next f low high))
      ∙ inv

  pub note_over : 7 ≤ f → x ≡ r
  unfolding flat noting
  note_over h = rw (drop_of_length-le file_numbers {i = f - 1} (omega arith)) at inv

-- the findings of all files, before the first
pub all_left : (asked : Profile) (w : Feed) (p : Place) (x : State) → noting p (flat (map (bindings_of asked w) (drop 0 file_numbers))) x ≡ noting p (bindings asked w) x
unfolding bindings
all_left asked w p x = refl

-- .. into a list that has just been lent
pub all_noted : (asked : Profile) (w : Feed) (p : Place) (lent : List ℤ) (x y : State) → y ≡ noting p (bindings asked w) x → x ≡ lent_only lent → y ≡ handed_out p (findings_of asked w) lent
unfolding findings_of
all_noted asked w p lent x y e g = e ∙ ap (noting p (bindings asked w)) g ∙ noting_all p (bindings asked w) lent

-- how many findings one line of each of the first i files can have together
unfoldable pub rule_sum : ℕ → ℕ
rule_sum zero = 0
rule_sum (suc i) = rule_sum i + rule_count Boards (i + 1)

pub sum_next : (i m k r : ℕ) → k ≤ m + rule_sum i * max_lines → r ≤ k + rule_count Boards (i + 1) * max_lines → r ≤ m + rule_sum (i + 1) * max_lines
unfolding rule_sum
sum_next i m k r a b = rw (add-one i) (omega (arith, rw (add-one i) at b))

-- from m on, with file f
pub sum_after : (f m k r : ℕ) → 1 ≤ f → k ≤ m + rule_sum (f - 1) * max_lines → r ≤ k + rule_count Boards f * max_lines → r ≤ m + rule_sum (f + 1 - 1) * max_lines
sum_after f m k r low a b =
    let z : f - 1 + 1 ≡ f = omega arith in
    let y : f + 1 - 1 ≡ f - 1 + 1 = omega arith in
    rw y (sum_next (f - 1) m k r a (rw z b))

pub sum_most : (i : ℕ) → i ≤ 6 → rule_sum i ≤ 21
unfolding rule_sum rule_count
sum_most i h = leb→le (rule_sum i) 21 (below_all 7 (λ i. leb (rule_sum i) 21) tt i (omega arith))

-- a file of at most 65,536 lines has at most so many findings
pub total_most : (f r k n l : ℕ) → r ≤ k + rule_count Boards f * n → n ≡ l - 1 → l ≤ max_lines → r ≤ k + rule_count Boards f * max_lines
total_most f r k n l h e g =
    let m : rule_count Boards f * n ≤ rule_count Boards f * max_lines = mul-le-mul_left {m = n} {n = max_lines} (rule_count Boards f) (omega arith) in
    omega arith
