-- Demand 3: the list has each broken binding rule once, in the order of file, line, rule; and what the answer says of it.
use Prim.Native.Nat.{ℕ, zero, suc, ◌+◌, ◌-◌, ◌≤◌, ◌<◌}
use native.Mathlib.Omega.{arith}
use native.Mathlib.Nat.{add-sub_cancel}
use mathlib.Core.Path.{◌≡◌, refl, sym, ap, ◌∙◌}
use mathlib.Core.Logic.{◌↔◌, ⊎_elim}
use mathlib.Core.Bool.{Bool, true, false, cond}
use mathlib.Core.List.Memᴰ
use mathlib.Core.List.{List, [], ◌∷◌, map, Memᴰ}
use lib.IntN.{ℤ}
use lib.ListN.{length, get_or, take, drop, replicate, length-replicate, get_or-eq_default}
use lib.Dec.{T, ltb, eqb}
use borrow.Author.Tests.{eqb-true, lt-ltb, ltb-true, ltb-false}
use Rattle.meaning.specs.declared.Refusal.{Refusal}
use Rattle.meaning.specs.declared.Place.{Place}
use Rattle.meaning.specs.declared.Profile.{Profile}
use Rattle.meaning.specs.declared.Profile.TheVariants.{Plain, Boards}
use Rattle.std.specs.Prelude.{Result, Ok, Err}
use Rattle.meaning.specs.declared.Answer.TheVariants.{Accepted, Findings}
use Rattle.meaning.specs.Lists.{flat}
use Rattle.meaning.specs.Tables.{Feed, feed_of, rows_in}
use Rattle.meaning.specs.Refusals.{Test, test, Claim, claim_of, claim, verdict_of}
use Rattle.meaning.specs.Rules.{stop_rules, route_rules, service_rules, trip_rules, added_rules, time_rules, date_rules, record_count, rules_of, on_records, bindings_of, bindings}
use Rattle.meaning.specs.Pages.{above, behind}
use Rattle.meaning.specs.Findings.{Finding, finding, listed, findings_of, after, page, room_of, answer_of, answer_numbers}
use Rattle.meaning.specs.Outcome.{read_outcome, refused_or, outcome}
use Rattle.meaning.specs.Promises.{Ordered, Each, says_accepted, says_findings, says_refused, Ends, accepted, findings, refused, test_of, BrokenAt, highest, Findable, comes_before, beginning}
use Rattle.meaning.proofs.FirstBroken.{one_refusal}
use Rattle.meaning.proofs.Computed.{all, mem_all}
use Rattle.meaning.proofs.Pages.{told}
use Rattle.meaning.proofs.Sayable.{refusal_numbers}
use Rattle.meaning.proofs.Laws.{along, Along, along_in, along_of, along_ordered}
use Rattle.meaning.proofs.Lines.{rising, rising_within, rank, rank_file, by_number, linewise, Linewise, linewise_exactly, linewise_ordered}

-- the finding that a broken claim is
abbrev to_finding : Claim → Finding
to_finding p = finding p.file p.line p.number

listed_yes : (p : Claim) (cs : List Claim) → p.broken ≡ true → listed (p ∷ cs) ≡ to_finding p ∷ listed cs
unfolding listed
listed_yes p cs e = rw e

listed_no : (p : Claim) (cs : List Claim) → p.broken ≡ false → listed (p ∷ cs) ≡ listed cs
unfolding listed
listed_no p cs e = rw e

-- a claim that names no column: binding rules name none
abbrev Columnless : Claim → Type 0
Columnless p = p.column ≡ 0

-- what is listed is what is broken
listed_in : (f n r : ℕ) (cs : List Claim) → Each Columnless cs → Memᴰ (finding f n r) (listed cs) → Memᴰ (claim r f n true) cs
unfolding listed
listed_in f n r [] plain m = absurd (Memᴰ.not-nil m)
listed_in f n r (p ∷ cs) plain m = go p.broken refl (listed_in f n r cs (λ q k. plain q (Memᴰ.tail k)))
  where
    go : (t : Bool) → p.broken ≡ t → (Memᴰ (finding f n r) (listed cs) → Memᴰ (claim r f n true) cs) → Memᴰ (claim r f n true) (p ∷ cs)
    go true e rest =
        ⊎_elim
        (λ (d : finding f n r ≡ to_finding p). Memᴰ.head (λ i. claim_of (d i).file (d i).line (record { number = (d i).rule; column = sym (plain p (Memᴰ.head refl)) i; broken = sym e i })))
        (λ (k : Memᴰ (finding f n r) (listed cs)). Memᴰ.tail (rest k))
        (Memᴰ.cases_cons (rw (listed_yes p cs e) at m))
    go false e rest = Memᴰ.tail (rest (rw (listed_no p cs e) at m))

listed_of : (f n r : ℕ) (cs : List Claim) → Memᴰ (claim r f n true) cs → Memᴰ (finding f n r) (listed cs)
listed_of f n r [] m = absurd (Memᴰ.not-nil m)
listed_of f n r (p ∷ cs) m = ⊎_elim here (λ k. later p.broken refl (listed_of f n r cs k)) (Memᴰ.cases_cons m)
  where
    here : claim r f n true ≡ p → Memᴰ (finding f n r) (listed (p ∷ cs))
    here e = rw (listed_yes p cs (ap (λ (q : Claim). q.broken) (sym e))) (Memᴰ.head (ap to_finding e))

    later : (t : Bool) → p.broken ≡ t → Memᴰ (finding f n r) (listed cs) → Memᴰ (finding f n r) (listed (p ∷ cs))
    later true e k = rw (listed_yes p cs e) (Memᴰ.tail k)
    later false e k = rw (listed_no p cs e) k

listed_ordered : (cs : List Claim) → Each Columnless cs → Ordered (rank by_number) cs → Ordered comes_before (listed cs)
unfolding listed rank comes_before
listed_ordered [] plain o = tt
listed_ordered (p ∷ cs) plain o = go p.broken refl (listed_ordered cs (λ q k. plain q (Memᴰ.tail k)) o.1)
  where
    before : (e : Finding) → Memᴰ e (listed cs) → comes_before (to_finding p) e ≡ true
    before e m = o.0 (claim e.rule e.file e.line true) (listed_in e.file e.line e.rule cs (λ q k. plain q (Memᴰ.tail k)) m)

    go : (t : Bool) → p.broken ≡ t → Ordered comes_before (listed cs) → Ordered comes_before (listed (p ∷ cs))
    go true e rest = rw (listed_yes p cs e) (before, rest)
    go false e rest = rw (listed_no p cs e) rest

-- the rules of a file's lines, by the line
abbrev on_index : (ℕ → List Test) → ℕ → Unit {0} → List Test
on_index rules n u = rules (n - 2)

records_along : (f : ℕ) (rules : ℕ → List Test) (i n : ℕ) → on_records f rules i n ≡ linewise f (on_index rules) (i + 2) (replicate n tt)
unfolding on_records along
records_along f rules i zero = refl
records_along f rules i (suc n) =
    let e : i + 1 + 2 ≡ i + 2 + 1 = omega arith in
    rw (records_along f rules (i + 1) n, e, add-sub_cancel i 2)

-- the rules of a line rise, and none of them names a column
rules_computed : (asked : Profile) (w : Feed) (f i : ℕ) → (rising by_number 19 (highest asked + 1) (rules_of asked w f i) ≡ true) × T (all (λ t. eqb t.column 0) (rules_of asked w f i))
unfolding rising rules_of stop_rules route_rules service_rules trip_rules added_rules time_rules date_rules
rules_computed Plain w zero i = (refl, tt)
rules_computed Plain w (suc zero) i = (refl, tt)
rules_computed Plain w (suc (suc zero)) i = (refl, tt)
rules_computed Plain w (suc (suc (suc zero))) i = (refl, tt)
rules_computed Plain w (suc (suc (suc (suc zero)))) i = (refl, tt)
rules_computed Plain w (suc (suc (suc (suc (suc zero))))) i = (refl, tt)
rules_computed Plain w (suc (suc (suc (suc (suc (suc zero)))))) i = (refl, tt)
rules_computed Plain w (suc (suc (suc (suc (suc (suc (suc f))))))) i = (refl, tt)
rules_computed Boards w zero i = (refl, tt)
rules_computed Boards w (suc zero) i = (refl, tt)
rules_computed Boards w (suc (suc zero)) i = (refl, tt)
rules_computed Boards w (suc (suc (suc zero))) i = (refl, tt)
rules_computed Boards w (suc (suc (suc (suc zero)))) i = (refl, tt)
rules_computed Boards w (suc (suc (suc (suc (suc zero))))) i = (refl, tt)
rules_computed Boards w (suc (suc (suc (suc (suc (suc zero)))))) i = (refl, tt)
rules_computed Boards w (suc (suc (suc (suc (suc (suc (suc f))))))) i = (refl, tt)

-- the files with records are 1 to 6
counted_files : (w : Feed) (f : ℕ) → 0 < record_count w f → (1 ≤ f) × (f < 7)
unfolding record_count rows_in
counted_files w zero h = absurd (omega arith)
counted_files w (suc f) h = (omega arith, go (ltb f 6) refl)
  where
    go : (t : Bool) → ltb f 6 ≡ t → suc f < 7
    go true e = omega (arith, ltb-true f 6 e)
    go false e =
        let k : 7 ≤ suc f = omega (arith, ltb-false f 6 e) in
        let z = get_or-eq_default ([] ∷ w.stops ∷ w.routes ∷ w.calendar ∷ w.trips ∷ w.stop_times ∷ w.dates ∷ []) [] k in
        absurd (omega (arith, ap length z))

module _ (asked : Profile) (w : Feed) where
  -- the files, counted from 1
  abbrev six : List (Unit {0})
  six = replicate 6 tt

  abbrev of_number : ℕ → Unit {0} → List Claim
  of_number f u = bindings_of asked w f

  bindings_along : bindings asked w ≡ along of_number 1 six
  unfolding bindings along flat
  bindings_along = refl

  abbrev records : ℕ → List (Unit {0})
  records f = replicate (record_count w f) tt

  records_count : (f : ℕ) → length (records f) ≡ record_count w f
  records_count f = length-replicate (record_count w f) tt

  abbrev ruled : ℕ → ℕ → Unit {0} → List Test
  ruled f = on_index (rules_of asked w f)

  file_along : (f : ℕ) → bindings_of asked w f ≡ linewise f (ruled f) 2 (records f)
  unfolding bindings_of
  file_along f = records_along f (rules_of asked w f) 0 (record_count w f)

  -- what stands among the claims of file f
  file_exactly : (f : ℕ) (p : Claim) → Memᴰ p (bindings_of asked w f) ↔ Linewise tt f (ruled f) 2 (records f) p
  file_exactly f p = rw (file_along f) (linewise_exactly tt f (ruled f) 2 (records f) p)

  bindings_ordered : Ordered (rank by_number) (bindings asked w)
  bindings_ordered = rw bindings_along (along_ordered tt of_number (rank by_number) own apart 1 six)
    where
      own : (f : ℕ) (u : Unit {0}) → Ordered (rank by_number) (bindings_of asked w f)
      own f u = rw (file_along f) (linewise_ordered tt f (ruled f) 2 (records f) by_number 19 (highest asked + 1) (λ k b. (rules_computed asked w f (k - 2)).0))

      apart : (j k : ℕ) (b c : Unit {0}) (x y : Claim) → j < k → Memᴰ x (bindings_of asked w j) → Memᴰ y (bindings_of asked w k) → rank by_number x y ≡ true
      apart j k b c x y h m t =
          let u = ((file_exactly j x).0 m).file in
          let v = ((file_exactly k y).0 t).file in
          rank_file by_number x y (omega arith)

  bindings_plain : Each Columnless (bindings asked w)
  bindings_plain p m =
      let t = along_in tt of_number 1 six p (rw bindings_along at m) in
      let u = (file_exactly t.number p).0 t.here in
      let i = p.line - 2 in
      eqb-true p.column 0 (mem_all (λ t. eqb t.column 0) (rules_of asked w t.number i) (rules_computed asked w t.number i).1 (test_of p) u.rule)

  module _ (f n r : ℕ) where
    broken_in : Along tt of_number 1 six (claim r f n true) → BrokenAt asked w f n r
    broken_in t =
        let u = (file_exactly t.number (claim r f n true)).0 t.here in
        let count = records_count t.number in
        rw u.file (record { from = u.from; to = omega arith; rule = u.rule })

    broken_of : BrokenAt asked w f n r → Along tt of_number 1 six (claim r f n true)
    broken_of b =
        let file = counted_files w f (omega arith) in
        let count = records_count f in
        record { number = f; from = file.0; to = omega arith; here = (file_exactly f (claim r f n true)).1 (record { file = refl; from = b.from; to = omega arith; rule = b.rule }) }

    -- The list has exactly the broken rules.
    pub listed_exactly : Memᴰ (finding f n r) (findings_of asked w) ↔ BrokenAt asked w f n r
    unfolding findings_of
    listed_exactly = (
      λ m. broken_in (along_in tt of_number 1 six (claim r f n true) (rw bindings_along at (listed_in f n r (bindings asked w) bindings_plain m))),
      λ b. listed_of f n r (bindings asked w) (rw bindings_along (along_of tt of_number 1 six (claim r f n true) (broken_of b))),
    )

  -- The list rises strictly by file, line, rule, so each finding stands once.
  pub list_ordered : Ordered comes_before (findings_of asked w)
  unfolding findings_of
  list_ordered = listed_ordered (bindings asked w) bindings_plain bindings_ordered

-- A finding's file is 1 to 6, its line one of that file's records, its rule 20 to the highest that is asked for.
pub finding_numbers : (asked : Profile) (w : Feed) → Each (Findable asked w) (findings_of asked w)
finding_numbers asked w d m =
    let b = (listed_exactly asked w d.file d.line d.rule).0 m in
    let file = counted_files w d.file (omega arith) in
    let rule = rising_within by_number 19 (highest asked + 1) (rules_of asked w d.file (d.line - 2)) (rules_computed asked w d.file (d.line - 2)).0 (test d.rule true) b.rule in
    record { file = omega arith; line = omega arith; rule = omega arith }

-- Every finding comes after the list's beginning.
pub findings_from_beginning : (asked : Profile) (w : Feed) → Each (λ d. after beginning d ≡ true) (findings_of asked w)
unfolding behind above
findings_from_beginning asked w d m = rw (lt-ltb 0 d.file (finding_numbers asked w d m).file.0)

-- a feed that reads is not refused
never_refused : (p : Place) (ds : List Finding) (list : List ℤ) (r : Refusal) → answer_numbers (answer_of p ds list) ≡ says_refused r → ⊥
never_refused p ds list r e = go (eqb (length ds) 0) (ap (λ (ns : List ℕ). get_or ns 0 0) (sym (told p ds list) ∙ e))
  where
    go : (t : Bool) → get_or (cond t says_accepted (says_findings (length (page p (room_of list) ds)) (length ds))) 0 0 ≡ 2 → ⊥
    go true z = omega arith
    go false z = omega arith

module _ (files : List (List ℕ)) (tables : List (List ℤ)) (list : List ℤ) (p : Place) (asked : Profile) where
  -- The answer refuses exactly what the verdict does.
  pub refused_answer : (r : Refusal) → answer_numbers (outcome files tables list p asked).answer ≡ says_refused r ↔ verdict_of files (map length tables) ≡ Err r
  unfolding outcome read_outcome answer_numbers
  refused_answer r = (λ e. there (verdict_of files (map length tables)) refl e, λ e. rw e)
    where
      there : (v : Result Unit Refusal) → verdict_of files (map length tables) ≡ v → answer_numbers (refused_or v (read_outcome files tables list p asked) tables list).answer ≡ says_refused r → verdict_of files (map length tables) ≡ Err r
      there (Ok tt) k e = absurd (never_refused p (findings_of asked (feed_of files)) list r e)
      there (Err s) k e = k ∙ ap Err (one_refusal r s (ap (λ (ns : List ℕ). take 4 (drop 1 ns)) e))

  -- A refused feed leaves every table and the list as lent.
  pub refused_untouched : (r : Refusal) → answer_numbers (outcome files tables list p asked).answer ≡ says_refused r → ((outcome files tables list p asked).tables ≡ tables) × ((outcome files tables list p asked).list ≡ list)
  unfolding outcome
  refused_untouched r e = let v = (refused_answer r).0 e in (rw v, rw v)

  -- The answer is accepted, findings, or a refusal that can be said.
  pub answer_ends : Ends files (answer_numbers (outcome files tables list p asked).answer)
  unfolding outcome read_outcome answer_of answer_numbers
  answer_ends = go (verdict_of files (map length tables)) refl
    where
      read : (t : Bool) (n m : ℕ) → Ends files (answer_numbers (cond t Accepted (Findings n m)))
      read true n m = accepted refl
      read false n m = findings n m refl

      go : (v : Result Unit Refusal) → verdict_of files (map length tables) ≡ v → Ends files (answer_numbers (refused_or v (read_outcome files tables list p asked) tables list).answer)
      go (Ok tt) e = read (eqb (length (findings_of asked (feed_of files))) 0) _ _
      go (Err r) e = refused r refl (refusal_numbers files (map length tables) r e)
