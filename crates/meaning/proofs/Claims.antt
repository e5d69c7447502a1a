-- Demand 1: the claims are all that rules 1 to 14 say of the files, and stand in the order in which they speak.
use Prim.Native.Nat.{ℕ, zero, suc, ◌+◌, ◌-◌, ◌≤◌, ◌<◌, min}
use native.Mathlib.Omega.{arith}
use mathlib.Core.Path.{◌≡◌, refl, ap}
use mathlib.Core.Logic.{◌↔◌, ◌⊎◌, inl, inr, ⊎_elim}
use mathlib.Core.Bool.{Bool, true, false, cond, ◌&&◌}
use mathlib.Core.List.Memᴰ
use mathlib.Core.List.{List, [], ◌∷◌, ◌++◌, Memᴰ}
use lib.ListN.{length, get_or}
use lib.Dec.{T, ltb, leb, eqb}
use borrow.Author.Tests.{lt-ltb, le-ltb, leb-true, eqb-true, ne_eqb}
use Rattle.meaning.specs.Lists.{place}
use Rattle.meaning.specs.Bytes.{Line, lines_of, fields}
use Rattle.meaning.specs.Columns.{places, header_of}
use Rattle.meaning.specs.Tables.{file_of}
use Rattle.meaning.specs.Refusals.{Test, test, Claim, claim_of, claim, rule1, rule2, rule3, rule4, text_tests, head_tests, value_tests, line_tests, on_lines, in_file, in_files, over_files, claims}
use Rattle.meaning.specs.Promises.{Ordered, Each, file_tests, field_count, tests_on, no_line, test_of, FileClaim, LineClaim, line_order, turn, speaks_before}
use Rattle.meaning.proofs.Computed.{all, and_left, and_right, is_true}
use Rattle.meaning.proofs.ListLaws.{and_both}
use Rattle.meaning.proofs.Laws.{sooner_less, sooner_same, each_append, ordered_append, ordered_by, along, Along, along_in, along_of, along_ordered}
use Rattle.meaning.proofs.Lines.{rising, Within, rising_within, rank, rank_file, by_number, linewise, Linewise, linewise_exactly, linewise_ordered}

-- two lists side by side, as far as both go
abbrev pairs : List (List ℕ) → List ℕ → List (List ℕ × ℕ)
pairs [] rooms = []
pairs (s ∷ r) [] = []
pairs (s ∷ r) (m ∷ rooms) = (s, m) ∷ pairs r rooms

pairs_length : (files : List (List ℕ)) (rooms : List ℕ) → length (pairs files rooms) ≡ min (length files) (length rooms)
pairs_length [] rooms = omega arith
pairs_length (s ∷ r) [] = omega arith
pairs_length (s ∷ r) (m ∷ rooms) = omega (arith, pairs_length r rooms)

pairs_at : (files : List (List ℕ)) (rooms : List ℕ) (k : ℕ) → k < length (pairs files rooms) → get_or (pairs files rooms) k ([], 0) ≡ (get_or files k [], get_or rooms k 0)
pairs_at [] rooms k h = absurd (omega arith)
pairs_at (s ∷ r) [] k h = absurd (omega arith)
pairs_at (s ∷ r) (m ∷ rooms) zero h = refl
pairs_at (s ∷ r) (m ∷ rooms) (suc k) h = pairs_at r rooms k (omega arith)

-- what rule number n claims of a file as a whole
pub record OverFiles (n : ℕ) (P : ℕ → List ℕ → ℕ → Bool) (files : List (List ℕ)) (rooms : List ℕ) (p : Claim) : Type 0 where
  pub number : p.number ≡ n
  pub line : p.line ≡ 0
  pub column : p.column ≡ 0
  pub from : 1 ≤ p.file
  pub to : p.file ≤ length files
  pub room : p.file ≤ length rooms
  pub broken : p.broken ≡ P p.file (file_of files p.file) (get_or rooms (p.file - 1) 0)

module _ (n : ℕ) (P : ℕ → List ℕ → ℕ → Bool) where
  abbrev of_pair : ℕ → List ℕ × ℕ → List Claim
  of_pair k b = claim n k 0 (P k b.0 b.1) ∷ []

  over_along : (f : ℕ) (files : List (List ℕ)) (rooms : List ℕ) → over_files n P f files rooms ≡ along of_pair f (pairs files rooms)
  unfolding over_files along
  over_along f [] rooms = refl
  over_along f (s ∷ r) [] = refl
  over_along f (s ∷ r) (m ∷ rooms) = ap {B = List Claim} (λ l. claim n f 0 (P f s m) ∷ l) (over_along (f + 1) r rooms)

  over_exactly : (files : List (List ℕ)) (rooms : List ℕ) (p : Claim) → Memᴰ p (over_files n P 1 files rooms) ↔ OverFiles n P files rooms p
  unfolding file_of
  over_exactly files rooms p = (λ m. there (along_in ([], 0) of_pair 1 (pairs files rooms) p (rw (over_along 1 files rooms) at m)), λ t. rw (over_along 1 files rooms) (back t))
    where
      there : Along ([], 0) of_pair 1 (pairs files rooms) p → OverFiles n P files rooms p
      there t =
          let e = rw (pairs_at files rooms (t.number - 1) (omega arith)) at (Memᴰ.eq_of_singleton t.here) in
          let file : p.file ≡ t.number = ap (λ (q : Claim). q.file) e in
          let long = pairs_length files rooms in
          record {
            number = ap (λ (q : Claim). q.number) e;
            line = ap (λ (q : Claim). q.line) e;
            column = ap (λ (q : Claim). q.column) e;
            from = omega arith;
            to = omega arith;
            room = omega arith;
            broken = rw file (ap (λ (q : Claim). q.broken) e);
          }

      back : OverFiles n P files rooms p → Memᴰ p (along of_pair 1 (pairs files rooms))
      back t =
          let long = pairs_length files rooms in
          let within : p.file - 1 < length (pairs files rooms) = omega arith in
          along_of ([], 0) of_pair 1 (pairs files rooms) p (record {
            number = p.file;
            from = t.from;
            to = omega arith;
            here = rw (pairs_at files rooms (p.file - 1) within) (Memᴰ.head (λ i. claim_of p.file (t.line i) (record { number = t.number i; column = t.column i; broken = t.broken i })));
          })

lines_along : (head : Line → List Test) (f : ℕ) (ps : List ℕ) (count n : ℕ) (ls : List Line) → 2 ≤ n
    → on_lines f ps count n ls ≡ linewise f (λ k l. cond (eqb k 1) (head l) (line_tests f ps count l.text)) n ls
unfolding on_lines along
lines_along head f ps count n [] h = refl
lines_along head f ps count n (l ∷ r) h =
    let ne : n ≡ 1 → ⊥ = λ e. omega arith in
    rw (ne_eqb n 1 ne, lines_along head f ps count (n + 1) r (omega arith))

file_along : (f : ℕ) (ls : List Line) → in_file f ls ≡ linewise f (tests_on f ls) 1 ls
unfolding in_file along tests_on field_count header_of
file_along f [] = refl
file_along f (h ∷ r) = rw (lines_along (λ l. head_tests f l.text) f (places f (header_of (h ∷ r))) (length (fields h.text)) 2 r (omega arith))

-- of a file's line its tests are claimed, and nothing else
pub in_file_lem : (f : ℕ) (ls : List Line) (p : Claim) → Memᴰ p (in_file f ls) ↔ Linewise no_line f (tests_on f ls) 1 ls p
in_file_lem f ls p = rw (file_along f ls) (linewise_exactly no_line f (tests_on f ls) 1 ls p)

files_along : (f : ℕ) (files : List (List ℕ)) → in_files f files ≡ along (λ k s. in_file k (lines_of s)) f files
unfolding in_files along
files_along f [] = refl
files_along f (s ∷ r) = rw (files_along (f + 1) r)

module _ (files : List (List ℕ)) where
  line_exactly : (p : Claim) → Memᴰ p (in_files 1 files) ↔ LineClaim files p
  unfolding file_of
  line_exactly p = (λ m. there (along_in [] in_text 1 files p (rw (files_along 1 files) at m)), λ t. rw (files_along 1 files) (back t))
    where
      in_text : ℕ → List ℕ → List Claim
      in_text k s = in_file k (lines_of s)

      there : Along [] in_text 1 files p → LineClaim files p
      there t =
          let ls = lines_of (get_or files (t.number - 1) []) in
          let u = (linewise_exactly no_line t.number (tests_on t.number ls) 1 ls p).0 (rw (file_along t.number ls) at t.here) in
          record { from = omega arith; to = omega arith; first = u.from; last = rw u.file (omega arith); rule = rw u.file u.rule }

      back : LineClaim files p → Memᴰ p (along in_text 1 files)
      back t =
          let ls = lines_of (get_or files (p.file - 1) []) in
          let u : Linewise no_line p.file (tests_on p.file ls) 1 ls p = record { file = refl; from = t.first; to = omega arith; rule = t.rule } in
          along_of [] in_text 1 files p (record { number = p.file; from = t.from; to = omega arith; here = rw (file_along p.file ls) ((linewise_exactly no_line p.file (tests_on p.file ls) 1 ls p).1 u) })

file_rising : (files : List (List ℕ)) (f : ℕ) (s : List ℕ) (room : ℕ) → rising by_number 0 5 (file_tests files f s room) ≡ true
unfolding rising file_tests
file_rising files f s room = refl

tests_rising : (f : ℕ) (ls : List Line) (n : ℕ) (l : Line) → rising turn 0 11 (tests_on f ls n l) ≡ true
unfolding rising turn place line_order tests_on head_tests line_tests text_tests value_tests
tests_rising f ls n l = go (eqb n 1)
  where
    go : (first : Bool) → rising turn 0 11 (cond first (head_tests f l.text) (line_tests f (places f (header_of ls)) (field_count ls) l.text)) ≡ true
    go true = refl
    go false = refl

module _ (p q : Claim) where
  lines_speak : 5 ≤ p.number → 5 ≤ q.number → rank turn p q ≡ true → speaks_before p q ≡ true
  unfolding speaks_before rank
  lines_speak h k e = rw (le-ltb p.number 5 h, le-ltb q.number 5 k) e

  files_speak : p.number < 5 → p.number ≡ q.number → p.file < q.file → speaks_before p q ≡ true
  unfolding speaks_before
  files_speak h e k =
      let j : q.number < 5 = omega arith in
      rw (lt-ltb p.number 5 h, lt-ltb q.number 5 j) (sooner_same p.number q.number (ltb p.file q.file) e (lt-ltb p.file q.file k))

  rules_speak : p.number < 5 → p.number < q.number → speaks_before p q ≡ true
  unfolding speaks_before
  rules_speak h k = rw (lt-ltb p.number 5 h, sooner_less p.number q.number (ltb p.file q.file) k) (go (ltb q.number 5))
    where
      go : (t : Bool) → cond t true true ≡ true
      go true = refl
      go false = refl

-- claims in the order in which they speak, of rules from number n on
pub record Queue (n : ℕ) (l : List Claim) : Type 0 where
  pub ordered : Ordered speaks_before l
  pub numbers : Each (λ p. n ≤ p.number) l

pub file_number : (files : List (List ℕ)) (rooms : List ℕ) (p : Claim) → FileClaim files rooms p → Within by_number 0 5 (test_of p)
file_number files rooms p t =
    let s = file_of files p.file in
    let room = get_or rooms (p.file - 1) 0 in
    rising_within by_number 0 5 (file_tests files p.file s room) (file_rising files p.file s room) (test_of p) t.rule

-- a number that has a place among numbers has what each of them has
placed : (P : ℕ → Bool) (k : ℕ) (l : List ℕ) (n : ℕ) → T (all P l) → 0 < place (λ m. eqb m n) k l → P n ≡ true
unfolding place
placed P k [] n t h = absurd (omega arith)
placed P k (m ∷ r) n t h = go (eqb m n) refl (placed P (k + 1) r n (and_right (P m) (all P r) t))
  where
    go : (y : Bool) → eqb m n ≡ y → (0 < place (λ m. eqb m n) (k + 1) r → P n ≡ true) → P n ≡ true
    go true e rest = rw (← eqb-true m n e) (is_true (P m) (and_left (P m) (all P r) t))
    go false e rest = rest (rw e at h)

-- the rules of a line are 5 to 14
turn_number : (n : ℕ) → 0 < turn n → (5 ≤ n) × (n ≤ 14)
unfolding turn line_order
turn_number n h =
    let e = and_both (leb 5 n) (leb n 14) (placed (λ m. leb 5 m && leb m 14) 1 line_order n tt h) in
    (leb-true 5 n e.0, leb-true n 14 e.1)

pub line_number : (files : List (List ℕ)) (p : Claim) → LineClaim files p → (5 ≤ p.number) × (p.number ≤ 14)
line_number files p t =
    let ls = lines_of (file_of files p.file) in
    let l = get_or ls (p.line - 1) no_line in
    turn_number p.number (rising_within turn 0 11 (tests_on p.file ls p.line l) (tests_rising p.file ls p.line l) (test_of p) t.rule).0

file_ordered : (f : ℕ) (ls : List Line) → Ordered (rank turn) (in_file f ls)
file_ordered f ls = rw (file_along f ls) (linewise_ordered no_line f (tests_on f ls) 1 ls turn 0 11 (tests_rising f ls))

file_of_lem : (f : ℕ) (ls : List Line) (p : Claim) → Memᴰ p (in_file f ls) → p.file ≡ f
file_of_lem f ls p m = ((linewise_exactly no_line f (tests_on f ls) 1 ls p).0 (rw (file_along f ls) at m)).file

module _ (files : List (List ℕ)) (rooms : List ℕ) where
  lines_ordered : Ordered (rank turn) (in_files 1 files)
  lines_ordered = rw (files_along 1 files) (along_ordered [] (λ k s. in_file k (lines_of s)) (rank turn) (λ k s. file_ordered k (lines_of s)) apart 1 files)
    where
      apart : (j k : ℕ) (b c : List ℕ) (x y : Claim) → j < k → Memᴰ x (in_file j (lines_of b)) → Memᴰ y (in_file k (lines_of c)) → rank turn x y ≡ true
      apart j k b c x y h m t =
          let u = file_of_lem j (lines_of b) x m in
          let v = file_of_lem k (lines_of c) y t in
          rank_file turn x y (omega arith)

  lines_queue : Queue 5 (in_files 1 files)
  lines_queue = record { ordered = ordered_by (rank turn) speaks_before (in_files 1 files) (λ x y m t. lines_speak x y (numbers x m) (numbers y t)) lines_ordered; numbers = numbers }
    where
      numbers : Each (λ p. 5 ≤ p.number) (in_files 1 files)
      numbers p m = (line_number files p ((line_exactly files p).0 m)).0

  over_ordered : (n : ℕ) (P : ℕ → List ℕ → ℕ → Bool) → n < 5 → Ordered speaks_before (over_files n P 1 files rooms)
  over_ordered n P h = rw (over_along n P 1 files rooms) (along_ordered ([], 0) (of_pair n P) speaks_before (λ k b. ((λ y m. absurd (Memᴰ.not-nil m)), tt)) apart 1 (pairs files rooms))
    where
      apart : (j k : ℕ) (b c : List ℕ × ℕ) (x y : Claim) → j < k → Memᴰ x (of_pair n P j b) → Memᴰ y (of_pair n P k c) → speaks_before x y ≡ true
      apart j k b c x y less m t = rw (Memᴰ.eq_of_singleton m, Memᴰ.eq_of_singleton t) (files_speak _ _ h refl less)

  rule_queue : (n : ℕ) (P : ℕ → List ℕ → ℕ → Bool) (l : List Claim) → n < 5 → Queue (suc n) l → Queue n (over_files n P 1 files rooms ++ l)
  rule_queue n P l h rest = record {
    ordered = ordered_append speaks_before (over_files n P 1 files rooms) l (over_ordered n P h) rest.ordered apart;
    numbers = each_append (λ p. n ≤ p.number) (over_files n P 1 files rooms) l (λ p m. let e = own p m in omega arith) (λ p m. let k = rest.numbers p m in omega arith);
  }
    where
      own : (p : Claim) → Memᴰ p (over_files n P 1 files rooms) → p.number ≡ n
      own p m = ((over_exactly n P files rooms p).0 m).number

      apart : (x y : Claim) → Memᴰ x (over_files n P 1 files rooms) → Memᴰ y l → speaks_before x y ≡ true
      apart x y m t =
          let e = own x m in
          let k = rest.numbers y t in
          rules_speak x y (omega arith) (omega arith)

  -- The claims stand in the order in which they speak: rules 1 to 4 rule by rule over the files; then file, line, turn.
  pub claims_ordered : Ordered speaks_before (claims files rooms)
  unfolding claims
  claims_ordered =
      (rule_queue 1 rule1 _ (omega arith) (rule_queue 2 rule2 _ (omega arith) (rule_queue 3 rule3 _ (omega arith) (rule_queue 4 (rule4 files) _ (omega arith) lines_queue)))).ordered

module _ (files : List (List ℕ)) (rooms : List ℕ) (p : Claim) where
  -- rule n is among the tests of a file
  abbrev Tested : ℕ → (ℕ → List ℕ → ℕ → Bool) → Type 0
  Tested n P = (f : ℕ) (s : List ℕ) (room : ℕ) → Memᴰ (test n (P f s room)) (file_tests files f s room)

  abbrev test_here : ℕ → (ℕ → List ℕ → ℕ → Bool) → Test
  test_here n P = test n (P p.file (file_of files p.file) (get_or rooms (p.file - 1) 0))

  over_in : (n : ℕ) (P : ℕ → List ℕ → ℕ → Bool) (l : List Claim) → Tested n P → (Memᴰ p l → FileClaim files rooms p ⊎ LineClaim files p)
      → Memᴰ p (over_files n P 1 files rooms ++ l) → FileClaim files rooms p ⊎ LineClaim files p
  over_in n P l among rest m = ⊎_elim (λ k. inl (there ((over_exactly n P files rooms p).0 k))) rest (Memᴰ.append_cases (over_files n P 1 files rooms) m)
    where
      there : OverFiles n P files rooms p → FileClaim files rooms p
      there t = record {
        line = t.line;
        from = t.from;
        to = t.to;
        room = t.room;
        rule = Memᴰ.cast (λ i. record { number = t.number i; column = t.column i; broken = t.broken i }) (among p.file (file_of files p.file) (get_or rooms (p.file - 1) 0));
      }

  over_of : (n : ℕ) (P : ℕ → List ℕ → ℕ → Bool) (ts : List Test) (l : List Claim) → FileClaim files rooms p → (Memᴰ (test_of p) ts → Memᴰ p l)
      → Memᴰ (test_of p) (test_here n P ∷ ts) → Memᴰ p (over_files n P 1 files rooms ++ l)
  over_of n P ts l t rest m = ⊎_elim here (λ k. Memᴰ.append_right (over_files n P 1 files rooms) (rest k)) (Memᴰ.cases_cons m)
    where
      here : test_of p ≡ test_here n P → Memᴰ p (over_files n P 1 files rooms ++ l)
      here e =
          Memᴰ.append_left l ((over_exactly n P files rooms p).1 (record {
            number = ap (λ (q : Test). q.number) e;
            line = t.line;
            column = ap (λ (q : Test). q.column) e;
            from = t.from;
            to = t.to;
            room = t.room;
            broken = ap (λ (q : Test). q.broken) e;
          }))

  -- The claims are exactly those of rules 1 to 4 on each file, and those of rules 5 to 14 on each line of each file.
  pub claims_exactly : Memᴰ p (claims files rooms) ↔ (FileClaim files rooms p ⊎ LineClaim files p)
  unfolding claims file_tests
  claims_exactly = (there, ⊎_elim (λ t. whole t t.rule) (λ t. lines ((line_exactly files p).1 t)))
    where
      there : Memᴰ p (claims files rooms) → FileClaim files rooms p ⊎ LineClaim files p
      there =
          over_in 1 rule1 _ (λ f s room. Memᴰ.head refl)
          (over_in 2 rule2 _ (λ f s room. Memᴰ.tail (Memᴰ.head refl))
          (over_in 3 rule3 _ (λ f s room. Memᴰ.tail (Memᴰ.tail (Memᴰ.head refl)))
          (over_in 4 (rule4 files) _ (λ f s room. Memᴰ.tail (Memᴰ.tail (Memᴰ.tail (Memᴰ.head refl))))
          (λ m. inr ((line_exactly files p).0 m)))))

      whole : FileClaim files rooms p → Memᴰ (test_of p) (file_tests files p.file (file_of files p.file) (get_or rooms (p.file - 1) 0)) → Memᴰ p (claims files rooms)
      whole t =
          over_of 1 rule1 _ _ t
          (over_of 2 rule2 _ _ t
          (over_of 3 rule3 _ _ t
          (over_of 4 (rule4 files) _ _ t
          (λ m. absurd (Memᴰ.not-nil m)))))

      lines : Memᴰ p (in_files 1 files) → Memᴰ p (claims files rooms)
      lines m =
          Memᴰ.append_right (over_files 1 rule1 1 files rooms)
          (Memᴰ.append_right (over_files 2 rule2 1 files rooms)
          (Memᴰ.append_right (over_files 3 rule3 1 files rooms)
          (Memᴰ.append_right (over_files 4 (rule4 files) 1 files rooms) m)))

  -- Of a file as a whole the tests of rules 1 to 4 are claimed, and nothing else.
  pub claim_of_file : p.line ≡ 0 → Memᴰ p (claims files rooms) ↔ FileClaim files rooms p
  claim_of_file e = (λ m. ⊎_elim (λ t. t) (λ t. absurd (omega arith)) (claims_exactly.0 m), λ t. claims_exactly.1 (inl t))

  -- Of a line the tests of rules 5 to 14 are claimed, and nothing else.
  pub claim_of_line : 1 ≤ p.line → Memᴰ p (claims files rooms) ↔ LineClaim files p
  claim_of_line h = (λ m. ⊎_elim (λ t. absurd (omega arith)) (λ t. t) (claims_exactly.0 m), λ t. claims_exactly.1 (inr t))
