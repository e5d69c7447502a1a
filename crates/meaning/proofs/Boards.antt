-- A profile for boards: each sentence of document 02's E13 holds of every call.
use Rattle.std.specs.Prelude.{Option, Some, None}
use Prim.Native.Nat.{ℕ, zero, suc, ◌+◌, ◌-◌, ◌<◌}
use native.Mathlib.Omega.{arith}
use native.Mathlib.Nat.{add-sub_cancel}
use native.Mathlib.Decide.{ℕ_discrete}
use mathlib.Core.Path.{◌≡◌, refl, sym, ap, ap₂, ◌∙◌}
use mathlib.Core.Logic.{◌↔◌, ◌⊎◌, inl, inr, ⊎_elim}
use mathlib.Core.Bool.{Bool, true, false, not, ◌||◌}
use mathlib.Core.List.Memᴰ
use mathlib.Core.List.{List, [], ◌∷◌, ◌++◌, map, Memᴰ}
use lib.IntN.{ℤ}
use lib.ListN.{length}
use lib.Dec.{eqb}
use borrow.Author.Tests.{eqb-true, leb-true, le-leb, not-true}
use Rattle.meaning.specs.declared.Time.{Time}
use Rattle.meaning.specs.declared.Time.TheVariants.{Seconds, Untimed, NoTime}
use Rattle.std.specs.Prelude.{Result, Ok, Err}
use Rattle.meaning.specs.declared.Refusal.{Refusal}
use Rattle.meaning.specs.declared.Place.{Place}
use Rattle.meaning.specs.declared.Profile.TheVariants.{Plain, Boards}
use Rattle.meaning.specs.Lists.{keep, flat}
use Rattle.meaning.specs.Columns.{Row}
use Rattle.meaning.specs.Forms.{time_of, choice_of}
use Rattle.meaning.specs.Tables.{Feed, feed_of, rows_in, arrival_time, departure_time, pickup_type, drop_off_type}
use Rattle.meaning.specs.Refusals.{Test, test, Claim, on_line, verdict_of}
use Rattle.meaning.specs.Rules.{row, timed, untimed, is_two_or_three, two_days, is_late, rule60, rule61, rule62, stop_rules, route_rules, service_rules, trip_rules, added_rules, time_rules, date_rules, record_count, rules_of, on_records, bindings_of, bindings, file_numbers}
use Rattle.meaning.specs.Findings.{Finding, finding, listed, findings_of, answer_numbers}
use Rattle.meaning.specs.Outcome.{outcome, read_outcome, refused_or}
use Rattle.meaning.specs.Promises.{says_accepted, BrokenAt}
use Rattle.meaning.specs.Boards.{OnLine, TwoOrThree, Late, OnRequest, SomeLate, Shown, is_added, without, ForBoards}
use Rattle.meaning.proofs.ListLaws.{both, keep_append}
use Rattle.meaning.proofs.Tests.{either, or_left, or_right, not_none}
use Rattle.meaning.proofs.TheList.{listed_exactly, finding_numbers, refused_answer}
use Rattle.meaning.proofs.Pages.{accepted_exactly}

-- ---- the profile's list, with 60 to 62 taken out

-- what is listed of some rules alone is what is listed with the others taken out
module _ (P : ℕ → Bool) where
  listed_kept : (cs : List Claim) → keep (λ d. P d.rule) (listed cs) ≡ listed (keep (λ c. P c.number) cs)
  unfolding keep listed
  listed_kept [] = refl
  listed_kept (c ∷ cs) = go c.broken (P c.number) refl refl (listed_kept cs)
    where
      go : (t u : Bool) → c.broken ≡ t → P c.number ≡ u
          → keep (λ d. P d.rule) (listed cs) ≡ listed (keep (λ c. P c.number) cs)
          → keep (λ d. P d.rule) (listed (c ∷ cs)) ≡ listed (keep (λ c. P c.number) (c ∷ cs))
      go true true e g h = rw (e, g, h)
      go true false e g h = rw (e, g, h)
      go false true e g h = rw (e, g, h)
      go false false e g h = rw (e, g, h)

  line_kept : (f n : ℕ) (ts : List Test) → keep (λ c. P c.number) (on_line f n ts) ≡ on_line f n (keep (λ t. P t.number) ts)
  unfolding keep on_line
  line_kept f n [] = refl
  line_kept f n (t ∷ ts) = go (P t.number) refl (line_kept f n ts)
    where
      go : (u : Bool) → P t.number ≡ u
          → keep (λ c. P c.number) (on_line f n ts) ≡ on_line f n (keep (λ t. P t.number) ts)
          → keep (λ c. P c.number) (on_line f n (t ∷ ts)) ≡ on_line f n (keep (λ t. P t.number) (t ∷ ts))
      go true e h = rw (e, h)
      go false e h = rw (e, h)

  records_kept : (f : ℕ) (rules fewer : ℕ → List Test) → ((i : ℕ) → keep (λ t. P t.number) (rules i) ≡ fewer i)
      → (i n : ℕ) → keep (λ c. P c.number) (on_records f rules i n) ≡ on_records f fewer i n
  unfolding on_records
  records_kept f rules fewer each i zero = unfold keep in refl
  records_kept f rules fewer each i (suc n) =
      keep_append (λ c. P c.number) (on_line f (i + 2) (rules i)) (on_records f rules (i + 1) n)
      ∙ ap₂ ◌++◌ (line_kept f (i + 2) (rules i) ∙ ap (on_line f (i + 2)) (each i)) (records_kept f rules fewer each (i + 1) n)

  flat_kept : {B : Type 0} (g h : B → List Claim) → ((b : B) → keep (λ c. P c.number) (g b) ≡ h b) → (bs : List B) → keep (λ c. P c.number) (flat (map g bs)) ≡ flat (map h bs)
  unfolding flat
  flat_kept g h each [] = unfold keep in refl
  flat_kept g h each (b ∷ bs) =
      keep_append (λ c. P c.number) (g b) (flat (map g bs))
      ∙ ap₂ ◌++◌ (each b) (flat_kept g h each bs)

-- the rules of a line, with 60 to 62 taken out
rules_kept : (w : Feed) (f i : ℕ) → keep (λ t. not (is_added t.number)) (rules_of Boards w f i) ≡ rules_of Plain w f i
unfolding keep is_added rules_of stop_rules route_rules service_rules trip_rules added_rules time_rules date_rules
rules_kept w zero i = refl
rules_kept w (suc zero) i = refl
rules_kept w (suc (suc zero)) i = refl
rules_kept w (suc (suc (suc zero))) i = refl
rules_kept w (suc (suc (suc (suc zero)))) i = refl
rules_kept w (suc (suc (suc (suc (suc zero))))) i = refl
rules_kept w (suc (suc (suc (suc (suc (suc zero)))))) i = refl
rules_kept w (suc (suc (suc (suc (suc (suc (suc f))))))) i = refl

pub taken_out : (w : Feed) → without (findings_of Boards w) ≡ findings_of Plain w
unfolding without findings_of bindings bindings_of
taken_out w =
    listed_kept (λ n. not (is_added n)) (bindings Boards w)
    ∙ ap listed (flat_kept (λ n. not (is_added n)) (bindings_of Boards w) (bindings_of Plain w) file_kept file_numbers)
  where
    file_kept : (f : ℕ) → keep (λ c. not (is_added c.number)) (bindings_of Boards w f) ≡ bindings_of Plain w f
    file_kept f = records_kept (λ n. not (is_added n)) f (rules_of Boards w f) (rules_of Plain w f) (rules_kept w f) 0 (record_count w f)

-- ---- rules 60 to 62

module _ (w : Feed) (i : ℕ) where
  -- the rules of a line of file 5 are the plain ones, then those added
  added_last : rules_of Boards w 5 i ≡ rules_of Plain w 5 i ++ added_rules Boards w i
  unfolding rules_of time_rules added_rules
  added_last = refl

  -- what is broken of those added
  data Added (r : ℕ) : Type 0 where
    by_60 : r ≡ 60 → rule60 w i ≡ true → Added r
    by_61 : r ≡ 61 → rule61 w i ≡ true → Added r
    by_62 : r ≡ 62 → rule62 w i ≡ true → Added r

  added : (r : ℕ) → Memᴰ (test r true) (added_rules Boards w i) → Added r
  unfolding added_rules
  added r m =
      ⊎_elim (λ (e : test r true ≡ _). by_60 (ap (λ (t : Test). t.number) e) (sym (ap (λ (t : Test). t.broken) e)))
      (λ m. ⊎_elim (λ (e : test r true ≡ _). by_61 (ap (λ (t : Test). t.number) e) (sym (ap (λ (t : Test). t.broken) e)))
      (λ m. ⊎_elim (λ (e : test r true ≡ _). by_62 (ap (λ (t : Test). t.number) e) (sym (ap (λ (t : Test). t.broken) e)))
      (λ m. absurd (Memᴰ.not-nil m))
      (Memᴰ.cases_cons m)) (Memᴰ.cases_cons m)) (Memᴰ.cases_cons m)

module _ (w : Feed) where
  -- a broken rule of a line of file 5 is a plain one, or one of those added
  broken_either : (n r : ℕ) → BrokenAt Boards w 5 n r → BrokenAt Plain w 5 n r ⊎ Added w (n - 2) r
  broken_either n r b =
      ⊎_elim (λ m. inl (record { from = b.from; to = b.to; rule = m })) (λ m. inr (added w (n - 2) r m))
      (Memᴰ.append_cases (rules_of Plain w 5 (n - 2)) (rw (added_last w (n - 2)) at b.rule))

  -- the numbers of plain rules end at 31
  not_plain : (n r : ℕ) → 31 < r → BrokenAt Plain w 5 n r → ⊥
  not_plain n r h b = omega (arith, (finding_numbers Plain w (finding 5 n r) ((listed_exactly Plain w 5 n r).1 b)).rule.1)

  -- of an added rule with a number and a test: its findings stand on the lines that have the property
  module _ (r : ℕ) (high : 31 < r) (rule : ℕ → Bool) (P : Row → Type 0)
      (only : (i : ℕ) → Added w i r → rule i ≡ true)
      (among : (i : ℕ) → rule i ≡ true → Memᴰ (test r true) (added_rules Boards w i))
      (means : (i : ℕ) → rule i ≡ true ↔ P (row w.stop_times i)) where
    on_line_lem : (n : ℕ) → Memᴰ (finding 5 n r) (findings_of Boards w) ↔ OnLine w n P
    unfolding record_count rows_in
    on_line_lem n = (there, back)
      where
        there : Memᴰ (finding 5 n r) (findings_of Boards w) → OnLine w n P
        there m =
            let b = (listed_exactly Boards w 5 n r).0 m in
            record {
              from = b.from;
              to = b.to;
              has = (means (n - 2)).0 (⊎_elim (λ q. absurd (not_plain n r high q)) (only (n - 2)) (broken_either n r b));
            }

        back : OnLine w n P → Memᴰ (finding 5 n r) (findings_of Boards w)
        back o =
            (listed_exactly Boards w 5 n r).1 (record {
              from = o.from;
              to = o.to;
              rule = rw (added_last w (n - 2)) (Memᴰ.append_right (rules_of Plain w 5 (n - 2)) (among (n - 2) ((means (n - 2)).1 o.has)));
            })

-- what each rule says of a line
untimed_exactly : (w : Feed) (i : ℕ) → rule60 w i ≡ true ↔ timed (row w.stop_times i) ≡ false
unfolding rule60 untimed
untimed_exactly w i = (λ e. not-true _ e, λ e. rw e)

two_or_three : (v : List ℕ) → is_two_or_three (choice_of 3 v) ≡ true ↔ TwoOrThree v
two_or_three v = (go (choice_of 3 v), ⊎_elim (λ e. rw e) (λ e. rw e))
  where
    go : (c : Option ℕ) → is_two_or_three c ≡ true → (c ≡ Some 2) ⊎ (c ≡ Some 3)
    go (Some n) e = ⊎_elim (λ q. inl (ap Some (eqb-true n 2 q))) (λ q. inr (ap Some (eqb-true n 3 q))) (either (eqb n 2) (eqb n 3) e)
    go None e = both false e refl

late_exactly : (v : List ℕ) → is_late (time_of v) ≡ true ↔ Late v
late_exactly v = (go (time_of v) refl, λ l. rw (l.is, le-leb two_days l.time l.late))
  where
    go : (t : Time) → time_of v ≡ t → is_late t ≡ true → Late v
    go (Seconds n) q e = record { time = n; is = q; late = leb-true two_days n e }
    go Untimed q e = both false e refl
    go NoTime q e = both false e refl

-- one or the other, as tests and as properties
one_of : {A B : Type 0} (a b : Bool) → a ≡ true ↔ A → b ≡ true ↔ B → (a || b) ≡ true ↔ A ⊎ B
one_of a b p q = (λ e. ⊎_elim (λ h. inl (p.0 h)) (λ h. inr (q.0 h)) (either a b e), ⊎_elim (λ h. or_left a b (p.1 h)) (λ h. or_right a b (q.1 h)))

request_exactly : (w : Feed) (i : ℕ) → rule61 w i ≡ true ↔ OnRequest (row w.stop_times i)
unfolding rule61
request_exactly w i = one_of _ _ (two_or_three (pickup_type (row w.stop_times i))) (two_or_three (drop_off_type (row w.stop_times i)))

some_late_exactly : (w : Feed) (i : ℕ) → rule62 w i ≡ true ↔ SomeLate (row w.stop_times i)
unfolding rule62
some_late_exactly w i = one_of _ _ (late_exactly (arrival_time (row w.stop_times i))) (late_exactly (departure_time (row w.stop_times i)))

module _ (w : Feed) where
  only_60 : (i : ℕ) → Added w i 60 → rule60 w i ≡ true
  only_60 i (by_60 e h) = h
  only_60 i (by_61 e h) = absurd (omega arith)
  only_60 i (by_62 e h) = absurd (omega arith)

  only_61 : (i : ℕ) → Added w i 61 → rule61 w i ≡ true
  only_61 i (by_60 e h) = absurd (omega arith)
  only_61 i (by_61 e h) = h
  only_61 i (by_62 e h) = absurd (omega arith)

  only_62 : (i : ℕ) → Added w i 62 → rule62 w i ≡ true
  only_62 i (by_60 e h) = absurd (omega arith)
  only_62 i (by_61 e h) = absurd (omega arith)
  only_62 i (by_62 e h) = h

  pub sixty : (n : ℕ) → Memᴰ (finding 5 n 60) (findings_of Boards w) ↔ OnLine w n (λ r. timed r ≡ false)
  unfolding added_rules
  sixty = on_line_lem w 60 (omega arith) (rule60 w) (λ r. timed r ≡ false) only_60 (λ i e. Memᴰ.head (ap (test 60) (sym e))) (untimed_exactly w)

  pub sixty_one : (n : ℕ) → Memᴰ (finding 5 n 61) (findings_of Boards w) ↔ OnLine w n OnRequest
  unfolding added_rules
  sixty_one = on_line_lem w 61 (omega arith) (rule61 w) OnRequest only_61 (λ i e. Memᴰ.tail (Memᴰ.head (ap (test 61) (sym e)))) (request_exactly w)

  pub sixty_two : (n : ℕ) → Memᴰ (finding 5 n 62) (findings_of Boards w) ↔ OnLine w n SomeLate
  unfolding added_rules
  sixty_two = on_line_lem w 62 (omega arith) (rule62 w) SomeLate only_62 (λ i e. Memᴰ.tail (Memᴰ.tail (Memᴰ.head (ap (test 62) (sym e))))) (some_late_exactly w)

-- on file 5 alone
elsewhere : (w : Feed) (f i : ℕ) → (f ≡ 5 → ⊥) → rules_of Boards w f i ≡ rules_of Plain w f i
unfolding rules_of
elsewhere w zero i h = refl
elsewhere w (suc zero) i h = refl
elsewhere w (suc (suc zero)) i h = refl
elsewhere w (suc (suc (suc zero))) i h = refl
elsewhere w (suc (suc (suc (suc zero)))) i h = refl
elsewhere w (suc (suc (suc (suc (suc zero))))) i h = absurd (h refl)
elsewhere w (suc (suc (suc (suc (suc (suc zero)))))) i h = refl
elsewhere w (suc (suc (suc (suc (suc (suc (suc f))))))) i h = refl

-- ---- accepted

-- a list of which nothing is an element
no_member : {A : Type 0} (l : List A) → ((x : A) → Memᴰ x l → ⊥) → l ≡ []
no_member [] h = refl
no_member (x ∷ l) h = absurd (h x (Memᴰ.head refl))

module _ (w : Feed) where
  -- no finding for boards, and each line is one that they can show
  all_shown : findings_of Boards w ≡ [] → (i : ℕ) → i < length w.stop_times → Shown (row w.stop_times i)
  all_shown clean i h = record {
    in_time = not_none _ (λ e. none ((sixty w (i + 2)).1 (at e)));
    regular = λ e. none ((sixty_one w (i + 2)).1 (at e));
    soon = λ e. none ((sixty_two w (i + 2)).1 (at e));
  }
    where
      none : {d : Finding} → Memᴰ d (findings_of Boards w) → ⊥
      none m = Memᴰ.not-nil (rw clean at m)

      at : {P : Row → Type 0} → P (row w.stop_times i) → OnLine w (i + 2) P
      at e = record { from = omega arith; to = omega arith; has = rw (add-sub_cancel i 2) e }

  -- no plain finding, and no line that boards can't show: no finding for boards
  none_added : findings_of Plain w ≡ [] → ((i : ℕ) → i < length w.stop_times → Shown (row w.stop_times i)) → findings_of Boards w ≡ []
  unfolding record_count rows_in
  none_added clean shown = no_member (findings_of Boards w) (λ d m. broken d.file d.line d.rule ((listed_exactly Boards w d.file d.line d.rule).0 m))
    where
      plain : (f n r : ℕ) → BrokenAt Plain w f n r → ⊥
      plain f n r b = Memᴰ.not-nil (rw clean at ((listed_exactly Plain w f n r).1 b))

      unshown : (i r : ℕ) → Shown (row w.stop_times i) → Added w i r → ⊥
      unshown i r s (by_60 e h) = both _ s.in_time ((untimed_exactly w i).0 h)
      unshown i r s (by_61 e h) = s.regular ((request_exactly w i).0 h)
      unshown i r s (by_62 e h) = s.soon ((some_late_exactly w i).0 h)

      broken : (f n r : ℕ) → BrokenAt Boards w f n r → ⊥
      broken f n r b = go (ℕ_discrete f 5)
        where
          go : Dec (f ≡ 5) → ⊥
          go (yes e) =
              let five : BrokenAt Boards w 5 n r = rw e at b in
              ⊎_elim (plain 5 n r) (unshown (n - 2) r (shown (n - 2) (omega (arith, five.from, five.to)))) (broken_either w n r five)
          go (no e) = plain f n r (record { from = b.from; to = b.to; rule = rw (elsewhere w f (n - 2) e) at b.rule })

-- ---- the outcome

module _ (files : List (List ℕ)) (tables : List (List ℤ)) (list : List ℤ) (p : Place) where
  accepted_shown :
      answer_numbers (outcome files tables list p Boards).answer ≡ says_accepted
      ↔ (answer_numbers (outcome files tables list p Plain).answer ≡ says_accepted)
      × ((i : ℕ) → i < length (feed_of files).stop_times → Shown (row (feed_of files).stop_times i))
  unfolding without keep
  accepted_shown =
      let boards = accepted_exactly files tables list p Boards in
      let plain = accepted_exactly files tables list p Plain in (
        λ e.
            let k = boards.0 e in
            (plain.1 (k.0, sym (taken_out (feed_of files)) ∙ ap without k.1), all_shown (feed_of files) k.1),
        λ h.
            let k = plain.0 h.0 in
            boards.1 (k.0, none_added (feed_of files) k.1 h.1),
      )

  tables_alike : (outcome files tables list p Boards).tables ≡ (outcome files tables list p Plain).tables
  unfolding outcome read_outcome
  tables_alike = go (verdict_of files (map length tables))
    where
      go : (v : Result Unit Refusal) → (refused_or v (read_outcome files tables list p Boards) tables list).tables ≡ (refused_or v (read_outcome files tables list p Plain) tables list).tables
      go (Ok tt) = refl
      go (Err r) = refl

  pub for_boards_lem : ForBoards files tables list p
  unfolding rules_of time_rules added_rules
  for_boards_lem =
      let boards = refused_answer files tables list p Boards in
      let plain = refused_answer files tables list p Plain in
      record {
        sixty = sixty;
        sixty_one = sixty_one;
        sixty_two = sixty_two;
        elsewhere = elsewhere;
        accepted = accepted_shown;
        before = λ w i. refl;
        taken_out = taken_out;
        refusals = λ r. (λ e. (plain r).1 ((boards r).0 e), λ e. (boards r).1 ((plain r).0 e));
        tables_alike = tables_alike;
      }
