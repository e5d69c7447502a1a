-- An index beside the feed: each sentence of document 02's E4 holds.
use Rattle.std.specs.Prelude.{Ok, Err}
use Prim.Native.Nat.{ℕ, zero, suc, ◌+◌, ◌*◌, ◌≤◌, ◌<◌}
use native.Mathlib.Omega.{arith}
use mathlib.Core.Path.{◌≡◌, refl, sym, ap, ◌∙◌}
use mathlib.Core.Logic.{◌↔◌}
use mathlib.Core.Bool.{Bool, true, false, cond, not, ◌&&◌}
use mathlib.Core.List.Memᴰ
use mathlib.Core.List.{List, [], ◌∷◌, ◌++◌}
use lib.ListN.{length, get_or, take, drop, length-append, length-drop, length-map}
use lib.Seq.{take_at, drop_at}
use lib.Dec.{ltb, eqb}
use borrow.Author.Tests.{ltb-true, ltb-false, lt-ltb, eqb-true, eqb-false, eq-eqb, ne_eqb}
use Rattle.meaning.specs.declared.Refusal.{Refusal}
use Rattle.std.specs.Prelude.{Result, Ok, Err}
use Rattle.meaning.specs.Lists.{empty, any, laid}
use Rattle.meaning.specs.Bytes.{count_lf}
use Rattle.meaning.specs.Tables.{file_of}
use Rattle.meaning.specs.Refusals.{Test, claim, max_lines, rule1, rule2, may_lack, rule4}
use Rattle.meaning.specs.Promises.{no_claim, FirstBroken}
use Rattle.meaning.proofs.ListLaws.{both, and_both}
use Rattle.meaning.proofs.FirstBroken.{spoken_first, silent_none, said_readable}
use Rattle.meaning.proofs.References.{any_yes}
use Rattle.meaning.proofs.Records.{rows_count}
use Rattle.meaning.proofs.Tests.{untrue}
use Rattle.text.proofs.Lines.{lines_all}
use Rattle.indexes.specs.Answer.{IndexAnswer}
use Rattle.indexes.specs.declared.IndexRefusal.TheVariants.{Unread, Barred}
use Rattle.indexes.specs.Order.{ids_of, repeats, ranked}
use Rattle.indexes.specs.declared.version.Version.{Version}
use Rattle.indexes.specs.Index.{version_of, index_of, index_length, index_tests, spoken, writer_tests, indexed, lone_claims, lone_verdict, if_read, asked_of, barred_or, checked, wrote, left_by, written, index_numbers}
use Rattle.indexes.specs.Promises.{Lists, Bytes, Reads, no_test, Lowest, says_whole, says_unread, says_barred, Beside}
use Rattle.indexes.proofs.Versions.{of_two}
use Rattle.indexes.proofs.Order.{ranked_length, ranked_rising, rising_apart}
use Rattle.indexes.proofs.Accepted.{quiet, index_length_lem, accepted_lists, lists_one, lists_accepted}
use Rattle.indexes.proofs.Told.{told_whole, told_unread, told_barred, apart_checked, apart_wrote}

-- ---- the lowest number that speaks

spoken_yes : (t : Test) (ts : List Test) → t.broken ≡ true → spoken (t ∷ ts) ≡ t.number
unfolding spoken
spoken_yes t ts e = rw e

spoken_no : (t : Test) (ts : List Test) → t.broken ≡ false → spoken (t ∷ ts) ≡ spoken ts
unfolding spoken
spoken_no t ts e = rw e

lowest_of : (ts : List Test) (n : ℕ) → spoken ts ≡ n → (n ≡ 0 → ⊥) → Lowest ts n
unfolding spoken
lowest_of [] n e some = absurd (some (sym e))
lowest_of (t ∷ ts) n e some = go t.broken refl (λ q. lowest_of ts n q some)
  where
    go : (b : Bool) → t.broken ≡ b → (spoken ts ≡ n → Lowest ts n) → Lowest (t ∷ ts) n
    go true b rest = record { at = 0; inside = omega arith; number = sym (spoken_yes t ts b) ∙ e; broken = b; silent = λ k h. absurd (omega arith) }
    go false b rest = later (rest (sym (spoken_no t ts b) ∙ e))
      where
        later : Lowest ts n → Lowest (t ∷ ts) n
        later l = record { at = suc l.at; inside = omega arith; number = l.number; broken = l.broken; silent = early l }
          where
            early : (l : Lowest ts n) (k : ℕ) → k < suc l.at → (get_or (t ∷ ts) k no_test).broken ≡ false
            early l zero h = b
            early l (suc k) h = l.silent k (omega arith)

of_lowest : (ts : List Test) (at : ℕ) → at < length ts → (get_or ts at no_test).broken ≡ true → ((k : ℕ) → k < at → (get_or ts k no_test).broken ≡ false) → spoken ts ≡ (get_or ts at no_test).number
of_lowest [] at h b silent = absurd (omega arith)
of_lowest (t ∷ ts) zero h b silent = spoken_yes t ts b
of_lowest (t ∷ ts) (suc at) h b silent = spoken_no t ts (silent 0 (omega arith)) ∙ of_lowest ts at (omega arith) b (λ k l. silent (suc k) (omega arith))

-- an answer with a number is that of the lowest, where no test has number 0
barred_lowest : (ts : List Test) (size n : ℕ) → any (λ t. eqb t.number 0) ts ≡ false → barred_or (spoken ts) size ≡ Err (Barred n) ↔ Lowest ts n
unfolding barred_or
barred_lowest ts size n named = (λ e. there (eqb (spoken ts) 0) refl e, back)
  where
    there : (b : Bool) → eqb (spoken ts) 0 ≡ b → cond b (Ok size) (Err (Barred (spoken ts))) ≡ Err (Barred n) → Lowest ts n
    there true q e = let z : ◌≡◌ {A = ℕ} 0 1 = cc in absurd (omega arith)
    there false q e = let k : spoken ts ≡ n = cc in lowest_of ts n k (λ z. eqb-false _ _ q (k ∙ z))

    back : Lowest ts n → cond (eqb (spoken ts) 0) (Ok size) (Err (Barred (spoken ts))) ≡ Err (Barred n)
    back l =
        let k : spoken ts ≡ n = of_lowest ts l.at l.inside l.broken l.silent ∙ l.number in
        let z : n ≡ 0 → ⊥ = λ e. both _ (any_yes (λ t. eqb t.number 0) no_test ts l.at l.inside (eq-eqb _ _ (l.number ∙ e))) named in
        rw (k, ne_eqb n 0 z)

read_named : (v : Version) (f : ℕ) (ids : List (List ℕ)) (b : List ℕ) → any (λ t. eqb t.number 0) (index_tests v f ids b) ≡ false
unfolding any index_tests
read_named v f ids b = refl

write_named : (v : Version) (ids : List (List ℕ)) (room : ℕ) → any (λ t. eqb t.number 0) (writer_tests v ids room) ≡ false
unfolding any writer_tests
write_named v ids room = refl

pub barred_whole : (k size n : ℕ) → barred_or k size ≡ Ok n → (k ≡ 0) × (size ≡ n)
unfolding barred_or
barred_whole k size n e = go (eqb k 0) refl e
  where
    go : (b : Bool) → eqb k 0 ≡ b → cond b (Ok size) (Err (Barred k)) ≡ Ok n → (k ≡ 0) × (size ≡ n)
    go true q e = (eqb-true k 0 q, cc)
    go false q e = let z : ◌≡◌ {A = ℕ} 0 1 = cc in absurd (omega arith)

module _ (f : ℕ) (s : List ℕ) where
  -- ---- what comes before both

  pub asked_read : Reads f s → (a : IndexAnswer) → asked_of f (lone_verdict f s) a ≡ a
  unfolding asked_of
  asked_read r a = rw (r.asked, (said_readable (lone_verdict f s)).0 r.verdict)

  pub asked_refused : indexed f ≡ true → (r : Refusal) → lone_verdict f s ≡ Err r → (a : IndexAnswer) → asked_of f (lone_verdict f s) a ≡ Err (Unread r)
  unfolding asked_of
  asked_refused e r v a = rw (e, v)

  asked_unread : indexed f ≡ true → (r : Refusal) → FirstBroken (lone_claims f s) r → (a : IndexAnswer) → asked_of f (lone_verdict f s) a ≡ Err (Unread r)
  unfolding lone_verdict
  asked_unread e r b a = asked_refused e r ((spoken_first (lone_claims f s) r).1 b) a

  pub asked_outside : indexed f ≡ false → (a : IndexAnswer) → asked_of f (lone_verdict f s) a ≡ Err (Barred 42)
  unfolding asked_of
  asked_outside e a = rw e

  pub asked_whole : (a : IndexAnswer) (n : ℕ) → asked_of f (lone_verdict f s) a ≡ Ok n → Reads f s × (a ≡ Ok n)
  unfolding asked_of
  asked_whole a n e = go (indexed f) refl (lone_verdict f s) refl e
    where
      go : (t : Bool) → indexed f ≡ t → (v : Result Unit Refusal) → lone_verdict f s ≡ v → cond t (if_read v a) (Err (Barred 42)) ≡ Ok n → Reads f s × (a ≡ Ok n)
      go false p v q e = let z : ◌≡◌ {A = ℕ} 0 1 = cc in absurd (omega arith)
      go true p (Ok tt) q e = (record { asked = p; verdict = (said_readable (lone_verdict f s)).1 q }, e)
      go true p (Err r) q e = let z : ◌≡◌ {A = ℕ} 0 1 = cc in absurd (omega arith)

  asked_refusal : (k size : ℕ) (r : Refusal) → asked_of f (lone_verdict f s) (barred_or k size) ≡ Err (Unread r) → FirstBroken (lone_claims f s) r
  unfolding asked_of barred_or lone_verdict
  asked_refusal k size r e = (spoken_first (lone_claims f s) r).0 (go (indexed f) (lone_verdict f s) refl (eqb k 0) e)
    where
      go : (t : Bool) (v : Result Unit Refusal) → lone_verdict f s ≡ v → (z : Bool) → cond t (if_read v (cond z (Ok size) (Err (Barred k)))) (Err (Barred 42)) ≡ Err (Unread r) → lone_verdict f s ≡ Err r
      go false v q z e = let z : ◌≡◌ {A = ℕ} 0 1 = cc in absurd (omega arith)
      go true (Ok tt) q true e = let z : ◌≡◌ {A = ℕ} 0 1 = cc in absurd (omega arith)
      go true (Ok tt) q false e = let z : ◌≡◌ {A = ℕ} 0 1 = cc in absurd (omega arith)
      go true (Err p) q z e = cc

  -- a file has fewer records than lines
  pub fewer : (m : ℕ) → 0 < m → count_lf s ≤ m → length (ids_of f s) < m
  unfolding ids_of
  fewer m some h = rw (length-map, rows_count f s, lines_all s) (omega arith)

  -- rule 2 leaves so many lines
  pub few : Reads f s → length (ids_of f s) < max_lines
  unfolding lone_verdict lone_claims rule2
  few r =
      fewer max_lines (omega arith) (ltb-false _ _ ((silent_none (lone_claims f s)).0 ((said_readable (lone_verdict f s)).0 r.verdict) (claim 2 f 0 (rule2 f s 0)) (Memᴰ.tail (Memᴰ.head refl))))

  -- ---- the writer

  abbrev ids : List (List ℕ)
  ids = ids_of f s

  abbrev index : List ℕ
  index = index_of (version_of (length ids)) f (ranked ids)

  need : let n = length ids in (n ≤ 65535 → index_length (version_of n) n ≡ 8 + 2 * n) × (65535 < n → index_length (version_of n) n ≡ 10 + 4 * n)
  unfolding index_length
  need = let n = length ids in
      of_two (λ v. (n ≤ 65535 → index_length v n ≡ 8 + 2 * n) × (65535 < n → index_length v n ≡ 10 + 4 * n)) n
      (λ few. (λ h. omega arith, λ h. absurd (omega arith)))
      (λ many. (λ h. absurd (omega arith), λ h. omega arith))

  index_size : length index ≡ index_length (version_of (length ids)) (length ids)
  index_size = index_length_lem (version_of (length ids)) f (ranked ids) ∙ rw (ranked_length ids)

  -- what an index that was written says
  record Wrote (lent : List ℕ) (n : ℕ) : Type 0 where
    reads : Reads f s
    apart : repeats ids ≡ false
    size : length index ≡ n
    room : n ≤ length lent
    is : written f s lent ≡ index ++ drop n lent

  wrote_whole : (lent : List ℕ) (n : ℕ) → wrote f s (length lent) ≡ Ok n → Wrote lent n
  unfolding wrote written writer_tests spoken laid
  wrote_whole lent n e =
      let a = asked_whole _ n e in
      let b = barred_whole _ _ n a.1 in
      let p = quiet 45 (repeats ids) _ (λ z. omega arith) b.0 in
      let q = quiet 46 (ltb (length lent) (index_length (version_of (length ids)) (length ids))) _ (λ z. omega arith) p.1 in
      let k : length index ≡ n = index_size ∙ b.1 in
      record { reads = a.0; apart = p.0; size = k; room = omega (arith, ltb-false (length lent) (index_length (version_of (length ids)) (length ids)) q.0, b.1); is = ap (λ w. left_by w index lent) e ∙ rw k }

  none_repeats : repeats ids ≡ false → Lists f ids index
  none_repeats e = record { records = ranked ids; rising = ranked_rising ids e; bytes = refl }

  pub accepts : Reads f s → (b : List ℕ) → Lists f ids b → checked f s b ≡ Ok (length b)
  unfolding checked barred_or
  accepts r b l = asked_read r _ ∙ rw (lists_accepted f ids b (omega (arith, few r)) l)

  writes : (lent : List ℕ) (n : ℕ) → Wrote lent n → take n (written f s lent) ≡ index
  writes lent n w = rw w.is (take_at index (drop n lent) n w.size)

  unchanged : (lent : List ℕ) → ((n : ℕ) → wrote f s (length lent) ≡ Ok n → ⊥) → written f s lent ≡ lent
  unfolding written
  unchanged lent h = go (wrote f s (length lent)) refl
    where
      go : (a : IndexAnswer) → wrote f s (length lent) ≡ a → left_by a index lent ≡ lent
      go (Ok n) e = absurd (h n e)
      go (Err (Unread r)) e = refl
      go (Err (Barred n)) e = refl

  -- ---- files 1 to 4

  pub asked_range : indexed f ≡ true ↔ ((1 ≤ f) × (f ≤ 4))
  unfolding indexed
  asked_range = (
    λ e. let k = and_both (ltb 0 f) (ltb f 5) e in (ltb-true 0 f k.0, omega (arith, ltb-true f 5 k.1)),
    λ h. rw (lt-ltb 0 f h.0, lt-ltb f 5 (omega (arith, h.1))),
  )

  pub asked_not : ((1 ≤ f) × (f ≤ 4) → ⊥) → indexed f ≡ false
  asked_not h = untrue (indexed f) (λ e. h (asked_range.0 e))

  -- an empty file
  empties : indexed f ≡ true → s ≡ [] → FirstBroken (lone_claims f s) (record { number = 4; file = f; line = 0; column = 0 })
  unfolding lone_claims rule1 rule2 rule4 may_lack empty file_of count_lf
  empties e none = rw none (record { at = 2; inside = omega arith; spoken = refl; broken = four; silent = early })
    where
      four : rule4 [] f [] 0 ≡ true
      four = rw (ne_eqb f 6 (λ z. omega (arith, (asked_range.0 e).1))) (go (eqb f 3))
        where
          go : (b : Bool) → not (b && false) ≡ true
          go true = refl
          go false = refl

      early : (k : ℕ) → k < 2 → (get_or (lone_claims f []) k no_claim).broken ≡ false
      early zero h = refl
      early (suc zero) h = refl
      early (suc (suc k)) h = absurd (omega arith)

  -- ---- the cases, from their numbers

  pub whole_checked : (b : List ℕ) (n : ℕ) → index_numbers (checked f s b) ≡ says_whole n → checked f s b ≡ Ok n
  whole_checked b n = told_whole (checked f s b) n (apart_checked f s b)

  whole_wrote : (room n : ℕ) → index_numbers (wrote f s room) ≡ says_whole n → wrote f s room ≡ Ok n
  whole_wrote room n = told_whole (wrote f s room) n (apart_wrote f s room)

  pub says_whole_lem : (a : IndexAnswer) (n : ℕ) → a ≡ Ok n → index_numbers a ≡ says_whole n
  unfolding index_numbers
  says_whole_lem a n e = ap index_numbers e

  pub says_unread_lem : (a : IndexAnswer) (r : Refusal) → a ≡ Err (Unread r) → index_numbers a ≡ says_unread r
  unfolding index_numbers
  says_unread_lem a r e = ap index_numbers e

  pub says_barred_lem : (a : IndexAnswer) (n : ℕ) → a ≡ Err (Barred n) → index_numbers a ≡ says_barred n
  unfolding index_numbers
  says_barred_lem a n e = ap index_numbers e

  own_checked : (r : Refusal) → r.number < 40 → (b : List ℕ) → index_numbers (checked f s b) ≡ says_unread r → FirstBroken (lone_claims f s) r
  unfolding checked
  own_checked r low b e = asked_refusal _ _ r (told_unread (checked f s b) r low (apart_checked f s b) e)

  own_wrote : (r : Refusal) → r.number < 40 → (room : ℕ) → index_numbers (wrote f s room) ≡ says_unread r → FirstBroken (lone_claims f s) r
  unfolding wrote
  own_wrote r low room e = asked_refusal _ _ r (told_unread (wrote f s room) r low (apart_wrote f s room) e)

  read_lowest : Reads f s → (b : List ℕ) (n : ℕ) → checked f s b ≡ Err (Barred n) ↔ Lowest (index_tests (version_of (length ids)) f ids b) n
  unfolding checked
  read_lowest r b n = rw (asked_read r _) (barred_lowest (index_tests (version_of (length ids)) f ids b) (length b) n (read_named (version_of (length ids)) f ids b))

  write_lowest : Reads f s → (room n : ℕ) → wrote f s room ≡ Err (Barred n) ↔ Lowest (writer_tests (version_of (length ids)) ids room) n
  unfolding wrote
  write_lowest r room n = rw (asked_read r _) (barred_lowest (writer_tests (version_of (length ids)) ids room) (index_length (version_of (length ids)) (length ids)) n (write_named (version_of (length ids)) ids room))

  accepted : Reads f s → (b : List ℕ) → Bytes b → checked f s b ≡ Ok (length b) → Lists f ids b
  unfolding checked
  accepted r b small e = accepted_lists f ids b small (barred_whole _ _ _ (sym (asked_read r _) ∙ e)).0

  outside_checked : indexed f ≡ false → (b : List ℕ) → checked f s b ≡ Err (Barred 42)
  unfolding checked
  outside_checked e b = asked_outside e _

  outside_wrote : indexed f ≡ false → (room : ℕ) → wrote f s room ≡ Err (Barred 42)
  unfolding wrote
  outside_wrote e room = asked_outside e _

  unread_checked : indexed f ≡ true → (r : Refusal) → FirstBroken (lone_claims f s) r → (b : List ℕ) → checked f s b ≡ Err (Unread r)
  unfolding checked
  unread_checked e r t b = asked_unread e r t _

  unread_wrote : indexed f ≡ true → (r : Refusal) → FirstBroken (lone_claims f s) r → (room : ℕ) → wrote f s room ≡ Err (Unread r)
  unfolding wrote
  unread_wrote e r t room = asked_unread e r t _

  wrote_told : (lent : List ℕ) (n : ℕ) → index_numbers (wrote f s (length lent)) ≡ says_whole n → Wrote lent n
  wrote_told lent n e = wrote_whole lent n (whole_wrote (length lent) n e)

  -- ---- every sentence

  pub beside : Beside f s
  beside = record {
    outside = asked_range;
    at_once = λ e b room. (says_barred_lem _ 42 (outside_checked e b), says_barred_lem _ 42 (outside_wrote e room));
    own = λ e r t b room. (says_unread_lem _ r (unread_checked e r t b), says_unread_lem _ r (unread_wrote e r t room));
    own_only = own_checked;
    own_wrote = own_wrote;
    empty = empties;
    read_lowest = λ r b n. (λ e. (read_lowest r b n).0 (told_barred _ n (apart_checked f s b) e), λ l. says_barred_lem _ n ((read_lowest r b n).1 l));
    accepted = λ r b small. (λ e. accepted r b small (whole_checked b (length b) e), λ l. says_whole_lem _ (length b) (accepts r b l));
    one = λ b c p q. lists_one f ids b p ∙ sym (lists_one f ids c q);
    some_one = λ b l. rising_apart ids l.records l.rising;
    none_repeats = none_repeats;
    write_lowest = λ r room n. (λ e. (write_lowest r room n).0 (told_barred _ n (apart_wrote f s room) e), λ l. says_barred_lem _ n ((write_lowest r room n).1 l));
    need = need;
    unchanged = λ lent h. unchanged lent (λ n e. h n (says_whole_lem _ n e));
    writes = λ lent n e. let w = wrote_told lent n e in rw (writes lent n w) (none_repeats w.apart);
    agrees = λ lent n e. let w = wrote_told lent n e in rw (writes lent n w) (says_whole_lem _ n (accepts w.reads index (none_repeats w.apart) ∙ ap Ok w.size));
    leaves = λ lent n e. let w = wrote_told lent n e in (rw (w.is, length-append, length-drop) (omega (arith, w.size, w.room)), rw w.is (drop_at index (drop n lent) n w.size));
    told = λ lent n e. let w = wrote_told lent n e in sym w.size ∙ index_size;
  }
