-- Larger feeds: each sentence of document 02's E9 holds of an index.
use Rattle.std.specs.Prelude.{Ok, Err}
use Prim.Native.Nat.{ℕ, zero, suc, ◌+◌, ◌*◌, ◌≤◌, ◌<◌}
use native.Mathlib.Omega.{arith}
use mathlib.Core.Path.{◌≡◌, refl, ap, ◌∙◌}
use mathlib.Core.Logic.{◌↔◌, ◌⊎◌, inl, inr}
use mathlib.Core.Bool.{Bool, true, false, cond, not}
use mathlib.Core.List.Memᴰ
use mathlib.Core.List.{List}
use lib.ListN.{length, get_or, take}
use lib.Dec.{ltb, eqb}
use borrow.Author.Tests.{ltb-true, ltb-false, lt-ltb, le-ltb, ne_eqb}
use Rattle.std.specs.Prelude.{Result, Ok, Err}
use Rattle.meaning.specs.declared.Refusal.{Refusal}
use Rattle.meaning.specs.Bytes.{count_lf, lines_of}
use Rattle.meaning.specs.Refusals.{claim, max_bytes, max_lines, rule1, rule2, in_file, speaks, verdict_numbers}
use Rattle.meaning.specs.Promises.{no_claim, says_readable}
use Rattle.meaning.proofs.Laws.{get_d_mem}
use Rattle.meaning.proofs.Claims.{in_file_lem}
use Rattle.meaning.proofs.FirstBroken.{silent_none, said_readable}
use Rattle.meaning.proofs.Tests.{or_right}
use Rattle.indexes.specs.declared.version.Version.{Version}
use Rattle.indexes.specs.declared.IndexRefusal.TheVariants.{Barred}
use Rattle.indexes.specs.Order.{ids_of, repeats, ranked, Rising}
use Rattle.indexes.specs.Index.{low_first, number_at, mark, version1, version2, version_of, index_of, index_length, rule40, other_version, rule41, misfits, rule42, index_tests, spoken, writer_tests, indexed, lone_claims, lone_verdict, if_read, asked_of, barred_or, checked, wrote, written, index_numbers}
use Rattle.indexes.specs.Promises.{Bytes, Reads, says_whole, says_unread, says_barred}
use Rattle.indexes.specs.Larger.{older_claims, older_verdict, older_tests, older, whole_file, Larger}
use Rattle.indexes.proofs.Versions.{of_two, up_to, above}
use Rattle.indexes.proofs.Order.{rising_length}
use Rattle.indexes.proofs.Accepted.{quiet, sound, index_length_lem}
use Rattle.indexes.proofs.Told.{Of, apart_asked, spoken_from, apart_barred, told_whole}
use Rattle.indexes.proofs.Beside.{barred_whole, asked_read, asked_whole, fewer, accepts, whole_checked, says_whole_lem, says_barred_lem, beside}

module _ (f : ℕ) (s : List ℕ) where
  abbrev ids : List (List ℕ)
  ids = ids_of f s

  -- ---- the writer

  writes : (v : Version) → version_of (length ids) ≡ v → (lent : List ℕ) (n : ℕ) → index_numbers (wrote f s (length lent)) ≡ says_whole n → take n (written f s lent) ≡ index_of v f (ranked ids)
  writes v e lent n h =
      let b = beside f s in
      let l = b.writes lent n h in
      rw (← e) (b.one _ _ l (b.none_repeats (b.some_one _ l)))

  chosen : (v : Version) → version_of (length ids) ≡ v → Reads f s → repeats ids ≡ false → (room : ℕ) → index_numbers (wrote f s room) ≡ says_barred 46 ↔ room < index_length v (length ids)
  unfolding wrote writer_tests spoken barred_or index_numbers
  chosen v e r apart room = rw (asked_read f s r _, e, apart) (λ h. go (ltb room (index_length v (length ids))) refl h, λ h. rw (lt-ltb room (index_length v (length ids)) h))
    where
      go : (t : Bool) → ltb room (index_length v (length ids)) ≡ t → index_numbers (barred_or (cond t 46 0) (index_length v (length ids))) ≡ says_barred 46 → room < index_length v (length ids)
      go true q h = ltb-true room _ q
      go false q h = let z : ◌≡◌ {A = ℕ} 0 46 = ap (λ (ns : List ℕ). get_or ns 0 0) h in absurd (omega arith)

  -- ---- the reader

  takes : (v : Version) → version_of (length ids) ≡ v → Reads f s → (rs : List ℕ) → Rising ids rs → index_numbers (checked f s (index_of v f rs)) ≡ says_whole (index_length v (length ids))
  takes v e r rs rising =
      let b : List ℕ = index_of (version_of (length ids)) f rs in
      let n : length b ≡ index_length (version_of (length ids)) (length ids) = index_length_lem (version_of (length ids)) f rs ∙ ap (index_length (version_of (length ids))) (rising_length ids rs rising) in
      rw e at (says_whole_lem f s _ (length b) (accepts f s r b (record { records = rs; rising = rising; bytes = refl })) ∙ ap says_whole n)

  -- 42 where 40 and 41 are silent
  says_42 : Reads f s → (b : List ℕ) → rule40 b ≡ false → rule41 b ≡ false → rule42 (version_of (length ids)) f (length ids) b ≡ true → index_numbers (checked f s b) ≡ says_barred 42
  unfolding checked barred_or spoken index_tests
  says_42 r b p q h = says_barred_lem f s (checked f s b) 42 (asked_read f s r _ ∙ rw (p, q, h))

  module _ (b : List ℕ) where
    -- version 2 beside many records, with a count of few, or too short for one
    unlike : 65535 < length ids → (number_at 4 b 6 ≤ 65535) ⊎ (length b < 10) → misfits version2 f (length ids) b ≡ true
    unfolding misfits index_length
    unlike many (inl few) = or_right (not (eqb (get_or b 5 0) f)) _ (rw (ne_eqb (number_at 4 b 6) (length ids) (λ e. omega arith)))
    unlike many (inr short) =
        or_right (not (eqb (get_or b 5 0) f)) _ (or_right (not (eqb (number_at 4 b 6) (length ids))) _ (rw (ne_eqb (length b) (10 + length ids * 4) (λ e. omega arith))))

    narrow : number_at 2 b 3 ≡ 2 → (number_at 4 b 6 ≤ 65535) ⊎ (length b < 10) → rule42 (version_of (length ids)) f (length ids) b ≡ true
    unfolding rule42 other_version
    narrow two h = of_two (λ v. rule42 v f (length ids) b ≡ true) (length ids) (λ few. rw two) (λ many. or_right (other_version version2 b) _ (unlike many h))

    too_many : 65535 < length ids → number_at 2 b 3 ≡ 1 → rule42 (version_of (length ids)) f (length ids) b ≡ true
    unfolding rule42 other_version
    too_many many one = rw (above (length ids) many, one)

    both_known : (k : ℕ) → (k ≡ 1) ⊎ (k ≡ 2) → number_at 2 b 3 ≡ k → rule41 b ≡ false
    unfolding rule41 other_version
    both_known k (inl h) e = rw (e, h)
    both_known k (inr h) e = rw (e, h)

  one : (b c : List ℕ) → Bytes b → Bytes c → index_numbers (checked f s b) ≡ says_whole (length b) → index_numbers (checked f s c) ≡ says_whole (length c) → b ≡ c
  unfolding checked
  one b c p q x y =
      let r : Reads f s = (asked_whole f s _ (length b) (whole_checked f s b (length b) x)).0 in
      (beside f s).one b c (((beside f s).accepted r b p).0 x) (((beside f s).accepted r c q).0 y)

  -- ---- an older reader

  of_older : Of f (older_claims f s)
  unfolding older_claims
  of_older zero h = refl
  of_older (suc zero) h = refl
  of_older (suc (suc zero)) h = refl
  of_older (suc (suc (suc k))) h = ((in_file_lem f (lines_of s) _).0 (get_d_mem (in_file f (lines_of s)) k no_claim (omega arith))).file

  -- what it reads lies within the old limits, and can be read
  within : older_verdict f s ≡ Ok tt → (length s ≤ 16777216) × (count_lf s ≤ 65536)
  unfolding older_verdict older_claims
  within e =
      let none = (silent_none (older_claims f s)).0 e in
      (ltb-false _ _ (none (claim 1 f 0 (ltb 16777216 (length s))) (Memᴰ.head refl)), ltb-false _ _ (none (claim 2 f 0 (ltb 65536 (count_lf s))) (Memᴰ.tail (Memᴰ.head refl))))

  reads_still : indexed f ≡ true → older_verdict f s ≡ Ok tt → Reads f s
  unfolding older_verdict older_claims lone_verdict lone_claims rule1 rule2 speaks
  reads_still asked e =
      let w = within e in
      let old = rw (le-ltb 16777216 (length s) w.0, le-ltb 65536 (count_lf s) w.1) at e in
      record { asked = asked; verdict = (said_readable (lone_verdict f s)).1 (rw (le-ltb max_bytes (length s) (omega (arith, w.0)), le-ltb max_lines (count_lf s) (omega (arith, w.1))) old) }

  -- where E4's tests are silent, so are those of version 1 now
  silent_still : (b : List ℕ) → spoken (older_tests f ids b) ≡ 0 → spoken (index_tests version1 f ids b) ≡ 0
  unfolding spoken older_tests index_tests rule41 rule42
  silent_still b e =
      let p = quiet 40 (rule40 b) _ (λ z. omega arith) e in
      let q = quiet 41 (other_version version1 b) _ (λ z. omega arith) p.1 in
      let r = quiet 42 (misfits version1 f (length ids) b) _ (λ z. omega arith) q.1 in
      rw (p.0, q.0, r.0) r.1

  -- its answer by its numbers
  older_whole : (b : List ℕ) → index_numbers (older f s b) ≡ says_whole (length b) → older f s b ≡ Ok (length b)
  unfolding older older_verdict older_tests
  older_whole b = told_whole (older f s b) (length b) (apart_asked f (older_claims f s) of_older _ (apart_barred (spoken (older_tests f ids b)) (length b) (spoken_from (older_tests f ids b) tt) (long b)))
    where
      long : (b : List ℕ) → spoken (older_tests f ids b) ≡ 0 → 1 ≤ length b
      long b e = omega (arith, ((sound version1 f ids b (inl refl)).0 (silent_still b e)).long)

  silent_good : (b : List ℕ) → spoken (index_tests version1 f ids b) ≡ 0 → Reads f s → version_of (length ids) ≡ version1 → index_numbers (checked f s b) ≡ says_whole (length b)
  unfolding checked barred_or
  silent_good b none r v = says_whole_lem f s _ (length b) (asked_read f s r _ ∙ rw (v, none))

  stored : (b : List ℕ) → index_numbers (older f s b) ≡ says_whole (length b) → index_numbers (checked f s b) ≡ says_whole (length b)
  unfolding older asked_of
  stored b h = go (indexed f) refl (older_verdict f s) refl (older_whole b h)
    where
      go : (t : Bool) → indexed f ≡ t → (v : Result Unit Refusal) → older_verdict f s ≡ v → cond t (if_read v (barred_or (spoken (older_tests f ids b)) (length b))) (Err (Barred 42)) ≡ Ok (length b) → index_numbers (checked f s b) ≡ says_whole (length b)
      go false p v q e = let z : ◌≡◌ {A = ℕ} 0 1 = cc in absurd (omega arith)
      go true p (Err r) q e = let z : ◌≡◌ {A = ℕ} 0 1 = cc in absurd (omega arith)
      go true p (Ok tt) q e = silent_good b (silent_still b (barred_whole _ _ _ e).0) (reads_still p q) (up_to (length ids) (omega (arith, fewer f s 65536 (omega arith) (within q).1)))

  past : indexed f ≡ true → (16777216 < length s) ⊎ (65536 < count_lf s) → (b : List ℕ) → (index_numbers (older f s b) ≡ says_unread (whole_file 1 f)) ⊎ (index_numbers (older f s b) ≡ says_unread (whole_file 2 f))
  unfolding older asked_of older_verdict older_claims speaks index_numbers
  past asked h b = go (ltb 16777216 (length s)) refl h
    where
      go : (t : Bool) → ltb 16777216 (length s) ≡ t → (16777216 < length s) ⊎ (65536 < count_lf s) → (index_numbers (older f s b) ≡ says_unread (whole_file 1 f)) ⊎ (index_numbers (older f s b) ≡ says_unread (whole_file 2 f))
      go true e h = inl (rw (asked, e))
      go false e (inl long) = absurd (omega (arith, ltb-false 16777216 (length s) e))
      go false e (inr many) = inr (rw (asked, e, lt-ltb 65536 (count_lf s) many))

  other : indexed f ≡ true → verdict_numbers (older_verdict f s) ≡ says_readable → (b : List ℕ) → rule40 b ≡ false → number_at 2 b 3 ≡ 2 → index_numbers (older f s b) ≡ says_barred 41
  unfolding older asked_of barred_or spoken older_tests other_version index_numbers
  other asked reads b forty two = rw (asked, (said_readable (older_verdict f s)).0 reads, forty, two)

  -- ---- every sentence

  pub larger : Larger f s
  unfolding index_of mark low_first index_length
  larger = record {
    wide = λ rs. refl;
    ten = refl;
    first = λ few. writes version1 (up_to (length ids) few);
    second = λ many. writes version2 (above (length ids) many);
    first_length = λ r apart few room. let e : index_length version1 (length ids) ≡ 8 + 2 * length ids = omega arith in rw e at (chosen version1 (up_to (length ids) few) r apart room);
    second_length = λ r apart many room. let e : index_length version2 (length ids) ≡ 10 + 4 * length ids = omega arith in rw e at (chosen version2 (above (length ids) many) r apart room);
    takes_first = λ r few rs h. let e : index_length version1 (length ids) ≡ 8 + 2 * length ids = omega arith in rw e at (takes version1 (up_to (length ids) few) r rs h);
    takes_second = λ r many rs h. let e : index_length version2 (length ids) ≡ 10 + 4 * length ids = omega arith in rw e at (takes version2 (above (length ids) many) r rs h);
    narrow = λ r b forty two h. says_42 r b forty (both_known b 2 (inr refl) two) (narrow b two h);
    too_many = λ r many b forty is. says_42 r b forty (both_known b 1 (inl refl) is) (too_many b many is);
    one = one;
    stored = stored;
    past = past;
    other = other;
  }
