-- Demand 3: calls over unchanged files give the whole list, without a gap or a repeat, each tells the same total, and they end.
use Prim.Native.Nat.{ℕ, ◌*◌, ◌-◌, ◌≤◌}
use native.Mathlib.Omega.{arith}
use mathlib.Core.Path.{◌≡◌, refl, sym, ap, ◌∙◌}
use mathlib.Core.List.Memᴰ
use mathlib.Core.List.{List, [], ◌∷◌, map}
use mathlib.Core.Logic.{inr, ⊎_elim}
use mathlib.Core.Bool.{false}
use lib.IntN.{ℤ}
use lib.ListN.{length, get_or, length-map}
use borrow.Author.Tests.{le-ltb}
use Rattle.meaning.specs.declared.Place.{Place}
use Rattle.meaning.specs.declared.Profile.{Profile}
use Rattle.std.specs.Prelude.{Ok}
use Rattle.meaning.specs.Bytes.{count_lf}
use Rattle.meaning.specs.Tables.{file_of, feed_of, width_of}
use Rattle.meaning.specs.Refusals.{Test, Claim, rule1, rule2, rule3, rule4, claims, verdict_of}
use Rattle.meaning.specs.Pages.{last_place}
use Rattle.meaning.specs.Findings.{Finding, findings_of, page, room_of, answer_of, answer_numbers}
use Rattle.meaning.specs.Outcome.{Outcome, outcome, read_outcome}
use Rattle.meaning.specs.Promises.{Each, beginning, written_in, file_tests, test_of, FileClaim, NoneBroken, WholeKept}
use Rattle.meaning.specs.Calls.{Lending, again, anew, lent_tables, lent_list, written_of, total_of, written, calls, LongEnough, Enough, CallsJoin}
use Rattle.meaning.proofs.Laws.{get_d_map_in}
use Rattle.meaning.proofs.FirstBroken.{readable_exactly}
use Rattle.meaning.proofs.Claims.{claims_exactly}
use Rattle.meaning.proofs.Readable.{whole_kept}
use Rattle.meaning.proofs.Handing.{Call, Chain, handed_rows, room_one, calls_join}
use Rattle.meaning.proofs.Pages.{findings_kind, written_told, total_told}
use Rattle.meaning.proofs.TheList.{list_ordered, findings_from_beginning}
use Rattle.meaning.proofs.Held.{tables_long, list_long}

-- ---- other tables that are long enough

module _ (files : List (List ℕ)) (tables others : List (List ℤ)) (count : length tables ≡ length files) (read : verdict_of files (map length tables) ≡ Ok tt) (enough : LongEnough files others) where
  whole : (f : ℕ) → 1 ≤ f → f ≤ length files → WholeKept files f (file_of files f) (get_or (map length tables) (f - 1) 0)
  whole f low high = whole_kept files (map length tables) read f low high (omega (arith, length-map tables length))

  -- what rules 1 to 4 say of a file with another table
  whole_again : (q : Claim) → FileClaim files (map length others) q → q.broken ≡ false
  unfolding file_tests rule1 rule2 rule3 rule4
  whole_again q c =
      let k = whole q.file c.from c.to in
      let roomy : width_of q.file * count_lf (file_of files q.file) ≤ get_or (map length others) (q.file - 1) 0
      = rw (get_d_map_in length others (q.file - 1) [] 0 (omega (arith, c.from, c.room, length-map others length))) (enough.1 q.file c.from c.to) in
      ⊎_elim (λ (e : test_of q ≡ _). ap (λ (t : Test). t.broken) e ∙ le-ltb _ _ k.short)
      (λ m. ⊎_elim (λ (e : test_of q ≡ _). ap (λ (t : Test). t.broken) e ∙ le-ltb _ _ k.few)
      (λ m. ⊎_elim (λ (e : test_of q ≡ _). ap (λ (t : Test). t.broken) e ∙ le-ltb _ _ roomy)
      (λ m. ⊎_elim (λ (e : test_of q ≡ _). ap (λ (t : Test). t.broken) e ∙ k.ended)
      (λ m. absurd (Memᴰ.not-nil m))
      (Memᴰ.cases_cons m)) (Memᴰ.cases_cons m)) (Memᴰ.cases_cons m)) (Memᴰ.cases_cons c.rule)

  -- A feed that reads with some tables reads with any that are long enough.
  pub reads_again : verdict_of files (map length others) ≡ Ok tt
  reads_again = (readable_exactly files (map length others)).1 none
    where
      none : NoneBroken (claims files (map length others))
      none q m = ⊎_elim (whole_again q) (λ l. (readable_exactly files (map length tables)).0 read q ((claims_exactly files (map length tables) q).1 (inr l))) ((claims_exactly files (map length others) q).0 m)

-- ---- one call

-- a call that hands out findings, and calls one after the other
abbrev FindingsCall : Profile → List (List ℕ) → Place → Outcome → Type 0
FindingsCall asked files = Call findings_kind (findings_of asked (feed_of files)) (list_ordered asked (feed_of files)) written written_of total_of

abbrev FindingsChain : Profile → List (List ℕ) → Place → List Outcome → Type 0
FindingsChain asked files = Chain findings_kind (findings_of asked (feed_of files)) (list_ordered asked (feed_of files)) written written_of total_of

module _ (files : List (List ℕ)) (tables : List (List ℤ)) (list : List ℤ) (p : Place) (asked : Profile) (read : verdict_of files (map length tables) ≡ Ok tt) where
  abbrev found : List Finding
  found = findings_of asked (feed_of files)

  call_now : 3 ≤ length list → FindingsCall asked files p (outcome files tables list p asked)
  unfolding written outcome read_outcome
  call_now room =
      let n : written_in (answer_numbers (answer_of p found list)) ≡ length (page p (room_of list) found) = written_told p found list in
      rw read (record {
        room = room_of list;
        one = room_one findings_kind found p list room;
        numbers = rw n (handed_rows findings_kind found p list);
        many = n;
        all = total_told p found list;
      })

-- ---- calls one after the other

module _ (asked : Profile) (files : List (List ℕ)) (six : length files ≡ 6) where
  -- what the calls from here on need: six tables with which the feed reads, and room for a finding
  record Ready (tables : List (List ℤ)) (list : List ℤ) : Type 0 where
    count : length tables ≡ length files
    reads : verdict_of files (map length tables) ≡ Ok tt
    room : 3 ≤ length list

  -- what is lent to a call is enough
  lent_ready : (tables : List (List ℤ)) (list : List ℤ) (x : Lending) → Enough files x → Ready tables list → Ready (lent_tables x tables) (lent_list x list)
  lent_ready tables list again e h = h
  lent_ready tables list (anew others other) e h = record {
    count = e.0.0;
    reads = reads_again files tables others h.count h.reads e.0;
    room = e.1;
  }

  -- after a call the next is ready: tables and list are as long as they were
  next_ready : (tables : List (List ℤ)) (list : List ℤ) (p : Place) → Ready tables list → (o : Outcome) → outcome files tables list p asked ≡ o → Ready o.tables o.list
  next_ready tables list p h o e =
      let long : map length o.tables ≡ map length tables = rw (← e) (tables_long files tables list p asked six) in
      let same : length o.list ≡ length list = rw (← e) (list_long files tables list p asked) in
      let n : length o.tables ≡ length tables = sym (length-map o.tables length) ∙ ap length long ∙ length-map tables length in
      record {
        count = n ∙ h.count;
        reads = rw long h.reads;
        room = rw same h.room;
      }

  -- each call leaves off where the next begins
  chain : (xs : List Lending) (tables : List (List ℤ)) (list : List ℤ) (p : Place) → Each (Enough files) xs → Ready tables list → FindingsChain asked files p (calls asked files tables list p xs)
  unfolding calls
  chain [] tables list p enough h = tt
  chain (x ∷ xs) tables list p enough h =
      let now = lent_ready tables list x (enough x (Memᴰ.head refl)) h in
      let o : Outcome = outcome files (lent_tables x tables) (lent_list x list) p asked in (
        call_now files (lent_tables x tables) (lent_list x list) p asked now.reads now.room,
        chain xs o.tables o.list (last_place 3 p (written o)) (λ z m. enough z (Memᴰ.tail m)) (next_ready (lent_tables x tables) (lent_list x list) p now o refl),
      )

  -- Calls from the list's beginning until one hands out none together give the whole list; each tells the same total; they end.
  pub findings_join : (tables : List (List ℤ)) (list : List ℤ) → length tables ≡ 6 → verdict_of files (map length tables) ≡ Ok tt → 3 ≤ length list
      → (xs : List Lending) → Each (Enough files) xs → CallsJoin asked files tables list xs
  findings_join tables list count reads room xs enough =
      calls_join findings_kind (findings_of asked (feed_of files)) (list_ordered asked (feed_of files)) written written_of total_of
      beginning
      (findings_from_beginning asked (feed_of files))
      (calls asked files tables list beginning xs)
      (chain xs tables list beginning enough (record { count = count ∙ sym six; reads = reads; room = room }))
