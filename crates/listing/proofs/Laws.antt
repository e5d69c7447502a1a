-- Entries that come in one by one end in the list, the written ones and the total that the definitions say.
use mathlib.Core.Path.{◌≡◌, refl, sym, ap, ◌∙◌}
use mathlib.Core.List.{List, [], ◌∷◌, ◌++◌, append_assoc, append-nil}
use mathlib.Core.Bool.{Bool, true, false, cond, not, ◌&&◌, ◌||◌}
use Prim.Native.Nat.{ℕ, suc, ◌+◌, ◌*◌, ◌-◌, ◌/◌, ◌≤◌, ◌<◌}
use native.Mathlib.Nat.{mul_comm, add-mul, one-mul, le-div_iff_mul-le}
use native.Mathlib.Omega.{arith}
use borrow.Author.Tests.{ltb-true, ltb-false}
use lib.Dec.{ltb}
use lib.IntN.{ℤ}
use lib.Signed.{lt_z}
use Rattle.std.proofs.Common.{Option, Some, Ordering, Less, Equal, Greater}
use Rattle.std.specs.Ordering.{is_lt, is_some_and, partial_lt, partial_ordering_then}
use Rattle.meaning.specs.contracts.PlacePartialOrd.TheImpl as place_order
use lib.ListN.{length, take, length-append, length-take}
use lib.Seq.{take_all, take-append-le, take-nil}
use Rattle.meaning.specs.declared.Place.{Place}
use Rattle.meaning.specs.Lists.{keep, flat, laid}
use Rattle.meaning.specs.Refusals.{Test, Claim, on_line}
use Rattle.meaning.specs.Rules.{on_records}
use Rattle.meaning.specs.Pages.{place_in, above, behind, page_of, room_for, rowed, handed_of}
use Rattle.meaning.specs.Findings.{Finding, finding, listed, triple}
use Rattle.meaning.proofs.ListLaws.{keep_append}
use Rattle.meaning.proofs.Handing.{Kind, rowed_append, rowed_length, handed_long}
use Rattle.meaning.proofs.Pages.{findings_kind}
use Rattle.rows.specs.Cells.{put_at}
use Rattle.rows.proofs.Records.{laid_more}
use Rattle.listing.specs.Handing.{State, added, adding, noted, noting, lent_only, handed_in, handed_out}

-- ---- lists

pub listed_append : (cs ds : List Claim) → listed (cs ++ ds) ≡ listed cs ++ listed ds
unfolding listed
listed_append [] ds = refl
listed_append (c ∷ cs) ds = go c.broken (finding c.file c.line c.number) (listed_append cs ds)
  where
    go :
        (b : Bool) (f : Finding)
        → listed (cs ++ ds) ≡ listed cs ++ listed ds
        → cond b (f ∷ listed (cs ++ ds)) (listed (cs ++ ds)) ≡ cond b (f ∷ listed cs) (listed cs) ++ listed ds
    go true f e = ap (λ (l : List Finding). f ∷ l) e
    go false f e = e

-- ---- a place below another, by the derived order

-- what two tests say: is it less, is it greater
abbrev ordered : Bool → Bool → Option Ordering
ordered a b = Some (cond a Less (cond b Greater Equal))

pub less_behind : (p q : Place) → partial_lt (place_order.partial_cmp-value).it p q ≡ behind p q
unfolding behind above
less_behind p q = go (lt_z p.file q.file) (lt_z q.file p.file) (lt_z p.line q.line) (lt_z q.line p.line) (lt_z p.rule q.rule) (lt_z q.rule p.rule)
  where
    go :
        (a b c d e f : Bool)
        → is_some_and is_lt (partial_ordering_then (ordered a b) (partial_ordering_then (ordered c d) (ordered e f))) ≡ (a || (not b && (c || (not d && e))))
    go true b c d e f = refl
    go false true c d e f = refl
    go false false true d e f = refl
    go false false false true e f = refl
    go false false false false true f = refl
    go false false false false false true = refl
    go false false false false false false = refl

-- ---- one entry more, by its row

module _ (p : Place) (e : List ℤ) (s : State) where
  pub added_in :
      behind p (place_in e) ≡ true
      → ltb s.written (room_for (length e) s.out) ≡ true
      → added p e s ≡ record { out = put_at s.out (s.written * length e) e; written = s.written + 1; total = s.total + 1 }
  unfolding added
  added_in b h = rw (b, h)

  pub added_full :
      behind p (place_in e) ≡ true
      → ltb s.written (room_for (length e) s.out) ≡ false
      → added p e s ≡ record { out = s.out; written = s.written; total = s.total + 1 }
  unfolding added
  added_full b h = rw (b, h)

  pub added_before :
      behind p (place_in e) ≡ false → added p e s ≡ record { out = s.out; written = s.written; total = s.total + 1 }
  unfolding added
  added_before b = rw b

-- a row has room where fewer are written than fit
pub within_room : (n w m : ℕ) → 0 < w → n < m / w → n * w + w ≤ m
within_room n w m h less =
    let e : n * w + w ≡ (n + 1) * w = sym (add-mul n 1 w ∙ ap (λ (j : ℕ). n * w + j) (one-mul w)) in
    rw e ((le-div_iff_mul-le {k = w} {x = n + 1} {y = m} h).0 (omega arith))

module _ {A : Type 0} (row : A → List ℤ) (p : Place) (m : ℕ) (ds : List A) (d : A) where
  abbrev late : A → Bool
  late x = behind p (place_in (row x))

  kept_more : late d ≡ true → keep late (ds ++ (d ∷ [])) ≡ keep late ds ++ (d ∷ [])
  unfolding keep
  kept_more e = keep_append late ds (d ∷ []) ∙ rw e

  page_before : late d ≡ false → page_of row p m (ds ++ (d ∷ [])) ≡ page_of row p m ds
  unfolding page_of keep
  page_before e = rw (keep_append, e, append-nil)

  page_full : late d ≡ true → m ≤ length (page_of row p m ds) → page_of row p m (ds ++ (d ∷ [])) ≡ page_of row p m ds
  unfolding page_of
  page_full e h =
      let k : m ≤ length (keep late ds) = omega (arith, length-take m (keep late ds)) in
      rw (kept_more e) (take-append-le m (keep late ds) (d ∷ []) k)

  page_in :
      late d ≡ true
      → length (page_of row p m ds) < m
      → page_of row p m (ds ++ (d ∷ [])) ≡ page_of row p m ds ++ (d ∷ [])
  unfolding page_of
  page_in e h =
      let k : length (keep late ds) < m = omega (arith, length-take m (keep late ds)) in
      let a : take m (keep late ds) ≡ keep late ds = take_all m (keep late ds) (omega arith) in
      rw (kept_more e, a) (take_all m (keep late ds ++ (d ∷ [])) (rw length-append (omega arith)))

-- ---- from entries to a list

pub same_state :
    {o q : List ℤ} {w v n l : ℕ}
    → o ≡ q
    → w ≡ v
    → n ≡ l
    → ◌≡◌ {A = State} (record { out = o; written = w; total = n }) (record { out = q; written = v; total = l })
same_state a b c = rw (a, b, c)

module _ {A : Type 0} {row : A → List ℤ} {width : ℕ} {less : A → A → Bool} (k : Kind row width less) (p : Place) (lent : List ℤ) (ds : List A) (d : A) where
  abbrev room : ℕ
  room = room_for width lent

  room_same : room_for (length (row d)) (handed_of row width p ds lent) ≡ room
  unfolding room_for
  room_same = rw (k.wide d, handed_long k ds p lent)

  total_more : length ds + 1 ≡ length (ds ++ (d ∷ []))
  total_more = rw length-append

  -- the page unchanged
  page_same :
      page_of row p room (ds ++ (d ∷ [])) ≡ page_of row p room ds
      → ◌≡◌ {A = State} (record { out = handed_of row width p ds lent; written = length (page_of row p room ds); total = length ds + 1 }) (handed_in row width p (ds ++ (d ∷ [])) lent)
  unfolding handed_of
  page_same e = rw (e, total_more)

  one_row : rowed row (d ∷ []) ≡ row d
  unfolding rowed flat
  one_row = append-nil (row d)

  -- one row more
  page_grown :
      page_of row p room (ds ++ (d ∷ [])) ≡ page_of row p room ds ++ (d ∷ [])
      → ◌≡◌ {A = State} (record { out = put_at (handed_of row width p ds lent) (length (page_of row p room ds) * length (row d)) (row d); written = length (page_of row p room ds) + 1; total = length ds + 1 }) (handed_in row width p (ds ++ (d ∷ [])) lent)
  unfolding handed_of
  page_grown e =
      let g : List A = page_of row p room ds in
      let n : length (rowed row g) ≡ length g * length (row d) = rowed_length row width k.wide g ∙ rw (k.wide d) (mul_comm width (length g)) in
      same_state
      (laid_more (rowed row g) (row d) lent (length g * length (row d)) n ∙ rw (e, rowed_append row g (d ∷ []), one_row))
      (rw (e, length-append))
      total_more

  pub added_more : added p (row d) (handed_in row width p ds lent) ≡ handed_in row width p (ds ++ (d ∷ [])) lent
  added_more = go (behind p (place_in (row d))) (ltb (length (page_of row p room ds)) room) refl refl
    where
      go :
          (a b : Bool)
          → behind p (place_in (row d)) ≡ a
          → ltb (length (page_of row p room ds)) room ≡ b
          → added p (row d) (handed_in row width p ds lent) ≡ handed_in row width p (ds ++ (d ∷ [])) lent
      go false b e h = added_before p (row d) (handed_in row width p ds lent) e ∙ page_same (page_before row p room ds d e)
      go true false e h =
          added_full p (row d) (handed_in row width p ds lent) e (rw room_same h) ∙ page_same (page_full row p room ds d e (ltb-false _ _ h))
      go true true e h =
          added_in p (row d) (handed_in row width p ds lent) e (rw room_same h) ∙ page_grown (page_in row p room ds d e (ltb-true _ _ h))

-- entries in two parts
pub adding_append : {A : Type 0} (row : A → List ℤ) (p : Place) (ds es : List A) (s : State) → adding row p (ds ++ es) s ≡ adding row p es (adding row p ds s)
unfolding adding
adding_append row p [] es s = refl
adding_append row p (d ∷ ds) es s = adding_append row p ds es (added p (row d) s)

pub handed_none : {A : Type 0} (row : A → List ℤ) (width : ℕ) (p : Place) (lent : List ℤ) → lent_only lent ≡ handed_in row width p [] lent
unfolding handed_of page_of keep rowed flat laid
handed_none row width p lent = rw take-nil

-- all entries added, from the list as lent: exactly what is to be handed out
module _ {A : Type 0} {row : A → List ℤ} {width : ℕ} {less : A → A → Bool} (k : Kind row width less) (p : Place) (lent : List ℤ) where
  adding_more : (ds es : List A) → adding row p es (handed_in row width p ds lent) ≡ handed_in row width p (ds ++ es) lent
  unfolding adding
  adding_more ds [] = rw append-nil
  adding_more ds (e ∷ es) =
      ap (adding row p es) (added_more k p lent ds e)
      ∙ adding_more (ds ++ (e ∷ [])) es
      ∙ ap (λ (l : List A). handed_in row width p l lent) (append_assoc ds (e ∷ []) es)

  pub adding_all : (ds : List A) → adding row p ds (lent_only lent) ≡ handed_in row width p ds lent
  adding_all ds = ap (adding row p ds) (handed_none row width p lent) ∙ adding_more [] ds

-- ---- findings

pub noted_more :
    (p : Place) (lent : List ℤ) (ds : List Finding) (c : Claim)
    → noted p c (handed_out p ds lent) ≡ handed_out p (ds ++ listed (c ∷ [])) lent
unfolding noted listed
noted_more p lent ds c = go c.broken (finding c.file c.line c.number)
  where
    go :
        (b : Bool) (d : Finding)
        → cond b (added p (triple d) (handed_out p ds lent)) (handed_out p ds lent) ≡ handed_out p (ds ++ cond b (d ∷ []) []) lent
    go true d = added_more findings_kind p lent ds d
    go false d = rw append-nil

pub noting_more :
    (p : Place) (lent : List ℤ) (ds : List Finding) (cs : List Claim)
    → noting p cs (handed_out p ds lent) ≡ handed_out p (ds ++ listed cs) lent
unfolding noting listed
noting_more p lent ds [] = rw append-nil
noting_more p lent ds (c ∷ cs) =
    ap (noting p cs) (noted_more p lent ds c)
    ∙ noting_more p lent (ds ++ listed (c ∷ [])) cs
    ∙ ap (λ (l : List Finding). handed_out p l lent) (append_assoc ds (listed (c ∷ [])) (listed cs) ∙ ap (λ (l : List Finding). ds ++ l) (sym (listed_append (c ∷ []) cs)))

-- all claims noted, from the list as lent: exactly what is to be handed out
pub noting_all :
    (p : Place) (cs : List Claim) (lent : List ℤ)
    → noting p cs (lent_only lent) ≡ handed_out p (listed cs) lent
noting_all p cs lent = ap (noting p cs) (handed_none triple 3 p lent) ∙ noting_more p lent [] cs

-- claims in two parts
pub noting_append :
    (p : Place) (cs ds : List Claim) (s : State)
    → noting p (cs ++ ds) s ≡ noting p ds (noting p cs s)
unfolding noting
noting_append p [] ds s = refl
noting_append p (c ∷ cs) ds s = noting_append p cs ds (noted p c s)

-- the rules of a file's lines from index i on: those of the line, then those of the lines after it
module _ (p : Place) (f : ℕ) (rules : ℕ → List Test) (n : ℕ) (s : State) where
  pub noting_line :
      (i : ℕ)
      → i < n
      → noting p (on_records f rules i (n - i)) s ≡ noting p (on_records f rules (i + 1) (n - (i + 1))) (noting p (on_line f (i + 2) (rules i)) s)
  unfolding on_records
  noting_line i h =
      let e : n - i ≡ suc (n - (i + 1)) = omega arith in
      rw (e, noting_append)

  pub noting_end : (i : ℕ) → n ≤ i → noting p (on_records f rules i (n - i)) s ≡ s
  unfolding on_records noting
  noting_end i h =
      let e : n - i ≡ 0 = omega arith in
      rw e
