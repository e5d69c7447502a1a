-- Entries of any kind handed out: what one call gives, where it leaves off, and that calls give the whole list, without a gap or a repeat.
use Prim.Native.Nat.{ℕ, ◌+◌, ◌*◌, ◌-◌, ◌/◌, ◌≤◌, ◌<◌}
use native.Mathlib.Omega.{arith}
use native.Mathlib.Nat.{mul-suc, mul_comm, mul-zero, le-div_iff_mul-le, lt-div-mul-add}
use mathlib.Core.Path.{◌≡◌, refl, sym, ap, ap₂, ◌∙◌, fun_ext}
use mathlib.Core.List.Memᴰ
use mathlib.Core.List.{List, [], ◌∷◌, ◌++◌, append_assoc, append-nil, map}
use mathlib.Core.Logic.{◌⊎◌, inl, inr}
use mathlib.Core.Bool.{Bool, true, false}
use lib.IntN.{ℤ}
use lib.ListN.{length, take, drop, length-append, length-take, length-drop, take-append-drop, drop_of_length-le}
use lib.Seq.{take_at, take-nil, drop-append-add}
use lib.Dec.{eqb, ltb}
use borrow.Author.Tests.{eq-eqb, eqb-true, lt-ltb, le-ltb, ltb-true, ltb-false}
use Rattle.meaning.specs.declared.Place.{Place}
use Rattle.meaning.specs.Lists.{keep, last_has, flat, laid}
use Rattle.meaning.specs.Pages.{place_in, behind, page_of, room_for, rowed, handed_of, last_place}
use Rattle.meaning.specs.Promises.{Ordered, Each, PageGiven}
use Rattle.meaning.specs.Calls.{Join}
use Rattle.meaning.proofs.ListLaws.{both, nothing, kept_fewer, keep_all, keep_behind}
use Rattle.meaning.proofs.Laws.{each_cons}
use Rattle.meaning.proofs.Records.{laid_length}

-- a kind of entries: rows of one width, which has room for a place, and an order that is the one of their places
pub record Kind {A : Type 0} (row : A → List ℤ) (width : ℕ) (less : A → A → Bool) : Type 0 where
  pub wide : (d : A) → length (row d) ≡ width
  pub holds : 3 ≤ width
  pub order : (d e : A) → behind (place_in (row d)) (place_in (row e)) ≡ less d e
  pub once : (d e : A) → less d e ≡ true → less e d ≡ false

-- what is handed out is no more than there is
pub page_within : {A : Type 0} (row : A → List ℤ) (p : Place) (room : ℕ) (ds : List A) → length (page_of row p room ds) ≤ length ds
unfolding page_of
page_within {A} row p room ds =
    let late : A → Bool = λ d. behind p (place_in (row d)) in
    omega (arith, length-take room (keep late ds), kept_fewer late ds)

-- ---- rows

pub rowed_append : {A : Type 0} (row : A → List ℤ) (ds es : List A) → rowed row (ds ++ es) ≡ rowed row ds ++ rowed row es
unfolding rowed flat
rowed_append row [] es = refl
rowed_append row (d ∷ ds) es = ap (λ (l : List ℤ). row d ++ l) (rowed_append row ds es) ∙ sym (append_assoc (row d) (rowed row ds) (rowed row es))

pub rowed_length : {A : Type 0} (row : A → List ℤ) (width : ℕ) → ((d : A) → length (row d) ≡ width) → (ds : List A) → length (rowed row ds) ≡ width * length ds
unfolding rowed flat
rowed_length row width wide [] = sym (mul-zero width)
rowed_length row width wide (d ∷ ds) =
    simp (length-append, wide d, mul-suc) (omega (arith, rowed_length row width wide ds))

module _ {A : Type 0} {row : A → List ℤ} {width : ℕ} {less : A → A → Bool} (k : Kind row width less) where
  last_none : (p : Place) → last_place width p (rowed row []) ≡ p
  unfolding last_place rowed flat
  last_none p = rw (lt-ltb 0 width (omega (arith, k.holds)))

  -- the last row of some is that of those behind the first, or the first
  last_more : (p : Place) (d : A) (g : List A) → last_place width p (rowed row (d ∷ g)) ≡ last_place width (place_in (row d)) (rowed row g)
  unfolding last_place rowed flat
  last_more p d [] =
      let e : length (row d ++ []) ≡ width = rw append-nil (k.wide d) in
      let z : length (row d ++ []) - width ≡ 0 = omega arith in
      rw (le-ltb (length (row d ++ [])) width (omega arith), z, append-nil, lt-ltb 0 width (omega (arith, k.holds)))
  last_more p d (e ∷ g) =
      let ns : List ℤ = row e ++ rowed row g in
      let m : width ≤ length ns = rw (length-append (row e) (rowed row g), k.wide e) (omega arith) in
      let n : length (row d ++ ns) ≡ width + length ns = length-append (row d) ns ∙ ap (λ (j : ℕ). j + length ns) (k.wide d) in
      let z : length (row d ++ ns) - width ≡ length (row d) + (length ns - width) = omega (arith, k.wide d) in
      rw (le-ltb (length (row d ++ ns)) width (omega arith), le-ltb (length ns) width m, z, drop-append-add (row d) ns (length ns - width))

  -- ---- what is left

  -- what is still to be handed out from p is the end of the list
  pub record Left (ds : List A) (p : Place) (rest : List A) : Type 0 where
    pub front : List A
    pub whole : ds ≡ front ++ rest
    pub kept : keep (λ d. behind p (place_in (row d))) ds ≡ rest

  module _ (ds : List A) (o : Ordered less ds) where
    left_one : (p : Place) (d : A) (rest : List A) → Left ds p (d ∷ rest) → Left ds (place_in (row d)) rest
    left_one p d rest l = record {
      front = l.front ++ (d ∷ []);
      whole = l.whole ∙ sym (append_assoc l.front (d ∷ []) rest);
      kept =
          ap (λ (P : A → Bool). keep P ds) (fun_ext (k.order d))
          ∙ ap (keep (less d)) l.whole
          ∙ keep_behind less k.once l.front d rest (rw l.whole at o);
    }

    left_next : (p : Place) (g rest : List A) → Left ds p (g ++ rest) → Left ds (last_place width p (rowed row g)) rest
    left_next p [] rest l = rw (last_none p) l
    left_next p (d ∷ g) rest l = rw (last_more p d g) (left_next (place_in (row d)) g rest (left_one p d (g ++ rest) l))

    -- what a call hands out is the front of what is left
    pub page_is : (p : Place) (room : ℕ) (rest : List A) → Left ds p rest → page_of row p room ds ≡ take room rest
    unfolding page_of
    page_is p room rest l = ap (take room) l.kept

    -- and from the last row that it wrote on, the rest is left
    pub left_page : (p : Place) (room : ℕ) (rest : List A) → Left ds p rest → Left ds (last_place width p (rowed row (take room rest))) (drop room rest)
    left_page p room rest l = left_next p (take room rest) (drop room rest) (rw (take-append-drop room rest) l)

  -- ---- one call

  positive : 0 < width
  positive = omega (arith, k.holds)

  module _ (ks : List A) (lent : List ℤ) where
    -- as many of these as fit
    page_fits : width * length (take (length lent / width) ks) ≤ length lent
    page_fits =
        rw (mul_comm width (length (take (length lent / width) ks)))
        ((le-div_iff_mul-le {k = width} {x = length (take (length lent / width) ks)} {y = length lent} positive).0 (omega (arith, length-take (length lent / width) ks)))

    page_full : (drop (length lent / width) ks ≡ []) ⊎ (length lent < width * length (take (length lent / width) ks) + width)
    page_full = go (ltb (length lent / width) (length ks)) refl
      where
        go : (b : Bool) → ltb (length lent / width) (length ks) ≡ b → (drop (length lent / width) ks ≡ []) ⊎ (length lent < width * length (take (length lent / width) ks) + width)
        go true e =
            let n : length (take (length lent / width) ks) ≡ length lent / width = omega (arith, ltb-true (length lent / width) (length ks) e, length-take (length lent / width) ks) in
            inr (rw (n, mul_comm width (length lent / width)) (lt-div-mul-add {a = length lent} {b = width} positive))
        go false e = inl (drop_of_length-le ks (ltb-false (length lent / width) (length ks) e))

  module _ (ds : List A) (p : Place) (lent : List ℤ) where
    -- A call hands out the earliest after its starting place, as many as fit.
    pub page_given : PageGiven row width ds p lent (handed_of row width p ds lent) (length (page_of row p (room_for width lent) ds))
    unfolding handed_of page_of room_for
    page_given =
        let ks = keep (λ d. behind p (place_in (row d))) ds in
        record {
          given = take (length lent / width) ks;
          later = drop (length lent / width) ks;
          after_p = sym (take-append-drop (length lent / width) ks);
          fits = page_fits ks lent;
          full = page_full ks lent;
          holds = refl;
          many = refl;
        }

    -- The list is as long as it was lent.
    pub handed_long : length (handed_of row width p ds lent) ≡ length lent
    unfolding handed_of page_of room_for
    handed_long =
        let ks = keep (λ d. behind p (place_in (row d))) ds in
        laid_length (rowed row (take (length lent / width) ks)) lent
        (rw (rowed_length row width k.wide (take (length lent / width) ks)) (page_fits ks lent))

    -- What it has at its start are the rows that were handed out.
    pub handed_rows : take (width * length (page_of row p (room_for width lent) ds)) (handed_of row width p ds lent) ≡ rowed row (page_of row p (room_for width lent) ds)
    unfolding handed_of laid
    handed_rows =
        let g = page_of row p (room_for width lent) ds in
        take_at (rowed row g) (drop (length (rowed row g)) lent) (width * length g) (rowed_length row width k.wide g)

    -- a list that has room for a row
    pub room_one : width ≤ length lent → 1 ≤ room_for width lent
    unfolding room_for
    room_one h = (le-div_iff_mul-le {k = width} {x = 1} {y = length lent} positive).1 (omega arith)

  -- ---- calls one after the other, by what each tells: the numbers that it wrote, how many entries they are, and the total

  module _ (ds : List A) (o : Ordered less ds) {O : Type 0} (wrote : O → List ℤ) (count total : O → ℕ) where
    -- a call from p that has room for at least one
    pub record Call (p : Place) (c : O) : Type 0 where
      pub room : ℕ
      pub one : 1 ≤ room
      pub numbers : wrote c ≡ rowed row (page_of row p room ds)
      pub many : count c ≡ length (page_of row p room ds)
      pub all : total c ≡ length ds

    -- calls, each from where the one before left off
    abbrev pub Chain : Place → List O → Type 0
    Chain p [] = Unit {0}
    Chain p (c ∷ r) = Call p c × Chain (last_place width p (wrote c)) r

    module _ (p : Place) (rest : List A) (l : Left ds p rest) (c : O) (h : Call p c) where
      wrote_now : wrote c ≡ rowed row (take h.room rest)
      wrote_now = h.numbers ∙ ap (rowed row) (page_is ds o p h.room rest l)

      left_then : Left ds (last_place width p (wrote c)) (drop h.room rest)
      left_then = rw wrote_now (left_page ds o p h.room rest l)

      count_now : count c ≡ length (take h.room rest)
      count_now = h.many ∙ ap length (page_is ds o p h.room rest l)

      -- a call that hands out none had none to hand out, and the other way round
      none_left : eqb (count c) 0 ≡ true → rest ≡ []
      none_left e = nothing rest (omega (arith, eqb-true (count c) 0 e, count_now, length-take h.room rest, h.one))

      none_given : length rest ≤ 0 → eqb (count c) 0 ≡ true
      none_given e = eq-eqb (count c) 0 (omega (arith, count_now, length-take h.room rest))

    -- until one hands out none, calls give all that is left
    joined : (p : Place) (rest : List A) → Left ds p rest → (cs : List O) → Chain p cs → last_has (λ c. eqb (count c) 0) cs ≡ true → flat (map wrote cs) ≡ rowed row rest
    unfolding last_has flat
    joined p rest l [] h e = both false e refl
    joined p rest l (c ∷ []) h e =
        append-nil (wrote c) ∙ wrote_now p rest l c h.0 ∙ rw (none_left p rest l c h.0 e, take-nil)
    joined p rest l (c ∷ d ∷ cs) h e =
        let m = h.0.room in
        ap₂ ◌++◌ (wrote_now p rest l c h.0) (joined (last_place width p (wrote c)) (drop m rest) (left_then p rest l c h.0) (d ∷ cs) h.1 e)
        ∙ sym (rowed_append row (take m rest) (drop m rest))
        ∙ ap (rowed row) (take-append-drop m rest)

    -- each tells the same total
    totals : (p : Place) (cs : List O) → Chain p cs → Each (λ c. total c ≡ length ds) cs
    totals p [] h = λ c m. absurd (Memᴰ.not-nil m)
    totals p (c ∷ cs) h = each_cons (λ (c : O). total c ≡ length ds) c cs h.0.all (totals (last_place width p (wrote c)) cs h.1)

    -- one call more than there are entries left, and the last hands out none
    ended : (p : Place) (rest : List A) → Left ds p rest → (cs : List O) → Chain p cs → length rest < length cs → last_has (λ c. eqb (count c) 0) cs ≡ true
    unfolding last_has
    ended p rest l [] h n = absurd (omega arith)
    ended p rest l (c ∷ []) h n = none_given p rest l c h.0 (omega arith)
    ended p rest l (c ∷ d ∷ cs) h n =
        let m = h.0.room in
        ended (last_place width p (wrote c)) (drop m rest) (left_then p rest l c h.0) (d ∷ cs) h.1
        (omega (arith, length-drop m rest, h.0.one))

    -- Calls from before the first entry until one hands out none together give the whole list; each tells the same total; they end.
    pub calls_join : (p : Place) → Each (λ d. behind p (place_in (row d)) ≡ true) ds → (cs : List O) → Chain p cs → Join wrote count total (rowed row ds) (length ds) cs
    calls_join p first cs h =
        let start : Left ds p ds = record { front = []; whole = refl; kept = keep_all (λ d. behind p (place_in (row d))) ds first } in
        record {
          whole = joined p ds start cs h;
          totals = totals p cs h;
          ends = ended p ds start cs h;
        }
