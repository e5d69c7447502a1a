-- Laws of a field's end: bytes that change no state are passed over, and a walk from field to field tells of the whole line.
use Rattle.std.specs.Prelude.{Some, None}
use mathlib.Core.Path.{◌≡◌, refl, sym, ap, ◌∙◌}
use mathlib.Core.Bool.{Bool, true, false, cond}
use mathlib.Core.List.{List, [], ◌∷◌}
use Prim.Native.Nat.{ℕ, zero, suc, ◌+◌, ◌-◌, ◌≤◌, ◌<◌}
use native.Mathlib.Numerals.{add-one}
use native.Mathlib.Omega.{arith}
use native.Mathlib.Nat.{add-zero, not-suc-le-zero}
use lib.Dec.{eqb, ltb}
use lib.ListN.{length, get_or, set, take, drop, length-drop, length-set}
use lib.Seq.{drop-drop, take-nil, get_or-set_same, get_or-set_other}
use borrow.Author.Tests.{eq-eqb, ne_eqb, eqb-true, lt-ltb, le-ltb, ltb-true, ltb-false}
use Rattle.meaning.specs.declared.Bounds.{Bounds}
use Rattle.meaning.specs.Lists.{any}
use Rattle.meaning.specs.Bytes.{bounds, start, bare, closed, class_of, quoting, endings, next, run, good, fields}
use Rattle.text.specs.Lines.{to_first}
use Rattle.text.specs.Fields.{is_mark, is_break, to_break, to_mark, asked, to_asked, field_len, field_state, up_to33, step_at, fields_from, past_ends, FieldStands}
use Rattle.text.specs.declared.Cursor.{Cursor}
use Rattle.meaning.proofs.ListLaws.{both}
use Rattle.text.proofs.Laws.{drop_next, drop_over}
use Rattle.text.proofs.Fields.{next_lt, from_start, from_step, from_over, field_found, field_moved}

-- a byte above the comma is neither comma nor mark
pub above_breaks : (b : ℕ) → 44 < b → false ≡ is_break b
above_breaks b h = rw (ne_eqb b 44 (λ e. omega arith), ne_eqb b 34 (λ e. omega arith))

-- where the table is next asked in a state, as the code looks for it
module _ (q : ℕ) (r : List ℕ) where
  pub asked_bare : q ≡ bare → to_break r ≡ to_asked q r
  unfolding asked
  asked_bare e = rw e

  pub asked_closed : q ≡ closed → 0 ≡ to_asked q r
  unfolding asked to_first
  asked_closed e = go r
    where
      go : (r : List ℕ) → 0 ≡ to_asked q r
      go [] = refl
      go (b ∷ r) = rw e

  pub asked_else : (q ≡ bare → ⊥) → (q ≡ closed → ⊥) → to_mark r ≡ to_asked q r
  unfolding asked to_first
  asked_else n m = go r
    where
      go : (r : List ℕ) → to_mark r ≡ to_asked q r
      go [] = refl
      go (b ∷ r) = rw (ne_eqb q 1 n, ne_eqb q 3 m, go r)

-- the state after a byte that is no mark, by whether it is a comma
next_unmarked : (q b : ℕ) → is_mark b ≡ false → next q b ≡ get_or (get_or quoting q []) (cond (eqb b 44) 0 2) 0
unfolding next class_of
next_unmarked q b e = rw e

-- a byte that the table isn't asked for keeps the state
keeps : (q b : ℕ) → q < 5 → (q ≡ start → ⊥) → asked q b ≡ false → next q b ≡ q
unfolding asked quoting
keeps zero b h n e = absurd (n refl)
keeps (suc zero) b h n e = go (eqb b 44) (eqb b 34) refl refl
  where
    go : (t u : Bool) → eqb b 44 ≡ t → eqb b 34 ≡ u → next 1 b ≡ 1
    go true u x y = both true refl (rw x at e)
    go false true x y = both true refl (rw (x, y) at e)
    go false false x y = rw (next_unmarked 1 b y, x)
keeps (suc (suc zero)) b h n e = rw (next_unmarked 2 b e) (go (eqb b 44))
  where
    go : (t : Bool) → ◌≡◌ {A = ℕ} (get_or (2 ∷ 3 ∷ 2 ∷ []) (cond t 0 2) 0) 2
    go true = refl
    go false = refl
keeps (suc (suc (suc zero))) b h n e = both true refl e
keeps (suc (suc (suc (suc zero)))) b h n e = rw (next_unmarked 4 b e) (go (eqb b 44))
  where
    go : (t : Bool) → ◌≡◌ {A = ℕ} (get_or (4 ∷ 4 ∷ 4 ∷ []) (cond t 0 2) 0) 4
    go true = refl
    go false = refl
keeps (suc (suc (suc (suc (suc q))))) b h n e = absurd (omega arith)

-- a run of such bytes is passed over
module _ (q : ℕ) (known : q < 5) (on : q ≡ start → ⊥) where
  kept_run : (r : List ℕ) → (field_len q r ≡ to_asked q r + field_len q (drop (to_asked q r) r)) × (field_state q r ≡ field_state q (drop (to_asked q r) r))
  unfolding to_first field_len field_state
  kept_run [] = (refl, refl)
  kept_run (b ∷ r) = go (asked q b) refl (kept_run r)
    where
      go : (t : Bool) → asked q b ≡ t
          → (field_len q r ≡ to_asked q r + field_len q (drop (to_asked q r) r)) × (field_state q r ≡ field_state q (drop (to_asked q r) r))
          → (field_len q (b ∷ r) ≡ to_asked q (b ∷ r) + field_len q (drop (to_asked q (b ∷ r)) (b ∷ r)))
          × (field_state q (b ∷ r) ≡ field_state q (drop (to_asked q (b ∷ r)) (b ∷ r)))
      go true e ih = rw e (omega arith, refl)
      go false e ih = rw (e, keeps q b known on e, ne_eqb q 0 on, add-one (to_asked q r)) (omega (arith, ih.0), ih.1)

-- what is left of a field from byte i on, in a state, has this end and this state there
abbrev pub Left : List ℕ → ℕ → ℕ → ℕ → ℕ → Type 0
Left l q i e z = (i + field_len q (drop i l) ≡ e) × (field_state q (drop i l) ≡ z)

-- bytes that keep the state are passed over
pub left_kept : (l : List ℕ) (q i j e z : ℕ) → q < 5 → (q ≡ start → ⊥) → j ≡ i + to_asked q (drop i l) → Left l q i e z → Left l q j e z
left_kept l q i j e z known on at h =
    let p = kept_run q known on (drop i l) in
    let d : drop (to_asked q (drop i l)) (drop i l) ≡ drop j l = rw at (drop-drop (to_asked q (drop i l)) i l) in
    let x : field_len q (drop i l) ≡ to_asked q (drop i l) + field_len q (drop j l) = rw (← d) p.0 in
    (omega (arith, h.0), rw (← d, ← p.1) h.1)

-- a byte on
module _ (l : List ℕ) (q i e z : ℕ) (h : Left l q i e z) where
  module _ (more : i < length l) (p : ℕ) (to : p ≡ next q (get_or l i 0)) where
    pub left_end : p ≡ start → (i ≡ e) × (start ≡ z)
    unfolding field_len field_state
    left_end t = rw (drop_next l i more, ← to, eq-eqb _ _ t, add-zero) at h

    pub left_next : (p ≡ start → ⊥) → Left l p (i + 1) e z
    unfolding field_len field_state
    left_next t =
        let x : field_len q (drop i l) ≡ field_len p (drop (i + 1) l) + 1 = rw (drop_next l i more, ← to, ne_eqb _ _ t) in
        let y : field_state q (drop i l) ≡ field_state p (drop (i + 1) l) = rw (drop_next l i more, ← to, ne_eqb _ _ t) in
        (omega (arith, h.0), sym y ∙ h.1)

  pub left_over : length l ≤ i → (i ≡ e) × (q ≡ z)
  unfolding field_len field_state
  left_over over = rw (drop_over l i over, add-zero) at h

-- the table was asked for byte i, and told a state: the field has ended there, or this is left past it
abbrev pub Asked : List ℕ → ℕ → ℕ → ℕ → ℕ → Type 0
Asked l q i e z = (q ≡ start → (i ≡ e) × (start ≡ z)) × ((q ≡ start → ⊥) → Left l q (i + 1) e z)

pub left_asked : (l : List ℕ) (q i e z : ℕ) → Left l q i e z → i < length l → (p : ℕ) → p ≡ next q (get_or l i 0) → Asked l p i e z
left_asked l q i e z h more p to = (left_end l q i e z h more p to, left_next l q i e z h more p to)

-- the ways out: the field has ended, or the line has
module _ (l : List ℕ) (q i e z : ℕ) (h : Asked l q i e z) (j : ℕ) where
  pub out_ended : q ≡ start → j ≡ i → (j ≡ e) × (q ≡ z)
  out_ended t m = (m ∙ (h.0 t).0, t ∙ (h.0 t).1)

  pub out_over : q < 5 → (q ≡ start → ⊥) → (k : ℕ) → k ≡ i + 1 + to_asked q (drop (i + 1) l) → length l ≤ k → j ≡ k → (j ≡ e) × (q ≡ z)
  out_over known on k at over m =
      let o = left_over l q k e z (left_kept l q (i + 1) k e z known on at (h.1 on)) over in
      (m ∙ o.0, o.1)

-- a line's state is that from past a field on, in the state in which it ended: start where a comma ended it
pub run_past : (q : ℕ) (r : List ℕ) → run (field_state q r) (drop (field_len q r + 1) r) ≡ run q r
unfolding run field_len field_state
run_past q [] = refl
run_past q (b ∷ r) = go (eqb (next q b) start) refl (run_past (next q b) r)
  where
    go : (t : Bool) → eqb (next q b) start ≡ t → run (field_state (next q b) r) (drop (field_len (next q b) r + 1) r) ≡ run (next q b) r
        → run (field_state q (b ∷ r)) (drop (field_len q (b ∷ r) + 1) (b ∷ r)) ≡ run q (b ∷ r)
    go true e ih = rw (e, eqb-true (next q b) start e)
    go false e ih = rw (e, add-one (field_len (next q b) r + 1)) ih

pub state_on : (q : ℕ) (r : List ℕ) → field_len q r < length r → field_state q r ≡ start
unfolding field_len field_state
state_on q [] h = absurd (not-suc-le-zero h)
state_on q (b ∷ r) h = go (eqb (next q b) start) refl (state_on (next q b) r)
  where
    go : (t : Bool) → eqb (next q b) start ≡ t → (field_len (next q b) r < length r → field_state (next q b) r ≡ start) → field_state q (b ∷ r) ≡ start
    go true e ih = rw e
    go false e ih = let z : field_len (next q b) r + 1 < suc (length r) = rw e at h in rw e (ih (omega arith))

state_lt : (q : ℕ) (r : List ℕ) → q < 5 → field_state q r < 5
unfolding field_state
state_lt q [] h = h
state_lt q (b ∷ r) h = go (eqb (next q b) start) (state_lt (next q b) r (next_lt q b))
  where
    go : (t : Bool) → field_state (next q b) r < 5 → cond t start (field_state (next q b) r) < 5
    go true ih = omega arith
    go false ih = ih

-- a line's state from a place on, two bytes of which the first tells nothing: neither is a mark
second_tells : (q b c : ℕ) → q < 5 → (q ≡ closed → ⊥) → is_mark b ≡ false → is_mark c ≡ false → next (next q b) c ≡ next q c
unfolding quoting
second_tells q b c h n d e = rw (next_unmarked (next q b) c e, next_unmarked q c e, next_unmarked q b d) (go q h n (eqb b 44) (eqb c 44))
  where
    go : (q : ℕ) → q < 5 → (q ≡ closed → ⊥) → (t u : Bool)
        → get_or (get_or quoting (get_or (get_or quoting q []) (cond t 0 2) 0) []) (cond u 0 2) 0 ≡ get_or (get_or quoting q []) (cond u 0 2) 0
    go zero h n true u = refl
    go zero h n false true = refl
    go zero h n false false = refl
    go (suc zero) h n true true = refl
    go (suc zero) h n true false = refl
    go (suc zero) h n false u = refl
    go (suc (suc zero)) h n true u = refl
    go (suc (suc zero)) h n false u = refl
    go (suc (suc (suc zero))) h n t u = absurd (n refl)
    go (suc (suc (suc (suc zero)))) h n true true = refl
    go (suc (suc (suc (suc zero)))) h n true false = refl
    go (suc (suc (suc (suc zero)))) h n false true = refl
    go (suc (suc (suc (suc zero)))) h n false false = refl
    go (suc (suc (suc (suc (suc q))))) h n t u = absurd (omega arith)

-- a table keeps its length
pub note_length : (t u : List ℕ) (n v k : ℕ) → u ≡ set t n v → length t ≡ k → length u ≡ k
note_length t u n v k e h = rw (e, length-set t n v) h

-- bytes without a mark are passed over but for the last, from any state but past a closing mark
module _ (q : ℕ) (known : q < 5) (unclosed : q ≡ closed → ⊥) where
  unmarked_run : (n : ℕ) (r : List ℕ) → n < length r → any is_mark (take (suc n) r) ≡ false → run q (drop n r) ≡ run q r
  unfolding any run
  unmarked_run zero r h e = refl
  unmarked_run (suc n) [] h e = absurd (not-suc-le-zero h)
  unmarked_run (suc n) (b ∷ []) h e = absurd (omega arith)
  unmarked_run (suc n) (b ∷ c ∷ r) h e = go (eqb b 34) (eqb c 34) refl refl (unmarked_run n (c ∷ r) (omega arith))
    where
      go : (t u : Bool) → eqb b 34 ≡ t → eqb c 34 ≡ u → (any is_mark (take (suc n) (c ∷ r)) ≡ false → run q (drop n (c ∷ r)) ≡ run q (c ∷ r))
          → run q (drop n (c ∷ r)) ≡ run q (b ∷ c ∷ r)
      go true u x y ih = both true refl (rw x at e)
      go false true x y ih = both true refl (rw (x, y) at e)
      go false false x y ih = ih (rw x at e) ∙ rw (second_tells q b c known unclosed x y)

pub unmarked_on : (l : List ℕ) (i k : ℕ) (v : Bool) → i + suc k ≤ length l → v ≡ any is_mark (take (suc k) (drop i l)) → v ≡ false
    → (q : ℕ) → q < 5 → (q ≡ closed → ⊥) → run q (drop (i + k) l) ≡ run q (drop i l)
unmarked_on l i k v h e z q known unclosed =
    rw (← drop-drop k i l) (unmarked_run q known unclosed k (drop i l) (omega (arith, length-drop i l)) (sym e ∙ z))

-- a byte on
pub run_next : (l : List ℕ) (i : ℕ) → i < length l → (q p k : ℕ) → p ≡ next q (get_or l i 0) → run q (drop i l) ≡ k → run p (drop (i + 1) l) ≡ k
unfolding run
run_next l i more q p k to inv = rw to (rw (drop_next l i more) at inv)

pub run_done : (l : List ℕ) (i : ℕ) → length l ≤ i → (q k : ℕ) → run q (drop i l) ≡ k → q ≡ k
unfolding run
run_done l i over q k inv = rw (drop_over l i over) at inv

-- a walk by a cursor: from its place and state on, the line's state is that of the whole line
abbrev pub Told : List ℕ → Cursor → Type 0
Told l c = (c.state < 5) × (c.at ≤ length l → c.state ≡ start) × (run c.state (drop c.at l) ≡ run start l)

module _ (l : List ℕ) (c : Cursor) where
  pub told_first : (c.at ≡ 0) × (c.state ≡ start) → Told l c
  told_first h = (omega (arith, h.1), λ _. h.1, rw (h.0, h.1))

  module _ (h : Told l c) where
    pub told_next : (a e : ℕ) (n : Cursor) → step_at l c.at ≡ Some (bounds a e, n) → Told l n
    told_next a e n p =
        let s = field_found l c.at a e n p in
        let m : n ≡ record { at = c.at + field_len start (drop c.at l) + 1; state = field_state start (drop c.at l) } = field_moved l c.at a e n p in
        let b : c.at ≤ length l = omega arith in
        let z : c.state ≡ start = h.1 b in
        let y : run start (drop c.at l) ≡ run start l = ap (λ q. run q (drop c.at l)) (sym z) ∙ h.2 in
        let d : c.at + (field_len start (drop c.at l) + 1) ≡ c.at + field_len start (drop c.at l) + 1 = omega arith in
        rw m (
          state_lt start (drop c.at l) (omega arith),
          λ w. state_on start (drop c.at l) (omega (arith, length-drop c.at l)),
          rw (← d, ← drop-drop (field_len start (drop c.at l) + 1) c.at l) (run_past start (drop c.at l) ∙ y),
        )

    pub told_last : (g : Bool) → length l < c.at → g ≡ get_or endings c.state false → g ≡ good l
    unfolding good
    told_last g over e = e ∙ ap (λ q. get_or endings q false) (run_done l c.at (omega arith) c.state _ h.2)

    pub told_rest : (q : ℕ) (g : Bool) → q ≡ run c.state (drop c.at l) → g ≡ get_or endings q false → g ≡ good l
    unfolding good
    told_rest q g r e = e ∙ ap (λ q. get_or endings q false) (r ∙ h.2)

-- how many fields a walk has told
pub up_few : (n : ℕ) → n < 33 → up_to33 n ≡ n
unfolding up_to33
up_few n h = rw (lt-ltb n 33 h)

pub up_many : (n : ℕ) → 33 ≤ n → up_to33 n ≡ 33
unfolding up_to33
up_many n h = rw (le-ltb n 33 h)

pub up_exact : (n k : ℕ) → k ≡ up_to33 n → k < 33 → k ≡ n
up_exact n k e h = go (ltb n 33) refl
  where
    go : (t : Bool) → ltb n 33 ≡ t → k ≡ n
    go true t = e ∙ up_few n (ltb-true n 33 t)
    go false t = let z = up_many n (ltb-false n 33 t) in absurd (omega arith)

pub up_over : (n k : ℕ) → k ≡ up_to33 n → 32 < k → 32 < n
up_over n k e h = go (ltb n 33) refl
  where
    go : (t : Bool) → ltb n 33 ≡ t → 32 < n
    go true t = let z = up_few n (ltb-true n 33 t) in omega arith
    go false t = omega (arith, ltb-false n 33 t)

pub count_first : (l : List ℕ) (at : ℕ) → at ≡ 0 → length (fields_from l at) ≡ length (fields l)
count_first l at e = rw (e, from_start l)

-- this field is counted and its end noted, and those from past it are left
module _ (l : List ℕ) (at a e n : ℕ) (stands : FieldStands l at a e n) (k : ℕ) where
  pub count_on : (m : ℕ) → k + length (fields_from l at) ≡ m → k + 1 + length (fields_from l n) ≡ m
  count_on m inv = let z : length (fields_from l at) ≡ suc (length (fields_from l n)) = ap length stands.fields in omega arith

  pub note_on : (t u v : List ℕ) → k < 33 → u ≡ set t (k + 1) n
      → past_ends (take (33 - k) (fields_from l at)) (k + 1) t ≡ v → past_ends (take (33 - (k + 1)) (fields_from l n)) (k + 1 + 1) u ≡ v
  unfolding past_ends
  note_on t u v few noted inv =
      let d : 33 - k ≡ suc (33 - (k + 1)) = omega arith in
      rw (noted, stands.moves) (rw (d, stands.fields, stands.moves) at inv)

-- and none is left, past the line's end or past field 33
module _ (l : List ℕ) (at k : ℕ) where
  pub count_last : (m : ℕ) → length l < at → k < 33 → k + length (fields_from l at) ≡ m → k ≡ up_to33 m
  count_last m over few inv =
      let z : length (fields_from l at) ≡ 0 = rw (from_over l at over) in
      omega (arith, up_few m (omega arith))

  pub count_rest : (m : ℕ) → k ≡ 33 → k + length (fields_from l at) ≡ m → k ≡ up_to33 m
  count_rest m many inv = omega (arith, up_many m (omega arith))

  module _ (t v : List ℕ) (inv : past_ends (take (33 - k) (fields_from l at)) (k + 1) t ≡ v) where
    pub note_last : length l < at → t ≡ v
    unfolding past_ends
    note_last over = rw (from_over l at over, take-nil) at inv

    pub note_rest : k ≡ 33 → t ≡ v
    unfolding past_ends
    note_rest many = rw many at inv

-- a line has a field
pub up_some : (l : List ℕ) (n : ℕ) → n ≡ up_to33 (length (fields l)) → (1 ≤ n) × (n ≤ 33)
up_some l n e = go (ltb (length (fields l)) 33) refl
  where
    s : length (fields l) ≡ suc (length (fields_from l (0 + field_len start (drop 0 l) + 1)))
    s = ap length (sym (from_start l) ∙ from_step l 0 (omega arith) _ refl)

    go : (t : Bool) → ltb (length (fields l)) 33 ≡ t → (1 ≤ n) × (n ≤ 33)
    go true t = let h : length (fields l) < 33 = ltb-true _ _ t in let z = up_few _ h in let w = s in (omega arith, omega arith)
    go false t = let h : 33 ≤ length (fields l) = ltb-false _ _ t in let z = up_many _ h in (omega arith, omega arith)

-- what stands in a table of ends
pub past_length : (bs : List Bounds) (n : ℕ) (t : List ℕ) → length (past_ends bs n t) ≡ length t
unfolding past_ends
past_length [] n t = refl
past_length (b ∷ bs) n t = past_length bs (n + 1) (set t n (b.end + 1)) ∙ length-set t n (b.end + 1)

pub past_before : (bs : List Bounds) (n : ℕ) (t : List ℕ) (k : ℕ) → k < n → get_or (past_ends bs n t) k 0 ≡ get_or t k 0
unfolding past_ends
past_before [] n t k h = refl
past_before (b ∷ bs) n t k h =
    past_before bs (n + 1) (set t n (b.end + 1)) k (omega arith) ∙ get_or-set_other t n k (b.end + 1) 0 (λ e. omega arith)

pub past_at : (bs : List Bounds) (n : ℕ) (t : List ℕ) (k : ℕ) → k < length bs → n + k < length t → get_or (past_ends bs n t) (n + k) 0 ≡ (get_or bs k (bounds 0 0)).end + 1
unfolding past_ends
past_at [] n t k h w = absurd (not-suc-le-zero h)
past_at (b ∷ bs) n t zero h w =
    let z : n + 0 ≡ n = omega arith in
    rw z (past_before bs (n + 1) (set t n (b.end + 1)) n (omega arith) ∙ get_or-set_same t n (b.end + 1) 0 (omega arith))
past_at (b ∷ bs) n t (suc k) h w =
    let z : n + suc k ≡ n + 1 + k = omega arith in
    rw z (past_at bs (n + 1) (set t n (b.end + 1)) k (omega arith) (omega (arith, length-set t n (b.end + 1))))
