-- A fault is in the list exactly when the words say so; a line has one at most; an empty file has 4 and nothing else.
use Prim.Native.Nat.{ℕ, ◌-◌, ◌≤◌}
use native.Mathlib.Omega.{arith}
use native.Mathlib.Decide.{ℕ_discrete}
use mathlib.Core.Path.{◌≡◌, refl, sym, ap, subst}
use mathlib.Core.Logic.{◌↔◌, ◌⊎◌, inl, inr, ⊎_elim}
use mathlib.Core.Bool.{false}
use mathlib.Core.List.{List, [], Memᴰ}
use lib.ListN.{length, get_or}
use borrow.Author.Tests.{ne_eqb, not-true}
use Rattle.meaning.specs.declared.Refusal.{Refusal}
use Rattle.std.specs.Prelude.{Result, Ok, Err}
use Rattle.meaning.specs.Lists.{empty}
use Rattle.meaning.specs.Bytes.{count_lf}
use Rattle.meaning.specs.Tables.{file_of}
use Rattle.meaning.specs.Refusals.{Claim, on_line, may_lack, rule4, head_tests, speaks}
use Rattle.meaning.specs.Promises.{FirstBroken, NoneBroken, SomeBroken}
use Rattle.meaning.proofs.ListLaws.{both}
use Rattle.meaning.proofs.FirstBroken.{spoken_first, silent_none, first_unique}
use Rattle.faults.specs.List.{texts_of, tests_under, head_said, faults_of}
use Rattle.faults.specs.Promises.{bytes_at, head_at, text_at, head_claims, WholeRule, long, many, unclosed, OfWhole, OfHeader, OfLine, OfText, Fault, of_whole, of_header, of_line_lem, of_text, FaultOf}
use Rattle.faults.proofs.LastLf.{texts_none}
use Rattle.faults.proofs.OneFault.{claimed, first_among}
use Rattle.faults.proofs.Places.{tests_at, claims_at, OnText, place_exactly}

-- ---- what a line is put to

-- where something is refused, something is broken
pub said_broken : (cs : List Claim) (r : Refusal) → speaks cs ≡ Err r → SomeBroken cs
said_broken cs r e = record { which = claimed r; among = first_among cs r ((spoken_first cs r).0 e); broken = refl }

-- and not where nothing is
pub none_some : {A : Type 0} (cs : List Claim) → NoneBroken cs → SomeBroken cs → A
none_some cs none some = both some.which.broken some.broken (none some.which some.among)

module _ (files : List (List ℕ)) (f : ℕ) where
  -- the texts of a file's lines, and of its header
  abbrev texts_in : List (List ℕ)
  texts_in = texts_of (file_of files f)

  abbrev head_in : List ℕ
  head_in = get_or texts_in 0 []

  -- line 1 is put to the header's tests
  pub first_claims : claims_at files f 1 ≡ on_line f 1 (head_tests f head_in)
  unfolding claims_at tests_at
  first_claims = refl

  -- and a later line to those that its header leaves
  pub later_claims : (n : ℕ) → 2 ≤ n → claims_at files f n ≡ on_line f n (tests_under (head_said f head_in) f head_in (get_or texts_in (n - 1) []))
  unfolding claims_at tests_at
  later_claims n h = rw (ne_eqb n 1 (λ e. omega arith))

-- ---- exactly

module _ (files : List (List ℕ)) (d : Refusal) where
  -- the words of a fault on a line
  line_words : OnText files d → Fault files d
  unfolding head_said
  line_words t = go (ℕ_discrete d.line 1)
    where
      h : List ℕ
      h = head_at files d

      later : 2 ≤ d.line → (v : Result Unit Refusal) → head_said d.file h ≡ v → FirstBroken (on_line d.file d.line (tests_under v d.file h (text_at files d))) d → Fault files d
      later low (Ok tt) e b = of_line_lem (record { judged = t.judged; later = low; good = (silent_none (head_claims files d)).0 e; first = b })
      later low (Err r) e b = of_text (record { judged = t.judged; later = low; refused = said_broken (head_claims files d) r e; first = b })

      go : Dec (d.line ≡ 1) → Fault files d
      go (yes e) =
          let b : FirstBroken (claims_at files d.file 1) d = subst (λ (n : ℕ). FirstBroken (claims_at files d.file n) d) e t.first in
          of_header (record { judged = t.judged; line = e; first = rw (first_claims files d.file) at b })
      go (no e) =
          let low : 2 ≤ d.line = omega (arith, e, t.judged.from) in
          later low (head_said d.file h) refl (rw (later_claims files d.file d.line low) at t.first)

  -- and back, of the header
  header_first : OfHeader files d → OnText files d
  header_first t = record {
    judged = t.judged;
    first = subst (λ (n : ℕ). FirstBroken (claims_at files d.file n) d) (sym t.line) (rw (first_claims files d.file) t.first);
  }

  -- of a line under a good header
  line_first : OfLine files d → OnText files d
  unfolding head_said
  line_first t =
      let e : head_said d.file (head_at files d) ≡ Ok tt = (silent_none (head_claims files d)).1 t.good in
      record { judged = t.judged; first = rw (later_claims files d.file d.line t.later, e) t.first }

  -- of a line under a refused one
  text_first : OfText files d → OnText files d
  unfolding head_said
  text_first t = record { judged = t.judged; first = rw (later_claims files d.file d.line t.later) (go (head_said d.file (head_at files d)) refl) }
    where
      go : (v : Result Unit Refusal) → head_said d.file (head_at files d) ≡ v → FirstBroken (on_line d.file d.line (tests_under v d.file (head_at files d) (text_at files d))) d
      go (Ok tt) e = none_some (head_claims files d) ((silent_none (head_claims files d)).0 e) t.refused
      go (Err r) e = t.first

  -- a fault is of a whole file or of a line
  pub whole_or_line : Fault files d → OfWhole files d ⊎ OnText files d
  whole_or_line (of_whole w) = inl w
  whole_or_line (of_header t) = inr (header_first t)
  whole_or_line (of_line_lem t) = inr (line_first t)
  whole_or_line (of_text t) = inr (text_first t)

  -- A fault is in the list exactly when the words say so.
  pub faults_exactly : Memᴰ d (faults_of files) ↔ FaultOf files d
  faults_exactly = (
    λ m. let t = (place_exactly files d).0 m in record { from = t.0; to = t.1; fault = ⊎_elim of_whole line_words t.2 },
    λ w. (place_exactly files d).1 (w.from, w.to, whole_or_line w.fault),
  )

  -- a fault on a line is the first that is broken there
  pub on_line_lem : Memᴰ d (faults_of files) → 1 ≤ d.line → OnText files d
  on_line_lem m h = ⊎_elim (λ (w : OfWhole files d). absurd (omega arith)) (λ t. t) ((place_exactly files d).0 m).2

  -- An empty file has 4 and nothing else, and a file not supplied has none.
  pub empty_faults : bytes_at files d ≡ [] → Memᴰ d (faults_of files) → (d.number ≡ 4) × (may_lack files d.file ≡ false)
  unfolding rule4 empty count_lf
  empty_faults none m = ⊎_elim (λ w. whole w.rule) line ((place_exactly files d).0 m).2
    where
      whole : WholeRule files d → (d.number ≡ 4) × (may_lack files d.file ≡ false)
      whole (long n h) = absurd (omega (arith, ap length none))
      whole (many n h) = absurd (omega (arith, ap count_lf none))
      whole (unclosed n h) = (n, not-true (may_lack files d.file) (rw none at h))

      line : OnText files d → (d.number ≡ 4) × (may_lack files d.file ≡ false)
      line t = let z : length (texts_of []) ≡ 0 = ap length texts_none in absurd (omega (arith, t.judged.from, t.judged.to, ap (λ (s : List ℕ). length (texts_of s)) none))

-- A line has one fault at most.
pub one_fault : (files : List (List ℕ)) (d e : Refusal) → Memᴰ d (faults_of files) → Memᴰ e (faults_of files) → d.file ≡ e.file → d.line ≡ e.line → 1 ≤ d.line → d ≡ e
one_fault files d e m k file line h =
    let b = (on_line_lem files d m h).first in
    let c = (on_line_lem files e k (omega arith)).first in
    first_unique (claims_at files d.file d.line) d e b
    (subst (λ (f : ℕ). FirstBroken (claims_at files f d.line) e) (sym file) (subst (λ (n : ℕ). FirstBroken (claims_at files e.file n) e) (sym line) c))
