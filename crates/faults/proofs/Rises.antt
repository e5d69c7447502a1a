-- The list rises strictly, by file, line, number.
use Prim.Native.Nat.{ℕ, ◌+◌, ◌≤◌, ◌<◌}
use native.Mathlib.Omega.{arith}
use mathlib.Core.Path.{◌≡◌, refl, ap}
use mathlib.Core.Bool.{Bool, true, false, cond, ◌||◌}
use mathlib.Core.List.Memᴰ
use mathlib.Core.List.{List, [], ◌∷◌, ◌++◌, Memᴰ}
use Rattle.meaning.specs.declared.Refusal.{Refusal}
use Rattle.meaning.specs.Refusals.{test, rule1, rule2}
use Rattle.meaning.specs.Promises.{Ordered, Each}
use Rattle.meaning.proofs.Laws.{each_append, ordered_append, along_ordered}
use Rattle.faults.specs.List.{texts_of, fault_at, whole_faults, line_faults, file_faults, faults_of}
use Rattle.faults.specs.Promises.{fault_before}
use Rattle.faults.proofs.OneFault.{before_file, before_line, before_number, fault_ordered}
use Rattle.faults.proofs.Places.{texts_exactly, lines_rise, faults_along, file_file, wholly, lone_exactly}

-- ---- a file as a whole

-- a fault of the whole file f, from number n on
record Whole (f n : ℕ) (d : Refusal) : Type 0 where
  file : d.file ≡ f
  line : d.line ≡ 0
  number : n ≤ d.number

module _ (f : ℕ) where
  -- one rule asked of the whole file has its own fault
  lone : (n : ℕ) (b : Bool) → Each (λ d. d ≡ wholly n f) (fault_at f 0 (test n b ∷ []))
  lone n b d m = ((lone_exactly f n b d).0 m).0

  -- which is of the whole file
  lone_whole : (n k : ℕ) (b : Bool) → k ≤ n → Each (Whole f k) (fault_at f 0 (test n b ∷ []))
  lone_whole n k b h d m = rw (lone n b d m) (record { file = refl; line = refl; number = h })

  -- a lower number before higher ones
  lone_first : (n : ℕ) (b : Bool) (l : List Refusal) → Ordered fault_before l → Each (Whole f (n + 1)) l → Ordered fault_before (fault_at f 0 (test n b ∷ []) ++ l)
  lone_first n b l rises higher = ordered_append fault_before (fault_at f 0 (test n b ∷ [])) l (fault_ordered f 0 _) rises apart
    where
      apart : (d e : Refusal) → Memᴰ d (fault_at f 0 (test n b ∷ [])) → Memᴰ e l → fault_before d e ≡ true
      apart d e m k =
          let w = higher e k in
          let v = lone_whole n n b (omega arith) d m in
          let z : d.number ≡ n = ap (λ (x : Refusal). x.number) (lone n b d m) in
          before_number d e (cc) (cc) (omega arith)

-- the faults of rules 1, 2 and 4 rise
whole_rises : (files : List (List ℕ)) (f : ℕ) (s : List ℕ) → Ordered fault_before (whole_faults files f s)
unfolding whole_faults
whole_rises files f s =
    lone_first f 1 _ _ (lone_first f 2 _ _ (fault_ordered f 0 _) (lone_whole f 4 3 _ (omega arith)))
    (each_append (Whole f 2) _ _ (lone_whole f 2 2 _ (omega arith)) (lone_whole f 4 2 _ (omega arith)))

-- and are of the whole file
whole_each : (files : List (List ℕ)) (f : ℕ) (s : List ℕ) → Each (Whole f 1) (whole_faults files f s)
unfolding whole_faults
whole_each files f s =
    each_append (Whole f 1) _ _ (lone_whole f 1 1 _ (omega arith))
    (each_append (Whole f 1) _ _ (lone_whole f 2 1 _ (omega arith)) (lone_whole f 4 1 _ (omega arith)))

-- ---- files

-- the faults of a file rise: of the whole file, then of its lines
file_rises : (files : List (List ℕ)) (f : ℕ) (s : List ℕ) → Ordered fault_before (file_faults files f s)
unfolding file_faults
file_rises files f s = go (rule1 f s 0 || rule2 f s 0)
  where
    rise : (t : Bool) → Ordered fault_before (cond t [] (line_faults f (texts_of s)))
    rise true = tt
    rise false = lines_rise f (texts_of s)

    apart : (t : Bool) (d e : Refusal) → Memᴰ d (whole_faults files f s) → Memᴰ e (cond t [] (line_faults f (texts_of s))) → fault_before d e ≡ true
    apart true d e m k = absurd (Memᴰ.not-nil k)
    apart false d e m k =
        let w = whole_each files f s d m in
        let t = (texts_exactly f (texts_of s) e).0 k in
        let file : e.file ≡ f = t.file in
        before_line d e (cc) (omega arith)

    go : (t : Bool) → Ordered fault_before (whole_faults files f s ++ cond t [] (line_faults f (texts_of s)))
    go t = ordered_append fault_before (whole_faults files f s) _ (whole_rises files f s) (rise t) (apart t)

-- The list rises strictly, by file, line, number.
pub list_rises : (files : List (List ℕ)) → Ordered fault_before (faults_of files)
list_rises files = rw (faults_along files) (along_ordered [] (file_faults files) fault_before (file_rises files) apart 1 files)
  where
    apart : (j k : ℕ) (b c : List ℕ) (d e : Refusal) → j < k → Memᴰ d (file_faults files j b) → Memᴰ e (file_faults files k c) → fault_before d e ≡ true
    apart j k b c d e h m n =
        let u = file_file files j b d m in
        let v = file_file files k c e n in
        before_file d e (omega arith)
