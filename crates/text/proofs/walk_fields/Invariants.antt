-- What the loop of `text::walk_fields` keeps.
use Rattle.text.proofs.Spans.{Told}
use Rattle.text.specs.Fields.{fields_from, past_ends}
use Rattle.meaning.specs.Bytes.{fields}
use mathlib.Core.Path.{◌≡◌}
use Prim.Native.Nat.{◌≤◌, ◌-◌, ◌+◌}
use lib.ListN.{length, take}
use Rattle.text.proofs.walk_fields.Given as goal

abbrev pub invariant-loop-n : goal.invariant-loop-n
invariant-loop-n l =
    (length l.starts ≡ length l.initial.starts) × (l.n ≤ 33) × Told l.l l.c × (l.n + length (fields_from l.l l.c.at) ≡ length (fields l.l))
    × (past_ends (take (33 - l.n) (fields_from l.l l.c.at)) (l.n + 1) l.starts ≡ past_ends (take 33 (fields l.l)) 1 l.initial.starts)

abbrev pub decreases-loop-n : goal.decreases-loop-n
decreases-loop-n l = 33 - l.n
