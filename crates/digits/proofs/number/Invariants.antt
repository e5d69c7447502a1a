-- What the loop of `digits::number` keeps.
use Rattle.meaning.specs.Forms.{digits, sequence_text}
use Rattle.std.proofs.Common.{◌≡◌, ◌<◌, ◌≤◌, ◌^◌, length, drop}
use Rattle.digits.proofs.number.Given as goal

abbrev pub invariant-loop-b : goal.invariant-loop-b
invariant-loop-b l = (length l.v ≤ 9) × (l.n < 10 ^ l.b-index) × (digits l.n (drop l.b-index l.v) ≡ sequence_text l.v)
