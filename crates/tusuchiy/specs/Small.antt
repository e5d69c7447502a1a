-- The numbers of an answer are small: each fits a signed 32-bit number with room to spare.
use Rattle.std.specs.Prelude.{◌*◌, ◌≤◌}
use Rattle.meaning.specs.declared.Answer.{Answer}
use Rattle.meaning.specs.declared.Answer.TheVariants.{Accepted, Findings, Refused}
use Rattle.meaning.specs.Refusals.{max_lines}

abbrev pub Small : Answer → Type 0
Small Accepted = Unit {0}
Small (Findings written total) = (written ≤ 21 * max_lines) × (total ≤ 21 * max_lines)
Small (Refused r) = (r.number ≤ 14) × ((r.file ≤ 6) × ((r.line ≤ max_lines) × (r.column ≤ 32)))
