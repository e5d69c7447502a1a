-- The numbers of an answer about an index are small: each fits a signed 32-bit number with room to spare.
use Rattle.std.specs.Prelude.{◌+◌, ◌*◌, ◌≤◌, Ok, Err}
use Rattle.meaning.specs.Refusals.{max_bytes, max_lines}
use Rattle.indexes.specs.Answer.{IndexAnswer}
use Rattle.indexes.specs.declared.IndexRefusal.TheVariants.{Unread, Barred}

abbrev pub Small : IndexAnswer → Type 0
Small (Ok n) = n ≤ 10 + 4 * max_lines
Small (Err (Unread r)) = (r.number ≤ 14) × ((r.file ≤ 4) × ((r.line ≤ max_lines) × (r.column ≤ max_bytes + 1)))
Small (Err (Barred n)) = n ≤ 46
