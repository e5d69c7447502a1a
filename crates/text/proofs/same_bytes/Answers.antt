-- `text::same_bytes` meets its contract.
use Rattle.text.proofs.Chains.{same_listed}
use Rattle.std.proofs.Common.{rules}
use Rattle.text.proofs.same_bytes.Goals as goal

pub returns : goal.returns
returns c = rw (same_listed c.args.a.now c.args.b.now) (search rules)
