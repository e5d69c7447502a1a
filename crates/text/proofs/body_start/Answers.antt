-- `text::body_start` meets its contract.
use Rattle.std.proofs.Common.{rules}
use Rattle.meaning.specs.Bytes.{start_of, leading_mark}
use Rattle.text.proofs.Chains.{same_listed, same_turned}
use lib.ListN.{take}
use native.Mathlib.Omega.{arith}
use mathlib.Core.Path.{◌≡◌, sym, ◌∙◌}
use mathlib.Core.Bool.{true, false}
use Rattle.meaning.specs.Lists.{same}
use Rattle.text.proofs.body_start.Goals as goal

pub returns-then-starts_with : goal.returns-then-starts_with
unfolding start_of leading_mark
returns-then-starts_with c =
    let s = c.args.s.now in
    let e : same (take 3 s) leading_mark ≡ true = same_turned (take 3 s) leading_mark ∙ same_listed leading_mark (take 3 s) ∙ sym c.starts_with.ensures.value ∙ c.if-starts_with.true in
    (rw e, search rules)

pub returns : goal.returns
unfolding start_of leading_mark
returns c =
    let s = c.args.s.now in
    let e : same (take 3 s) leading_mark ≡ false = same_turned (take 3 s) leading_mark ∙ same_listed leading_mark (take 3 s) ∙ sym c.starts_with.ensures.value ∙ c.if-starts_with.false in
    (rw e, omega arith)
