-- `text::past_unmarked` meets its contract.
use Rattle.text.proofs.Spans.{unmarked_on}
use mathlib.Core.Path.{◌≡◌, refl, ◌∙◌}
use Prim.Native.Nat.{◌-◌, ◌+◌}
use native.Mathlib.Omega.{arith}
use Rattle.text.proofs.past_unmarked.Goals as goal

pub loop-i-init : goal.loop-i-init
loop-i-init c = (λ q h n. refl, omega arith)

pub returns-then-l-i-lt32 : goal.returns-then-l-i-lt32
returns-then-l-i-lt32 c = c.loop-i.invariant

pub returns-then-has_mark : goal.returns-then-has_mark
returns-then-has_mark c = c.loop-i.invariant

pub loop-i-preserved : goal.loop-i-preserved
loop-i-preserved c =
    let s = c.args.l.now in
    let k : c.loop-i.i + 32 - c.loop-i.i ≡ 32 = omega arith in
    (λ q h n. unmarked_on s c.loop-i.i 31 _ (omega arith) (rw k at c.has_mark.ensures) c.if-has_mark.false q h n ∙ c.loop-i.invariant.0 q h n, omega arith)

pub returns : goal.returns
returns c = c.loop-i.invariant
