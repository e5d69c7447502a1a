-- `reading::order` meets its contract.
use Rattle.reading.proofs.Wholes.{rule_stop, rule_next, rules_over}
use Rattle.reading.specs.Wholes.{whole_claims}
use mathlib.Core.Path.{refl}
use native.Mathlib.Omega.{arith}
use Rattle.reading.proofs.order.Goals as goal

pub loop-k-init : goal.loop-k-init
unfolding whole_claims
loop-k-init c = refl

pub returns-in-Some : goal.returns-in-Some
returns-in-Some c = rule_stop _ _ _ c.loop-k.invariant c.loop-k-test.true _ c.in-Some.ensures

pub loop-k-preserved : goal.loop-k-preserved
loop-k-preserved c = rule_next _ _ _ c.loop-k.invariant c.loop-k-test.true c.in_default.ensures

pub returns : goal.returns
returns c = rules_over _ c.loop-k.k _ c.loop-k.invariant (omega (arith, c.loop-k-test.false))
