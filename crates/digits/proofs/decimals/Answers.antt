-- `digits::decimals` meets its contract. The loop keeps: what is left gives the same answer.
use Rattle.digits.proofs.Laws.{ascii_is, decimals_start, kept_stop, kept_turn, kept_end, kept_is, no_decimal, digit_small, unit_room, unit_small}
use Rattle.std.proofs.Common.{refl, arith}
use Rattle.digits.proofs.decimals.Goals as goal

pub loop-b-init : goal.loop-b-init
loop-b-init c = (omega arith, omega arith, decimals_start _)

pub returns-then-not-is_ascii_digit : goal.returns-then-not-is_ascii_digit
returns-then-not-is_ascii_digit c =
    (kept_stop _ _ _ _ _ _ c.loop-b-test.true c.loop-b.invariant.2 (ascii_is _ _ _ c.is_ascii_digit.ensures.value c.if-not-is_ascii_digit.true), λ n t. no_decimal n t)

pub loop-b-preserved : goal.loop-b-preserved
loop-b-preserved c =
    let d = ascii_is _ _ _ c.is_ascii_digit.ensures.value c.if-not-is_ascii_digit.false in
    let m = digit_small _ d in
    rw c.from.ensures
    (unit_room _ _ _ c.loop-b.invariant.0 c.loop-b.invariant.1 m, unit_small _ _ _ c.loop-b.invariant.0 c.loop-b.invariant.1 m, kept_turn _ _ _ _ _ _ c.loop-b-test.true c.loop-b.invariant.2 d _ refl)

pub returns : goal.returns
returns c = (kept_end _ _ _ _ _ _ c.loop-b-test.false c.loop-b.invariant.2, λ n t. kept_is _ n _ t c.loop-b.invariant.1)
