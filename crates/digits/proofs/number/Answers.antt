-- `digits::number` meets its contract. The loop keeps: what is left gives the same answer.
use Rattle.digits.proofs.Laws.{ascii_is, digits_stop, digits_turn, digits_end, digit_small, ten_turn, ten_fits, numbered, sequence_short, sequence_long, sequence_is, filled}
use Rattle.std.proofs.Common.{◌-◌, get_or, sym, ◌∙◌, arith, eqb-true}
use Rattle.digits.proofs.number.Goals as goal
use Rattle.digits.proofs.number.Goals.{then-is_empty-via-then-is_empty, then-is_empty-via-else-is_empty+then-v-gt9}

pub returns-then-is_empty : goal.returns-then-is_empty
returns-then-is_empty c =
    elim c.then-is_empty.branch [
      | then-is_empty-via-then-is_empty w ↦ numbered _ _ (sequence_short _ (omega (arith, eqb-true _ _ (sym c.is_empty.ensures ∙ w.if-is_empty.true))))
      | then-is_empty-via-else-is_empty+then-v-gt9 w ↦ numbered _ _ (sequence_long _ w.if-v-gt9.true)
    ]

pub loop-b-init : goal.loop-b-init
loop-b-init c = (c.if-v-gt9.false, omega arith, sequence_is _ (filled _ (sym c.is_empty.ensures ∙ c.if-is_empty.false)) c.if-v-gt9.false)

pub returns-then-not-is_ascii_digit : goal.returns-then-not-is_ascii_digit
returns-then-not-is_ascii_digit c =
    numbered _ _ (digits_stop _ _ _ _ c.loop-b-test.true c.loop-b.invariant.2 (ascii_is _ _ _ c.is_ascii_digit.ensures.value c.if-not-is_ascii_digit.true))

pub overflow_mul-n : goal.overflow_mul-n
overflow_mul-n c =
    omega (arith, ten_fits c.loop-b.b-index c.loop-b.n 0 (omega (arith, c.loop-b.invariant.0)) c.loop-b.invariant.1 (omega arith))

pub overflow_add-n : goal.overflow_add-n
overflow_add-n c =
    let d = digit_small (get_or c.args.v.now c.loop-b.b-index 0) (ascii_is _ _ _ c.is_ascii_digit.ensures.value c.if-not-is_ascii_digit.false) in
    rw c.from.ensures
    (omega (arith, ten_fits c.loop-b.b-index c.loop-b.n (get_or c.args.v.now c.loop-b.b-index 0 - 48) (omega (arith, c.loop-b.invariant.0)) c.loop-b.invariant.1 d))

pub loop-b-preserved : goal.loop-b-preserved
loop-b-preserved c =
    let d = ascii_is _ _ _ c.is_ascii_digit.ensures.value c.if-not-is_ascii_digit.false in
    rw c.from.ensures
    (c.loop-b.invariant.0, ten_turn _ _ _ c.loop-b.invariant.1 (digit_small _ d), digits_turn _ _ _ _ c.loop-b-test.true c.loop-b.invariant.2 d)

pub returns : goal.returns
returns c = numbered _ _ (digits_end _ _ _ _ c.loop-b-test.false c.loop-b.invariant.2)
