-- `forms::digit_text` meets its contract.
use Rattle.forms.proofs.Laws.{digit_long, digit_none, digit_some}
use Rattle.std.proofs.Common.{◌≡◌, ◌&&◌, leb, le-leb, arith, sym, ◌∙◌}
use Rattle.std.proofs.lemmas.Bool.{lt-leb}
use Rattle.forms.proofs.digit_text.Goals as goal
use Rattle.forms.proofs.digit_text.Goals.{then-a-digit, else-a-digit}

pub returns-then-v-ne1 : goal.returns-then-v-ne1
returns-then-v-ne1 c = digit_long _ _ _ c.if-v-ne1.true

pub returns-in_err-digit : goal.returns-in_err-digit
returns-in_err-digit c =
    let h = rw c.in_err-digit.was at c.checked_sub.ensures in
    c.from_residual.ensures ∙ digit_none _ _ _ c.if-v-ne1.false (omega (arith, h))

pub returns : goal.returns
returns c =
    let n = c.in_ok-digit.digit in
    let h = rw c.in_ok-digit.was at c.checked_sub.ensures in
    let t : c.if-a-digit.then_some ≡ (leb c.args.a n && leb n c.args.m) =
    elim c.if-a-digit.branch [
      | then-a-digit w ↦ rw (le-leb _ _ w.if-a-digit.true) w.then_some-is
      | else-a-digit w ↦ rw (lt-leb _ _ w.if-a-digit.false) (w.then_some-is ∙ lt-leb _ _ w.if-a-digit.false)
    ] in
    c.then_some.ensures ∙ rw (t, c.from.ensures) (digit_some _ _ _ c.if-v-ne1.false h.0 n (sym h.1))
