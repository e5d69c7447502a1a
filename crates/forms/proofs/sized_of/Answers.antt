-- `forms::sized_of` meets its contract.
use Rattle.forms.specs.Parts.{sized}
use Rattle.forms.proofs.Laws.{within_limit}
use mir.Syntax.{w32}
use mir.Val.{SFits}
use mir.Facts.{to_z-of_z}
use Rattle.std.proofs.Common.{sym, ◌∙◌, arith}
use Rattle.forms.proofs.sized_of.Goals as goal

pub returns-in_err-w : goal.returns-in_err-w
unfolding sized
returns-in_err-w c = rw c.in_err-w.was c.from_residual.ensures

pub returns-in_err-n : goal.returns-in_err-n
unfolding sized
returns-in_err-n c = rw (c.in_ok-w.was, c.in_err-n.was) c.from_residual-in_err-n.ensures

pub returns-then-is_beyond : goal.returns-then-is_beyond
unfolding sized
returns-then-is_beyond c =
    let b = sym c.is_beyond.ensures ∙ c.if-is_beyond.true in
    rw (c.in_ok-w.was, c.in_ok-n.was, b)

pub overflow_mul-w : goal.overflow_mul-w
overflow_mul-w c =
    let k = within_limit _ _ _ _ c.is_beyond.ensures c.if-is_beyond.false in
    omega (arith, k)

pub overflow_add-w : goal.overflow_add-w
overflow_add-w c =
    let k = within_limit _ _ _ _ c.is_beyond.ensures c.if-is_beyond.false in
    let n = c.requires.1 _ _ c.in_ok-n.was in
    omega (arith, k, n)

pub signed_of-requires : goal.signed_of-requires
signed_of-requires c =
    let k = within_limit _ _ _ _ c.is_beyond.ensures c.if-is_beyond.false in
    let n = c.requires.1 _ _ c.in_ok-n.was in
    omega (arith, k, n)

pub returns : goal.returns
unfolding sized
returns c =
    let b = sym c.is_beyond.ensures ∙ c.if-is_beyond.false in
    let z : SFits w32 c.signed_of.result = record { sfits = c.signed_of.type_inv } in
    rw (c.in_ok-w.was, c.in_ok-n.was, b, to_z-of_z z, c.signed_of.ensures)
