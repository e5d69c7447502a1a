-- `rows::width_of` meets its contract.
use mathlib.Core.Path.{◌≡◌, sym, ap}
use native.Mathlib.Omega.{arith}
use Rattle.meaning.specs.Tables.{width_of, widths}
use Rattle.rows.proofs.Laws.{no_width}
use Rattle.rows.proofs.width_of.Goals as goal

pub returns-in-1 : goal.returns-in-1
unfolding width_of widths
returns-in-1 c =
    let e : c.args.file ≡ 1 = omega arith in
    ap width_of (sym e)

pub returns-in-2 : goal.returns-in-2
unfolding width_of widths
returns-in-2 c =
    let e : c.args.file ≡ 2 = omega arith in
    ap width_of (sym e)

pub returns-in-3 : goal.returns-in-3
unfolding width_of widths
returns-in-3 c =
    let e : c.args.file ≡ 3 = omega arith in
    ap width_of (sym e)

pub returns-in-4 : goal.returns-in-4
unfolding width_of widths
returns-in-4 c =
    let e : c.args.file ≡ 4 = omega arith in
    ap width_of (sym e)

pub returns-in-5 : goal.returns-in-5
unfolding width_of widths
returns-in-5 c =
    let e : c.args.file ≡ 5 = omega arith in
    ap width_of (sym e)

pub returns-in-6 : goal.returns-in-6
unfolding width_of widths
returns-in-6 c =
    let e : c.args.file ≡ 6 = omega arith in
    ap width_of (sym e)

pub returns-in_default : goal.returns-in_default
returns-in_default c = no_width _ (λ e. omega arith) (λ e. omega arith) (λ e. omega arith) (λ e. omega arith) (λ e. omega arith) (λ e. omega arith)
