-- `forms::clock_of` meets its contract.
use Rattle.forms.proofs.Laws.{either}
use Rattle.meaning.specs.Forms.{clock_of}
use Rattle.meaning.specs.declared.Time.TheVariants.{NoTime}
use Rattle.std.proofs.Common.{sym, lt-ltb, le-ltb}
use Rattle.forms.proofs.clock_of.Goals as goal
use Rattle.forms.proofs.clock_of.Goals.{else-colons-via-then-colons+then-b-lt60+else-e-lt60, else-colons-via-then-colons+else-b-lt60, else-colons-via-else-colons}

pub returns-in_default : goal.returns-in_default
unfolding clock_of
returns-in_default c = rw (c.in_default.is-0, c.in_default.is-1, c.in_default.is-2) (sym (either c.args.colons NoTime))

pub returns-in_default-2 : goal.returns-in_default-2
unfolding clock_of
returns-in_default-2 c = rw (c.in_default.is-0, c.in_default.is-1) (sym (either c.args.colons NoTime))

pub returns-in_default-3 : goal.returns-in_default-3
unfolding clock_of
returns-in_default-3 c = rw c.in_default.is-0 (sym (either c.args.colons NoTime))

pub returns-then-e-lt60 : goal.returns-then-e-lt60
unfolding clock_of
returns-then-e-lt60 c =
    let k = c.in-Some-Some-Some in
    rw (c.if-colons.true, k.is-0, k.is-1, k.is-2, lt-ltb _ _ c.if-b-lt60.true, lt-ltb _ _ c.if-e-lt60.true)

pub returns : goal.returns
unfolding clock_of
returns c =
    let k = c.in-Some-Some-Some in
    elim c.else-colons.branch [
      | else-colons-via-then-colons+then-b-lt60+else-e-lt60 w ↦ rw (w.if-colons.true, k.is-0, k.is-1, k.is-2, lt-ltb _ _ w.if-b-lt60.true, le-ltb _ _ w.if-e-lt60.false)
      | else-colons-via-then-colons+else-b-lt60 w ↦ rw (w.if-colons.true, k.is-0, k.is-1, k.is-2, le-ltb _ _ w.if-b-lt60.false)
      | else-colons-via-else-colons w ↦ rw w.if-colons.false
    ]
