-- `forms::clock_at` meets its contract.
use Rattle.forms.proofs.Laws.{hours_below, clock_join}
use Rattle.std.proofs.Common.{◌≡◌, ◌+◌, ◌&&◌, sym, ◌∙◌, get_or, eqb, eq-eqb, ne_eqb}
use Rattle.forms.proofs.clock_at.Goals as goal
use Rattle.forms.proofs.clock_at.Goals.{then-v-k-eq58, else-v-k-eq58}

pub clock_of-requires : goal.clock_of-requires
clock_of-requires c = λ n e. hours_below _ _ c.requires.1 n (sym c.number-h.ensures.0 ∙ e)

pub returns : goal.returns
returns c =
    let v = c.args.v.now in
    let k = c.args.k in
    let colons : c.if-v-k-eq58.clock_of ≡ (eqb (get_or v k 0) 58 && eqb (get_or v (k + 3) 0) 58) =
    elim c.if-v-k-eq58.branch [
      | then-v-k-eq58 w ↦ rw (eq-eqb _ _ w.if-v-k-eq58.true) w.clock_of-is
      | else-v-k-eq58 w ↦ rw (ne_eqb _ _ w.if-v-k-eq58.false) (w.clock_of-is ∙ ne_eqb _ _ w.if-v-k-eq58.false)
    ] in
    clock_join _ _ _ _ _ _ _ c.number-h.ensures.0 c.number-m.ensures.0 c.requires.0 c.number-x.ensures.0 colons c.clock_of.ensures
