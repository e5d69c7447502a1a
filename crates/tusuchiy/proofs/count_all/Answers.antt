-- `tusuchiy::count_all` meets its contract.
use mathlib.Core.Path.{◌≡◌, refl, sym, ap, ◌∙◌}
use mathlib.Core.List.{[], map}
use native.Mathlib.Omega.{arith}
use lib.ListN.{length, drop_of_length-le, length-map, length-set, get_or-map}
use Rattle.meaning.specs.Bytes.{count_lf}
use Rattle.meaning.proofs.Arrays.{drop_next, fill_next, fill_all}
use Rattle.tusuchiy.proofs.count_all.Goals as goal

pub loop-i-init : goal.loop-i-init
loop-i-init c = (omega arith, (refl, refl))

pub loop-i-preserved : goal.loop-i-preserved
loop-i-preserved c =
    let files = map (λ x. x.now) c.args.files in
    let six : length files ≡ 6 = omega (arith, length-map c.args.files (λ x. x.now)) in
    let n = c.count_lf.ensures.0 ∙ ap count_lf (sym (get_or-map (λ x. x.now) c.args.files c.loop-i.i _)) in (
      omega arith,
      (
        omega (arith, length-set c.loop-i.counts c.loop-i.i c.count_lf.result, c.loop-i.invariant.1.0),
        fill_next c.loop-i.counts _ c.loop-i.i _ _ (omega (arith, c.loop-i.invariant.1.0)) (rw (drop_next [] files c.loop-i.i (omega arith), ← n) at c.loop-i.invariant.1.1),
      ),
    )

pub returns : goal.returns
returns c =
    let files = map (λ x. x.now) c.args.files in
    let six : length files ≡ 6 = omega (arith, length-map c.args.files (λ x. x.now)) in
    fill_all c.loop-i.counts _ c.loop-i.i (omega (arith, c.loop-i.invariant.1.0)) (rw (drop_of_length-le files {i = c.loop-i.i} (omega arith)) at c.loop-i.invariant.1.1)
