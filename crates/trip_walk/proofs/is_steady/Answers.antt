-- `trip_walk::is_steady` meets its contract.
use borrow.Author.Tests.{not-true, not-false}
use Rattle.meaning.proofs.ListLaws.{both}
use Rattle.trip_walk.proofs.File.{file_start, file_turn, file_end, file_stop}
use mathlib.Core.Path.{◌≡◌, refl, sym}
use mathlib.Core.Bool.{false}
use native.Mathlib.Omega.{arith}
use Rattle.trip_walk.proofs.is_steady.Goals as goal

pub loop-i-init : goal.loop-i-init
loop-i-init c = file_start _ _ c.requires.by_index

pub returns-then-not-goes_on : goal.returns-then-not-goes_on
returns-then-not-goes_on c = record {
  by_index_2 = λ s e. both false e refl;
  by_index_3 = λ s room. file_stop _ s _ _ _ _ _ c.loop-i.invariant c.loop-i-test.true room c.goes_on.ensures (not-true _ c.if-not-goes_on.true-raw);
  only_met = c.loop-i.invariant.kept;
}

pub loop-i-preserved : goal.loop-i-preserved
loop-i-preserved c = file_turn _ _ _ _ _ _ _ c.loop-i.invariant c.goes_on.ensures (not-false _ c.if-not-goes_on.false-raw) (rw c.new.ensures at c.trip_at-r.ensures) c.mark.ensures

pub returns : goal.returns
returns c =
    let n = c.args.n in
    let e : c.loop-i.i ≡ n = omega (arith, c.loop-i.auto.i-end) in record {
      by_index_2 = λ s z. file_end _ s _ (rw e at (c.loop-i.invariant.goes s));
      by_index_3 = λ s room. sym (rw e at (c.loop-i.invariant.goes s));
      only_met = c.loop-i.invariant.kept;
    }
