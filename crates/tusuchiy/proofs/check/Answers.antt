-- `tusuchiy::check` meets its contract.
use mathlib.Core.Path.{refl, sym, ap, ◌∙◌}
use native.Mathlib.Omega.{arith}
use lib.ListN.{length-map}
use Rattle.meaning.specs.Refusals.{verdict_of}
use Rattle.tusuchiy.proofs.Bounds.{small_refusal}
use Rattle.tusuchiy.proofs.Laws.{outcome_readable, outcome_refused}
use Rattle.tusuchiy.proofs.check.Goals as goal

pub checked_from-requires : goal.checked_from-requires
checked_from-requires c = record {
  read = ap (verdict_of _) (sym c.lengths-rooms.ensures) ∙ sym c.verdict.ensures ∙ c.in-Ok.is;
  counts_value = c.count_all-counts.ensures;
  i_bound = (omega arith, λ k h. absurd (omega arith));
}

pub returns-in-Ok : goal.returns-in-Ok
returns-in-Ok c =
    let read = ap (verdict_of _) (sym c.lengths-rooms.ensures) ∙ sym c.verdict.ensures ∙ c.in-Ok.is in record {
      same = c.checked_from.ensures.same;
      asked_value = outcome_readable _ _ _ _ _ _ read c.checked_from.ensures.asked_value;
      small = c.checked_from.ensures.small;
    }

pub returns-in-Err : goal.returns-in-Err
returns-in-Err c =
    let e = ap (verdict_of _) (sym c.lengths-rooms.ensures) ∙ sym c.verdict.ensures ∙ c.in-Err.is in
    let six = length-map c.args.files (λ x. x.now) in record {
      same = (refl, refl, refl, refl, refl, refl);
      asked_value = outcome_refused _ _ _ _ _ _ e;
      small = small_refusal _ _ _ e (omega (arith, six)) (omega (arith, six));
    }
