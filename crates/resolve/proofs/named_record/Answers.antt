-- `resolve::named_record` meets its contract.
use Rattle.seeking.proofs.First.{names_none, names_some}
use mathlib.Core.Path.{sym, ◌∙◌}
use native.Mathlib.Omega.{arith}
use Rattle.resolve.proofs.named_record.Goals as goal

pub returns-then-is_empty_value : goal.returns-then-is_empty_value
returns-then-is_empty_value c = record {
  first = names_none _ _ _ _ _ (sym c.is_empty_value.ensures ∙ c.if-is_empty_value.true);
  upper_bound = omega arith;
  ready = c.requires;
}

pub returns : goal.returns
returns c =
    let e = sym c.is_empty_value.ensures ∙ c.if-is_empty_value.false in record {
      first = names_some _ _ _ _ _ _ e c.first_record.ensures.first;
      upper_bound = c.first_record.ensures.upper_bound;
      ready = c.first_record.ensures.ready;
    }
