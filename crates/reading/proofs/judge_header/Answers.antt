-- `reading::judge_header` meets its contract.
use Rattle.columns.proofs.Laws.{noted_by, told_some, told_none}
use Rattle.reading.proofs.Heads.{head_text, head_again, head_lacks, head_good, under_bad, under_good, same_columns}
use mathlib.Core.Path.{refl, sym, ◌∙◌}
use Rattle.reading.proofs.judge_header.Goals as goal

pub returns-in-Some : goal.returns-in-Some
returns-in-Some c = under_bad _ _ _ (head_text _ _ _ c.in-Some.ensures.result_value)

pub names_of-names-requires-clause-count_value : goal.names_of-names-requires-clause-count_value
names_of-names-requires-clause-count_value c = (c.walk_fields-m.ensures.good_value.1, noted_by _ _ _ c.blank_starts-starts.ensures c.walk_fields-m.ensures.starts_after)

pub returns-in-Some-again : goal.returns-in-Some-again
returns-in-Some-again c =
    let w = told_some _ _ (sym c.names_of-names.ensures.1 ∙ c.in-Some-again.is) in
    under_bad _ _ _ (head_again _ _ c.in_default.ensures.result_value _ w.0 w.1)

pub returns-then-lacks : goal.returns-then-lacks
returns-then-lacks c =
    let o = c.names_of-names.ensures in
    let z = told_none _ (sym o.1 ∙ c.in_default-again.is) in
    under_bad _ _ _ (head_lacks _ _ c.in_default.ensures.result_value 0 (sym z) refl _ o.0 _ c.lacks.ensures c.if-lacks.true)

pub returns : goal.returns
returns c =
    let o = c.names_of-names.ensures in
    let z = told_none _ (sym o.1 ∙ c.in_default-again.is) in
    under_good _ _ (head_good _ _ c.in_default.ensures.result_value 0 (sym z) refl _ o.0 _ c.lacks.ensures c.if-lacks.false) _ (same_columns _ _ _ _ o.0 (c.in_default.ensures.fields_value refl))
