-- `file_rules::numbers_of` meets its contract.
use mathlib.Core.Path.{refl}
use native.Mathlib.Omega.{arith}
use Rattle.judging.specs.Judging.{filled_up}
use Rattle.file_rules.specs.Lines.{rule_numbers, rule_count}
use Rattle.file_rules.proofs.Walk.{of_file}
use Rattle.file_rules.proofs.numbers_of.Goals as goal

pub returns-in-1 : goal.returns-in-1
unfolding filled_up rule_numbers rule_count
returns-in-1 c = of_file c.args.asked _ 1 _ (omega arith) refl

pub returns-in-2 : goal.returns-in-2
unfolding filled_up rule_numbers rule_count
returns-in-2 c = of_file c.args.asked _ 2 _ (omega arith) refl

pub returns-in-3 : goal.returns-in-3
unfolding filled_up rule_numbers rule_count
returns-in-3 c = of_file c.args.asked _ 3 _ (omega arith) refl

pub returns-in-4 : goal.returns-in-4
unfolding filled_up rule_numbers rule_count
returns-in-4 c = of_file c.args.asked _ 4 _ (omega arith) refl

pub returns-in-5 : goal.returns-in-5
unfolding filled_up rule_numbers rule_count
returns-in-5 c = of_file c.args.asked _ 5 _ (omega arith) c.times_asked.ensures

pub returns-in_default : goal.returns-in_default
unfolding filled_up rule_numbers rule_count
returns-in_default c = of_file c.args.asked _ 6 _ (omega arith) refl
