-- `file_rules::times_asked` meets its contract.
use Rattle.judging.specs.Judging.{filled_up}
use Rattle.file_rules.specs.Lines.{rule_numbers, rule_count}
use Rattle.file_rules.proofs.times_asked.Goals as goal

pub returns-in-Plain : goal.returns-in-Plain
unfolding filled_up rule_numbers rule_count
returns-in-Plain c = rw c.in-Plain.is

pub returns-in-Boards : goal.returns-in-Boards
unfolding filled_up rule_numbers rule_count
returns-in-Boards c = rw c.in-Boards.is
