-- `forms::route_type_text` meets its contract.
use Rattle.forms.proofs.Laws.{route_eleven, route_twelve, route_first, route_second, route_digit}
use Rattle.std.proofs.Common.{rules, ◌∙◌}
use Rattle.forms.proofs.route_type_text.Goals as goal
use Rattle.forms.proofs.route_type_text.Goals.{in_default-via-then-v-lt2, in_default-via-else-v-lt2+then-v-lt3+in-49+in_default-1, in_default-via-else-v-lt2+then-v-lt3+in_default-1, in_default-via-else-v-lt2+else-v-lt3}

pub returns-in-49 : goal.returns-in-49
returns-in-49 c = search (rules, route_eleven)

pub returns-in-49-2 : goal.returns-in-49-2
returns-in-49-2 c = search (rules, route_twelve)

pub returns-in_default : goal.returns-in_default
returns-in_default c =
    elim c.in_default.branch [
      | in_default-via-then-v-lt2 w ↦ c.digit_text.ensures ∙ route_digit _ (λ e. search rules)
      | in_default-via-else-v-lt2+then-v-lt3+in-49+in_default-1 w ↦ c.digit_text.ensures ∙ route_second _ (search rules) (search rules)
      | in_default-via-else-v-lt2+then-v-lt3+in_default-1 w ↦ c.digit_text.ensures ∙ route_first _ (search rules)
      | in_default-via-else-v-lt2+else-v-lt3 w ↦ c.digit_text.ensures ∙ route_digit _ (λ e. search rules)
    ]
