-- `reading::is_of_form` meets its contract.
use Rattle.std.specs.Prelude.{is_some}
use Rattle.std.proofs.Common.{ap, ◌∙◌}
use Rattle.meaning.specs.Forms.{shape}
use Rattle.reading.proofs.is_of_form.Goals as goal

pub returns-in-Text : goal.returns-in-Text
unfolding shape
returns-in-Text c = rw c.in-Text.is

pub returns-in-Date : goal.returns-in-Date
unfolding shape
returns-in-Date c = rw c.in-Date.is (c.is_some.ensures ∙ ap is_some c.date_of.ensures.0)

pub returns-in-Latitude : goal.returns-in-Latitude
unfolding shape
returns-in-Latitude c = rw c.in-Latitude.is (c.is_some-in-Latitude.ensures ∙ ap is_some c.latitude_of.ensures.0)

pub returns-in-Longitude : goal.returns-in-Longitude
unfolding shape
returns-in-Longitude c = rw c.in-Longitude.is (c.is_some-in-Longitude.ensures ∙ ap is_some c.longitude_of.ensures.0)

pub returns-in-Sequence : goal.returns-in-Sequence
unfolding shape
returns-in-Sequence c = rw c.in-Sequence.is (c.is_some-in-Sequence.ensures ∙ ap is_some c.sequence_of.ensures.0)

pub returns-in-Choice : goal.returns-in-Choice
unfolding shape
returns-in-Choice c = rw c.in-Choice.is (c.is_some-in-Choice.ensures ∙ ap is_some c.choice_of.ensures.0)

pub returns-in-RouteType : goal.returns-in-RouteType
unfolding shape
returns-in-RouteType c = rw c.in-RouteType.is (c.is_some-in-RouteType.ensures ∙ ap is_some c.route_type_of.ensures.0)

pub returns-in-ExceptionType : goal.returns-in-ExceptionType
unfolding shape
returns-in-ExceptionType c = rw c.in-ExceptionType.is (c.is_some-in-ExceptionType.ensures ∙ ap is_some c.exception_of.ensures.0)

pub returns-in-Time : goal.returns-in-Time
unfolding shape
returns-in-Time c = rw c.in-Time.is c.is_time.ensures
