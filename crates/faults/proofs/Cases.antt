-- The worked cases hold: each is computed.
use mathlib.Core.Path.{refl}
use Rattle.meaning.specs.Lists as L
use Rattle.meaning.specs.Bytes as B
use Rattle.meaning.specs.Characters as H
use Rattle.meaning.specs.Columns as C
use Rattle.meaning.specs.Forms as F
use Rattle.meaning.specs.Tables as T
use Rattle.meaning.specs.Refusals as R
use Rattle.faults.specs.List as S
use Rattle.faults.specs.Cases.{AllHold, worked}

-- every definition that a case computes with, opened by one name
definitions : Unit {0}
unfolding L.same L.empty L.some L.place L.find L.find_again L.lesser L.least B.part B.leading_mark B.start_of B.count_lf B.cuts B.end_of B.line_of B.lines_from B.lines_of B.class_of B.quoting B.endings B.next B.run B.good B.fields_go B.fields B.marked B.content B.undouble B.value B.values_of B.values H.sequences H.within H.begun H.awaited H.awaited_after H.well_formed C.stops_columns C.routes_columns C.calendar_columns C.trips_columns C.stop_times_columns C.calendar_dates_columns C.schemas C.schema C.known_at C.name_of C.column_of C.count_of C.places C.field_at C.cell C.row_of F.no_mark F.formed F.is_digit F.digits F.sequence_text F.sequence_of F.clock_of F.clock F.time_text F.time_of F.leap F.month_days F.days_in F.is_day F.date_text F.date_of F.to_point F.pointed F.whole_digits F.tail_digits F.signed F.scaled F.size_text F.degrees_text F.latitude_of F.longitude_of F.digit_text F.choice_of F.route_type_text F.route_type_of F.exception_of F.shape T.file_of T.kind_of T.inner T.placed R.on_line R.rule1 R.rule2 R.may_lack R.ended R.rule4 R.rule5 R.rule6 R.rule7 R.rule8 R.rule9 R.rule10 R.slack R.long R.blank R.formless R.leftmost R.rule11 R.rule12 R.rule13 R.rule14 R.text_tests R.head_tests R.value_tests R.line_tests R.speaks S.after_lf S.unended S.texts_from S.texts_of S.fault_at S.whole_faults S.head_said S.later_faults S.line_faults S.file_faults S.faults_from S.faults_of
definitions = tt

pub all_worked : AllHold worked
unfolding definitions
all_worked = (refl, (refl, (refl, (refl, (refl, (refl, (refl, (refl, (refl, (refl, (refl, (refl, (refl, (refl, (refl, (refl, (refl, (refl, (refl, (refl, (refl, tt)))))))))))))))))))))
