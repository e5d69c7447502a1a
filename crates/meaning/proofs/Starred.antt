-- The computed cases hold: the starred ones, the errors of a hurried hand, the worked examples.
use mathlib.Core.Path.{refl}
use Rattle.meaning.specs.Lists as L
use Rattle.meaning.specs.Bytes as B
use Rattle.meaning.specs.Characters as H
use Rattle.meaning.specs.Columns as C
use Rattle.meaning.specs.Forms as F
use Rattle.meaning.specs.Tables as T
use Rattle.meaning.specs.Refusals as R
use Rattle.meaning.specs.Rules as U
use Rattle.meaning.specs.Pages as P
use Rattle.meaning.specs.Findings as D
use Rattle.meaning.specs.Outcome as O
use Rattle.meaning.specs.Calls as K
use Rattle.meaning.specs.Cases.{AllHold, starred, hurried, worked}

-- every definition that a case computes with, opened by one name
definitions : Unit {0}
unfolding L.same L.empty L.any L.some L.keep L.last_has L.flat L.laid L.place L.find L.find_again L.lesser L.least L.stands B.part B.leading_mark B.start_of B.count_lf B.cuts B.end_of B.line_of B.lines_from B.lines_of B.class_of B.quoting B.endings B.next B.run B.good B.fields_go B.fields B.marked B.content B.undouble B.value B.values_of B.values H.sequences H.within H.begun H.awaited H.awaited_after H.well_formed C.stops_columns C.routes_columns C.calendar_columns C.trips_columns C.stop_times_columns C.calendar_dates_columns C.schemas C.schema C.known_at C.name_of C.column_of C.count_of C.places C.field_at C.cell C.row_of C.header_of C.rows_of F.no_mark F.formed F.is_digit F.digits F.sequence_text F.sequence_of F.clock_of F.clock F.time_text F.time_of F.leap F.month_days F.days_in F.is_day F.date_text F.date_of F.to_point F.pointed F.whole_digits F.tail_digits F.signed F.scaled F.size_text F.degrees_text F.latitude_of F.longitude_of F.digit_text F.choice_of F.route_type_text F.route_type_of F.exception_of F.shape T.file_of T.feed_of T.rows_in T.stop_ids T.route_ids T.service_ids T.trip_ids T.dated_ids T.refer T.choice_or T.or_zero T.or_minus T.pack_from T.packed_days T.kind_of T.inner T.placed T.id_place T.stop_numbers T.route_numbers T.service_numbers T.trip_numbers T.time_numbers T.exception_numbers T.widths T.width_of T.id_column T.numbers_of T.record_of T.records_of T.filled R.on_line R.rule1 R.rule2 R.rule3 R.may_lack R.ended R.rule4 R.rule5 R.rule6 R.rule7 R.rule8 R.rule9 R.rule10 R.slack R.long R.blank R.formless R.leftmost R.rule11 R.rule12 R.rule13 R.rule14 R.text_tests R.head_tests R.value_tests R.line_tests R.on_lines R.in_file R.in_files R.over_files R.claims R.speaks R.verdict_of U.rule20 U.exception_day U.same_service_and_date U.rule20·dates U.dangling U.rule21·stops U.in_neither U.rule21·trips U.rule21·times U.other_kind U.kind_of_parent U.rule22 U.rule23 U.rule24 U.rule25 U.arrives U.departs U.timed U.untimed U.rule26 U.rule27 U.sequence U.of_trip U.sequence_at U.is_of U.rule28 U.outruns U.rule29 U.of_trip_line U.first_of_trip U.rule30 U.ties_before U.is_first U.is_last U.some_untimed U.open_ended U.rule31 U.rule60 U.rule61 U.rule62 U.added_rules U.stop_rules U.route_rules U.service_rules U.trip_rules U.time_rules U.date_rules U.record_count U.rules_of U.on_records U.bindings_of U.bindings D.listed P.above P.behind P.page_of P.room_for P.rowed P.handed_of P.last_place D.findings_of D.answer_of D.answer_numbers O.filled_from O.read_outcome O.outcome K.written K.calls
definitions = tt

pub all_hold : AllHold starred
unfolding definitions
all_hold = (refl, (refl, (refl, (refl, (refl, (refl, (refl, (refl, ((refl, refl), (refl, (refl, (refl, tt))))))))))))

pub none_slips : AllHold hurried
unfolding definitions
none_slips = (refl, (refl, (refl, tt)))

pub all_worked : AllHold worked
unfolding definitions
all_worked = (refl, (refl, ((refl, refl), (refl, (refl, (refl, (refl, (refl, (refl, (refl, (refl, (refl, (refl, (refl, (refl, (refl, (refl, (refl, (refl, (refl, (refl, (refl, (refl, (refl, (refl, (refl, (refl, (refl, (refl, (refl, (refl, (refl, (refl, (refl, (refl, (refl, (refl, (refl, (refl, (refl, (refl, (refl, (refl, (refl, (refl, (refl, (refl, (refl, (refl, (refl, (refl, (refl, (refl, (refl, (refl, (refl, ((refl, refl), (refl, tt))))))))))))))))))))))))))))))))))))))))))))))))))))))))))
