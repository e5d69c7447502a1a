-- The worked examples hold: each is computed.
use mathlib.Core.Path.{refl}
use Rattle.meaning.specs.Lists as L
use Rattle.meaning.specs.Bytes as B
use Rattle.meaning.specs.Characters as H
use Rattle.meaning.specs.Columns as C
use Rattle.meaning.specs.Forms as F
use Rattle.meaning.specs.Tables as T
use Rattle.meaning.specs.Refusals as R
use Rattle.meaning.specs.Rules as U
use Rattle.ranking.specs.Ranks as K
use Rattle.indexes.specs.Order as O
use Rattle.indexes.specs.Index as I
use Rattle.indexes.specs.Cases.{AllHold, worked}

-- every definition that a case computes with, opened by one name
definitions : Unit {0}
unfolding L.same L.empty L.any L.some L.flat L.laid L.place L.find L.find_again L.lesser L.least L.stands B.part B.leading_mark B.start_of B.count_lf B.cuts B.end_of B.line_of B.lines_from B.lines_of B.class_of B.quoting B.endings B.next B.run B.good B.fields_go B.fields B.marked B.content B.undouble B.value B.values_of B.values H.sequences H.within H.begun H.awaited H.awaited_after H.well_formed C.stops_columns C.routes_columns C.calendar_columns C.trips_columns C.stop_times_columns C.calendar_dates_columns C.schemas C.schema C.known_at C.name_of C.column_of C.count_of C.places C.field_at C.cell C.row_of C.header_of C.rows_of F.no_mark F.formed F.is_digit F.digits F.digit_text F.choice_of F.route_type_text F.route_type_of F.shape T.file_of T.id_column R.on_line R.rule1 R.rule2 R.may_lack R.ended R.rule4 R.rule5 R.rule6 R.rule7 R.rule8 R.rule9 R.rule10 R.slack R.long R.blank R.formless R.leftmost R.rule11 R.rule12 R.rule13 R.rule14 R.text_tests R.head_tests R.value_tests R.line_tests R.on_lines R.in_file R.speaks U.rule20 K.before O.ids_of O.id_of O.repeats O.put_in O.in_order O.ranked I.low_first I.number_at I.mark I.index_of I.index_length I.entry I.rule40 I.rule41 I.other_version I.misfits I.rule42 I.strays I.rule43 I.rule44 I.version_of I.index_tests I.spoken I.writer_tests I.indexed I.lone_claims I.lone_verdict I.asked_of I.barred_or I.checked I.wrote I.written I.index_numbers
definitions = tt

pub all_worked : AllHold worked
unfolding definitions
all_worked = ((refl, refl), ((refl, refl), ((refl, refl), ((refl, refl), ((refl, refl), ((refl, refl), ((refl, refl), ((refl, refl), (refl, (refl, (refl, (refl, (refl, (refl, (refl, (refl, (refl, (refl, (refl, (refl, (refl, (refl, (refl, (refl, (refl, (refl, (refl, (refl, (refl, (refl, (refl, (refl, ((refl, refl), (refl, ((refl, refl), tt)))))))))))))))))))))))))))))))))))
