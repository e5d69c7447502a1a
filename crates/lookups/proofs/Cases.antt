-- The worked examples hold: each is computed.
use mathlib.Core.Path.{refl}
use Rattle.meaning.specs.Lists as L
use Rattle.meaning.specs.Bytes as B
use Rattle.ranking.specs.Ranks as K
use Rattle.indexes.specs.Index as I
use Rattle.lookups.specs.Lookup as A
use Rattle.lookups.specs.Cases.{AllHold, worked}

-- every definition that a case computes with, opened by one name
definitions : Unit {0}
unfolding L.same L.empty B.part B.count_lf B.class_of B.quoting B.endings B.next B.run B.good B.fields_go B.fields B.marked B.content B.undouble B.value K.by_byte K.compare I.number_at I.mark I.index_length I.entry I.rule40 I.other_version I.rule41 I.version_of I.version_named A.own_count A.miscounted A.barred A.outside A.misplaced A.not_one A.standing_to A.standing A.halve A.sought A.lookup A.lookup_numbers
definitions = tt

pub all_worked : AllHold worked
unfolding definitions
all_worked = (refl, (refl, (refl, (refl, (refl, (refl, (refl, (refl, (refl, (refl, (refl, (refl, (refl, (refl, (refl, (refl, (refl, (refl, (refl, (refl, (refl, (refl, (refl, (refl, (refl, (refl, (refl, (refl, (refl, (refl, (refl, (refl, (refl, tt)))))))))))))))))))))))))))))))))
