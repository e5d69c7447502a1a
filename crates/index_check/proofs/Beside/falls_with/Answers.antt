-- `index_check::Beside::falls_with` meets its contract.
use Rattle.index_check.proofs.Laws.{ids_as}
use Rattle.indexes.proofs.Beside.{beside}
use Rattle.id_places.proofs.Own.{sized}
use native.Mathlib.Omega.{arith}
use Rattle.index_check.proofs.Beside.falls_with.Goals as goal

pub place_ids-requires : goal.place_ids-requires
place_ids-requires c =
    let x = c.args.self.now in
    let k = sized x.file x.bytes.now (record { asked = x.asked; verdict = x.verdict }) in
    (omega (arith, (beside x.file x.bytes.now).outside.0 x.asked), k.some, c.requires.room, k.short)

pub falls-requires : goal.falls-requires
falls-requires c =
    let x = c.args.self.now in record {
      placed = (ids_as x.file x.bytes.now _ x.records _ x.count c.place_ids.ensures.ids, omega (arith, c.requires.room, c.place_ids.ensures.t_len_unchanged));
      entries = c.requires.entries;
    }
