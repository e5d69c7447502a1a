-- `index_check::Beside::is_falling` meets its contract.
use Rattle.id_places.proofs.Own.{sized}
use native.Mathlib.Omega.{arith}
use Rattle.index_check.proofs.Beside.is_falling.Goals as goal

pub falls_up_to-requires-2-clause-room : goal.falls_up_to-requires-2-clause-room
falls_up_to-requires-2-clause-room c =
    let x = c.args.self.now in
    (omega (arith, x.count, (sized x.file x.bytes.now (record { asked = x.asked; verdict = x.verdict })).few), omega arith)
