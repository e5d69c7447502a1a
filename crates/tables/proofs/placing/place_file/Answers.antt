-- `tables::placing::place_file` meets its contract.
use Rattle.tables.specs.Walk.{placing}
use Rattle.meaning.specs.Columns.{places, header_of}
use Rattle.meaning.specs.Bytes.{lines_of}
use Rattle.tables.proofs.Turns.{first_room, walk_first}
use native.Mathlib.Omega.{arith}
use Rattle.tables.proofs.placing.place_file.Goals as goal

pub zero_record-requires : goal.zero_record-requires
zero_record-requires c = first_room _ _ _ _ c.requires.1.1 c.width_of.ensures

pub place_lines-requires : goal.place_lines-requires
place_lines-requires c =
    let s = c.requires in
    let r = s.1.1 in record {
      le_f = (s.0, (s.1.0, record { lines = r.lines; few = r.few; size = r.size; room = omega (arith, r.room) }));
      heading = c.read_header-h.ensures;
    }

pub returns : goal.returns
returns c =
    let z = rw c.width_of.ensures at c.zero_record.ensures in record {
      t_after = c.place_lines.ensures.t_after c.args.t.now (walk_first c.args.f (placing c.args.f (places c.args.f (header_of (lines_of c.args.s.now)))) c.args.s.now _ _ z);
      telling = c.place_lines.ensures.telling;
      result_value = c.place_lines.ensures.result_value;
    }
