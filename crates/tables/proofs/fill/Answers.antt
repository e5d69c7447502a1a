-- `tables::fill` meets its contract.
use Rattle.meaning.specs.Columns.{places, header_of}
use Rattle.meaning.specs.Bytes.{lines_of}
use Rattle.records.specs.Waiting.{written_of}
use Rattle.tables.proofs.Turns.{first_room, walk_first}
use Rattle.records.proofs.References.{sought_blank}
use Rattle.tables.proofs.Feeds.{settled_zeroed}
use native.Mathlib.Omega.{arith}
use Rattle.tables.proofs.fill.Goals as goal

pub zero_record-requires : goal.zero_record-requires
zero_record-requires c = first_room _ _ _ _ c.requires.le_f.1.1 c.width_of.ensures

pub fill_lines-requires : goal.fill_lines-requires
fill_lines-requires c =
    let r = c.requires.le_f.1.1 in record {
      le_f = (c.requires.le_f.0, (c.requires.le_f.1.0, record { lines = r.lines; few = r.few; size = r.size; room = omega (arith, r.room) }));
      heading = c.read_header-h.ensures;
      count_le_max_lines = c.requires.count_le_max_lines;
      sought = sought_blank _ _ _ _ _ c.requires.indexed c.blank-a_memo.ensures c.blank-b_memo.ensures;
    }

pub returns : goal.returns
returns c =
    let z = rw c.width_of.ensures at c.zero_record.ensures in record {
      t_after = (λ w refs settled.
          c.fill_lines.ensures.t_after w c.args.t.now refs (settled_zeroed _ w _ _ _ z settled)
          (walk_first c.args.f (written_of c.args.f w (places c.args.f (header_of (lines_of c.args.s.now)))) c.args.s.now _ _ z));
      result_value = c.fill_lines.ensures.result_value;
    }
