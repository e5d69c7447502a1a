-- `index_write::write_read` meets its contract.
use Rattle.std.specs.Prelude.{Ok}
use Rattle.indexes.specs.Index.{index_length}
use Rattle.indexes.proofs.Beside.{asked_range}
use Rattle.id_places.proofs.Own.{sized, ids_count}
use Rattle.index_write.proofs.Whole.{room_of, ranked_of, none_twins, some_twins}
use Rattle.index_write.proofs.Answers.{repeated, short, roomy, laid_for}
use mathlib.Core.Path.{refl, sym, ◌∙◌}
use Prim.Native.Nat.{◌<◌, ◌^◌}
use native.Mathlib.Omega.{arith}
use Rattle.index_write.proofs.write_read.Goals as goal

pub place_ids-n-requires : goal.place_ids-n-requires
place_ids-n-requires c =
    let z = sized _ _ c.requires.0 in
    (omega (arith, ((asked_range c.args.f c.args.s.now).0 c.requires.0.asked).1), z.some, c.requires.1, z.short)

pub returns-then-has_repeat : goal.returns-then-has_repeat
returns-then-has_repeat c =
    let a = c.args in
    let i = c.place_ids-n.ensures.ids in
    let room = room_of _ a.s.now a.t.now _ i.count c.requires.1 c.place_ids-n.ensures.t_len_unchanged in
    let w = ranked_of a.f a.s.now c.requires.0 _ _ _ i room c.sort.ensures.kept_at c.sort.ensures.sorted c.sort.ensures.moved in
    let n = ids_count a.f a.s.now _ i.count in record {
      value = repeated _ _ (some_twins a.f a.s.now c.requires.0 _ _ w (sym c.has_repeat.ensures ∙ c.if-has_repeat.true));
      b_after = refl;
    }

pub length_of-need-requires : goal.length_of-need-requires
length_of-need-requires c =
    let z = sized _ _ c.requires.0 in
    let few : c.place_ids-n.result < 2 ^ 32 = omega (arith, c.place_ids-n.ensures.ids.count, z.few) in
    few

pub returns-then-b-need : goal.returns-then-b-need
returns-then-b-need c =
    let a = c.args in
    let i = c.place_ids-n.ensures.ids in
    let room = room_of _ a.s.now a.t.now _ i.count c.requires.1 c.place_ids-n.ensures.t_len_unchanged in
    let w = ranked_of a.f a.s.now c.requires.0 _ _ _ i room c.sort.ensures.kept_at c.sort.ensures.sorted c.sort.ensures.moved in
    let n = ids_count a.f a.s.now _ i.count in record {
      value = short _ _ (none_twins a.f a.s.now c.requires.0 _ _ w (sym c.has_repeat.ensures ∙ c.if-has_repeat.false)) _ n c.version_of.result c.version_of.ensures (rw c.length_of-need.ensures.0 at c.if-b-need.true);
      b_after = refl;
    }

pub put_index-requires : goal.put_index-requires
put_index-requires c =
    let a = c.args in
    let i = c.place_ids-n.ensures.ids in
    let room = room_of _ a.s.now a.t.now _ i.count c.requires.1 c.place_ids-n.ensures.t_len_unchanged in
    let w = ranked_of a.f a.s.now c.requires.0 _ _ _ i room c.sort.ensures.kept_at c.sort.ensures.sorted c.sort.ensures.moved in
    let n = ids_count a.f a.s.now _ i.count in
    let z = sized _ _ c.requires.0 in
    let none = sym c.has_repeat.ensures ∙ c.if-has_repeat.false in record {
      reads = (c.requires.0, w, rw c.length_of-need.ensures.0 at c.if-b-need.false);
      file_bound = (omega (arith, ((asked_range a.f a.s.now).0 c.requires.0.asked).1), none);
      bytes_len_bound = (z.short, omega (arith, i.count, z.few), c.version_of.ensures);
    }

pub returns : goal.returns
returns c =
    let a = c.args in
    let i = c.place_ids-n.ensures.ids in
    let room = room_of _ a.s.now a.t.now _ i.count c.requires.1 c.place_ids-n.ensures.t_len_unchanged in
    let w = ranked_of a.f a.s.now c.requires.0 _ _ _ i room c.sort.ensures.kept_at c.sort.ensures.sorted c.sort.ensures.moved in
    let n = ids_count a.f a.s.now _ i.count in record {
      value = rw c.length_of-need.ensures.0 (roomy _ _ (none_twins a.f a.s.now c.requires.0 _ _ w (sym c.has_repeat.ensures ∙ c.if-has_repeat.false)) _ n c.version_of.result c.version_of.ensures (rw c.length_of-need.ensures.0 at c.if-b-need.false));
      b_after = laid_for a.f a.s.now _ n c.version_of.result c.version_of.ensures (Ok (index_length c.version_of.result c.place_ids-n.result)) a.b.now _ c.put_index.ensures;
    }
