-- `tables::order_all` meets its contract.
use Rattle.tables.proofs.Behind.{file_behind, six_behind, cover_each}
use Rattle.tables.proofs.Marking.{noted_all, none_told}
use mathlib.Core.Path.{refl}
use mathlib.Core.List.{[]}
use native.Mathlib.Omega.{arith}
use Rattle.tables.proofs.order_all.Goals as goal

pub order_file-requires : goal.order_file-requires
order_file-requires c = (omega arith, (omega arith, rw (file_behind c.args.files 1 0 refl) at c.requires.room))

pub order_file-requires-2 : goal.order_file-requires-2
order_file-requires-2 c = (omega arith, (omega arith, rw (file_behind c.args.files 2 1 refl) at c.requires.room_2))

pub order_services-requires : goal.order_services-requires
order_services-requires c = rw (file_behind c.args.files 3 2 refl) at c.requires.fits

pub order_file-requires-3 : goal.order_file-requires-3
order_file-requires-3 c = (omega arith, (omega arith, rw (file_behind c.args.files 4 3 refl) at c.requires.room_3))

pub order_dates-requires : goal.order_dates-requires
order_dates-requires c = rw (file_behind c.args.files 6 5 refl) at c.requires.fits_2

pub returns : goal.returns
returns c =
    let l = c.args.files in
    let k = cover_each l _ c.requires.blank.1 in record {
      same = (refl, refl, refl, refl, refl, refl);
      stop_times_after = refl;
      ordered = rw (file_behind l 1 0 refl) c.order_file.ensures.ordered;
      ordered_2 = rw (file_behind l 2 1 refl) c.order_file-2.ensures.ordered;
      ordered_if = rw (file_behind l 3 2 refl) c.order_services.ensures.ordered_if;
      ordered_3 = rw (file_behind l 4 3 refl) c.order_file-3.ensures.ordered;
      ordered_if_2 = rw (file_behind l 6 5 refl) c.order_dates.ensures.ordered_if;
      noted = rw (six_behind l (omega arith)) (noted_all _ _ _ _ _ _ _ _ _ _ _ _ c.order_file.ensures.marking c.order_file-2.ensures.marking c.order_services.ensures.marking c.order_file-3.ensures.marking c.order_dates.ensures.marking c.requires.blank.0 (k.0, k.1, k.2, k.3, k.5));
      by_index = none_told _ _ _ _ [] _ _ _ _ _ _ _ c.order_file.ensures.marking c.order_file-2.ensures.marking c.order_services.ensures.marking c.order_file-3.ensures.marking c.order_dates.ensures.marking c.requires.blank.0 (k.0, k.1, k.2, k.3, k.5);
    }
