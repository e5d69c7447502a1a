-- `listing::comes_after` meets its contract.
use mathlib.Core.Path.{◌∙◌}
use Prim.Native.Nat.{◌<◌, ◌^◌}
use native.Mathlib.Omega.{arith}
use lib.IntN.{pos}
use lib.ListN.{get_or}
use lib.Signed.{mag}
use Rattle.num.proofs.Laws.{kept}
use Rattle.meaning.specs.Pages.{place_in}
use Rattle.listing.proofs.Laws.{less_behind}
use Rattle.listing.proofs.comes_after.Goals as goal

pub returns : goal.returns
returns c =
    let file : mag (get_or c.args.e.now 0 (pos 0)) < 2 ^ 31 = omega arith in
    let line : mag (get_or c.args.e.now 1 (pos 0)) < 2 ^ 31 = omega arith in
    let rule : mag (get_or c.args.e.now 2 (pos 0)) < 2 ^ 31 = omega arith in
    (simp (kept (get_or c.args.e.now 0 (pos 0)) file, kept (get_or c.args.e.now 1 (pos 0)) line, kept (get_or c.args.e.now 2 (pos 0)) rule) at c.lt.ensures) ∙ less_behind c.args.p (place_in c.args.e.now)
