-- `reading::read_wholes` meets its contract.
use Rattle.reading.proofs.Wholes.{wholes_next, wholes_all}
use Rattle.reading.specs.Wholes.{whole_of, wholes_of, whole_claims}
use Rattle.meaning.specs.Bytes.{count_lf}
use Rattle.meaning.specs.Refusals.{speaks}
use Rattle.meaning.specs.Lists.{empty}
use Rattle.meaning.specs.Tables.{file_of}
use Prim.Native.Nat.{ℕ, ◌+◌}
use mathlib.Core.Path.{◌≡◌, refl, sym, ap, ◌∙◌}
use mathlib.Core.Bool.{Bool}
use mathlib.Core.List.{List, [], map}
use native.Mathlib.Omega.{arith}
use lib.ListN.{length, get_or, length-map, length-set, get_or-map}
use Rattle.reading.proofs.read_wholes.Goals as goal

pub loop-i-init : goal.loop-i-init
unfolding wholes_of
loop-i-init c = (refl, refl)

pub whole_of-requires : goal.whole_of-requires
unfolding count_lf
whole_of-requires c =
    let i = c.loop-i.i in
    (omega arith, omega arith, ap (λ (l : List ℕ). get_or l i 0) c.requires ∙ get_or-map count_lf (map (λ x. x.now) c.args.files) i [] ∙ ap count_lf (get_or-map (λ x. x.now) c.args.files i _))

pub loop-i-preserved : goal.loop-i-preserved
unfolding file_of empty
loop-i-preserved c =
    let files = map (λ x. x.now) c.args.files in
    let six : length files ≡ 6 = length-map c.args.files (λ x. x.now) ∙ omega arith in
    let rooms : length c.args.rooms ≡ 6 = omega (arith, c.well_formed) in
    let w = c.whole_of.ensures files (rw (← get_or-map (λ x. x.now) c.args.files 5 _)) in (
      omega (arith, length-set c.loop-i.wholes c.loop-i.i c.whole_of.result, c.loop-i.invariant.0),
      wholes_next files c.args.rooms c.loop-i.wholes c.loop-i.i c.loop-i.invariant.1 (omega arith) (omega arith) (omega (arith, c.loop-i.invariant.0)) _ (w ∙ ap (λ (s : List ℕ). whole_of files (c.loop-i.i + 1) s (get_or c.args.rooms c.loop-i.i 0)) (sym (get_or-map (λ x. x.now) c.args.files c.loop-i.i _))),
    )

pub returns : goal.returns
returns c =
    let files = map (λ x. x.now) c.args.files in
    let six : length files ≡ 6 = length-map c.args.files (λ x. x.now) ∙ omega arith in
    c.order.ensures ∙ ap (λ (ws : List (List Bool)). speaks (whole_claims ws)) (wholes_all files c.args.rooms c.loop-i.wholes c.loop-i.i c.loop-i.invariant.1 (omega arith) (omega (arith, c.loop-i.invariant.0)))
