-- `reading::verdict` meets its contract.
use Rattle.reading.proofs.Files.{files_stop, files_next, files_over, feed_stop, feed_read}
use Rattle.std.proofs.lemmas.Result.{err_from_is_err_and}
use Rattle.meaning.specs.Bytes.{lines_of}
use Rattle.meaning.specs.Refusals.{in_file, speaks}
use Prim.Native.Nat.{ℕ, ◌+◌}
use mathlib.Core.Path.{◌≡◌, sym, ap, ◌∙◌}
use mathlib.Core.List.{List, map}
use native.Mathlib.Omega.{arith}
use lib.ListN.{length, length-map, get_or-map}
use Rattle.reading.proofs.verdict.Goals as goal

pub returns-in_err-read_wholes : goal.returns-in_err-read_wholes
returns-in_err-read_wholes c = let p = err_from_is_err_and c.from_residual.result c.from_residual.ensures.1 in rw (p.1, p.2) (feed_stop _ _ _ c.in_err-read_wholes.ensures)

pub returns-in_err-read_file : goal.returns-in_err-read_file
returns-in_err-read_file c =
    let files = map (λ x. x.now) c.args.files in
    let six : length files ≡ 6 = length-map c.args.files (λ x. x.now) ∙ omega arith in
    let same = ap (λ (s : List ℕ). speaks (in_file (c.loop-i.i + 1) (lines_of s))) (sym (get_or-map (λ x. x.now) c.args.files c.loop-i.i _)) in
    let p = err_from_is_err_and c.from_residual-in_err-read_file.result c.from_residual-in_err-read_file.ensures.1 in
    rw (p.1, p.2) (files_stop files c.loop-i.i _ c.loop-i.invariant (omega arith) _ (c.in_err-read_file.ensures ∙ same) ∙ feed_read _ _ c.in_ok-read_wholes.ensures)

pub loop-i-preserved : goal.loop-i-preserved
loop-i-preserved c =
    let files = map (λ x. x.now) c.args.files in
    let six : length files ≡ 6 = length-map c.args.files (λ x. x.now) ∙ omega arith in
    let same = ap (λ (s : List ℕ). speaks (in_file (c.loop-i.i + 1) (lines_of s))) (sym (get_or-map (λ x. x.now) c.args.files c.loop-i.i _)) in
    files_next files c.loop-i.i _ c.loop-i.invariant (omega arith) (c.in_ok-read_file.ensures ∙ same)

pub returns : goal.returns
returns c =
    let files = map (λ x. x.now) c.args.files in
    let six : length files ≡ 6 = length-map c.args.files (λ x. x.now) ∙ omega arith in
    files_over files c.loop-i.i _ c.loop-i.invariant (omega arith) ∙ feed_read _ _ c.in_ok-read_wholes.ensures
