-- `file_rules::judge_line` meets its contract.
use mathlib.Core.Path.{◌≡◌}
use native.Mathlib.Omega.{arith}
use Rattle.file_rules.proofs.Seen.{in_file_lem}
use Rattle.file_rules.proofs.judge_line.Goals as goal

pub returns-in-1 : goal.returns-in-1
returns-in-1 c =
    λ w n h inside.
    let e : c.args.f ≡ 1 = omega arith in
    in_file_lem _ 1 e w _ _ (λ g. c.stop_line.ensures w n _ g inside) h

pub returns-in-2 : goal.returns-in-2
returns-in-2 c =
    λ w n h inside.
    let e : c.args.f ≡ 2 = omega arith in
    in_file_lem _ 2 e w _ _ (λ g. c.route_line.ensures w n _ _ g inside) h

pub returns-in-3 : goal.returns-in-3
returns-in-3 c =
    λ w n h inside.
    let e : c.args.f ≡ 3 = omega arith in
    in_file_lem _ 3 e w _ _ (λ g. c.service_line.ensures w n _ g inside) h

pub returns-in-4 : goal.returns-in-4
returns-in-4 c =
    λ w n h inside.
    let e : c.args.f ≡ 4 = omega arith in
    in_file_lem _ 4 e w _ _ (λ g. c.trip_line.ensures w n _ g inside) h

pub returns-in-5 : goal.returns-in-5
returns-in-5 c =
    λ w n h inside.
    let e : c.args.f ≡ 5 = omega arith in
    in_file_lem _ 5 e w _ _ (λ g. c.time_line.ensures w n g inside) h

pub returns-in_default : goal.returns-in_default
returns-in_default c =
    λ w n h inside.
    let e : c.args.f ≡ 6 = omega arith in
    in_file_lem _ 6 e w _ _ (λ g. c.date_line.ensures w n _ _ g inside) h
