use Rattle.std.proofs.Common.{◌≡◌, ◌∙◌, ℤ, ◌+ℤ◌, ◌-ℤ◌, pos, ap}
use Rattle.std.proofs.Common.{arith}
use Rattle.cal_civil.proofs.LocalLemmas.{local_arith}
use Rattle.cal_zone.specs.rules.Zone.{local_shown_at, zone_of}
use Rattle.cal_tasks.proofs.clock_shift.shown_unchanged.Goals as goal

pub returns-clause-value : goal.returns-clause-value
returns-clause-value c =
    let is : c.in-Some.before.secs ≡ (c.args.change.secs -ℤ pos 1) = grind (arith, local_arith) in
    let shown : c.local_shown.result ≡ local_shown_at (zone_of c.args.zone) (c.args.change.secs -ℤ pos 1) = c.local_shown.ensures.value ∙ ap (local_shown_at (zone_of c.args.zone)) is in
    let sum = ap (λ (x : ℤ). x +ℤ pos 1) shown in
    grind (arith, local_arith)
