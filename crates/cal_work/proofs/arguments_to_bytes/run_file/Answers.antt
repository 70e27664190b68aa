use Rattle.std.proofs.Common.{◌≡◌, refl, rules}
use Rattle.cal_work.specs.computed.WorkSteps.{ran}
use Rattle.cal_work.proofs.WorkLemmas.{file_stops, stays_open, timer_runs}
use Rattle.cal_work.proofs.arguments_to_bytes.run_file.Goals as goal

pub returns-in-Ok-clause-runs : goal.returns-in-Ok-clause-runs
returns-in-Ok-clause-runs g c =
    let input = c.run_timer.ensures.reported in
    let same : c.map_err.result ≡ ran c.run_timer.result = search rules in
    let kept = stays_open g.S.Inputs.opens _ _ _ _ c.in-Ok.ensures.opened.1 c.run_timer.ensures.unread in
    rw same (timer_runs _ _ _ _ kept c.run_timer.result _ _ _ _ _ _ _ _ input.0 c.in-Ok.ensures.holds input.2 c.run_timer.ensures.sure input.1 input.3)

pub returns-in-Err-Unopened-clause-runs : goal.returns-in-Err-Unopened-clause-runs
returns-in-Err-Unopened-clause-runs g c =
    let given = rw c.in-Err-Unopened.field-0-is at c.in-Err-Unopened.ensures.unopened in
    file_stops _ _ _ _ c.unopened_stop.result _ _ (given refl) c.unopened_stop.ensures
