use Rattle.cal_timers_report.specs.rules.ReportView.{timer_seen}
use Rattle.cal_timers_report.proofs.RowLemmas.{rows_put}
use Rattle.cal_answers.specs.rules.Output.{IsShownAs}
use Rattle.cal_answers.proofs.timers.shown_timers.Goals as goal

pub loop-timer-preserved : goal.loop-timer-preserved
loop-timer-preserved c =
    let same = c.deref-timer-items.ensures.value in
    rows_put (IsShownAs c.args.context c.args.count) timer_seen c.args.loaded.now.timers.items c.loop-timer.timer-index c.timer-item.result _ _ c.in_ok-shown.shown
    (rw same at c.loop-timer-test.true) (rw same at c.timer-item.is) c.loop-timer.invariant (rw c.in_ok-warnings.ensures at c.in_ok-shown.ensures) c.in_ok-push.ensures.items
