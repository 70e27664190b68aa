use Rattle.cal_timer.specs.rules.TimerView.{shown}
use Rattle.cal_timers_report.specs.rules.ReportView.{line_seen}
use Rattle.cal_timers_report.proofs.RowLemmas.{rows_pushed}
use Rattle.cal_tasks.specs.rules.ShowReport.{IsShownLine}
use Rattle.cal_tasks.proofs.show_report.shown_lines.Goals as goal

pub loop-line-preserved : goal.loop-line-preserved
loop-line-preserved c =
    rows_pushed (IsShownLine c.args.timer.now) shown line_seen c.args.lines.now c.loop-line.line-index c.line-item.result _ _ c.shown_line-shown.result
    c.loop-line-test.true c.line-item.is c.loop-line.invariant c.shown_line-shown.ensures c.in_ok-push.ensures.items
