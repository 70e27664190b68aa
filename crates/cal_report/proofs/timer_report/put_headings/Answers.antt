use Rattle.std.proofs.Common.{arith}
use Rattle.cal_bytes.proofs.PutLemmas.{left_respelled, put_cut, put_next, put_none}
use Rattle.cal_report.proofs.TimerLemmas.{headings-all, lines-first}
use Rattle.cal_report.proofs.timer_report.put_headings.Goals as goal

pub loop-line-init : goal.loop-line-init
loop-line-init g c = left_respelled (put_none c.requires) (headings-all c.args.label.now c.args.lines.now)

pub returns-in_err-put_heading : goal.returns-in_err-put_heading
returns-in_err-put_heading g c =
    put_cut _ (lines-first c.args.label.now c.args.lines.now c.loop-line.line-index c.line-item.result _ (omega arith) c.line-item.is c.as_str.ensures.value)
    c.from_residual.ensures.0 c.loop-line.invariant c.in_err-put_heading.ensures

pub loop-line-preserved : goal.loop-line-preserved
loop-line-preserved g c =
    put_next (lines-first c.args.label.now c.args.lines.now c.loop-line.line-index c.line-item.result _ (omega arith) c.line-item.is c.as_str.ensures.value)
    c.loop-line.invariant c.in_ok-put_heading.ensures
