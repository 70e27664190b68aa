-- The writer hasn't failed, and the headings of the lines from the loop's index on remain to be written.
use Rattle.std.proofs.Common.{drop, map}
use Rattle.std.specs.List.{flat_map}
use Rattle.cal_bytes.proofs.PutLemmas.{PutsUpTo}
use Rattle.cal_timer.specs.rules.TimerView.{shown}
use Rattle.cal_report.specs.rules.TimerReport.{headings_text}
use Rattle.cal_report.proofs.TimerLemmas.{line_text}
use Rattle.cal_report.proofs.timer_report.put_headings.Given as goal

abbrev pub invariant-loop-line : goal.invariant-loop-line
invariant-loop-line g l =
    PutsUpTo g.W.Sink l.fn.out l.out (flat_map (line_text l.label) (drop l.line-index l.lines)) (headings_text l.label (map shown l.lines))
