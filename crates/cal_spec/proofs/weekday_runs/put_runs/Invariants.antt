-- The writer hasn't failed, and what is still to be written is the text of the runs from the day `first` on.
use Rattle.std.proofs.Common.{◌-◌, drop, length}
use Rattle.cal_bytes.proofs.PutLemmas.{PutsUpTo}
use Rattle.cal_spec.specs.rules.WeekdayRuns.{runs_from, runs_text}
use Rattle.cal_spec.proofs.WeekdayLemmas.{led}
use Rattle.cal_spec.proofs.weekday_runs.put_runs.Given as goal

abbrev pub invariant-loop-first : goal.invariant-loop-first
invariant-loop-first g l = PutsUpTo g.W.Sink l.fn.out l.out (led l.lead (runs_from l.first (drop l.first l.days))) (runs_text (runs_from 0 l.fn.days))

abbrev pub decreases-loop-first : goal.decreases-loop-first
decreases-loop-first g l = length l.days - l.first
