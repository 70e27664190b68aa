-- The errors so far, followed by those of the remaining assignments, are all errors of the text. Counting the remaining
-- assignments as well gives the counts after the text.
use Rattle.std.proofs.Common.{◌≡◌, ◌++◌, length, map}
use Rattle.cal_spec.specs.computed.Expr.{expr_in}
use Rattle.cal_read.specs.computed.CountedFaults.{counted_faults, counts_over}
use Rattle.cal_read.specs.rules.TimerFaults.{in_file}
use Rattle.cal_read.specs.rules.TimerTexts.{assignments_at}
use Rattle.cal_read.proofs.faults.take_faults.Given as goal

abbrev pub invariant-loop-owned : goal.invariant-loop-owned
invariant-loop-owned l = record {
  faults : l.found.items ++ map (in_file l.index) (counted_faults expr_in l.counts l.assignments)
      ≡ l.fn.found.items ++ map (in_file l.index) (counted_faults expr_in l.fn.counts (assignments_at l.file));
  counts : counts_over l.counts l.assignments ≡ counts_over l.fn.counts (assignments_at l.file);
}

abbrev pub decreases-loop-owned : goal.decreases-loop-owned
decreases-loop-owned l = length l.assignments
