use Rattle.std.proofs.Common.{◌≡◌, ◌∙◌, ◌++◌, ap, false, map}
use Rattle.cal_spec.specs.computed.Expr.{expr_in}
use Rattle.cal_timer.specs.rules.TimerView.{shown_assignment}
use Rattle.cal_read.specs.computed.CountedFaults.{counted_faults, counts_over}
use Rattle.cal_read.specs.rules.TimerFaults.{in_file}
use Rattle.cal_read.specs.rules.TimerTexts.{assignments_at}
use Rattle.cal_read.proofs.SectionAssignmentsLemmas.{assignments_of_timer}
use Rattle.cal_read.proofs.TimerFaultsLemmas.{ended_counts, ended_faults, step_counts, step_faults}
use Rattle.cal_read.proofs.faults.take_faults.Goals as goal

pub loop-owned-init : goal.loop-owned-init
loop-owned-init c =
    let all : c.new-assignments.result ≡ assignments_at c.args.file.now = (rw c.without_mark.ensures.mark at c.new-assignments.ensures) ∙ assignments_of_timer false _ in
    record {
      faults = ap (λ left. c.args.found.now.items ++ map (in_file c.args.index) (counted_faults expr_in c.args.counts left)) all;
      counts = ap (counts_over c.args.counts) all;
    }

pub loop-owned-preserved : goal.loop-owned-preserved
loop-owned-preserved c =
    let left = rw (c.in-Some.is, ← c.as_assignment-assignment.ensures) at c.in_ok-owned.ensures.next in
    record {
      faults = step_faults expr_in c.args.index c.loop-owned.found.items c.push_fault.new.found.items c.loop-owned.counts c.with-counts.result c.loop-owned.assignments (shown_assignment c.as_assignment-assignment.result) c.next.new.self c.in_ok-fault.fault
          left c.in_ok-fault.ensures c.with-counts.ensures c.in_ok-push_fault.ensures ∙ c.loop-owned.invariant.faults;
      counts = step_counts c.loop-owned.counts c.with-counts.result c.loop-owned.assignments (shown_assignment c.as_assignment-assignment.result) c.next.new.self left c.with-counts.ensures ∙ c.loop-owned.invariant.counts;
    }

pub returns-clause-faults : goal.returns-clause-faults
returns-clause-faults c =
    let none = rw c.in_default.is at c.in_ok-owned.ensures.next in
    ended_faults expr_in c.args.index c.loop-owned.found.items c.loop-owned.counts c.loop-owned.assignments none ∙ c.loop-owned.invariant.faults

pub returns-clause-counts : goal.returns-clause-counts
returns-clause-counts c =
    let none = rw c.in_default.is at c.in_ok-owned.ensures.next in
    ended_counts c.loop-owned.counts c.loop-owned.assignments none ∙ c.loop-owned.invariant.counts
