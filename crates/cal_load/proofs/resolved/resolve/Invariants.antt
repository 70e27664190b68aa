use Rattle.std.proofs.Common.{◌≡◌, map}
use Rattle.cal_read.specs.rules.SectionAssignments.{shown_owned_assignment}
use Rattle.cal_load.specs.rules.Resolved.{resolved_in, unclear_in}
use Rattle.cal_load.proofs.resolved.resolve.Given as goal

abbrev pub invariant-loop-assignment : goal.invariant-loop-assignment
invariant-loop-assignment l = record {
  resolved : map shown_owned_assignment l.resolved.assignments.items ≡ resolved_in l.name (map shown_owned_assignment l.yielded);
  unclear : map shown_owned_assignment l.resolved.unclear.items ≡ unclear_in l.name (map shown_owned_assignment l.yielded);
}
