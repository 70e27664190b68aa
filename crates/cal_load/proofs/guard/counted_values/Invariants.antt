-- The list has the values that count of the assignments so far.
use Rattle.std.proofs.Common.{◌≡◌, map, take}
use Rattle.cal_read.specs.rules.SectionAssignments.{shown_owned_assignment}
use Rattle.cal_load.specs.rules.Guard.{counted_values}
use Rattle.cal_load.proofs.guard.counted_values.Given as goal

abbrev pub invariant-loop-assignment : goal.invariant-loop-assignment
invariant-loop-assignment l =
    map (λ value. value.now) l.values.items
    ≡ counted_values l.key (map shown_owned_assignment (take l.assignment-index l.assignments))
