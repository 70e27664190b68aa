-- `last` is the last valid value of the key among the assignments so far.
use Rattle.std.proofs.Common.{◌≡◌, Some, map, option_map, take}
use Rattle.cal_read.specs.rules.SectionAssignments.{shown_owned_assignment}
use Rattle.cal_unit_index.specs.rules.Settings.{is_taken_as}
use Rattle.cal_load.specs.rules.Timing.{last_value}
use Rattle.cal_load.proofs.timing.last_value.Given as goal

abbrev pub invariant-loop-assignment : goal.invariant-loop-assignment
invariant-loop-assignment l =
    option_map (λ value. value.now) l.last
    ≡ last_value l.key (is_taken_as (Some l.kind)) (map shown_owned_assignment (take l.assignment-index l.assignments))
