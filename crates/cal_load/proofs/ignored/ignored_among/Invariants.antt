use Rattle.std.proofs.Common.{◌≡◌, map}
use Rattle.cal_read.specs.rules.SectionAssignments.{shown_owned_assignment}
use Rattle.cal_load.specs.rules.IgnoredSettings.{ignored_among}
use Rattle.cal_load.proofs.ignored.ignored_among.Given as goal

abbrev pub invariant-loop-assignment : goal.invariant-loop-assignment
invariant-loop-assignment l =
    l.ignored.items ≡ ignored_among l.name l.counted (map shown_owned_assignment l.yielded)
