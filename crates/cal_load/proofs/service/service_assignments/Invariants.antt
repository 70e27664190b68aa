-- The assignments of the files so far have been appended.
use Rattle.std.proofs.Common.{◌≡◌, map, take}
use Rattle.cal_read.specs.rules.SectionAssignments.{shown_owned_assignment}
use Rattle.cal_unit_index.specs.rules.Files.{shown_unit_text}
use Rattle.cal_load.specs.rules.Service.{service_assignments}
use Rattle.cal_load.proofs.service.service_assignments.Given as goal

abbrev pub invariant-loop-file : goal.invariant-loop-file
invariant-loop-file l =
    map shown_owned_assignment l.found.items ≡ service_assignments (map shown_unit_text (take l.file-index l.files))
