-- Timers that are read from several texts, such as a unit file and its drop-ins: the assignments of each text follow
-- those of the texts before it (systemd.unit(5)). Each text starts outside any section.
use Rattle.std.specs.Prelude.{◌≡◌, ◌<◌, ◌+◌, ℕ, false, List, [], length, take, Option, None, Some, Result}
use Rattle.std.specs.List.{flat_map}
use Rattle.cal_spec.specs.declared.spec_fault.SpecFault.{SpecFault}
use Rattle.cal_timer.specs.rules.Lines.{logical_lines}
use Rattle.cal_timer.specs.rules.Assignments.{Assignment, assignments_in}
use Rattle.cal_timer.specs.rules.TimerText.{without_mark}
use Rattle.cal_timer.specs.rules.TimerEntries.{first_fault}
use Rattle.cal_read.specs.declared.texts.NumberedText.{NumberedText}
use Rattle.cal_timer.specs.declared.fault.TimerFault.{TimerFault}
use Rattle.cal_timer.specs.declared.fault.TimerFault.TheVariants.{NothingToDo}

-- the assignments in the section `Timer` of one text, which may begin with a byte order mark
abbrev pub assignments_at : NumberedText → List Assignment
assignments_at file = assignments_in false (logical_lines file.first (without_mark file.text.now))

-- the assignments of several texts, in order
abbrev pub assignments_of : List NumberedText → List Assignment
assignments_of = flat_map assignments_at

-- `fault` is the error of reading these texts as one timer. If an index is given, `fault` is the first error in the
-- text with this index, and the texts before this text have no errors. If the index is None, none of the texts has an
-- error, and `fault` is `NothingToDo`, the error of a timer whose list of expressions is empty.
abbrev pub IsFirstOf : {E : Type 0} → (List ℕ → Result E SpecFault) → List NumberedText → Option ℕ → TimerFault → Type 0
IsFirstOf read files None fault = (first_fault read [] (assignments_of files) ≡ None) × (fault ≡ NothingToDo)
IsFirstOf read files (Some k) fault =
    (k < length files) × (first_fault read [] (assignments_of (take k files)) ≡ None)
    × (first_fault read [] (assignments_of (take (k + 1) files)) ≡ Some fault)
