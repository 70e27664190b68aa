use Rattle.std.proofs.Common.{◌≡◌, map, take}
use Rattle.cal_timers_text.specs.rules.ErrorLines.{unread_words}
use Rattle.cal_unit_index.specs.rules.Index.{shown_fault}
use Rattle.cal_answers.specs.rules.ErrorText.{fault_lines, unreadable_lines}
use Rattle.cal_answers.specs.rules.LintTimers.{path_words}
use Rattle.cal_answers.proofs.index.target_faults.Given as goal

-- the errors so far have the lines and the messages for the faults before the loop's index
abbrev pub invariant-loop-fault : goal.invariant-loop-fault
invariant-loop-fault l =
    (fault_lines l.faults.items ≡ unreadable_lines (take l.fault-index l.unreadable))
    × (map unread_words l.faults.items ≡ map path_words (map shown_fault (take l.fault-index l.unreadable)))
