use Rattle.std.proofs.Common.{◌≡◌, filter, take}
use Rattle.cal_answers.specs.rules.DueFaults.{concerns}
use Rattle.cal_answers.specs.rules.ErrorText.{fault_lines, unreadable_lines}
use Rattle.cal_answers.proofs.due_faults.due_faults.Given as goal

abbrev pub invariant-loop-fault : goal.invariant-loop-fault
invariant-loop-fault l =
    fault_lines l.faults.items ≡ unreadable_lines (filter (concerns l.index l.about l.loaded) (take l.fault-index l.index.unreadable.items))
