use Rattle.std.proofs.Common.{◌≡◌, ◌++◌, string_bytes, take}
use Rattle.std.specs.List.{flat_map}
use Rattle.cal_answers.specs.rules.ErrorText.{unfound_line}
use Rattle.cal_answers.proofs.lint.push_unfound.Given as goal

abbrev pub invariant-loop-fault : goal.invariant-loop-fault
invariant-loop-fault l = string_bytes l.lines ≡ string_bytes l.fn.lines ++ flat_map (unfound_line l.of_files) (take l.fault-index l.timers)
