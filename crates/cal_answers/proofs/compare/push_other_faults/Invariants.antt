use Rattle.std.proofs.Common.{◌≡◌, ◌++◌, string_bytes, take}
use Rattle.std.specs.List.{flat_map}
use Rattle.cal_answers.specs.rules.ErrorText.{line_unless}
use Rattle.cal_answers.proofs.compare.push_other_faults.Given as goal

abbrev pub invariant-loop-fault : goal.invariant-loop-fault
invariant-loop-fault l = string_bytes l.lines ≡ string_bytes l.fn.lines ++ flat_map (line_unless l.known) (take l.fault-index l.faults)
