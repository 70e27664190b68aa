use Rattle.std.proofs.Common.{◌≡◌, ◌++◌, codes, string_bytes, take}
use Rattle.std.specs.List.{flat_map}
use Rattle.cal_timers_text.specs.rules.ErrorLines.{fault_line}
use Rattle.cal_answers.proofs.answer.push_fault_lines.Given as goal

abbrev pub invariant-loop-fault : goal.invariant-loop-fault
invariant-loop-fault l = string_bytes l.lines ≡ string_bytes l.fn.lines ++ flat_map (λ fault. fault_line fault ++ codes "\n") (take l.fault-index l.faults)
