use Rattle.std.proofs.Common.{◌≡◌, map, string_bytes, take}
use Rattle.std.specs.List.{flat_map}
use Rattle.cal_answers.specs.rules.ErrorText.{ignored_lines, with_lines}
use Rattle.cal_answers.proofs.answer.push_ignored.Given as goal

abbrev pub invariant-loop-timer : goal.invariant-loop-timer
invariant-loop-timer l =
    map string_bytes l.lines.items ≡ with_lines (map string_bytes l.fn.lines.items) (flat_map ignored_lines (take l.timer-index l.timers))
