use Rattle.std.proofs.Common.{◌≡◌, map, string_bytes, take}
use Rattle.cal_answers.specs.rules.ErrorText.{with_lines}
use Rattle.cal_timers_text.specs.rules.ErrorLines.{ignored_line}
use Rattle.cal_answers.proofs.answer.push_invalid.Given as goal

abbrev pub invariant-loop-ignored : goal.invariant-loop-ignored
invariant-loop-ignored l =
    map string_bytes l.lines.items ≡ with_lines (map string_bytes l.fn.lines.items) (map (ignored_line l.timer) (take l.ignored-index l.invalid))
