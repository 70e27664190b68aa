use Rattle.std.proofs.Common.{◌≡◌, map, string_bytes, take}
use Rattle.cal_answers.specs.rules.ErrorText.{with_lines}
use Rattle.cal_timers_text.specs.rules.ErrorLines.{unusable_zone_line}
use Rattle.cal_answers.proofs.answer.push_unusable.Given as goal

abbrev pub invariant-loop-zone : goal.invariant-loop-zone
invariant-loop-zone l =
    map string_bytes l.lines.items ≡ with_lines (map string_bytes l.fn.lines.items) (map (unusable_zone_line l.timer) (take l.zone-index l.zones))
