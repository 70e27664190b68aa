use Rattle.std.proofs.Common.{◌≡◌, map, string_bytes, take}
use Rattle.std.specs.List.{flat_map}
use Rattle.cal_answers.specs.rules.ErrorText.{broken_line_if, with_lines}
use Rattle.cal_answers.proofs.answer.push_all_broken.Given as goal

abbrev pub invariant-loop-line : goal.invariant-loop-line
invariant-loop-line l =
    map string_bytes l.lines.items ≡ with_lines (map string_bytes l.fn.lines.items) (flat_map (broken_line_if l.timer) (take l.line-index l.broken))
