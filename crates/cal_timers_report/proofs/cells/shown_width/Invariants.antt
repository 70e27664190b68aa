use Rattle.std.proofs.Common.{◌≡◌, min}
use Rattle.std.specs.List.{sum_by}
use Rattle.cal_timers_report.specs.rules.PrintableText.{char_width}
use Rattle.cal_timers_report.proofs.cells.shown_width.Given as goal

-- `width` is the sum of the widths of the characters that the loop has visited, but at most the greatest `usize`
abbrev pub invariant-loop-sign : goal.invariant-loop-sign
invariant-loop-sign l = l.width ≡ min (sum_by char_width l.yielded) 18446744073709551615
