-- All lines so far have been comments, so the lines that are not comments are all in the remaining text. Each line
-- takes at least one byte, so the number of the next line plus the length of the remaining text never grows.
use Rattle.std.proofs.Common.{◌≡◌, ◌+◌, ◌≤◌, length}
use denote.Shadow.{shadow}
use denote.Text.{Utf8}
use Rattle.cal_timer.specs.rules.Lines.{plain_lines}
use Rattle.cal_timer.proofs.lines.first_plain.Given as goal

abbrev pub invariant-loop-line : goal.invariant-loop-line
invariant-loop-line l = record {
  utf8 : shadow (Utf8 l.rest);
  lines : plain_lines l.at l.rest ≡ plain_lines l.fn.number l.fn.text;
  bounds : l.at + length l.rest ≤ l.fn.number + length l.fn.text;
  within : length l.rest ≤ length l.fn.text;
}

abbrev pub decreases-loop-line : goal.decreases-loop-line
decreases-loop-line l = length l.rest
