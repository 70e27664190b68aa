-- The logical lines of the whole text are the line being joined and the logical lines after it. The line being joined
-- continues in the remaining text, or it is complete.
use Rattle.std.proofs.Common.{◌≡◌, ◌+◌, ◌≤◌, ◌<◌, length, string_bytes}
use denote.Shadow.{shadow}
use denote.Text.{Utf8}
use Rattle.cal_timer.specs.rules.Lines.{logical_lines, plain_lines}
use Rattle.cal_timer.proofs.GroupLemmas.{goes_on_in}
use Rattle.cal_timer.proofs.lines.first_logical.Given as goal

abbrev pub invariant-loop-goes_on : goal.invariant-loop-goes_on
invariant-loop-goes_on l = record {
  utf8 : shadow (Utf8 l.rest);
  lines : logical_lines l.fn.number l.fn.text ≡ goes_on_in l.first.number (string_bytes l.joined) l.goes_on (plain_lines l.next l.rest);
  bounds : l.next + length l.rest ≤ l.fn.number + length l.fn.text;
  shorter : length l.rest < length l.fn.text;
}

abbrev pub decreases-loop-goes_on : goal.decreases-loop-goes_on
decreases-loop-goes_on l = length l.rest
