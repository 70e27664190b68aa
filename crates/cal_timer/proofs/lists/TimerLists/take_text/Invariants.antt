-- Applying the remaining lines to the lists so far has the same result as applying the whole text to the original
-- lists.
use Rattle.std.proofs.Common.{◌≡◌, ◌+◌, ◌≤◌, length, false}
use denote.Shadow.{shadow}
use denote.Text.{Utf8}
use Rattle.cal_spec.specs.computed.Expr.{expr_in}
use Rattle.cal_timer.specs.rules.Assignments.{assignments_in}
use Rattle.cal_timer.specs.rules.Lines.{logical_lines}
use Rattle.cal_timer.specs.computed.ResumedLists.{resumed}
use Rattle.cal_timer.proofs.lists.TimerLists.take_text.Given as goal

abbrev pub invariant-loop-line : goal.invariant-loop-line
invariant-loop-line l = record {
  utf8 : shadow (Utf8 l.rest);
  lists : resumed expr_in l.fn.self (assignments_in false (logical_lines l.first l.text)) ≡ resumed expr_in l.self (assignments_in l.inside (logical_lines l.number l.rest));
  bounds : l.number + length l.rest ≤ l.first + length l.text;
}

abbrev pub decreases-loop-line : goal.decreases-loop-line
decreases-loop-line l = length l.rest
