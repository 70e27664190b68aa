-- No assignment has been found yet: the assignments in the remaining lines are exactly those that remained when `next`
-- was called. The iterator itself has not been changed.
use Rattle.std.proofs.Common.{◌≡◌, ◌+◌, ◌<◌, ◌^◌, length}
use denote.Shadow.{shadow}
use denote.Text.{Utf8}
use Rattle.cal_timer.specs.rules.Lines.{logical_lines}
use Rattle.cal_read.specs.rules.SectionAssignments.{section_assignments}
use Rattle.cal_read.proofs.section_assignments.Assignments.next.Given as goal

abbrev pub invariant-loop-line : goal.invariant-loop-line
invariant-loop-line l = record {
  utf8 : shadow (Utf8 l.rest);
  left : l.fn.self ≡ section_assignments l.self-inside.section.now l.inside (logical_lines l.number l.rest);
  kept : l.fn.self ≡ section_assignments l.self-inside.section.now l.self-inside.inside (logical_lines l.self-inside.number l.self-inside.rest.now);
  whole : l.self-inside.number + length l.self-inside.rest.now < 2 ^ 32;
  room : l.number + length l.rest < 2 ^ 32;
}

abbrev pub decreases-loop-line : goal.decreases-loop-line
decreases-loop-line l = length l.rest
