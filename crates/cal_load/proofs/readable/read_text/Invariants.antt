-- The assignments so far, followed by those of the remaining lines, are all assignments, and systemd hasn't stopped
-- yet.
use Rattle.std.proofs.Common.{◌≡◌, ◌+◌, ◌≤◌, ◌++◌, false, length, map}
use denote.Shadow.{shadow}
use denote.Text.{Utf8}
use Rattle.cal_timer.specs.rules.Lines.{logical_lines}
use Rattle.cal_read.specs.rules.SectionAssignments.{section_assignments, shown_owned_assignment}
use Rattle.cal_load.specs.rules.Readable.{broken_in, lines_until_broken}
use Rattle.cal_load.proofs.readable.read_text.Given as goal

abbrev pub invariant-loop-assignments : goal.invariant-loop-assignments
invariant-loop-assignments l = record {
  utf8 : shadow (Utf8 l.rest);
  found : map shown_owned_assignment l.assignments.items ++ section_assignments l.name l.inside (lines_until_broken l.is_cut (logical_lines l.number l.rest))
      ≡ section_assignments l.name false (lines_until_broken l.is_cut (logical_lines l.first l.text));
  broken : broken_in l.is_cut (logical_lines l.number l.rest) ≡ broken_in l.is_cut (logical_lines l.first l.text);
  bounds : l.number + length l.rest ≤ l.first + length l.text;
}

abbrev pub decreases-loop-assignments : goal.decreases-loop-assignments
decreases-loop-assignments l = length l.rest
