use Rattle.std.proofs.Common.{◌≡◌, ◌+◌, ◌++◌, ◌<◌, ◌^◌, length, map}
use denote.Shadow.{shadow}
use denote.Text.{Utf8}
use Rattle.std.specs.List.{All, flat_map}
use Rattle.std.specs.Str.Lines.{lines}
use Rattle.cal_timer.specs.rules.Assignments.{trimmed}
use Rattle.cal_timer.specs.rules.Lines.{logical_lines}
use Rattle.cal_timer.specs.rules.TimerText.{without_mark}
use Rattle.cal_lint.specs.rules.Findings.{HasGoodSuggestion, findings_in, found_problems, shown_finding, timer_faults}
use Rattle.cal_lint.specs.rules.Sections.{placed_lines}
use Rattle.cal_lint.proofs.problems.findings.Given as goal

-- the problems found so far, followed by those of the remaining lines, are the problems of all lines
abbrev pub invariant-loop-found : goal.invariant-loop-found
invariant-loop-found l = record {
  utf8 : shadow (Utf8 l.rest);
  problems : map shown_finding l.found.items
      ++ flat_map (found_problems (timer_faults l.text) (lines (without_mark l.text))) (placed_lines l.section (map trimmed (logical_lines l.number l.rest)))
      ≡ findings_in l.text;
  suggestions : All HasGoodSuggestion l.found.items;
  room : l.number + length l.rest < 2 ^ 32;
}

abbrev pub decreases-loop-found : goal.decreases-loop-found
decreases-loop-found l = length l.rest
