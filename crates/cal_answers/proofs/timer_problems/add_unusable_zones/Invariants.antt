use Rattle.std.proofs.Common.{◌≡◌, ◌++◌, map, take}
use Rattle.cal_answers.specs.rules.LintCandidates.{shown_candidate}
use Rattle.cal_answers.specs.rules.LintTimers.{unusable_zone}
use Rattle.cal_answers.proofs.timer_problems.add_unusable_zones.Given as goal

abbrev pub invariant-loop-zone : goal.invariant-loop-zone
invariant-loop-zone l =
    map shown_candidate l.found.items ≡ map shown_candidate l.fn.found.items ++ map (unusable_zone l.timer l.files) (take l.zone-index l.zones)
