use Rattle.std.proofs.Common.{◌≡◌, ◌++◌, map, take}
use Rattle.cal_answers.specs.rules.LintCandidates.{shown_candidate}
use Rattle.cal_answers.specs.rules.LintTimers.{ignored_setting}
use Rattle.cal_answers.proofs.setting_problems.add_settings.Given as goal

abbrev pub invariant-loop-setting : goal.invariant-loop-setting
invariant-loop-setting l =
    map shown_candidate l.found.items ≡ map shown_candidate l.fn.found.items ++ map (ignored_setting l.timer l.files) (take l.setting-index l.settings)
