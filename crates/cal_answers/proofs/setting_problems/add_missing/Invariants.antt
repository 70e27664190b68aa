-- On each machine and search path of which this is the index, the errors about the timers before the loop's index have
-- been appended.
use Rattle.std.proofs.Common.{◌≡◌, ◌++◌, ℕ, List, map, take}
use Rattle.std.specs.List.{flat_map}
use Rattle.cal_machine.specs.rules.Machine.{Machine}
use Rattle.cal_unit_index.specs.rules.Index.{IsIndexOf}
use Rattle.cal_answers.specs.rules.LintCandidates.{shown_candidate}
use Rattle.cal_answers.specs.rules.LintTimers.{missing_error, missing_unit}
use Rattle.cal_answers.proofs.setting_problems.add_missing.Given as goal

abbrev pub invariant-loop-timer : goal.invariant-loop-timer
invariant-loop-timer l =
    (machine : Machine) (search_path : List (List ℕ)) → IsIndexOf machine search_path l.index
    → map shown_candidate l.found.items ≡ map shown_candidate l.fn.found.items
    ++ flat_map (λ timer. missing_error timer (missing_unit machine search_path timer)) (take l.timer-index l.timers)
