use Rattle.std.proofs.Common.{map, take}
use Rattle.std.specs.List.{AllZip}
use Rattle.cal_machine.specs.rules.Machine.{Machine}
use Rattle.cal_crontabs.specs.rules.Entries.{entry_seen}
use Rattle.cal_answers.specs.rules.CrontabTimers.{IsTimerOfEntry}
use Rattle.cal_answers.proofs.crontab_timers.timers_of_entries.Given as goal

-- so far, there is a timer for each entry before the loop's index
abbrev pub invariant-loop-entry : goal.invariant-loop-entry
invariant-loop-entry g l =
    ((machine : Machine) → g.T.Tree.shows l.tree machine
    → AllZip (IsTimerOfEntry machine) (map entry_seen (take l.entry-index l.entries)) l.timers.items)
    × ((machine : Machine) → g.T.Tree.shows l.tree machine → g.T.Tree.shows l.fn.tree machine)
