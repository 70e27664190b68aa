use Rattle.std.proofs.Common.{◌≡◌, map, take}
use Rattle.cal_cron.specs.computed.Translation.{exprs_in}
use Rattle.cal_machine.specs.rules.Machine.{Machine}
use Rattle.cal_answers.specs.rules.LintTargets.{crontab_targets, other_targets}
use Rattle.cal_answers.proofs.loading.split_targets.Given as goal

-- the targets before the loop's index have been split
abbrev pub invariant-loop-target : goal.invariant-loop-target
invariant-loop-target g l =
    ((machine : Machine) → g.T.Tree.shows l.tree machine
    → (map (λ text. text.now) l.split.crontabs.items ≡ crontab_targets exprs_in machine (map (λ text. text.now) (take l.target-index l.targets)))
    × (map (λ text. text.now) l.split.others.items ≡ other_targets exprs_in machine (map (λ text. text.now) (take l.target-index l.targets))))
    × ((machine : Machine) → g.T.Tree.shows l.tree machine → g.T.Tree.shows l.fn.tree machine)
