use Rattle.std.proofs.Common.{◌≡◌, map, take}
use Rattle.cal_timer.specs.rules.TimerView.{shown}
use Rattle.cal_tasks.proofs.from_crontab.texts_of.Given as goal

-- the texts so far are those of the lines before the loop's index
abbrev pub invariant-loop-line : goal.invariant-loop-line
invariant-loop-line l = map (λ text. text.now) l.texts.items ≡ map (λ entry. entry.text) (map shown (take l.line-index l.lines))
