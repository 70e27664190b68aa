use Rattle.std.proofs.Common.{◌≡◌, drop, map}
use Rattle.cal_answers.specs.rules.BootTime.{boot_second_among}
use Rattle.cal_answers.proofs.boot_time.boot_second_among.Given as goal

-- the first line with the key is the first one among those that the loop has yet to visit
abbrev pub invariant-loop-line : goal.invariant-loop-line
invariant-loop-line l =
    boot_second_among (map (λ line. line.now) (drop l.line-index l.lines)) ≡ boot_second_among (map (λ line. line.now) l.lines)
