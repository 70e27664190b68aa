use Rattle.cal_machine.proofs.follow.+walk.Given as goal

-- how many steps are left
abbrev pub decreases-walk : goal.decreases-walk
decreases-walk g l = l.count
