use Rattle.cal_unit_index.proofs.follow.+follow.Given as goal

-- how many stems may still be looked up
abbrev pub decreases-follow : goal.decreases-follow
decreases-follow l = l.count
