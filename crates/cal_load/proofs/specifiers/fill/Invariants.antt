use Rattle.std.proofs.Common.{◌≡◌, length, map}
use Rattle.cal_load.specs.rules.Specifiers.{all_joined, filling_of, joined, parts_of, shown_draft}
use Rattle.cal_load.proofs.specifiers.fill.Given as goal

-- what the parts so far and the remaining parts stand for, joined, is what all parts stand for
abbrev pub invariant-loop-part : goal.invariant-loop-part
invariant-loop-part l =
    joined (shown_draft l.draft) (all_joined (map (filling_of l.name) (parts_of l.rest)))
    ≡ all_joined (map (filling_of l.name) (parts_of l.value))

abbrev pub decreases-loop-part : goal.decreases-loop-part
decreases-loop-part l = length l.rest
