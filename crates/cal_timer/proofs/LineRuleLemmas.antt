-- `groups` computes the only grouping of lines that follows the rule of `LineRule`.
use Rattle.std.proofs.Common.{arith, ◌≡◌, true, false, List, [], ◌∷◌, ◌++◌, refl, ap, ◌∙◌}
use Rattle.cal_timer.specs.rules.LineRule.{AreGroups, IsClosed, IsOpen, lines_of}
use Rattle.cal_timer.specs.rules.Lines.{Group, Line, continued_by, groups, is_continued}

-- the lines of `continued_by line all` are `line` and then the lines of `all`; so `groups` keeps all lines in their
-- order (`lines_of_groups`)
lines_of_continued : (line : Line) (all : List Group) → lines_of (continued_by line all) ≡ line ∷ lines_of all
lines_of_continued line [] = refl
lines_of_continued line (group ∷ rest) = refl

pub lines_of_groups : (lines : List Line) → lines_of (groups lines) ≡ lines
unfolding groups
lines_of_groups [] = refl
lines_of_groups (line ∷ lines) = grind (arith, lines_of_groups lines, lines_of_continued line (groups lines))

-- `AreGroups` stays true when a continued line is added to the first group, and also when a line that isn't continued
-- is put in front as a group of its own (`ended_groups`); so it is true of the result of `groups` (`are_groups`)
continued_groups : (line : Line) (all : List Group) → is_continued line.text ≡ true → AreGroups all → AreGroups (continued_by line all)
continued_groups line [] e h = tt
continued_groups line (group ∷ []) e h = (e, h)
continued_groups line (group ∷ next ∷ rest) e h = ((e, h.0), h.1)

ended_groups : (line : Line) (all : List Group) → is_continued line.text ≡ false → AreGroups all → AreGroups (record { first = line; more = [] } ∷ all)
ended_groups line [] e h = tt
ended_groups line (group ∷ rest) e h = (e, h)

pub are_groups : (lines : List Line) → AreGroups (groups lines)
unfolding groups
are_groups [] = tt
are_groups (line ∷ lines) = grind (arith, are_groups lines, continued_groups line (groups lines), ended_groups line (groups lines))

-- `groups` puts the lines of a complete group together again, and also those of a group that the end of the file cuts
-- off (`open_group`). So what `groups` returns is the only list of groups with these lines that satisfies `AreGroups`
-- (`groups_of_lines`).
closed_group : (line : Line) (more rest : List Line) → IsClosed line more → groups ((line ∷ more) ++ rest) ≡ record { first = line; more = more } ∷ groups rest
unfolding groups
closed_group line [] rest e = rw e refl
closed_group line (next ∷ more) rest h = rw h.0 (ap (continued_by line) (closed_group next more rest h.1))

open_group : (line : Line) (more : List Line) → IsOpen line more → groups ((line ∷ more) ++ []) ≡ record { first = line; more = more } ∷ []
unfolding groups
open_group line [] h = grind arith
open_group line (next ∷ more) h = rw h.0 (ap (continued_by line) (open_group next more h.1))

pub groups_of_lines : (all : List Group) → AreGroups all → groups (lines_of all) ≡ all
unfolding groups
groups_of_lines [] h = refl
groups_of_lines (group ∷ []) h = open_group group.first group.more h
groups_of_lines (group ∷ next ∷ rest) h =
    closed_group group.first group.more (lines_of (next ∷ rest)) h.0 ∙ ap (λ all. group ∷ all) (groups_of_lines (next ∷ rest) h.1)
