-- The grouping of physical lines into logical ones, as a relation: systemd.syntax(7).
use Rattle.std.specs.Prelude.{◌≡◌, true, false, List, [], ◌∷◌}
use Rattle.std.specs.List.{flat_map}
use Rattle.cal_timer.specs.rules.Lines.{Group, Line, is_continued}

-- the lines of all groups, in order
abbrev pub lines_of : List Group → List Line
lines_of = flat_map (λ group. group.first ∷ group.more)

-- a group that is complete: all its lines but the last are continued, and the last is not
abbrev pub IsClosed : Line → List Line → Type 0
IsClosed line [] = is_continued line.text ≡ false
IsClosed line (next ∷ more) = (is_continued line.text ≡ true) × IsClosed next more

-- a group that the end of the file may cut off: all its lines but the last are continued, and the last may be
-- continued, too
abbrev pub IsOpen : Line → List Line → Type 0
IsOpen line [] = Unit {0}
IsOpen line (next ∷ more) = (is_continued line.text ≡ true) × IsOpen next more

-- every group is complete, except that the end of the file may cut off the last one
abbrev pub AreGroups : List Group → Type 0
AreGroups [] = Unit {0}
AreGroups (group ∷ []) = IsOpen group.first group.more
AreGroups (group ∷ next ∷ rest) = IsClosed group.first group.more × AreGroups (next ∷ rest)
