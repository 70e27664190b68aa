use Rattle.std.proofs.Common.{◌≡◌, length}
use Rattle.std.specs.List.{list_any}
use Rattle.cal_load.specs.rules.Specifiers.{is_strange_part, parts_of}
use Rattle.cal_load.proofs.specifiers.has_strange_part.Given as goal

-- one of the remaining parts is a specifier that systemd doesn't know in `Unit=` if and only if any part is one,
-- because no part so far is
abbrev pub invariant-loop-part : goal.invariant-loop-part
invariant-loop-part l = list_any is_strange_part (parts_of l.rest) ≡ list_any is_strange_part (parts_of l.value)

abbrev pub decreases-loop-part : goal.decreases-loop-part
decreases-loop-part l = length l.rest
