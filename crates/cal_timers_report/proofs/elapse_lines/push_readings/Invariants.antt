use Rattle.std.proofs.Common.{◌≡◌, ◌++◌, map, take, string_bytes}
use Rattle.std.specs.List.{flat_map}
use Rattle.cal_timers_report.specs.rules.SameText.{reading_line}
use Rattle.cal_timers_report.proofs.elapse_lines.push_readings.Given as goal

-- the lines of the expressions that the loop has visited have been appended
abbrev pub invariant-loop-expression : goal.invariant-loop-expression
invariant-loop-expression l =
    string_bytes l.out
    ≡ string_bytes l.fn.out ++ flat_map (reading_line l.side.unit.now) (map (λ expression. expression.now) (take l.expression-index l.expression-items))
